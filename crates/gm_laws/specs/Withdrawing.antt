-- Which events withdraw a NOOP.
use Rattle.std.specs.Prelude.{◌≡◌, ◌⊎◌, true, false, Ok}
use Rattle.gm_packet.specs.declared.kind.Kind.TheVariants.{GrabJob, GrabJobUniq}
use Rattle.gm_packet.specs.Requests.{Asked, request_of}
use Rattle.gm_notes.specs.Past.{Past}
use Rattle.gm_notes.specs.Steps.{Step, Packet, Close}
use Rattle.gm_notes.specs.Servers.{is_closing}
use Rattle.gm_notes.specs.Withdrawals.{withdraws_noop}

-- a slot needs its NOOP no more: it asks for a job and isn't shut, or it closes
abbrev pub NeedsNoNoop : Step → Past → Type 0
NeedsNoNoop (Packet c number bytes) past =
    ((asked : Asked) × (request_of number bytes ≡ Ok asked) × ((asked.kind ≡ GrabJob) ⊎ (asked.kind ≡ GrabJobUniq))) × (is_closing c past ≡ false)
NeedsNoNoop (Close c) past = Unit {0}
NeedsNoNoop other past = ⊥

-- the NOOP of a slot is withdrawn exactly then
abbrev pub WithdrawnForAReason : Type 0
WithdrawnForAReason = (s : Step) (past : Past) → (withdraws_noop s past ≡ true → NeedsNoNoop s past) × (NeedsNoNoop s past → withdraws_noop s past ≡ true)
