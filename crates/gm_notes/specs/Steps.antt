-- Steps, what each adds to the past, which are refused, and their run.
use Rattle.std.specs.Prelude.{ℕ, zero, suc, Bool, true, false, ◌==◌, if◌then◌else◌, List, [], ◌∷◌, length, Option, Some, None}
use Rattle.gm_packet.specs.Kinds.{kind_of}
use Rattle.gm_admin.specs.Commands.{command_of}
use Rattle.gm_notes.specs.declared.states.Mode.{Mode}
use Rattle.gm_notes.specs.declared.states.Mode.TheVariants.{Running, Graceful, Stopped}
use Rattle.gm_notes.specs.declared.note.Note.{Note}
use Rattle.gm_notes.specs.declared.note.Note.TheVariants.{Opened, Shut}
use Rattle.gm_notes.specs.declared.note.Note.TheVariants as notes
use Rattle.gm_notes.specs.declared.event.Done.{Done}
use Rattle.gm_notes.specs.declared.event.UnitFault.{UnitFault}
use Rattle.gm_notes.specs.declared.event.ApplyError.{ApplyError}
use Rattle.gm_notes.specs.declared.event.ApplyError.TheVariants.{NotOpen, NoSlot, NotOwed, Refusing}
use Rattle.gm_notes.specs.Settings.{Settings}
use Rattle.gm_notes.specs.Notes.{is_open, takes_units, phase, is_owed, mode}
use Rattle.gm_notes.specs.Flow.{Began, Drained}
use Rattle.gm_notes.specs.Jobs.{made}
use Rattle.gm_notes.specs.Texts.{fault_text}
use Rattle.gm_notes.specs.Past.{Past, nothing, with_note, with_flow, with_output}
use Rattle.gm_notes.specs.Requests.{packet_of}
use Rattle.gm_notes.specs.Lines.{command}
use Rattle.gm_notes.specs.Closings.{close, tick}

-- one step: an event, the taking or the withdrawal of a NOOP, or the taking of what waits for a slot
pub data Step : Type 0 where
  Open : List ℕ → Step  -- from this address
  Packet : ℕ → ℕ → List ℕ → Step  -- of this slot, with this type and these data
  Line : ℕ → List ℕ → Step  -- of this slot, without its newline
  Fault : ℕ → UnitFault → Step  -- of this slot
  Close : ℕ → Step  -- of this slot
  Tick : ℕ → Step  -- at this moment
  Took : ℕ → Step  -- the NOOP of this slot
  Withdrew : ℕ → Step  -- the NOOP of this slot
  Drain : ℕ → Step  -- of this slot

-- the least of the n slots from c on that isn't open
abbrev pub free_from : ℕ → ℕ → List Note → Option ℕ
free_from c zero notes = None
free_from c (suc n) notes = if is_open c notes then free_from (suc c) n notes else Some c

-- the slot that an opening gets
abbrev pub free_slot : Settings → Past → Option ℕ
free_slot k past = free_from 0 k.slots past.notes

abbrev pub opening : Option ℕ → List ℕ → Past → Past
opening None addr past = past
opening (Some c) addr past = with_flow (Began c) (with_note (Opened c addr) past)

-- the past after one more step
abbrev pub add : Settings → Step → Past → Past
add k (Open addr) past = opening (free_slot k past) addr past
add k (Packet c kind bytes) past = packet_of k c (kind_of kind) bytes past
add k (Line c bytes) past = command k c (command_of bytes) past
add k (Fault c fault) past = with_note (Shut c) (with_output c (fault_text fault) past)
add k (Close c) past = close k c past
add k (Tick now) past = tick k now past
add k (Took c) past = with_note (notes.Took c) past
add k (Withdrew c) past = with_note (notes.Withdrew c) past
add k (Drain c) past = with_flow (Drained c) past

-- ---- what is refused

abbrev pub if_free : Option ℕ → Option ApplyError
if_free None = Some NoSlot
if_free (Some c) = None

abbrev pub if_accepted : Mode → Option ℕ → Option ApplyError
if_accepted Running free = if_free free
if_accepted Graceful free = Some Refusing
if_accepted Stopped free = Some Refusing

abbrev pub unless_not_open : Bool → Option ApplyError
unless_not_open true = None
unless_not_open false = Some NotOpen

abbrev pub if_owed : ℕ → List Note → Option ApplyError
if_owed c notes = if is_open c notes then (if is_owed (phase c notes) then None else Some NotOwed) else Some NotOpen

abbrev pub refusal : Settings → Step → Past → Option ApplyError
refusal k (Open addr) past = if_accepted (mode past.notes) (free_slot k past)
refusal k (Packet c kind bytes) past = unless_not_open (takes_units c past.notes)
refusal k (Line c bytes) past = unless_not_open (takes_units c past.notes)
refusal k (Fault c fault) past = unless_not_open (takes_units c past.notes)
refusal k (Close c) past = unless_not_open (is_open c past.notes)
refusal k (Tick now) past = None
refusal k (Took c) past = if_owed c past.notes
refusal k (Withdrew c) past = if_owed c past.notes
refusal k (Drain c) past = None

-- ---- the run

-- a refused step adds nothing
abbrev pub unless : Option ApplyError → Past → Past → Past
unless None after before = after
unless (Some refused) after before = before

abbrev pub step : Settings → Step → Past → Past
step k s past = unless (refusal k s past) (add k s past) past

-- the past after these steps, the newest first
abbrev pub run : Settings → List Step → Past
run k [] = nothing
run k (s ∷ older) = step k s (run k older)

-- ---- what a step that is taken answers

-- the slot that was given
abbrev pub given_slot : Settings → Step → Past → Option ℕ
given_slot k (Open addr) past = free_slot k past
given_slot k s past = None

-- the newest job, if there are more than before
abbrev pub newest : List ℕ → Option ℕ
newest [] = None
newest (n ∷ ns) = Some n

abbrev pub made_since : List ℕ → List ℕ → Option ℕ
made_since before after = if length after == length before then None else newest after

abbrev pub done : Settings → Step → Past → Done
done k s past = record { opened = given_slot k s past; created = made_since (made past.notes) (made (add k s past).notes) }
