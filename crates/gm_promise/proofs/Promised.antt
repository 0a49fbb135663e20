-- What the history of a server says.
use Rattle.std.proofs.Common.{◌≡◌, ℕ, Bool, true, false, if◌then◌else◌, List, [], ◌∷◌, ◌++◌}
use Rattle.std.proofs.Common.{Option, Some, None, refl, sym, ap, ◌∙◌, arith}
use Rattle.std.specs.Prelude.{◌==◌, reverse}
use Rattle.std.proofs.lemmas.Bool.Decides.{nat_tests}
use Rattle.gm_notes.specs.Settings.{Settings}
use Rattle.gm_notes.specs.Past.{Past}
use Rattle.gm_notes.specs.Notes.{is_open}
use Rattle.gm_notes.specs.Flow.{Flow, waiting}
use Rattle.gm_notes.specs.Steps.{Step, Open, Packet, Line, Fault, Close, Tick, Took, Withdrew, Drain, refusal, unless, add, opening, free_slot, run}
use Rattle.gm_history.specs.Laws.{drained, SentSo}
use Rattle.gm_history.proofs.Bytes.{run_sent}
use Rattle.gm_history.proofs.StepsKeep.{add_keeps, run_history}
use Rattle.gm_shared.specs.declared.tape.TapeStep.{TapeStep}
use Rattle.gm_shared.specs.declared.tape.TapeStep.TheVariants as tape
use Rattle.gm_shared.specs.declared.tape.Entry.{Entry}
use Rattle.gm_shared.specs.Tapes.{steps_of, step_in, answer_to, Legal}
use Rattle.gm_shared.specs.Calls.{events_of}
use Rattle.gm_shared.proofs.Sharing.{events_of_more}
use Rattle.gm_front.specs.Units.{steps_of as steps_of_units}
use Rattle.gm_feeder.specs.declared.units.Limits.{Limits}
use Rattle.gm_notes.specs.declared.event.UnitFault.{UnitFault}
use Rattle.gm_session.specs.Sessions.{HandsIn}

-- ---- sessions

-- the events that a session handed in, among those of its desk
pub in_order : (k : Settings) (desk c : ℕ) (limits : Limits) (bytes rest : List ℕ) (fault : Option UnitFault) (seen after newer : List Entry) (h : HandsIn k desk c limits bytes rest fault seen after)
    → events_of desk (newer ++ after) ≡ events_of desk newer ++ (reverse (steps_of_units k c h.items fault) ++ events_of desk seen)
in_order k desk c limits bytes rest fault seen after newer h =
    events_of_more desk newer after
    ∙ ap (λ l. events_of desk newer ++ l) (ap (events_of desk) h.adds.goes_on ∙ (events_of_more desk h.adds.newer seen ∙ ap (λ l. l ++ events_of desk seen) h.adds.events_are))

-- ---- moments

-- the steps of a later part, and of an older one
pub steps_then : (later older : List Entry) → steps_of (later ++ older) ≡ steps_of later ++ steps_of older
steps_then [] older = refl
steps_then (e ∷ later) older = ap (λ steps. step_in e.step ∷ steps) (steps_then later older)
