-- What a slot's pen was given.
use Rattle.std.proofs.Common.{◌≡◌, ℕ, Bool, true, false, if◌then◌else◌, List, [], ◌∷◌, ◌++◌}
use Rattle.std.proofs.Common.{Option, Some, None, refl, sym, ap, ◌∙◌, arith}
use Rattle.std.specs.Prelude.{◌==◌, reverse}
use Rattle.std.proofs.lemmas.Bool.Decides.{nat_tests}
use Rattle.gm_notes.specs.Settings.{Settings}
use Rattle.gm_notes.specs.Past.{Past}
use Rattle.gm_notes.specs.Notes.{is_open}
use Rattle.gm_notes.specs.Flow.{Flow, waiting}
use Rattle.gm_notes.specs.Steps.{Step, Open, Packet, Line, Fault, Close, Tick, Took, Withdrew, Drain, refusal, unless, add, opening, free_slot, run}
use Rattle.gm_history.specs.Laws.{drained, SentSo}
use Rattle.gm_history.proofs.Bytes.{run_sent}
use Rattle.gm_history.proofs.StepsKeep.{add_keeps, run_history}
use Rattle.gm_shared.specs.declared.tape.TapeStep.{TapeStep}
use Rattle.gm_shared.specs.declared.tape.TapeStep.TheVariants as tape
use Rattle.gm_shared.specs.declared.tape.Entry.{Entry}
use Rattle.gm_shared.specs.Tapes.{steps_of, step_in, answer_to, Legal}
use Rattle.gm_shared.specs.Calls.{events_of}
use Rattle.gm_shared.proofs.Sharing.{events_of_more}
use Rattle.gm_front.specs.Units.{steps_of as steps_of_units}
use Rattle.gm_feeder.specs.declared.units.Limits.{Limits}
use Rattle.gm_notes.specs.declared.event.UnitFault.{UnitFault}
use Rattle.gm_session.specs.Sessions.{HandsIn}
use Rattle.gm_slots.specs.Given.{if_opened, given_by, given, GivenSo}

-- ---- bytes

-- what is drained of a slot changes only with a drain and an opening
module _ (k : Settings) (c : ℕ) (past : Past) where
  opened : (o : Option ℕ) (addr : List ℕ) → if_opened c o (drained c past.flow) ≡ drained c (opening o addr past).flow
  opened None addr = refl
  opened (Some d) addr = refl

-- what the tape gives is what was drained
pub given_is_drained : (k : Settings) (c : ℕ) (entries : List Entry) → Legal k entries → given c entries ≡ drained c (run k (steps_of entries)).flow
given_is_drained k c [] legal = refl
given_is_drained k c (e ∷ older) legal =
    ap (given_by c e.step e.answer) (given_is_drained k c older legal.2)
    ∙ (ap (λ answer. given_by c e.step answer (drained c before.flow)) legal.1 ∙ (by e.step legal.0 ∙ ap (λ o. drained c (unless o (add k (step_in e.step) before) before).flow) (sym legal.0)))
  where
    before : Past
    before = run k (steps_of older)

    -- a step that neither opens nor drains
    still : (s : Step) → ((addr : List ℕ) → s ≡ Open addr → ⊥) → ((d : ℕ) → s ≡ Drain d → ⊥) → refusal k s before ≡ None → drained c before.flow ≡ drained c (add k s before).flow
    still s no_opening no_drain taken =
        (add_keeps {k = k} {I = λ past. drained c before.flow ≡ drained c past.flow} before s
        (record {
          by_note = λ note past inner allowed cause h i. i;
          by_opening = λ d addr past allowed cause h i. absurd (no_opening addr cause);
          by_closing = λ d past opened cause h i. i;
          by_saying = λ d bytes past opened may h i. i;
        })
        (λ d is h i. absurd (no_drain d is)) taken (run_history k (steps_of older), refl)).1

    drains : (d : ℕ) (t : Bool) → (c == d) ≡ t → (if t then drained c before.flow ++ waiting d before.flow else drained c before.flow) ≡ (if t then drained c before.flow ++ waiting c before.flow else drained c before.flow)
    drains d true is = let same : d ≡ c = grind (arith, nat_tests) in ap (λ x. drained c before.flow ++ waiting x before.flow) same
    drains d false is = refl

    by : (s : TapeStep) → refusal k (step_in s) before ≡ None → given_by c s (answer_to k (step_in s) before) (drained c before.flow) ≡ drained c (add k (step_in s) before).flow
    by (tape.Open addr) taken = opened k c before (free_slot k before) addr
    by (tape.Packet d kind bytes) taken = still (Packet d kind bytes) (λ addr is. absurd cc) (λ e is. absurd cc) taken
    by (tape.Line d bytes) taken = still (Line d bytes) (λ addr is. absurd cc) (λ e is. absurd cc) taken
    by (tape.Fault d fault) taken = still (Fault d fault) (λ addr is. absurd cc) (λ e is. absurd cc) taken
    by (tape.Close d) taken = still (Close d) (λ addr is. absurd cc) (λ e is. absurd cc) taken
    by (tape.Tick now) taken = still (Tick now) (λ addr is. absurd cc) (λ e is. absurd cc) taken
    by (tape.Took d) taken = still (Took d) (λ addr is. absurd cc) (λ e is. absurd cc) taken
    by (tape.Withdrew d) taken = still (Withdrew d) (λ addr is. absurd cc) (λ e is. absurd cc) taken
    by (tape.Drain d) taken = drains d (c == d) refl

given_so : (t : Bool) (gave : List ℕ) (c : ℕ) (flow : List Flow) → gave ≡ drained c flow → SentSo t c flow → GivenSo t gave c flow
given_so true gave c flow is sent = sent ∙ ap (λ bytes. bytes ++ waiting c flow) (sym is)
given_so false gave c flow is sent = (sent.0, (sent.1.0, sent.1.1 ∙ ap (λ bytes. bytes ++ sent.1.0) (sym is)))

pub all_given : (k : Settings) (log : List Entry) → Legal k log → (c : ℕ) → GivenSo (is_open c (run k (steps_of log)).notes) (given c log) c (run k (steps_of log)).flow
all_given k log legal c =
    given_so (is_open c (run k (steps_of log)).notes) (given c log) c (run k (steps_of log)).flow (given_is_drained k c log legal) (run_sent k (steps_of log) c)
