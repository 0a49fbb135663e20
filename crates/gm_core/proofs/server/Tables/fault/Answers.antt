use Rattle.std.proofs.Common.{◌≡◌, ◌++◌, ℕ, List, Option, None, refl, sym, ap, ◌∙◌}
use Rattle.gm_notes.specs.declared.note.Note.TheVariants.{Shut}
use Rattle.gm_notes.specs.Jobs.{made}
use Rattle.gm_notes.specs.Past.{with_note, with_output}
use Rattle.gm_notes.specs.Steps.{Fault, refusal, run, unless_not_open}
use Rattle.gm_notes.specs.Texts.{fault_text}
use Rattle.gm_core.proofs.CoreLemmas.{goes_then, goes_shut}
use Rattle.gm_actions.proofs.Changing.{agrees_next}
use Rattle.gm_actions.proofs.JobsMade.{none_made}
use Rattle.gm_core.proofs.server.Tables.fault.Goals as goal

pub returns-clause-answers : goal.returns-clause-answers
returns-clause-answers c k steps agrees =
    let slot = c.args.slot in
    let text = fault_text c.args.fault in
    let taken : refusal k (Fault slot c.args.fault) (run k steps) ≡ None =
    ap unless_not_open (sym (c.can_take_units.ensures.value (run k steps) agrees.past) ∙ c.if-not-can_take_units.false) in (
      (taken, ap (λ (o : Option ℕ). record { opened = None; created = o }) (sym (none_made (made (run k steps).notes)))),
      agrees_next k steps (Fault slot c.args.fault) (λ past. with_note (Shut slot) (with_output slot c.append_fault.new.out.items past)) agrees
          (goes_then c.in_ok-say.ensures.does
          (goes_shut slot (record { config = refl; functions = refl; jobs = refl; moment = refl; mode = refl }) c.shut_down.ensures)) taken
          (ap (λ bytes. with_note (Shut slot) (with_output slot bytes (run k steps))) (c.in_ok-append_fault.ensures.ok ∙ ap (λ (l : List ℕ). l ++ text) c.new-text.ensures.items)),
    )
