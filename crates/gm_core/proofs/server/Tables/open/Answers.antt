use Rattle.std.proofs.Common.{◌≡◌, ℕ, true, Option, None, Err, refl, sym, ap, ◌∙◌}
use Rattle.gm_notes.specs.declared.note.Note.TheVariants.{Opened}
use Rattle.gm_notes.specs.Flow.{Began}
use Rattle.gm_notes.specs.Notes.{mode, accepts_connections}
use Rattle.gm_notes.specs.Jobs.{made}
use Rattle.gm_notes.specs.Past.{with_note, with_flow}
use Rattle.gm_notes.specs.Steps.{Open, free_slot, if_free, if_accepted, made_since, opening, run}
use Rattle.gm_core.proofs.CoreLemmas.{goes_nothing}
use Rattle.gm_actions.proofs.Changing.{agrees_next, agrees_kept}
use Rattle.gm_actions.proofs.JobsMade.{none_made}
use Rattle.gm_core.proofs.OpenLemmas.{welcomed, slot_found, no_slot, refused, is_err, goes_opened}
use Rattle.gm_core.proofs.server.Tables.open.Goals as goal

pub returns-in_err-slot-clause-answers : goal.returns-in_err-slot-clause-answers
returns-in_err-slot-clause-answers c k steps agrees =
    let past = run k steps in
    let e = c.in_err-slot.field-0.0 in
    let goes : accepts_connections (mode past.notes) ≡ true = ap accepts_connections (sym agrees.past.mode) ∙ (sym c.accepts_connections.ensures ∙ c.if-not-accepts_connections.false) in
    refused k steps (Open c.args.addr.now) e c.from_residual.result c.from_residual.ensures
    (no_slot c.args.self.now k past agrees.settings agrees.past e c.in_err-slot.ensures.refusal (λ is. c.in_err-slot.ensures.full.0 (ap Err is)) (λ full. is_err (c.in_err-slot.ensures.full.1 full)) goes)
    (agrees_kept k steps agrees (goes_nothing refl c.in_err-slot.ensures.err refl refl refl refl))

pub returns-clause-answers : goal.returns-clause-answers
returns-clause-answers c k steps agrees =
    let past = run k steps in
    let slot = c.in_ok-slot.slot in
    let addr = c.args.addr.now in
    let goes : accepts_connections (mode past.notes) ≡ true = ap accepts_connections (sym agrees.past.mode) ∙ (sym c.accepts_connections.ensures ∙ c.if-not-accepts_connections.false) in
    let found = slot_found c.args.self.now k past agrees.settings agrees.past slot c.in_ok-slot.ensures.slot in
    let taken : if_accepted (mode past.notes) (free_slot k past) ≡ None = welcomed (mode past.notes) (free_slot k past) goes ∙ ap if_free found in
    let none : made_since (made past.notes) (made (opening (free_slot k past) addr past).notes) ≡ None =
    ap (λ f. made_since (made past.notes) (made (opening f addr past).notes)) found ∙ none_made (made past.notes) in (
      (taken, ap (λ (f : Option ℕ). record { opened = f; created = None }) (sym found) ∙ ap (λ (n : Option ℕ). record { opened = free_slot k past; created = n }) (sym none)),
      agrees_next k steps (Open addr) (λ p. with_flow (Began slot) (with_note (Opened slot addr) p)) agrees
          (goes_opened slot addr (record { config = refl; functions = refl; jobs = refl; moment = refl; mode = refl }) c.in_ok-slot.ensures.opened) taken
          (ap (λ f. opening f addr past) (sym found)),
    )
