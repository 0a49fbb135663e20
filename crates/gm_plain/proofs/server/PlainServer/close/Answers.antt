use Rattle.std.proofs.Common.{◌≡◌, ◌<◌, ℕ, true, Option, None, sym, ap, subst, ◌∙◌, arith}
use Rattle.gm_notes.specs.Settings.{Settings}
use Rattle.gm_notes.specs.Notes.{is_open}
use Rattle.gm_notes.specs.Jobs.{made}
use Rattle.gm_notes.specs.Closings.{give_back_each, discard_each, rising, disconnect, close}
use Rattle.gm_notes.specs.Steps.{Close, refusal, unless_not_open, made_since, run}
use Rattle.gm_actions.proofs.Changing.{agrees_next}
use Rattle.gm_plain.proofs.ServerLemmas.{goes_then}
use Rattle.gm_actions.proofs.JobsMade.{none_made}
use Rattle.gm_actions.proofs.JobsMade.{close_is, close_made}
use Rattle.gm_plain.proofs.server.PlainServer.close.Goals as goal

pub empty-requires : goal.empty-requires
empty-requires c =
    let below : c.args.slot < c.args.self.now.config.slots = omega (arith, c.is_open.ensures.below c.if-not-is_open.false, c.args.self.now.slots) in
    subst (λ (k : Settings). c.args.slot < k.slots) (sym (c.note.ensures.goes.config ∙ c.wake_itself.ensures.goes.config)) below

pub returns-clause-answers : goal.returns-clause-answers
returns-clause-answers c k steps agrees =
    let past = run k steps in
    let opened : is_open c.args.slot past.notes ≡ true = ap (is_open c.args.slot) (sym agrees.past.notes_are) ∙ (sym c.is_open.ensures.value ∙ c.if-not-is_open.false) in
    let taken : refusal k (Close c.args.slot) past ≡ None = ap unless_not_open opened in
    let none : made_since (made past.notes) (made (close k c.args.slot past).notes) ≡ None = ap (made_since (made past.notes)) (close_made k c.args.slot past) ∙ none_made (made past.notes) in
    let left = goes_then (goes_then c.wake_itself.ensures.goes c.note.ensures.goes) c.empty.ensures.emptied in
    let config = c.discard_each.ensures.config ∙ (left.config ∙ agrees.settings) in (
      (taken, ap (λ (n : Option ℕ). record { opened = None; created = n }) (sym none)),
      agrees_next k steps (Close c.args.slot) _ agrees (goes_then (goes_then left c.discard_each.ensures) c.give_back_each.ensures) taken
          (ap (λ (x : Settings). give_back_each x c.args.slot (rising (discard_each (rising (disconnect c.args.slot past)) (disconnect c.args.slot past))) (discard_each (rising (disconnect c.args.slot past)) (disconnect c.args.slot past))) config
          ∙ close_is k c.args.slot past),
    )
