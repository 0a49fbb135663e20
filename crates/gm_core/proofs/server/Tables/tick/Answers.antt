use Rattle.std.proofs.Common.{◌≡◌, ℕ, Option, None, refl, sym, ap, ◌∙◌}
use Rattle.std.specs.Prelude.{max}
use Rattle.gm_notes.specs.declared.note.Note.TheVariants.{Now}
use Rattle.gm_notes.specs.Settings.{Settings}
use Rattle.gm_notes.specs.Notes.{moment}
use Rattle.gm_notes.specs.Jobs.{made}
use Rattle.gm_notes.specs.Past.{with_note}
use Rattle.gm_notes.specs.Closings.{expire_each, rising, tick}
use Rattle.gm_notes.specs.Steps.{Tick, made_since, run}
use Rattle.gm_core.specs.Holds.{Goes}
use Rattle.gm_core.proofs.CoreLemmas.{goes_then, kept_then}
use Rattle.gm_actions.proofs.Changing.{agrees_next}
use Rattle.gm_actions.proofs.JobsMade.{none_made}
use Rattle.gm_core.proofs.TickLemmas.{goes_now}
use Rattle.gm_actions.proofs.JobsMade.{tick_made}
use Rattle.gm_core.proofs.server.Tables.tick.Goals as goal
use Rattle.gm_core.proofs.server.Tables.tick.Goals.{In_ok-lates}

-- once it is the moment of the tick
readied : (c : In_ok-lates) → Goes c.args.self.now (record c.prepare_due.new.self { moment = c.max-moment.result }) (λ past. with_note (Now (max c.args.now (moment past.notes))) past)
readied c =
    let ready = c.prepare_due.new.self in
    goes_then c.in_ok-lates.ensures.goes (goes_now ready c.args.now c.max-moment.result (c.max-moment.ensures ∙ ap (max c.args.now) (sym c.in_ok-lates.ensures.moment)))

pub expire_each-requires-clause-kept : goal.expire_each-requires-clause-kept
expire_each-requires-clause-kept c = kept_then (readied (goal.at.expire_each-requires-clause-kept c).In_ok-lates) c.requires

pub returns-clause-answers : goal.returns-clause-answers
returns-clause-answers c k steps agrees =
    let past = run k steps in
    let now = c.args.now in
    let none : made_since (made past.notes) (made (tick k now past).notes) ≡ None =
    ap (made_since (made past.notes)) (tick_made k now past) ∙ none_made (made past.notes) in (
      (refl, ap (λ (o : Option ℕ). record { opened = None; created = o }) (sym none)),
      agrees_next k steps (Tick now) _ agrees (goes_then (readied (goal.at.returns-clause-answers c).In_ok-lates) c.expire_each.ensures) refl
          (ap (λ (x : Settings). expire_each x (rising past) (with_note (Now (max now (moment past.notes))) past)) (c.in_ok-lates.ensures.config ∙ agrees.settings)),
    )
