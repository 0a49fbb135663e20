use Rattle.std.proofs.Common.{◌≡◌, ℕ, List, [], get_or, Option, None, refl, sym, ap, ap₂, ◌∙◌}
use Rattle.std.specs.Prelude.{max}
use Rattle.gm_notes.specs.declared.note.Note.TheVariants.{Now}
use Rattle.gm_notes.specs.Settings.{Settings}
use Rattle.gm_notes.specs.Notes.{moment}
use Rattle.gm_notes.specs.Jobs.{made}
use Rattle.gm_notes.specs.Past.{with_note}
use Rattle.gm_notes.specs.Closings.{expire_each, rising, tick}
use Rattle.gm_notes.specs.Steps.{Tick, made_since}
use Rattle.gm_notes.specs.Steps.{run}
use Rattle.gm_actions.proofs.Changing.{agrees_next, agrees_refused}
use Rattle.gm_plain.proofs.ServerLemmas.{goes_then}
use Rattle.gm_actions.proofs.JobsMade.{none_made}
use Rattle.gm_actions.proofs.JobsMade.{tick_made}
use Rattle.gm_plain.specs.Logs.{oldest}
use Rattle.gm_plain.specs.Holds.{Grew}
use Rattle.gm_plain.proofs.TakingBack.{grows_then, grows_same, grows_by, oldest_are}
use Rattle.gm_plain.proofs.server.PlainServer.tick.Goals as goal

pub returns-in_err-make_room : goal.returns-in_err-make_room
returns-in_err-make_room c k steps agrees =
    agrees_refused k steps (Tick c.args.now) c.from_residual-in_err-make_room.result c.from_residual-in_err-make_room.ensures refl agrees c.make_room.ensures.goes

pub returns-in-Ok : goal.returns-in-Ok
returns-in-Ok c k steps agrees =
    let past = run k steps in
    let none : made_since (made past.notes) (made (tick k c.args.now past).notes) ≡ None =
    ap (made_since (made past.notes)) (tick_made k c.args.now past) ∙ none_made (made past.notes) in (
      (refl, ap (λ (o : Option ℕ). record { opened = None; created = o }) (sym none)),
      agrees_next k steps (Tick c.args.now) _ agrees (goes_then (goes_then c.make_room.ensures.goes c.note.ensures.goes) c.in-Ok.ensures.goes) refl
          (ap₂ (λ (x : Settings) (m : ℕ). expire_each x (rising past) (with_note (Now m) past)) (c.note.ensures.goes.config ∙ (c.make_room.ensures.goes.config ∙ agrees.settings))
          (c.max-moment.ensures ∙ ap (max c.args.now) (c.moment.ensures ∙ ap moment (c.make_room.ensures.notes ∙ agrees.past.notes_are)))),
    )

pub returns-in-Err : goal.returns-in-Err
returns-in-Err c k steps agrees =
    let before = c.args.self.now in
    let roomy : Grew before c.make_room.new.self = grows_same c.make_room.ensures.goes.config c.make_room.ensures.notes in
    let noted : Grew c.make_room.new.self c.note.new.self = grows_by (Now c.max-moment.result) c.note.ensures.goes.config c.note.ensures.notes in
    let all : Grew before c.expire_each.new.self = grows_then roomy (grows_then noted c.in-Err.ensures.grew) in
    let notes = c.truncate.ensures.notes ∙ (ap₂ oldest c.len-notes.ensures.value all.notes.1 ∙ oldest_are all.notes.0 before.log.notes) in (
      refl,
      record {
        settings = all.config ∙ agrees.settings;
        past = record { notes_are = notes ∙ agrees.past.notes_are; waiting_are = λ d. ap (λ (l : List (List ℕ)). get_or l d []) c.in_ok-outboxes.ensures ∙ agrees.past.waiting_are d };
      },
    )
