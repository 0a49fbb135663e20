use Rattle.std.proofs.Common.{◌≡◌, ◌<◌, subst, List, ℕ, true, false, sym, ap, ap₂, ◌∙◌}
use Rattle.std.specs.Prelude.{not, ◌&&◌}
use Rattle.gm_notes.specs.declared.note.Note.{Note}
use Rattle.gm_notes.specs.declared.note.Note.TheVariants.{Can, Woken}
use Rattle.std.proofs.lemmas.Bool.{and_parts}
use Rattle.gm_notes.specs.Settings.{Settings}
use Rattle.gm_notes.specs.Notes.{phase, is_asleep}
use Rattle.gm_notes.specs.Jobs.{waiting_for, is_empty}
use Rattle.gm_notes.specs.Past.{with_note, with_mention}
use Rattle.gm_notes.specs.Workers.{wake_if}
use Rattle.gm_plain.proofs.ServerLemmas.{does_not, goes_then, goes_as}
use Rattle.gm_plain.proofs.server.PlainServer.add_ability.Goals as goal

pub returns-in_err-make_room : goal.returns-in_err-make_room
returns-in_err-make_room c = does_not _ _ c.from_residual-in_err-make_room.ensures c.make_room.ensures.goes

pub returns-then-wakes : goal.returns-then-wakes
returns-then-wakes c =
    goes_as (goes_then (goes_then (goes_then c.make_room.ensures.goes c.mention-2.ensures.goes) c.note.ensures.goes) c.note-then-wakes.ensures.goes)
    (λ p keeps.
    let wakes : (is_asleep (phase c.args.slot p.notes) && not (is_empty (waiting_for c.args.function.now p.notes))) ≡ true =
    ap (λ (l : List Note). is_asleep (phase c.args.slot l) && not (is_empty (waiting_for c.args.function.now l))) (sym keeps.notes_are) ∙ (sym c.in_ok-wakes.ensures ∙ c.if-wakes.true) in
    ap₂ (λ (f g : List ℕ). with_note (Woken c.args.slot) (with_note (Can c.args.slot g c.args.timeout) (with_mention f p))) c.in_ok-mention.ensures c.in_ok-function.ensures
    ∙ sym (ap (λ t. wake_if t c.args.slot (with_note (Can c.args.slot c.args.function.now c.args.timeout) (with_mention c.args.function.now p))) wakes))

pub returns-else-wakes : goal.returns-else-wakes
returns-else-wakes c =
    goes_as (goes_then (goes_then c.make_room.ensures.goes c.mention-2.ensures.goes) c.note.ensures.goes)
    (λ p keeps.
    let wakes : (is_asleep (phase c.args.slot p.notes) && not (is_empty (waiting_for c.args.function.now p.notes))) ≡ false =
    ap (λ (l : List Note). is_asleep (phase c.args.slot l) && not (is_empty (waiting_for c.args.function.now l))) (sym keeps.notes_are) ∙ (sym c.in_ok-wakes.ensures ∙ c.if-wakes.false) in
    ap₂ (λ (f g : List ℕ). with_note (Can c.args.slot g c.args.timeout) (with_mention f p)) c.in_ok-mention.ensures c.in_ok-function.ensures
    ∙ sym (ap (λ t. wake_if t c.args.slot (with_note (Can c.args.slot c.args.function.now c.args.timeout) (with_mention c.args.function.now p))) wakes))

pub note-requires-then-wakes-clause-may_come : goal.note-requires-then-wakes-clause-may_come
note-requires-then-wakes-clause-may_come c =
    let config = c.note.ensures.goes.config ∙ (c.mention-2.ensures.goes.config ∙ c.make_room.ensures.goes.config) in
    let sleeps = (and_parts (is_asleep (phase c.args.slot c.args.self.now.log.notes)) _ (sym c.in_ok-wakes.ensures ∙ c.if-wakes.true)).0 in (
      subst (λ (k : Settings). c.args.slot < k.slots) (sym config) c.requires,
      ap (λ (l : List Note). is_asleep (phase c.args.slot l)) c.note.ensures.notes
          ∙ (ap is_asleep (c.mention-2.ensures.phases c.args.slot ∙ ap (phase c.args.slot) c.make_room.ensures.notes) ∙ sleeps),
    )
