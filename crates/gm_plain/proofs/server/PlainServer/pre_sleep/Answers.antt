use Rattle.std.proofs.Common.{◌≡◌, true, false, List, sym, ap, ◌∙◌}
use Rattle.std.specs.Prelude.{is_some}
use Rattle.gm_notes.specs.declared.note.Note.{Note}
use Rattle.gm_notes.specs.declared.note.Note.TheVariants.{Slept}
use Rattle.gm_notes.specs.Notes.{phase, is_awake}
use Rattle.gm_notes.specs.Jobs.{pick}
use Rattle.gm_notes.specs.Past.{with_note}
use Rattle.gm_plain.proofs.ServerLemmas.{does_not, goes_then, goes_as, beside_some, beside_none}
use Rattle.gm_plain.proofs.server.PlainServer.pre_sleep.Goals as goal

pub returns-in_err-make_room : goal.returns-in_err-make_room
returns-in_err-make_room c = does_not _ _ c.from_residual-in_err-make_room.ensures c.make_room.ensures.goes

pub returns-then-beside : goal.returns-then-beside
returns-then-beside c =
    goes_as (goes_then (goes_then c.make_room.ensures.goes c.note.ensures.goes) c.note-then-beside.ensures.goes)
    (λ p keeps.
    let awake : is_awake (phase c.args.slot p.notes) ≡ true =
    ap (λ (l : List Note). is_awake (phase c.args.slot l)) (sym keeps.notes_are) ∙ (ap is_awake (sym c.seen.ensures.value.phase) ∙ (sym c.is_awake.ensures ∙ c.if-not-is_awake.false)) in
    let found : is_some (pick c.args.self.now.config c.args.slot p.notes) ≡ true =
    ap is_some (ap (pick c.args.self.now.config c.args.slot) (sym keeps.notes_are) ∙ sym c.in_ok-pick.ensures.value) ∙ sym c.if-beside.ensures in
    rw awake (beside_some c.args.slot (pick c.args.self.now.config c.args.slot p.notes) (with_note (Slept c.args.slot) p) found))

pub returns-else-beside : goal.returns-else-beside
returns-else-beside c =
    goes_as (goes_then c.make_room.ensures.goes c.note.ensures.goes)
    (λ p keeps.
    let awake : is_awake (phase c.args.slot p.notes) ≡ true =
    ap (λ (l : List Note). is_awake (phase c.args.slot l)) (sym keeps.notes_are) ∙ (ap is_awake (sym c.seen.ensures.value.phase) ∙ (sym c.is_awake.ensures ∙ c.if-not-is_awake.false)) in
    let found : is_some (pick c.args.self.now.config c.args.slot p.notes) ≡ false =
    ap is_some (ap (pick c.args.self.now.config c.args.slot) (sym keeps.notes_are) ∙ sym c.in_ok-pick.ensures.value) ∙ sym c.if-beside.ensures in
    rw awake (beside_none c.args.slot (pick c.args.self.now.config c.args.slot p.notes) (with_note (Slept c.args.slot) p) found))
