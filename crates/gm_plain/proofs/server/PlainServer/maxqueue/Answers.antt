use Rattle.std.proofs.Common.{◌≡◌, ℕ, List, true, false, refl, sym, ap, ap₂, ◌∙◌}
use Rattle.gm_admin.specs.Answers.{ok_text}
use Rattle.gm_notes.specs.declared.note.Note.TheVariants.{Limit}
use Rattle.gm_notes.specs.Past.{with_output, with_note, with_mention}
use Rattle.gm_notes.specs.Submissions.{is_one_too_many}
use Rattle.gm_notes.specs.Lines.{is_bad_word, maxqueue}
use Rattle.gm_plain.proofs.ServerLemmas.{does_as, does_not, goes_then, goes_as}
use Rattle.gm_plain.proofs.Commands.{limit_told}
use Rattle.gm_plain.proofs.server.PlainServer.maxqueue.Goals as goal

pub returns-then-is_one_too_many : goal.returns-then-is_one_too_many
returns-then-is_one_too_many c =
    does_as c.refuse_line.result (maxqueue c.args.self.now.config c.args.slot c.args.name.now c.args.size) c.refuse_line.ensures
    (λ p keeps.
    let good : is_bad_word c.args.name.now ≡ false = c.requires.named in
    let many : is_one_too_many c.args.self.now.config c.args.name.now p.notes ≡ true =
    ap (is_one_too_many c.args.self.now.config c.args.name.now) (sym keeps.notes_are) ∙ (sym c.is_one_too_many.ensures ∙ c.if-is_one_too_many.true) in
    rw (good, many) refl)

pub returns-in_err-make_room : goal.returns-in_err-make_room
returns-in_err-make_room c = does_not _ _ c.from_residual-in_err-make_room.ensures c.make_room.ensures.goes

pub returns-in_err-say_ok : goal.returns-in_err-say_ok
returns-in_err-say_ok c = does_not _ _ c.from_residual-in_err-say_ok.ensures (goes_then c.make_room.ensures.goes c.in_err-say_ok.ensures.does)

pub returns : goal.returns
returns c =
    goes_as (goes_then (goes_then (goes_then c.make_room.ensures.goes c.in_ok-say_ok.ensures.does) c.mention-2.ensures.goes) c.note.ensures.goes)
    (λ p keeps.
    let good : is_bad_word c.args.name.now ≡ false = c.requires.named in
    let few : is_one_too_many c.args.self.now.config c.args.name.now p.notes ≡ false =
    ap (is_one_too_many c.args.self.now.config c.args.name.now) (sym keeps.notes_are) ∙ (sym c.is_one_too_many.ensures ∙ c.if-is_one_too_many.false) in
    rw (good, few)
    (ap₂ (λ (m f : List ℕ). with_note (Limit f c.args.size) (with_mention m (with_output c.args.slot ok_text p))) c.in_ok-mention.ensures c.in_ok-function.ensures
    ∙ limit_told c.args.slot ok_text c.args.name.now c.args.size p))
