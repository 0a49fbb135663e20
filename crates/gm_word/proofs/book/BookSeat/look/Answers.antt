use Rattle.std.proofs.Common.{rules, ◌∙◌}
use Rattle.gm_word.specs.Lines.{look}
use Rattle.gm_word.proofs.Moves.{book_moves}
use Rattle.gm_word.proofs.Sitting.{sits_after, sits_looked, sees_look, awake_after_look, phase_beside}
use Rattle.gm_word.proofs.book.BookSeat.look.Goals as goal

pub load-found-requires : goal.load-found-requires
load-found-requires c =
    let sits = c.self.invariant in
    (search rules, search rules, book_moves look _ c.args.slot _ sits.page _ sits.first sits.knows (search rules) (phase_beside _ _ c.args.slot _ sits.phases_are (search rules) c.index.ensures ∙ c.in-Owed.is))

pub invariant_of-self : goal.invariant_of-self
invariant_of-self c =
    let step = c.load-found.ensures in
    sits_looked c.args.slot c.load-found.result _ _ _ c.self.invariant (search rules) step.0 step.1 step.2 c.if-found-eq-OWED.true

pub returns-then-found-eq-OWED : goal.returns-then-found-eq-OWED
returns-then-found-eq-OWED c =
    let step = c.load-found.ensures in
    let sits = c.self.invariant in
    sees_look c.args.slot c.load-found.result c.self.inside.seat c.load-found.new.seat _ c.args.self.now sits c.self.view_is (phase_beside _ _ c.args.slot _ sits.phases_are (search rules) c.index.ensures ∙ c.in-Owed.is) step.0 step.2
    c.if-found-eq-OWED.true

pub invariant_of-self-2 : goal.invariant_of-self-2
invariant_of-self-2 c =
    let step = c.load-found.ensures in
    let found = c.load-found.result in
    sits_after look c.args.slot found _ _ _ _ c.self.invariant step.0 step.1 step.2 (λ line. awake_after_look found line c.if-found-eq-OWED.false)
