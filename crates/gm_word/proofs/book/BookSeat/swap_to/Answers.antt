use Rattle.std.proofs.Common.{rules}
use Rattle.gm_word.proofs.Moves.{swap_moves}
use Rattle.gm_word.proofs.Sitting.{sits_after, sees_swap, phase_after_swap}
use Rattle.gm_word.proofs.book.BookSeat.swap_to.Goals as goal

pub swap-requires : goal.swap-requires
swap-requires c =
    let sits = c.self.invariant in
    (search rules, search rules, swap_moves c.args.phase _ _ c.args.slot _ sits.page _ c.word_of.ensures sits.first sits.knows (search rules) (search rules))

pub invariant_of-self : goal.invariant_of-self
invariant_of-self c =
    let step = c.swap.ensures in
    sits_after _ c.args.slot c.swap.result _ _ _ _ c.self.invariant step.0 step.1 (step.2 c.args.phase c.word_of.ensures) (phase_after_swap c.args.phase c.swap.result)

pub returns : goal.returns
returns c =
    let step = c.swap.ensures in
    sees_swap c.args.phase c.args.slot c.swap.result c.self.inside.seat c.swap.new.seat _ c.args.self.now c.self.invariant c.self.view_is step.0 (step.2 c.args.phase c.word_of.ensures)
