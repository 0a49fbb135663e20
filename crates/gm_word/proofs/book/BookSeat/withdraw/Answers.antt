use Rattle.std.proofs.Common.{rules}
use Rattle.gm_word.specs.Lines.{withdraw}
use Rattle.gm_word.proofs.Moves.{book_moves}
use Rattle.gm_word.proofs.Sitting.{sits_after, awake_after_withdrawal}
use Rattle.gm_word.proofs.book.BookSeat.withdraw.Goals as goal

pub compare_exchange-found-requires : goal.compare_exchange-found-requires
compare_exchange-found-requires c =
    let sits = c.self.invariant in
    (search rules, search rules, book_moves withdraw _ c.args.slot _ sits.page _ sits.first sits.knows (search rules) (search rules))

pub invariant_of-self : goal.invariant_of-self
invariant_of-self c =
    let step = c.compare_exchange-found.ensures in
    let found = c.compare_exchange-found.result in
    sits_after withdraw c.args.slot found _ _ _ _ c.self.invariant step.0 step.1 step.2 (awake_after_withdrawal found)
