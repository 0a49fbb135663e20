use Rattle.gm_ghost.proofs.Moves.{begins}
use Rattle.gm_ghost.proofs.list.ListTable.new.Goals as goal

pub of_words-requires : goal.of_words-requires
of_words-requires g c = begins g.E.Owned.owner
