use Rattle.std.proofs.Common.{rules}
use Rattle.gm_lane_word.proofs.Moves.{enter_moves}
use Rattle.gm_lane_word.proofs.word.LaneWord.take_over_left.Goals as goal

pub load_new_seat-found-requires : goal.load_new_seat-found-requires
load_new_seat-found-requires g c = (search rules, enter_moves _)
