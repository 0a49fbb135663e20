use Rattle.std.proofs.Common.{rules}
use Rattle.gm_lane_word.proofs.Moves.{take_over_moves}
use Rattle.gm_lane_word.proofs.word.LaneWord.take_over.Goals as goal

pub swap_new_seat-found-requires : goal.swap_new_seat-found-requires
swap_new_seat-found-requires g c = (search rules, take_over_moves _)
