use Rattle.std.proofs.Common.{rules}
use Rattle.gm_lane_word.proofs.Moves.{enter_moves, touch_moves}
use Rattle.gm_lane_word.proofs.word.LaneWord.touch.Goals as goal

pub load_new_seat-found-requires : goal.load_new_seat-found-requires
load_new_seat-found-requires g c = (search rules, enter_moves _)

pub fetch_max-found-requires : goal.fetch_max-found-requires
fetch_max-found-requires g c = (search rules, search rules, touch_moves _ _ _)
