use Rattle.std.proofs.Common.{refl}
use Rattle.gm_lane_word.specs.Steps.{opens}
use Rattle.gm_lane_word.proofs.word.LaneWord.new.Goals as goal

pub of_words-requires : goal.of_words-requires
of_words-requires g c = record { word = 0; one = refl; reached = opens }
