use Rattle.gm_slots.proofs.Owning.{said_own, drain_own}
use Rattle.gm_promise.proofs.laws.no_slot_speaks_for_another.Goals as goal

pub returns : goal.returns
returns c = λ log own slot. (said_own slot log own, λ i none lt. λ is. drain_own slot _ _ (own i none lt) is)
