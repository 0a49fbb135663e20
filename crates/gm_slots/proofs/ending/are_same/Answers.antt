use Rattle.gm_slots.proofs.Limiting.{same_if}
use Rattle.gm_slots.proofs.ending.are_same.Goals as goal

pub returns : goal.returns
returns c = same_if _ _ _ c.eq.ensures
