use Rattle.gm_shared.proofs.Standing.{seen_is_older}
use Rattle.gm_shared.proofs.laws.what_was_seen_is_older.Goals as goal

pub returns : goal.returns
returns c = seen_is_older
