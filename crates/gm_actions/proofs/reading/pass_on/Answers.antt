use Rattle.gm_actions.proofs.ReadingLemmas.{ends_in_two}
use Rattle.gm_actions.proofs.reading.pass_on.Goals as goal

pub suffix-requires : goal.suffix-requires
suffix-requires c = ends_in_two c.args.handle.now c.args.body.now c.args.bytes.now.bytes.now c.requires.spelled.3
