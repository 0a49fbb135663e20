use Rattle.gm_actions.proofs.ReadingLemmas.{ends_in_three}
use Rattle.gm_actions.proofs.reading.check_submission.Goals as goal

pub suffix-requires : goal.suffix-requires
suffix-requires c = ends_in_three c.args.function.now c.args.unique.now c.args.body.now c.args.bytes.now.bytes.now c.requires.3
