use Rattle.gm_shared.proofs.Sharing.{called_hands}
use Rattle.gm_shared.proofs.shared.Desk.apply_with.Goals as goal

pub returns-clause-hands : goal.returns-clause-hands
returns-clause-hands g c = called_hands _ _ c.args.read.now.event _ _ _ _ _ c.apply-result.ensures.called
