use Rattle.std.proofs.Common.{subst}
use Rattle.gm_packet.specs.declared.request.Request.{Request}
use Rattle.gm_packet.specs.Views.{asked_of}
use Rattle.gm_actions.specs.Carried.{HasCome}
use Rattle.gm_actions.proofs.ReadingLemmas.{report_fits}
use Rattle.gm_actions.proofs.reading.read_request.Goals as goal

pub returns-in-WorkStatus-clause-told : goal.returns-in-WorkStatus-clause-told
returns-in-WorkStatus-clause-told c come =
    report_fits c.in-WorkStatus.handle.now c.in-WorkStatus.numerator.now c.in-WorkStatus.denominator.now c.report_on.result
    (subst (λ (r : Request). HasCome (asked_of r)) c.in-WorkStatus.is come) c.report_on.ensures.response c.report_on.ensures.report
