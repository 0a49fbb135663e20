use Rattle.std.proofs.Common.{ap, sym}
use Rattle.gm_notes.specs.Workers.{keep_report}
use Rattle.gm_plain.proofs.ServerLemmas.{goes_as}
use Rattle.gm_plain.proofs.server.PlainServer.keep_report.Goals as goal

pub returns-in-Some-clause-goes : goal.returns-in-Some-clause-goes
returns-in-Some-clause-goes c =
    goes_as c.note.ensures.goes (λ p keeps. sym (ap (λ r. keep_report c.args.job r p) c.in-Some.is))
