use Rattle.std.proofs.Common.{sym, ap}
use Rattle.gm_notes.specs.Workers.{end_if}
use Rattle.gm_plain.proofs.ServerLemmas.{goes_as}
use Rattle.gm_plain.proofs.server.PlainServer.end_if.Goals as goal

pub returns-then-ends : goal.returns-then-ends
returns-then-ends c = goes_as c.note.ensures.goes (λ p keeps. sym (ap (λ t. end_if t c.args.job p) c.if-ends.true))
