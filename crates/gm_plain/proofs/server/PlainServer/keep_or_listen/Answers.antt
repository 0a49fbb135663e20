use Rattle.std.proofs.Common.{refl}
use Rattle.gm_plain.proofs.ServerLemmas.{goes_as}
use Rattle.gm_plain.proofs.server.PlainServer.keep_or_listen.Goals as goal

pub returns-then-asked : goal.returns-then-asked
returns-then-asked c =
    goes_as c.note.ensures.goes (λ p keeps. rw c.if-asked.true refl)

pub returns-else-asked : goal.returns-else-asked
returns-else-asked c =
    goes_as c.note-else-asked.ensures.goes (λ p keeps. rw c.if-asked.false refl)
