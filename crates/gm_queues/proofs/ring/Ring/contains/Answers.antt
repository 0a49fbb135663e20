use Rattle.std.proofs.Common.{IsTrue, is_some, ◌↔◌, Contains, sym, subst}
use Rattle.gm_queues.specs.Queues.{Queue}
use Rattle.gm_queues.proofs.QueueLemmas.{searched}
use Rattle.gm_queues.proofs.ring.Ring.contains.Goals as goal

pub returns : goal.returns
returns c =
    subst (λ b. IsTrue b ↔ Contains c.args.self.now.jobs c.args.job) (sym c.is_some.ensures)
    (subst (λ (q : Queue). IsTrue (is_some c.index_of.result) ↔ Contains q.jobs c.args.job) c.self.view_is
    (searched c.self.inside.entries.items c.args.job c.index_of.result c.index_of.ensures.found c.index_of.ensures.missing))
