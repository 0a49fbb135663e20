use Rattle.std.proofs.Common.{subst}
use Rattle.gm_shared.specs.Shared.{GuardedState, IsGuarded}
use Rattle.gm_shared.proofs.guarded.Guarded.into_parts.Goals as goal

pub returns-clause-guarded : goal.returns-clause-guarded
returns-clause-guarded g c =
    subst (λ (x : GuardedState). IsGuarded g.K.BookName.table g.K.BookName.settings g.K.BookName.taped c.self.inside.booked x.log) c.self.view_is c.self.invariant.0
