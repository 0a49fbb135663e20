use Rattle.std.proofs.Common.{nat_eq, IsTrue, is_some, ap, subst, ◌∙◌}
use Rattle.std.specs.Map.{lookup}
use Rattle.gm_conns.specs.Connections.{Connection, is_able}
use Rattle.gm_conns.proofs.AbilityLemmas.{lookup-last}
use Rattle.gm_conns.proofs.conn.Conn.pop_ability.Goals as goal

pub returns-clause-some : goal.returns-clause-some
returns-clause-some c =
    subst (λ (conn : Connection). IsTrue (is_able c.in_ok-f.f conn)) c.self.view_is
    (ap (λ es. is_some (lookup (nat_eq c.in_ok-f.f) es)) c.in_ok-f.ensures.entries ∙ lookup-last c.in_ok-f.f c.pop.new.self.entries c.in_ok-f.field-0-1)
