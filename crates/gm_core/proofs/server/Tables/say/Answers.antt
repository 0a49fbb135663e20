use Rattle.std.proofs.Common.{ℕ, List, length, true, subst}
use Rattle.gm_conns.specs.Connections.{with_bytes}
use Rattle.gm_conns.specs.ConnTables.{Changes}
use Rattle.gm_core.proofs.CoreLemmas.{goes_queued}
use Rattle.gm_core.proofs.server.Tables.say.Goals as goal

pub returns-clause-does : goal.returns-clause-does
returns-clause-does c =
    goes_queued c.args.self.now c.reserve_out.new.self c.put_out.new.self c.args.self.now.text c.args.slot c.len.result (length c.args.text.items) c.args.text.items c.in_ok-reserve_out.ensures.ok
    (subst (λ (l : List ℕ). Changes c.args.slot (with_bytes l (length l)) true c.reserve_out.new.self c.put_out.new.self) c.as_slice.ensures.value c.put_out.ensures)
