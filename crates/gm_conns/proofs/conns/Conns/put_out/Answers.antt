use Rattle.std.proofs.Common.{length, true, refl}
use Rattle.gm_conns.specs.Connections.{with_bytes}
use Rattle.gm_conns.proofs.ConnTableLemmas.{keeps_same, changes_slot, requeued}
use Rattle.gm_conns.proofs.conns.Conns.put_out.Goals as goal

pub invariant_of-self : goal.invariant_of-self
invariant_of-self c = keeps_same c.self.inside c.self.invariant c.self.view_is c.args.slot c.requires.open (requeued (with_bytes c.args.bytes.now (length c.args.bytes.now)) c.conn.view_is c.put.ensures refl) c.index_mut-conn.ensures.value refl refl (λ f. refl)

pub returns : goal.returns
returns c =
    changes_slot c.self.inside c.self.invariant c.self.view_is c.args.slot c.requires.open (with_bytes c.args.bytes.now (length c.args.bytes.now)) true
    (requeued (with_bytes c.args.bytes.now (length c.args.bytes.now)) c.conn.view_is c.put.ensures refl) c.index_mut-conn.ensures.value c.insert.ensures
