use Rattle.std.proofs.Common.{ap, sym, ◌∙◌}
use Rattle.std.specs.Map.{lookup}
use Rattle.gm_conns.specs.Connections.{without_ability}
use Rattle.gm_conns.proofs.AbilityLemmas.{remove_entry-once}
use Rattle.gm_conns.proofs.conn.Conn.cant_do.Goals as goal

pub returns-clause-abilities : goal.returns-clause-abilities
returns-clause-abilities c =
    let gone = ap (lookup _) (sym c.shift_remove-timeout.ensures.entries) ∙ c.shift_remove-timeout.ensures.updates.1 in
    ap (λ abilities. record {
      is_open = c.self.inside.open;
      is_shut = c.self.inside.shut;
      has_option = c.self.inside.option;
      phase = c.self.inside.phase;
      addr = c.self.inside.addr.items;
      id = c.self.inside.id.items;
      abilities = abilities;
      last = c.self.inside.last;
      waiting = c.self.inside.queue.bytes;
      room = c.self.inside.queue.room;
    })
    (c.shift_remove-timeout.ensures.entries ∙ remove_entry-once c.args.f c.self.inside.abilities.entries gone)
    ∙ ap (without_ability c.args.f) c.self.view_is
