use Rattle.std.proofs.Common.{◌∙◌}
use Rattle.gm_plain.proofs.server.PlainServer.make_room.Goals as goal

pub invariant_of-self : goal.invariant_of-self
invariant_of-self c = record {
  wide = c.args.self.now.wide;
  slots = c.make_room.ensures.slots ∙ c.args.self.now.slots;
  first = c.make_room.ensures.first ∙ c.args.self.now.first;
}
