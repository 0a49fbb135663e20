use Rattle.std.proofs.Common.{ℕ, sym, subst, ◌∙◌}
use Rattle.gm_plain.specs.Logs.{MayCome}
use Rattle.gm_plain.proofs.server.PlainServer.note.Goals as goal

pub invariant_of-self : goal.invariant_of-self
invariant_of-self c = record {
  wide = c.args.self.now.wide;
  slots = c.note.ensures.room.slots ∙ c.args.self.now.slots;
  first = c.note.ensures.room.first ∙ c.args.self.now.first;
}

pub note-requires-clause-may_come : goal.note-requires-clause-may_come
note-requires-clause-may_come c =
    subst (λ (n : ℕ). MayCome n c.args.self.now.log.first c.args.note c.args.self.now.log.notes) (sym c.args.self.now.slots)
    (subst (λ (n : ℕ). MayCome c.args.self.now.config.slots n c.args.note c.args.self.now.log.notes) (sym c.args.self.now.first) c.requires.may_come)
