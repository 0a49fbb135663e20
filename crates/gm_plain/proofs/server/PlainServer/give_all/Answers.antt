use Rattle.std.proofs.Common.{◌<◌, ℕ, refl, sym, subst, ◌∙◌}
use Rattle.std.specs.List.{All}
use Rattle.gm_packet.specs.Answers.{answer_of}
use Rattle.gm_plain.proofs.ServerLemmas.{holds_all}
use Rattle.gm_plain.proofs.server.PlainServer.give_all.Goals as goal

pub returns-clause-does : goal.returns-clause-does
returns-clause-does c = record {
  config = refl;
  others = tt;
  past = λ p keeps.
      holds_all c.give_all.result (answer_of c.args.response.now) c.args.slots.now c.deref.result.now (c.deref.ensures.value ∙ c.in_ok-packet.ensures)
      (subst (λ (n : ℕ). All (λ d. d < n) c.args.slots.now) (sym c.args.self.now.wide) c.requires.slots) c.give_all.ensures.ok c.give_all.ensures.err p keeps;
}
