use Rattle.std.proofs.Common.{◌≡◌, [], ◌∙◌, rules}
use Rattle.gm_shared.specs.declared.tape.Actor.TheVariants as actors
use Rattle.gm_shared.proofs.Shares.{share_none}
use Rattle.gm_shared.proofs.shared.Desk.new.Goals as goal

pub invariant_of-result : goal.invariant_of-result
invariant_of-result g c = record {
  witnessed = search rules;
  told = (let none : c.new.result.items ≡ [] = search rules in none) ∙ share_none g.K.BookName.taped (actors.Desk c.args.number) _ c.requires.nothing_seen;
}
