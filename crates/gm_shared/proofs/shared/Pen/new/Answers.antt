use Rattle.std.proofs.Common.{◌≡◌, [], ◌∙◌, rules}
use Rattle.gm_shared.specs.declared.tape.Actor.TheVariants as actors
use Rattle.gm_shared.proofs.Shares.{share_none}
use Rattle.gm_shared.proofs.shared.Pen.new.Goals as goal

pub invariant_of-result : goal.invariant_of-result
invariant_of-result g c = record {
  witnessed = search rules;
  told = (let none : c.new.result.items ≡ [] = search rules in none) ∙ share_none g.K.BookName.taped (actors.Pen c.args.slot) _ c.requires.nothing_seen;
  named = c.requires.seat.0;
  sits = c.requires.seat.1;
  own = search rules;
}
