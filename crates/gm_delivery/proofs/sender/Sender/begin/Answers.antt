use Rattle.std.proofs.Common.{◌+◌, Bool, Some, rules, sym, ap, ◌∙◌}
use Rattle.std.specs.Prelude.{if◌then◌else◌}
use Rattle.std.proofs.lemmas.Bool.{lt-ltb, le-ltb}
use Rattle.gm_shared.specs.Openings.{most_openings}
use Rattle.gm_shared.specs.Pairings.{passed_with}
use Rattle.gm_delivery.proofs.Accounting.{begin_keeps}
use Rattle.gm_delivery.proofs.sender.Sender.begin.Goals as goal
use Rattle.gm_delivery.proofs.sender.Sender.begin.Goals.{then-begins, else-begins}

pub invariant_of-self-2 : goal.invariant_of-self-2
invariant_of-self-2 g c =
    let openings = c.self.inside.openings in
    begin_keeps _ _ c.pair.new.writing c.new.result c.args.is_served (ap (λ s. s.outbound) (c.self.view_is ∙ c.release.ensures))
    (elim c.if-begins.branch [
      | then-begins w ↦ w.self-is ∙ ap (λ (b : Bool). if b then openings + 1 else most_openings) (sym (lt-ltb openings 18446744073709551614 w.if-begins.true))
      | else-begins w ↦ w.self-is ∙ ap (λ (b : Bool). if b then openings + 1 else most_openings) (sym (le-ltb openings 18446744073709551614 w.if-begins.false))
    ])
    (c.if-not-pair.ensures.paired.writes ∙ ap (λ z. passed_with (Some (z, c.args.is_served)) c.self.inside.side) (search rules))
    (ap (λ o. o.state) c.new.ensures) (ap (λ o. o.log) c.new.ensures ∙ c.requires.unwritten.0) c.self.invariant
