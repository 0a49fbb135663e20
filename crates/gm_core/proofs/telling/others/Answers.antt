use Rattle.std.proofs.Common.{ℕ, Bool, true, rules, ap, ◌∙◌}
use Rattle.std.specs.Prelude.{not, filter}
use Rattle.std.proofs.lemmas.Fn.{filter_same}
use Rattle.gm_conns.specs.ConnTables.{Table}
use Rattle.gm_core.specs.Telling.{hears}
use Rattle.gm_core.proofs.telling.others.Goals as goal

abbrev deaf : Table → ℕ → Bool
deaf table d = not (hears table true d)

pub returns : goal.returns
returns c =
    filter_same _ (deaf c.args.conns.now) _ (λ x b f' k. search rules) _ _ c.retain.ensures.filtered
    ∙ ap (filter (deaf c.args.conns.now)) c.in_ok-others.ensures.items
