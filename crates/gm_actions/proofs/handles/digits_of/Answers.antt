use Rattle.std.proofs.Common.{◌++◌, List, ℕ, ap, ◌∙◌}
use Rattle.gm_actions.proofs.HandleTexts.{digits_last}
use Rattle.gm_actions.proofs.handles.digits_of.Goals as goal

pub returns : goal.returns
returns c =
    digits_last c.args.config.now c.args.text.now c.in-Some.named.now c.in-Some-behind.rest.now c.behind-3.result c.in-Some.ensures
    (c.in-Some-behind.ensures ∙ ap (λ (l : List ℕ). l ++ c.in-Some-behind.rest.now) c.name.ensures.value) c.behind-3.ensures
