use Rattle.std.proofs.Common.{◌≡◌, rules, not, ◌==◌, [], ◌∷◌, ◌++◌, filter, sym, ap, ◌∙◌}
use Rattle.std.proofs.lemmas.Fn.{filter_same}
use Rattle.gm_plain.specs.Searches.{order_after}
use Rattle.gm_plain.proofs.abilities.update_order.Goals as goal

pub returns-in_ok-push-in-Returned : goal.returns-in_ok-push-in-Returned
returns-in_ok-push-in-Returned c =
    let kept : c.retain.new.self.items ≡ filter (λ m. not (m == c.in-Returned.job)) c.args.jobs.now.items =
    filter_same _ _ _ (λ x b f' k. search rules) _ _ c.retain.ensures.filtered in
    c.in_ok-push-in-Returned.ensures.items ∙ ap (λ l. l ++ c.in-Returned.job ∷ []) kept ∙ ap (λ note. order_after note c.args.jobs.now.items) (sym c.in-Returned.is)
