use Rattle.std.proofs.Common.{◌≡◌, rules, not, ◌==◌, filter, sym, ap, ◌∙◌}
use Rattle.std.proofs.lemmas.Fn.{filter_same}
use Rattle.gm_plain.specs.Searches.{listeners_after}
use Rattle.gm_plain.proofs.jobs.update_listeners.Goals as goal

pub returns-in-Closed : goal.returns-in-Closed
returns-in-Closed c =
    let kept : c.retain.new.self.items ≡ filter (λ d. not (d == c.in-Closed.slot)) c.args.slots.now.items =
    filter_same _ _ _ (λ x b f' k. search rules) _ _ c.retain.ensures.filtered in
    kept ∙ ap (λ note. listeners_after c.args.job note c.args.slots.now.items) (sym c.in-Closed.is)
