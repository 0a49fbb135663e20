use Rattle.std.proofs.Common.{◌≡◌, rules, not, ◌==◌, filter, ap, ◌∙◌}
use Rattle.std.proofs.lemmas.Fn.{filter_same}
use Rattle.std.specs.Option.{option_map}
use Rattle.gm_jobs.specs.Live.{body_bytes, without_listener}
use Rattle.gm_jobs.proofs.job.Job.leave.Goals as goal

pub returns : goal.returns
returns c =
    let kept : c.retain.new.self.items ≡ filter (λ d. not (d == c.args.slot)) c.self.inside.listeners.items =
    filter_same _ _ _ (λ x b f' k. search rules) _ _ c.retain.ensures.filtered in
    ap (λ ls. record { function = c.self.inside.f; priority = c.self.inside.p; unique = c.self.inside.unique.items; body = body_bytes c.self.inside.body; kept = c.self.inside.kept; live_place = c.self.inside.live_place; returns = c.self.inside.returns; deadline = c.self.inside.deadline; report = option_map (λ r. (r.value.numerator.items, r.value.denominator.items)) c.self.inside.report; listeners = ls }) kept
    ∙ ap (without_listener c.args.slot) c.self.view_is
