use Rattle.std.proofs.Common.{◌≡◌, rules, filter, is_some, length, ap, ◌∙◌}
use Rattle.std.proofs.lemmas.Fn.{filter_same}
use Rattle.gm_queues.specs.Queues.{jobs_in}
use Rattle.gm_queues.proofs.QueueLemmas.{jobs_in-filter, length-filter_some}
use Rattle.gm_queues.proofs.ring.drop_cleared.Goals as goal
use Rattle.gm_queues.proofs.ring.drop_cleared.Goals.{After-learn}

kept : (c : After-learn) → c.retain.new.self.items ≡ filter is_some c.args.entries.now.items
kept c = filter_same _ _ _ (λ x b f' k. search rules) _ _ c.retain.ensures.filtered

pub returns-clause-jobs : goal.returns-clause-jobs
returns-clause-jobs c = ap jobs_in (kept ((goal.at.returns-clause-jobs c).After-learn)) ∙ jobs_in-filter c.args.entries.now.items

pub returns-clause-len : goal.returns-clause-len
returns-clause-len c = c.retain.new.self.ok.0 ∙ ap length (kept ((goal.at.returns-clause-len c).After-learn)) ∙ length-filter_some c.args.entries.now.items
