use Rattle.std.proofs.Common.{List, ℕ, ◌+◌, Some, ap, sym, ◌∙◌}
use Rattle.std.specs.Prelude.{slice_get}
use Rattle.gm_plain.proofs.MadeJobs.{number_at}
use Rattle.gm_plain.proofs.jobs.job_at.Goals as goal

pub returns : goal.returns
returns c =
    ap (λ (l : List ℕ). slice_get l c.args.index) c.first.ensures.in_order.rising
    ∙ (number_at c.args.log.now.first _ c.args.index c.requires ∙ ap (λ n. Some (n + c.args.index)) (sym c.first.ensures.value))
