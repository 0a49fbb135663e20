use Rattle.std.proofs.Common.{inl, sym, ◌∙◌}
use Rattle.gm_jobs.proofs.deadlines.Deadlines.renew.Goals as goal

pub returns : goal.returns
returns c = λ n live found whole d runs is. inl (c.list_deadlines.ensures (sym c.reset.ensures ∙ whole) n d live found is)
