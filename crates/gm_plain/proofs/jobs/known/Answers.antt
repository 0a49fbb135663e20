use Rattle.std.proofs.Common.{List, ℕ, sym, subst}
use Rattle.gm_notes.specs.declared.note.Note.{Note}
use Rattle.gm_notes.specs.Jobs.{job}
use Rattle.gm_actions.specs.Carried.{AreNumbers}
use Rattle.gm_plain.specs.Searches.{Knows}
use Rattle.gm_plain.proofs.LogLemmas.{found_carried, job_carried, report_carried}
use Rattle.gm_plain.proofs.jobs.known.Goals as goal
use Rattle.gm_plain.proofs.jobs.known.Goals.{After-known_in}

knows : (c : After-known_in) → Knows c.args.job c.args.log.now.notes c.known_in.result
knows c = subst (λ (l : List Note). Knows c.args.job l c.known_in.result) c.notes.ensures.order c.known_in.ensures.knows

pub returns-clause-carried : goal.returns-clause-carried
returns-clause-carried c =
    found_carried c.known_in.result.job (job c.args.job c.args.log.now.notes) (knows c).job (job_carried c.args.log.now.slots c.args.job c.args.log.now.notes c.notes.ensures.fit)

pub returns-clause-numbers : goal.returns-clause-numbers
returns-clause-numbers c =
    subst (λ (r : List ℕ × List ℕ). AreNumbers r.0 r.1) (sym (knows c).report) (report_carried c.args.log.now.slots c.args.job c.args.log.now.notes c.notes.ensures.fit)
