use Rattle.std.proofs.Common.{◌≡◌, rules, List, Option, reverse, sym, ap, ◌∙◌}
use Rattle.std.specs.Option.{option_copied, option_map}
use Rattle.gm_notes.specs.declared.note.Note.{Note}
use Rattle.gm_notes.specs.Jobs.{Job, last_function}
use Rattle.gm_actions.specs.Actions.{job_of}
use Rattle.gm_plain.proofs.Turns.{newest_first, assigned_here}
use Rattle.gm_plain.proofs.abilities.last_function.Goals as goal

pub returns-in-Assigned : goal.returns-in-Assigned
returns-in-Assigned c =
    let seen : option_copied c.map.result ≡ option_map (λ (job : Job). job.function) (option_map job_of c.known_in.result.job) = search rules in
    let newest = newest_first c.loop-note.notes.now c.in-Some.older.now c.in-Some.note.now c.in-Some.ensures.cases.0 in
    seen
    ∙ (ap (λ (o : Option Job). option_map (λ (job : Job). job.function) o) c.known_in.ensures.knows.job
    ∙ (sym (assigned_here c.args.slot c.in-Assigned.job c.in-Assigned.c c.in-Assigned.deadline c.in-Some.note.now (reverse c.in-Some.older.now) c.in-Assigned.is c.if-c-slot-2.true)
    ∙ (sym (ap (λ (l : List Note). last_function c.args.slot l) newest) ∙ c.loop-note.invariant)))
