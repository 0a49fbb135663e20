use Rattle.std.proofs.Common.{◌≡◌, ◌==◌, if◌then◌else◌, ℕ, List, Option, Some, refl, sym, ap, subst, ◌∙◌}
use Rattle.std.specs.Option.{option_map}
use Rattle.gm_notes.specs.declared.states.Priority.{Priority}
use Rattle.gm_notes.specs.Workers.{deadline_after}
use Rattle.gm_queues.specs.Queues.{without_first}
use Rattle.gm_queues.specs.FunctionTables.{ChangesQueue}
use Rattle.gm_jobs.specs.Live.{Live, assigned}
use Rattle.gm_jobs.specs.Tables.{Changes}
use Rattle.gm_core.proofs.ConnLemmas.{touched_apart, conn_changes, last_seen, same_here}
use Rattle.gm_core.proofs.ConnLemmas as lemmas
use Rattle.gm_core.specs.Facts.{conn_facts, function_facts, seen}
use Rattle.gm_core.specs.Holds.{name_at}
use Rattle.gm_conns.specs.Connections.{with_last}
use Rattle.gm_notes.specs.Flow.{waiting}
use Rattle.gm_notes.specs.Jobs.{Job, job, last_function}
use Rattle.gm_core.proofs.FunctionLemmas.{some_same}
use Rattle.gm_core.proofs.CloseLemmas.{jobs_assigned}
use Rattle.gm_core.proofs.EndLemmas.{conns_still, functions_still}
use Rattle.gm_core.proofs.GrabLemmas.{given}
use Rattle.gm_core.proofs.server.Tables.give_out.Goals as goal

pub returns : goal.returns
returns c = record {
  config = refl;
  others = touched_apart c.args.slot (λ x. refl) c.set_last.ensures;
  past = λ past keeps.
      let old = c.args.self.now in
      let n = c.args.found.pick.job in
      let f = c.args.found.function in
      let late = deadline_after old.moment c.args.found.pick.timeout in
      let it = given old.config old.functions old.jobs (conn_facts past.notes).is_open past.notes (function_facts past.notes) keeps.functions keeps.jobs f n c.requires.within c.requires.first in
      let name = name_at old.functions.names f in
      let is = keeps.jobs.live n it.live it.at in
      let given_of : option_map (λ (what : Job). what.function) (job n past.notes) ≡ Some name =
      ap (option_map (λ (what : Job). what.function)) is.job ∙ ap (λ (g : ℕ). Some (name_at old.functions.names g)) it.function in
      let priority : it.live.priority ≡ c.args.priority =
      some_same it.live.priority c.args.priority (sym (ap (λ (o : Option Live). option_map (λ (l : Live). l.priority) o) it.at) ∙ c.requires.priority) in
      let pops : ChangesQueue it.live.function it.live.priority without_first old.functions c.pop-job.new.self =
      subst (λ (q : Priority). ChangesQueue it.live.function q without_first old.functions c.pop-job.new.self) (sym priority)
      (subst (λ (g : ℕ). ChangesQueue g c.args.priority without_first old.functions c.pop-job.new.self) (sym it.function) c.pop-job.ensures.rest) in
      let changes : Changes n (assigned c.args.slot late) old.jobs c.assign.new.self =
      subst (λ (d : Option ℕ). Changes n (assigned c.args.slot d) old.jobs c.assign.new.self) c.deadline_after-deadline.ensures c.assign.ensures in
      record {
        conns = conns_still old.config old.functions c.pop-job.new.self pops.most pops.names pops.limits
            (conn_changes c.args.slot (with_last f) (lemmas.with_last name) (λ bytes. bytes) c.set_last.ensures (λ x. refl) (λ x known. refl) (λ x. refl) (λ x known. (known.0, c.requires.within))
            (λ d. refl) (λ d. last_seen name (d == c.args.slot) (seen d past.notes) ∙ ap (λ (o : Option (List ℕ)). record (seen d past.notes) { last = if d == c.args.slot then o else last_function d past.notes }) (sym given_of))
            (λ d. same_here (d == c.args.slot) (waiting d past.flow)) keeps.conns);
        functions = functions_still old.config old.functions c.pop-job.new.self pops.most pops.names pops.limits keeps.functions;
        jobs = jobs_assigned old.config old.functions old.jobs (conn_facts past.notes).is_open past.notes (function_facts past.notes) keeps.functions keeps.jobs n it.live it.at it.waits c.args.slot late
            it.rest c.pop-job.new.self c.assign.new.self it.first pops changes;
        moment = keeps.moment;
        mode = keeps.mode;
      };
}
