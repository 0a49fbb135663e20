use Rattle.std.proofs.Common.{◌≡◌, ◌<◌, ◌^◌, ℕ, Bool, true, false, if◌then◌else◌, Option, Some, None, List, refl, sym, ap, ◌∙◌}
use Rattle.std.specs.Option.{option_map, option_copied}
use Rattle.gm_notes.specs.declared.note.Note.{Note}
use Rattle.gm_notes.specs.declared.states.Place.{Place}
use Rattle.gm_notes.specs.declared.states.Place.TheVariants.{Unmade, Waiting, Running, Lost, Gone}
use Rattle.gm_notes.specs.Settings.{Settings}
use Rattle.gm_notes.specs.Jobs.{job_state, job_of_handle, handle}
use Rattle.gm_notes.specs.JobStates.{place_of}
use Rattle.gm_notes.specs.Past.{Past}
use Rattle.gm_notes.specs.Places as places
use Rattle.gm_queues.specs.FunctionTables as queues
use Rattle.gm_jobs.specs.Live.{Live}
use Rattle.gm_jobs.specs.Tables.{Table, job, place, place_or, is_made}
use Rattle.gm_core.specs.Facts.{job_facts}
use Rattle.gm_core.specs.Holds.{HoldsJobs}
use Rattle.gm_core.specs.Telling.{running_there}
use Rattle.gm_core.proofs.HandledLemmas.{handled_none, handled_at, when_none}
use Rattle.gm_core.proofs.server.working.running_at.Goals as goal
use Rattle.gm_core.proofs.server.working.running_at.Goals.{In_ok-job}

-- a job that runs at a slot was made
runs_there : (c n : ℕ) (at : Place) (notes : List Note) → at ≡ place_of (job_state n notes)
    → (if places.is_running_at c at then Some n else None) ≡ running_there c (if places.is_made at then Some n else None) notes
runs_there c n Unmade notes is = refl
runs_there c n Waiting notes is = ap (λ (p : Place). if places.is_running_at c p then Some n else None) is
runs_there c n (Running d) notes is = ap (λ (p : Place). if places.is_running_at c p then Some n else None) is
runs_there c n Lost notes is = ap (λ (p : Place). if places.is_running_at c p then Some n else None) is
runs_there c n Gone notes is = ap (λ (p : Place). if places.is_running_at c p then Some n else None) is

-- whether the job that a handle names runs there is what its place says
from_place : (k : Settings) (functions : queues.Table) (table : Table) (is_open : ℕ → Bool) (past : Past) → HoldsJobs k functions table is_open (job_facts past.notes)
    → (c n : ℕ) (text : List ℕ) → n < 2 ^ 64 → text ≡ handle k n → (t : Bool) → t ≡ places.is_running_at c (place table n)
    → (if t then Some n else None) ≡ running_there c (job_of_handle k text past.notes) past.notes
from_place k functions table is_open past holds c n text small names t runs =
    ap (λ (t : Bool). if t then Some n else None) runs
    ∙ runs_there c n (place table n) past.notes (holds.places n)
    ∙ ap (λ (o : Option ℕ). running_there c o past.notes) (handled_at k functions table is_open past.notes holds text n small names)

nowhere : (c : ℕ) (o : Option Live) (made : Bool) → o ≡ None → false ≡ places.is_running_at c (place_or o made)
nowhere c o true none = ap (λ (o : Option Live). places.is_running_at c (place_or o true)) (sym none)
nowhere c o false none = ap (λ (o : Option Live). places.is_running_at c (place_or o false)) (sym none)

pub returns-in_err-number-clause-value : goal.returns-in_err-number-clause-value
returns-in_err-number-clause-value c functions is_open past holds =
    ap (option_map (λ found. found.0)) c.from_residual.ensures
    ∙ ap (λ (o : Option ℕ). running_there c.args.slot o past.notes)
    (handled_none c.args.config.now functions c.args.jobs.now is_open past.notes holds c.args.handle.now (when_none _ c.number_in.result c.in_err-number.was c.number_in.ensures.value))

pub returns-in_err-job-clause-value : goal.returns-in_err-job-clause-value
returns-in_err-job-clause-value c functions is_open past holds =
    let n = c.in_ok-number.number in
    let gone : job c.args.jobs.now n ≡ None = sym c.by_number.ensures ∙ ap option_copied c.in_err-job.was in
    ap (option_map (λ found. found.0)) c.from_residual-in_err-job.ensures
    ∙ from_place c.args.config.now functions c.args.jobs.now is_open past holds c.args.slot n c.args.handle.now c.in_ok-number.ensures.small c.in_ok-number.ensures.value
    false (nowhere c.args.slot (job c.args.jobs.now n) (is_made c.args.jobs.now n) gone)

-- the place of the job that was found is that of its number
found : (c : In_ok-job) → place c.args.jobs.now c.in_ok-number.number ≡ place_or (Some c.in_ok-job.job.now) (is_made c.args.jobs.now c.in_ok-number.number)
found c = ap (λ (o : Option Live). place_or o (is_made c.args.jobs.now c.in_ok-number.number)) (sym c.by_number.ensures ∙ ap option_copied c.in_ok-job.was)

pub returns-then-is_running_at-clause-value : goal.returns-then-is_running_at-clause-value
returns-then-is_running_at-clause-value c functions is_open past holds =
    let at = found (goal.at.returns-then-is_running_at-clause-value c).In_ok-job in
    from_place c.args.config.now functions c.args.jobs.now is_open past holds c.args.slot c.in_ok-number.number c.args.handle.now c.in_ok-number.ensures.small c.in_ok-number.ensures.value
    true (sym c.if-is_running_at.true ∙ (c.is_running_at.ensures ∙ ap (places.is_running_at c.args.slot) (c.place.ensures ∙ sym at)))

pub returns-else-is_running_at-clause-value : goal.returns-else-is_running_at-clause-value
returns-else-is_running_at-clause-value c functions is_open past holds =
    let at = found (goal.at.returns-else-is_running_at-clause-value c).In_ok-job in
    from_place c.args.config.now functions c.args.jobs.now is_open past holds c.args.slot c.in_ok-number.number c.args.handle.now c.in_ok-number.ensures.small c.in_ok-number.ensures.value
    false (sym c.if-is_running_at.false ∙ (c.is_running_at.ensures ∙ ap (places.is_running_at c.args.slot) (c.place.ensures ∙ sym at)))
