use Rattle.std.proofs.Common.{◌≡◌, ◌≢◌, ◌<◌, ◌^◌, ℕ, ◌≤◌, Bool, true, false, ◌&&◌, ◌==◌, if◌then◌else◌, List, length, Option, Some, None, IsNone, Result, Ok, Err, IfOk, codes, refl, sym, ap, subst, ◌∙◌, take, ◌-◌, arith}
use Rattle.std.specs.Result.{IsErr}
use Rattle.std.proofs.lemmas.Bool.{false≢true}
use Rattle.std.proofs.lemmas.Bool.Decides.{nat_tests}
use Rattle.gm_notes.specs.declared.note.Note.TheVariants.{Mention}
use Rattle.gm_notes.specs.Jobs.{made, next_number}
use Rattle.gm_notes.specs.Steps.{made_since}
use Rattle.gm_notes.specs.Past.{Past, with_note, refuse}
use Rattle.gm_notes.specs.Submissions.{Submission, is_bad_name, is_one_too_many, make, submit}
use Rattle.gm_queues.specs.FunctionTables.{Table, number_of, IsFree, ChangesNames}
use Rattle.std.specs.declared.alloc.AllocError.{AllocError}
use Rattle.gm_jobs.specs.declared.jobs.JobError.{JobError}
use Rattle.gm_jobs.specs.declared.jobs.JobError.TheVariants as errors
use Rattle.gm_jobs.specs.declared.uniques.Vacancy.{Vacancy}
use Rattle.gm_jobs.specs.Live.{Live, is_named}
use Rattle.gm_jobs.specs.Tables.{job, passes, IsNamed}
use Rattle.gm_actions.specs.Actions.{submission_of}
use Rattle.gm_core.specs.declared.server.Tables.{Tables}
use Rattle.gm_core.specs.Facts.{conn_facts}
use Rattle.gm_core.specs.Holds.{Keeps, IsKept, MakesNone, Goes, Does}
use Rattle.gm_core.proofs.AddLemmas.{Submits, made_so, not_made}
use Rattle.gm_core.proofs.CoreLemmas.{goes_as, goes_then, goes_nothing, goes_mention, goes_back}
use Rattle.gm_core.proofs.FunctionLemmas.{anew, known, never_full, too_many, not_yet_many, is_none_of, some_same}
use Rattle.gm_core.proofs.JobLemmas.{joined_unknown, numbered, spent}
use Rattle.gm_core.proofs.MentionLemmas.{taken_back, number_here, freed}
use Rattle.gm_core.proofs.PacketLemmas.{none_by}
use Rattle.gm_core.proofs.server.Tables.submit_first.Goals as goal
use Rattle.gm_core.proofs.server.Tables.submit_first.Goals.{In_ok-refuse-in-Err-TooManyFunctions, In-Ok}

module _ (tables : Tables) (kept : IsKept tables) (f : ℕ) (over : length tables.functions.names ≤ f) (unique : List ℕ) where
  both : (a b : Bool) → (a && b) ≡ true → a ≡ true
  both true b e = refl
  both false b e = absurd (false≢true e)

  -- no job is of a function that isn't known
  not_named : (n : ℕ) (o : Option Live) → job tables.jobs n ≡ o → passes (is_named f unique) o ≡ true → ⊥
  not_named n None at named = false≢true named
  not_named n (Some live) at named =
      let is = kept.1.jobs.live n live at in
      let within = is.function in
      let named_so : (live.function == f) ≡ true = both (live.function == f) _ named in
      let same : live.function ≡ f = grind (arith, nat_tests) in
      omega (arith, over, within, same)

  finds_none : (r : Result ℕ Vacancy) → IfOk r (IsNamed f unique tables.jobs) → IsErr r
  finds_none (Ok n) found = absurd (not_named n (job tables.jobs n) refl found.named)
  finds_none (Err vacancy) found = search

-- the function is the last, and free
nothing : (c : In-Ok) → IsNone (number_of c.args.asked.now.function.now c.args.self.now.functions)
nothing c = is_none_of (number_of c.args.asked.now.function.now c.args.self.now.functions) c.requires.new

here : (c : In-Ok) → c.in-Ok.f ≡ length c.args.self.now.functions.names
here c = some_same c.in-Ok.f _ (sym c.in-Ok.ensures.found ∙ number_here c.args.self.now.functions c.mention.new.self c.args.asked.now.function.now c.requires.new (c.in-Ok.ensures.fresh (nothing c)))

-- one more may be known
few : (c : In-Ok) → length c.args.self.now.functions.names ≢ c.args.self.now.functions.most
few c e = let wrong = c.in-Ok.ensures.full.1 (nothing c, e) in cc

pub unwrap_err-vacancy-requires : goal.unwrap_err-vacancy-requires
unwrap_err-vacancy-requires c =
    finds_none c.args.self.now c.requires.kept c.in-Ok.f (let last = here (goal.at.unwrap_err-vacancy-requires c).In-Ok in omega (arith, last)) c.args.asked.now.unique.now c.find.result c.find.ensures.found

pub unmention-requires-clause-free : goal.unmention-requires-clause-free
unmention-requires-clause-free c =
    let d = (goal.at.unmention-requires-clause-free c).In-Ok in
    subst (λ (t : Table). IsFree (length t.names - 1) t) (sym c.in-Err.ensures.none.functions)
    (freed c.args.self.now.functions c.mention.new.self c.args.asked.now.function.now c.in-Ok.f c.requires.new (c.in-Ok.ensures.fresh (nothing d)) c.in-Ok.ensures.found (c.in-Ok.ensures.free (nothing d)))

-- nothing is joined, and no limit of the function's own is reached
first_is : (core : Tables) (c : ℕ) (s : Submission) → is_bad_name s.function ≡ false → number_of s.function core.functions ≡ None → (p : Past) → Keeps core p
    → submit core.config c s p ≡ (if is_one_too_many core.config s.function p.notes then refuse c (codes "too_many_functions") p else make core.config c s (next_number core.config p.notes) p)
first_is core c s named new p keeps =
    let none = sym (joined_unknown core.config core.functions core.jobs p.notes (conn_facts p.notes).is_open keeps.functions keeps.jobs s.function s.unique new) in
    let room = never_full core.config core.functions p.notes keeps.functions s.function new in
    rw (named, none, room) refl

-- no function more can be known
refuses : (c : In_ok-refuse-in-Err-TooManyFunctions) (p : Past) → Keeps c.args.self.now p → refuse c.args.slot (codes "too_many_functions") p ≡ submit c.args.self.now.config c.args.slot (submission_of c.args.asked.now) p
refuses c p keeps =
    let core = c.args.self.now in
    let s = submission_of c.args.asked.now in
    let many = too_many core.config core.functions p.notes keeps.functions s.function c.requires.new (c.in-Err-TooManyFunctions.ensures.full.0 (ap Err c.in-Err-TooManyFunctions.field-0-is)).1 in
    sym (first_is core c.args.slot s c.requires.named c.requires.new p keeps ∙ rw many refl)

-- it is made under the next number, if there is one
makes_first : (c : In-Ok) (o : Option ℕ) (p : Past) → Keeps c.args.self.now p → next_number c.args.self.now.config p.notes ≡ o
    → make c.args.self.now.config c.args.slot (submission_of c.args.asked.now) o p ≡ submit c.args.self.now.config c.args.slot (submission_of c.args.asked.now) p
makes_first c o p keeps next =
    let core = c.args.self.now in
    let s = submission_of c.args.asked.now in
    let few = not_yet_many core.config core.functions p.notes keeps.functions s.function (few c) in
    sym (first_is core c.args.slot s c.requires.named c.requires.new p keeps ∙ rw (few, next) refl)

made_first : (c : In-Ok) (new : Tables) (n : ℕ) → n < 2 ^ 64 → n ≡ c.args.self.now.jobs.next
    → Goes (record c.args.self.now { functions = c.mention.new.self }) new (make c.args.self.now.config c.args.slot (submission_of c.args.asked.now) (Some n))
    → Submits c.args.self.now (Ok (Some n)) new (submit c.args.self.now.config c.args.slot (submission_of c.args.asked.now))
made_first c new n fits number made =
    let core = c.args.self.now in
    let s = submission_of c.args.asked.now in
    let mentioned = goes_mention core c.mention.new.self s.function c.requires.new (c.in-Ok.ensures.fresh (nothing c)) (subst (λ f. IsFree f c.mention.new.self) (here c) (c.in-Ok.ensures.free (nothing c))) (few c) in
    made_so c.args.slot s n (submit core.config c.args.slot s)
    (goes_as (make core.config c.args.slot s (Some n)) (goes_then mentioned made)
    (λ p keeps.
    let fresh = anew core.config core.functions p.notes keeps.functions s.function c.requires.new in
    let there = known core.config c.mention.new.self (with_note (Mention s.function) p).notes (mentioned.past p keeps).functions s.function c.in-Ok.f c.in-Ok.ensures.found in
    rw (fresh, there) refl))
    (λ p keeps. makes_first c (Some n) p keeps (numbered core.config core.functions core.jobs p.notes (conn_facts p.notes).is_open keeps.functions keeps.jobs n number fits))

none_first : (c : In-Ok) (error : JobError) (result : Result (Option ℕ) AllocError) (kept : Tables) (back : Table) (after : Tables) → MakesNone (record c.args.self.now { functions = c.mention.new.self }) kept
    → ChangesNames (take (length kept.functions.names - 1) kept.functions.names) kept.functions back → Does (record kept { functions = back }) result after (refuse c.args.slot (codes "no_numbers"))
    → IfOk result (λ answer. (answer ≡ None) × (error ≡ errors.NumbersSpent)) → (error ≡ errors.NumbersSpent → c.args.self.now.jobs.next ≡ 2 ^ 64)
    → Submits c.args.self.now result after (submit c.args.self.now.config c.args.slot (submission_of c.args.asked.now))
none_first c error result kept back after none changes refused answer over =
    let core = c.args.self.now in
    let s = submission_of c.args.asked.now in
    let taken = taken_back core.functions c.mention.new.self back s.function (c.in-Ok.ensures.fresh (nothing c)) (subst (λ (t : Table). ChangesNames (take (length t.names - 1) t.names) t back) none.functions changes) in
    not_made c.args.slot error result (submit core.config c.args.slot s) (goes_then (goes_back core back taken) (none.goes back)) refused answer
    (λ is p keeps. makes_first c None p keeps (spent core.config core.functions core.jobs p.notes (conn_facts p.notes).is_open keeps.functions keeps.jobs (over is)))

pub refuse_job-requires : goal.refuse_job-requires
refuse_job-requires c = c.in-Err.ensures.«open»

pub returns-in-Err-TooManyFunctions-clause-does : goal.returns-in-Err-TooManyFunctions-clause-does
returns-in-Err-TooManyFunctions-clause-does c =
    goes_as (submit c.args.self.now.config c.args.slot (submission_of c.args.asked.now)) (goes_then (goes_nothing refl refl c.in-Err-TooManyFunctions.ensures.err refl refl refl) c.in_ok-refuse-in-Err-TooManyFunctions.ensures)
    (refuses (goal.at.returns-in-Err-TooManyFunctions-clause-does c).In_ok-refuse-in-Err-TooManyFunctions)

pub returns-in-Err-TooManyFunctions-clause-made : goal.returns-in-Err-TooManyFunctions-clause-made
returns-in-Err-TooManyFunctions-clause-made c past keeps =
    none_by past (refuse c.args.slot (codes "too_many_functions") past) refl
    ∙ ap (λ (q : Past). made_since (made past.notes) (made q.notes)) (refuses (goal.at.returns-in-Err-TooManyFunctions-clause-made c).In_ok-refuse-in-Err-TooManyFunctions past keeps)

pub returns-in-Ok-make-clause-does : goal.returns-in-Ok-make-clause-does
returns-in-Ok-make-clause-does c =
    let fits : c.in-Ok-make.job < 2 ^ 64 = search in
    (made_first (goal.at.returns-in-Ok-make-clause-does c).In-Ok c.make.new.self c.in-Ok-make.job fits c.in-Ok-make.ensures.number c.in-Ok-make.ensures.makes).0

pub returns-in-Ok-make-clause-made : goal.returns-in-Ok-make-clause-made
returns-in-Ok-make-clause-made c =
    let fits : c.in-Ok-make.job < 2 ^ 64 = search in
    (made_first (goal.at.returns-in-Ok-make-clause-made c).In-Ok c.make.new.self c.in-Ok-make.job fits c.in-Ok-make.ensures.number c.in-Ok-make.ensures.makes).1

pub returns-in-Err-clause-does : goal.returns-in-Err-clause-does
returns-in-Err-clause-does c =
    (none_first (goal.at.returns-in-Err-clause-does c).In-Ok c.in-Err.error c.refuse_job.result c.make.new.self c.unmention.new.self c.refuse_job.new.self c.in-Err.ensures.none c.unmention.ensures c.refuse_job.ensures.does c.refuse_job.ensures.none
    (λ is. c.in-Err.ensures.spent (ap Err is))).0

pub returns-in-Err-clause-made : goal.returns-in-Err-clause-made
returns-in-Err-clause-made c =
    (none_first (goal.at.returns-in-Err-clause-made c).In-Ok c.in-Err.error c.refuse_job.result c.make.new.self c.unmention.new.self c.refuse_job.new.self c.in-Err.ensures.none c.unmention.ensures c.refuse_job.ensures.does c.refuse_job.ensures.none
    (λ is. c.in-Err.ensures.spent (ap Err is))).1
