-- A function that is mentioned for the first time.
use Rattle.std.proofs.Common.{◌≡◌, ◌≢◌, ℕ, zero, suc, ◌+◌, ◌<◌, ◌≤◌, Bool, true, false, ◌&&◌, ◌⊎◌, inl, inr, List, [], ◌∷◌}
use Rattle.std.specs.Option.{option_map}
use Rattle.std.proofs.Common.{◌++◌, length, map, filter, Option, Some, None, refl, sym, ap, subst, ◌∙◌, arith, length-append}
use Rattle.std.proofs.Common.{take, ◌-◌}
use Rattle.std.specs.Prelude.{slice_get}
use Rattle.std.specs.Str.{bytes_eq}
use Rattle.std.proofs.lemmas.Bool.{cases_lt}
use Rattle.std.proofs.lemmas.List.{get_or_append_left, get_or_push}
use Rattle.std.proofs.lemmas.Slice.Eq.{bytes_eq-Decides}
use Rattle.gm_notes.specs.declared.note.Note.TheVariants.{Mention}
use Rattle.gm_notes.specs.declared.note.Note.{Note}
use Rattle.gm_notes.specs.declared.states.Priority.{Priority}
use Rattle.gm_notes.specs.Settings.{Settings}
use Rattle.gm_notes.specs.Jobs.{Ability, is_job_with}
use Rattle.gm_notes.specs.JobStates.{JobState, is_running, place_of}
use Rattle.gm_notes.specs.JobStates as states
use Rattle.gm_conns.specs.Connections.{Connection}
use Rattle.gm_conns.specs.ConnTables.{conn}
use Rattle.gm_conns.specs.ConnTables as conns
use Rattle.gm_queues.specs.Queues.{Queue, no_jobs}
use Rattle.gm_queues.specs.FunctionTables.{Table, number_of, limit, queue, ChangesNames, IsFree}
use Rattle.gm_jobs.specs.Live.{Live}
use Rattle.gm_jobs.specs.Tables.{job, place, place_or, is_made}
use Rattle.gm_jobs.specs.Tables as jobs
use Rattle.gm_core.specs.Facts.{ConnFacts, FunctionFacts, JobFacts, function_facts, runs_with, running_with}
use Rattle.gm_core.specs.Holds.{name_at, ability_named, shown, described, AreFunctions, IsFunction, NamesFunctions, HoldsConns, HoldsFunctions, HoldsJobs}
use Rattle.gm_core.specs.Holds.{IsJob, limit_named, jobs_named}
use Rattle.gm_queues.proofs.PositionLemmas.{position-push, position-stays, position-misses}
use Rattle.gm_core.proofs.FunctionLemmas.{unknown, some_same}

-- a name that stood keeps its number
pub name_stays : (names : List (List ℕ)) (name : List ℕ) (f : ℕ) → f < length names → name_at (names ++ name ∷ []) f ≡ name_at names f
name_stays names name f within = get_or_append_left names (name ∷ []) [] f within

pub filter_none : (P : ℕ → Bool) (xs : List ℕ) → ((n : ℕ) → P n ≡ false) → filter P xs ≡ []
filter_none P [] none = refl
filter_none P (x ∷ xs) none = rw (none x) (filter_none P xs none)

-- ---- connections

abilities_stay : (names : List (List ℕ)) (name : List ℕ) (xs : List (ℕ × ℕ)) → AreFunctions names xs → map (ability_named (names ++ name ∷ [])) xs ≡ map (ability_named names) xs
abilities_stay names name [] all = refl
abilities_stay names name (x ∷ xs) all =
    ap (λ (f : List ℕ). record { function = f; timeout = x.1 } ∷ map (ability_named (names ++ name ∷ [])) xs) (name_stays names name x.0 all.0)
    ∙ ap (λ (l : List Ability). ability_named names x ∷ l) (abilities_stay names name xs all.1)

are_still : (names : List (List ℕ)) (name : List ℕ) (xs : List (ℕ × ℕ)) → AreFunctions names xs → AreFunctions (names ++ name ∷ []) xs
are_still names name [] all = tt
are_still names name (x ∷ xs) all = (let long = length-append names (name ∷ []) in omega (arith, long, all.0), are_still names name xs all.1)

last_stays : (names : List (List ℕ)) (name : List ℕ) (last : Option ℕ) → IsFunction names last → option_map (name_at (names ++ name ∷ [])) last ≡ option_map (name_at names) last
last_stays names name None there = refl
last_stays names name (Some f) there = ap Some (name_stays names name f there)

is_still : (names : List (List ℕ)) (name : List ℕ) (last : Option ℕ) → IsFunction names last → IsFunction (names ++ name ∷ []) last
is_still names name None there = tt
is_still names name (Some f) there = let long = length-append names (name ∷ []) in omega (arith, long, there)

shown_stays : (names : List (List ℕ)) (name : List ℕ) (x : Connection) → NamesFunctions names x → shown (names ++ name ∷ []) x ≡ shown names x
shown_stays names name x all =
    ap (λ (l : List Ability). record (shown (names ++ name ∷ []) x) { abilities = l }) (abilities_stay names name x.abilities all.0)
    ∙ ap (λ (o : Option (List ℕ)). record (shown names x) { last = o }) (last_stays names name x.last all.1)

pub conns_mention : {k : Settings} {table : conns.Table} {names : List (List ℕ)} {facts : ConnFacts} {w : ℕ → List ℕ} (name : List ℕ) → HoldsConns k table names facts w
    → HoldsConns k table (names ++ name ∷ []) facts w
conns_mention {k} {table} {names} {facts} {w} name holds = record {
  slots = holds.slots;
  opens = holds.opens;
  seen = λ c opened. shown_stays names name (conn table c) (holds.able c) ∙ holds.seen c opened;
  waiting = holds.waiting;
  able = λ c. (are_still names name (conn table c).abilities (holds.able c).0, is_still names name (conn table c).last (holds.able c).1);
}

-- ---- functions

last_is : (names : List (List ℕ)) (name n : List ℕ) (f : ℕ) → length names ≤ f → slice_get (names ++ name ∷ []) f ≡ Some n → (f ≡ length names) × (name ≡ n)
last_is [] name n zero over at = (refl, some_same name n at)
last_is [] name n (suc f) over at = absurd cc
last_is (x ∷ names) name n zero over at = absurd (omega (arith, over))
last_is (x ∷ names) name n (suc f) over at =
    let rest = last_is names name n f (omega (arith, over)) at in
    (ap suc rest.0, rest.1)

stood : (names : List (List ℕ)) (name n : List ℕ) (f : ℕ) → f < length names → slice_get (names ++ name ∷ []) f ≡ Some n → slice_get names f ≡ Some n
stood [] name n f h at = absurd (omega (arith, h))
stood (x ∷ names) name n zero h at = at
stood (x ∷ names) name n (suc f) h at = stood names name n f (omega (arith, h)) at

itself : (name : List ℕ) → bytes_eq name name ≡ true
itself name = (bytes_eq-Decides name name).1 refl

-- a new function comes behind the others
pub number_here : (old new : Table) (name : List ℕ) → number_of name old ≡ None → ChangesNames (old.names ++ name ∷ []) old new → number_of name new ≡ Some (length old.names)
number_here old new name none changes = ap (λ (l : List (List ℕ)). number_of name (record new { names = l })) changes.names ∙ position-push (bytes_eq name) old.names name none (itself name)

module _ (k : Settings) (old new : Table) (name : List ℕ) (none : number_of name old ≡ None) (changes : ChangesNames (old.names ++ name ∷ []) old new)
    (free : IsFree (length old.names) new) where
  number_there : (g : List ℕ) (f : ℕ) → number_of g old ≡ Some f → number_of g new ≡ Some f
  number_there g f e = ap (λ (l : List (List ℕ)). number_of g (record new { names = l })) changes.names ∙ position-stays (bytes_eq g) old.names name f e

  number_nowhere : (g : List ℕ) → number_of g old ≡ None → bytes_eq g name ≡ false → number_of g new ≡ None
  number_nowhere g e other = ap (λ (l : List (List ℕ)). number_of g (record new { names = l })) changes.names ∙ position-misses (bytes_eq g) old.names name e other

  module _ {A : Type 0} (q : Option ℕ → Table → A) (nothing : A) (was : q None old ≡ nothing) (is : q None new ≡ nothing) (here : q (Some (length old.names)) new ≡ nothing)
      (same : (f : ℕ) → q (Some f) new ≡ q (Some f) old) (g : List ℕ) where
    by_name : (t : Bool) → bytes_eq g name ≡ t → number_of g old ≡ None → q (number_of g new) new ≡ q None old
    by_name true e absent =
        let one : g ≡ name = (bytes_eq-Decides g name).0 e in
        ap (λ o. q o new) (ap (λ (n : List ℕ). number_of n new) one ∙ number_here old new name none changes) ∙ (here ∙ sym was)
    by_name false e absent = ap (λ o. q o new) (number_nowhere g absent e) ∙ (is ∙ sym was)

    by_number : (o : Option ℕ) → number_of g old ≡ o → q (number_of g new) new ≡ q o old
    by_number (Some f) e = ap (λ o. q o new) (number_there g f e) ∙ same f
    by_number None e = by_name (bytes_eq g name) refl e

    -- what is asked by name is answered as before, where a new function's answer is the one of none
    asked : q (number_of g new) new ≡ q (number_of g old) old
    asked = by_number (number_of g old) refl

  pub functions_mention : (notes : List Note) → length old.names ≢ old.most → HoldsFunctions k old (function_facts notes) → HoldsFunctions k new (function_facts (Mention name ∷ notes))
  functions_mention notes room holds = record {
    most = changes.most ∙ holds.most;
    few =
        let long = length-append old.names (name ∷ []) in
        let longer = ap (λ (l : List (List ℕ)). length l) changes.names in
        let most = changes.most in
        let few = holds.few in
        omega (arith, long, longer, most, few, room);
    names = changes.names ∙ ap (λ (l : List (List ℕ)). l ++ name ∷ []) holds.names;
    distinct = λ f n at.
        let stands : slice_get (old.names ++ name ∷ []) f ≡ Some n = ap (λ (l : List (List ℕ)). slice_get l f) (sym changes.names) ∙ at in
        distinct f n stands (cases_lt f (length old.names));
    limits = λ g. asked limit_named 0 refl refl free.limit changes.limits g ∙ holds.limits g;
  }
    where
      distinct : (f : ℕ) (n : List ℕ) → slice_get (old.names ++ name ∷ []) f ≡ Some n → (f < length old.names) ⊎ (length old.names ≤ f) → number_of n new ≡ Some f
      distinct f n at (inl h) = number_there n f (holds.distinct f n (stood old.names name n f h at))
      distinct f n at (inr over) =
          let both = last_is old.names name n f over at in
          ap (λ m. number_of m new) (sym both.1) ∙ (number_here old new name none changes ∙ ap Some (sym both.0))

  -- ---- jobs

  module _ (table : jobs.Table) (is_open : ℕ → Bool) (facts : JobFacts) (functions : FunctionFacts) (known : HoldsFunctions k old functions) (holds : HoldsJobs k old table is_open facts) where
    nobody : (t : Bool) (at : JobState) → place_or None t ≡ place_of at → is_running at ≡ true → ⊥
    nobody true (states.Running c) placed runs = cc
    nobody false (states.Running c) placed runs = cc
    nobody true states.Lost placed runs = cc
    nobody false states.Lost placed runs = cc
    nobody t states.Unmade placed runs = cc
    nobody t states.Waiting placed runs = cc
    nobody t states.Ended placed runs = cc
    nobody t states.Discarded placed runs = cc

    -- no job that runs is of the function
    runs_other : (p : Priority) (n : ℕ) (o : Option Live) → job table n ≡ o → place_or o (is_made table n) ≡ place_of (facts.job_state n) → is_running (facts.job_state n) ≡ true
        → is_job_with name p (facts.job n) ≡ false
    runs_other p n (Some live) e placed runs =
        let is = holds.live n live e in
        let other = unknown known name live.function none is.function in
        rw (is.job, other) refl
    runs_other p n None e placed runs = absurd (nobody (is_made table n) (facts.job_state n) placed runs)

    none_with : (p : Priority) (n : ℕ) → runs_with name p facts n ≡ false
    none_with p n = by (is_running (facts.job_state n)) refl
      where
        by : (t : Bool) → is_running (facts.job_state n) ≡ t → (t && is_job_with name p (facts.job n)) ≡ false
        by true e = runs_other p n (job table n) refl (holds.places n) e
        by false e = refl

    pub jobs_mention : HoldsJobs k new table is_open facts
    jobs_mention = record {
      first = holds.first;
      next = holds.next;
      most = holds.most;
      made = holds.made;
      came = holds.came;
      begins = holds.begins;
      numbered = holds.numbered;
      places = holds.places;
      live = λ n found e.
          let is = holds.live n found e in
          let stays = ap (λ (l : List (List ℕ)). name_at l found.function) changes.names ∙ name_stays old.names name found.function is.function in
          record {
            function = let long = length-append old.names (name ∷ []) in let longer = ap (λ (l : List (List ℕ)). length l) changes.names in omega (arith, long, longer, is.function);
            job = is.job ∙ ap (λ (f : List ℕ). Some (record (described old.names found) { function = f })) (sym stays);
            job_state = is.job_state;
            kept = is.kept;
            listeners = is.listeners;
            report = is.report;
            deadline = is.deadline;
            heard = is.heard;
          };
      counts = holds.counts;
      queues = λ g p. asked (λ o t. jobs_named o p t) [] refl refl (ap (λ (q : Queue). q.jobs) (free.queues p)) (λ f. ap (λ (q : Queue). q.jobs) (changes.queues f p)) g ∙ holds.queues g p;
      room = λ f p within. room f p within (cases_lt f (length old.names));
    }
      where
        room : (f : ℕ) (p : Priority) → f < length new.names → (f < length old.names) ⊎ (length old.names ≤ f)
            → (queue new f p).reserved ≡ length (queue new f p).jobs + running_with (name_at new.names f) p facts
        room f p within (inl h) =
            let stays = ap (λ (l : List (List ℕ)). name_at l f) changes.names ∙ name_stays old.names name f h in
            rw (changes.queues f p, stays) (holds.room f p h)
        room f p within (inr over) =
            let long = length-append old.names (name ∷ []) in
            let longer = ap (λ (l : List (List ℕ)). length l) changes.names in
            let last : f ≡ length old.names = omega (arith, long, longer, within, over) in
            let name_is : name_at new.names f ≡ name = ap (λ (l : List (List ℕ)). name_at l f) changes.names ∙ (ap (name_at (old.names ++ name ∷ [])) last ∙ get_or_push old.names name [] (length old.names) refl) in
            let free_is : queue new f p ≡ no_jobs = ap (λ n. queue new n p) last ∙ free.queues p in
            let nobody = ap (λ (l : List ℕ). length l) (filter_none (runs_with name p facts) facts.made (none_with p)) in
            rw (free_is, name_is, nobody) refl

-- ---- functions that were taken back

take_front : (names : List (List ℕ)) (name : List ℕ) (n : ℕ) → n ≡ length names → take n (names ++ name ∷ []) ≡ names
take_front [] name n e = rw e refl
take_front (x ∷ names) name zero e = absurd (omega (arith, e))
take_front (x ∷ names) name (suc n) e = ap (λ (l : List (List ℕ)). x ∷ l) (take_front names name n (omega (arith, e)))

-- the same functions, with the same limits and queues
pub record Same (old new : Table) : Type 0 where
  pub most : new.most ≡ old.most
  pub names : new.names ≡ old.names
  pub limits : (f : ℕ) → limit new f ≡ limit old f
  pub queues : (f : ℕ) (p : Priority) → queue new f p ≡ queue old f p

pub taken_back : (old middle new : Table) (name : List ℕ) → ChangesNames (old.names ++ name ∷ []) old middle
    → ChangesNames (take (length middle.names - 1) middle.names) middle new → Same old new
taken_back old middle new name there back = record {
  most = back.most ∙ there.most;
  names =
      back.names
      ∙ (ap (λ (l : List (List ℕ)). take (length l - 1) l) there.names
      ∙ take_front old.names name (length (old.names ++ name ∷ []) - 1) (let long = length-append old.names (name ∷ []) in omega (arith, long)));
  limits = λ f. back.limits f ∙ there.limits f;
  queues = λ f p. back.queues f p ∙ there.queues f p;
}

module _ (k : Settings) (old new : Table) (same : Same old new) where
  number_same : (name : List ℕ) → number_of name new ≡ number_of name old
  number_same name = ap (λ (l : List (List ℕ)). number_of name (record old { names = l })) same.names

  limit_same : (o : Option ℕ) → limit_named o new ≡ limit_named o old
  limit_same None = refl
  limit_same (Some f) = same.limits f

  jobs_same : (o : Option ℕ) (p : Priority) → jobs_named o p new ≡ jobs_named o p old
  jobs_same None p = refl
  jobs_same (Some f) p = ap (λ (q : Queue). q.jobs) (same.queues f p)

  pub functions_same : {facts : FunctionFacts} → HoldsFunctions k old facts → HoldsFunctions k new facts
  functions_same {facts} holds = record {
    most = same.most ∙ holds.most;
    few = let few = holds.few in subst (λ (l : List (List ℕ)). length l ≤ new.most) (sym same.names) (subst (λ n. length old.names ≤ n) (sym same.most) few);
    names = same.names ∙ holds.names;
    distinct = λ f n at. number_same n ∙ holds.distinct f n (ap (λ (l : List (List ℕ)). slice_get l f) (sym same.names) ∙ at);
    limits = λ n. ap (λ o. limit_named o new) (number_same n) ∙ (limit_same (number_of n old) ∙ holds.limits n);
  }

  pub jobs_held_same : {table : jobs.Table} {is_open : ℕ → Bool} {facts : JobFacts} → HoldsJobs k old table is_open facts → HoldsJobs k new table is_open facts
  jobs_held_same {table} {is_open} {facts} holds = record {
    first = holds.first;
    next = holds.next;
    most = holds.most;
    made = holds.made;
    came = holds.came;
    begins = holds.begins;
    numbered = holds.numbered;
    places = holds.places;
    live = λ n found e. subst (λ (l : List (List ℕ)). IsJob l found facts is_open n) (sym same.names) (holds.live n found e);
    counts = holds.counts;
    queues = λ n p. ap (λ o. jobs_named o p new) (number_same n) ∙ (jobs_same (number_of n old) p ∙ holds.queues n p);
    room = λ f p within.
        let here : f < length old.names = subst (λ (l : List (List ℕ)). f < length l) same.names within in
        let names = same.names in
        let queues = same.queues f p in
        rw (queues, names) (holds.room f p here);
  }

-- its number is the last one, and it is free
pub freed : (old new : Table) (name : List ℕ) (f : ℕ) → number_of name old ≡ None → ChangesNames (old.names ++ name ∷ []) old new → number_of name new ≡ Some f → IsFree f new
    → IsFree (length new.names - 1) new
freed old new name f unnamed fresh found free =
    let here : f ≡ length old.names = some_same f (length old.names) (sym found ∙ number_here old new name unnamed fresh) in
    let long : length new.names ≡ length old.names + 1 = ap length fresh.names ∙ length-append old.names (name ∷ []) in
    let last : f ≡ length new.names - 1 = omega (arith, here, long) in
    subst (λ (n : ℕ). IsFree n new) last free
