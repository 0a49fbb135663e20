-- What searches over the notes find.
use Rattle.std.proofs.Common.{◌≡◌, ℕ, Bool, true, false, cond, ◌&&◌, ◌||◌, List, [], ◌∷◌, ◌++◌, find, Option, Some, None}
use Rattle.std.proofs.Common.{refl, sym, ap, subst, ◌∙◌}
use Rattle.std.specs.Prelude.{◌==◌}
use Rattle.std.specs.List.{All, list_any}
use Rattle.std.specs.Option.{option_or}
use Rattle.std.specs.Str.{bytes_eq}
use Rattle.std.proofs.lemmas.Bool.{and_parts, and_from, or_left, or_right}
use Rattle.std.proofs.lemmas.Slice.Eq.{bytes_eq-Decides}
use Rattle.std.proofs.lemmas.List.Elements.{All-head, All-append, All-weaker, filter_passes}
use Rattle.std.proofs.lemmas.Option.{same_Some}
use Rattle.gm_notes.specs.declared.note.Note.{Note}
use Rattle.gm_notes.specs.declared.note.Note.TheVariants.{Stirred}
use Rattle.gm_notes.specs.declared.states.Priority.{Priority}
use Rattle.gm_notes.specs.declared.states.Priority.TheVariants.{High, Normal, Low}
use Rattle.gm_notes.specs.Jobs.{Job, Ability, job_state, job, is_job_of, is_job_named, is_job_with, is_queued, same_priority}
use Rattle.gm_notes.specs.Jobs.{as_they_came, queue, waiting_for, first_of, pick_from, pick_with, pick_highest, pick, joins, joined, made, scan}
use Rattle.gm_notes.specs.Jobs.{is_of, is_able, abilities}
use Rattle.gm_notes.specs.Jobs.{is_empty}
use Rattle.gm_notes.specs.declared.states.Pick.{Pick}
use Rattle.gm_notes.specs.JobStates.{JobState, is_waiting, is_live}
use Rattle.gm_notes.specs.JobStates as states
use Rattle.gm_notes.specs.Settings.{Settings}
use Rattle.gm_notes.proofs.Scans.{scan_members}
use Rattle.gm_history.specs.History.{is_able_within}
use Rattle.gm_history.specs.History.{HasWork}
use Rattle.gm_notes.proofs.Numbers.{same_number}

-- ---- what searches find

found_at : {X : Type 0} (test : X → Bool) (x : X) (xs : List X) (y : X) (t : Bool) → test x ≡ t → (find test xs ≡ Some y → test y ≡ true) → cond t (Some x) (find test xs) ≡ Some y → test y ≡ true
found_at test x xs y true is rest e = subst (λ z. test z ≡ true) (same_Some x y e) is
found_at test x xs y false is rest e = rest e

pub found_passes : {X : Type 0} (test : X → Bool) (xs : List X) (y : X) → find test xs ≡ Some y → test y ≡ true
found_passes test [] y e = absurd cc
found_passes test (x ∷ xs) y e = found_at test x xs y (test x) refl (found_passes test xs y) e

if_some : {X : Type 0} (t : Bool) (o : Option X) (x : X) → cond t o None ≡ Some x → o ≡ Some x
if_some true o x e = e
if_some false o x e = absurd cc

-- a job of this function and unique id
abbrev pub IsNamed : List ℕ → List ℕ → Option Job → Type 0
IsNamed f u found = (what : Job) × (found ≡ Some what) × (f ≡ what.function) × (u ≡ what.unique)

pub named_is : (f u : List ℕ) (o : Option Job) → is_job_named f u o ≡ true → IsNamed f u o
named_is f u None e = absurd cc
named_is f u (Some what) e =
    let p = and_parts (bytes_eq what.function f) (bytes_eq what.unique u) e in
    (what, refl, sym ((bytes_eq-Decides what.function f).0 p.0), sym ((bytes_eq-Decides what.unique u).0 p.1))

-- the job that is joined: the id joins, the job is live, and of this function and unique id
pub record Joined (f u : List ℕ) (notes : List Note) (n : ℕ) : Type 0 where
  pub joins : joins u ≡ true
  pub lives : is_live (job_state n notes) ≡ true
  pub named : IsNamed f u (job n notes)

joins_if : (t : Bool) (o : Option ℕ) (n : ℕ) → cond t o None ≡ Some n → t ≡ true
joins_if true o n e = refl
joins_if false o n e = absurd cc

pub joined_is : (f u : List ℕ) (notes : List Note) (n : ℕ) → joined f u notes ≡ Some n → Joined f u notes n
joined_is f u notes n e =
    let p = and_parts (is_live (job_state n notes)) (is_job_named f u (job n notes))
    (found_passes (λ m. is_live (job_state m notes) && is_job_named f u (job m notes)) (made notes) n
    (if_some (joins u) (find (λ m. is_live (job_state m notes) && is_job_named f u (job m notes)) (made notes)) n e)) in
    record { joins = joins_if (joins u) _ n e; lives = p.0; named = named_is f u (job n notes) p.1 }

-- the job waits, and is of this function
abbrev pub WaitsFor : List ℕ → List Note → ℕ → Type 0
WaitsFor f notes n = (is_waiting (job_state n notes) ≡ true) × (is_job_of f (job n notes) ≡ true)

of_function : (f : List ℕ) (p : Priority) (o : Option Job) → is_job_with f p o ≡ true → is_job_of f o ≡ true
of_function f p None e = absurd cc
of_function f p (Some what) e = (and_parts (bytes_eq what.function f) (same_priority what.priority p) e).0

queued_waits : (f : List ℕ) (p : Priority) (notes : List Note) (n : ℕ) → is_queued f p notes n ≡ true → WaitsFor f notes n
queued_waits f p notes n e =
    let parts = and_parts (is_waiting (job_state n notes)) (is_job_with f p (job n notes)) e in (parts.0, of_function f p (job n notes) parts.1)

queue_waits : (f : List ℕ) (p : Priority) (notes : List Note) → All (WaitsFor f notes) (queue f p notes)
queue_waits f p notes =
    All-weaker (λ n. is_queued f p notes n ≡ true) (WaitsFor f notes) (queued_waits f p notes) (queue f p notes)
    (filter_passes (is_queued f p notes) (as_they_came notes))

pub waiting_for_waits : (f : List ℕ) (notes : List Note) → All (WaitsFor f notes) (waiting_for f notes)
waiting_for_waits f notes =
    All-append (WaitsFor f notes) (queue f High notes ++ queue f Normal notes) (queue f Low notes)
    (All-append (WaitsFor f notes) (queue f High notes) (queue f Normal notes) (queue_waits f High notes) (queue_waits f Normal notes))
    (queue_waits f Low notes)

-- the job found waits for one of the abilities, whose seconds are the pick's
abbrev Within : List ℕ → ℕ → List Ability → Type 0
Within f seconds all = list_any (λ ability. is_of f ability && ability.timeout == seconds) all ≡ true

abbrev pub Found : List Ability → List Note → Pick → Type 0
Found all notes found = (f : List ℕ) × WaitsFor f notes found.job × Within f found.timeout all

within_now : (ability : Ability) (all : List Ability) → Within ability.function ability.timeout (ability ∷ all)
within_now ability all =
    or_left (is_of ability.function ability && ability.timeout == ability.timeout) (list_any (λ other. is_of ability.function other && other.timeout == ability.timeout) all)
    (and_from (is_of ability.function ability) (ability.timeout == ability.timeout) ((bytes_eq-Decides ability.function ability.function).1 refl) (same_number ability.timeout))

found_later : (ability : Ability) (all : List Ability) (notes : List Note) (found : Pick) → Found all notes found → Found (ability ∷ all) notes found
found_later ability all notes found f =
    (f.0, f.1, or_right (is_of f.0 ability && ability.timeout == found.timeout) (list_any (λ other. is_of f.0 other && other.timeout == found.timeout) all) f.2)

first_waits : (ability : Ability) (all : List Ability) (ns : List ℕ) (found : Pick) (notes : List Note) (o : Option Pick) → All (WaitsFor ability.function notes) ns → (o ≡ Some found → Found all notes found)
    → first_of ns ability.timeout o ≡ Some found → Found (ability ∷ all) notes found
first_waits ability all [] found notes o each rest e = found_later ability all notes found (rest e)
first_waits ability all (n ∷ ns) found notes o each rest e =
    subst (Found (ability ∷ all) notes) (same_Some (record { job = n; timeout = ability.timeout }) found e)
    (ability.function, All-head (WaitsFor ability.function notes) n ns each, within_now ability all)

pick_from_waits : (abilities : List Ability) (found : Pick) (notes : List Note) → pick_from abilities notes ≡ Some found → Found abilities notes found
pick_from_waits [] found notes e = absurd cc
pick_from_waits (ability ∷ abilities) found notes e =
    first_waits ability abilities (waiting_for ability.function notes) found notes (pick_from abilities notes) (waiting_for_waits ability.function notes) (pick_from_waits abilities found notes) e

pick_with_waits : (p : Priority) (abilities : List Ability) (found : Pick) (notes : List Note) → pick_with p abilities notes ≡ Some found → Found abilities notes found
pick_with_waits p [] found notes e = absurd cc
pick_with_waits p (ability ∷ abilities) found notes e =
    first_waits ability abilities (queue ability.function p notes) found notes (pick_with p abilities notes) (queue_waits ability.function p notes) (pick_with_waits p abilities found notes) e

either_is : {X : Type 0} (P : X → Type 0) (o other : Option X) (x : X) → (o ≡ Some x → P x) → (other ≡ Some x → P x) → option_or o other ≡ Some x → P x
either_is P None other x here there e = there e
either_is P (Some y) other x here there e = here e

pick_highest_waits : (abilities : List Ability) (found : Pick) (notes : List Note) → pick_highest abilities notes ≡ Some found → Found abilities notes found
pick_highest_waits abilities found notes e =
    let lower = either_is (Found abilities notes) (pick_with Normal abilities notes) (pick_with Low abilities notes) found (pick_with_waits Normal abilities found notes) (pick_with_waits Low abilities found notes) in
    either_is (Found abilities notes) (pick_with High abilities notes) (option_or (pick_with Normal abilities notes) (pick_with Low abilities notes)) found (pick_with_waits High abilities found notes) lower e

picked_waits : (t : Bool) (abilities : List Ability) (found : Pick) (notes : List Note) → cond t (pick_highest abilities notes) (pick_from abilities notes) ≡ Some found → Found abilities notes found
picked_waits true abilities found notes e = pick_highest_waits abilities found notes e
picked_waits false abilities found notes e = pick_from_waits abilities found notes e

pub pick_found : (k : Settings) (c : ℕ) (found : Pick) (notes : List Note) → pick k c notes ≡ Some found
    → (f : List ℕ) × WaitsFor f notes found.job × (is_able_within c f found.timeout notes ≡ true)
pick_found k c found notes e =
    let there = picked_waits k.as_gearmand (scan k c notes) found notes e in
    (there.0, there.1, sym (scan_members k c notes (λ ability. is_of there.0 ability && ability.timeout == found.timeout)) ∙ there.2)

weaker_at : (a b more later : Bool) → (a ≡ true → b ≡ true) → (more ≡ true → later ≡ true) → (a || more) ≡ true → (b || later) ≡ true
weaker_at true b more later here rest e = or_left b later (here refl)
weaker_at false b more later here rest e = or_right b later (rest e)

any_weaker : (p q : Ability → Bool) → ((x : Ability) → p x ≡ true → q x ≡ true) → (all : List Ability) → list_any p all ≡ true → list_any q all ≡ true
any_weaker p q more [] e = e
any_weaker p q more (x ∷ all) e = weaker_at (p x) (q x) (list_any p all) (list_any q all) (more x) (any_weaker p q more all) e

-- who can do a job within some seconds can do it
pub within_able : (c : ℕ) (f : List ℕ) (seconds : ℕ) (notes : List Note) → is_able_within c f seconds notes ≡ true → is_able c f notes ≡ true
within_able c f seconds notes e =
    any_weaker (λ ability. is_of f ability && ability.timeout == seconds) (is_of f) (λ ability is. (and_parts (is_of f ability) (ability.timeout == seconds) is).0) (abilities c notes) e

-- ---- a job that waits for a function

pub waiting_is : (state : JobState) → is_waiting state ≡ true → state ≡ states.Waiting
waiting_is states.Waiting e = refl
waiting_is states.Unmade e = absurd cc
waiting_is (states.Running d) e = absurd cc
waiting_is states.Lost e = absurd cc
waiting_is states.Ended e = absurd cc
waiting_is states.Discarded e = absurd cc

-- a job of the function waits
abbrev pub IsWork : List ℕ → List Note → Type 0
IsWork f notes = (n : ℕ) × (what : Job) × (job_state n notes ≡ states.Waiting) × (job n notes ≡ Some what) × (what.function ≡ f)

pub job_of : (f : List ℕ) (o : Option Job) → is_job_of f o ≡ true → (what : Job) × (o ≡ Some what) × (what.function ≡ f)
job_of f None e = absurd cc
job_of f (Some what) e = (what, refl, (bytes_eq-Decides what.function f).0 e)

pub waits_work : (f : List ℕ) (notes : List Note) (n : ℕ) → WaitsFor f notes n → IsWork f notes
waits_work f notes n w = let j = job_of f (job n notes) w.1 in (n, j.0, waiting_is (job_state n notes) w.0, j.1, j.2)

pub waiting_work : (f : List ℕ) (notes : List Note) → is_empty (waiting_for f notes) ≡ false → IsWork f notes
waiting_work f notes e = by (waiting_for f notes) (waiting_for_waits f notes) e
  where
    by : (ns : List ℕ) → All (WaitsFor f notes) ns → is_empty ns ≡ false → IsWork f notes
    by [] each e = absurd cc
    by (n ∷ ns) each e = waits_work f notes n (All-head (WaitsFor f notes) n ns each)

-- who can do it has work
pub work_for : (c : ℕ) (f : List ℕ) (notes : List Note) → IsWork f notes → is_able c f notes ≡ true → HasWork c notes
work_for c f notes w able = (w.0, w.1, w.2, w.3, ap (λ g. is_able c g notes) w.4 ∙ able)

pub pick_waits : (k : Settings) (c : ℕ) (found : Pick) (notes : List Note) → pick k c notes ≡ Some found → is_waiting (job_state found.job notes) ≡ true
pick_waits k c found notes e = (pick_found k c found notes e).1.0

pub pick_work : (k : Settings) (c : ℕ) (found : Pick) (notes : List Note) → pick k c notes ≡ Some found → HasWork c notes
pick_work k c found notes e =
    let there = pick_found k c found notes e in
    work_for c there.0 notes (waits_work there.0 notes found.job there.1) (within_able c there.0 found.timeout notes there.2)

stirred_picks : (c : ℕ) (abilities : List Ability) (notes : List Note) → pick_from abilities (Stirred c ∷ notes) ≡ pick_from abilities notes
stirred_picks c [] notes = refl
stirred_picks c (ability ∷ abilities) notes = ap (first_of (waiting_for ability.function notes) ability.timeout) (stirred_picks c abilities notes)

stirred_with : (p : Priority) (c : ℕ) (abilities : List Ability) (notes : List Note) → pick_with p abilities (Stirred c ∷ notes) ≡ pick_with p abilities notes
stirred_with p c [] notes = refl
stirred_with p c (ability ∷ abilities) notes = ap (first_of (queue ability.function p notes) ability.timeout) (stirred_with p c abilities notes)

-- a stirring changes no pick
pub stirred_pick : (k : Settings) (c : ℕ) (notes : List Note) → pick k c (Stirred c ∷ notes) ≡ pick k c notes
stirred_pick k c notes = by k.as_gearmand
  where
    by : (t : Bool) → cond t (pick_highest (scan k c notes) (Stirred c ∷ notes)) (pick_from (scan k c notes) (Stirred c ∷ notes)) ≡ cond t (pick_highest (scan k c notes) notes) (pick_from (scan k c notes) notes)
    by true = simp (stirred_with High c (scan k c notes) notes, stirred_with Normal c (scan k c notes) notes, stirred_with Low c (scan k c notes) notes)
    by false = stirred_picks c (scan k c notes) notes
