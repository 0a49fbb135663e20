-- The lists for administrators: what the tables tell is what the past says.
use Rattle.std.proofs.Common.{◌≡◌, ℕ, zero, suc, ◌+◌, ◌<◌, ◌≤◌, Bool, true, false, ◌&&◌, if◌then◌else◌, List, [], ◌∷◌, ◌++◌}
use Rattle.std.proofs.Common.{length, filter, count_by, cond, map, drop, Option, Some, None, refl, sym, ap, ◌∙◌, arith}
use Rattle.std.specs.Prelude.{slice_get}
use Rattle.std.specs.List.{list_any}
use Rattle.std.proofs.Math.Numerals.{add-one}
use Rattle.std.proofs.lemmas.List.{map-append, append_assoc}
use Rattle.std.proofs.lemmas.List.Sums.{sum_by-cons}
use Rattle.gm_admin.specs.Answers.{StatusLine, WorkerLine}
use Rattle.gm_notes.specs.declared.note.Note.{Note}
use Rattle.gm_notes.specs.declared.states.Mode.{Mode}
use Rattle.gm_notes.specs.declared.states.Priority.TheVariants.{High, Normal, Low}
use Rattle.gm_notes.specs.Settings.{Settings}
use Rattle.gm_notes.specs.Notes.{is_open, addr, id, slots_from}
use Rattle.gm_notes.specs.Jobs.{Job, job_state, job, made, is_of, is_able, abilities, is_job_of, is_job_with, total, running, able}
use Rattle.gm_notes.specs.JobStates.{JobState, is_running}
use Rattle.gm_notes.specs.JobStates as states
use Rattle.gm_notes.specs.Past.{Past}
use Rattle.gm_notes.specs.Lines.{status_rows, worker_rows}
use Rattle.gm_conns.specs.ConnTables.{conn}
use Rattle.gm_conns.specs.Connections.{Connection}
use Rattle.gm_conns.specs.Connections as connections
use Rattle.gm_conns.specs.ConnTables as conns
use Rattle.gm_queues.specs.FunctionTables.{running_of}
use Rattle.gm_queues.specs.FunctionTables as queues
use Rattle.gm_jobs.specs.Tables as jobs
use Rattle.gm_core.specs.Facts.{Seen, conn_facts, job_facts, runs_with}
use Rattle.gm_core.specs.Holds.{name_at, ability_named, Holds}
use Rattle.gm_core.specs.Listings.{is_worker, workers, status_line_of, status_lines, worker_line_of, worker_lines}
use Rattle.gm_core.proofs.FunctionLemmas.{next_ability}
use Rattle.gm_core.proofs.CountLemmas.{one, counted, of_job, total_is, runs}
use Rattle.gm_core.proofs.WakeLemmas.{able_is}
use Rattle.std.proofs.lemmas.Option.{slice_get-get_or}

-- ---- counts and rows, one slot after another

module _ {A B : Type 0} (row_of : A → B) (line : ℕ → B) (rows : List A) (i count : ℕ) where
  pub row_next : (rest : ℕ) (row : A) → count ≡ suc rest → row_of row ≡ line i
      → map row_of (rows ++ row ∷ []) ++ map line (slots_from (i + 1) rest) ≡ map row_of rows ++ map line (slots_from i count)
  row_next rest row e is = rw (e, add-one i, map-append, append_assoc) (ap (λ (l : B). map row_of rows ++ l ∷ map line (slots_from (suc i) rest)) is)

  pub row_here : (P : ℕ → Bool) (rest : ℕ) (row : A) → count ≡ suc rest → P i ≡ true → row_of row ≡ line i
      → map row_of (rows ++ row ∷ []) ++ map line (filter P (slots_from (i + 1) rest)) ≡ map row_of rows ++ map line (filter P (slots_from i count))
  row_here P rest row e passes is = rw (e, passes, add-one i, map-append, append_assoc) (ap (λ (l : B). map row_of rows ++ l ∷ map line (filter P (slots_from (suc i) rest))) is)

  pub row_not : (P : ℕ → Bool) (rest : ℕ) → count ≡ suc rest → P i ≡ false
      → map row_of rows ++ map line (filter P (slots_from (i + 1) rest)) ≡ map row_of rows ++ map line (filter P (slots_from i count))
  row_not P rest e fails = rw (e, fails, add-one i) refl

-- ---- connections that can do a function

-- what a table has of a kind, counted by slot
counted_by_slot : (P : ℕ → Bool) (Q : Connection → Bool) (xs : List Connection) (i : ℕ) → ((c : ℕ) → c < length xs → P (i + c) ≡ Q (conns.in_slot xs c))
    → count_by Q xs ≡ length (filter P (slots_from i (length xs)))
counted_by_slot P Q [] i same = refl
counted_by_slot P Q (x ∷ xs) i same =
    let rest = counted_by_slot P Q xs (suc i) (λ c within. ap P (let e : suc i + c ≡ i + suc c = omega arith in e) ∙ same (suc c) (omega (arith, within))) in
    let here : P i ≡ Q x = ap P (let e : i ≡ i + 0 = omega arith in e) ∙ same 0 (omega arith) in
    sum_by-cons (λ y. cond (Q y) 1 0) x xs ∙ (one_more (Q x) rest ∙ sym (counted P i (slots_from (suc i) (length xs)) ∙ ap (λ t. one t + length (filter P (slots_from (suc i) (length xs)))) here))
  where
    one_more : (t : Bool) {m n : ℕ} → m ≡ n → cond t 1 0 + m ≡ one t + n
    one_more true e = omega (arith, e)
    one_more false e = omega (arith, e)

-- where no connection is in a slot, it can't do anything
pub able_are_workers : (table : conns.Table) (f : ℕ) → ((c : ℕ) → (conn table c).is_open ≡ false → conn table c ≡ connections.closed) → conns.able_count table f ≡ workers table f
able_are_workers table f ends = counted_by_slot (λ c. is_worker f (conn table c)) (connections.is_able f) table.conns 0 (λ c within. ap (λ d. is_worker f (conn table d)) (let e : 0 + c ≡ c = omega arith in e) ∙ by c (conn table c).is_open refl)
  where
    by : (c : ℕ) (t : Bool) → (conn table c).is_open ≡ t → is_worker f (conn table c) ≡ connections.is_able f (conn table c)
    by c true e = ap (λ b. b && connections.is_able f (conn table c)) e
    by c false e = rw (ends c e) refl

-- ---- the names of abilities

abbrev pub told : List (List ℕ) → List (ℕ × ℕ) → List (List ℕ)
told names xs = map (λ ability. ability.function) (map (ability_named names) xs)

pub name_next : {A : Type 0} (now : A → List ℕ) (rows : List A) (names : List (List ℕ)) (xs : List (ℕ × ℕ)) (i : ℕ) (row : A) (ability : ℕ × ℕ) → slice_get xs i ≡ Some ability
    → now row ≡ name_at names ability.0 → map now (rows ++ row ∷ []) ++ told names (drop (i + 1) xs) ≡ map now rows ++ told names (drop i xs)
name_next now rows names xs i row ability at is =
    let more = next_ability xs i ability at in
    rw (more, add-one i, map-append, append_assoc) (ap (λ (l : List ℕ). map now rows ++ l ∷ told names (drop (suc i) xs)) is)

pub there_is : (xs : List (ℕ × ℕ)) (i : ℕ) → i < length xs → slice_get xs i ≡ None → ⊥
there_is xs i within none = let wrong = sym none ∙ slice_get-get_or xs i (0, 0) within in cc

pub name_end : (names : List (List ℕ)) (xs : List (ℕ × ℕ)) (i : ℕ) → length xs ≤ i → told names (drop i xs) ≡ []
name_end names [] zero past = refl
name_end names [] (suc i) past = refl
name_end names (x ∷ xs) zero past = absurd (omega (arith, past))
name_end names (x ∷ xs) (suc i) past = name_end names xs i (omega (arith, past))

-- ---- jobs that run

running_one : (f : List ℕ) (at : JobState) (o : Option Job)
    → one (is_running at && is_job_of f o) ≡ one (is_running at && is_job_with f High o) + one (is_running at && is_job_with f Normal o) + one (is_running at && is_job_with f Low o)
running_one f states.Unmade o = refl
running_one f states.Waiting o = refl
running_one f (states.Running c) o = of_job f o
running_one f states.Lost o = of_job f o
running_one f states.Ended o = refl
running_one f states.Discarded o = refl

running_each : (f : List ℕ) (notes : List Note) (xs : List ℕ) → length (filter (λ n. is_running (job_state n notes) && is_job_of f (job n notes)) xs)
    ≡ length (filter (runs_with f High (job_facts notes)) xs) + length (filter (runs_with f Normal (job_facts notes)) xs) + length (filter (runs_with f Low (job_facts notes)) xs)
running_each f notes [] = refl
running_each f notes (x ∷ xs) =
    let rest = running_each f notes xs in
    let here = running_one f (job_state x notes) (job x notes) in
    let all = counted (λ n. is_running (job_state n notes) && is_job_of f (job n notes)) x xs in
    let a = counted (runs_with f High (job_facts notes)) x xs in
    let b = counted (runs_with f Normal (job_facts notes)) x xs in
    let c = counted (runs_with f Low (job_facts notes)) x xs in
    omega (arith, rest, here, all, a, b, c)

-- ---- lists

-- what is told of numbers is told of the names that stand there
by_number : {B : Type 0} (names : List (List ℕ)) (i : ℕ) (g : ℕ → B) (h : List ℕ → B) → ((f : ℕ) → f < length names → g (i + f) ≡ h (name_at names f))
    → map g (slots_from i (length names)) ≡ map h names
by_number [] i g h each = refl
by_number {B} (x ∷ names) i g h each =
    let first : g i ≡ h x = ap g (let none : i ≡ i + 0 = omega arith in none) ∙ each 0 (omega arith) in
    let rest : map g (slots_from (suc i) (length names)) ≡ map h names =
    by_number names (suc i) g h (λ f within. ap g (let same : suc i + f ≡ i + suc f = omega arith in same) ∙ each (suc f) (omega (arith, within))) in
    (λ j. first j ∷ rest j)

where_passed : {B : Type 0} (P : ℕ → Bool) (g h : ℕ → B) → ((c : ℕ) → P c ≡ true → g c ≡ h c) → (xs : List ℕ) → map g (filter P xs) ≡ map h (filter P xs)
where_passed P g h same [] = refl
where_passed {B} P g h same (x ∷ xs) = by (P x) refl (where_passed P g h same xs)
  where
    by : (t : Bool) → P x ≡ t → map g (filter P xs) ≡ map h (filter P xs) → map g (if t then x ∷ filter P xs else filter P xs) ≡ map h (if t then x ∷ filter P xs else filter P xs)
    by true e rest = (λ j. same x e j ∷ rest j)
    by false e rest = rest

both_open : (t a b : Bool) → (t ≡ true → a ≡ b) → (t && a) ≡ (t && b)
both_open true a b same = same refl
both_open false a b same = refl

module _ {k : Settings} {table : conns.Table} {functions : queues.Table} {live : jobs.Table} {now : ℕ} {goes : Mode} {p : Past} (holds : Holds k table functions live now goes p) where
  module _ (f : ℕ) (within : f < length functions.names) where
    running_is : running (name_at functions.names f) p.notes ≡ running_of functions f
    running_is =
        let a = runs k functions live (conn_facts p.notes).is_open p.notes _ holds.functions holds.jobs f within High in
        let b = runs k functions live (conn_facts p.notes).is_open p.notes _ holds.functions holds.jobs f within Normal in
        let c = runs k functions live (conn_facts p.notes).is_open p.notes _ holds.functions holds.jobs f within Low in
        let all = running_each (name_at functions.names f) p.notes (made p.notes) in
        omega (arith, a, b, c, all)

    worker_is : (c : ℕ) → is_worker f (conn table c) ≡ (is_open c p.notes && is_able c (name_at functions.names f) p.notes)
    worker_is c =
        ap (λ b. b && connections.is_able f (conn table c)) (holds.conns.opens c)
        ∙ both_open (is_open c p.notes) (connections.is_able f (conn table c)) (is_able c (name_at functions.names f) p.notes)
        (λ opened. sym (able_is holds.functions f within (conn table c).abilities (holds.conns.able c).0) ∙ ap (λ (s : Seen). list_any (is_of (name_at functions.names f)) s.abilities) (holds.conns.seen c opened))

    workers_are : workers table f ≡ able k (name_at functions.names f) p.notes
    workers_are = (λ i. length (filter (λ c. worker_is c i) (slots_from 0 (holds.conns.slots i))))

    status_line_is : status_line_of table functions f
        ≡ record { name = name_at functions.names f; total = total (name_at functions.names f) p.notes; running = running (name_at functions.names f) p.notes; workers = able k (name_at functions.names f) p.notes }
    status_line_is =
        let all = total_is k functions live (conn_facts p.notes).is_open p.notes _ holds.functions holds.jobs f within in
        (λ i. record { name = name_at functions.names f; total = sym all i; running = sym running_is i; workers = workers_are i })

  -- a line for each function
  pub status_lines_are : status_lines table functions ≡ status_rows k p.notes
  status_lines_are =
      let line : List ℕ → StatusLine = (λ name. record { name = name; total = total name p.notes; running = running name p.notes; workers = able k name p.notes }) in
      by_number functions.names 0 (status_line_of table functions) line (λ f within. ap (status_line_of table functions) (let same : 0 + f ≡ f = omega arith in same) ∙ status_line_is f within) ∙ ap (map line) holds.functions.names

  -- a line for each open connection
  pub worker_lines_are : worker_lines table functions ≡ worker_rows k p.notes
  worker_lines_are =
      let line : Seen → ℕ → WorkerLine = (λ s c. record { slot = c; addr = s.addr; id = s.id; functions = map (λ ability. ability.function) s.abilities }) in
      (λ i. map (worker_line_of table functions) (filter (λ c. holds.conns.opens c i) (slots_from 0 (holds.conns.slots i))))
      ∙ where_passed (λ c. is_open c p.notes) (worker_line_of table functions)
      (λ c. record { slot = c; addr = addr c p.notes; id = id c p.notes; functions = map (λ ability. ability.function) (abilities c p.notes) })
      (λ c opened. ap (λ (s : Seen). line s c) (holds.conns.seen c opened)) (slots_from 0 k.slots)
