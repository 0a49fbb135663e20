-- What `status`, `workers`, `version` and ECHO_REQ are answered is true.
use Rattle.std.proofs.Common.{◌≡◌, ◌⊎◌, inl, inr, ℕ, zero, suc, ◌+◌, ◌<◌, ◌≤◌, Bool, true, false, cond, ◌&&◌, ◌||◌, List, [], ◌∷◌, ◌++◌, length, map, filter}
use Rattle.std.proofs.Common.{Some, None, Ok, refl, sym, ap, subst, ◌∙◌, arith, append_assoc, Option}
use Rattle.std.specs.Prelude.{◌==◌, unwrap_or}
use Rattle.std.specs.List.{All}
use Rattle.std.proofs.lemmas.Bool.{and_parts, and_from, or_left, or_right}
use Rattle.std.proofs.lemmas.Bool.Decides.{nat_tests}
use Rattle.std.proofs.lemmas.List.{append-nil}
use Rattle.std.proofs.lemmas.List.Elements.{All-nil, All-cons, All-map}
use Rattle.std.proofs.lemmas.Slice.Eq.{bytes_eq-Decides}
use Rattle.gm_packet.specs.declared.kind.Kind.TheVariants.{EchoReq, SetClientId}
use Rattle.gm_packet.specs.Requests.{Asked}
use Rattle.gm_packet.specs.Answers.{echo_res}
use Rattle.gm_admin.specs.Commands.{Commanded, Status, Workers, Version}
use Rattle.gm_admin.specs.Answers.{StatusLine, WorkerLine}
use Rattle.gm_notes.specs.declared.note.Note.{Note}
use Rattle.gm_notes.specs.declared.note.Note.TheVariants as notes
use Rattle.gm_notes.specs.Settings.{Settings}
use Rattle.gm_notes.specs.Notes.{is_open, takes_units, addr, id, slots_from}
use Rattle.gm_notes.specs.Jobs.{Ability, job_state, job, made, functions, abilities, is_able, is_live_of, is_job_of, total, running, able}
use Rattle.gm_notes.specs.JobStates.{is_live, is_running}
use Rattle.gm_notes.specs.Past.{Past, give}
use Rattle.gm_notes.specs.Requests.{first, request}
use Rattle.gm_notes.specs.Lines.{status_rows, worker_rows, command}
use Rattle.gm_notes.specs.Steps.{Step, Open, free_from, free_slot, opening, unless, refusal, step, run}
use Rattle.gm_notes.specs.declared.event.ApplyError.{ApplyError}
use Rattle.std.proofs.lemmas.Option.{same_Some}
use Rattle.gm_history.specs.History.{Allowed, History}
use Rattle.gm_history.specs.Causes.{Caused, PacketAsks, closes}
use Rattle.gm_history.proofs.Finding.{job_of}
use Rattle.gm_history.proofs.StepsKeep.{run_history}
use Rattle.gm_history.proofs.Caused.{note_law}
use Rattle.gm_laws.specs.Laws.{AreConsecutive}
use Rattle.gm_laws.specs.Answered.{IsCommanded}
use Rattle.gm_laws.specs.Firsts.{functions_of}
use Rattle.gm_laws.specs.Lines.{is_in, AreApart, Counts, IsOf, IsTrueOf, StatusTells, IsRising, AreOpenSlots, IsOfConnection, WorkersTells, AdminTellsTheTruth}
use Rattle.gm_laws.specs.Lines.{FunctionsGrow, ConnectionsAreNamed}
use Rattle.gm_laws.proofs.JobLaws.{has_place, places, live_place, running_place, below_next}
use Rattle.gm_laws.proofs.Moving.{both_not}
use Rattle.gm_laws.proofs.NumberLaws.{numbers, slots}
use Rattle.gm_laws.proofs.Taken.{request_does, line_does}
use Rattle.gm_notes.proofs.Numbers.{same_number}
use Rattle.std.proofs.lemmas.Bool.{eqb-true}

-- ---- lists of numbers

in_filtered : (test : ℕ → Bool) (n : ℕ) (ms : List ℕ) → is_in n (filter test ms) ≡ true → (is_in n ms ≡ true) × (test n ≡ true)
in_filtered test n [] e = absurd cc
in_filtered test n (m ∷ ms) e = by (test m) (m == n) refl refl (in_filtered test n ms) e
  where
    by : (t u : Bool) → test m ≡ t → (m == n) ≡ u → (is_in n (filter test ms) ≡ true → (is_in n ms ≡ true) × (test n ≡ true)) → is_in n (cond t (m ∷ filter test ms) (filter test ms)) ≡ true
        → ((u || is_in n ms) ≡ true) × (test n ≡ true)
    by true true passes same rest e = (refl, ap test (sym (eqb-true m n same)) ∙ passes)
    by true false passes other rest e = rest (sym (ap (λ x. x || is_in n (filter test ms)) other) ∙ e)
    by false u passes same rest e = let r = rest e in (or_right u (is_in n ms) r.0, r.1)

in_kept : (test : ℕ → Bool) (n : ℕ) (ms : List ℕ) → is_in n ms ≡ true → test n ≡ true → is_in n (filter test ms) ≡ true
in_kept test n [] e passes = absurd cc
in_kept test n (m ∷ ms) e passes = by (test m) (m == n) refl refl (λ f. in_kept test n ms f passes) e
  where
    by : (t u : Bool) → test m ≡ t → (m == n) ≡ u → (is_in n ms ≡ true → is_in n (filter test ms) ≡ true) → (u || is_in n ms) ≡ true → is_in n (cond t (m ∷ filter test ms) (filter test ms)) ≡ true
    by true true is same rest e = or_left (m == n) (is_in n (filter test ms)) same
    by true false is other rest e = or_right (m == n) (is_in n (filter test ms)) (rest e)
    by false true is same rest e = absurd (both_not (test m) (ap test (eqb-true m n same) ∙ passes) is)
    by false false is other rest e = rest e

-- what isn't there isn't there once some are left out
apart_filtered : (test : ℕ → Bool) (ms : List ℕ) → AreApart ms → AreApart (filter test ms)
apart_filtered test [] a = tt
apart_filtered test (m ∷ ms) a = by (test m) (apart_filtered test ms a.1)
  where
    none : (t : Bool) → is_in m (filter test ms) ≡ t → t ≡ false
    none true is = absurd (both_not (is_in m ms) (in_filtered test m ms is).0 a.0)
    none false is = refl

    by : (t : Bool) → AreApart (filter test ms) → AreApart (cond t (m ∷ filter test ms) (filter test ms))
    by true rest = (none (is_in m (filter test ms)) refl, rest)
    by false rest = rest

rising_filtered : (test : ℕ → Bool) (ms : List ℕ) → IsRising ms → IsRising (filter test ms)
rising_filtered test [] r = tt
rising_filtered test (m ∷ ms) r = by (test m) (rising_filtered test ms r.1)
  where
    by : (t : Bool) → IsRising (filter test ms) → IsRising (cond t (m ∷ filter test ms) (filter test ms))
    by true rest = ((λ d e. r.0 d (in_filtered test d ms e).0), rest)
    by false rest = rest

rising_apart : (ms : List ℕ) → IsRising ms → AreApart ms
rising_apart [] r = tt
rising_apart (m ∷ ms) r = (by (is_in m ms) refl, rising_apart ms r.1)
  where
    by : (t : Bool) → is_in m ms ≡ t → t ≡ false
    by true is = let lt = r.0 m is in absurd (omega arith)
    by false is = refl

-- the numbers made are apart
pub made_apart : (k : Settings) (ms : List ℕ) → AreConsecutive k ms → AreApart ms
made_apart k [] h = tt
made_apart k (m ∷ ms) h = (by (is_in m ms) refl, made_apart k ms h.2)
  where
    by : (t : Bool) → is_in m ms ≡ t → t ≡ false
    by true is = let lt = below_next k ms m h.2 is in let same = h.0 in absurd (omega arith)
    by false is = refl

slots_above : (d c n : ℕ) → is_in d (slots_from c n) ≡ true → c ≤ d
slots_above d c zero e = absurd cc
slots_above d c (suc n) e = by (c == d) refl (slots_above d (suc c) n) e
  where
    by : (t : Bool) → (c == d) ≡ t → (is_in d (slots_from (suc c) n) ≡ true → suc c ≤ d) → (t || is_in d (slots_from (suc c) n)) ≡ true → c ≤ d
    by true same rest e = let is = eqb-true c d same in omega arith
    by false other rest e = let le = rest e in omega arith

slots_rise : (c n : ℕ) → IsRising (slots_from c n)
slots_rise c zero = tt
slots_rise c (suc n) = ((λ d e. let le = slots_above d (suc c) n e in omega arith), slots_rise (suc c) n)

slots_there : (d c n : ℕ) → c ≤ d → d < c + n → is_in d (slots_from c n) ≡ true
slots_there d c zero low high = absurd (omega arith)
slots_there d c (suc n) low high = by (c == d) refl (slots_there d (suc c) n)
  where
    by : (t : Bool) → (c == d) ≡ t → (suc c ≤ d → d < suc c + n → is_in d (slots_from (suc c) n) ≡ true) → (t || is_in d (slots_from (suc c) n)) ≡ true
    by true same rest = refl
    by false other rest = let apart : c < d = grind (arith, nat_tests) in rest (omega arith) (omega arith)

each : {X : Type 0} (P : X → Type 0) → ((x : X) → P x) → (xs : List X) → All P xs
each P h [] = All-nil P
each P h (x ∷ xs) = All-cons P x xs (h x) (each P h xs)

back : {X Y : Type 0} (f : X → Y) (g : Y → X) → ((y : Y) → f (g y) ≡ y) → (ys : List Y) → map f (map g ys) ≡ ys
back f g h [] = refl
back f g h (y ∷ ys) = ap (λ x. x ∷ map f (map g ys)) (h y) ∙ ap (λ l. y ∷ l) (back f g h ys)

-- ---- rows

module _ (k : Settings) (l : List Note) (history : History k l) where
  counts_jobs : (P : ℕ → Type 0) (test : ℕ → Bool) → ((n : ℕ) → test n ≡ true → P n) → ((n : ℕ) → P n → (test n ≡ true) × (has_place (job_state n l) ≡ true)) → Counts P (length (filter test (made l)))
  counts_jobs P test sound complete = (
    filter test (made l),
    refl,
    apart_filtered test (made l) (made_apart k (made l) (numbers k l history)),
    λ n. (
      (λ e. sound n (in_filtered test n (made l) e).1),
      λ p. let c = complete n p in in_kept test n (made l) (sym (places k l history n) ∙ c.1) c.0,
    ),
  )

  is_of_it : (f : List ℕ) (n : ℕ) → IsOf f l n → is_job_of f (job n l) ≡ true
  is_of_it f n it = ap (is_job_of f) it.1 ∙ (bytes_eq-Decides it.0.function f).1 it.2

  counts_total : (f : List ℕ) → Counts (λ n. IsOf f l n × (is_live (job_state n l) ≡ true)) (total f l)
  counts_total f =
      counts_jobs (λ n. IsOf f l n × (is_live (job_state n l) ≡ true)) (is_live_of f l)
      (λ n e. let p = and_parts (is_live (job_state n l)) (is_job_of f (job n l)) e in (job_of f (job n l) p.1, p.0))
      (λ n p. (and_from (is_live (job_state n l)) (is_job_of f (job n l)) p.1 (is_of_it f n p.0), live_place (job_state n l) p.1))

  counts_running : (f : List ℕ) → Counts (λ n. IsOf f l n × (is_running (job_state n l) ≡ true)) (running f l)
  counts_running f =
      counts_jobs (λ n. IsOf f l n × (is_running (job_state n l) ≡ true)) (λ n. is_running (job_state n l) && is_job_of f (job n l))
      (λ n e. let p = and_parts (is_running (job_state n l)) (is_job_of f (job n l)) e in (job_of f (job n l) p.1, p.0))
      (λ n p. (and_from (is_running (job_state n l)) (is_job_of f (job n l)) p.1 (is_of_it f n p.0), running_place (job_state n l) p.1))

  counts_able : (f : List ℕ) → Counts (λ c. (is_open c l ≡ true) × (is_able c f l ≡ true)) (able k f l)
  counts_able f = (
    filter (λ c. is_open c l && is_able c f l) (slots_from 0 k.slots),
    refl,
    rising_apart (filter (λ c. is_open c l && is_able c f l) (slots_from 0 k.slots)) (rising_filtered (λ c. is_open c l && is_able c f l) (slots_from 0 k.slots) (slots_rise 0 k.slots)),
    λ c. (
      (λ e. and_parts (is_open c l) (is_able c f l) (in_filtered (λ c. is_open c l && is_able c f l) c (slots_from 0 k.slots) e).1),
      λ p. let lt = slots k l history c p.0 in
          in_kept (λ c. is_open c l && is_able c f l) c (slots_from 0 k.slots) (slots_there c 0 k.slots (omega arith) (omega arith)) (and_from (is_open c l) (is_able c f l) p.0 p.1),
    ),
  )

  abbrev status_row : List ℕ → StatusLine
  status_row f = record { name = f; total = total f l; running = running f l; workers = able k f l }

  status_true : (map (λ (row : StatusLine). row.name) (status_rows k l) ≡ functions l) × All (IsTrueOf l) (status_rows k l)
  status_true = (
    back (λ (row : StatusLine). row.name) status_row (λ f. refl) (functions l),
    All-map (IsTrueOf l) status_row (functions l) (each (λ f. IsTrueOf l (status_row f)) (λ f. (counts_total f, counts_running f, counts_able f)) (functions l)),
  )

  abbrev worker_row : ℕ → WorkerLine
  worker_row c = record { slot = c; addr = addr c l; id = id c l; functions = map (λ (ability : Ability). ability.function) (abilities c l) }

  abbrev opened : List ℕ
  opened = filter (λ c. is_open c l) (slots_from 0 k.slots)

  opened_so : AreOpenSlots l opened
  opened_so = (
    rising_filtered (λ c. is_open c l) (slots_from 0 k.slots) (slots_rise 0 k.slots),
    λ c. by c (is_open c l) refl,
  )
    where
      none : (c : ℕ) → is_open c l ≡ false → (t : Bool) → is_in c (filter (λ c. is_open c l) (slots_from 0 k.slots)) ≡ t → t ≡ false
      none c shut true is = absurd (both_not (is_open c l) (in_filtered (λ c. is_open c l) c (slots_from 0 k.slots) is).1 shut)
      none c shut false is = refl

      by : (c : ℕ) (t : Bool) → is_open c l ≡ t → is_in c (filter (λ c. is_open c l) (slots_from 0 k.slots)) ≡ t
      by c true is = let lt = slots k l history c is in in_kept (λ c. is_open c l) c (slots_from 0 k.slots) (slots_there c 0 k.slots (omega arith) (omega arith)) is
      by c false is = none c is (is_in c (filter (λ c. is_open c l) (slots_from 0 k.slots))) refl

  workers_true : AreOpenSlots l (map (λ (row : WorkerLine). row.slot) (worker_rows k l)) × All (IsOfConnection l) (worker_rows k l)
  workers_true = (
    subst (AreOpenSlots l) (sym (back (λ (row : WorkerLine). row.slot) worker_row (λ c. refl) opened)) opened_so,
    All-map (IsOfConnection l) worker_row opened (each (λ c. IsOfConnection l (worker_row c)) (λ c. (refl, refl, refl)) opened),
  )

-- ---- answers

module _ (k : Settings) (s : Step) (start : Past) (history : History k start.notes) where
  commanded : (c : ℕ) (asked : Commanded) → IsCommanded c asked start s → step k s start ≡ command k c (Ok asked) start
  commanded c asked is = line_does k s start c is.0.0 asked is.0.1 is.1 is.2

  tells_status : (c : ℕ) → IsCommanded c Status start s → StatusTells c start (step k s start) × ((step k s start).notes ≡ start.notes)
  tells_status c is =
      subst (λ after. StatusTells c start after × (after.notes ≡ start.notes)) (sym (commanded c Status is))
      ((status_rows k start.notes, refl, (status_true k start.notes history).0, (status_true k start.notes history).1), refl)

  tells_workers : (c : ℕ) → IsCommanded c Workers start s → WorkersTells c start (step k s start) × ((step k s start).notes ≡ start.notes)
  tells_workers c is =
      subst (λ after. WorkersTells c start after × (after.notes ≡ start.notes)) (sym (commanded c Workers is))
      ((worker_rows k start.notes, refl, (workers_true k start.notes history).0, (workers_true k start.notes history).1), refl)

  echoes : (c : ℕ) (asked : Asked) → takes_units c start.notes ≡ true → PacketAsks c s asked → asked.kind ≡ EchoReq → step k s start ≡ give c (echo_res (first asked.arguments)) start
  echoes c asked takes a is = request_does k s start c asked takes a ∙ ap (λ kind. request k c kind asked.arguments asked.timeout start) is

pub admin : (k : Settings) (steps : List Step) (s : Step) → AdminTellsTheTruth k (run k steps) s (run k (s ∷ steps))
admin k steps s =
    let start = run k steps in (
      tells_status k s start (run_history k steps),
      tells_workers k s start (run_history k steps),
      (λ c is. let does = commanded k s start (run_history k steps) c Version is in (ap (λ (past : Past). past.flow) does, ap (λ (past : Past). past.notes) does)),
      λ c asked takes a is. let does = echoes k s start (run_history k steps) c asked takes a is in (ap (λ (past : Past). past.flow) does, ap (λ (past : Past). past.notes) does),
    )

-- ---- names

-- the slots before the one that is found are open
free_next : (c slot : ℕ) (l : List Note) (n : ℕ) (t : Bool) → is_open c l ≡ t → (free_from (suc c) n l ≡ Some slot → (d : ℕ) → suc c ≤ d → d < slot → is_open d l ≡ true)
    → cond t (free_from (suc c) n l) (Some c) ≡ Some slot → (d : ℕ) → c ≤ d → d < slot → is_open d l ≡ true
free_next c slot l n true is rest e d low lt = by (c == d) refl
  where
    by : (t : Bool) → (c == d) ≡ t → is_open d l ≡ true
    by true same = ap (λ x. is_open x l) (sym (eqb-true c d same)) ∙ is
    by false other = let apart : c < d = grind (arith, nat_tests) in rest e d (omega arith) lt
free_next c slot l n false is rest e d low lt = let same = same_Some c slot e in absurd (omega (arith, same, low, lt))

free_least : (c n slot : ℕ) (l : List Note) → free_from c n l ≡ Some slot → (d : ℕ) → c ≤ d → d < slot → is_open d l ≡ true
free_least c zero slot l e d low lt = absurd cc
free_least c (suc n) slot l e d low lt = free_next c slot l n (is_open c l) refl (free_least (suc c) n slot l) e d low lt

-- the slot that an opening opens is the one that was free
opens_free : (k : Settings) (start : Past) (addr : List ℕ) (c : ℕ) → is_open c start.notes ≡ false → is_open c (step k (Open addr) start).notes ≡ true → free_slot k start ≡ Some c
opens_free k start addr c shut e = by (refusal k (Open addr) start) (free_slot k start) e
  where
    at : (d : ℕ) (t : Bool) → (c == d) ≡ t → unwrap_or (cond t (Some true) None) (is_open c start.notes) ≡ true → Some d ≡ Some c
    at d true is e = ap Some (sym (eqb-true c d is))
    at d false is e = absurd (both_not (is_open c start.notes) e shut)

    by : (r : Option ApplyError) (o : Option ℕ) → is_open c (unless r (opening o addr start) start).notes ≡ true → o ≡ Some c
    by (Some error) o e = absurd (both_not (is_open c start.notes) e shut)
    by None None e = absurd (both_not (is_open c start.notes) e shut)
    by None (Some d) e = at d (c == d) refl e

module _ (k : Settings) (s : Step) (start : Past) (history : History k start.notes) (c : ℕ) where
  not_both_ways : (address : List ℕ) (d : ℕ) (asked : Asked) → s ≡ Open address → PacketAsks d s asked → ⊥
  not_both_ways address d asked is a = subst (λ x. PacketAsks d x asked) is a

  -- ---- as it is opened

  abbrev NewSo : List Note → Type 0
  NewSo l = is_open c l ≡ true → (is_open c start.notes ≡ true) ⊎ ((s ≡ Open (addr c l)) × (id c l ≡ []) × (functions_of c l ≡ []))

  -- a note of a request
  asked_new : (note : Note) (older : List Note) (d : ℕ) (asked : Asked) → PacketAsks d s asked → (is_open c (note ∷ older) ≡ true → is_open c older ≡ true) → NewSo older → NewSo (note ∷ older)
  asked_new note older d asked a opened p e = by (p (opened e))
    where
      by : (is_open c start.notes ≡ true) ⊎ ((s ≡ Open (addr c older)) × (id c older ≡ []) × (functions_of c older ≡ []))
          → (is_open c start.notes ≡ true) ⊎ ((s ≡ Open (addr c (note ∷ older))) × (id c (note ∷ older) ≡ []) × (functions_of c (note ∷ older) ≡ []))
      by (inl was) = inl was
      by (inr new) = absurd (not_both_ways (addr c older) d asked new.0 a)

  new_more : (note : Note) (older : List Note) → Caused k start.notes s note older → NewSo older → NewSo (note ∷ older)
  new_more (notes.Opened d address) older cause p e = by (c == d) refl e
    where
      by : (t : Bool) → (c == d) ≡ t → unwrap_or (cond t (Some true) None) (is_open c older) ≡ true
          → (is_open c start.notes ≡ true) ⊎ ((s ≡ Open (addr c (notes.Opened d address ∷ older))) × (id c (notes.Opened d address ∷ older) ≡ []) × (functions_of c (notes.Opened d address ∷ older) ≡ []))
      by true is e = inr (rw is cause, rw is refl, rw is refl)
      by false is e = rw is (p e)
  new_more (notes.Closed d) older cause p e = by (c == d) refl e
    where
      by : (t : Bool) → (c == d) ≡ t → unwrap_or (cond t (Some false) None) (is_open c older) ≡ true
          → (is_open c start.notes ≡ true) ⊎ ((s ≡ Open (addr c older)) × (id c older ≡ []) × (functions_of c (notes.Closed d ∷ older) ≡ []))
      by true is e = absurd cc
      by false is e = rw is (p e)
  new_more (notes.Named d name) older cause p e = asked_new (notes.Named d name) older d cause.0 cause.1 (λ o. o) p e
  new_more (notes.Can d f t) older cause p e = asked_new (notes.Can d f t) older d cause.0 cause.1 (λ o. o) p e
  new_more (notes.Cant d f) older cause p e = asked_new (notes.Cant d f) older d cause.0 cause.1 (λ o. o) p e
  new_more (notes.Reset d) older cause p e = asked_new (notes.Reset d) older d cause.0 cause.1 (λ o. o) p e
  new_more note older cause p e = p e

  new_so : is_open c start.notes ≡ false → is_open c (step k s start).notes ≡ true
      → (s ≡ Open (addr c (step k s start).notes)) × (id c (step k s start).notes ≡ []) × (functions_of c (step k s start).notes ≡ [])
  new_so shut e = by (note_law k s start history NewSo (λ note older allowed cause h p. new_more note older cause p) (λ o. inl o) e)
    where
      by : (is_open c start.notes ≡ true) ⊎ ((s ≡ Open (addr c (step k s start).notes)) × (id c (step k s start).notes ≡ []) × (functions_of c (step k s start).notes ≡ []))
          → (s ≡ Open (addr c (step k s start).notes)) × (id c (step k s start).notes ≡ []) × (functions_of c (step k s start).notes ≡ [])
      by (inl o) = absurd (both_not (is_open c start.notes) o shut)
      by (inr new) = new

  least_so : is_open c start.notes ≡ false → is_open c (step k s start).notes ≡ true → (d : ℕ) → d < c → is_open d start.notes ≡ true
  least_so shut e d lt =
      let addr = addr c (step k s start).notes in
      free_least 0 k.slots c start.notes (opens_free k start addr c shut (ap (λ x. is_open c (step k x start).notes) (sym (new_so shut e).0) ∙ e)) d (omega arith) lt

  -- ---- as it goes on

  abbrev Names : List Note → Type 0
  Names l = (id c l ≡ id c start.notes) ⊎ ((asked : Asked) × PacketAsks c s asked × (asked.kind ≡ SetClientId) × (first asked.arguments ≡ id c l))

  record CalledSo (l : List Note) : Type 0 where
    there : (is_open c l ≡ true) ⊎ (closes c s ≡ true)
    address : addr c l ≡ addr c start.notes
    named : Names l

  called_more : (note : Note) (older : List Note) → Allowed k note older → Caused k start.notes s note older → CalledSo older → CalledSo (note ∷ older)
  called_more (notes.Opened d address) older allowed cause p = by (c == d) refl p.there
    where
      by : (t : Bool) → (c == d) ≡ t → (is_open c older ≡ true) ⊎ (closes c s ≡ true) → CalledSo (notes.Opened d address ∷ older)
      by true is (inl o) = absurd (both_not (is_open c older) o (ap (λ x. is_open x older) (eqb-true c d is) ∙ allowed.0))
      by true is (inr e) = absurd (let bad : closes c (Open address) ≡ true = subst (λ x. closes c x ≡ true) cause e in cc)
      by false is there = record { there = rw is there; address = rw is p.address; named = rw is p.named }
  called_more (notes.Closed d) older allowed cause p = record { there = by (c == d) refl p.there; address = p.address; named = p.named }
    where
      by : (t : Bool) → (c == d) ≡ t → (is_open c older ≡ true) ⊎ (closes c s ≡ true) → (unwrap_or (cond t (Some false) None) (is_open c older) ≡ true) ⊎ (closes c s ≡ true)
      by true is there = inr (ap (closes c) cause ∙ is)
      by false is there = there
  called_more (notes.Named d name) older allowed cause p = record { there = p.there; address = p.address; named = by (c == d) refl }
    where
      by : (t : Bool) → (c == d) ≡ t → (unwrap_or (cond t (Some name) None) (id c older) ≡ id c start.notes) ⊎ ((asked : Asked) × PacketAsks c s asked × (asked.kind ≡ SetClientId) × (first asked.arguments ≡ unwrap_or (cond t (Some name) None) (id c older)))
      by true is = inr (cause.0, subst (λ x. PacketAsks x s cause.0) (sym (eqb-true c d is)) cause.1, cause.2, cause.3)
      by false is = p.named
  called_more note older allowed cause p = record { there = p.there; address = p.address; named = p.named }

  called_so : is_open c start.notes ≡ true → CalledSo (step k s start).notes
  called_so o = note_law k s start history CalledSo (λ note older allowed cause h p. called_more note older allowed cause p) (record { there = inl o; address = refl; named = inl refl })

  names_itself : (asked : Asked) → takes_units c start.notes ≡ true → PacketAsks c s asked → asked.kind ≡ SetClientId → id c (step k s start).notes ≡ first asked.arguments
  names_itself asked takes a is =
      let here : id c (notes.Named c (first asked.arguments) ∷ start.notes) ≡ first asked.arguments = rw (same_number c) refl in
      ap (λ (past : Past). id c past.notes) (request_does k s start c asked takes a ∙ ap (λ kind. request k c kind asked.arguments asked.timeout start) is) ∙ here

-- ---- functions

module _ (k : Settings) (s : Step) (start : Past) where
  abbrev GrownSo : List Note → Type 0
  GrownSo l = (new : List (List ℕ)) × (functions l ≡ functions start.notes ++ new)

  grown_more : (note : Note) (older : List Note) → GrownSo older → GrownSo (note ∷ older)
  grown_more (notes.Mention f) older p = (p.0 ++ f ∷ [], ap (λ l. l ++ f ∷ []) p.1 ∙ append_assoc (functions start.notes) p.0 (f ∷ []))
  grown_more note older p = p

  grown : History k start.notes → FunctionsGrow start (step k s start)
  grown history = note_law k s start history GrownSo (λ note older allowed cause h p. grown_more note older p) ([], sym (append-nil (functions start.notes)))

pub named : (k : Settings) (steps : List Step) (s : Step) → ConnectionsAreNamed k (run k steps) s (run k (s ∷ steps))
named k steps s =
    let start = run k steps in (
      (λ c shut e. let n = new_so k s start (run_history k steps) c shut e in (least_so k s start (run_history k steps) c shut e, n.0, n.1, n.2)),
      (λ c o. let p = called_so k s start (run_history k steps) c o in (p.address, p.named, names_itself k s start (run_history k steps) c)),
      grown k s start (run_history k steps),
    )
