-- The words that other laws take from the definitions mean what they say.
use Rattle.std.proofs.Common.{◌≡◌, ◌⊎◌, inl, inr, ℕ, suc, ◌<◌, Bool, true, false, cond, not, ◌||◌, ◌&&◌, List, [], ◌∷◌, ◌++◌, length, filter, Option, refl, sym, ap, subst, ◌∙◌, arith}
use Rattle.std.specs.Prelude.{◌==◌}
use Rattle.std.specs.List.{list_any}
use Rattle.std.specs.Str.{bytes_eq}
use Rattle.std.proofs.lemmas.Bool.{and_parts, eqb-true}
use Rattle.std.proofs.lemmas.Bool.Decides.{nat_tests}
use Rattle.std.proofs.lemmas.Slice.Eq.{bytes_eq-Decides}
use Rattle.gm_notes.specs.declared.note.Note.{Note}
use Rattle.gm_notes.specs.Jobs.{Job, job_state, job, is_job_of, is_job_named, is_kept, listeners, functions, is_live_named, waiting_for, is_empty}
use Rattle.gm_notes.specs.JobStates.{JobState, is_waiting, is_running, is_running_at, is_live}
use Rattle.gm_notes.specs.JobStates as states
use Rattle.gm_notes.proofs.Numbers.{same_number}
use Rattle.gm_laws.specs.Words.{lives, works, IsOpenAndOwed, IsJobOf, IsLiveNamed, SomethingWaits, WordsMean}
use Rattle.gm_laws.specs.Laws.{IsAmong}
use Rattle.gm_laws.proofs.Outputs.{joined}
use Rattle.gm_laws.proofs.Created.{joins_so, so_joins}
use Rattle.gm_laws.proofs.Waiting.{something_waits}
use Rattle.gm_history.proofs.Finding.{named_is, waiting_is, job_of, waiting_work}
use Rattle.gm_notes.specs.Notes.{is_open, phase, is_asleep, is_awake, is_owed}
use Rattle.gm_notes.specs.Past.{Past}
use Rattle.gm_notes.specs.Servers.{owes}
use Rattle.gm_notes.specs.declared.states.Phase.{Phase}
use Rattle.gm_notes.specs.declared.states.Phase.TheVariants.{Awake, Asleep, Owed}

live : (state : JobState) → is_live state ≡ lives state
live states.Unmade = refl
live states.Waiting = refl
live (states.Running c) = refl
live states.Lost = refl
live states.Ended = refl
live states.Discarded = refl

running : (state : JobState) → is_running state ≡ works state
running states.Unmade = refl
running states.Waiting = refl
running (states.Running c) = refl
running states.Lost = refl
running states.Ended = refl
running states.Discarded = refl

-- ---- wanted

hears_at : (c : ℕ) (slots : List ℕ) → 0 < length (filter (λ d. c == d) slots) → not (length slots == 0) ≡ true
hears_at c [] e = absurd (omega arith)
hears_at c (d ∷ slots) e = let some : (suc (length slots) == 0) ≡ false = grind (arith, nat_tests) in rw some refl

awaited : (kept : Bool) (slots : List ℕ) → (kept || not (length slots == 0)) ≡ true → (kept ≡ true) ⊎ ((c : ℕ) × (0 < length (filter (λ d. c == d) slots)))
awaited true slots e = inl refl
awaited false [] e = absurd cc
awaited false (c ∷ slots) e = inr (c, subst (λ t. 0 < length (cond t (c ∷ filter (λ d. c == d) slots) (filter (λ d. c == d) slots))) (sym (same_number c)) (omega arith))

wanted : (kept : Bool) (slots : List ℕ) → (kept ≡ true) ⊎ ((c : ℕ) × (0 < length (filter (λ d. c == d) slots))) → (kept || not (length slots == 0)) ≡ true
wanted true slots e = refl
wanted false slots (inl e) = absurd cc
wanted false slots (inr e) = hears_at e.0 slots e.1

-- ---- mentioned

in_two : (f : List ℕ) (g : List ℕ) (all : List (List ℕ)) (t : Bool) → bytes_eq g f ≡ t → (list_any (λ x. bytes_eq x f) all ≡ true → IsAmong f all) → (t || list_any (λ x. bytes_eq x f) all) ≡ true → IsAmong f (g ∷ all)
in_two f g all true is rest e = ([], all, ap (λ x. x ∷ all) ((bytes_eq-Decides g f).0 is))
in_two f g all false is rest e = let r = rest e in (g ∷ r.0, r.1, ap (λ l. g ∷ l) r.2)

pub among : (f : List ℕ) (all : List (List ℕ)) → list_any (λ x. bytes_eq x f) all ≡ true → IsAmong f all
among f [] e = absurd cc
among f (g ∷ all) e = in_two f g all (bytes_eq g f) refl (among f all) e

or_true : (t : Bool) → (t || true) ≡ true
or_true true = refl
or_true false = refl

found : (f : List ℕ) (before after : List (List ℕ)) → list_any (λ x. bytes_eq x f) (before ++ f ∷ after) ≡ true
found f [] after = let same = (bytes_eq-Decides f f).1 refl in rw same refl
found f (g ∷ before) after = let rest = found f before after in rw rest (or_true (bytes_eq g f))

pub from_among : (f : List ℕ) (all : List (List ℕ)) → IsAmong f all → list_any (λ x. bytes_eq x f) all ≡ true
from_among f all e = subst (λ l. list_any (λ x. bytes_eq x f) l ≡ true) (sym e.2) (found f e.0 e.1)

-- ---- closing

both : (t u : Bool) → t ≡ true → u ≡ true → (t && u) ≡ true
both t u e d = rw (e, d) refl

-- ---- states and phases

waiting : (state : JobState) → (is_waiting state ≡ true → state ≡ states.Waiting) × (state ≡ states.Waiting → is_waiting state ≡ true)
waiting state = (waiting_is state, λ e. ap is_waiting e)

running_at : (c : ℕ) (state : JobState) → (is_running_at c state ≡ true → state ≡ states.Running c) × (state ≡ states.Running c → is_running_at c state ≡ true)
running_at c state = (is_so state, λ e. ap (is_running_at c) e ∙ same_number c)
  where
    is_so : (state : JobState) → is_running_at c state ≡ true → state ≡ states.Running c
    is_so states.Unmade e = absurd cc
    is_so states.Waiting e = absurd cc
    is_so (states.Running d) e = ap states.Running (sym (eqb-true c d e))
    is_so states.Lost e = absurd cc
    is_so states.Ended e = absurd cc
    is_so states.Discarded e = absurd cc

is_asleep_so : (p : Phase) → is_asleep p ≡ true → p ≡ Asleep
is_asleep_so Asleep e = refl
is_asleep_so Awake e = absurd cc
is_asleep_so Owed e = absurd cc

is_awake_so : (p : Phase) → is_awake p ≡ true → p ≡ Awake
is_awake_so Awake e = refl
is_awake_so Asleep e = absurd cc
is_awake_so Owed e = absurd cc

is_owed_so : (p : Phase) → is_owed p ≡ true → p ≡ Owed
is_owed_so Owed e = refl
is_owed_so Awake e = absurd cc
is_owed_so Asleep e = absurd cc

owing : (c : ℕ) (past : Past) → (owes c past ≡ true → IsOpenAndOwed c past) × (IsOpenAndOwed c past → owes c past ≡ true)
owing c past = (
  (λ e. let parts = and_parts (is_open c past.notes) (is_owed (phase c past.notes)) e in (parts.0, is_owed_so (phase c past.notes) parts.1)),
  λ e. both (is_open c past.notes) (is_owed (phase c past.notes)) e.0 (ap is_owed e.1),
)

-- ---- jobs

of_function : (f : List ℕ) (found : Option Job) → (is_job_of f found ≡ true → IsJobOf f found) × (IsJobOf f found → is_job_of f found ≡ true)
of_function f found = (job_of f found, λ e. ap (is_job_of f) e.1 ∙ (bytes_eq-Decides e.0.function f).1 e.2)

live_named : (f u : List ℕ) (notes : List Note) (n : ℕ) →
    (is_live_named f u notes n ≡ true → IsLiveNamed f u notes n) × (IsLiveNamed f u notes n → is_live_named f u notes n ≡ true)
live_named f u notes n = (
  (λ e.
      let parts = and_parts (is_live (job_state n notes)) (is_job_named f u (job n notes)) e in
      let named = named_is f u (job n notes) parts.1 in
      (parts.0, (named.0, named.1, sym named.2, sym named.3))),
  λ e.
      let what = e.1.0 in
      both (is_live (job_state n notes)) (is_job_named f u (job n notes)) e.0
      (ap (is_job_named f u) e.1.1 ∙ both (bytes_eq what.function f) (bytes_eq what.unique u) ((bytes_eq-Decides what.function f).1 e.1.2) ((bytes_eq-Decides what.unique u).1 e.1.3)),
)

queued : (f : List ℕ) (notes : List Note) →
    (is_empty (waiting_for f notes) ≡ false → SomethingWaits f notes) × (SomethingWaits f notes → is_empty (waiting_for f notes) ≡ false)
queued f notes = (waiting_work f notes, λ e. subst (λ g. is_empty (waiting_for g notes) ≡ false) e.4 (something_waits e.0 notes e.1 e.2 e.3))

pub words : WordsMean
words = record {
  live = live;
  running = running;
  waiting = waiting;
  running_at = running_at;
  wanted = λ n notes. (awaited (is_kept n notes) (listeners n notes), wanted (is_kept n notes) (listeners n notes));
  of_function = of_function;
  joining = λ u. (joins_so u, λ e. so_joins u e.0 e.1);
  live_named = live_named;
  queued = queued;
  mentioned = λ f notes. (among f (functions notes), from_among f (functions notes));
  closing = λ c past. (λ e. and_parts _ _ e, λ e. both _ _ e.0 e.1);
  owing = owing;
  asleep = λ p. (is_asleep_so p, λ e. ap is_asleep e);
  awake = λ p. (is_awake_so p, λ e. ap is_awake e);
  excepting = λ c notes. (λ e. and_parts _ _ e, λ e. both _ _ e.0 e.1);
  one = λ a more. refl;
  two = λ a b more. refl;
  three = λ a b c more. refl;
  all_sent = joined;
}
