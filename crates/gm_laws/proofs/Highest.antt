-- What a grab's pick is, function by function, and by priority.
use Rattle.std.proofs.Common.{◌≡◌, ℕ, Bool, true, false, ◌||◌, List, [], ◌∷◌, ◌++◌, Option, Some, None, refl, sym, ap, subst, ◌∙◌}
use Rattle.std.specs.List.{list_any}
use Rattle.std.specs.Option.{option_or}
use Rattle.std.proofs.lemmas.Bool.{or_left, or_right}
use Rattle.std.proofs.lemmas.Option.{same_Some}
use Rattle.std.proofs.lemmas.Slice.Eq.{bytes_eq-Decides}
use Rattle.gm_notes.specs.declared.note.Note.{Note}
use Rattle.gm_notes.specs.declared.states.Pick.{Pick}
use Rattle.gm_notes.specs.declared.states.Priority.{Priority}
use Rattle.gm_notes.specs.declared.states.Priority.TheVariants.{High, Normal, Low}
use Rattle.gm_notes.specs.Settings.{Settings}
use Rattle.gm_notes.specs.Jobs.{Ability, queue, waiting_for, is_empty, first_of, pick_from, pick_with, pick_highest, pick, is_of, scan}
use Rattle.gm_laws.specs.Waiting.{IsHigher}

-- ---- of the first function that has one

-- the first of those that there are for the first function that has any
abbrev pub pick_by : (List ℕ → List ℕ) → List Ability → Option Pick
pick_by of [] = None
pick_by of (ability ∷ all) = first_of (of ability.function) ability.timeout (pick_by of all)

pub from_by : (all : List Ability) (l : List Note) → pick_from all l ≡ pick_by (λ f. waiting_for f l) all
from_by [] l = refl
from_by (ability ∷ all) l = ap (first_of (waiting_for ability.function l) ability.timeout) (from_by all l)

pub with_by : (p : Priority) (all : List Ability) (l : List Note) → pick_with p all l ≡ pick_by (λ f. queue f p l) all
with_by p [] l = refl
with_by p (ability ∷ all) l = ap (first_of (queue ability.function p l) ability.timeout) (with_by p all l)

-- the pick is the first for a function that can be done
pub head_by : (of : List ℕ → List ℕ) (all : List Ability) (found : Pick) → pick_by of all ≡ Some found → (f : List ℕ) × (ns : List ℕ) × (of f ≡ found.job ∷ ns) × (list_any (is_of f) all ≡ true)
head_by of [] found e = absurd cc
head_by of (ability ∷ all) found e = by (of ability.function) refl (head_by of all found) e
  where
    here : is_of ability.function ability ≡ true
    here = (bytes_eq-Decides ability.function ability.function).1 refl

    by : (ns : List ℕ) → of ability.function ≡ ns → (pick_by of all ≡ Some found → (f : List ℕ) × (ns : List ℕ) × (of f ≡ found.job ∷ ns) × (list_any (is_of f) all ≡ true))
        → first_of ns ability.timeout (pick_by of all) ≡ Some found → (f : List ℕ) × (ns : List ℕ) × (of f ≡ found.job ∷ ns) × (list_any (is_of f) (ability ∷ all) ≡ true)
    by [] is rest e = let r = rest e in (r.0, r.1, r.2, or_right (is_of r.0 ability) (list_any (is_of r.0) all) r.3)
    by (n ∷ ns) is rest e =
        (ability.function, ns, is ∙ ap (λ (p : Pick). p.job ∷ ns) (same_Some (record { job = n; timeout = ability.timeout }) found e), or_left (is_of ability.function ability) (list_any (is_of ability.function) all) here)

none_first : (ns : List ℕ) (timeout : ℕ) (rest : Option Pick) → first_of ns timeout rest ≡ None → (is_empty ns ≡ true) × (rest ≡ None)
none_first [] timeout rest e = (refl, e)
none_first (n ∷ ns) timeout rest e = absurd cc

-- where there is no pick, there is none for a function that can be done
pub none_by : (of : List ℕ → List ℕ) (all : List Ability) (f : List ℕ) → pick_by of all ≡ None → list_any (is_of f) all ≡ true → is_empty (of f) ≡ true
none_by of [] f none e = absurd cc
none_by of (ability ∷ all) f none e =
    let parts = none_first (of ability.function) ability.timeout (pick_by of all) none in
    by (is_of f ability) refl parts.0 (none_by of all f parts.1) e
  where
    by : (t : Bool) → is_of f ability ≡ t → is_empty (of ability.function) ≡ true → (list_any (is_of f) all ≡ true → is_empty (of f) ≡ true) → (t || list_any (is_of f) all) ≡ true → is_empty (of f) ≡ true
    by true is none more e = subst (λ g. is_empty (of g) ≡ true) ((bytes_eq-Decides ability.function f).0 is) none
    by false is none more e = more e

-- ---- with as_gearmand, and without

pub picks_from : (k : Settings) (c : ℕ) (l : List Note) → k.as_gearmand ≡ false → pick k c l ≡ pick_from (scan k c l) l
picks_from k c l plain = rw plain refl

pub picks_highest : (k : Settings) (c : ℕ) (l : List Note) → k.as_gearmand ≡ true → pick k c l ≡ pick_highest (scan k c l) l
picks_highest k c l set = rw set refl

none_or : (o other : Option Pick) → option_or o other ≡ None → (o ≡ None) × (other ≡ None)
none_or None other e = (refl, e)
none_or (Some found) other e = absurd cc

-- there is none of any priority
pub none_highest : (all : List Ability) (l : List Note) → pick_highest all l ≡ None → (p : Priority) → pick_with p all l ≡ None
none_highest all l e p = by p
  where
    high : (pick_with High all l ≡ None) × (option_or (pick_with Normal all l) (pick_with Low all l) ≡ None)
    high = none_or (pick_with High all l) (option_or (pick_with Normal all l) (pick_with Low all l)) e

    by : (p : Priority) → pick_with p all l ≡ None
    by High = high.0
    by Normal = (none_or (pick_with Normal all l) (pick_with Low all l) high.1).0
    by Low = (none_or (pick_with Normal all l) (pick_with Low all l) high.1).1

-- the pick is of a priority above which there is none
pub record Highest (all : List Ability) (l : List Note) (found : Pick) : Type 0 where
  pub p : Priority
  pub is : pick_with p all l ≡ Some found
  pub above : (q : Priority) → IsHigher q p → pick_with q all l ≡ None

pub highest : (all : List Ability) (l : List Note) (found : Pick) → pick_highest all l ≡ Some found → Highest all l found
highest all l found e = by (pick_with High all l) (pick_with Normal all l) refl refl e
  where
    by : (h o : Option Pick) → pick_with High all l ≡ h → pick_with Normal all l ≡ o → option_or h (option_or o (pick_with Low all l)) ≡ Some found → Highest all l found
    by (Some x) o is_h is_o e = record { p = High; is = is_h ∙ e; above = above_high }
      where
        above_high : (q : Priority) → IsHigher q High → pick_with q all l ≡ None
        above_high High i = absurd i
        above_high Normal i = absurd i
        above_high Low i = absurd i
    by None (Some x) is_h is_o e = record { p = Normal; is = is_o ∙ e; above = above_normal }
      where
        above_normal : (q : Priority) → IsHigher q Normal → pick_with q all l ≡ None
        above_normal High i = is_h
        above_normal Normal i = absurd i
        above_normal Low i = absurd i
    by None None is_h is_o e = record { p = Low; is = e; above = above_low }
      where
        above_low : (q : Priority) → IsHigher q Low → pick_with q all l ≡ None
        above_low High i = is_h
        above_low Normal i = is_o
        above_low Low i = absurd i

-- ---- the first that waits for a function

empty_is : (ns : List ℕ) → is_empty ns ≡ true → ns ≡ []
empty_is [] e = refl
empty_is (n ∷ ns) e = absurd cc

-- the pick waits for a function, and is given out before all others that wait for it
abbrev pub IsFirst : List Note → Pick → Type 0
IsFirst l found = (f : List ℕ) × (ns : List ℕ) × (waiting_for f l ≡ found.job ∷ ns)

highest_first : (all : List Ability) (l : List Note) (found : Pick) → Highest all l found → IsFirst l found
highest_first all l found h = by h.p h.above (sym (with_by h.p all l) ∙ h.is)
  where
    none : (q : Priority) (f : List ℕ) → pick_with q all l ≡ None → list_any (is_of f) all ≡ true → queue f q l ≡ []
    none q f e able = empty_is (queue f q l) (none_by (λ g. queue g q l) all f (sym (with_by q all l) ∙ e) able)

    by : (p : Priority) → ((q : Priority) → IsHigher q p → pick_with q all l ≡ None) → pick_by (λ f. queue f p l) all ≡ Some found → IsFirst l found
    by High above e = let there = head_by (λ f. queue f High l) all found e in (there.0, there.1 ++ queue there.0 Normal l ++ queue there.0 Low l, rw there.2 refl)
    by Normal above e =
        let there = head_by (λ f. queue f Normal l) all found e in
        (there.0, there.1 ++ queue there.0 Low l, rw (none High there.0 (above High tt) there.3, there.2) refl)
    by Low above e =
        let there = head_by (λ f. queue f Low l) all found e in
        (there.0, there.1, rw (none High there.0 (above High tt) there.3, none Normal there.0 (above Normal tt) there.3, there.2) refl)

pub pick_first : (k : Settings) (c : ℕ) (l : List Note) (found : Pick) → pick k c l ≡ Some found → IsFirst l found
pick_first k c l found e = by k.as_gearmand refl
  where
    by : (t : Bool) → k.as_gearmand ≡ t → IsFirst l found
    by true set = highest_first (scan k c l) l found (highest (scan k c l) l found (sym (picks_highest k c l set) ∙ e))
    by false plain =
        let there = head_by (λ f. waiting_for f l) (scan k c l) found (sym (from_by (scan k c l) l) ∙ (sym (picks_from k c l plain) ∙ e)) in
        (there.0, there.1, there.2)
