-- What shares are: what the history has of each actor, and together all of it.
use Rattle.std.proofs.Common.{◌≡◌, ℕ, zero, suc, ◌+◌, ◌<◌, ◌≤◌, ◌==◌, Bool, true, false, if◌then◌else◌, List, [], ◌∷◌, ◌++◌, length, reverse, map, All, refl, sym, ap, ap₂, subst, ◌∙◌, arith, eq-eqb, ne_eqb}
use Rattle.std.specs.Prelude.{slice_index_or}
use Rattle.std.proofs.lemmas.List.{append-nil, reverse-append, length-reverse, map-append}
use Rattle.std.proofs.lemmas.Bool.Decides.{nat_tests}
use Rattle.gm_shared.specs.declared.tape.Actor.{Actor}
use Rattle.gm_shared.specs.declared.tape.Actor.TheVariants.{Desk, Pen}
use Rattle.gm_shared.specs.declared.tape.Entry.{Entry}
use Rattle.gm_shared.specs.declared.tape.Told.{Told}
use Rattle.gm_shared.specs.Tapes.{actor_is, actor_code, share_from, share_of, told_from, AreShares, AddUp, told_in_all}
use Rattle.gm_shared.specs.Histories.{calls_by, Knows, AreOf, AreBelow}
use Rattle.gm_ghost.specs.Owners.{WitnessState}
use Rattle.gm_shared.specs.Shared.{numbers_below, everybody, actor_count, HasSeenOwn, IsShareOf}
use Rattle.gm_shared.proofs.Places.{told_as, same_code, other_code}

-- ---- one share

same_test : (a b : Actor) → actor_is a b ≡ (actor_code a == actor_code b)
same_test a b = by (actor_is a b) refl
  where
    by : (t : Bool) → actor_is a b ≡ t → t ≡ (actor_code a == actor_code b)
    by true is = sym (eq-eqb (actor_code a) (actor_code b) (same_code a b is))
    by false is = sym (ne_eqb (actor_code a) (actor_code b) (other_code a b is))

share_more : (a : Actor) (at : ℕ) (xs ys : List Entry) → share_from a at (xs ++ ys) ≡ share_from a at xs ++ share_from a (at + length xs) ys
share_more a at [] ys = ap (λ n. share_from a n ys) (omega arith)
share_more a at (e ∷ xs) ys = by (actor_is a e.actor) (share_more a (at + 1) xs ys ∙ ap (λ n. share_from a (at + 1) xs ++ share_from a n ys) (omega arith))
  where
    by : (t : Bool) → share_from a (at + 1) (xs ++ ys) ≡ share_from a (at + 1) xs ++ share_from a (at + length (e ∷ xs)) ys
        → (if t then told_as at e ∷ share_from a (at + 1) (xs ++ ys) else share_from a (at + 1) (xs ++ ys))
        ≡ (if t then told_as at e ∷ share_from a (at + 1) xs else share_from a (at + 1) xs) ++ share_from a (at + length (e ∷ xs)) ys
    by true rest = ap (λ l. told_as at e ∷ l) rest
    by false rest = rest

-- what others did is in no share of an actor
none_told : (a : Actor) (at : ℕ) (es : List Entry) → calls_by (actor_code a) es ≡ [] → share_from a at (reverse es) ≡ []
none_told a at [] none = refl
none_told a at (e ∷ es) none = by (actor_code a == actor_code e.actor) (same_test a e.actor) (none_told a at es) none
  where
    by : (t : Bool) → actor_is a e.actor ≡ t → (calls_by (actor_code a) es ≡ [] → share_from a at (reverse es) ≡ []) → (if t then e ∷ calls_by (actor_code a) es else calls_by (actor_code a) es) ≡ []
        → share_from a at (reverse (e ∷ es)) ≡ []
    by true is rest none = absurd cc
    by false is rest none =
        let last : share_from a (at + length (reverse es)) (e ∷ []) ≡ [] = rw is refl in
        ap (share_from a at) (reverse-append (e ∷ []) es) ∙ (share_more a at (reverse es) (e ∷ []) ∙ ap₂ (λ xs ys. xs ++ ys) (rest none) last)

-- and what the actor did is
all_told : (a : Actor) (at : ℕ) (es : List Entry) → AreOf (actor_code a) es → share_from a at es ≡ told_from at es
all_told a at [] are = refl
all_told a at (e ∷ es) are =
    let is : actor_is a e.actor ≡ true = same_test a e.actor ∙ eq-eqb (actor_code a) (actor_code e.actor) (sym are.0) in
    ap₂ (λ (t : Bool) l. if t then told_as at e ∷ l else l) is (all_told a (at + 1) es are.1)

of_more : (who : ℕ) (xs ys : List Entry) → AreOf who xs → AreOf who ys → AreOf who (xs ++ ys)
of_more who [] ys these those = those
of_more who (e ∷ xs) ys these those = (these.0, of_more who xs ys these.1 those)

of_back : (who : ℕ) (es : List Entry) → AreOf who es → AreOf who (reverse es)
of_back who [] are = tt
of_back who (e ∷ es) are = subst (AreOf who) (sym (reverse-append (e ∷ []) es)) (of_more who (reverse es) (e ∷ []) (of_back who es are.1) (are.0, tt))

-- what an actor has seen of itself is all that there is of it
known : (a : Actor) (log seen : List Entry) → Knows log (actor_code a) seen → share_from a 0 (reverse log) ≡ share_from a 0 (reverse seen)
known a log seen knows =
    ap (λ l. share_from a 0 (reverse l)) knows.goes_on
    ∙ (ap (share_from a 0) (reverse-append knows.newer seen)
    ∙ (share_more a 0 (reverse seen) (reverse knows.newer)
    ∙ (ap (λ l. share_from a 0 (reverse seen) ++ l) (none_told a (0 + length (reverse seen)) knows.newer knows.others) ∙ append-nil (share_from a 0 (reverse seen)))))

pub share_known : (taped : Bool) (a : Actor) (log seen : List Entry) → Knows log (actor_code a) seen → share_of taped a log ≡ share_of taped a seen
share_known true a log seen knows = known a log seen knows
share_known false a log seen knows = refl

pub share_none : (taped : Bool) (a : Actor) (seen : List Entry) → seen ≡ [] → [] ≡ share_of taped a seen
share_none true a seen none = ap (λ l. share_from a 0 (reverse l)) (sym none)
share_none false a seen none = refl

-- a share gets what its actor adds, behind all that there is
pub share_grows : (a : Actor) (more log seen : List Entry) → AreOf (actor_code a) more → Knows log (actor_code a) seen
    → share_from a 0 (reverse (more ++ log)) ≡ share_from a 0 (reverse seen) ++ told_from (length log) (reverse more)
share_grows a more log seen are knows =
    let behind : 0 + length (reverse log) ≡ length log = omega (arith, length-reverse log) in
    ap (share_from a 0) (reverse-append more log)
    ∙ (share_more a 0 (reverse log) (reverse more)
    ∙ ap₂ (λ xs ys. xs ++ ys) (known a log seen knows) (ap (λ n. share_from a n (reverse more)) behind ∙ all_told a (length log) (reverse more) (of_back (actor_code a) more are)))

-- ---- all shares

-- how often an actor is among these
abbrev hits : Actor → List Actor → ℕ
hits actor [] = 0
hits actor (other ∷ others) = (if actor_is other actor then 1 else 0) + hits actor others

hits_append : (actor : Actor) (xs ys : List Actor) → hits actor (xs ++ ys) ≡ hits actor xs + hits actor ys
hits_append actor [] ys = omega arith
hits_append actor (x ∷ xs) ys = omega (arith, hits_append actor xs ys)

-- actors of one kind, by number
module _ (of : ℕ → Actor) (tells : (n m : ℕ) → actor_is (of n) (of m) ≡ (n == m)) where
  hits_next : (n m : ℕ) → hits (of m) (map of (numbers_below (suc n))) ≡ hits (of m) (map of (numbers_below n)) + ((if n == m then 1 else 0) + 0)
  hits_next n m =
      ap (hits (of m)) (map-append of (numbers_below n) (n ∷ []))
      ∙ (hits_append (of m) (map of (numbers_below n)) (of n ∷ []) ∙ ap (λ t. hits (of m) (map of (numbers_below n)) + ((if t then 1 else 0) + 0)) (tells n m))

  hits_none : (n m : ℕ) → n ≤ m → hits (of m) (map of (numbers_below n)) ≡ 0
  hits_none zero m most = refl
  hits_none (suc n) m most =
      let other : (n == m) ≡ false = grind (arith, nat_tests) in
      hits_next n m ∙ (ap (λ t. hits (of m) (map of (numbers_below n)) + ((if t then 1 else 0) + 0)) other ∙ omega (arith, hits_none n m (omega (arith, most))))

  hits_once : (n m : ℕ) → m < n → hits (of m) (map of (numbers_below n)) ≡ 1
  hits_once zero m less = absurd (omega (arith, less))
  hits_once (suc n) m less = by (n == m) refl (hits_next n m) (hits_once n m)
    where
      by : (t : Bool) → (n == m) ≡ t → hits (of m) (map of (numbers_below (suc n))) ≡ hits (of m) (map of (numbers_below n)) + ((if t then 1 else 0) + 0)
          → (m < n → hits (of m) (map of (numbers_below n)) ≡ 1) → hits (of m) (map of (numbers_below (suc n))) ≡ 1
      by true is next rest = let same : n ≡ m = grind (arith, nat_tests) in omega (arith, next, hits_none n m (omega (arith, same)))
      by false is next rest = let below : m < n = grind (arith, nat_tests) in omega (arith, next, rest below)

no_pen : (n : ℕ) (xs : List ℕ) → hits (Pen n) (map Desk xs) ≡ 0
no_pen n [] = refl
no_pen n (x ∷ xs) = omega (arith, no_pen n xs)

no_desk : (n : ℕ) (xs : List ℕ) → hits (Desk n) (map Pen xs) ≡ 0
no_desk n [] = refl
no_desk n (x ∷ xs) = omega (arith, no_desk n xs)

everybody_once : (slots : ℕ) (actor : Actor) → actor_code actor < actor_count slots → hits actor (everybody slots) ≡ 1
everybody_once slots (Desk n) less =
    omega (
      arith,
      hits_append (Desk n) (map Desk (numbers_below slots)) (Desk slots ∷ map Pen (numbers_below slots)),
      no_desk n (numbers_below slots),
      hits_next Desk (λ i j. refl) slots n,
      hits_once Desk (λ i j. refl) (suc slots) n (omega (arith, less)),
    )
everybody_once slots (Pen n) less =
    omega (
      arith,
      hits_append (Pen n) (map Desk (numbers_below slots)) (Desk slots ∷ map Pen (numbers_below slots)),
      no_pen n (numbers_below slots),
      hits_once Pen (λ i j. refl) slots n (omega (arith, less)),
    )

-- how much the shares of these actors tell in all, of these entries
abbrev parts : ℕ → List Entry → List Actor → ℕ
parts at entries [] = 0
parts at entries (actor ∷ actors) = length (share_from actor at entries) + parts at entries actors

parts_none : (at : ℕ) (actors : List Actor) → parts at [] actors ≡ 0
parts_none at [] = refl
parts_none at (actor ∷ actors) = omega (arith, parts_none at actors)

parts_next : (at : ℕ) (e : Entry) (more : List Entry) (actors : List Actor) → parts at (e ∷ more) actors ≡ hits e.actor actors + parts (at + 1) more actors
parts_next at e more [] = omega arith
parts_next at e more (actor ∷ actors) = by (actor_is actor e.actor) (parts_next at e more actors)
  where
    by : (t : Bool) → parts at (e ∷ more) actors ≡ hits e.actor actors + parts (at + 1) more actors
        → length (if t then told_as at e ∷ share_from actor (at + 1) more else share_from actor (at + 1) more) + parts at (e ∷ more) actors
        ≡ ((if t then 1 else 0) + hits e.actor actors) + (length (share_from actor (at + 1) more) + parts (at + 1) more actors)
    by true rest = omega (arith, rest)
    by false rest = omega (arith, rest)

parts_all : (slots at : ℕ) (entries : List Entry) → AreBelow (actor_count slots) entries → parts at entries (everybody slots) ≡ length entries
parts_all slots at [] below = parts_none at (everybody slots)
parts_all slots at (e ∷ more) below =
    omega (arith, parts_next at e more (everybody slots), everybody_once slots e.actor below.0, parts_all slots (at + 1) more below.1)

abbrev actors_of : List (Actor × List Told) → List Actor
actors_of = map (λ share. share.0)

parts_told : (entries : List Entry) (shares : List (Actor × List Told)) → AreShares entries shares → parts 0 entries (actors_of shares) ≡ told_in_all shares
parts_told entries [] are = refl
parts_told entries (share ∷ shares) are = omega (arith, ap length are.0, parts_told entries shares are.1)

below_more : (n : ℕ) (xs ys : List Entry) → AreBelow n xs → AreBelow n ys → AreBelow n (xs ++ ys)
below_more n [] ys these those = those
below_more n (e ∷ xs) ys these those = (these.0, below_more n xs ys these.1 those)

below_back : (n : ℕ) (es : List Entry) → AreBelow n es → AreBelow n (reverse es)
below_back n [] below = tt
below_back n (e ∷ es) below = subst (AreBelow n) (sym (reverse-append (e ∷ []) es)) (below_more n (reverse es) (e ∷ []) (below_back n es below.1) (below.0, tt))

are_shares : (entries : List Entry) (P : Actor × List Told → Type 0) → ((share : Actor × List Told) → P share → share.1 ≡ share_from share.0 0 entries) → (shares : List (Actor × List Told))
    → All P shares → AreShares entries shares
are_shares entries P own [] h = tt
are_shares entries P own (share ∷ shares) h = (own share (h zero share (omega arith)), are_shares entries P own shares (λ i none lt. h (suc i) none (omega (arith, lt))))

-- If everybody's share is there, and each is what the history has of its actor, they add up with the tape.
pub everybody_adds_up : (slots : ℕ) (taped : Bool) (log entries : List Entry) (shares : List (Actor × List Told)) → entries ≡ (if taped then reverse log else []) → AreBelow (actor_count slots) log
    → All (IsShareOf taped log) shares → actors_of shares ≡ everybody slots → AddUp entries shares
everybody_adds_up slots taped log entries shares is below exact all =
    let are = are_shares entries (IsShareOf taped log) (own taped is) shares exact in
    (are, sym (parts_told entries shares are) ∙ (ap (parts 0 entries) all ∙ parts_all slots 0 entries (entries_below taped is)))
  where
    own : (taped : Bool) → entries ≡ (if taped then reverse log else []) → (share : Actor × List Told) → IsShareOf taped log share → share.1 ≡ share_from share.0 0 entries
    own true is share e = e ∙ ap (share_from share.0 0) (sym is)
    own false is share e = e ∙ ap (share_from share.0 0) (sym is)

    entries_below : (taped : Bool) → entries ≡ (if taped then reverse log else []) → AreBelow (actor_count slots) entries
    entries_below true is = subst (AreBelow (actor_count slots)) (sym is) (below_back (actor_count slots) log below)
    entries_below false is = subst (AreBelow (actor_count slots)) (sym is) tt

-- ---- the shares of those that are given back

-- If actors have seen all of themselves, the share of each is what the history has of it.
pub exact_of : {A : Type 0} (taped : Bool) (log : List Entry) (actor : A → Actor) (share : A → List Told) (witness : A → WitnessState Entry)
    → ((x : A) → share x ≡ share_of taped (actor x) (witness x).seen) → ((x : A) → (witness x).who ≡ actor_code (actor x)) → (xs : List A)
    → All (λ x. HasSeenOwn log (witness x)) xs → All (λ x. share x ≡ share_of taped (actor x) log) xs
exact_of taped log actor share witness told who xs seen i none lt =
    let x = slice_index_or xs i none in
    told x ∙ sym (share_known taped (actor x) log (witness x).seen (subst (λ n. Knows log n (witness x).seen) (who x) (seen i none lt)))
