-- Whose the entries of a history are.
use Rattle.std.proofs.Common.{◌≡◌, ◌≢◌, ℕ, zero, suc, ◌+◌, ◌*◌, Bool, true, false, if◌then◌else◌, List, [], ◌∷◌, ◌++◌, length, map, All}
use Rattle.std.proofs.Common.{Some, refl, sym, ap, ap₂, subst, ◌∙◌, arith, add-one, length-append}
use Rattle.std.specs.Prelude.{◌==◌, ◌&&◌, ◌<◌, get_or, drop}
use Rattle.std.proofs.lemmas.List.{map-append, append_assoc, append_cancel_left}
use Rattle.std.proofs.lemmas.List.Elements.{All-nil, All-cons, All-head, All-tail, All-push, All-append, All-from_recursion, recursion_from_All}
use Rattle.std.specs.List.{AllByRecursion as ByRecursion}
use Rattle.std.proofs.Math.Seq.{drop-cons, drop-append-add}
use Rattle.std.proofs.lemmas.Bool.Decides.{nat_tests}
use Rattle.gm_notes.specs.Steps.{Step}
use Rattle.gm_shared.specs.declared.tape.Actor.{Actor}
use Rattle.gm_shared.specs.declared.tape.Actor.TheVariants.{Desk, Pen}
use Rattle.gm_shared.specs.declared.tape.TapeStep.{TapeStep}
use Rattle.gm_shared.specs.declared.tape.TapeStep.TheVariants as tape
use Rattle.gm_shared.specs.declared.tape.Entry.{Entry}
use Rattle.gm_shared.specs.declared.tape.Share.{Share}
use Rattle.gm_shared.specs.declared.tape.Told.{Told}
use Rattle.gm_shared.specs.Events.{slot_of}
use Rattle.gm_shared.specs.Tapes.{actor_is, actor_code, if_event, step_in, steps_of, is_drain_of, drains_alone}
use Rattle.gm_shared.specs.Histories.{entry_owner, Knows, AreBelow, calls_by}
use Rattle.gm_ghost.specs.Owners.{WitnessState}
use Rattle.gm_shared.specs.Calls.{events_in, events_of}
use Rattle.gm_shared.specs.Shared.{told_by, actor_count, HasSeenOwn, numbers_below, everybody}
use Rattle.gm_ghost.proofs.Logs.{entries_known}
use Rattle.gm_shared.proofs.Sharing.{and_more}
use Rattle.gm_session.specs.Owners.{are_said_by, SaysOwn}
use Rattle.gm_session.proofs.Owning.{and_first, and_second}
use Rattle.gm_slots.specs.Owners.{is_own, AreOwn, says, said_at}
use Rattle.gm_notes.proofs.Numbers.{same_number}

-- ---- the entries of an actor

if_said : (n : ℕ) (step : TapeStep) (steps : List Step) → are_said_by n (if_event step steps) ≡ (is_own (Desk n) step && are_said_by n steps)
if_said n (tape.Open addr) steps = refl
if_said n (tape.Packet c kind bytes) steps = and_more (c == n) true (are_said_by n steps)
if_said n (tape.Line c bytes) steps = and_more (c == n) true (are_said_by n steps)
if_said n (tape.Fault c fault) steps = and_more (c == n) true (are_said_by n steps)
if_said n (tape.Close c) steps = and_more (c == n) true (are_said_by n steps)
if_said n (tape.Tick now) steps = refl
if_said n (tape.Took c) steps = refl
if_said n (tape.Withdrew c) steps = refl
if_said n (tape.Drain c) steps = refl

-- of the entries of a desk or a pen, each is its own
abbrev pub IsOwnOf : List Entry → Actor → Type 0
IsOwnOf log (Desk n) = SaysOwn n log
IsOwnOf log (Pen n) = drains_alone n (calls_by (2 * n + 1) log) ≡ true

-- what an actor has seen is its own; so is what the history has of it, if nothing newer is of it
pub seen_own : (log seen : List Entry) (actor : Actor) → Knows log (actor_code actor) seen → IsOwnOf seen actor → IsOwnOf log actor
seen_own log seen (Desk n) knows own = ap (λ l. are_said_by n (events_in l)) (entries_known entry_owner log (2 * n) seen knows) ∙ own
seen_own log seen (Pen n) knows own = ap (drains_alone n) (entries_known entry_owner log (2 * n + 1) seen knows) ∙ own

first_own : (actor : Actor) (e : Entry) (older : List Entry) (t : Bool) → (actor_code actor == actor_code e.actor) ≡ t → IsOwnOf (e ∷ older) actor
    → IsOwnOf older actor × (t ≡ true → is_own actor e.step ≡ true)
first_own (Desk n) e older true is own =
    let parts = sym (if_said n e.step (events_of n older)) ∙ (ap (λ t. are_said_by n (events_in (if t then e ∷ calls_by (2 * n) older else calls_by (2 * n) older))) (sym is) ∙ own) in
    (and_second (is_own (Desk n) e.step) (are_said_by n (events_of n older)) parts, λ t. and_first (is_own (Desk n) e.step) (are_said_by n (events_of n older)) parts)
first_own (Desk n) e older false is own =
    (ap (λ t. are_said_by n (events_in (if t then e ∷ calls_by (2 * n) older else calls_by (2 * n) older))) (sym is) ∙ own, λ t. absurd cc)
first_own (Pen n) e older true is own =
    let parts = ap (λ t. drains_alone n (if t then e ∷ calls_by (2 * n + 1) older else calls_by (2 * n + 1) older)) (sym is) ∙ own in
    (and_second (is_drain_of n e.step) (drains_alone n (calls_by (2 * n + 1) older)) parts, λ t. and_first (is_drain_of n e.step) (drains_alone n (calls_by (2 * n + 1) older)) parts)
first_own (Pen n) e older false is own =
    (ap (λ t. drains_alone n (if t then e ∷ calls_by (2 * n + 1) older else calls_by (2 * n + 1) older)) (sym is) ∙ own, λ t. absurd cc)

-- If the entries of each actor are its own, and each is of an actor below this number, all are their actors' own.
pub all_own : (made : ℕ) (log : List Entry) → AreBelow made log → ((actor : Actor) → actor_code actor < made → IsOwnOf log actor) → AreOwn log
all_own made [] below each = All-nil (λ (e : Entry). is_own e.actor e.step ≡ true)
all_own made (e ∷ older) below each =
    let same : (actor_code e.actor == actor_code e.actor) ≡ true = same_number (actor_code e.actor) in
    All-cons (λ (e : Entry). is_own e.actor e.step ≡ true) e older
    ((first_own e.actor e older true same (each e.actor below.0)).1 refl)
    (all_own made older below.1 (λ actor less. (first_own actor e older (actor_code actor == actor_code e.actor) refl (each actor less)).0))

-- ---- everybody

is_actor : (a b : Actor) → actor_is a b ≡ true → a ≡ b
is_actor (Desk n) (Desk m) same = let is : n ≡ m = grind (arith, nat_tests) in ap Desk is
is_actor (Pen n) (Pen m) same = let is : n ≡ m = grind (arith, nat_tests) in ap Pen is
is_actor (Desk n) (Pen m) same = absurd cc
is_actor (Pen n) (Desk m) same = absurd cc

self_is : (a : Actor) → actor_is a a ≡ true
self_is (Desk n) = same_number n
self_is (Pen n) = same_number n

pub map_twice : {A B C : Type 0} (f : A → B) (g : B → C) (xs : List A) → map g (map f xs) ≡ map (λ x. g (f x)) xs
map_twice f g [] = refl
map_twice f g (x ∷ xs) = ap (λ ys. g (f x) ∷ ys) (map_twice f g xs)

module _ {A : Type 0} (P : A → Type 0) where
  pub left : (xs ys : List A) → ByRecursion P (xs ++ ys) → ByRecursion P xs
  left [] ys h = tt
  left (x ∷ xs) ys h = (h.0, left xs ys h.1)

  pub right : (xs ys : List A) → ByRecursion P (xs ++ ys) → ByRecursion P ys
  right [] ys h = h
  right (x ∷ xs) ys h = right xs ys h.1

unmapped : {A B : Type 0} (P : B → Type 0) (f : A → B) (xs : List A) → ByRecursion P (map f xs) → ByRecursion (λ x. P (f x)) xs
unmapped P f [] h = tt
unmapped P f (x ∷ xs) h = (h.0, unmapped P f xs h.1)

pub each_mapped : {A B : Type 0} (P : B → Type 0) (f : A → B) (xs : List A) → All P (map f xs) → All (λ x. P (f x)) xs
each_mapped P f xs each = All-from_recursion (λ x. P (f x)) xs (unmapped P f xs (recursion_from_All P (map f xs) each))

numbered : (P : ℕ → Type 0) (slots : ℕ) → ByRecursion P (numbers_below slots) → (n : ℕ) → n < slots → P n
numbered P zero h n less = absurd (omega (arith, less))
numbered P (suc slots) h n less = by (n == slots) refl (λ lower. numbered P slots (left P (numbers_below slots) (slots ∷ []) h) n lower)
  where
    by : (t : Bool) → (n == slots) ≡ t → (n < slots → P n) → P n
    by true is lower = let same : slots ≡ n = grind (arith, nat_tests) in subst P same (right P (numbers_below slots) (slots ∷ []) h).0
    by false is lower = let other : n ≢ slots = grind (arith, nat_tests) in lower (omega (arith, less, other))

-- what holds of everybody holds of each actor with a number below so many
pub each_of : (P : Actor → Type 0) (slots : ℕ) → All P (everybody slots) → (actor : Actor) → actor_code actor < 2 * slots + 1 → P actor
each_of P slots all actor less = by actor less
  where
    desks : List Actor
    desks = map Desk (numbers_below slots)

    pens : List Actor
    pens = map Pen (numbers_below slots)

    h : ByRecursion P (everybody slots)
    h = recursion_from_All P (everybody slots) all

    by : (actor : Actor) → actor_code actor < 2 * slots + 1 → P actor
    by (Desk n) less = control (n == slots) refl
      where
        control : (t : Bool) → (n == slots) ≡ t → P (Desk n)
        control true is = let same : slots ≡ n = grind (arith, nat_tests) in subst (λ (i : ℕ). P (Desk i)) same (right P desks (Desk slots ∷ pens) h).0
        control false is =
            let other : n ≢ slots = grind (arith, nat_tests) in
            numbered (λ i. P (Desk i)) slots (unmapped P Desk (numbers_below slots) (left P desks (Desk slots ∷ pens) h)) n (omega (arith, less, other))
    by (Pen n) less = numbered (λ i. P (Pen i)) slots (unmapped P Pen (numbers_below slots) (right P desks (Desk slots ∷ pens) h).1) n (omega (arith, less))

module _ {A B : Type 0} (number : A → ℕ) (desk_share : A → List Told) (desk_witness : A → WitnessState Entry) (slot : B → ℕ) (pen_share : B → List Told) (pen_witness : B → WitnessState Entry)
    (slots : ℕ) (log : List Entry) where
  -- what is known of a desk and of a pen that were given back
  abbrev pub DeskOwn : A → Type 0
  DeskOwn desk = ((desk_witness desk).who ≡ 2 * number desk) × SaysOwn (number desk) (desk_witness desk).seen

  abbrev pub PenOwn : B → Type 0
  PenOwn pen = ((pen_witness pen).who ≡ 2 * slot pen + 1) × (drains_alone (slot pen) (calls_by (2 * slot pen + 1) (pen_witness pen).seen) ≡ true)

  each_desk : (desks : List A) → ByRecursion (HasSeenOwn log) (map desk_witness desks) → ByRecursion DeskOwn desks → ByRecursion (IsOwnOf log) (map (λ desk. Desk (number desk)) desks)
  each_desk [] seen own = tt
  each_desk (desk ∷ desks) seen own = (
    seen_own log (desk_witness desk).seen (Desk (number desk)) (subst (λ who. Knows log who (desk_witness desk).seen) own.0.0 seen.0) own.0.1,
    each_desk desks seen.1 own.1,
  )

  each_pen : (pens : List B) → ByRecursion (HasSeenOwn log) (map pen_witness pens) → ByRecursion PenOwn pens → ByRecursion (IsOwnOf log) (map (λ pen. Pen (slot pen)) pens)
  each_pen [] seen own = tt
  each_pen (pen ∷ pens) seen own = (
    seen_own log (pen_witness pen).seen (Pen (slot pen)) (subst (λ who. Knows log who (pen_witness pen).seen) own.0.0 seen.0) own.0.1,
    each_pen pens seen.1 own.1,
  )

  -- If everybody was given back, the whole history is its desks' and pens' own.
  pub ended_own : (desks : List A) (pens : List B) (shares : List Share) → AreBelow (actor_count slots) log
      → map told_by shares ≡ map (λ desk. (Desk (number desk), desk_share desk)) desks ++ map (λ pen. (Pen (slot pen), pen_share pen)) pens
      → All (HasSeenOwn log) (map desk_witness desks ++ map pen_witness pens) → All DeskOwn desks → All PenOwn pens
      → map (λ (share : Share). share.actor) shares ≡ everybody slots → AreOwn log
  ended_own desks pens shares below are seen desks_own pens_own all =
      let known = recursion_from_All (HasSeenOwn log) (map desk_witness desks ++ map pen_witness pens) seen in
      let of_desks = each_desk desks (left (HasSeenOwn log) (map desk_witness desks) (map pen_witness pens) known) (recursion_from_All DeskOwn desks desks_own) in
      let of_pens = each_pen pens (right (HasSeenOwn log) (map desk_witness desks) (map pen_witness pens) known) (recursion_from_All PenOwn pens pens_own) in
      let first : Actor × List Told → Actor = λ pair. pair.0 in
      let names = sym (map_twice told_by first shares) ∙ (ap (map first) are
      ∙ (map-append first (map (λ desk. (Desk (number desk), desk_share desk)) desks) (map (λ pen. (Pen (slot pen), pen_share pen)) pens)
      ∙ ap₂ (λ xs ys. xs ++ ys) (map_twice (λ desk. (Desk (number desk), desk_share desk)) first desks) (map_twice (λ pen. (Pen (slot pen), pen_share pen)) first pens))) in
      let each = each_of (IsOwnOf log) slots (subst (All (IsOwnOf log)) (sym names ∙ all)
      (All-append (IsOwnOf log) (map (λ desk. Desk (number desk)) desks) (map (λ pen. Pen (slot pen)) pens)
      (All-from_recursion (IsOwnOf log) (map (λ desk. Desk (number desk)) desks) of_desks) (All-from_recursion (IsOwnOf log) (map (λ pen. Pen (slot pen)) pens) of_pens))) in
      all_own (actor_count slots) log below each

-- what a slot says stands at its desk, and nowhere else
module _ (c : ℕ) (xs ys : List Step) (rest : said_at c xs ≡ said_at c ys) where
  put : (s : Step) → said_at c (s ∷ xs) ≡ said_at c (s ∷ ys)
  put s = ap (λ said. if says c (slot_of s) then s ∷ said else said) rest

  at_desk : (step : TapeStep) → said_at c (step_in step ∷ xs) ≡ said_at c (if_event step ys)
  at_desk (tape.Open addr) = rest
  at_desk (tape.Packet d kind bytes) = put (step_in (tape.Packet d kind bytes))
  at_desk (tape.Line d bytes) = put (step_in (tape.Line d bytes))
  at_desk (tape.Fault d fault) = put (step_in (tape.Fault d fault))
  at_desk (tape.Close d) = put (step_in (tape.Close d))
  at_desk (tape.Tick now) = rest
  at_desk (tape.Took d) = rest
  at_desk (tape.Withdrew d) = rest
  at_desk (tape.Drain d) = rest

  module _ (n : ℕ) (other : (c == n) ≡ false) where
    leave : (s : Step) (d : ℕ) → slot_of s ≡ Some d → ((d == n) && true) ≡ true → said_at c (s ∷ xs) ≡ said_at c ys
    leave s d of own =
        let apart : (d == c) ≡ false = grind (arith, nat_tests, and_first (d == n) true own) in
        ap (λ o. if says c o then s ∷ said_at c xs else said_at c xs) of ∙ (ap (λ t. if t then s ∷ said_at c xs else said_at c xs) apart ∙ rest)

    elsewhere : (step : TapeStep) → is_own (Desk n) step ≡ true → said_at c (step_in step ∷ xs) ≡ said_at c ys
    elsewhere (tape.Open addr) own = rest
    elsewhere (tape.Packet d kind bytes) own = leave (step_in (tape.Packet d kind bytes)) d refl own
    elsewhere (tape.Line d bytes) own = leave (step_in (tape.Line d bytes)) d refl own
    elsewhere (tape.Fault d fault) own = leave (step_in (tape.Fault d fault)) d refl own
    elsewhere (tape.Close d) own = leave (step_in (tape.Close d)) d refl own
    elsewhere (tape.Tick now) own = rest
    elsewhere (tape.Took d) own = rest
    elsewhere (tape.Withdrew d) own = rest
    elsewhere (tape.Drain d) own = rest

  at_pen : (n : ℕ) (step : TapeStep) → is_drain_of n step ≡ true → said_at c (step_in step ∷ xs) ≡ said_at c ys
  at_pen n (tape.Open addr) own = rest
  at_pen n (tape.Packet d kind bytes) own = absurd cc
  at_pen n (tape.Line d bytes) own = absurd cc
  at_pen n (tape.Fault d fault) own = absurd cc
  at_pen n (tape.Close d) own = absurd cc
  at_pen n (tape.Tick now) own = rest
  at_pen n (tape.Took d) own = rest
  at_pen n (tape.Withdrew d) own = rest
  at_pen n (tape.Drain d) own = rest

pub said_own : (c : ℕ) (log : List Entry) → AreOwn log → said_at c (steps_of log) ≡ said_at c (events_of c log)
said_own c [] own = refl
said_own c (e ∷ older) own =
    by e.actor (All-head (λ (e : Entry). is_own e.actor e.step ≡ true) e older own) (said_own c older (All-tail (λ (e : Entry). is_own e.actor e.step ≡ true) e older own))
  where
    among : Bool → List Step
    among t = events_in (if t then e ∷ calls_by (2 * c) older else calls_by (2 * c) older)

    desk : (n : ℕ) (t : Bool) → (c == n) ≡ t → (2 * c == 2 * n) ≡ t → is_own (Desk n) e.step ≡ true → said_at c (steps_of older) ≡ said_at c (events_of c older)
        → said_at c (step_in e.step ∷ steps_of older) ≡ said_at c (among (2 * c == 2 * n))
    desk n true same is own rest = at_desk c (steps_of older) (events_of c older) rest e.step ∙ ap (λ t. said_at c (among t)) (sym is)
    desk n false other is own rest = elsewhere c (steps_of older) (events_of c older) rest n other e.step own ∙ ap (λ t. said_at c (among t)) (sym is)

    by : (actor : Actor) → is_own actor e.step ≡ true → said_at c (steps_of older) ≡ said_at c (events_of c older)
        → said_at c (step_in e.step ∷ steps_of older) ≡ said_at c (among (2 * c == actor_code actor))
    by (Desk n) own rest = desk n (c == n) refl (grind (arith, nat_tests)) own rest
    by (Pen n) own rest =
        let apart : (2 * c == 2 * n + 1) ≡ false = grind (arith, nat_tests) in
        at_pen c (steps_of older) (events_of c older) rest n e.step own ∙ ap (λ t. said_at c (among t)) (sym apart)

pub drain_own : (c : ℕ) (actor : Actor) (step : TapeStep) → is_own actor step ≡ true → step ≡ tape.Drain c → actor ≡ Pen c
drain_own c actor step own is = by actor (ap (is_own actor) (sym is) ∙ own)
  where
    by : (actor : Actor) → is_own actor (tape.Drain c) ≡ true → actor ≡ Pen c
    by (Desk n) own = absurd cc
    by (Pen n) own = let same : n ≡ c = grind (arith, nat_tests) in ap Pen same

-- ---- the shares that are handed back

-- these shares are of these actors, as far as they were compared
pub record Alike (shares left : List Share) (actors rest : List Actor) : Type 0 where
  pub taken : List Actor
  pub shares_are : map (λ (share : Share). share.actor) shares ≡ taken ++ map (λ (share : Share). share.actor) left
  pub actors_are : actors ≡ taken ++ rest

true_not_false : true ≡ false → ⊥
true_not_false h = absurd cc

-- the next share of a list
pub next_share : (shares : List Share) (i : ℕ) (share : Share) → i < length shares → share ≡ get_or shares i share → drop i shares ≡ share ∷ drop (i + 1) shares
next_share shares i share lt is =
    drop-cons shares i share lt ∙ (ap (λ (s : Share). s ∷ drop (suc i) shares) (sym is) ∙ ap (λ (n : ℕ). share ∷ drop n shares) (sym (add-one i)))

module _ (shares left left_after : List Share) (actors rest rest_after : List Actor) (share : Share) (actor : Actor)
    (alike : Alike shares left actors rest) (next : left ≡ share ∷ left_after) (other : rest ≡ actor ∷ rest_after) where
  pub alike_next : actor_is share.actor actor ≡ true → Alike shares left_after actors rest_after
  alike_next is = let same = is_actor share.actor actor is in record {
    taken = alike.taken ++ actor ∷ [];
    shares_are = alike.shares_are ∙ (ap (λ l. alike.taken ++ map (λ (s : Share). s.actor) l) next
        ∙ (ap (λ a. alike.taken ++ a ∷ map (λ (s : Share). s.actor) left_after) same ∙ sym (append_assoc alike.taken (actor ∷ []) (map (λ (s : Share). s.actor) left_after))));
    actors_are = alike.actors_are ∙ (ap (λ l. alike.taken ++ l) other ∙ sym (append_assoc alike.taken (actor ∷ []) rest_after));
  }

  pub not_alike : actor_is share.actor actor ≡ false → map (λ (s : Share). s.actor) shares ≡ actors → ⊥
  not_alike apart same =
      let rests = append_cancel_left alike.taken (map (λ (s : Share). s.actor) left) rest (sym alike.shares_are ∙ (same ∙ alike.actors_are)) in
      let is : share.actor ≡ actor = ap (λ l. get_or l 0 actor) (sym (ap (λ l. map (λ (s : Share). s.actor) l) next) ∙ (rests ∙ other)) in
      true_not_false (sym (self_is actor) ∙ (ap (λ a. actor_is a actor) (sym is) ∙ apart))

-- what a list keeps with one more at its end
pub all_then : {A : Type 0} (P : A → Type 0) (xs all : List A) (x : A) → all ≡ xs ++ x ∷ [] → All P xs → P x → All P all
all_then P xs all x is each last = subst (All P) (sym is) (All-push P xs x each last)

-- one is moved from the head of what is left to the end of what was made
pub one_more : {A B : Type 0} (xs all : List A) (x : A) (left rest : List B) (y : B) (n : ℕ) → all ≡ xs ++ x ∷ [] → left ≡ y ∷ rest → length xs + length left ≡ n
    → length all + length rest ≡ n
one_more xs all x left rest y n is next sum = omega (arith, ap length is, length-append xs (x ∷ []), ap length next, sum)

-- what was put behind n others is the last
pub last_of : {A : Type 0} (xs all : List A) (x : A) (n : ℕ) → all ≡ xs ++ x ∷ [] → length xs ≡ n → drop n all ≡ x ∷ []
last_of xs all x n is long =
    let same : n ≡ length xs + 0 = omega (arith, long) in
    ap (drop n) is ∙ (ap (λ (i : ℕ). drop i (xs ++ x ∷ [])) same ∙ drop-append-add xs (x ∷ []) 0)
