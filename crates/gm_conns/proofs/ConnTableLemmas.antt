-- What is kept beside the connections, after a slot changes.
use Rattle.std.proofs.Common.{◌≡◌, ◌≢◌, ℕ, zero, suc, ◌+◌, ◌%◌, ◌<◌, ◌≤◌, ◌==◌, nat_lt, nat_eq, Bool, true, false, cond, not, ◌&&◌, ◌||◌}
use Rattle.std.proofs.Common.{if◌then◌else◌, IsTrue, is_some}
use Rattle.std.proofs.Common.{inl, inr, List, [], ◌∷◌, ◌++◌, length, get_or, set, count_by, length-set, refl, sym, ap, subst, ◌∙◌, arith}
use Rattle.gm_notes.specs.declared.states.Phase.{Phase}
use Rattle.std.proofs.lemmas.List.{get_or-set_same, get_or-set_other, get_or_past, get_or_default}
use Rattle.std.proofs.lemmas.List.Sums.{sum_by-set, sum_by-cons, count_by-le-length}
use Rattle.std.proofs.lemmas.Bool.{cases_eq, cases_lt, false≢true}
use Rattle.std.proofs.lemmas.Bool.Decides.{nat_tests}
use Rattle.std.proofs.lemmas.Nat.Bits.{bit_at-zero}
use Rattle.std.specs.Map.{lookup}
use Rattle.gm_notes.specs.Notes.{is_asleep}
use Rattle.gm_bytes.specs.Queues.{Queued}
use Rattle.gm_conns.specs.Slots.{has}
use Rattle.gm_conns.specs.Connections.{Connection, closed, opened, is_able}
use Rattle.gm_conns.specs.ConnTables.{Able, Table, able_of, in_slot, conn, IsOpen, IsKept, Changes}
use Rattle.gm_conns.specs.declared.conns.Conns.TheInside.{Inside}
use Rattle.gm_notes.proofs.Numbers.{same_number}

abbrev phase_of : Connection → Phase
phase_of x = x.phase

-- an open slot is one of the slots
pub open_within : (conns : List Connection) (slot : ℕ) → IsTrue (in_slot conns slot).is_open → slot < length conns
open_within [] slot h = absurd (false≢true h)
open_within (x ∷ xs) zero h = omega arith
open_within (x ∷ xs) (suc slot) h = omega (arith, open_within xs slot h)

-- a slot more, in which nobody is
pub closed_more : (conns : List Connection) → ((c : ℕ) → in_slot conns c ≡ closed) → (c : ℕ) → in_slot (conns ++ closed ∷ []) c ≡ closed
closed_more [] h zero = refl
closed_more [] h (suc c) = refl
closed_more (x ∷ xs) h zero = h 0
closed_more (x ∷ xs) h (suc c) = closed_more xs (λ c. h (suc c)) c

pub below_more : (i n : ℕ) → ((i == n) || nat_lt i n) ≡ nat_lt i (n + 1)
below_more i n = grind (arith, nat_tests)

chosen : {A : Type 0} (x y z : A) (c slot : ℕ) → (c ≡ slot → x ≡ y) → (c ≢ slot → x ≡ z) → x ≡ (if c == slot then y else z)
chosen x y z c slot here there = by (c == slot) refl
  where
    by : (b : Bool) → (c == slot) ≡ b → x ≡ (if b then y else z)
    by true e = here (grind (arith, nat_tests))
    by false e = there (grind (arith, nat_tests))

pub in_slot-set : (conns : List Connection) (slot c : ℕ) (now : Connection) → slot < length conns → in_slot (set conns slot now) c ≡ (if c == slot then now else in_slot conns c)
in_slot-set conns slot c now within =
    chosen (in_slot (set conns slot now) c) now (in_slot conns c) c slot
    (λ e. ap (in_slot (set conns slot now)) e ∙ get_or-set_same conns slot now closed within)
    (λ ne. get_or-set_other conns slot c now closed ne)

-- a function of what is in the slots, after one changes
at_slot : {A : Type 0} (f : Connection → A) (conns : List Connection) (slot c : ℕ) (now : Connection) → slot < length conns
    → f (in_slot (set conns slot now) c) ≡ (if c == slot then f now else f (in_slot conns c))
at_slot f conns slot c now within = ap f (in_slot-set conns slot c now within) ∙ by (c == slot)
  where
    by : (b : Bool) → f (if b then now else in_slot conns c) ≡ (if b then f now else f (in_slot conns c))
    by true = refl
    by false = refl

other_eq : (m n : ℕ) → m ≢ n → (m == n) ≡ false
other_eq m n ne = grind (arith, nat_tests)

or_if : (b x : Bool) → (b || x) ≡ (if b then true else x)
or_if true x = refl
or_if false x = refl

and_if : (b x : Bool) → (not b && x) ≡ (if b then false else x)
and_if true x = refl
and_if false x = refl

and_true : (b : Bool) → b ≡ (b && true)
and_true true = refl
and_true false = refl

under_if : {A : Type 0} (b : Bool) (x y z : A) → (b ≡ false → y ≡ z) → (if b then x else y) ≡ (if b then x else z)
under_if true x y z e = refl
under_if false x y z e = e refl

below_here : (c slot n : ℕ) (b d : Bool) → slot < n → (if c == slot then b else (nat_lt c n && d)) ≡ (nat_lt c n && (if c == slot then b else d))
below_here c slot n b d within = by (c == slot) refl
  where
    by : (t : Bool) → (c == slot) ≡ t → (if t then b else (nat_lt c n && d)) ≡ (nat_lt c n && (if t then b else d))
    by true e = let inside : nat_lt c n ≡ true = grind (arith, nat_tests) in ap (λ t. t && b) (sym inside)
    by false e = refl

-- a count is one more or less, as the slot passes or not
pub count-set : (p : Connection → Bool) (conns : List Connection) (slot : ℕ) (now : Connection) → slot < length conns
    → count_by p (set conns slot now) + (if p (in_slot conns slot) then 1 else 0) ≡ count_by p conns + (if p now then 1 else 0)
count-set p conns slot now within = sum_by-set (λ x. cond (p x) 1 0) conns slot now closed within

module _ (conns : List Connection) (able : List Able) (free asleep : List ℕ) (kept : IsKept conns able free asleep)
    (slot : ℕ) (within : slot < length conns) (now : Connection) where
  at_ends : (now.is_open ≡ false → now ≡ closed) → (c : ℕ) → (in_slot (set conns slot now) c).is_open ≡ false → in_slot (set conns slot now) c ≡ closed
  at_ends ends c shut = by (c == slot) (in_slot-set conns slot c now within)
    where
      by : (b : Bool) → in_slot (set conns slot now) c ≡ (if b then now else in_slot conns c) → in_slot (set conns slot now) c ≡ closed
      by true e = e ∙ ends (ap (λ (x : Connection). x.is_open) (sym e) ∙ shut)
      by false e = e ∙ kept.ends c (ap (λ (x : Connection). x.is_open) (sym e) ∙ shut)

  free_here : (c : ℕ) → c ≡ slot → now.is_open ≡ (in_slot conns slot).is_open → IsTrue (in_slot conns slot).is_open → has free c ≡ not now.is_open
  free_here c e opens is_open =
      let inside : nat_lt slot (length conns) ≡ true = grind (arith, nat_tests) in
      ap (has free) e ∙ kept.frees slot ∙ (λ j. inside j && not (sym opens j))

  pub read_slot : (old : Connection) → old ≡ get_or conns slot old → in_slot conns slot ≡ old
  read_slot old read = sym (read ∙ get_or_default conns slot old closed within)

  free_stays : now.is_open ≡ (in_slot conns slot).is_open → IsTrue (in_slot conns slot).is_open → (c : ℕ) → has free c ≡ (if c == slot then not now.is_open else has free c)
  free_stays opens is_open c = chosen (has free c) (not now.is_open) (has free c) c slot (λ e. free_here c e opens is_open) (λ _. refl)

  ables_stay : ((f : ℕ) → is_able f now ≡ is_able f (in_slot conns slot)) → (f c : ℕ) → has (able_of able f).slots c ≡ (if c == slot then is_able f now else has (able_of able f).slots c)
  ables_stay can f c =
      chosen (has (able_of able f).slots c) (is_able f now) (has (able_of able f).slots c) c slot
      (λ e. ap (has (able_of able f).slots) e ∙ kept.ables f slot ∙ sym (can f)) (λ _. refl)

  asleep_stays : is_asleep now.phase ≡ is_asleep (in_slot conns slot).phase → (c : ℕ) → has asleep c ≡ (if c == slot then is_asleep now.phase else has asleep c)
  asleep_stays same c = chosen (has asleep c) (is_asleep now.phase) (has asleep c) c slot (λ e. ap (has asleep) e ∙ kept.sleepers slot ∙ sym same) (λ _. refl)

  stays_open : now.is_open ≡ (in_slot conns slot).is_open → IsTrue (in_slot conns slot).is_open → now.is_open ≡ false → now ≡ closed
  stays_open opens is_open shut = absurd (false≢true (sym shut ∙ opens ∙ is_open))

  -- what is kept is what the connections say, where it changes as the slot does
  pub IsKept-set : (able' : List Able) (free' asleep' : List ℕ)
      → ((c : ℕ) → has free' c ≡ (if c == slot then not now.is_open else has free c))
      → ((c : ℕ) → has asleep' c ≡ (if c == slot then is_asleep now.phase else has asleep c))
      → ((f c : ℕ) → has (able_of able' f).slots c ≡ (if c == slot then is_able f now else has (able_of able f).slots c))
      → ((f : ℕ) → (able_of able' f).count + (if is_able f (in_slot conns slot) then 1 else 0) ≡ (able_of able f).count + (if is_able f now then 1 else 0))
      → (now.is_open ≡ false → now ≡ closed)
      → IsKept (set conns slot now) able' free' asleep'
  IsKept-set able' free' asleep' frees sleepers ables counts ends =
      let long = length-set conns slot now in
      record {
        few = omega (arith, kept.few);
        frees = λ c.
            frees c ∙ under_if (c == slot) (not now.is_open) _ _ (λ _. kept.frees c)
            ∙ below_here c slot (length conns) (not now.is_open) (not (in_slot conns c).is_open) within
            ∙ (λ j. nat_lt c (sym long j) && sym (at_slot (λ x. not x.is_open) conns slot c now within) j);
        sleepers = λ c. sleepers c ∙ under_if (c == slot) (is_asleep now.phase) _ _ (λ _. kept.sleepers c) ∙ sym (at_slot (λ x. is_asleep x.phase) conns slot c now within);
        ables = λ f c. ables f c ∙ under_if (c == slot) (is_able f now) _ _ (λ _. kept.ables f c) ∙ sym (at_slot (is_able f) conns slot c now within);
        counts = λ f. omega (arith, counts f, kept.counts f, count-set (is_able f) conns slot now within);
        ends = at_ends ends;
      }

  -- the same, where the connection stays open or not, asleep or not, and as able
  pub IsKept-same : (old changed : Connection) → now ≡ changed → old ≡ get_or conns slot old → IsTrue (in_slot conns slot).is_open
      → changed.is_open ≡ old.is_open → changed.phase ≡ old.phase → ((f : ℕ) → is_able f changed ≡ is_able f old)
      → IsKept (set conns slot now) able free asleep
  IsKept-same old changed is read is_open same_open same_phase same_able =
      let here = read_slot old read in
      let opens : now.is_open ≡ (in_slot conns slot).is_open = ap (λ x. x.is_open) is ∙ same_open ∙ ap (λ x. x.is_open) (sym here) in
      let can : (f : ℕ) → is_able f now ≡ is_able f (in_slot conns slot) = λ f. ap (is_able f) is ∙ same_able f ∙ ap (is_able f) (sym here) in
      IsKept-set able free asleep (free_stays opens is_open) (asleep_stays (ap is_asleep (ap phase_of is ∙ same_phase ∙ ap phase_of (sym here))))
      (ables_stay can)
      (λ f. ap (λ b. (able_of able f).count + (if b then 1 else 0)) (sym (can f)))
      (stays_open opens is_open)

  -- the same, where one function's set and count change with the connection
  module _ (old changed : Connection) (is : now ≡ changed) (read : old ≡ get_or conns slot old) (is_open : IsTrue (in_slot conns slot).is_open)
      (same_open : changed.is_open ≡ old.is_open) (same_phase : changed.phase ≡ old.phase)
      (f : ℕ) (set_of set_now : Able) (known : f < length able) (read_set : set_of ≡ get_or able f set_of) where
    changes_set : has set_now.slots slot ≡ is_able f changed → ((c : ℕ) → c ≢ slot → has set_now.slots c ≡ has set_of.slots c)
        → set_now.count + (if is_able f old then 1 else 0) ≡ set_of.count + (if is_able f changed then 1 else 0)
        → ((g : ℕ) → g ≢ f → is_able g changed ≡ is_able g old)
        → IsKept (set conns slot now) (set able f set_now) free asleep
    changes_set slot_here slots_there count others =
        let here = read_slot old read in
        let opens : now.is_open ≡ (in_slot conns slot).is_open = ap (λ x. x.is_open) is ∙ same_open ∙ ap (λ x. x.is_open) (sym here) in
        let at_f : able_of (set able f set_now) f ≡ set_now = get_or-set_same able f set_now (record { slots = []; count = 0 }) known in
        let off_f : (g : ℕ) → g ≢ f → able_of (set able f set_now) g ≡ able_of able g = λ g ne. get_or-set_other able f g set_now (record { slots = []; count = 0 }) ne in
        let was_f : able_of able f ≡ set_of = sym (read_set ∙ get_or_default able f set_of (record { slots = []; count = 0 }) known) in
        IsKept-set (set able f set_now) free asleep (free_stays opens is_open) (asleep_stays (ap is_asleep (ap phase_of is ∙ same_phase ∙ ap phase_of (sym here))))
        (λ g c. chosen (has (able_of (set able f set_now) g).slots c) (is_able g now) (has (able_of able g).slots c) c slot
        (λ e. elim (cases_eq g f) [
          | inl h ↦ (λ j. has (able_of (set able f set_now) (h j)).slots (e j)) ∙ ap (λ (a : Able). has a.slots slot) at_f ∙ slot_here ∙ sym (ap (is_able f) is) ∙ ap (λ k. is_able k now) (sym h)
          | inr ne ↦ ap (λ (a : Able). has a.slots c) (off_f g ne) ∙ ap (has (able_of able g).slots) e ∙ kept.ables g slot ∙ ap (is_able g) here ∙ sym (others g ne) ∙ sym (ap (is_able g) is)
        ])
        (λ out. elim (cases_eq g f) [
          | inl h ↦ (λ j. has (able_of (set able f set_now) (h j)).slots c) ∙ ap (λ (a : Able). has a.slots c) at_f ∙ slots_there c out ∙ ap (λ (a : Able). has a.slots c) (sym was_f) ∙ ap (λ k. has (able_of able k).slots c) (sym h)
          | inr ne ↦ ap (λ (a : Able). has a.slots c) (off_f g ne)
        ]))
        (λ g. elim (cases_eq g f) [
          | inl h ↦
              (λ j. (able_of (set able f set_now) (h j)).count + (if is_able (h j) (here j) then 1 else 0))
              ∙ ap (λ (a : Able). a.count + (if is_able f old then 1 else 0)) at_f ∙ count
              ∙ (λ j. (sym was_f j).count + (if is_able f (sym is j) then 1 else 0))
              ∙ ap (λ k. (able_of able k).count + (if is_able k now then 1 else 0)) (sym h)
          | inr ne ↦
              (λ j. (off_f g ne j).count + (if is_able g (here j) then 1 else 0))
              ∙ ap (λ b. (able_of able g).count + (if b then 1 else 0)) (sym (others g ne) ∙ sym (ap (is_able g) is))
        ])
        (stays_open opens is_open)

    -- the connection can't do the function any more
    pub IsKept-loses : ((c : ℕ) → has set_now.slots c ≡ (not (c == slot) && has set_of.slots c)) → set_now.count + 1 ≡ set_of.count
        → ((g : ℕ) → is_able g changed ≡ (not (g == f) && is_able g old)) → is_able f old ≡ true
        → IsKept (set conns slot now) (set able f set_now) free asleep
    IsKept-loses slots count ables was =
        let gone : is_able f changed ≡ false = ables f ∙ ap (λ b. not b && is_able f old) (same_number f) in
        let less : set_now.count + 1 ≡ set_of.count + 0 = omega arith in
        changes_set
        (slots slot ∙ ap (λ b. not b && has set_of.slots slot) (same_number slot) ∙ sym gone)
        (λ c ne. slots c ∙ ap (λ b. not b && has set_of.slots c) (other_eq c slot ne))
        ((λ j. set_now.count + (if was j then 1 else 0)) ∙ less ∙ (λ j. set_of.count + (if sym gone j then 1 else 0)))
        (λ g ne. ables g ∙ ap (λ b. not b && is_able g old) (other_eq g f ne))

    -- the connection can do the function now
    pub IsKept-gains : ((c : ℕ) → has set_now.slots c ≡ ((c == slot) || has set_of.slots c)) → set_now.count ≡ set_of.count + 1
        → ((g : ℕ) → is_able g changed ≡ ((g == f) || is_able g old)) → is_able f old ≡ false
        → IsKept (set conns slot now) (set able f set_now) free asleep
    IsKept-gains slots count ables was =
        let come : is_able f changed ≡ true = ables f ∙ ap (λ b. b || is_able f old) (same_number f) in
        let more : set_now.count + 0 ≡ set_of.count + 1 = omega arith in
        changes_set
        (slots slot ∙ ap (λ b. b || has set_of.slots slot) (same_number slot) ∙ sym come)
        (λ c ne. slots c ∙ ap (λ b. b || has set_of.slots c) (other_eq c slot ne))
        ((λ j. set_now.count + (if was j then 1 else 0)) ∙ more ∙ (λ j. set_of.count + (if sym come j then 1 else 0)))
        (λ g ne. ables g ∙ ap (λ b. b || is_able g old) (other_eq g f ne))

  -- the connection goes to sleep, or wakes
  pub IsKept-phase : (old changed : Connection) (asleep' : List ℕ) → now ≡ changed → old ≡ get_or conns slot old → IsTrue (in_slot conns slot).is_open
      → changed.is_open ≡ old.is_open → ((f : ℕ) → is_able f changed ≡ is_able f old)
      → ((c : ℕ) → has asleep' c ≡ (if c == slot then is_asleep changed.phase else has asleep c))
      → IsKept (set conns slot now) able free asleep'
  IsKept-phase old changed asleep' is read is_open same_open same_able sleeps =
      let here = read_slot old read in
      let opens : now.is_open ≡ (in_slot conns slot).is_open = ap (λ x. x.is_open) is ∙ same_open ∙ ap (λ x. x.is_open) (sym here) in
      let can : (f : ℕ) → is_able f now ≡ is_able f (in_slot conns slot) = λ f. ap (is_able f) is ∙ same_able f ∙ ap (is_able f) (sym here) in
      IsKept-set able free asleep' (free_stays opens is_open)
      (λ c. sleeps c ∙ ap (λ b. if c == slot then b else has asleep c) (ap is_asleep (ap phase_of (sym is))))
      (ables_stay can)
      (λ f. ap (λ b. (able_of able f).count + (if b then 1 else 0)) (sym (can f)))
      (stays_open opens is_open)

  -- a connection begins
  pub IsKept-opened : (addr : List ℕ) (free' : List ℕ) → now ≡ opened addr → in_slot conns slot ≡ closed
      → ((c : ℕ) → has free' c ≡ (not (c == slot) && has free c))
      → IsKept (set conns slot now) able free' asleep
  IsKept-opened addr free' is was frees =
      let can : (f : ℕ) → is_able f now ≡ is_able f (in_slot conns slot) = λ f. ap (is_able f) is ∙ ap (is_able f) (sym was) in
      IsKept-set able free' asleep
      (λ c. frees c ∙ and_if (c == slot) (has free c) ∙ ap (λ b. if c == slot then b else has free c) (ap (λ x. not x.is_open) (sym is)))
      (asleep_stays (ap is_asleep (ap phase_of is ∙ ap phase_of (sym was))))
      (ables_stay can)
      (λ f. ap (λ b. (able_of able f).count + (if b then 1 else 0)) (sym (can f)))
      (λ shut. absurd (false≢true (sym shut ∙ ap (λ (x : Connection). x.is_open) is)))

  -- a connection that can do nothing ends
  pub IsKept-closed : (free' asleep' : List ℕ) → now ≡ closed → (in_slot conns slot).abilities ≡ []
      → ((c : ℕ) → has free' c ≡ ((c == slot) || has free c)) → ((c : ℕ) → has asleep' c ≡ (not (c == slot) && has asleep c))
      → IsKept (set conns slot now) able free' asleep'
  IsKept-closed free' asleep' is idle frees sleeps =
      let can : (f : ℕ) → is_able f now ≡ is_able f (in_slot conns slot) = λ f. ap (is_able f) is ∙ ap (λ l. is_some (lookup (nat_eq f) l)) (sym idle) in
      IsKept-set able free' asleep'
      (λ c. frees c ∙ or_if (c == slot) (has free c) ∙ ap (λ b. if c == slot then b else has free c) (ap (λ x. not x.is_open) (sym is)))
      (λ c. sleeps c ∙ and_if (c == slot) (has asleep c) ∙ ap (λ b. if c == slot then b else has asleep c) (ap is_asleep (ap phase_of (sym is))))
      (ables_stay can)
      (λ f. ap (λ b. (able_of able f).count + (if b then 1 else 0)) (sym (can f)))
      (λ shut. is)

  -- the table of functions may be longer
  pub IsKept-covered : (able' : List Able) → ((f c : ℕ) → has (able_of able' f).slots c ≡ has (able_of able f).slots c) → ((f : ℕ) → (able_of able' f).count ≡ (able_of able f).count)
      → IsKept conns able' free asleep
  IsKept-covered able' slots counts = record {
    few = kept.few;
    frees = kept.frees;
    sleepers = kept.sleepers;
    ables = λ f c. slots f c ∙ kept.ables f c;
    counts = λ f. counts f ∙ kept.counts f;
    ends = kept.ends;
  }

-- a function whose set has a slot is in the table
pub able_within : (able : List Able) (f slot : ℕ) → has (able_of able f).slots slot ≡ true → f < length able
able_within able f slot e = elim (cases_lt f (length able)) [
  | inl within ↦ within
  | inr past ↦ absurd (false≢true (sym (ap (λ b. b == 1) (bit_at-zero (slot % 64))) ∙ ap (λ (a : Able). has a.slots slot) (sym (get_or_past able f (record { slots = []; count = 0 }) past)) ∙ e))
]

-- where nobody is, nobody can do anything
count-closed : (f : ℕ) (conns : List Connection) → ((c : ℕ) → in_slot conns c ≡ closed) → count_by (is_able f) conns ≡ 0
count-closed f [] none = refl
count-closed f (x ∷ xs) none =
    let first : ◌≡◌ {A = ℕ} (if is_able f x then 1 else 0) 0 = λ j. if is_able f (none 0 j) then 1 else 0 in
    let whole = sum_by-cons (λ x. cond (is_able f x) 1 0) x xs in
    omega (arith, first, whole, count-closed f xs (λ c. none (suc c)))

-- the tables of a server that begins
pub IsKept-new : (conns : List Connection) (free asleep : List ℕ) → length conns ≤ 1024 → ((c : ℕ) → in_slot conns c ≡ closed)
    → ((c : ℕ) → has free c ≡ nat_lt c (length conns)) → ((c : ℕ) → has asleep c ≡ false) → IsKept conns [] free asleep
IsKept-new conns free asleep few none frees sleeps = record {
  few = few;
  frees = λ c. frees c ∙ and_true (nat_lt c (length conns)) ∙ (λ j. nat_lt c (length conns) && not (sym (none c) j).is_open);
  sleepers = λ c. sleeps c ∙ ap is_asleep (ap phase_of (sym (none c)));
  ables = λ f c. ap (λ b. b == 1) (bit_at-zero (c % 64)) ∙ ap (is_able f) (sym (none c));
  counts = λ f. sym (count-closed f conns none);
  ends = λ c _. none c;
}

taken : {A : Type 0} (x y : A) (b : Bool) → b ≡ true → (if b then x else y) ≡ x
taken x y b e = ap (λ t. if t then x else y) e

passed : {A : Type 0} (x y : A) (b : Bool) → b ≡ false → (if b then x else y) ≡ y
passed x y b e = ap (λ t. if t then x else y) e

-- what a change of a slot is to callers
Changes-set : (conns : List Connection) (touched touched' : List ℕ) (slot : ℕ) (change : Connection → Connection) (touches : Bool) (old now : Connection)
    → slot < length conns
    → old ≡ get_or conns slot old → now ≡ change old → ((c : ℕ) → has touched' c ≡ ((touches && (c == slot)) || has touched c))
    → Changes slot change touches (record { conns = conns; touched = touched }) (record { conns = set conns slot now; touched = touched' })
Changes-set conns touched touched' slot change touches old now within read is touch = record {
  slots = length-set conns slot now;
  conns = λ c.
      in_slot-set conns slot c now within
      ∙ sym (chosen (if c == slot then change (in_slot conns c) else in_slot conns c) now (in_slot conns c) c slot
      (λ e. taken (change (in_slot conns c)) (in_slot conns c) (c == slot) (ap (λ k. k == slot) e ∙ same_number slot) ∙ ap (λ k. change (in_slot conns k)) e ∙ sym (is ∙ ap change (read ∙ get_or_default conns slot old closed within)))
      (λ ne. passed (change (in_slot conns c)) (in_slot conns c) (c == slot) (other_eq c slot ne)));
  touched = touch;
}

-- the same, where the table is what a call finds
pub changes_within : (t : Inside) {table : Table} {slot : ℕ} (change : Connection → Connection) (touches : Bool) {old now : Connection} {touched : List ℕ}
    → record { conns = t.conns.items; touched = t.touched } ≡ table → slot < length t.conns.items → now ≡ change old → old ≡ get_or t.conns.items slot old
    → ((c : ℕ) → has touched c ≡ ((touches && (c == slot)) || has t.touched c))
    → Changes slot change touches table (record { conns = set t.conns.items slot now; touched = touched })
changes_within t {table} {slot} change touches {old} {now} {touched} view within is read touch =
    subst (λ (x : Table). Changes slot change touches x (record { conns = set t.conns.items slot now; touched = touched })) view
    (Changes-set t.conns.items t.touched touched slot change touches old now within read is touch)

-- ---- an open slot of a table, as a call finds it

module _ (t : Inside) (kept : IsKept t.conns.items t.able.items t.free t.asleep) {table : Table} (view : record { conns = t.conns.items; touched = t.touched } ≡ table)
    (slot : ℕ) (opened : IsOpen table slot) where
  pub open_inside : IsTrue (in_slot t.conns.items slot).is_open
  open_inside = subst (λ (x : Table). IsOpen x slot) (sym view) opened

  pub within_inside : slot < length t.conns.items
  within_inside = open_within t.conns.items slot open_inside

  module _ {old now changed : Connection} (is : now ≡ changed) (read : old ≡ get_or t.conns.items slot old) where
    -- the connection stays open, as awake and as able as it was
    pub keeps_same : changed.is_open ≡ old.is_open → changed.phase ≡ old.phase → ((f : ℕ) → is_able f changed ≡ is_able f old)
        → IsKept (set t.conns.items slot now) t.able.items t.free t.asleep
    keeps_same same_open same_phase same_able =
        IsKept-same t.conns.items t.able.items t.free t.asleep kept slot within_inside now old changed is read open_inside same_open same_phase same_able

    -- the connection can't do a function any more
    pub loses_ability : changed.is_open ≡ old.is_open → changed.phase ≡ old.phase → (f : ℕ) (set_of set_now : Able) → set_of ≡ get_or t.able.items f set_of
        → ((c : ℕ) → has set_now.slots c ≡ (not (c == slot) && has set_of.slots c)) → set_now.count + 1 ≡ set_of.count
        → ((g : ℕ) → is_able g changed ≡ (not (g == f) && is_able g old)) → is_able f old ≡ true
        → IsKept (set t.conns.items slot now) (set t.able.items f set_now) t.free t.asleep
    loses_ability same_open same_phase f set_of set_now read_set slots count ables was =
        let here = read_slot t.conns.items t.able.items t.free t.asleep kept slot within_inside now old read in
        IsKept-loses t.conns.items t.able.items t.free t.asleep kept slot within_inside now old changed is read open_inside same_open same_phase f set_of set_now
        (able_within t.able.items f slot (kept.ables f slot ∙ ap (is_able f) here ∙ was)) read_set slots count ables was

  -- what the change is to callers
  pub changes_slot : (change : Connection → Connection) (touches : Bool) {old now : Connection} {touched : List ℕ} → now ≡ change old → old ≡ get_or t.conns.items slot old
      → ((c : ℕ) → has touched c ≡ ((touches && (c == slot)) || has t.touched c))
      → Changes slot change touches table (record { conns = set t.conns.items slot now; touched = touched })
  changes_slot change touches is read touch = changes_within t change touches view within_inside is read touch

-- only the queue of a connection changes
pub requeued : {view old : Connection} {now changed : Queued} (change : Connection → Connection) → view ≡ old → now ≡ changed
    → record view { waiting = changed.bytes; room = changed.room } ≡ change view → record view { waiting = now.bytes; room = now.room } ≡ change old
requeued {view} change viewed is does = ap (λ (q : Queued). record view { waiting = q.bytes; room = q.room }) is ∙ does ∙ ap change viewed

-- where the function isn't there, taking it out changes nothing
pub stays_unable : (f : ℕ) (x : Connection) → is_able f x ≡ false → (g : ℕ) → (not (g == f) && is_able g x) ≡ is_able g x
stays_unable f x unable g = elim (cases_eq g f) [
  | inl e ↦ ap (λ b. not b && is_able g x) (ap (λ k. k == f) e ∙ same_number f) ∙ sym (ap (λ k. is_able k x) e ∙ unable)
  | inr ne ↦ ap (λ b. not b && is_able g x) (other_eq g f ne)
]

-- and where it is there, adding it makes nobody able
pub stays_able : (f : ℕ) (x : Connection) → is_able f x ≡ true → (g : ℕ) → ((g == f) || is_able g x) ≡ is_able g x
stays_able f x able g = elim (cases_eq g f) [
  | inl e ↦ ap (λ b. b || is_able g x) (ap (λ k. k == f) e ∙ same_number f) ∙ sym (ap (λ k. is_able k x) e ∙ able)
  | inr ne ↦ ap (λ b. b || is_able g x) (other_eq g f ne)
]

-- a set of no slots at the end says what no set says
pub able-push : (able : List Able) (none : Able) → ((c : ℕ) → has none.slots c ≡ false) → (f c : ℕ) → has (able_of (able ++ none ∷ []) f).slots c ≡ has (able_of able f).slots c
able-push [] none empty zero c = empty c ∙ sym (ap (λ b. b == 1) (bit_at-zero (c % 64)))
able-push [] none empty (suc f) c = refl
able-push (x ∷ xs) none empty zero c = refl
able-push (x ∷ xs) none empty (suc f) c = able-push xs none empty f c

pub count-push : (able : List Able) (none : Able) → none.count ≡ 0 → (f : ℕ) → (able_of (able ++ none ∷ []) f).count ≡ (able_of able f).count
count-push [] none empty zero = empty
count-push [] none empty (suc f) = refl
count-push (x ∷ xs) none empty zero = refl
count-push (x ∷ xs) none empty (suc f) = count-push xs none empty f

below : (c n : ℕ) (b : Bool) → (nat_lt c n && b) ≡ true → c < n
below c n b e = grind (arith, nat_tests)

inside : (c n : ℕ) → c < n → nat_lt c n ≡ true
inside c n h = grind (arith, nat_tests)

shut : (a b : Bool) → (a && not b) ≡ true → b ≡ false
shut true true e = sym e
shut true false e = refl
shut false b e = absurd (false≢true e)

opens : (a b : Bool) → a ≡ true → (a && not b) ≡ false → b ≡ true
opens true true e h = refl
opens true false e h = sym h
opens false b e h = absurd (false≢true e)

module _ (conns : List Connection) (able : List Able) (free asleep : List ℕ) (kept : IsKept conns able free asleep) where
  -- a slot that is free is one of the slots, and nobody is there
  pub free_slot : (slot : ℕ) → has free slot ≡ true → (slot < length conns) × (in_slot conns slot ≡ closed)
  free_slot slot e =
      let both : (nat_lt slot (length conns) && not (in_slot conns slot).is_open) ≡ true = sym (kept.frees slot) ∙ e in
      (below slot (length conns) (not (in_slot conns slot).is_open) both, kept.ends slot (shut (nat_lt slot (length conns)) (in_slot conns slot).is_open both))

  -- and a slot that isn't free is open
  pub taken_slot : (slot : ℕ) → slot < length conns → has free slot ≡ false → IsTrue (in_slot conns slot).is_open
  taken_slot slot within e =
      opens (nat_lt slot (length conns)) (in_slot conns slot).is_open (inside slot (length conns) within) (sym (kept.frees slot) ∙ e)

-- what a change makes of its slot
pub changed_here : (slot : ℕ) (change : Connection → Connection) (touches : Bool) (old new : Table) → Changes slot change touches old new → conn new slot ≡ change (conn old slot)
changed_here slot change touches old new is = is.conns slot ∙ taken (change (conn old slot)) (conn old slot) (slot == slot) (same_number slot)

-- one change after another
pub changes_twice : (slot : ℕ) (first second both : Connection → Connection) (old between new : Table) → Changes slot first false old between → Changes slot second true between new
    → ((x : Connection) → second (first x) ≡ both x) → Changes slot both true old new
changes_twice slot first second both old between new one two same = record {
  slots = two.slots ∙ one.slots;
  conns = λ c. two.conns c ∙ joined c (c == slot) (one.conns c);
  touched = λ c. two.touched c ∙ ap (λ b. (true && (c == slot)) || b) (one.touched c);
}
  where
    joined : (c : ℕ) (b : Bool) → conn between c ≡ (if b then first (conn old c) else conn old c) → (if b then second (conn between c) else conn between c) ≡ (if b then both (conn old c) else conn old c)
    joined c true e = ap second e ∙ same (conn old c)
    joined c false e = e

-- a count that a slot could still add to is below the length
pub count_below : (p : Connection → Bool) (conns : List Connection) (slot : ℕ) (now : Connection) → slot < length conns → p (in_slot conns slot) ≡ false → p now ≡ true → count_by p conns < length conns
count_below p conns slot now within was will =
    let out : ◌≡◌ {A = ℕ} (if p (in_slot conns slot) then 1 else 0) 0 = λ j. if was j then 1 else 0 in
    let more : ◌≡◌ {A = ℕ} (if p now then 1 else 0) 1 = λ j. if will j then 1 else 0 in
    omega (arith, out, more, count-set p conns slot now within, count_by-le-length p (set conns slot now), length-set conns slot now)

-- a function that was added is there
pub is_added : (f : ℕ) (b : Bool) → ((f == f) || b) ≡ true
is_added f b = ap (λ t. t || b) (same_number f)
