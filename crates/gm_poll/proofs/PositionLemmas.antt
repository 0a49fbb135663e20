-- How often positions are in a queue, where one comes or leaves and its call's flag changes.
use Rattle.std.proofs.Common.{◌≡◌, ℕ, ◌+◌, ◌*◌, ◌<◌, ◌≤◌, eqb, Bool, true, false, cond, not, ◌&&◌, ◌||◌, List, [], ◌∷◌, ◌++◌, length, get_or, set}
use Rattle.std.proofs.Common.{refl, ap, sym, subst, ◌∙◌, arith, length-set, get_or-set_other, eqb-true, eq-eqb, zero-add}
use Rattle.std.specs.List.{IsDistinct, AllByRecursion, list_any}
use Rattle.std.proofs.lemmas.List.{get_or_past, get_or_default, length-append}
use Rattle.std.proofs.lemmas.List.Sums.{sum_by-append}
use Rattle.std.proofs.lemmas.Map.Steps.{length-le_from_distinct_below}
use Rattle.std.proofs.lemmas.Bool.{eqb-false}
use Rattle.std.proofs.lemmas.Grind.{get_or-set_at}
use Rattle.gm_poll.specs.declared.poller.Call.{Call}
use Rattle.gm_poll.specs.Pollers.{nobody, call_at, times, queued, AreThose}

-- ---- counting

-- The second queue has the position once more than the first, and each other position as often.
pub record Adds (at : ℕ) (xs ys : List ℕ) : Type 0 where
  pub more : (q : ℕ) → times q ys ≡ times q xs + cond (eqb q at) 1 0

times-append : (q : ℕ) (xs ys : List ℕ) → times q (xs ++ ys) ≡ times q xs + times q ys
times-append q xs ys = sum_by-append (λ x. cond (eqb q x) 1 0) xs ys

times-one : (q x : ℕ) → times q (x ∷ []) ≡ cond (eqb q x) 1 0
times-one q x = zero-add (cond (eqb q x) 1 0)

times-cons : (q x : ℕ) (xs : List ℕ) → times q (x ∷ xs) ≡ cond (eqb q x) 1 0 + times q xs
times-cons q x xs = let one = times-one q x in let e = times-append q (x ∷ []) xs in omega arith

pub adds_first : (at : ℕ) (xs : List ℕ) → Adds at xs (at ∷ xs)
adds_first at xs = record { more = λ q. let e = times-cons q at xs in omega arith }

pub adds_between : (at : ℕ) (ys xs : List ℕ) → Adds at (xs ++ ys) ((xs ++ at ∷ []) ++ ys)
adds_between at ys xs = record { more = λ q. omega (arith, times-append q xs ys, times-append q (xs ++ at ∷ []) ys, times-append q xs (at ∷ []), times-one q at) }

pub adds_last : (at : ℕ) (xs ys : List ℕ) → Adds at (xs ++ ys) (xs ++ (ys ++ at ∷ []))
adds_last at xs ys = record { more = λ q. omega (arith, times-append q xs ys, times-append q xs (ys ++ at ∷ []), times-append q ys (at ∷ []), times-one q at) }

once : (at : ℕ) → cond {A = ℕ} (eqb at at) 1 0 ≡ 1
once at = ap (λ b. cond b 1 0) (eq-eqb at at refl)

small : (b : Bool) → cond b 1 0 ≤ 1
small true = omega arith
small false = omega arith

apart : (b : Bool) (n : ℕ) → cond b 1 0 + n ≡ 0 → (b ≡ false) × (n ≡ 0)
apart true n h = absurd (omega arith)
apart false n h = (refl, omega arith)

not_there : (q : ℕ) (xs : List ℕ) → times q xs ≡ 0 → AllByRecursion (λ y. eqb q y ≡ false) xs
not_there q [] h = tt
not_there q (x ∷ xs) h = let both = apart (eqb q x) (times q xs) (sym (times-cons q x xs) ∙ h) in (both.0, not_there q xs both.1)

distinct : (xs : List ℕ) → ((q : ℕ) → times q xs ≤ 1) → IsDistinct eqb xs
unfolding IsDistinct
distinct [] h = tt
distinct (x ∷ xs) h = (not_there x xs (omega (arith, h x, times-cons x x xs, once x)), distinct xs (λ q. omega (arith, h q, times-cons q x xs)))

there : (q : ℕ) (xs : List ℕ) → list_any (eqb q) xs ≡ true → 0 < times q xs
there q [] h = absurd (cc)
there q (x ∷ xs) h = let e = times-cons q x xs in let here = by (eqb q x) (times q xs) h (there q xs) in omega arith
  where
    by : (b : Bool) (n : ℕ) → (b || list_any (eqb q) xs) ≡ true → (list_any (eqb q) xs ≡ true → 0 < n) → 0 < cond b 1 0 + n
    by true n h more = omega arith
    by false n h more = let some = more h in omega arith

by_contradiction : (q k n : ℕ) → (n ≤ q → k ≡ 0) → 0 < k → q < n
by_contradiction q k n past some = grind arith

-- positions below a number, each once, are no more than it
fits : (xs : List ℕ) (n : ℕ) → ((q : ℕ) → times q xs ≤ 1) → ((q : ℕ) → n ≤ q → times q xs ≡ 0) → length xs ≤ n
fits xs n single past = length-le_from_distinct_below xs n (distinct xs single) (λ q h. by_contradiction q (times q xs) n (past q) (there q xs h))

-- ---- where the call at a position changes, by a flag

module _ (flag : Call → Bool) (none : flag nobody ≡ false) (calls : List Call) where
  none_past : (xs : List ℕ) (q : ℕ) → AreThose flag calls xs → length calls ≤ q → times q xs ≡ 0
  none_past xs q those past = those.told q ∙ ap (λ c. cond (flag c) 1 0) (get_or_past calls q nobody past) ∙ ap (λ b. cond b 1 0) none

  -- a position that is in the queue is a slot's
  pub within : (at : ℕ) (xs ys : List ℕ) → AreThose flag calls ys → Adds at xs ys → at < length calls
  within at xs ys those adds = by_contradiction at (times at ys) (length calls) (none_past ys at those) (omega (arith, adds.more at, once at))

  module _ (at : ℕ) (was is_now : Call) (lt : at < length calls) (e : was ≡ get_or calls at was) where
    pub found : call_at calls at ≡ was
    found = get_or_default calls at nobody was lt ∙ sym e

    call_set : (q : ℕ) → call_at (set calls at is_now) q ≡ cond (eqb q at) is_now (call_at calls q)
    call_set q = by (eqb q at) refl
      where
        by : (b : Bool) → eqb q at ≡ b → call_at (set calls at is_now) q ≡ cond b is_now (call_at calls q)
        by true same = get_or-set_at calls at q is_now nobody (eqb-true q at same) lt
        by false other = get_or-set_other calls at q is_now nobody (eqb-false q at other)

    here : (xs : List ℕ) → AreThose flag calls xs → (q : ℕ) → eqb q at ≡ true → times q xs ≡ cond (flag was) 1 0
    here xs those q same = those.told q ∙ ap (λ c. cond (flag c) 1 0) (ap (call_at calls) (eqb-true q at same) ∙ found)

    changed : (xs ys : List ℕ) → AreThose flag calls xs → ((q : ℕ) → times q ys + cond (eqb q at) (cond (flag was) 1 0) 0 ≡ times q xs + cond (eqb q at) (cond (flag is_now) 1 0) 0)
        → AreThose flag (set calls at is_now) ys
    changed xs ys those more = record { told = λ q. by q (eqb q at) refl (more q) ∙ ap (λ c. cond (flag c) 1 0) (sym (call_set q)) }
      where
        by : (q : ℕ) (b : Bool) → eqb q at ≡ b → times q ys + cond b (cond (flag was) 1 0) 0 ≡ times q xs + cond b (cond (flag is_now) 1 0) 0 → times q ys ≡ cond (flag (cond b is_now (call_at calls q))) 1 0
        by q true same more = let told = here xs those q same in omega arith
        by q false other more = let told = those.told q in omega arith

    pub stays : (xs : List ℕ) → AreThose flag calls xs → flag is_now ≡ flag was → AreThose flag (set calls at is_now) xs
    stays xs those same = changed xs xs those (λ q. ap (λ b. times q xs + cond (eqb q at) (cond b 1 0) 0) (sym same))

    pub leaves : (xs ys : List ℕ) → AreThose flag calls ys → Adds at xs ys → flag is_now ≡ false → AreThose flag (set calls at is_now) xs
    leaves xs ys those adds after = changed ys xs those (λ q. by q (eqb q at) refl (adds.more q))
      where
        by : (q : ℕ) (b : Bool) → eqb q at ≡ b → times q ys ≡ times q xs + cond b 1 0 → times q xs + cond b (cond (flag was) 1 0) 0 ≡ times q ys + cond b (cond (flag is_now) 1 0) 0
        by q true same more = let told = here ys those q same in let one = small (flag was) in rw after (omega arith)
        by q false other more = omega arith

    -- a position that comes to the end of a queue, which is by itself, before another or behind one
    module _ (into : List ℕ → List ℕ) (long : (xs : List ℕ) → length xs ≤ length (into xs)) (adds : (xs : List ℕ) → Adds at (into xs) (into (xs ++ at ∷ []))) (xs : List ℕ) (those : AreThose flag calls (into xs)) where
      pub room : flag was ≡ false → length xs < length calls
      room before = omega (arith, fits (into (xs ++ at ∷ [])) (length calls) single past, long (xs ++ at ∷ []), length-append xs (at ∷ []))
        where
          at_most : (q : ℕ) (b : Bool) → eqb q at ≡ b → times q (into xs) + cond b 1 0 ≤ 1
          at_most q true same = let told = here (into xs) those q same ∙ ap (λ b. cond b 1 0) before in omega arith
          at_most q false other = let told = those.told q in let one = small (flag (call_at calls q)) in omega arith

          single : (q : ℕ) → times q (into (xs ++ at ∷ [])) ≤ 1
          single q = omega (arith, (adds xs).more q, at_most q (eqb q at) refl)

          other : (q : ℕ) (b : Bool) → eqb q at ≡ b → length calls ≤ q → cond {A = ℕ} b 1 0 ≡ 0
          other q true same beyond = absurd (omega (arith, eqb-true q at same))
          other q false e beyond = refl

          past : (q : ℕ) → length calls ≤ q → times q (into (xs ++ at ∷ [])) ≡ 0
          past q beyond = omega (arith, (adds xs).more q, none_past (into xs) q those beyond, other q (eqb q at) refl beyond)

      pub queues : (comes : Bool) → flag is_now ≡ (flag was || comes) → AreThose flag (set calls at is_now) (into (queued (not (flag was) && comes) at xs))
      queues comes after = by (flag was) comes refl after
        where
          by : (f b : Bool) → flag was ≡ f → flag is_now ≡ (f || b) → AreThose flag (set calls at is_now) (into (queued (not f && b) at xs))
          by true b before after = stays (into xs) those (after ∙ sym before)
          by false false before after = stays (into xs) those (after ∙ sym before)
          by false true before after = changed (into xs) (into (xs ++ at ∷ [])) those (λ q. rw (before, after) (step (eqb q at) _ _ ((adds xs).more q)))
            where
              step : (b : Bool) (m n : ℕ) → m ≡ n + cond b 1 0 → m + cond b 0 0 ≡ n + cond b 1 0
              step true m n e = omega arith
              step false m n e = omega arith

    -- each call keeps its slot
    pub slots_kept : (thread count : ℕ) → is_now.slot ≡ was.slot → ((q : ℕ) → q < length calls → (call_at calls q).slot ≡ thread + q * count)
        → (q : ℕ) → q < length (set calls at is_now) → (call_at (set calls at is_now) q).slot ≡ thread + q * count
    slots_kept thread count same slots q within = ap (λ c. c.slot) (call_set q) ∙ by (eqb q at) refl ∙ slots q (subst (λ n. q < n) (length-set calls at is_now) within)
      where
        by : (b : Bool) → eqb q at ≡ b → (cond b is_now (call_at calls q)).slot ≡ (call_at calls q).slot
        by true here = same ∙ sym (ap (λ c. c.slot) (ap (call_at calls) (eqb-true q at here) ∙ found))
        by false other = refl
