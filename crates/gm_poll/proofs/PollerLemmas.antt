-- How a poller stays orderly where the call at a position changes, and its queues with it.
use Rattle.std.proofs.Common.{◌≡◌, ℕ, ◌<◌, Bool, true, false, nat_lt, not, ◌&&◌, ◌||◌, IsTrue, Option, None, IsSome, List, [], ◌∷◌, ◌++◌, length, get_or, set}
use Rattle.std.proofs.Common.{refl, ap, sym, subst, arith, ltb-true, ltb-false}
use Rattle.std.proofs.lemmas.List.{length-append, get_or_default, set_past}
use Rattle.gm_poll.specs.declared.poller.Call.{Call}
use Rattle.gm_poll.specs.Pollers.{PollerState, nobody, call_at, queued, reported, rest_of, AreThose, IsOrderly}
use Rattle.gm_poll.proofs.PositionLemmas.{Adds, adds_first, adds_between, adds_last, within, stays, leaves, room, queues, slots_kept}

is_away : (is_there comes : Bool) → (not is_there && comes) ≡ true → is_there ≡ false
is_away true comes h = absurd (cc)
is_away false comes h = refl

module _ (p : PollerState) (orderly : IsOrderly p) (at : ℕ) (was is_now : Call) (lt : at < length p.calls) (e : was ≡ get_or p.calls at was) where
  pub ready_room : (comes : Bool) → (not was.is_ready && comes) ≡ true → length p.ready < length p.calls
  ready_room comes h = room (λ call. call.is_ready) refl p.calls at was is_now lt e (λ xs. xs ++ p.behind) (λ xs. omega (arith, length-append xs p.behind)) (adds_between at p.behind) p.ready orderly.ready
      (is_away was.is_ready comes h)

  pub behind_room : (comes : Bool) → (not was.is_ready && comes) ≡ true → length p.behind < length p.calls
  behind_room comes h = room (λ call. call.is_ready) refl p.calls at was is_now lt e (λ xs. p.ready ++ xs) (λ xs. omega (arith, length-append p.ready xs)) (adds_last at p.ready) p.behind orderly.ready
      (is_away was.is_ready comes h)

  pub again_room : (comes : Bool) → (not was.is_again && comes) ≡ true → length p.again < length p.calls
  again_room comes h = room (λ call. call.is_again) refl p.calls at was is_now lt e (λ xs. xs) (λ xs. omega arith) (adds_last at []) p.again orderly.again (is_away was.is_again comes h)

  module _ (slot : is_now.slot ≡ was.slot) where
    reordered : (ready behind again : List ℕ) → AreThose (λ call. call.is_ready) (set p.calls at is_now) (ready ++ behind) → AreThose (λ call. call.is_again) (set p.calls at is_now) again
        → IsOrderly (record p { calls = set p.calls at is_now; ready = ready; behind = behind; again = again })
    reordered ready behind again r a = record { ready = r; again = a; slots = slots_kept (λ call. call.is_ready) refl p.calls at was is_now lt e p.thread p.count slot orderly.slots; apart = orderly.apart }

    pub queued_ready : (comes : Bool) → is_now.is_ready ≡ (was.is_ready || comes) → is_now.is_again ≡ was.is_again
        → IsOrderly (record p { calls = set p.calls at is_now; ready = queued (not was.is_ready && comes) at p.ready })
    queued_ready comes after again = reordered _ p.behind p.again
        (queues (λ call. call.is_ready) refl p.calls at was is_now lt e (λ xs. xs ++ p.behind) (λ xs. omega (arith, length-append xs p.behind)) (adds_between at p.behind) p.ready orderly.ready comes after)
        (stays (λ call. call.is_again) refl p.calls at was is_now lt e p.again orderly.again again)

    pub queued_behind : (comes is_again : Bool) → is_now.is_ready ≡ (was.is_ready || comes) → is_now.is_again ≡ (was.is_again || is_again)
        → IsOrderly (record p { calls = set p.calls at is_now; behind = queued (not was.is_ready && comes) at p.behind; again = queued (not was.is_again && is_again) at p.again })
    queued_behind comes is_again after again = reordered p.ready _ _
        (queues (λ call. call.is_ready) refl p.calls at was is_now lt e (λ xs. p.ready ++ xs) (λ xs. omega (arith, length-append p.ready xs)) (adds_last at p.ready) p.behind orderly.ready comes after)
        (queues (λ call. call.is_again) refl p.calls at was is_now lt e (λ xs. xs) (λ xs. omega arith) (adds_last at []) p.again orderly.again is_again again)

or_true : (b : Bool) → true ≡ (b || true)
or_true true = refl
or_true false = refl

pub and_false : (b : Bool) → (b && false) ≡ false
and_false true = refl
and_false false = refl

-- ---- where a slot is reported
module _ (p : PollerState) (orderly : IsOrderly p) (at : ℕ) where
  pub event_room : IsTrue (not (call_at p.calls at).is_ready) → at < length p.calls → length p.ready < length p.calls
  event_room away lt = let was = call_at p.calls at in ready_room p orderly at was was lt (get_or_default p.calls at nobody was lt) true (ap (λ b. b && true) away)

  pub event_orderly : (odd : Bool) → IsOrderly (record p { calls = set p.calls at (reported odd (call_at p.calls at)); ready = queued (not (call_at p.calls at).is_ready && nat_lt at (length p.calls)) at p.ready })
  event_orderly odd = by (nat_lt at (length p.calls)) refl
    where
      by : (b : Bool) → nat_lt at (length p.calls) ≡ b → IsOrderly (record p { calls = set p.calls at (reported odd (call_at p.calls at)); ready = queued (not (call_at p.calls at).is_ready && b) at p.ready })
      by true less =
          let was = call_at p.calls at in
          let lt = ltb-true at (length p.calls) less in
          queued_ready p orderly at was (reported odd was) lt (get_or_default p.calls at nobody was lt) refl true (or_true was.is_ready) refl
      by false more =
          let past = ltb-false at (length p.calls) more in
          rw (set_past p.calls at (reported odd (call_at p.calls at)) past) (subst (λ b. IsOrderly (record p { ready = queued b at p.ready })) (sym (and_false (not (call_at p.calls at).is_ready))) orderly)

-- ---- where a poller says whose turn is next

pub not_none : {A : Type 0} (o : Option A) → IsSome o → o ≡ None → ⊥
not_none o some none = let wrong = subst IsSome none some in absurd (cc)

pub first_ready : (at : ℕ) (ready behind rest : List ℕ) → ready ≡ at ∷ rest → (ready ++ behind ≡ at ∷ (rest_of ready behind).0 ++ (rest_of ready behind).1) × ◌≡◌ {A = List ℕ × List ℕ} (rest, behind) (rest_of ready behind)
first_ready at ready behind rest e = rw e (refl, refl)

pub first_behind : (at : ℕ) (ready behind rest : List ℕ) → length ready ≡ 0 → behind ≡ at ∷ rest → (ready ++ behind ≡ at ∷ (rest_of ready behind).0 ++ (rest_of ready behind).1) × ◌≡◌ {A = List ℕ × List ℕ} (ready, rest) (rest_of ready behind)
first_behind at [] behind rest e f = rw f (refl, refl)
first_behind at (x ∷ ready) behind rest e f = absurd (omega arith)

module _ (p : PollerState) (orderly : IsOrderly p) (at : ℕ) (first : p.ready ++ p.behind ≡ at ∷ (rest_of p.ready p.behind).0 ++ (rest_of p.ready p.behind).1) where
  adds : Adds at ((rest_of p.ready p.behind).0 ++ (rest_of p.ready p.behind).1) (p.ready ++ p.behind)
  adds = subst (Adds at ((rest_of p.ready p.behind).0 ++ (rest_of p.ready p.behind).1)) (sym first) (adds_first at ((rest_of p.ready p.behind).0 ++ (rest_of p.ready p.behind).1))

  pub of_slot : at < length p.calls
  of_slot = within (λ call. call.is_ready) refl p.calls at _ _ orderly.ready adds

  pub without_orderly : (was : Call) → was ≡ get_or p.calls at was
      → IsOrderly (record p { calls = set p.calls at (record was { is_woken = false; is_ready = false }); ready = (rest_of p.ready p.behind).0; behind = (rest_of p.ready p.behind).1 })
  without_orderly was e =
      let call : Call = record was { is_woken = false; is_ready = false } in
      reordered p orderly at was call of_slot e refl _ _ p.again (leaves (λ call. call.is_ready) refl p.calls at was call of_slot e _ _ orderly.ready adds refl)
      (stays (λ call. call.is_again) refl p.calls at was call of_slot e _ orderly.again refl)

-- ---- where a poller looks at one again
module _ (p : PollerState) (orderly : IsOrderly p) (at : ℕ) (rest : List ℕ) (first : p.again ≡ at ∷ rest) where
  adds_again : Adds at rest p.again
  adds_again = subst (Adds at rest) (sym first) (adds_first at rest)

  pub again_of_slot : at < length p.calls
  again_of_slot = within (λ call. call.is_again) refl p.calls at _ _ orderly.again adds_again

  pub again_orderly : (was : Call) → was ≡ get_or p.calls at was → IsOrderly (record p { calls = set p.calls at (record was { is_again = false }); again = rest })
  again_orderly was e =
      let call : Call = record was { is_again = false } in
      reordered p orderly at was call again_of_slot e refl p.ready p.behind rest (stays (λ call. call.is_ready) refl p.calls at was call again_of_slot e _ orderly.ready refl)
      (leaves (λ call. call.is_again) refl p.calls at was call again_of_slot e _ _ orderly.again adds_again refl)
