-- How a poller comes to have more positions to serve, and loses none.
use Rattle.std.proofs.Common.{◌≡◌, ℕ, ◌*◌, ◌%◌, ◌^◌, ◌<◌, eqb, nat_lt, Bool, true, false, not, ◌&&◌, ◌||◌, inl, inr, List, [], ◌++◌, length, get_or, set}
use Rattle.std.proofs.Common.{refl, ap, sym, subst, ◌∙◌, arith, append_assoc, length-set, get_or-set_same, get_or-set_other, eqb-true, ltb-true, ltb-false}
use Rattle.std.proofs.lemmas.Bool.{eqb-false, le-ltb, ne_eqb}
use Rattle.std.proofs.lemmas.Nat.{shl_whole}
use Rattle.std.proofs.lemmas.List.{get_or_default, set_past, set-set, append-nil}
use Rattle.std.proofs.Common.{◌+◌, ◌-◌, ◌/◌, ◌≤◌, ◌==◌, ◌∷◌, zero, suc, min, bit_and, slice_index_or, IsTrue, All, if◌then◌else◌}
use Rattle.std.proofs.Common.{IsBitSet, add-one}
use Rattle.std.specs.Int.Bits.{and_zero_l}
use Rattle.std.proofs.lemmas.List.{get_or_past}
use Rattle.mio.specs.declared.event.event.Event.{Event}
use Rattle.mio.specs.Event.{event_token}
use Rattle.gm_poll.specs.declared.poller.Call.{Call}
use Rattle.gm_poll.proofs.PollerLemmas.{and_false}
use Rattle.gm_poll.specs.Pollers.{PollerState, nobody, call_at, queued, called, reported, KeepsCall, Heeds, IsHeard, Wakes, position_of, is_odd, heard_of, heard, marked, all_marked, looked_at}

keeps_all : (a : Call) → KeepsCall a a
keeps_all a = record { slot = refl; woken = λ h. h; odd = λ h. h; ready = λ h. h; again = λ h. inl h }

keeps_both : (a b c : Call) → KeepsCall a b → KeepsCall b c → KeepsCall a c
keeps_both a b c x y = record {
  slot = y.slot ∙ x.slot;
  woken = λ h. y.woken (x.woken h);
  odd = λ h. y.odd (x.odd h);
  ready = λ h. y.ready (x.ready h);
  again = λ h. elim (x.again h) [ inl still ↦ y.again still | inr looked ↦ inr (y.ready looked.0, y.woken looked.1) ];
}

-- a call that is put in position of one, where there is a position
keeps_set : (calls : List Call) (at : ℕ) (call : Call) → KeepsCall (call_at calls at) call → (q : ℕ) → KeepsCall (call_at calls q) (call_at (set calls at call) q)
keeps_set calls at call keeps q = by (eqb q at) (nat_lt at (length calls)) refl refl
  where
    by : (same less : Bool) → eqb q at ≡ same → nat_lt at (length calls) ≡ less → KeepsCall (call_at calls q) (call_at (set calls at call) q)
    by same false e more = rw (set_past calls at call (ltb-false at (length calls) more)) (keeps_all (call_at calls q))
    by true true same less = rw (eqb-true q at same, get_or-set_same calls at call nobody (ltb-true at (length calls) less)) keeps
    by false true other less = rw (get_or-set_other calls at q call nobody (eqb-false q at other)) (keeps_all (call_at calls q))

or_odd : (a b : Bool) → IsTrue b → IsTrue (a || b)
or_odd true b h = refl
or_odd false b h = h

pub heeds_nothing : (p : PollerState) → Heeds p p
heeds_nothing p = record { thread = refl; count = refl; slots = refl; more = []; ready = sym (append-nil p.ready); behind = refl; calls = λ at. keeps_all (call_at p.calls at) }

pub heeds_both : (p q r : PollerState) → Heeds p q → Heeds q r → Heeds p r
heeds_both p q r x y = record {
  thread = y.thread ∙ x.thread;
  count = y.count ∙ x.count;
  slots = y.slots ∙ x.slots;
  more = x.more ++ y.more;
  ready = y.ready ∙ ap (λ xs. xs ++ y.more) x.ready ∙ append_assoc p.ready x.more y.more;
  behind = y.behind ∙ x.behind;
  calls = λ at. keeps_both (call_at p.calls at) (call_at q.calls at) (call_at r.calls at) (x.calls at) (y.calls at);
}

queued_more : (comes : Bool) (at : ℕ) (positions : List ℕ) → queued comes at positions ≡ positions ++ queued comes at []
queued_more true at positions = refl
queued_more false at positions = sym (append-nil positions)

heeds_set : (p : PollerState) (at : ℕ) (call : Call) (comes : Bool) (again : List ℕ) → KeepsCall (call_at p.calls at) call
    → Heeds p (record p { calls = set p.calls at call; ready = queued comes at p.ready; again = again })
heeds_set p at call comes again keeps =
    record { thread = refl; count = refl; slots = length-set p.calls at call; more = queued comes at []; ready = queued_more comes at p.ready; behind = refl; calls = keeps_set p.calls at call keeps }

pub heeds_call : (at : ℕ) (p : PollerState) → Heeds p (called at p)
heeds_call at p = heeds_set p at _ _ p.again (record { slot = refl; woken = λ h. refl; odd = λ h. h; ready = λ h. refl; again = λ h. inl h })

pub heeds_event : (at : ℕ) (odd : Bool) (p : PollerState)
    → Heeds p (record p { calls = set p.calls at (reported odd (call_at p.calls at)); ready = queued (not (call_at p.calls at).is_ready && nat_lt at (length p.calls)) at p.ready })
heeds_event at odd p = heeds_set p at _ _ p.again (record { slot = refl; woken = λ h. h; odd = λ h. ap (λ b. b || odd) h; ready = λ h. refl; again = λ h. inl h })

-- one that is looked at again is called
not_again : (calls : List Call) (at : ℕ) → call_at (set calls at (record (call_at calls at) { is_again = false })) at ≡ record (call_at calls at) { is_again = false }
not_again calls at = by (nat_lt at (length calls)) refl
  where
    by : (less : Bool) → nat_lt at (length calls) ≡ less → call_at (set calls at (record (call_at calls at) { is_again = false })) at ≡ record (call_at calls at) { is_again = false }
    by true e = get_or-set_same calls at (record (call_at calls at) { is_again = false }) nobody (ltb-true at (length calls) e)
    by false e =
        let past = ltb-false at (length calls) e in
        rw (set_past calls at (record (call_at calls at) { is_again = false }) past, get_or_past calls at nobody past) refl

-- the poller once one was woken that was to be looked at again, as others still are
abbrev pub looked_at_one : ℕ → List ℕ → PollerState → PollerState
looked_at_one at again p = called at (record p { calls = set p.calls at (record (call_at p.calls at) { is_again = false }); again = again })

-- a step of looking again: the call that was read is the one at its position
pub looks_at_one : (at : ℕ) (again : List ℕ) (was : Call) (p : PollerState) → at < length p.calls → was ≡ get_or p.calls at was → p.again ≡ at ∷ again
    → looked_at again (called at (record p { calls = set p.calls at (record was { is_again = false }); again = again })) ≡ looked_at p.again p
looks_at_one at again was p lt e first =
    ap (λ (call : Call). looked_at again (called at (record p { calls = set p.calls at (record call { is_again = false }); again = again }))) (e ∙ sym (get_or_default p.calls at nobody was lt))
    ∙ sym (ap (λ xs. looked_at xs p) first)

heeds_again : (at : ℕ) (again : List ℕ) (p : PollerState) → Heeds p (looked_at_one at again p)
heeds_again at again p =
    let first : Call = record (call_at p.calls at) { is_again = false } in
    let between = call_at (set p.calls at first) at in
    let last : Call = record between { is_woken = true; is_ready = true } in
    let comes = not between.is_ready && nat_lt at (length (set p.calls at first)) in
    let keeps : KeepsCall (call_at p.calls at) (record first { is_woken = true; is_ready = true }) = record { slot = refl; woken = λ h. refl; odd = λ h. h; ready = λ h. refl; again = λ h. inr (refl, refl) } in
    subst (λ calls. Heeds p (record p { calls = calls; ready = queued comes at p.ready; again = again })) (sym (set-set p.calls at first last))
    (heeds_set p at last comes again (subst (λ (c : Call). KeepsCall (call_at p.calls at) (record c { is_woken = true; is_ready = true })) (sym (not_again p.calls at)) keeps))

-- ---- what came while a poller waited

pub heeds_heard : (events : List Event) (p : PollerState) → Heeds p (heard events p)
heeds_heard [] p = heeds_nothing p
heeds_heard (event ∷ events) p = heeds_both p (heard_of event p) (heard events (heard_of event p)) (heeds_event (position_of event p) (is_odd event) p) (heeds_heard events (heard_of event p))

-- a step of hearing, at the position of the event
pub heard_at : (events : List Event) (event : Event) (at : ℕ) (p : PollerState) → at ≡ position_of event p
    → heard events (record p { calls = set p.calls at (reported (is_odd event) (call_at p.calls at)); ready = queued (not (call_at p.calls at).is_ready && nat_lt at (length p.calls)) at p.ready }) ≡ heard (event ∷ events) p
heard_at events event at p e =
    ap (λ at. heard events (record p { calls = set p.calls at (reported (is_odd event) (call_at p.calls at)); ready = queued (not (call_at p.calls at).is_ready && nat_lt at (length p.calls)) at p.ready })) e

pub heeds_marked : (first bits count : ℕ) (p : PollerState) → Heeds p (marked first bits count p)
unfolding marked
heeds_marked first bits zero p = heeds_nothing p
heeds_marked first bits (suc count) p = by (bit_and bits (2 ^ count) == 0) (marked first bits count p) (heeds_marked first bits count p)
  where
    by : (clear : Bool) (q : PollerState) → Heeds p q → Heeds p (if clear then q else called (first + count) q)
    by true q heeds = heeds
    by false q heeds = heeds_both p q (called (first + count) q) heeds (heeds_call (first + count) q)

heeds_all_marked : (words : List ℕ) (p : PollerState) → Heeds p (all_marked words p)
heeds_all_marked [] p = heeds_nothing p
heeds_all_marked (bits ∷ before) p = heeds_both p (all_marked before p) _ (heeds_all_marked before p) (heeds_marked (length before * 64) bits 64 (all_marked before p))

heeds_looked : (again : List ℕ) (p : PollerState) → Heeds p (looked_at again p)
heeds_looked [] p = record { thread = refl; count = refl; slots = refl; more = []; ready = sym (append-nil p.ready); behind = refl; calls = λ at. keeps_all (call_at p.calls at) }
heeds_looked (at ∷ again) p = heeds_both p (looked_at_one at again p) _ (heeds_again at again p) (heeds_looked again (looked_at_one at again p))

-- ---- what the system was asked and reported stays there

abbrev pub report : PollerState → ℕ × List Event
report p = (p.time, p.events)

pub report_heard : (events : List Event) (p : PollerState) → report (heard events p) ≡ report p
report_heard [] p = refl
report_heard (event ∷ events) p = report_heard events (heard_of event p)

report_marked : (first bits count : ℕ) (p : PollerState) → report (marked first bits count p) ≡ report p
unfolding marked
report_marked first bits zero p = refl
report_marked first bits (suc count) p = by (bit_and bits (2 ^ count) == 0) (marked first bits count p) (report_marked first bits count p)
  where
    by : (clear : Bool) (q : PollerState) → report q ≡ report p → report (if clear then q else called (first + count) q) ≡ report p
    by true q same = same
    by false q same = same

pub report_all_marked : (words : List ℕ) (p : PollerState) → report (all_marked words p) ≡ report p
report_all_marked [] p = refl
report_all_marked (bits ∷ before) p = report_marked (length before * 64) bits 64 (all_marked before p) ∙ report_all_marked before p

pub report_looked : (again : List ℕ) (p : PollerState) → report (looked_at again p) ≡ report p
report_looked [] p = refl
report_looked (at ∷ again) p = report_looked again (looked_at_one at again p)

-- ---- each event's slot is to be served

is_heard : (event : Event) (p : PollerState) → IsHeard (heard_of event p) event
is_heard event p =
    let at = position_of event p in
    let call = reported (is_odd event) (call_at p.calls at) in
    let same = length-set p.calls at call in
    record {
      ready = λ lt. rw (get_or-set_same p.calls at call nobody (omega arith)) refl;
      odd = λ lt odd. rw (get_or-set_same p.calls at call nobody (omega arith)) (or_odd (call_at p.calls at).is_odd (is_odd event) odd);
    }

stays_heard : (p q : PollerState) (event : Event) → Heeds p q → IsHeard p event → IsHeard q event
stays_heard p q event heeds heard =
    let at = position_of event p in
    let same : position_of event q ≡ at = ap (λ n. (event_token event).0 / n) heeds.count in
    record {
      ready = λ lt. subst (λ n. IsTrue (call_at q.calls n).is_ready) (sym same) ((heeds.calls at).ready (heard.ready (omega (arith, heeds.slots, same))));
      odd = λ lt odd. subst (λ n. IsTrue (call_at q.calls n).is_odd) (sym same) ((heeds.calls at).odd (heard.odd (omega (arith, heeds.slots, same)) odd));
    }

are_heard : (events : List Event) (p : PollerState) → All (IsHeard (heard events p)) events
are_heard [] p k d lt = absurd (omega arith)
are_heard (event ∷ events) p zero d lt = stays_heard (heard_of event p) (heard events (heard_of event p)) event (heeds_heard events (heard_of event p)) (is_heard event p)
are_heard (event ∷ events) p (suc k) d lt = are_heard events (heard_of event p) k d (omega arith)

-- ---- what is said of a poller that asked the system follows from what it did

module _ (old new : PollerState) (wakes : Wakes old new) where
  abbrev asked : PollerState
  asked = record old { time = new.time; events = new.events }

  heeds_looks : Heeds wakes.woken new
  heeds_looks = elim wakes.looked [ inl same ↦ rw same (heeds_nothing wakes.woken) | inr looked ↦ rw looked (heeds_looked wakes.woken.again wakes.woken) ]

  heeds_rest : Heeds (heard new.events asked) new
  heeds_rest = heeds_both (heard new.events asked) wakes.woken new (rw wakes.marked (heeds_all_marked wakes.words (heard new.events asked))) heeds_looks

  heeds_asked : Heeds old asked
  heeds_asked = record { thread = refl; count = refl; slots = refl; more = []; ready = sym (append-nil old.ready); behind = refl; calls = λ at. keeps_all (call_at old.calls at) }

  pub heeds_wakes : Heeds old new
  heeds_wakes = heeds_both old asked new heeds_asked (heeds_both asked (heard new.events asked) new (heeds_heard new.events asked) heeds_rest)

  pub all_heard : All (IsHeard new) new.events
  all_heard k d lt = stays_heard (heard new.events asked) new (slice_index_or new.events k d) heeds_rest (are_heard new.events asked k d lt)

-- ---- where a position is past the last slot's

pub called_past : (at : ℕ) (p : PollerState) → length p.calls ≤ at → called at p ≡ p
called_past at p past =
    let call = call_at p.calls at in
    let none : nat_lt at (length p.calls) ≡ false = le-ltb at (length p.calls) past in
    rw (set_past p.calls at (record call { is_woken = true; is_ready = true }) past, none, and_false (not call.is_ready)) refl

-- the last position that fits a number is past all slots, as those behind it are
pub called_within : (at n : ℕ) (p : PollerState) → length p.calls < 2 ^ 64 → at ≡ min n (2 ^ 64 - 1) → called at p ≡ called n p
called_within at n p fits e = by (nat_lt n (2 ^ 64)) refl
  where
    by : (less : Bool) → nat_lt n (2 ^ 64) ≡ less → called at p ≡ called n p
    by true h = let lt = ltb-true n (2 ^ 64) h in ap (λ k. called k p) (omega arith)
    by false h =
        let more = ltb-false n (2 ^ 64) h in
        called_past at p (omega arith) ∙ sym (called_past n p (omega arith))

-- ---- where no bit is set

pub marked_none : (first bits : ℕ) (p : PollerState) → p ≡ marked first bits 0 p
unfolding marked
marked_none first bits p = refl

marked_more : (first bits count : ℕ) (p : PollerState) (clear : Bool) → (bit_and bits (2 ^ count) == 0) ≡ clear
    → marked first bits (suc count) p ≡ (if clear then marked first bits count p else called (first + count) (marked first bits count p))
unfolding marked
marked_more first bits count p clear e = ap (λ b. if b then marked first bits count p else called (first + count) (marked first bits count p)) e

pub none_marked : (first count : ℕ) (p : PollerState) → marked first 0 count p ≡ p
none_marked first zero p = sym (marked_none first 0 p)
none_marked first (suc count) p = marked_more first 0 count p true (ap (λ n. n == 0) (and_zero_l (2 ^ count))) ∙ none_marked first count p

-- one position more, which is marked or not
pub set_marked : (first bits count : ℕ) (p : PollerState) → IsBitSet bits count → called (first + count) (marked first bits count p) ≡ marked first bits (count + 1) p
set_marked first bits count p is_set = sym (marked_more first bits count p false (ne_eqb (bit_and bits (2 ^ count)) 0 is_set)) ∙ ap (λ n. marked first bits n p) (sym (add-one count))

pub clear_marked : (first bits count : ℕ) (p : PollerState) → bit_and bits (2 ^ count) ≡ 0 → marked first bits count p ≡ marked first bits (count + 1) p
clear_marked first bits count p clear = sym (marked_more first bits count p true (ap (λ n. n == 0) clear)) ∙ ap (λ n. marked first bits n p) (sym (add-one count))

pub one_bit : (k : ℕ) → k < 64 → 1 * 2 ^ k % 2 ^ 64 ≡ 2 ^ k
one_bit k lt = shl_whole 1 1 k 64 (omega arith) (omega arith) ∙ omega arith
