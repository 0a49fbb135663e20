use Rattle.std.proofs.Common.{◌≡◌, ◌≤◌, List, ◌∷◌, ◌++◌, set, refl, sym, ap, subst, arith, ℕ, vec_len, None, get_or, false}
use Rattle.std.specs.VecDeque.{deque_capacity}
use Rattle.gm_poll.specs.Pollers.{PollerState, IsOrderly, rest_of}
use Rattle.gm_poll.specs.contracts.poller.Poller.{the_view}
use Rattle.gm_poll.proofs.PollerLemmas.{not_none, first_ready, first_behind, of_slot, without_orderly}
use Rattle.gm_poll.proofs.poller.Poller.next.Goals as goal
use Rattle.gm_poll.proofs.poller.Poller.next.Goals.{in-Some, in-None+in_ok-at-in-None, After-get_mut}

abbrev Taken : After-get_mut → Type 0
Taken c =
    let p = the_view c.self.inside in
    let q = c.match-pop_front.self-inside in
    let at = c.match-pop_front.at in
    let rest = rest_of p.ready p.behind in
    (the_view q ≡ record p { ready = rest.0; behind = rest.1 }) × (p.ready ++ p.behind ≡ at ∷ rest.0 ++ rest.1)
    × (q.calls ≡ c.self.inside.calls) × (vec_len q.calls ≤ deque_capacity q.ready) × (vec_len q.calls ≤ deque_capacity q.behind) × (vec_len q.calls ≤ deque_capacity q.again)

taken : (c : After-get_mut) → Taken c
taken c = elim c.match-pop_front.branch [
  | in-Some w ↦ (let first = first_ready w.in-Some.at c.self.inside.ready.items c.self.inside.behind.items _ w.in-Some.ensures.items in
      let cap = w.in-Some.ensures.capacity in let room = c.self.invariant in
      rw (w.self-inside-is, w.at-is) (ap (λ (r : List ℕ × List ℕ). record (the_view c.self.inside) { ready = r.0; behind = r.1 }) first.1, first.0, refl, omega arith, omega arith, omega arith))
  | in-None+in_ok-at-in-None w ↦ (let first = first_behind w.in_ok-at-in-None.at c.self.inside.ready.items c.self.inside.behind.items _ (let empty = w.in-None.ensures.cases in let long = c.self.inside.ready.ok.0 in omega arith) w.in_ok-at-in-None.ensures.items in
      let none : c.pop_front.new.self.items ≡ c.self.inside.ready.items = sym w.in-None.ensures.items in
      let cap = w.in-None.ensures.capacity in let cap' = w.in_ok-at-in-None.ensures.capacity in let room = c.self.invariant in
      rw (w.self-inside-is, w.at-is) (rw none (ap (λ (r : List ℕ × List ℕ). record (the_view c.self.inside) { ready = r.0; behind = r.1 }) first.1), first.0, refl, omega arith, omega arith, omega arith))
]

none : (c : After-get_mut) → c.get_mut.result ≡ None → ⊥
none c is =
    let t = taken c in
    let lt = of_slot (the_view c.self.inside) c.self.invariant.0 c.match-pop_front.at t.1 in
    let long = c.self.inside.calls.ok.0 in
    let len = ap vec_len t.2 in
    not_none c.get_mut.result (c.get_mut.ensures.variant.1 (omega arith)) is

pub invariant_of-self-in_err-call : goal.invariant_of-self-in_err-call
invariant_of-self-in_err-call c = absurd (none (goal.at.invariant_of-self-in_err-call c).After-get_mut c.in_err-call.was)

pub returns-in_err-call : goal.returns-in_err-call
returns-in_err-call c = absurd (none (goal.at.returns-in_err-call c).After-get_mut c.in_err-call.was)

pub invariant_of-self-2 : goal.invariant_of-self-2
invariant_of-self-2 c =
    let t = taken (goal.at.invariant_of-self-2 c).After-get_mut in
    let found = subst (λ l. c.in_ok-call.call.now ≡ get_or l c.match-pop_front.at c.in_ok-call.call.now) (ap (λ v. v.items) t.2) c.in_ok-call.ensures.value in (
      subst (λ (v : PollerState). IsOrderly (record v { calls = set v.calls c.match-pop_front.at (record c.in_ok-call.call.now { is_woken = false; is_ready = false }) })) (sym t.0)
          (without_orderly (the_view c.self.inside) c.self.invariant.0 c.match-pop_front.at t.1 c.in_ok-call.call.now found),
      t.3,
      t.4,
      t.5,
    )
