use Rattle.std.proofs.Common.{◌≡◌, length, None, ap, ◌∙◌, arith}
use Rattle.gm_poll.specs.Pollers.{PollerState, looked_at}
use Rattle.gm_poll.specs.contracts.poller.Poller.{the_view}
use Rattle.gm_poll.proofs.HeedLemmas.{looks_at_one}
use Rattle.gm_poll.proofs.PollerLemmas.{again_of_slot, again_orderly, not_none}
use Rattle.gm_poll.proofs.poller.Poller.look_again.Given.{Over}
use Rattle.gm_poll.proofs.poller.Poller.look_again.Goals as goal
use Rattle.gm_poll.proofs.poller.Poller.look_again.Goals.{in-Some-get_mut, in_default-get_mut, Joined-get_mut}

lost : (g : Over) (c : Joined-get_mut g) → c.get_mut.result ≡ None → ⊥
lost g c is =
    let p = c.self-in-loop.inside in
    let lt = again_of_slot (the_view p) c.self-in-loop.invariant.0 c.in-Some.at _ c.in-Some.ensures.items in
    let long = p.calls.ok.0 in
    not_none c.get_mut.result (c.get_mut.ensures.variant.1 (omega arith)) is

pub invariant_of-self-in-loop : goal.invariant_of-self-in-loop
invariant_of-self-in-loop g c = elim c.match-get_mut.branch [
  | in-Some-get_mut w ↦
      let cap = c.in-Some.ensures.capacity in
      let room = c.self-in-loop.invariant in
      rw w.self-inside-is (again_orderly (the_view c.self-in-loop.inside) c.self-in-loop.invariant.0 c.in-Some.at _ c.in-Some.ensures.items w.in-Some-get_mut.call.now w.in-Some-get_mut.ensures.value, omega arith, omega arith, omega arith)
  | in_default-get_mut w ↦ absurd (lost g c w.in_default-get_mut.is)
]

pub loop-preserved : goal.loop-preserved
loop-preserved g c = elim c.match-get_mut.branch [
  | in-Some-get_mut w ↦
      let p = the_view c.self-in-loop.inside in
      let at = c.in-Some.at in
      let lt = again_of_slot p c.self-in-loop.invariant.0 at _ c.in-Some.ensures.items in
      let one = looks_at_one at c.pop_front.new.self.items w.in-Some-get_mut.call.now p lt w.in-Some-get_mut.ensures.value c.in-Some.ensures.items in
      let was = ap (λ p. length p.again) c.self-in-loop.view_is in
      let less = ap length c.in-Some.ensures.items in
      rw (c.call.ensures.called, w.self-inside-is) (record { rest = one ∙ ap (λ (p : PollerState). looked_at p.again p) c.self-in-loop.view_is ∙ c.loop.invariant.rest; left = omega arith })
  | in_default-get_mut w ↦ absurd (lost g (goal.at.loop-preserved g c).Joined-get_mut w.in_default-get_mut.is)
]
