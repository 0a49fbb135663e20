use Rattle.std.proofs.Common.{◌<◌, true, refl, subst, arith}
use Rattle.gm_poll.specs.contracts.poller.Poller.{the_view}
use Rattle.gm_poll.proofs.PollerLemmas.{ready_room, queued_ready}
use Rattle.gm_poll.proofs.poller.Poller.call.Goals as goal

pub queue_up-requires : goal.queue_up-requires
queue_up-requires c = λ comes.
    let p = c.self.inside in
    let lt = subst (λ n. c.args.at < n) p.calls.ok.0 (c.in-Some.ensures.variant.0 refl) in
    let room = ready_room (the_view p) c.self.invariant.0 c.args.at c.in-Some.call.now c.in-Some.call.now lt c.in-Some.ensures.value true comes in
    omega (arith, p.ready.ok.0, p.calls.ok.0, c.self.invariant.1)

pub invariant_of-self-2 : goal.invariant_of-self-2
invariant_of-self-2 c =
    let p = c.self.inside in
    let lt = subst (λ n. c.args.at < n) p.calls.ok.0 (c.in-Some.ensures.variant.0 refl) in
    let cap = c.queue_up.ensures.room in (
      rw c.queue_up.ensures.positions (queued_ready (the_view p) c.self.invariant.0 c.args.at c.in-Some.call.now (record c.in-Some.call.now { is_woken = true; is_ready = c.queue_up.new.is_there }) lt c.in-Some.ensures.value refl
          true c.queue_up.ensures.there refl),
      omega arith,
      omega arith,
      omega arith,
    )
