use Rattle.std.proofs.Common.{◌<◌, ◌/◌, refl, subst, arith}
use Rattle.gm_poll.specs.contracts.poller.Poller.{the_view}
use Rattle.gm_poll.proofs.PollerLemmas.{behind_room, again_room, queued_behind}
use Rattle.gm_poll.proofs.poller.Poller.put_back.Goals as goal

pub queue_up-requires : goal.queue_up-requires
queue_up-requires c = λ comes.
    let p = c.self.inside in
    let at = c.args.slot / c.max.result in
    let lt = subst (λ n. at < n) p.calls.ok.0 (c.in-Some.ensures.variant.0 refl) in
    let room = behind_room (the_view p) c.self.invariant.0 at c.in-Some.call.now c.in-Some.call.now lt c.in-Some.ensures.value c.args.is_now comes in
    omega (arith, p.behind.ok.0, p.calls.ok.0, c.self.invariant.2)

pub queue_up-requires-2 : goal.queue_up-requires-2
queue_up-requires-2 c = λ comes.
    let p = c.self.inside in
    let at = c.args.slot / c.max.result in
    let lt = subst (λ n. at < n) p.calls.ok.0 (c.in-Some.ensures.variant.0 refl) in
    let room = again_room (the_view p) c.self.invariant.0 at c.in-Some.call.now c.in-Some.call.now lt c.in-Some.ensures.value c.args.is_again comes in
    omega (arith, p.again.ok.0, p.calls.ok.0, c.self.invariant.3)

pub invariant_of-self-2 : goal.invariant_of-self-2
invariant_of-self-2 c =
    let p = c.self.inside in
    let at = c.args.slot / c.max.result in
    let lt = subst (λ n. at < n) p.calls.ok.0 (c.in-Some.ensures.variant.0 refl) in
    let cap = c.queue_up.ensures.room in
    let cap' = c.queue_up-2.ensures.room in (
      rw (c.queue_up.ensures.positions, c.queue_up-2.ensures.positions) (queued_behind (the_view p) c.self.invariant.0 at c.in-Some.call.now
          (record c.in-Some.call.now { is_odd = c.if-call.call; is_ready = c.queue_up.new.is_there; is_again = c.queue_up-2.new.is_there }) lt c.in-Some.ensures.value refl
          c.args.is_now c.args.is_again c.queue_up.ensures.there c.queue_up-2.ensures.there),
      omega arith,
      omega arith,
      omega arith,
    )
