use Rattle.std.proofs.Common.{◌/◌, length, length-set, ap, sym, subst, ◌∙◌, arith}
use Rattle.gm_poll.specs.Pollers.{PollerState, IsOrderly, is_odd, call_at, reported, heard}
use Rattle.gm_poll.proofs.HeedLemmas.{heard_at}
use Rattle.gm_poll.proofs.PollerLemmas.{event_room, event_orderly}
use Rattle.gm_poll.proofs.poller.Poller.hear.Goals as goal

pub invariant_of-self : goal.invariant_of-self
invariant_of-self c =
    let i = c.loop-event.invariant in
    let calls = c.loop-event.self-inside.1.1.1.1.1.1.0 in
    let ready = c.loop-event.self-inside.1.1.1.1.1.1.1.0 in
    let as_many = ap (λ p. length p.calls) c.self.view_is in
    let slots = i.slots in
    let long = calls.ok.0 in
    let room = c.self.invariant in
    let before = c.self.inside.calls.ok.0 in
    (subst (λ (p : PollerState). IsOrderly (record p { calls = calls.items; ready = ready.items })) (sym c.self.view_is) i.orderly, i.room, omega arith, omega arith)

pub take_event-requires-clause-room : goal.take_event-requires-clause-room
take_event-requires-clause-room c = λ away lt.
    let i = c.loop-event.invariant in
    let room = event_room _ i.orderly (c.in-Some.event.now.inner.data / c.self.inside.count) away lt in
    omega (arith, i.room, c.loop-event.self-inside.1.1.1.1.1.1.0.ok.0, c.loop-event.self-inside.1.1.1.1.1.1.1.0.ok.0)

pub loop-event-preserved : goal.loop-event-preserved
loop-event-preserved c =
    let i = c.loop-event.invariant in
    let event = c.in-Some.event.now in
    let at = event.inner.data / c.self.inside.count in
    let p : PollerState = record c.args.self.now { calls = c.loop-event.self-inside.1.1.1.1.1.1.0.items; ready = c.loop-event.self-inside.1.1.1.1.1.1.1.0.items } in
    let count = ap (λ p. p.count) c.self.view_is in
    let next = c.take_event.ensures in
    let as_many = ap length next.calls in
    let same = length-set p.calls at (reported (is_odd event) (call_at p.calls at)) in
    record {
      next = tt;
      finite = tt;
      orderly = rw (next.calls, next.positions) (event_orderly p i.orderly at (is_odd event));
      room = omega (arith, i.room, c.loop-event.self-inside.1.1.1.1.1.1.0.ok.0, c.take_event.new.calls.ok.0, next.capacity);
      slots = omega (arith, i.slots);
      heard = rw (next.calls, next.positions) (heard_at c.next.new.self.rest.now event at p (ap (λ n. event.inner.data / n) count) ∙ sym (ap (λ events. heard events p) c.in-Some.ensures.steps) ∙ i.heard);
    }
