use Rattle.gm_delivery.specs.declared.writing.Sent.TheVariants as sent
use Rattle.std.proofs.Common.{◌≡◌, ◌<◌, ◌∙◌, [], length, refl, ap, arith, length-append}
use Rattle.std.proofs.lemmas.Bool.Decides.{nat_tests}
use Rattle.gm_delivery.specs.Messages.{noop_left}
use Rattle.gm_delivery.proofs.Sending.{sending_none, sending_last, sending_blocked, chunk_sent, chunk_stops, calls_none, reason_of, reason_count, calling_more}
use Rattle.gm_delivery.proofs.message.Message.send.Goals as goal

pub returns-then-is_empty : goal.returns-then-is_empty
returns-then-is_empty g c =
    let i = c.loop-chunk.invariant in
    record {
      sends = sending_last _ _ _ _ _ _ i.sending c.send_noop.result c.send_noop.ensures.sends;
      reason = reason_of _ _ _ _ c.send_noop.result (noop_left c.loop-chunk.self) i.calling.calls i.calling.made c.send_noop.ensures.once;
      socket = c.send_noop.ensures.socket ∙ i.socket;
    }

pub loop-chunk-init : goal.loop-chunk-init
loop-chunk-init g c = record { sending = sending_none _ _; calling = record { calls = []; made = calls_none _; count = refl }; socket = refl }

pub loop-chunk-preserved : goal.loop-chunk-preserved
loop-chunk-preserved g c =
    let some : 0 < length c.next_chunk-chunk.result.now = (let is = c.is_empty.ensures in let there = c.if-is_empty.false in grind (arith, nat_tests)) in
    let i = c.loop-chunk.invariant in
    let w = c.write_once-count.ensures in
    record {
      sending = chunk_sent _ _ _ _ _ _ _ _ _ _ c.write_once-count.result.1 i.sending c.next_chunk-chunk.ensures.first.1 w.writes c.advance.ensures.bytes;
      calling = calling_more _ _ _ _ _ c.next_chunk-chunk.result.now some c.if-writes_left-eq0.false i.calling (rw c.in-All.is at w.once);
      socket = w.socket ∙ i.socket;
    }

pub returns-in-Some : goal.returns-in-Some
returns-in-Some g c =
    let i = c.loop-chunk.invariant in
    let w = c.write_once-count.ensures in
    record {
      sends = chunk_stops _ _ _ _ _ _ _ _ _ _ c.write_once-count.result.1 i.sending c.next_chunk-chunk.ensures.first.1 w.writes c.advance.ensures.bytes sent.Some c.in-Some.is (λ is. absurd cc);
      reason = reason_of _ _ _ _ sent.Some _ i.calling.calls i.calling.made (rw c.in-Some.is at w.once);
      socket = w.socket ∙ i.socket;
    }

pub returns-in-Failed : goal.returns-in-Failed
returns-in-Failed g c =
    let i = c.loop-chunk.invariant in
    let w = c.write_once-count.ensures in
    record {
      sends = chunk_stops _ _ _ _ _ _ _ _ _ _ c.write_once-count.result.1 i.sending c.next_chunk-chunk.ensures.first.1 w.writes c.advance.ensures.bytes sent.Failed c.in-Failed.is (λ is. absurd cc);
      reason = reason_of _ _ _ _ sent.Failed _ i.calling.calls i.calling.made (rw c.in-Failed.is at w.once);
      socket = w.socket ∙ i.socket;
    }

pub returns-then-writes_left-eq0 : goal.returns-then-writes_left-eq0
returns-then-writes_left-eq0 g c =
    let i = c.loop-chunk.invariant in
    let bytes = c.loop-chunk.self.bytes.bytes in
    let chunk = c.next_chunk-chunk.result.now in
    let some : 0 < length chunk = (let is = c.is_empty.ensures in let there = c.if-is_empty.false in grind (arith, nat_tests)) in
    let first = c.next_chunk-chunk.ensures.first in
    record {
      sends = sending_blocked _ _ _ _ i.sending
          (λ is. absurd (omega (arith, some, ap length is, length-append bytes (noop_left c.loop-chunk.self), ap length first.1, length-append chunk first.0)));
      reason = reason_count _ _ _ _ c.if-writes_left-eq0.true i.calling;
      socket = i.socket;
    }
