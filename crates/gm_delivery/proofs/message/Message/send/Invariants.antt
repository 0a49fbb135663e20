use Rattle.std.proofs.Common.{◌≡◌, length}
use Rattle.gm_delivery.specs.Messages.{unsent}
use Rattle.gm_delivery.proofs.Sending.{Sending, Calling}
use Rattle.gm_delivery.proofs.message.Message.send.Given as goal

abbrev pub invariant-loop-chunk : goal.invariant-loop-chunk
invariant-loop-chunk g l = record {
  sending : Sending (g.W.KnownWriter.contents l.fn.w) (g.W.KnownWriter.contents l.w) (unsent l.fn.self) (unsent l.self);
  calling : Calling (g.W.KnownWriter.answers l.fn.w) (g.W.KnownWriter.answers l.w) l.writes_left;
  socket : g.W.KnownWriter.socket l.w ≡ g.W.KnownWriter.socket l.fn.w;
}

abbrev pub decreases-loop-chunk : goal.decreases-loop-chunk
decreases-loop-chunk g l = length l.self.bytes.bytes
