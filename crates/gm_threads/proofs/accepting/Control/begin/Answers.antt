use Rattle.std.proofs.Common.{ap, sym, subst, ℤ, true}
use Rattle.std.specs.Net.Tcp.{stream_raw_fd}
use Rattle.gm_session.specs.Talks.{TalkState, IsHanded}
use Rattle.gm_session.proofs.Talking.{handed}
use Rattle.gm_threads.proofs.accepting.Control.begin.Goals as goal

-- both halves are of one socket, whose number both sides of the slot were handed
pub begin-requires-clause-handed : goal.begin-requires-clause-handed
begin-requires-clause-handed g c =
    let lent = handed _ _ _ _ _ _ c.in-Some.ensures c.in-Some-open.ensures.paired in
    let now = subst (λ (t : TalkState). IsHanded t c.open.new.reading (stream_raw_fd c.args.halves.writing.writer.stream.value) true) (sym c.deref_mut-2.ensures.value) lent in
    subst (λ (socket : ℤ). IsHanded c.deref_mut-2.result.now c.open.new.reading socket true) (ap stream_raw_fd (sym c.args.halves.paired)) now
