use Rattle.std.proofs.Common.{sym, subst, false}
use Rattle.std.specs.Net.Tcp.{stream_raw_fd}
use Rattle.gm_session.specs.Talks.{TalkState, IsHanded}
use Rattle.gm_session.proofs.Talking.{handed}
use Rattle.gm_threads.proofs.accepting.Control.refuse.Goals as goal

pub refuse-requires-2 : goal.refuse-requires-2
refuse-requires-2 g c =
    let socket = stream_raw_fd c.args.writing.writer.stream.value in
    let lent = handed _ _ _ _ _ _ c.in-Some.ensures c.if-not-refuse.ensures.paired in
    (socket, subst (λ (t : TalkState). IsHanded t c.refuse.new.reading socket false) (sym c.deref_mut-2.ensures.value) lent)
