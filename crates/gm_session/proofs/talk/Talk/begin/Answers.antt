use Rattle.std.proofs.Common.{sym, subst, true}
use Rattle.std.specs.Net.Tcp.{stream_raw_fd}
use Rattle.gm_session.specs.declared.talk.Reading.TheVariants.{Goes}
use Rattle.gm_session.specs.Talks.{TalkState, IsHanded}
use Rattle.gm_session.proofs.Talking.{talk_begun}
use Rattle.gm_session.proofs.talk.Talk.begin.Goals as goal

pub invariant_of-self : goal.invariant_of-self
invariant_of-self g c =
    let handed = subst (λ (t : TalkState). IsHanded t c.args.side (stream_raw_fd c.args.source.source.stream.value) true) (sym c.self.view_is) c.requires.handed in
    talk_begun g.K.BookName.settings _ c.self.invariant _ _ handed (λ i. record {
      socket = stream_raw_fd c.args.source.source.stream.value;
      stream = c.new.ensures.fresh i;
      has_units = c.new.ensures.units i;
      reading = Goes;
      heard = c.requires.unread i;
      answers = c.args.source.answers;
      last = c.args.source.last;
    })
