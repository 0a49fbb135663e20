use Rattle.std.proofs.Common.{◌≡◌, ◌∷◌, List, length, Option, true, refl, sym, ap, subst}
use Rattle.std.specs.Option.{option_map}
use Rattle.std.specs.Net.Tcp.{stream_raw_fd}
use Rattle.gm_feeder.specs.Answers.{answer_of}
use Rattle.gm_session.specs.declared.talk.Talking.{Talking}
use Rattle.gm_session.specs.Talks.{TalkState, talking_of, is_dropping}
use Rattle.gm_session.proofs.Talking.{piece_of, talk_discarded, discards_on, discards_from}
use Rattle.gm_session.proofs.talk.Talk.discard.Goals as goal

pub invariant_of-self : goal.invariant_of-self
invariant_of-self g c =
    let piece = piece_of _ _ c.read_by.result _ c.read_by.ensures.heard in
    let was = subst (λ (t : TalkState). is_dropping t.talking ≡ true) (sym c.self.view_is) c.requires in
    let drops = subst (λ (o : Option Talking). is_dropping (option_map talking_of o) ≡ true) c.in-Some.is was in
    talk_discarded g.K.BookName.settings _ c.self.invariant _ _ piece.0 (ap (option_map talking_of) c.in-Some.is) drops refl piece.1 (let same = c.read_by.ensures.socket in cc)

pub returns : goal.returns
returns g c =
    let piece = piece_of _ _ c.read_by.result _ c.read_by.ensures.heard in
    let same : stream_raw_fd c.read_by.new.self.source.stream.value ≡ stream_raw_fd c.in-Some.talking.source.source.stream.value = let same = c.read_by.ensures.socket in cc in
    let answered : c.read_by.new.self.answers ≡ answer_of c.read_by.result (length c.read_by.new.room) ∷ c.in-Some.talking.source.answers = let said = c.read_by.ensures.answered in cc in
    discards_from _ _ _ _ c.self.view_is (discards_on _ _ _ _ piece.0 (ap (option_map talking_of) c.in-Some.is) (λ i. record {
      socket = same i;
      stream = c.in-Some.talking.session.feeder;
      has_units = c.in-Some.talking.session.has_units;
      reading = c.in-Some.talking.reading;
      heard = piece.1 i;
      answers = answered i;
      last = c.read_by.new.self.last;
    }))
