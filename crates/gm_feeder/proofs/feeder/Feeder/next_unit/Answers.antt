use Rattle.std.proofs.Common.{ℕ, ◌+◌, List, take, refl, sym, ap, subst, ◌∙◌}
use Rattle.gm_feeder.specs.Units.{APacket, ALine, IsUnit}
use Rattle.gm_feeder.specs.Streams.{Stream}
use Rattle.gm_feeder.specs.Heads.{data_of, text_of}
use Rattle.gm_feeder.proofs.StreamLemmas.{gives_first}
use Rattle.gm_feeder.proofs.feeder.Feeder.next_unit.Goals as goal

pub returns-in-Packet : goal.returns-in-Packet
returns-in-Packet c =
    let old = c.args.self.now in
    let running = sym (ap (λ (s : Stream). s.fault) c.self.view_is) ∙ c.in_default.is in
    let len = 12 + c.in-Packet.size in
    let says = c.data_of-bytes.ensures ∙ ap data_of (c.take_first-whole.ensures.bytes ∙ ap (λ (s : Stream). take len s.pending) c.next_head.ensures.kept) in
    let unit = subst (λ (l : List ℕ). IsUnit old.limits (take len old.pending) (APacket c.in-Packet.kind l)) (sym says) c.in-Packet.ensures.head.1 in
    let given = gives_first old c.next_head.new.self c.take_first-whole.follows.lender-at-none (APacket c.in-Packet.kind c.data_of-bytes.result.now) len running c.next_head.ensures.kept c.take_first-whole.follows.holds-at-none unit in
    ((refl, λ _. tt, given), record { unit = (_, given.unit); none = tt; fault = tt; standing = rw given.running tt; after = tt })

pub returns-in-Line : goal.returns-in-Line
returns-in-Line c =
    let old = c.args.self.now in
    let running = sym (ap (λ (s : Stream). s.fault) c.self.view_is) ∙ c.in_default.is in
    let len = c.in-Line.len + 1 in
    let says = c.text_of-bytes.ensures ∙ ap text_of (c.take_first-whole-in-Line.ensures.bytes ∙ ap (λ (s : Stream). take len s.pending) c.next_head.ensures.kept) in
    let unit = subst (λ (l : List ℕ). IsUnit old.limits (take len old.pending) (ALine l)) (sym says) c.in-Line.ensures.head.1 in
    let given = gives_first old c.next_head.new.self c.take_first-whole-in-Line.follows.lender-at-none (ALine c.text_of-bytes.result.now) len running c.next_head.ensures.kept c.take_first-whole-in-Line.follows.holds-at-none unit in
    ((refl, λ _. tt, given), record { unit = (_, given.unit); none = tt; fault = tt; standing = rw given.running tt; after = tt })
