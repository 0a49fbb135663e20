use Rattle.std.proofs.Common.{rules, ◌≡◌, ◌+◌, List, ℕ, None, take, subst, refl}
use Rattle.std.specs.Prelude.{slice_range}
use Rattle.gm_feeder.specs.Heads.{data_of}
use Rattle.gm_feeder.specs.Streams.{Stream}
use Rattle.gm_feeder.specs.Units.{APacket, IsUnit}
use Rattle.gm_feeder.proofs.StreamLemmas.{gives_packet}
use Rattle.gm_feeder.proofs.feeder.Feeder.take_packet.Goals as goal

pub returns-in-Packet-clause-packet : goal.returns-in-Packet-clause-packet
returns-in-Packet-clause-packet c =
    let old = c.args.self.now in
    let f = c.self.inside in
    let len = 12 + c.in-Packet.size in
    let running : old.fault ≡ None = search rules in
    gives_packet old old c.take_buffer.new.self c.in-Packet.kind len c.take_buffer.result running refl
    (subst (λ (s : Stream). IsUnit s.limits (take len s.pending) (APacket c.in-Packet.kind (data_of (take len s.pending)))) c.self.view_is
    (subst (λ (l : List ℕ). IsUnit f.limits (take len (slice_range l f.start f.end)) (APacket c.in-Packet.kind (data_of (take len (slice_range l f.start f.end))))) c.deref.ensures.value c.in-Packet.ensures.1))
    c.take_buffer.ensures.data c.take_buffer.ensures.rest
