use Rattle.std.proofs.Common.{ℕ, List, ap, ◌∙◌}
use Rattle.gm_packet.specs.Kinds.{kind_of}
use Rattle.gm_notes.specs.Requests.{packet_of}
use Rattle.gm_plain.proofs.ServerLemmas.{does_as}
use Rattle.gm_plain.proofs.server.PlainServer.read.Goals as goal

pub returns-in-Ok : goal.returns-in-Ok
returns-in-Ok c =
    does_as c.act.result (packet_of c.args.self.now.config c.args.slot (kind_of c.args.kind) c.args.bytes.now) c.act.ensures
    (λ p keeps. c.in-Ok.ensures.does c.args.self.now.config c.args.slot p
    ∙ ap (λ (bytes : List ℕ). packet_of c.args.self.now.config c.args.slot (kind_of c.args.kind) bytes p) c.lent.ensures)

pub returns-in-Err : goal.returns-in-Err
returns-in-Err c =
    does_as c.refuse.result (packet_of c.args.self.now.config c.args.slot (kind_of c.args.kind) c.args.bytes.now) c.refuse.ensures
    (λ p keeps. c.in-Err.ensures.does c.args.self.now.config c.args.slot p
    ∙ ap (λ (bytes : List ℕ). packet_of c.args.self.now.config c.args.slot (kind_of c.args.kind) bytes p) c.lent.ensures)
