use Rattle.std.proofs.Common.{◌∙◌, sym, ap, take, arith}
use Rattle.gm_feeder.proofs.HeadLemmas.{hopeless-wrong_magic, hopeless-large, no_unit-short, can_go_on, packet-long, agrees-filled}
use Rattle.gm_feeder.proofs.HeadLemmas.{filled-agrees}
use Rattle.gm_feeder.specs.Units.{AgreesWithMagic}
use Rattle.gm_feeder.proofs.head.find_packet.Goals as goal

pub returns-in_default : goal.returns-in_default
returns-in_default c =
    let differs : AgreesWithMagic c.args.bytes.now → ⊥ =
    λ agrees. c.in_default.ensures.refused (ap (take 4) c.filled_header.ensures ∙ agrees-filled c.args.bytes.now agrees)
    in
    (record { nul = c.requires; hopeless = hopeless-wrong_magic c.args.limits c.args.bytes.now c.requires differs }, differs)

pub returns-then-header-limits : goal.returns-then-header-limits
returns-then-header-limits c =
    let is = sym c.filled_header.ensures ∙ c.in-Ok.ensures.found in
    let header = c.in-Ok.header in (
      record { nul = c.requires; hopeless = hopeless-large c.args.limits c.args.bytes.now header.kind header.size c.requires (omega arith) (omega arith) is },
      filled-agrees c.args.bytes.now (ap (take 4) is),
    )

pub returns-then-bytes-header : goal.returns-then-bytes-header
returns-then-bytes-header c =
    let is = sym c.filled_header.ensures ∙ c.in-Ok.ensures.found in
    let header = c.in-Ok.header in (
      record {
        no_unit = no_unit-short c.args.limits c.args.bytes.now header.kind header.size c.requires (omega arith) (omega arith) is;
        goes_on = can_go_on c.args.limits c.args.bytes.now header.kind header.size (omega arith) (omega arith) (omega arith) (omega arith) is;
      },
      record { within = omega arith; within_limit = omega arith; no_newline = λ k low. absurd (omega arith) },
    )

pub returns : goal.returns
returns c =
    let is = sym c.filled_header.ensures ∙ c.in-Ok.ensures.found in
    let header = c.in-Ok.header in
    (omega arith, packet-long c.args.limits c.args.bytes.now header.kind header.size (omega arith) (omega arith) (omega arith) (omega arith) is)
