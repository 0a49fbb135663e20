use Rattle.std.proofs.Common.{ℕ, List, IfSome, sym, subst}
use Rattle.gm_packet.specs.Answers.{answer_of}
use Rattle.gm_actions.specs.Bodies.{EndsWith}
use Rattle.gm_core.proofs.WritingLemmas.{bare_fits, bare_sized}
use Rattle.gm_core.proofs.written.Written.write.Goals as goal
use Rattle.gm_core.proofs.written.Written.write.Goals.{In-Some-without_body}

ends : (c : In-Some-without_body) → EndsWith c.in-Some-share.shared (answer_of c.args.response.now)
ends c =
    let response = answer_of c.args.response.now in
    subst (λ (l : List ℕ). EndsWith l response) (sym c.in-Some-share.ensures) (subst (λ b. IfSome b (λ body. EndsWith body.now.bytes.now response)) c.in-Some.is c.requires.ends)

pub write_over-requires-clause-fits : goal.write_over-requires-clause-fits
write_over-requires-clause-fits c =
    let d = (goal.at.write_over-requires-clause-fits c).In-Some-without_body in
    bare_fits (answer_of c.args.response.now) (answer_of c.in-Some-without_body.bare) c.in-Some-share.shared c.in-Some-without_body.ensures (ends d) c.requires.fits

pub write_over-requires-clause-sized : goal.write_over-requires-clause-sized
write_over-requires-clause-sized c =
    let d = (goal.at.write_over-requires-clause-sized c).In-Some-without_body in
    bare_sized (answer_of c.args.response.now) (answer_of c.in-Some-without_body.bare) c.in-Some-share.shared c.in-Some-without_body.ensures (ends d) c.requires.fits
