use Rattle.std.proofs.Common.{arith, refl, ap, length, ◌∙◌, ◌≡◌, ◌-◌, ◌^◌, min}
use Rattle.std.specs.List.{join_with_byte}
use Rattle.gm_packet.specs.Answers.{answer_of}
use Rattle.gm_packet.specs.Packets.{response_magic}
use Rattle.gm_packet.proofs.Packets.{length-packet}
use Rattle.gm_packet.proofs.response.response_len.Goals as goal

pub returns : goal.returns
returns c =
    let arguments = (answer_of c.args.response.now).arguments in
    let exact : c.data_len.result ≡ min (length (join_with_byte 0 arguments)) (2 ^ 64 - 1) = c.data_len.ensures ∙ ap (λ texts. min (length (join_with_byte 0 texts)) (2 ^ 64 - 1)) (c.as_slice.ensures ∙ c.texts.ensures) in
    omega (arith, c.saturating_add.ensures, exact, length-packet response_magic (answer_of c.args.response.now).kind (join_with_byte 0 arguments) refl)
