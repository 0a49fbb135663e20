use Rattle.std.proofs.Common.{◌≡◌, ◌+◌, ◌-◌, ◌++◌, ℕ, List, length, take, drop, refl, ap, ap₂, ◌∙◌, arith}
use Rattle.std.specs.Int.{w32, to_be_bytes}
use Rattle.std.specs.List.{join_with_byte}
use Rattle.gm_packet.specs.Packets.{response_magic}
use Rattle.gm_packet.specs.Answers.{answer_of, answer_packet}
use Rattle.gm_packet.proofs.Packets.{length-packet}
use Rattle.gm_core.proofs.WritingLemmas.{written_over}
use Rattle.gm_core.proofs.written.Written.write_over.Goals as goal
use Rattle.gm_core.proofs.written.Written.write_over.Goals.{In_ok-write_response}

written : (c : In_ok-write_response) → c.write_response.new.out.items ≡ answer_packet (answer_of c.args.bare.now)
written c = c.in_ok-write_response.ensures.ok ∙ ap (λ (l : List ℕ). l ++ answer_packet (answer_of c.args.bare.now)) c.clear-2.ensures.items

count_of : (c : In_ok-write_response) → length c.write_response.new.out.items ≡ 12 + length (join_with_byte 0 (answer_of c.args.bare.now).arguments)
count_of c =
    ap (λ (l : List ℕ). length l) (written c) ∙ length-packet response_magic (answer_of c.args.bare.now).kind (join_with_byte 0 (answer_of c.args.bare.now).arguments) refl

pub lengthen-requires-clause-long : goal.lengthen-requires-clause-long
lengthen-requires-clause-long c = let count = count_of (goal.at.lengthen-requires-clause-long c).In_ok-write_response in omega (arith, count)

pub lengthen-requires-clause-fits : goal.lengthen-requires-clause-fits
lengthen-requires-clause-fits c =
    let count = count_of (goal.at.lengthen-requires-clause-fits c).In_ok-write_response in
    let sized = c.requires.sized in
    let body = ap (λ (l : List ℕ). length l) c.as_slice.ensures in
    omega (arith, count, sized, body)

pub returns : goal.returns
returns c answer same ends =
    let short = answer_of c.args.bare.now in
    let items = written (goal.at.returns c).In_ok-write_response in
    let count : length c.as_slice.result.now ≡ length c.args.body = ap length c.as_slice.ensures in
    written_over answer short c.args.body c.lengthen.new.packet.items same ends
    (c.lengthen.ensures
    ∙ ap₂ (λ (l : List ℕ) (n : ℕ). take 8 l ++ to_be_bytes w32 ((length l - 12) + n) ++ drop 12 l) items count)
