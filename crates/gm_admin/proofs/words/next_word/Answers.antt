use Rattle.std.proofs.Common.{arith, ◌≡◌, ◌<◌, drop, length, ap}
use Rattle.std.proofs.lemmas.List.{take_rest}
use Rattle.std.proofs.lemmas.Bool.Decides.{nat_tests}
use Rattle.gm_admin.proofs.FirstWord.{none_after, word_after}
use Rattle.gm_admin.proofs.words.next_word.Goals as goal

pub returns-then-is_empty : goal.returns-then-is_empty
returns-then-is_empty c =
    let rest = ap length (take_rest c.args.bytes.now c.gaps_len.result) in
    none_after _ _ c.gaps_len.ensures.len (let empty : length (drop c.gaps_len.result c.args.bytes.now) ≡ 0 = grind (arith, nat_tests) in empty)

pub returns : goal.returns
returns c =
    let rest = ap length (take_rest c.args.bytes.now c.gaps_len.result) in
    let some : 0 < length (drop c.gaps_len.result c.args.bytes.now) = grind (arith, nat_tests) in
    simp take_rest (word_after _ _ _ c.gaps_len.ensures.len some (simp take_rest at c.run_len-len.ensures.len))
