-- Texts that came in packets, so that packets can carry them again.
use Rattle.std.proofs.Common.{◌≡◌, ◌+◌, ℕ, false, ◌==◌, nat_lt, List, [], ◌∷◌, ◌++◌, length, arith}
use Rattle.std.specs.List.{join_with_byte, list_any}
use Rattle.std.proofs.lemmas.List.{length-append}
use Rattle.std.proofs.lemmas.Bool.Decides.{nat_tests}
use Rattle.gm_packet.specs.Packets.{has_nul}
use Rattle.gm_notes.specs.Submissions.{max_name, is_bad_name}
use Rattle.gm_notes.specs.Lines.{is_bad_word}
use Rattle.gm_queues.specs.FunctionTables.{IsName}
use Rattle.gm_jobs.specs.Live.{AreCarried}
use Rattle.gm_actions.specs.Carried.{IsCarried, AreNumbers}
use Rattle.std.proofs.lemmas.Bool.{or_parts}

pub name_told : (f : List ℕ) → is_bad_name f ≡ false → has_nul f ≡ false → IsName f
name_told f good plain =
    let short = (or_parts (length f == 0) (nat_lt max_name (length f)) good).1 in
    record { plain = plain; sized = grind (arith, nat_tests) }

pub name_written : (f : List ℕ) → is_bad_word f ≡ false → IsName f
name_written f good =
    let both = or_parts (nat_lt max_name (length f)) (has_nul f) good in
    let short = both.0 in
    record { plain = both.1; sized = grind (arith, nat_tests) }

pub name_carried : (f u b : List ℕ) → is_bad_name f ≡ false → IsCarried f u b → IsName f
name_carried f u b good carried = name_told f good (or_parts (has_nul f) (list_any has_nul (u ∷ [])) carried.separable).0

pub texts_carried : (f u b : List ℕ) → IsCarried f u b → AreCarried u b
texts_carried f u b carried =
    let long : length (join_with_byte 0 (f ∷ u ∷ b ∷ [])) ≡ length f + length (0 ∷ (u ++ 0 ∷ b)) = length-append f (0 ∷ (u ++ 0 ∷ b)) in
    let rest = length-append u (0 ∷ b) in
    let later = (or_parts (has_nul f) (list_any has_nul (u ∷ [])) carried.separable).1 in
    record { plain = (or_parts (has_nul u) false later).0; sized = omega (arith, long, rest, carried.sized) }

pub numbers_carried : (a b : List ℕ) → AreNumbers a b → AreCarried a b
numbers_carried a b numbers =
    let long : length (join_with_byte 0 (a ∷ b ∷ [])) ≡ length a + length (0 ∷ b) = length-append a (0 ∷ b) in
    record { plain = (or_parts (has_nul a) false numbers.separable).0; sized = omega (arith, long, numbers.sized) }
