-- Numbers in a range.
use Rattle.std.proofs.Common.{◌≡◌, ℕ, zero, suc, ◌+◌, ◌≤◌, ◌^◌, ap, ◌∙◌, arith}
use Rattle.std.specs.Prelude.{◌==◌, ◌||◌, ◌&&◌, nat_le, nat_lt}
use Rattle.std.specs.List.{list_any}
use Rattle.std.proofs.lemmas.Bool.Decides.{nat_tests}
use Rattle.gm_actions.proofs.HandleTexts.{AllSmall}
use Rattle.gm_core.specs.Holds.{numbers_down}

pub small_down : (first count : ℕ) → first + count ≤ 2 ^ 64 → AllSmall (numbers_down first count)
small_down first zero fits = tt
small_down first (suc count) fits = (omega (arith, fits), small_down first count (omega (arith, fits)))

-- a number is among those of a range
pub any_down : (n first count : ℕ) → list_any (λ m. m == n) (numbers_down first count) ≡ (nat_le first n && nat_lt n (first + count))
any_down n first zero = grind (arith, nat_tests)
any_down n first (suc count) = ap (λ t. (first + count == n) || t) (any_down n first count) ∙ step
  where
    step : ((first + count == n) || (nat_le first n && nat_lt n (first + count))) ≡ (nat_le first n && nat_lt n (first + suc count))
    step = grind (arith, nat_tests)
