-- What is true of tests of numbers.
use Rattle.std.proofs.Common.{◌≡◌, ℕ, true, ◌==◌, refl}
use Rattle.std.proofs.lemmas.Bool.{eq-eqb}

pub same_number : (n : ℕ) → (n == n) ≡ true
same_number n = eq-eqb n n refl
