-- A heap of pairs of numbers, the least first.
use Rattle.std.specs.Prelude.{ℕ, List, [], ◌∷◌, Contains, Option, Some, None}
use Rattle.std.specs.Ordering.{nat_cmp, ordering_then}
use Rattle.std.specs.declared.cmp.Ordering.{Ordering}
use Rattle.std.specs.declared.cmp.Reverse.{Reverse}

abbrev pub Pair : Type 0
Pair = Reverse (ℕ × ℕ)

abbrev pub pair : ℕ → ℕ → Pair
pair a b = record { 0 = (a, b) }

-- the order in which the greatest is the pair that comes first
abbrev pub later : Pair → Pair → Ordering
later x y = ordering_then (nat_cmp y.0.0 x.0.0) (nat_cmp y.0.1 x.0.1)

-- the pair is among these
abbrev pub Has : List Pair → ℕ → ℕ → Type 0
Has heap a b = Contains heap (pair a b)

-- the first one
abbrev pub first_of : List Pair → Option (ℕ × ℕ)
first_of [] = None
first_of (x ∷ xs) = Some x.0
