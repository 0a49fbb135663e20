-- That bytes end in a text, so that the text can stay where the bytes are.
use Rattle.std.specs.Prelude.{◌≡◌, ℕ, ◌≤◌, ◌-◌, List, length, drop}

abbrev pub EndsIn : List ℕ → List ℕ → Type 0
EndsIn text bytes = (length text ≤ length bytes) × (drop (length bytes - length text) bytes ≡ text)
