-- Decimal numbers.
use Rattle.std.specs.Prelude.{ℕ, ◌&&◌, nat_lt, nat_le, Bool, if◌then◌else◌, List, length, Option, Some, None}
use Rattle.std.specs.Char.{is_ascii_digit}
use Rattle.std.specs.List.{list_all}
use Rattle.std.specs.Str.Parse.{digits_value}

-- from 1 to `most` decimal digits, and no other byte
abbrev pub is_decimal : ℕ → List ℕ → Bool
is_decimal most digits = nat_lt 0 (length digits) && nat_le (length digits) most && list_all is_ascii_digit digits

-- the number that from 1 to `most` digits say, if it is below the limit
abbrev pub decimal_below : ℕ → ℕ → List ℕ → Option ℕ
decimal_below limit most digits =
    if is_decimal most digits then (if nat_lt (digits_value 10 digits) limit then Some (digits_value 10 digits) else None) else None
