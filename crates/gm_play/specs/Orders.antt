-- How the program reads lines.
use Rattle.std.specs.Prelude.{◌≡◌, ℕ, ◌<◌, ◌≤◌, ◌==◌, if◌then◌else◌, List, [], ◌∷◌, Option, Some, None}
use Rattle.std.specs.Option.{option_map}
use Rattle.std.specs.Char.{digit_value}
use Rattle.gm_play.specs.declared.order.Words.{Words}
use Rattle.gm_play.specs.declared.order.Words.TheVariants.{Two, Three, Other}
use Rattle.gm_play.specs.declared.order.Order.{Order as Read}
use Rattle.gm_play.specs.declared.order.Order.TheVariants as reads
use Rattle.gm_front.specs.Inputs.{Opens, Gives, Closes, Ticks}
use Rattle.gm_play.specs.Scripts.{Order, Skip, Bad, Hands, words_of, order_of_words}

-- the bytes before the first that is this one, and those after it
abbrev pub cut : ℕ → List ℕ → Option (List ℕ × List ℕ)
cut at [] = None
cut at (b ∷ bytes) = if b == at then Some ([], bytes) else option_map (λ (halves : List ℕ × List ℕ). (b ∷ halves.0, halves.1)) (cut at bytes)

-- the value of a hexadecimal digit; none if it isn't one
abbrev pub SaysDigit : ℕ → Option ℕ → Type 0
SaysDigit byte None = 16 ≤ digit_value byte
SaysDigit byte (Some value) = (value ≡ digit_value byte) × (value < 16)

-- the words that were found are those of the line; if others are found, no order has as many
abbrev pub IsReading : List ℕ → Words → Type 0
IsReading line (Two first second) = words_of line ≡ first.now ∷ second.now ∷ []
IsReading line (Three first second third) = words_of line ≡ first.now ∷ second.now ∷ third.now ∷ []
IsReading line Other = order_of_words (words_of line) ≡ Bad

-- the order, wherever its bytes lie
abbrev pub order_view : Read → Order
order_view reads.Skip = Skip
order_view reads.Bad = Bad
order_view (reads.Open addr) = Hands (Opens addr.now)
order_view (reads.Bytes slot piece) = Hands (Gives slot piece.items)
order_view (reads.Close slot) = Hands (Closes slot)
order_view (reads.Tick now) = Hands (Ticks now)
