-- The pens of a new table.
use Rattle.std.proofs.Common.{◌≡◌, ℕ, zero, suc, [], ◌∷◌, length, refl, arith, length-append}
use Rattle.std.specs.Prelude.{All}
use Rattle.std.proofs.lemmas.List.Elements.{All-append}
use Rattle.atomic_table.specs.Seated.{TableId}
use Rattle.gm_word.specs.Seats.{PenState, fresh_pen, fresh_pens}

pub length-fresh_pens : (table : TableId) (slots : ℕ) → length (fresh_pens table slots) ≡ slots
length-fresh_pens table zero = refl
length-fresh_pens table (suc slots) = let r = length-fresh_pens table slots in omega (arith, length-append (fresh_pens table slots) (fresh_pen table slots ∷ []))

only_one : (P : PenState → Type 0) (pen : PenState) → P pen → All P (pen ∷ [])
only_one P pen p zero d low = p
only_one P pen p (suc k) d low = absurd (omega arith)

-- the pens are the table's
pub fresh_pens-fit : (table : TableId) (slots : ℕ) → All (λ (pen : PenState). pen.table ≡ table) (fresh_pens table slots)
fresh_pens-fit table zero = λ k d low. absurd (omega arith)
fresh_pens-fit table (suc slots) =
    All-append (λ (pen : PenState). pen.table ≡ table) (fresh_pens table slots) (fresh_pen table slots ∷ []) (fresh_pens-fit table slots)
    (only_one (λ (pen : PenState). pen.table ≡ table) (fresh_pen table slots) refl)
