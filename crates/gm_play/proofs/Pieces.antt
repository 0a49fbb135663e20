-- Pieces between separators, by the cut at the first.
use Rattle.std.proofs.Common.{◌≡◌, ℕ, Bool, true, false, if◌then◌else◌, List, [], ◌∷◌, Option, Some, None, refl, sym, ap, ◌∙◌}
use Rattle.std.specs.Prelude.{◌==◌}
use Rattle.std.specs.Option.{option_map}
use Rattle.gm_play.specs.Scripts.{onto_first, cuts, order_of_words, Bad}
use Rattle.gm_play.specs.Orders.{cut}

-- the pieces of bytes that are cut so
abbrev pub pieces_at : ℕ → List ℕ → Option (List ℕ × List ℕ) → List (List ℕ)
pieces_at at bytes None = bytes ∷ []
pieces_at at bytes (Some halves) = halves.0 ∷ cuts at halves.1

onto_pieces : (at b : ℕ) (bytes : List ℕ) (halves : Option (List ℕ × List ℕ)) → onto_first b (pieces_at at bytes halves) ≡ pieces_at at (b ∷ bytes) (option_map (λ (h : List ℕ × List ℕ). (b ∷ h.0, h.1)) halves)
onto_pieces at b bytes None = refl
onto_pieces at b bytes (Some halves) = refl

one_more : (t : Bool) (at b : ℕ) (bytes : List ℕ) → cuts at bytes ≡ pieces_at at bytes (cut at bytes)
    → (if t then [] ∷ cuts at bytes else onto_first b (cuts at bytes)) ≡ pieces_at at (b ∷ bytes) (if t then Some ([], bytes) else option_map (λ (h : List ℕ × List ℕ). (b ∷ h.0, h.1)) (cut at bytes))
one_more true at b bytes e = refl
one_more false at b bytes e = ap (onto_first b) e ∙ onto_pieces at b bytes (cut at bytes)

pub cuts_are : (at : ℕ) (bytes : List ℕ) → cuts at bytes ≡ pieces_at at bytes (cut at bytes)
cuts_are at [] = refl
cuts_are at (b ∷ bytes) = one_more (b == at) at b bytes (cuts_are at bytes)

-- with the cut as the program finds it
pub pieces_by : (at : ℕ) (bytes : List ℕ) (halves : Option (List ℕ × List ℕ)) → halves ≡ cut at bytes → cuts at bytes ≡ pieces_at at bytes halves
pieces_by at bytes halves e = cuts_are at bytes ∙ ap (pieces_at at bytes) (sym e)

-- more than three words are no order
one_at_least : (t : Bool) (b : ℕ) (first second third : List ℕ) (rest pieces : List (List ℕ)) → order_of_words (first ∷ second ∷ third ∷ (if t then [] ∷ rest else onto_first b pieces)) ≡ Bad
one_at_least true b first second third rest pieces = refl
one_at_least false b first second third rest [] = refl
one_at_least false b first second third rest (piece ∷ pieces) = refl

pub too_many : (first second third : List ℕ) (at : ℕ) (bytes : List ℕ) → order_of_words (first ∷ second ∷ third ∷ cuts at bytes) ≡ Bad
too_many first second third at [] = refl
too_many first second third at (b ∷ bytes) = one_at_least (b == at) b first second third (cuts at bytes) (cuts at bytes)
