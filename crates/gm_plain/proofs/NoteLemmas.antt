-- What the searches over notes need.
use Rattle.std.proofs.Common.{◌≡◌, ℕ, zero, suc, ◌+◌, ◌<◌, true, false, List, [], ◌∷◌, ◌++◌, length, take, get_or, reverse, Some, refl}
use Rattle.std.proofs.Common.{sym, ap, ◌∙◌, arith}
use Rattle.std.proofs.lemmas.List.{take_more, reverse-append}
use Rattle.std.proofs.Math.Numerals.{add-one}
use Rattle.gm_notes.specs.declared.note.Note.{Note}
use Rattle.gm_notes.specs.Notes.{is_open}
use Rattle.gm_notes.specs.Steps.{free_from}

-- a slot that isn't open is the least free one
pub free_here : (c n : ℕ) (notes : List Note) → 0 < n → is_open c notes ≡ false → free_from c n notes ≡ Some c
free_here c zero notes some closed = absurd (omega arith)
free_here c (suc n) notes some closed = rw closed refl

-- past an open slot the search goes on
pub free_later : (c n m : ℕ) (notes : List Note) → n ≡ suc m → is_open c notes ≡ true → free_from c n notes ≡ free_from (c + 1) m notes
free_later c n m notes e opened = rw (e, opened, add-one) refl

-- ---- a search that goes over the notes, the oldest first

pub note_next : (notes : List Note) (i : ℕ) (x : Note) → i < length notes → x ≡ get_or notes i x → reverse (take (i + 1) notes) ≡ x ∷ reverse (take i notes)
note_next notes i x lt is =
    ap reverse (take_more notes i x lt ∙ ap (λ y. take i notes ++ y ∷ []) (sym is)) ∙ reverse-append (take i notes) (x ∷ [])
