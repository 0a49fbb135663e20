-- Counts and rows over slots.
use Rattle.std.proofs.Common.{◌≡◌, ℕ, suc, ◌+◌, Bool, true, false, List, [], ◌∷◌, ◌++◌, length, filter, map, refl, ap, arith}
use Rattle.std.proofs.Math.Numerals.{add-one}
use Rattle.std.proofs.lemmas.List.{map-append, append_assoc}
use Rattle.gm_admin.specs.Answers.{WorkerLine}
use Rattle.gm_notes.specs.declared.note.Note.{Note}
use Rattle.gm_notes.specs.Notes.{is_open, slots_from}
use Rattle.gm_plain.specs.Listings.{worker_line_of}

pub counted_here : (P : ℕ → Bool) (slot count rest found : ℕ) → count ≡ suc rest → P slot ≡ true
    → found + 1 + length (filter P (slots_from (slot + 1) rest)) ≡ found + length (filter P (slots_from slot count))
counted_here P slot count rest found e holds =
    rw (e, holds, add-one slot) (let n = length (filter P (slots_from (suc slot) rest)) in let same : found + 1 + n ≡ found + suc n = omega arith in same)

pub counted_not : (P : ℕ → Bool) (slot count rest found : ℕ) → count ≡ suc rest → P slot ≡ false
    → found + length (filter P (slots_from (slot + 1) rest)) ≡ found + length (filter P (slots_from slot count))
counted_not P slot count rest found e holds = rw (e, holds, add-one slot) refl

module _ {A : Type 0} (row_of : A → WorkerLine) (rows : List A) (notes : List Note) (slot count : ℕ) where
  pub row_here : (rest : ℕ) (row : A) → count ≡ suc rest → is_open slot notes ≡ true → row_of row ≡ worker_line_of notes slot
      → map row_of (rows ++ row ∷ []) ++ map (worker_line_of notes) (filter (λ c. is_open c notes) (slots_from (slot + 1) rest))
      ≡ map row_of rows ++ map (worker_line_of notes) (filter (λ c. is_open c notes) (slots_from slot count))
  row_here rest row e opened is =
      rw (e, opened, add-one slot, map-append, append_assoc) (ap (λ (line : WorkerLine). map row_of rows ++ line ∷ map (worker_line_of notes) (filter (λ c. is_open c notes) (slots_from (suc slot) rest))) is)

  pub row_not : (rest : ℕ) → count ≡ suc rest → is_open slot notes ≡ false
      → map row_of rows ++ map (worker_line_of notes) (filter (λ c. is_open c notes) (slots_from (slot + 1) rest))
      ≡ map row_of rows ++ map (worker_line_of notes) (filter (λ c. is_open c notes) (slots_from slot count))
  row_not rest e closed = rw (e, closed, add-one slot) refl
