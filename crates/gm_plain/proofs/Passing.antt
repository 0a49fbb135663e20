-- The jobs made that pass a test, as one note comes.
use Rattle.std.proofs.Common.{◌≡◌, ℕ, ◌+◌, ◌<◌, ◌≤◌, Bool, true, false, List, ◌∷◌, length, take, get_or, reverse, filter, find, Option, Some, refl, ap, ◌∙◌, arith}
use Rattle.gm_notes.specs.declared.note.Note.{Note}
use Rattle.gm_notes.specs.declared.states.Priority.{Priority}
use Rattle.gm_notes.specs.declared.note.Note.TheVariants.{Made}
use Rattle.gm_notes.specs.Jobs.{made}
use Rattle.gm_plain.proofs.NoteLemmas.{note_next}

-- Of the jobs that the first `i` notes made, this many pass.
abbrev pub Counted : (ℕ → Bool) → List Note → ℕ → ℕ → Type 0
Counted P notes i count = (count ≡ length (filter P (made (reverse (take i notes))))) × (count ≤ i)

module _ (P : ℕ → Bool) (notes : List Note) (i : ℕ) (note : Note) (lt : i < length notes) (is : note ≡ get_or notes i note) where
  module _ (n : ℕ) (f : List ℕ) (p : Priority) (u body : List ℕ) (makes : note ≡ Made n f p u body) where
    made_here : made (reverse (take (i + 1) notes)) ≡ n ∷ made (reverse (take i notes))
    made_here = ap made (note_next notes i note lt is ∙ ap (λ (x : Note). x ∷ reverse (take i notes)) makes)

    pub counted_one : (before count : ℕ) → P n ≡ true → count ≡ before + 1 → Counted P notes i before → Counted P notes (i + 1) count
    counted_one before count passes more so_far = (rw (made_here, passes) (omega (arith, more, so_far.0)), omega (arith, more, so_far.1))

    pub counted_none : (before count : ℕ) → P n ≡ false → count ≡ before → Counted P notes i before → Counted P notes (i + 1) count
    counted_none before count fails same so_far = (rw (made_here, fails) (same ∙ so_far.0), omega (arith, same, so_far.1))

    pub found_one : (found : Option ℕ) → P n ≡ true → found ≡ Some n → found ≡ find P (made (reverse (take (i + 1) notes)))
    found_one found passes one = rw (made_here, passes) one

    pub found_none : (before found : Option ℕ) → P n ≡ false → found ≡ before → before ≡ find P (made (reverse (take i notes))) → found ≡ find P (made (reverse (take (i + 1) notes)))
    found_none before found fails same so_far = rw (made_here, fails) (same ∙ so_far)

  module _ (other : (n : ℕ) (f : List ℕ) (p : Priority) (u body : List ℕ) → note ≡ Made n f p u body → ⊥) where
    made_not : made (reverse (take (i + 1) notes)) ≡ made (reverse (take i notes))
    made_not = ap made (note_next notes i note lt is) ∙ skipped note (reverse (take i notes)) other
      where
        skipped : (x : Note) (older : List Note) → ((n : ℕ) (f : List ℕ) (p : Priority) (u body : List ℕ) → x ≡ Made n f p u body → ⊥) → made (x ∷ older) ≡ made older
        skipped (Made n f p u body) older isnt = absurd (isnt n f p u body refl)
        skipped x older isnt = refl

    pub counted_not : (before count : ℕ) → count ≡ before → Counted P notes i before → Counted P notes (i + 1) count
    counted_not before count same so_far = (rw made_not (same ∙ so_far.0), omega (arith, same, so_far.1))

    pub found_not : (before found : Option ℕ) → found ≡ before → before ≡ find P (made (reverse (take i notes))) → found ≡ find P (made (reverse (take (i + 1) notes)))
    found_not before found same so_far = rw made_not (same ∙ so_far)
