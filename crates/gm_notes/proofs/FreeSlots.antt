-- The slot that an opening gets.
use Rattle.std.proofs.Common.{◌≡◌, ℕ, zero, suc, ◌+◌, ◌<◌, Bool, true, false, cond, List, Option, Some, None, refl, subst, arith}
use Rattle.gm_notes.specs.declared.note.Note.{Note}
use Rattle.gm_notes.specs.Notes.{is_open}
use Rattle.gm_notes.specs.Steps.{free_from}

free_next : (t : Bool) (c n : ℕ) (notes : List Note) (slot : ℕ) → is_open c notes ≡ t
    → (free_from (suc c) n notes ≡ Some slot → (slot < suc c + n) × (is_open slot notes ≡ false))
    → cond t (free_from (suc c) n notes) (Some c) ≡ Some slot → (slot < c + suc n) × (is_open slot notes ≡ false)
free_next true c n notes slot is rest e = let r = rest e in (omega (arith, r.0), r.1)
free_next false c n notes slot is rest e = let same : c ≡ slot = cc in (omega arith, subst (λ x. is_open x notes ≡ false) same is)

-- a free slot is one of those asked for, and isn't open
pub free_is : (c n : ℕ) (notes : List Note) (slot : ℕ) → free_from c n notes ≡ Some slot → (slot < c + n) × (is_open slot notes ≡ false)
free_is c zero notes slot e = absurd cc
free_is c (suc n) notes slot e = free_next (is_open c notes) c n notes slot refl (free_is (suc c) n notes slot) e
