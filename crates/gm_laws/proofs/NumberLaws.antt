-- The laws about numbers and slots.
use Rattle.std.proofs.Common.{◌≡◌, ℕ, ◌+◌, ◌<◌, ◌^◌, Bool, true, false, cond, ltb, List, [], ◌∷◌, length, Some, None, refl}
use Rattle.std.proofs.Common.{sym, subst, arith}
use Rattle.std.specs.Prelude.{◌==◌, unwrap_or}
use Rattle.std.proofs.lemmas.Bool.{ltb-true}
use Rattle.std.proofs.lemmas.Bool.Decides.{nat_tests}
use Rattle.std.proofs.lemmas.Option.{same_Some}
use Rattle.gm_notes.specs.declared.note.Note.{Note}
use Rattle.gm_notes.specs.declared.note.Note.TheVariants.{Opened, Closed, Made}
use Rattle.gm_notes.specs.Settings.{Settings}
use Rattle.gm_notes.specs.Notes.{is_open}
use Rattle.gm_notes.specs.Jobs.{made, next_number}
use Rattle.gm_history.specs.History.{History}
use Rattle.gm_laws.specs.Laws.{AreConsecutive}

-- ---- numbers

next_at : (k : Settings) (older : List Note) (n : ℕ) (t : Bool) → ltb (k.first_job + length (made older)) (2 ^ 64) ≡ t → cond t (Some (k.first_job + length (made older))) None ≡ Some n → (n ≡ k.first_job + length (made older)) × (n < 2 ^ 64)
next_at k older n true is e =
    let same = same_Some (k.first_job + length (made older)) n e in
    (sym same, subst (λ x. x < 2 ^ 64) same (ltb-true _ _ is))
next_at k older n false is e = absurd cc

pub next_is : (k : Settings) (older : List Note) (n : ℕ) → next_number k older ≡ Some n → (n ≡ k.first_job + length (made older)) × (n < 2 ^ 64)
next_is k older n e = next_at k older n (ltb (k.first_job + length (made older)) (2 ^ 64)) refl e

pub numbers : (k : Settings) (notes : List Note) → History k notes → AreConsecutive k (made notes)
numbers k [] h = tt
numbers k (Made n f p u body ∷ older) h =
    let is = next_is k older n h.0.0 in
    (is.0, is.1, numbers k older h.1)
numbers k (note ∷ older) h = numbers k older h.1

-- ---- slots

opened_slot : (k : Settings) (c d : ℕ) (older : Bool) (t : Bool) → (c == d) ≡ t → d < k.slots → (older ≡ true → c < k.slots) → unwrap_or (cond t (Some true) None) older ≡ true → c < k.slots
opened_slot k c d older true is lt rest e = grind (arith, nat_tests)
opened_slot k c d older false is lt rest e = rest e

closed_slot : (k : Settings) (c : ℕ) (older : Bool) (t : Bool) → (older ≡ true → c < k.slots) → unwrap_or (cond t (Some false) None) older ≡ true → c < k.slots
closed_slot k c older true rest e = absurd cc
closed_slot k c older false rest e = rest e

-- an open slot is one of those that there are
pub slots : (k : Settings) (notes : List Note) → History k notes → (c : ℕ) → is_open c notes ≡ true → c < k.slots
slots k [] h c e = absurd cc
slots k (Opened d addr ∷ older) h c e = opened_slot k c d (is_open c older) (c == d) refl h.0.1 (slots k older h.1 c) e
slots k (Closed d ∷ older) h c e = closed_slot k c (is_open c older) (c == d) (slots k older h.1 c) e
slots k (note ∷ older) h c e = slots k older h.1 c e
