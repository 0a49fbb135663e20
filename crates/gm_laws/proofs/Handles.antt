-- A handle names one job.
use Rattle.std.proofs.Common.{◌≡◌, ℕ, ◌<◌, ◌^◌, Bool, true, false, cond, ◌||◌, List, [], ◌∷◌, ◌++◌, drop, find, Option}
use Rattle.std.proofs.Common.{Some, refl, sym, ap, subst, ◌∙◌}
use Rattle.std.specs.Prelude.{◌==◌, codes, decimal}
use Rattle.std.specs.List.{list_any}
use Rattle.std.specs.Str.{bytes_eq}
use Rattle.std.proofs.lemmas.List.{append_cancel_left}
use Rattle.std.proofs.lemmas.Slice.Eq.{bytes_eq-Decides}
use Rattle.gm_packet.specs.Packets.{packet}
use Rattle.gm_packet.specs.Answers.{answer_packet, work_fail}
use Rattle.gm_notes.specs.declared.note.Note.{Note}
use Rattle.gm_notes.specs.Settings.{Settings}
use Rattle.gm_notes.specs.Jobs.{job_state, made, handle, is_handle, job_of_handle}
use Rattle.gm_history.specs.History.{History}
use Rattle.gm_laws.specs.Laws.{AreConsecutive}
use Rattle.gm_laws.proofs.NumberLaws.{numbers}
use Rattle.gm_laws.proofs.JobLaws.{has_place, places}
use Rattle.std.proofs.lemmas.Bool.{eqb-true}
use Rattle.std.proofs.lemmas.Fmt.{decimal_injective}

pub same_handle : (k : Settings) (m n : ℕ) → m < 2 ^ 64 → n < 2 ^ 64 → handle k m ≡ handle k n → m ≡ n
same_handle k m n small lt e = decimal_injective m n small lt (append_cancel_left (codes "H:" ++ k.name ++ codes ":") (decimal m) (decimal n) e)

-- a WORK_FAIL says its handle
pub fail_handle : (a b : List ℕ) → answer_packet (work_fail a) ≡ answer_packet (work_fail b) → a ≡ b
unfolding packet
fail_handle a b e = ap (drop 12) e

-- ---- jobs that were made

module _ (k : Settings) (n : ℕ) where
  small_at : (m : ℕ) (t : Bool) (more : Bool) → (m == n) ≡ t → m < 2 ^ 64 → (more ≡ true → n < 2 ^ 64) → (t || more) ≡ true → n < 2 ^ 64
  small_at m true more is lt rest any = subst (λ x. x < 2 ^ 64) (eqb-true m n is) lt
  small_at m false more is lt rest any = rest any

  made_small : (ns : List ℕ) → AreConsecutive k ns → list_any (λ m. m == n) ns ≡ true → n < 2 ^ 64
  made_small [] h e = absurd cc
  made_small (m ∷ ns) h e = small_at m (m == n) (list_any (λ x. x == n) ns) refl h.1 (made_small ns h.2) e

  not_itself : is_handle k (handle k n) n ≡ false → ⊥
  not_itself other = let yes : bytes_eq (handle k n) (handle k n) ≡ true = (bytes_eq-Decides (handle k n) (handle k n)).1 refl in let bad : true ≡ false = sym yes ∙ other in cc

  later_at : (m : ℕ) (t more : Bool) (o : Option ℕ) → (m == n) ≡ t → is_handle k (handle k n) m ≡ false → (more ≡ true → o ≡ Some n) → (t || more) ≡ true → o ≡ Some n
  later_at m true more o is other rest any = absurd (not_itself (subst (λ x. is_handle k (handle k n) x ≡ false) (eqb-true m n is) other))
  later_at m false more o is other rest any = rest any

  found_at : (m : ℕ) (t more : Bool) (o : Option ℕ) → is_handle k (handle k n) m ≡ t → m < 2 ^ 64 → n < 2 ^ 64 → (more ≡ true → o ≡ Some n) → ((m == n) || more) ≡ true → cond t (Some m) o ≡ Some n
  found_at m true more o is small lt rest any = ap Some (same_handle k m n small lt ((bytes_eq-Decides (handle k m) (handle k n)).0 is))
  found_at m false more o is small lt rest any = later_at m (m == n) more o refl is rest any

  found_among : (ns : List ℕ) → n < 2 ^ 64 → AreConsecutive k ns → list_any (λ m. m == n) ns ≡ true → find (is_handle k (handle k n)) ns ≡ Some n
  found_among [] lt h e = absurd cc
  found_among (m ∷ ns) lt h e =
      found_at m (is_handle k (handle k n) m) (list_any (λ x. x == n) ns) (find (is_handle k (handle k n)) ns) refl h.1 lt (found_among ns lt h.2) e

-- a job that has a place has a number of 64 bits, and its handle names it
pub placed_small : (k : Settings) (notes : List Note) (n : ℕ) → History k notes → has_place (job_state n notes) ≡ true → n < 2 ^ 64
placed_small k notes n h placed = made_small k n (made notes) (numbers k notes h) (sym (places k notes h n) ∙ placed)

pub handle_names : (k : Settings) (notes : List Note) (n : ℕ) → History k notes → has_place (job_state n notes) ≡ true → job_of_handle k (handle k n) notes ≡ Some n
handle_names k notes n h placed =
    found_among k n (made notes) (placed_small k notes n h placed) (numbers k notes h) (sym (places k notes h n) ∙ placed)
