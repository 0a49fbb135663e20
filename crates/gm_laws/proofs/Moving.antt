-- Jobs that a note moves, and lists of exceptions.
use Rattle.std.proofs.Common.{◌≡◌, ◌⊎◌, inl, inr, ℕ, zero, suc, ◌+◌, ◌<◌, ◌≤◌, Bool, true, false, cond, ◌&&◌, ◌||◌, List, []}
use Rattle.std.proofs.Common.{◌∷◌, reverse, Some, None, refl, sym, ap, ◌∙◌, arith}
use Rattle.std.specs.Prelude.{◌==◌, unwrap_or}
use Rattle.std.specs.List.{list_any}
use Rattle.std.proofs.lemmas.List.{reverse-append}
use Rattle.std.proofs.lemmas.List.Folds.{list_any-append}
use Rattle.std.proofs.lemmas.Bool.Decides.{nat_tests}
use Rattle.gm_notes.specs.declared.note.Note.{Note}
use Rattle.gm_notes.specs.declared.note.Note.TheVariants.{Woken}
use Rattle.gm_notes.specs.Settings.{Settings}
use Rattle.gm_notes.specs.Notes.{is_open, phase, is_asleep, slots_from}
use Rattle.gm_notes.specs.Jobs.{job_state, is_able, made}
use Rattle.gm_notes.specs.JobStates.{JobState}
use Rattle.gm_notes.specs.Past.{Past, with_note, wake_one, wake_each}
use Rattle.gm_notes.specs.Closings.{rising}
use Rattle.gm_notes.specs.Steps.{Step, Close}
use Rattle.gm_history.specs.History.{History}
use Rattle.gm_history.specs.Causes.{is_close}
use Rattle.gm_laws.proofs.JobLaws.{has_place, places}
use Rattle.gm_history.proofs.Keeping.{kept_if}
use Rattle.std.proofs.lemmas.Bool.{eqb-true}

-- a job that a note moves to new: it is at new, or where it was
pub moved : (n m : ℕ) (new old target : JobState) (t : Bool) → (n == m) ≡ t → unwrap_or (cond t (Some new) None) old ≡ target → ((n ≡ m) × (new ≡ target)) ⊎ (((n == m) ≡ false) × (old ≡ target))
moved n m new old target true is e = inl (eqb-true n m is, e)
moved n m new old target false is e = inr (is, e)

pub from : {A B C : Type 0} → A ⊎ B → (A → C) → (B → C) → C
from (inl a) p q = p a
from (inr b) p q = q b

pub not_both : (n m : ℕ) → n ≡ m → (n == m) ≡ false → ⊥
not_both n m same other = let is : (n == m) ≡ true = grind (arith, nat_tests) in let bad : ⊥ = cc in bad

-- ---- members of a list

abbrev pub In : ℕ → List ℕ → Type 0
In n [] = ⊥
In n (m ∷ ms) = (n ≡ m) ⊎ In n ms

in_any_at : (n m : ℕ) (ms : List ℕ) (t : Bool) → (m == n) ≡ t → (list_any (λ x. x == n) ms ≡ true → In n ms) → (t || list_any (λ x. x == n) ms) ≡ true → In n (m ∷ ms)
in_any_at n m ms true is rest e = inl (sym (eqb-true m n is))
in_any_at n m ms false is rest e = inr (rest e)

in_any : (n : ℕ) (ms : List ℕ) → list_any (λ x. x == n) ms ≡ true → In n ms
in_any n [] e = absurd cc
in_any n (m ∷ ms) e = in_any_at n m ms (m == n) refl (in_any n ms) e

swapped : (a b : Bool) → (a || (b || false)) ≡ (b || a)
swapped true true = refl
swapped true false = refl
swapped false true = refl
swapped false false = refl

any_reverse : (test : ℕ → Bool) (ms : List ℕ) → list_any test (reverse ms) ≡ list_any test ms
any_reverse test [] = refl
any_reverse test (m ∷ ms) =
    ap (list_any test) (reverse-append (m ∷ []) ms)
    ∙ (list_any-append test (reverse ms) (m ∷ []) ∙ (swapped (list_any test (reverse ms)) (test m) ∙ ap (λ t. test m || t) (any_reverse test ms)))

-- a job that has a place was made
pub placed_rises : (k : Settings) (past : Past) (n : ℕ) → History k past.notes → has_place (job_state n past.notes) ≡ true → In n (rising past)
placed_rises k past n h placed =
    in_any n (rising past) (any_reverse (λ m. m == n) (made past.notes) ∙ (sym (places k past.notes h n) ∙ placed))

slot_at : (c d : ℕ) (t : Bool) (rest : List ℕ) → (c == d) ≡ t → (t ≡ false → In c rest) → In c (d ∷ rest)
slot_at c d true rest is more = inl (eqb-true c d is)
slot_at c d false rest is more = inr (more refl)

-- a slot from d on is one of these
pub slot_in : (c d n : ℕ) → d ≤ c → c < d + n → In c (slots_from d n)
slot_in c d zero low high = absurd (omega arith)
slot_in c d (suc n) low high =
    slot_at c d (c == d) (slots_from (suc d) n) refl (λ other. let apart : d < c = grind (arith, nat_tests) in slot_in c (suc d) n (omega arith) (omega arith))

-- ---- what wakings keep

pub wake_each_notes : (P : List Note → Type 0) → ((c : ℕ) (older : List Note) → P older → P (Woken c ∷ older)) → (f : List ℕ) (slots : List ℕ) (past : Past) → P past.notes → P (wake_each f slots past).notes
wake_each_notes P more f [] past p = p
wake_each_notes P more f (c ∷ slots) past p =
    wake_each_notes P more f slots (wake_one f c past)
    (kept_if P (is_open c past.notes && is_asleep (phase c past.notes) && is_able c f past.notes) (with_note (Woken c) past) past (more c past.notes p) p)

-- ---- steps apart

pub both_not : (t : Bool) → t ≡ true → t ≡ false → ⊥
both_not t p q = let bad : true ≡ false = sym p ∙ q in let worse : ⊥ = cc in worse

pub closes_not : (s : Step) (c : ℕ) → is_close s ≡ false → s ≡ Close c → ⊥
closes_not s c other e = both_not (is_close s) (ap is_close e) other
