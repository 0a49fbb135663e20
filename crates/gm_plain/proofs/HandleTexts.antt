-- The job that a handle names.
use Rattle.std.proofs.Common.{◌≡◌, ℕ, Bool, true, false, List, [], ◌∷◌, find, Some, None, refl, ap, arith}
use Rattle.std.specs.Prelude.{◌==◌, ◌||◌, if◌then◌else◌}
use Rattle.std.proofs.lemmas.Bool.Decides.{nat_tests}
use Rattle.std.specs.List.{list_any}
use Rattle.gm_notes.specs.declared.note.Note.{Note}
use Rattle.gm_notes.specs.declared.note.Note.TheVariants.{Made}
use Rattle.gm_notes.specs.Jobs.{made}
use Rattle.gm_actions.proofs.HandleTexts.{AllSmall}
use Rattle.gm_plain.specs.Logs.{AllFit}

pub all_small : (slots : ℕ) (notes : List Note) → AllFit slots notes → AllSmall (made notes)
all_small slots [] fit = tt
all_small slots (Made n f p u body ∷ older) fit = (fit.0.1, all_small slots older fit.1)
all_small slots (note ∷ older) fit = all_small slots older fit.1

-- the job made that has a number is the number itself
pub the_number : (n : ℕ) (jobs : List ℕ) → find (λ m. m == n) jobs ≡ (if list_any (λ m. m == n) jobs then Some n else None)
the_number n [] = refl
the_number n (m ∷ jobs) = by (m == n) refl (the_number n jobs)
  where
    by : (t : Bool) → (m == n) ≡ t → find (λ x. x == n) jobs ≡ (if list_any (λ x. x == n) jobs then Some n else None)
        → (if t then Some m else find (λ x. x == n) jobs) ≡ (if t || list_any (λ x. x == n) jobs then Some n else None)
    by true e rest = let same : m ≡ n = grind (arith, nat_tests) in ap Some same
    by false e rest = rest
