-- The jobs made, and the functions mentioned.
use Rattle.std.proofs.Common.{◌≡◌, ℕ, zero, suc, ◌+◌, ◌<◌, Bool, true, false, List, [], ◌∷◌, Some, None, refl, ap, ◌∙◌, arith}
use Rattle.std.specs.Prelude.{slice_get, ◌||◌, if◌then◌else◌, unwrap_or}
use Rattle.std.specs.Str.{bytes_eq}
use Rattle.std.proofs.lemmas.List.Folds.{list_any-append}
use Rattle.gm_notes.specs.declared.note.Note.{Note}
use Rattle.gm_notes.specs.declared.note.Note.TheVariants.{Mention}
use Rattle.gm_notes.specs.Notes.{last_said}
use Rattle.gm_notes.specs.Jobs.{functions, is_mentioned}
use Rattle.gm_plain.specs.Searches.{says_mentioned}
use Rattle.gm_plain.specs.Logs.{numbers_from}

-- the numbers one after another
pub number_at : (n count i : ℕ) → i < count → slice_get (numbers_from n count) i ≡ Some (n + i)
number_at n zero i lt = absurd (omega (arith, lt))
number_at n (suc count) zero lt = let same : n ≡ n + 0 = omega arith in ap Some same
number_at n (suc count) (suc i) lt =
    let same : suc n + i ≡ n + suc i = omega arith in
    number_at (suc n) count i (omega (arith, lt)) ∙ ap Some same

-- ---- functions

mentioned_at : (t rest : Bool) → (rest || (t || false)) ≡ unwrap_or (if t then Some true else None) rest
mentioned_at true true = refl
mentioned_at true false = refl
mentioned_at false true = refl
mentioned_at false false = refl

-- whether a function was mentioned is what the notes say last of it
pub mentioned_said : (f : List ℕ) (notes : List Note) → is_mentioned f notes ≡ last_said (says_mentioned f) false notes
mentioned_said f [] = refl
mentioned_said f (Mention g ∷ older) =
    list_any-append (λ h. bytes_eq h f) (functions older) (g ∷ [])
    ∙ (mentioned_at (bytes_eq g f) (is_mentioned f older) ∙ ap (unwrap_or (says_mentioned f (Mention g))) (mentioned_said f older))
mentioned_said f (note ∷ older) = mentioned_said f older
