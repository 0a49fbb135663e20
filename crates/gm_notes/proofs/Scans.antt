-- The order in which abilities are tried, and those that are.
use Rattle.std.proofs.Common.{◌≡◌, ℕ, Bool, true, false, cond, ◌||◌, List, [], ◌∷◌, ◌++◌, Option, Some, None, refl, sym, ap, ◌∙◌}
use Rattle.std.specs.List.{list_any}
use Rattle.std.proofs.lemmas.List.Folds.{list_any-append}
use Rattle.gm_notes.specs.declared.note.Note.{Note}
use Rattle.gm_notes.specs.Settings.{Settings}
use Rattle.gm_notes.specs.Jobs.{Ability, is_of, abilities, last_function, behind, up_to, rotated, scan}

or_first : (a b : Bool) → (b || (a || false)) ≡ (a || b)
or_first true true = refl
or_first true false = refl
or_first false true = refl
or_first false false = refl

or_later : (a x y : Bool) → (x || (a || y)) ≡ (a || (x || y))
or_later true true y = refl
or_later true false y = refl
or_later false x y = refl

-- one ability more, which is the one for f, or isn't
one_more : (p : Ability → Bool) (f : List ℕ) (ability : Ability) (rest : List Ability) (t : Bool) → (list_any p (behind f rest) || list_any p (up_to f rest)) ≡ list_any p rest
    → (list_any p (cond t rest (behind f rest)) || list_any p (cond t (ability ∷ []) (ability ∷ up_to f rest))) ≡ (p ability || list_any p rest)
one_more p f ability rest true e = or_first (p ability) (list_any p rest)
one_more p f ability rest false e = or_later (p ability) (list_any p (behind f rest)) (list_any p (up_to f rest)) ∙ ap (λ b. p ability || b) e

parts_members : (p : Ability → Bool) (f : List ℕ) (all : List Ability) → (list_any p (behind f all) || list_any p (up_to f all)) ≡ list_any p all
parts_members p f [] = refl
parts_members p f (ability ∷ rest) = one_more p f ability rest (is_of f ability) (parts_members p f rest)

rotated_members : (p : Ability → Bool) (last : Option (List ℕ)) (all : List Ability) → list_any p (rotated last all) ≡ list_any p all
rotated_members p None all = refl
rotated_members p (Some f) all = list_any-append p (behind f all) (up_to f all) ∙ parts_members p f all

scanned : (p : Ability → Bool) (t : Bool) (last : Option (List ℕ)) (all : List Ability) → list_any p (cond t (rotated last all) all) ≡ list_any p all
scanned p true last all = rotated_members p last all
scanned p false last all = refl

-- a scan goes over the abilities, each of them and no other
pub scan_members : (k : Settings) (c : ℕ) (notes : List Note) (p : Ability → Bool) → list_any p (scan k c notes) ≡ list_any p (abilities c notes)
scan_members k c notes p = scanned p k.round_robin (last_function c notes) (abilities c notes)
