-- A script that was read through a limit.
use Rattle.std.proofs.Common.{◌≡◌, ◌<◌, ◌≤◌, ℕ, arith, List, [], ◌++◌, length, take, Option, Some, None, subst, ◌∙◌, length-take}
use Rattle.std.specs.Prelude.{IfSome}
use Rattle.std.specs.Option.{option_map}
use Rattle.std.proofs.lemmas.List.{take_all}

-- fewer bytes than the limit are all
take_short : (limit : ℕ) (bytes : List ℕ) → length (take limit bytes) < limit → take limit bytes ≡ bytes
take_short limit bytes short = let le : length bytes ≤ limit = omega (arith, short, length-take limit bytes) in take_all limit bytes le

pub all_read : (limit : ℕ) (bytes : Option (List ℕ)) (script : List ℕ) → IfSome (option_map (take limit) bytes) (λ (all : List ℕ). script ≡ all) → length script < limit → IfSome bytes (λ (all : List ℕ). script ≡ all)
all_read limit None script e short = tt
all_read limit (Some bytes) script e short = e ∙ take_short limit bytes (subst (λ (l : List ℕ). length l < limit) e short)

-- what was read into an empty buffer, through a limit
pub read_from : (limit same : ℕ) (inner bytes : Option (List ℕ)) (old new : List ℕ) → limit ≡ same → inner ≡ bytes → old ≡ [] → IfSome (option_map (take limit) inner) (λ (all : List ℕ). new ≡ old ++ all)
    → IfSome (option_map (take same) bytes) (λ (all : List ℕ). new ≡ all)
read_from limit same inner bytes old new l b o h =
    subst (λ (n : ℕ). IfSome (option_map (take n) bytes) (λ (all : List ℕ). new ≡ all)) l
    (subst (λ (m : Option (List ℕ)). IfSome (option_map (take limit) m) (λ (all : List ℕ). new ≡ all)) b
    (subst (λ (x : List ℕ). IfSome (option_map (take limit) inner) (λ (all : List ℕ). new ≡ x ++ all)) o h))
