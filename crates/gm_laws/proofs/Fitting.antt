-- Settings have no fault exactly where they fit.
use Rattle.std.proofs.Common.{◌≡◌, ℕ, ◌<◌, Bool, true, false, cond, not, ◌&&◌, List, length, Option, Some, None, refl, arith}
use Rattle.std.specs.Prelude.{◌==◌, nat_le}
use Rattle.std.specs.List.{list_all}
use Rattle.std.proofs.lemmas.Bool.{both_ways, and_parts, and_from}
use Rattle.std.proofs.lemmas.Bool.Decides.{nat_tests}
use Rattle.gm_notes.specs.declared.config.ConfigError.{ConfigError}
use Rattle.gm_notes.specs.declared.config.ConfigError.TheVariants.{BadName, BadNumber, BadSlots, BadFunctions}
use Rattle.gm_notes.specs.Settings.{Settings, is_name, is_name_byte, is_within}
use Rattle.gm_laws.specs.Fitting.{IsFitName, IsFrom1To, IsFit, SettingsAreChecked}

not_zero : (n : ℕ) → not (n == 0) ≡ true → 0 < n
not_zero n e = grind (arith, nat_tests)

zero_not : (n : ℕ) → 0 < n → not (n == 0) ≡ true
zero_not n e = grind (arith, nat_tests)

named : (name : List ℕ) → is_name name ≡ true → IsFitName name
named name e =
    let all = and_parts (not (length name == 0) && nat_le (length name) 40) (list_all is_name_byte name) e in
    let lengths = and_parts (not (length name == 0)) (nat_le (length name) 40) all.0 in
    record { some = not_zero (length name) lengths.0; few = let few = lengths.1 in grind (arith, nat_tests); plain = all.1 }

name_so : (name : List ℕ) → IsFitName name → is_name name ≡ true
name_so name is =
    and_from (not (length name == 0) && nat_le (length name) 40) (list_all is_name_byte name)
    (and_from (not (length name == 0)) (nat_le (length name) 40) (zero_not (length name) is.some) (let few = is.few in grind (arith, nat_tests))) is.plain

within : (most n : ℕ) → is_within most n ≡ true → IsFrom1To most n
within most n e = let parts = and_parts (not (n == 0)) (nat_le n most) e in (not_zero n parts.0, let few = parts.1 in grind (arith, nat_tests))

within_so : (most n : ℕ) → IsFrom1To most n → is_within most n ≡ true
within_so most n e = and_from (not (n == 0)) (nat_le n most) (zero_not n e.0) (let few = e.1 in grind (arith, nat_tests))

-- what the tests of the settings come to
abbrev by_tests : Bool → Bool → Bool → Bool → Option ConfigError
by_tests name zero slots functions =
    cond (not name) (Some BadName) (cond zero (Some BadNumber) (cond (not slots) (Some BadSlots) (cond (not functions) (Some BadFunctions) None)))

abbrev Tests : Settings → Bool → Bool → Bool → Bool → Type 0
Tests k name zero slots functions =
    (is_name k.name ≡ name) × ((k.first_job == 0) ≡ zero) × (is_within 1024 k.slots ≡ slots) × (is_within 65536 k.max_functions ≡ functions)

module _ (k : Settings) where
  fit_by : (a b c d : Bool) → Tests k a b c d → by_tests a b c d ≡ None → IsFit k
  fit_by false b c d is e = absurd cc
  fit_by true true c d is e = absurd cc
  fit_by true false false d is e = absurd cc
  fit_by true false true false is e = absurd cc
  fit_by true false true true is e = record {
    name = named k.name is.0;
    first_job = let other = is.1 in grind (arith, nat_tests);
    slots = within 1024 k.slots is.2;
    functions = within 65536 k.max_functions is.3;
  }

  none_by : (a b c d : Bool) → Tests k a b c d → IsFit k → by_tests a b c d ≡ None
  none_by false b c d is fit = absurd (both_ways (is_name k.name) is.0 (name_so k.name fit.name))
  none_by true true c d is fit = absurd (let zero = is.1 in let some = fit.first_job in let bad : true ≡ false = grind (arith, nat_tests) in cc)
  none_by true false false d is fit = absurd (both_ways (is_within 1024 k.slots) is.2 (within_so 1024 k.slots fit.slots))
  none_by true false true false is fit = absurd (both_ways (is_within 65536 k.max_functions) is.3 (within_so 65536 k.max_functions fit.functions))
  none_by true false true true is fit = refl

  name_by : (a b c d : Bool) → Tests k a b c d → by_tests a b c d ≡ Some BadName → IsFitName k.name → ⊥
  name_by false b c d is e fit = both_ways (is_name k.name) is.0 (name_so k.name fit)
  name_by true true c d is e fit = let bad : ⊥ = cc in bad
  name_by true false false d is e fit = let bad : ⊥ = cc in bad
  name_by true false true false is e fit = let bad : ⊥ = cc in bad
  name_by true false true true is e fit = let bad : ⊥ = cc in bad

  number_by : (a b c d : Bool) → Tests k a b c d → by_tests a b c d ≡ Some BadNumber → k.first_job ≡ 0
  number_by false b c d is e = absurd cc
  number_by true true c d is e = let zero = is.1 in grind (arith, nat_tests)
  number_by true false false d is e = absurd cc
  number_by true false true false is e = absurd cc
  number_by true false true true is e = absurd cc

  slots_by : (a b c d : Bool) → Tests k a b c d → by_tests a b c d ≡ Some BadSlots → IsFrom1To 1024 k.slots → ⊥
  slots_by false b c d is e fit = let bad : ⊥ = cc in bad
  slots_by true true c d is e fit = let bad : ⊥ = cc in bad
  slots_by true false false d is e fit = both_ways (is_within 1024 k.slots) is.2 (within_so 1024 k.slots fit)
  slots_by true false true false is e fit = let bad : ⊥ = cc in bad
  slots_by true false true true is e fit = let bad : ⊥ = cc in bad

  functions_by : (a b c d : Bool) → Tests k a b c d → by_tests a b c d ≡ Some BadFunctions → IsFrom1To 65536 k.max_functions → ⊥
  functions_by false b c d is e fit = let bad : ⊥ = cc in bad
  functions_by true true c d is e fit = let bad : ⊥ = cc in bad
  functions_by true false false d is e fit = let bad : ⊥ = cc in bad
  functions_by true false true false is e fit = both_ways (is_within 65536 k.max_functions) is.3 (within_so 65536 k.max_functions fit)
  functions_by true false true true is e fit = let bad : ⊥ = cc in bad

  all_tests : Tests k (is_name k.name) (k.first_job == 0) (is_within 1024 k.slots) (is_within 65536 k.max_functions)
  all_tests = (refl, refl, refl, refl)

pub checked : SettingsAreChecked
checked = record {
  fit = λ k e. fit_by k _ _ _ _ (all_tests k) e;
  none = λ k fit. none_by k _ _ _ _ (all_tests k) fit;
  bad_name = λ k e fit. name_by k _ _ _ _ (all_tests k) e fit;
  bad_number = λ k e. number_by k _ _ _ _ (all_tests k) e;
  bad_slots = λ k e fit. slots_by k _ _ _ _ (all_tests k) e fit;
  bad_functions = λ k e fit. functions_by k _ _ _ _ (all_tests k) e fit;
}
