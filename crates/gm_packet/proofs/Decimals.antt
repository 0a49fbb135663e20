-- Decimal numbers, as std reads them.
use Rattle.std.proofs.Common.{◌≡◌, ℕ, ◌<◌, ◌≤◌, ◌^◌, Bool, ◌&&◌, true, false, cond, ltb, List, [], ◌∷◌, length}
use Rattle.std.proofs.Common.{decimal, Some, None, Result, Ok, Err, refl, sym, ap, subst, ◌∙◌, arith, rules}
use Rattle.std.specs.Prelude.{MatchResult}
use Rattle.std.specs.Result.{OkIff, result_ok}
use Rattle.std.specs.Char.{is_ascii_digit, digit_value}
use Rattle.std.specs.List.{list_all}
use Rattle.std.specs.Str.{IsUtf8}
use Rattle.std.specs.Str.Parse.{AllDigits, ParsesUnsigned, digits_value}
use Rattle.std.proofs.lemmas.Bool.{and_parts, ltb-true, lt-ltb, le-leb}
use Rattle.std.proofs.lemmas.Bool.Decides.{nat_tests}
use Rattle.std.proofs.lemmas.Fmt.{IsAscii-from_digits, decimal_is_IsNumeral}
use Rattle.std.proofs.lemmas.Option.{same_Some}
use Rattle.std.proofs.lemmas.Str.{IsUtf8-from_ascii}
use Rattle.std.proofs.lemmas.Str.Parse.{IsNumeralModel, numerals_by_value, parse_digits, digit_from_value}
use Rattle.gm_packet.specs.Decimals.{decimal_below}

digit : (c : ℕ) → is_ascii_digit c ≡ true → digit_value c < 10
digit c e = grind arith

pub AllDigits-from_test : (digits : List ℕ) → list_all is_ascii_digit digits ≡ true → AllDigits 10 digits
AllDigits-from_test [] e = tt
AllDigits-from_test (c ∷ cs) e = let h = and_parts (is_ascii_digit c) (list_all is_ascii_digit cs) e in (digit c h.0, AllDigits-from_test cs h.1)

digit_test : (c : ℕ) → digit_value c < 10 → is_ascii_digit c ≡ true
digit_test c small = let range = digit_from_value c small in grind (arith, nat_tests)

test-from_AllDigits : (digits : List ℕ) → AllDigits 10 digits → list_all is_ascii_digit digits ≡ true
test-from_AllDigits [] all = refl
test-from_AllDigits (c ∷ cs) all = rw (digit_test c all.0, test-from_AllDigits cs all.1) refl

-- a number in decimal is read as itself
pub decimal_written : (limit most n : ℕ) → n < limit → n < 2 ^ 64 → length (decimal n) ≤ most → decimal_below limit most (decimal n) ≡ Some n
decimal_written limit most n below fits short =
    let d = decimal_is_IsNumeral n fits in
    rw (lt-ltb _ _ d.0.0, le-leb _ _ short, test-from_AllDigits (decimal n) d.0.1, d.1, lt-ltb _ _ below) refl

-- digits are text
pub digits_are_text : {T E : Type 0} (digits : List ℕ) (P : T → Type 0) (Q : E → Type 0) (r : Result T E)
    → list_all is_ascii_digit digits ≡ true → MatchResult r P (λ e. (IsUtf8 digits → ⊥) × Q e) → result_ok r ≡ None → ⊥
digits_are_text digits P Q (Ok text) test read none = cc
digits_are_text digits P Q (Err e) test read none = read.0 (IsUtf8-from_ascii digits (IsAscii-from_digits digits (AllDigits-from_test digits test)))

-- what holds of the text that was read
pub text_read : {T E : Type 0} (P : T → Type 0) (Q : E → Type 0) (r : Result T E) (text : T) → MatchResult r P Q → Some text ≡ result_ok r → P text
text_read P Q (Ok other) text read e = subst P (same_Some other text (sym e)) read
text_read P Q (Err fault) text read e = absurd cc

-- the digits as std's `parse` has them
own : IsNumeralModel (λ digits. list_all is_ascii_digit digits ≡ true) (digits_value 10)
own = numerals_by_value (λ digits. list_all is_ascii_digit digits ≡ true) (search rules)

-- what the tests of a text of few digits come to
tested : (most : ℕ) (digits : List ℕ) (t u : Bool) → ltb 0 (length digits) ≡ t → length digits ≤ most → list_all is_ascii_digit digits ≡ true
    → ltb (digits_value 10 digits) (2 ^ 64) ≡ u → decimal_below (2 ^ 64) most digits ≡ cond (t && u) (Some (digits_value 10 digits)) None
tested most digits true true some short test fits = rw (some, le-leb _ _ short, test, fits) refl
tested most digits true false some short test fits = rw (some, le-leb _ _ short, test, fits) refl
tested most digits false u some short test fits = rw some refl

refused : (most : ℕ) (digits : List ℕ) (t u : Bool) → ltb 0 (length digits) ≡ t → length digits ≤ most → list_all is_ascii_digit digits ≡ true
    → ltb (digits_value 10 digits) (2 ^ 64) ≡ u → ((0 < length digits) × (digits_value 10 digits < 2 ^ 64) → ⊥) → decimal_below (2 ^ 64) most digits ≡ None
refused most digits true true some short test fits none = absurd (none (ltb-true _ _ some, ltb-true _ _ fits))
refused most digits true false some short test fits none = tested most digits true false some short test fits
refused most digits false u some short test fits none = tested most digits false u some short test fits

parsed : {E : Type 0} (most : ℕ) (digits : List ℕ) (r : Result ℕ E) → length digits ≤ most → list_all is_ascii_digit digits ≡ true
    → OkIff r ((0 < length digits) × (digits_value 10 digits < 2 ^ 64)) (digits_value 10 digits) → result_ok r ≡ decimal_below (2 ^ 64) most digits
parsed most digits (Ok n) short test h = ap Some h.1 ∙ sym (tested most digits true true (lt-ltb _ _ h.0.0) short test (lt-ltb _ _ h.0.1))
parsed most digits (Err e) short test h = sym (refused most digits (ltb 0 (length digits)) (ltb (digits_value 10 digits) (2 ^ 64)) refl short test refl h)

-- what std's `parse` makes of a text of few digits
pub decimal_parsed : {E : Type 0} (most : ℕ) (digits text : List ℕ) (r : Result ℕ E) → length digits ≤ most → list_all is_ascii_digit digits ≡ true
    → text ≡ digits → ParsesUnsigned 64 10 text r → result_ok r ≡ decimal_below (2 ^ 64) most digits
decimal_parsed most digits text r short test is h = parsed most digits r short test (parse_digits own 64 digits r (rw is at h) test)
