-- Names and handles hold no NUL and are short.
use Rattle.std.proofs.Common.{◌≡◌, ℕ, zero, suc, ◌+◌, ◌<◌, ◌≤◌, ◌^◌, Bool, true, false, cond, List, [], ◌∷◌, ◌++◌, length, map}
use Rattle.std.proofs.Common.{Option, Some, None, refl, ap, ap₂, subst, ◌∙◌, arith, length-append, decimal}
use Rattle.std.specs.Prelude.{not, ◌&&◌, ◌||◌, ◌==◌, nat_le}
use Rattle.std.specs.List.{list_all}
use Rattle.std.proofs.lemmas.Bool.{and_parts}
use Rattle.std.proofs.lemmas.Bool.Decides.{nat_tests}
use Rattle.std.proofs.lemmas.Fmt.{decimal_digit, decimal-digits_of}
use Rattle.std.proofs.lemmas.List.Folds.{list_any-append}
use Rattle.std.specs.Int.Digits.{digits_of}
use Rattle.gm_packet.specs.Packets.{has_nul}
use Rattle.gm_notes.specs.declared.config.ConfigError.{ConfigError}
use Rattle.gm_notes.specs.declared.config.ConfigError.TheVariants.{BadName}
use Rattle.gm_notes.specs.Settings.{Settings, config_fault, is_name, is_name_byte}

first_test : (t : Bool) (rest : Option ConfigError) → cond (not t) (Some BadName) rest ≡ None → t ≡ true
first_test true rest e = refl
first_test false rest e = absurd cc

-- settings that nothing is wrong with have a name
named : (k : Settings) → config_fault k ≡ None → is_name k.name ≡ true
named k e = first_test (is_name k.name) _ e

plain_at : (b : ℕ) (t : Bool) → (b == 0) ≡ t → is_name_byte b ≡ true → t ≡ false
plain_at b true is e =
    let zero_byte : b ≡ 0 = grind (arith, nat_tests) in
    absurd (let wrong : is_name_byte 0 ≡ true = subst (λ x. is_name_byte x ≡ true) zero_byte e in cc)
plain_at b false is e = refl

bytes_plain : (name : List ℕ) → list_all is_name_byte name ≡ true → has_nul name ≡ false
bytes_plain [] e = refl
bytes_plain (b ∷ name) e =
    let p = and_parts (is_name_byte b) (list_all is_name_byte name) e in
    ap₂ (λ x y. x || y) (plain_at b (b == 0) refl p.0) (bytes_plain name p.1)

pub name_plain : (k : Settings) → config_fault k ≡ None → has_nul k.name ≡ false
name_plain k e = bytes_plain k.name (and_parts (not (length k.name == 0) && nat_le (length k.name) 40) (list_all is_name_byte k.name) (named k e)).1

pub name_short : (k : Settings) → config_fault k ≡ None → length k.name ≤ 40
name_short k e =
    let front = (and_parts (not (length k.name == 0) && nat_le (length k.name) 40) (list_all is_name_byte k.name) (named k e)).0 in
    let short : nat_le (length k.name) 40 ≡ true = (and_parts (not (length k.name == 0)) (nat_le (length k.name) 40) front).1 in
    grind (arith, nat_tests)

-- ---- digits

digits_plain : (ds : List ℕ) → has_nul (map (λ d. 48 + d) ds) ≡ false
digits_plain [] = refl
digits_plain (d ∷ ds) =
    let other : (48 + d == 0) ≡ false = grind (arith, nat_tests) in
    ap₂ (λ x y. x || y) other (digits_plain ds)

pub decimal_plain : (n : ℕ) → n < 2 ^ 64 → has_nul (decimal n) ≡ false
decimal_plain zero lt = ap has_nul (decimal_digit 0 (omega arith))
decimal_plain (suc n) lt = ap has_nul (decimal-digits_of (suc n) (omega arith) lt) ∙ digits_plain (digits_of 10 (suc n))

-- four parts without NUL, one after the other, have none
pub joined_plain : (a b c d all : List ℕ) → has_nul a ≡ false → has_nul b ≡ false → has_nul c ≡ false → has_nul d ≡ false
    → all ≡ ((a ++ b) ++ c) ++ d → has_nul all ≡ false
joined_plain a b c d all ha hb hc hd is =
    ap has_nul is
    ∙ (list_any-append (λ x. x == 0) ((a ++ b) ++ c) d
    ∙ ap₂ (λ x y. x || y)
    (list_any-append (λ x. x == 0) (a ++ b) c ∙ ap₂ (λ x y. x || y) (list_any-append (λ x. x == 0) a b ∙ ap₂ (λ x y. x || y) ha hb) hc)
    hd)

pub joined_short : (a b c d all : List ℕ) → length a ≤ 2 → length b ≤ 40 → length c ≤ 1 → length d ≤ 20 → all ≡ ((a ++ b) ++ c) ++ d → length all ≤ 64
joined_short a b c d all ha hb hc hd is =
    omega (arith, ap length is, length-append ((a ++ b) ++ c) d, length-append (a ++ b) c, length-append a b)
