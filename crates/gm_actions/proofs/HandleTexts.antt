-- Handles read back.
use Rattle.std.proofs.Common.{◌≡◌, ℕ, ◌<◌, ◌^◌, Bool, true, false, List, [], ◌∷◌, ◌++◌, Option, Some, None, Result, Ok, Err}
use Rattle.std.proofs.Common.{refl, sym, ap, subst, ◌∙◌, arith, append_assoc, decimal, find, codes}
use Rattle.std.specs.Borrow.{Bor}
use Rattle.std.specs.Prelude.{MatchOption, ◌==◌, ◌||◌, if◌then◌else◌}
use Rattle.std.specs.List.{list_any}
use Rattle.std.specs.Str.{bytes_eq, IsUtf8}
use Rattle.std.specs.Str.Parse.{ParsesUnsigned}
use Rattle.std.proofs.lemmas.Fmt.{parse-decimal, IsAscii-decimal}
use Rattle.std.proofs.lemmas.Str.{IsUtf8-from_ascii}
use Rattle.std.proofs.lemmas.Slice.Eq.{bytes_eq-Decides}
use Rattle.std.proofs.lemmas.List.{append_cancel_left}
use Rattle.std.proofs.lemmas.Bool.Decides.{nat_tests}
use Rattle.gm_notes.specs.Settings.{Settings}
use Rattle.gm_notes.specs.Jobs.{handle, is_handle}
use Rattle.std.proofs.lemmas.Fmt.{decimal_injective}

-- what is no text is no number
pub not_utf8 : (bytes : List ℕ) → (IsUtf8 bytes → ⊥) → (n : ℕ) → n < 2 ^ 64 → bytes ≡ decimal n → ⊥
not_utf8 bytes wrong n lt e = wrong (subst IsUtf8 (sym e) (IsUtf8-from_ascii (decimal n) (IsAscii-decimal n lt)))

-- the number that was read is the one that was written
pub read_back : {E : Type 0} (bytes text : List ℕ) (m n : ℕ) (r : Result ℕ E) → n < 2 ^ 64 → bytes ≡ decimal n → text ≡ bytes → ParsesUnsigned 64 10 text r → r ≡ Ok n
read_back bytes text m n r lt e same parses = parse-decimal 64 n text r lt lt (same ∙ e) parses

pub not_read : {E : Type 0} (bytes text : List ℕ) (e : E) (n : ℕ) → n < 2 ^ 64 → bytes ≡ decimal n → text ≡ bytes → ParsesUnsigned 64 10 text (let r : Result ℕ E = Err e in r) → ⊥
not_read {E} bytes text e n lt is same parses =
    let wrong : (let r : Result ℕ E = Err e in r) ≡ Ok n = parse-decimal 64 n text (Err e) lt lt (same ∙ is) parses in absurd cc

-- ---- the job that a handle names

abbrev pub AllSmall : List ℕ → Type 0
AllSmall [] = Unit {0}
AllSmall (n ∷ jobs) = (n < 2 ^ 64) × AllSmall jobs

other_bytes : (a b : List ℕ) → (a ≡ b → ⊥) → bytes_eq a b ≡ false
other_bytes a b differ = by (bytes_eq a b) refl
  where
    by : (t : Bool) → bytes_eq a b ≡ t → bytes_eq a b ≡ false
    by true e = absurd (differ ((bytes_eq-Decides a b).0 e))
    by false e = e

pub none_found : (k : Settings) (text : List ℕ) (jobs : List ℕ) → AllSmall jobs → ((n : ℕ) → n < 2 ^ 64 → text ≡ handle k n → ⊥) → find (is_handle k text) jobs ≡ None
none_found k text [] small none = refl
none_found k text (n ∷ jobs) small none =
    let other : is_handle k text n ≡ false = other_bytes (handle k n) text (λ e. none n small.0 (sym e)) in
    rw other (none_found k text jobs small.1 none)

same_handle : (k : Settings) (m n : ℕ) → m < 2 ^ 64 → n < 2 ^ 64 → handle k m ≡ handle k n → m ≡ n
same_handle k m n small lt e = decimal_injective m n small lt (append_cancel_left (codes "H:" ++ k.name ++ codes ":") (decimal m) (decimal n) e)

pub one_found : (k : Settings) (text : List ℕ) (n : ℕ) (jobs : List ℕ) → AllSmall jobs → n < 2 ^ 64 → text ≡ handle k n
    → find (is_handle k text) jobs ≡ (if list_any (λ m. m == n) jobs then Some n else None)
one_found k text n [] small lt is = refl
one_found k text n (m ∷ jobs) small lt is = by (m == n) refl (one_found k text n jobs small.1 lt is)
  where
    by : (t : Bool) → (m == n) ≡ t → find (is_handle k text) jobs ≡ (if list_any (λ x. x == n) jobs then Some n else None)
        → (if is_handle k text m then Some m else find (is_handle k text) jobs) ≡ (if (m == n) || list_any (λ x. x == n) jobs then Some n else None)
    by true e rest =
        let same : m ≡ n = grind (arith, nat_tests) in
        let here : is_handle k text m ≡ true = (bytes_eq-Decides (handle k m) text).1 (ap (handle k) same ∙ sym is) in
        rw (here, e) (ap Some same)
    by false e rest =
        let differ : m ≡ n → ⊥ = λ same. grind (arith, nat_tests) in
        let other : is_handle k text m ≡ false = other_bytes (handle k m) text (λ f. differ (same_handle k m n small.0 lt (f ∙ is))) in
        rw (other, e) rest

-- ---- the digits of a handle

pub digits_last : (k : Settings) (text named rest : List ℕ) (found : Option (Bor (List ℕ))) → text ≡ 72 ∷ 58 ∷ named → named ≡ k.name ++ rest
    → MatchOption found ((r : List ℕ) → rest ≡ 58 ∷ r → ⊥) (λ r. rest ≡ 58 ∷ r.now)
    → MatchOption found ((n : ℕ) → text ≡ handle k n → ⊥) (λ r. text ≡ (codes "H:" ++ k.name ++ codes ":") ++ r.now)
digits_last k text named rest None begins name last = λ n e.
    let whole : (72 ∷ 58 ∷ []) ++ named ≡ (72 ∷ 58 ∷ []) ++ (k.name ++ (58 ∷ decimal n)) = sym begins ∙ (e ∙ ap (λ (l : List ℕ). 72 ∷ 58 ∷ l) (append_assoc k.name (58 ∷ []) (decimal n))) in
    let tail : named ≡ k.name ++ (58 ∷ decimal n) = append_cancel_left (72 ∷ 58 ∷ []) named (k.name ++ (58 ∷ decimal n)) whole in
    last (decimal n) (append_cancel_left k.name rest (58 ∷ decimal n) (sym name ∙ tail))
digits_last k text named rest (Some r) begins name last =
    begins ∙ ap (λ (l : List ℕ). 72 ∷ 58 ∷ l) (name ∙ (ap (λ (l : List ℕ). k.name ++ l) last ∙ sym (append_assoc k.name (58 ∷ []) r.now)))

-- a number read from the digits of a handle
pub number_handle : (k : Settings) (text digits : List ℕ) (o : Option ℕ) → text ≡ (codes "H:" ++ k.name ++ codes ":") ++ digits
    → MatchOption o ((n : ℕ) → n < 2 ^ 64 → digits ≡ decimal n → ⊥) (λ n. digits ≡ decimal n)
    → MatchOption o ((n : ℕ) → n < 2 ^ 64 → text ≡ handle k n → ⊥) (λ n. text ≡ handle k n)
number_handle k text digits None is read = λ n lt e. read n lt (append_cancel_left (codes "H:" ++ k.name ++ codes ":") digits (decimal n) (sym is ∙ e))
number_handle k text digits (Some n) is read = is ∙ ap (λ (d : List ℕ). (codes "H:" ++ k.name ++ codes ":") ++ d) read
