-- The data of requests are read as what they spell, and as nothing else.
use Rattle.std.proofs.Common.{◌≡◌, ◌⊎◌, inl, inr, ℕ, suc, ◌-◌, ◌<◌, ◌^◌, Bool, true, false, cond, ◌||◌, ◌&&◌, List, [], ◌∷◌, ◌++◌, length, take, map, Option, Some, None, Ok, Err}
use Rattle.std.proofs.Common.{slice_index, refl, sym, ap, ap₂, subst, ◌∙◌, arith, length-append, append_assoc, ltb}
use Rattle.std.specs.Prelude.{◌==◌, nat_lt, nat_le, find}
use Rattle.std.specs.Char.{is_ascii_digit}
use Rattle.std.specs.List.{list_any, list_all}
use Rattle.std.specs.Option.{ok_or}
use Rattle.std.specs.Str.Parse.{digits_value}
use Rattle.std.specs.Io.BufRead.{ends_with_byte, strip_last}
use Rattle.std.proofs.Math.Seq.{get_or-append_seam, take-append_seam}
use Rattle.std.proofs.lemmas.Bool.{eq-eqb, eqb-true, and_parts, or_parts, or_from, lt-ltb, le-leb, ltb-true}
use Rattle.std.proofs.lemmas.Bool.Decides.{nat_tests}
use Rattle.std.proofs.lemmas.Option.{same_Some}
use Rattle.gm_packet.specs.declared.kind.Kind.{Kind}
use Rattle.gm_packet.specs.declared.kind.Kind.TheVariants.{CanDo, CantDo, ResetAbilities, PreSleep, SubmitJob, GrabJob, WorkStatus, WorkComplete}
use Rattle.gm_packet.specs.declared.kind.Kind.TheVariants.{WorkFail, GetStatus, EchoReq, SubmitJobBg, SubmitJobHigh, SetClientId, CanDoTimeout}
use Rattle.gm_packet.specs.declared.kind.Kind.TheVariants.{AllYours, WorkException, OptionReq, WorkData, WorkWarning, GrabJobUniq}
use Rattle.gm_packet.specs.declared.kind.Kind.TheVariants.{SubmitJobHighBg, SubmitJobLow, SubmitJobLowBg}
use Rattle.gm_packet.specs.declared.request.RequestFault.TheVariants.{BadArguments}
use Rattle.gm_packet.specs.Decimals.{is_decimal, decimal_below}
use Rattle.gm_packet.specs.Kinds.{Empty, Plain, Opaque, Timed, shape, number, all_kinds, kind_of}
use Rattle.gm_packet.specs.Packets.{has_nul, LackNul}
use Rattle.gm_packet.specs.Requests.{Asked, Spells, read_as, read_kind, request_of}
use Rattle.gm_packet.proofs.Requests.{asks, found, kind_of_number}
use Rattle.gm_laws.specs.Written.{LacksNul, MayEnd, IsNone, IsOne, IsReport, IsBody, IsResult, IsJob, IsNumber, IsTimed, IsWritten, RequestsAreRead}

-- ---- the last byte

some_test : (n : ℕ) → ltb 0 (suc n) ≡ true
some_test n = grind (arith, nat_tests)

ends_later : (byte c : ℕ) (xs : List ℕ) → 0 < length xs → ends_with_byte byte (c ∷ xs) ≡ ends_with_byte byte xs
ends_later byte c [] some = absurd (omega arith)
ends_later byte c (d ∷ xs) some =
    let long : suc (suc (length xs)) - 1 ≡ suc (length xs) = omega arith in
    let short : suc (length xs) - 1 ≡ length xs = omega arith in
    rw (some_test (suc (length xs)), some_test (length xs), long, short) refl

ends_behind : (byte : ℕ) (a b : List ℕ) → 0 < length b → ends_with_byte byte (a ++ b) ≡ ends_with_byte byte b
ends_behind byte [] b some = refl
ends_behind byte (c ∷ a) b some = ends_later byte c (a ++ b) (omega (arith, length-append a b)) ∙ ends_behind byte a b some

pub ends_lacking : (byte : ℕ) (xs : List ℕ) → list_any (λ b. b == byte) xs ≡ false → ends_with_byte byte xs ≡ false
ends_lacking byte [] lacks = refl
ends_lacking byte (c ∷ []) lacks = (or_parts (c == byte) false lacks).0
ends_lacking byte (c ∷ d ∷ xs) lacks =
    ends_later byte c (d ∷ xs) (omega arith) ∙ ends_lacking byte (d ∷ xs) (or_parts (c == byte) (list_any (λ b. b == byte) (d ∷ xs)) lacks).1

pub stays : (byte : ℕ) (xs : List ℕ) → ends_with_byte byte xs ≡ false → strip_last byte xs ≡ xs
stays byte xs e = rw e refl

pub goes : (byte : ℕ) (xs : List ℕ) → strip_last byte (xs ++ byte ∷ []) ≡ xs
goes byte xs =
    let all = xs ++ byte ∷ [] in
    let last : length all - 1 ≡ length xs = omega (arith, length-append xs (byte ∷ [])) in
    let some : nat_lt 0 (length all) ≡ true = let long = length-append xs (byte ∷ []) in grind (arith, nat_tests) in
    let is : slice_index all (length all - 1) ≡ byte = ap (slice_index all) last ∙ get_or-append_seam xs byte [] 0 in
    let ends : ends_with_byte byte all ≡ true = ap₂ (λ (a b : Bool). a && b) some (eq-eqb (slice_index all (length all - 1)) byte is) in
    rw ends (ap (λ (n : ℕ). take n all) last ∙ take-append_seam xs (byte ∷ []))

-- what ends with a byte is some bytes before it, and it
last_is : (byte : ℕ) (xs : List ℕ) → ends_with_byte byte xs ≡ true → (front : List ℕ) × (xs ≡ front ++ byte ∷ [])
last_is byte [] e = absurd cc
last_is byte (c ∷ []) e = ([], ap (λ x. x ∷ []) (eqb-true c byte e))
last_is byte (c ∷ d ∷ xs) e =
    let rest = last_is byte (d ∷ xs) (sym (ends_later byte c (d ∷ xs) (omega arith)) ∙ e) in
    (c ∷ rest.0, ap (λ (l : List ℕ). c ∷ l) rest.1)

may_end : (text bytes : List ℕ) → strip_last 0 bytes ≡ text → MayEnd text bytes
may_end text bytes e = by (ends_with_byte 0 bytes) refl
  where
    by : (t : Bool) → ends_with_byte 0 bytes ≡ t → MayEnd text bytes
    by true ends =
        let front = last_is 0 bytes ends in
        let same : front.0 ≡ text = sym (goes 0 front.0) ∙ (ap (strip_last 0) (sym front.1) ∙ e) in
        inr (front.1 ∙ ap (λ (l : List ℕ). l ++ 0 ∷ []) same)
    by false ends = inl (sym (stays 0 bytes ends) ∙ e)

ended : (text bytes : List ℕ) → ends_with_byte 0 text ≡ false → MayEnd text bytes → strip_last 0 bytes ≡ text
ended text bytes ends (inl e) = ap (strip_last 0) e ∙ stays 0 text ends
ended text bytes ends (inr e) = ap (strip_last 0) e ∙ goes 0 text

-- behind another argument, one that isn't empty ends the data
ends_argument : (first last : List ℕ) → LacksNul last → 0 < length last → ends_with_byte 0 (first ++ 0 ∷ last) ≡ false
ends_argument first last lacks some = ends_behind 0 first (0 ∷ last) (omega arith) ∙ (ends_later 0 0 last some ∙ ends_lacking 0 last lacks)

filled : (text : List ℕ) → (text ≡ [] → ⊥) → 0 < length text
filled [] some = absurd (some refl)
filled (c ∷ text) some = omega arith

-- ---- arguments

one_lacks : (text : List ℕ) → LacksNul text → LackNul 1 (text ∷ [])
one_lacks text lacks = or_from (has_nul text) false lacks refl

two_lack : (a b : List ℕ) (texts : List (List ℕ)) → LacksNul a → LacksNul b → LackNul 2 (a ∷ b ∷ texts)
two_lack a b texts lacks also = or_from (has_nul a) (has_nul b || false) lacks (or_from (has_nul b) false also refl)

three_lack : (a b c : List ℕ) → LacksNul a → LacksNul b → LacksNul c → LackNul 3 (a ∷ b ∷ c ∷ [])
three_lack a b c lacks also too = or_from (has_nul a) (has_nul b || (has_nul c || false)) lacks (two_lack b c [] also too)

-- ---- shape by shape: as it is written, so it is spelled

none_spells : (bytes : List ℕ) (arguments : List (List ℕ)) (timeout : ℕ) → IsNone bytes arguments × (timeout ≡ 0) → Spells Empty arguments timeout bytes
none_spells bytes arguments timeout e = (e.0.1, e.1, e.0.0)

spells_none : (bytes : List ℕ) (arguments : List (List ℕ)) (timeout : ℕ) → Spells Empty arguments timeout bytes → IsNone bytes arguments × (timeout ≡ 0)
spells_none bytes arguments timeout s = ((s.2, s.0), s.1)

one_spells : (bytes : List ℕ) (arguments : List (List ℕ)) (timeout : ℕ) → IsOne bytes arguments × (timeout ≡ 0) → Spells (Plain 0) arguments timeout bytes
one_spells bytes arguments timeout ((text, lacks, is, ends), none) =
    subst (λ a. Spells (Plain 0) a timeout bytes) (sym is) (refl, one_lacks text lacks, none, ended text bytes (ends_lacking 0 text lacks) ends)

spells_one : (bytes : List ℕ) (arguments : List (List ℕ)) (timeout : ℕ) → Spells (Plain 0) arguments timeout bytes → IsOne bytes arguments × (timeout ≡ 0)
spells_one bytes [] timeout s = absurd (let len = s.0 in omega arith)
spells_one bytes (text ∷ []) timeout s = ((text, (or_parts (has_nul text) false s.1).0, refl, may_end text bytes s.3), s.2)
spells_one bytes (text ∷ other ∷ more) timeout s = absurd (let len = s.0 in omega arith)

body_spells : (bytes : List ℕ) (arguments : List (List ℕ)) (timeout : ℕ) → IsBody bytes arguments × (timeout ≡ 0) → Spells (Opaque 0) arguments timeout bytes
body_spells bytes arguments timeout e = subst (λ a. Spells (Opaque 0) a timeout bytes) (sym e.0) (refl, refl, e.1, refl)

spells_body : (bytes : List ℕ) (arguments : List (List ℕ)) (timeout : ℕ) → Spells (Opaque 0) arguments timeout bytes → IsBody bytes arguments × (timeout ≡ 0)
spells_body bytes [] timeout s = absurd (let len = s.0 in omega arith)
spells_body bytes (body ∷ []) timeout s = (ap (λ (b : List ℕ). b ∷ []) (sym s.3), s.2)
spells_body bytes (body ∷ other ∷ more) timeout s = absurd (let len = s.0 in omega arith)

result_spells : (bytes : List ℕ) (arguments : List (List ℕ)) (timeout : ℕ) → IsResult bytes arguments × (timeout ≡ 0) → Spells (Opaque 1) arguments timeout bytes
result_spells bytes arguments timeout ((handle, body, lacks, is, joined), none) =
    subst (λ a. Spells (Opaque 1) a timeout bytes) (sym is) (refl, or_from (has_nul handle) false lacks refl, none, joined)

spells_result : (bytes : List ℕ) (arguments : List (List ℕ)) (timeout : ℕ) → Spells (Opaque 1) arguments timeout bytes → IsResult bytes arguments × (timeout ≡ 0)
spells_result bytes [] timeout s = absurd (let len = s.0 in omega arith)
spells_result bytes (handle ∷ []) timeout s = absurd (let len = s.0 in omega arith)
spells_result bytes (handle ∷ body ∷ []) timeout s = ((handle, body, (or_parts (has_nul handle) false s.1).0, refl, s.3), s.2)
spells_result bytes (handle ∷ body ∷ other ∷ more) timeout s = absurd (let len = s.0 in omega arith)

job_spells : (bytes : List ℕ) (arguments : List (List ℕ)) (timeout : ℕ) → IsJob bytes arguments × (timeout ≡ 0) → Spells (Opaque 2) arguments timeout bytes
job_spells bytes arguments timeout ((function, unique, body, lacks, also, is, joined), none) =
    subst (λ a. Spells (Opaque 2) a timeout bytes) (sym is) (refl, two_lack function unique (body ∷ []) lacks also, none, joined)

spells_job : (bytes : List ℕ) (arguments : List (List ℕ)) (timeout : ℕ) → Spells (Opaque 2) arguments timeout bytes → IsJob bytes arguments × (timeout ≡ 0)
spells_job bytes [] timeout s = absurd (let len = s.0 in omega arith)
spells_job bytes (function ∷ []) timeout s = absurd (let len = s.0 in omega arith)
spells_job bytes (function ∷ unique ∷ []) timeout s = absurd (let len = s.0 in omega arith)
spells_job bytes (function ∷ unique ∷ body ∷ []) timeout s =
    let first = or_parts (has_nul function) (has_nul unique || false) s.1 in
    ((function, unique, body, first.0, (or_parts (has_nul unique) false first.1).0, refl, s.3), s.2)
spells_job bytes (function ∷ unique ∷ body ∷ other ∷ more) timeout s = absurd (let len = s.0 in omega arith)

report_spells : (bytes : List ℕ) (arguments : List (List ℕ)) (timeout : ℕ) → IsReport bytes arguments × (timeout ≡ 0) → Spells (Plain 2) arguments timeout bytes
report_spells bytes arguments timeout ((handle, numerator, denominator, lacks, also, too, is, ends), none) =
    subst (λ a. Spells (Plain 2) a timeout bytes) (sym is) (refl, three_lack handle numerator denominator lacks also too, none, stripped ends)
  where
    joined : List ℕ
    joined = handle ++ 0 ∷ (numerator ++ 0 ∷ denominator)

    whole : joined ++ 0 ∷ [] ≡ handle ++ 0 ∷ (numerator ++ 0 ∷ (denominator ++ 0 ∷ []))
    whole =
        append_assoc handle (0 ∷ (numerator ++ 0 ∷ denominator)) (0 ∷ [])
        ∙ ap (λ (l : List ℕ). handle ++ 0 ∷ l) (append_assoc numerator (0 ∷ denominator) (0 ∷ []))

    no_nul : 0 < length denominator → ends_with_byte 0 joined ≡ false
    no_nul some =
        ends_behind 0 handle (0 ∷ (numerator ++ 0 ∷ denominator)) (omega arith)
        ∙ (ends_later 0 0 (numerator ++ 0 ∷ denominator) (omega (arith, length-append numerator (0 ∷ denominator))) ∙ ends_argument numerator denominator too some)

    stripped : ((bytes ≡ joined) × (denominator ≡ [] → ⊥)) ⊎ (bytes ≡ handle ++ 0 ∷ (numerator ++ 0 ∷ (denominator ++ 0 ∷ []))) → strip_last 0 bytes ≡ joined
    stripped (inl e) = ended joined bytes (no_nul (filled denominator e.1)) (inl e.0)
    stripped (inr e) = ap (strip_last 0) (e ∙ sym whole) ∙ goes 0 joined

spells_report : (bytes : List ℕ) (arguments : List (List ℕ)) (timeout : ℕ) → Spells (Plain 2) arguments timeout bytes → IsReport bytes arguments × (timeout ≡ 0)
spells_report bytes [] timeout s = absurd (let len = s.0 in omega arith)
spells_report bytes (handle ∷ []) timeout s = absurd (let len = s.0 in omega arith)
spells_report bytes (handle ∷ numerator ∷ []) timeout s = absurd (let len = s.0 in omega arith)
spells_report bytes (handle ∷ numerator ∷ denominator ∷ []) timeout s =
    let first = or_parts (has_nul handle) (has_nul numerator || (has_nul denominator || false)) s.1 in
    let second = or_parts (has_nul numerator) (has_nul denominator || false) first.1 in
    ((handle, numerator, denominator, first.0, second.0, (or_parts (has_nul denominator) false second.1).0, refl, by (may_end joined bytes s.3)), s.2)
  where
    joined : List ℕ
    joined = handle ++ 0 ∷ (numerator ++ 0 ∷ denominator)

    -- with an empty denominator the last NUL would have been taken off
    not_empty : bytes ≡ joined → denominator ≡ [] → ⊥
    not_empty is none =
        let front = handle ++ 0 ∷ numerator in
        let ends : joined ≡ front ++ 0 ∷ [] = ap (λ (d : List ℕ). handle ++ 0 ∷ (numerator ++ 0 ∷ d)) none ∙ sym (append_assoc handle (0 ∷ numerator) (0 ∷ [])) in
        let less : joined ≡ front = sym s.3 ∙ (ap (strip_last 0) (is ∙ ends) ∙ goes 0 front) in
        let same = ap length (sym less ∙ ends) in
        omega (arith, same, length-append front (0 ∷ []))

    by : MayEnd joined bytes
        → ((bytes ≡ handle ++ 0 ∷ (numerator ++ 0 ∷ denominator)) × (denominator ≡ [] → ⊥)) ⊎ (bytes ≡ handle ++ 0 ∷ (numerator ++ 0 ∷ (denominator ++ 0 ∷ [])))
    by (inl e) = inl (e, not_empty e)
    by (inr e) =
        inr (e ∙ (append_assoc handle (0 ∷ (numerator ++ 0 ∷ denominator)) (0 ∷ [])
        ∙ ap (λ (l : List ℕ). handle ++ 0 ∷ l) (append_assoc numerator (0 ∷ denominator) (0 ∷ []))))
spells_report bytes (handle ∷ numerator ∷ denominator ∷ other ∷ more) timeout s = absurd (let len = s.0 in omega arith)

-- ---- numbers

digit_lacks : (c : ℕ) → is_ascii_digit c ≡ true → (c == 0) ≡ false
digit_lacks c digital = grind (arith, nat_tests)

digits_lack : (digits : List ℕ) → list_all is_ascii_digit digits ≡ true → LacksNul digits
digits_lack [] all = refl
digits_lack (c ∷ digits) all =
    let parts = and_parts (is_ascii_digit c) (list_all is_ascii_digit digits) all in
    or_from (c == 0) (has_nul digits) (digit_lacks c parts.0) (digits_lack digits parts.1)

pub number_read : (digits : List ℕ) (n : ℕ) → IsNumber digits n → decimal_below (2 ^ 32) 10 digits ≡ Some n
number_read digits n is = rw (lt-ltb _ _ is.some, le-leb _ _ is.few, is.digital, is.value, lt-ltb _ _ is.small) refl

pub number_written : (digits : List ℕ) (n : ℕ) → decimal_below (2 ^ 32) 10 digits ≡ Some n → IsNumber digits n
number_written digits n e = by (is_decimal 10 digits) (nat_lt (digits_value 10 digits) (2 ^ 32)) refl refl e
  where
    by : (t u : Bool) → is_decimal 10 digits ≡ t → nat_lt (digits_value 10 digits) (2 ^ 32) ≡ u → cond t (cond u (Some (digits_value 10 digits)) None) None ≡ Some n → IsNumber digits n
    by true true decimal small e =
        let all = and_parts (nat_lt 0 (length digits) && nat_le (length digits) 10) (list_all is_ascii_digit digits) decimal in
        let lengths = and_parts (nat_lt 0 (length digits)) (nat_le (length digits) 10) all.0 in
        let value = same_Some (digits_value 10 digits) n e in
        record {
          some = let some = lengths.0 in grind (arith, nat_tests);
          few = let few = lengths.1 in grind (arith, nat_tests);
          digital = all.1;
          value = value;
          small = subst (λ x. x < 2 ^ 32) value (ltb-true _ _ small);
        }
    by true false decimal small e = absurd cc
    by false u decimal small e = absurd cc

timed_spells : (bytes : List ℕ) (arguments : List (List ℕ)) (seconds : ℕ) → IsTimed bytes arguments seconds → Spells Timed arguments seconds bytes
timed_spells bytes arguments seconds (function, digits, lacks, is, number_is, ends) =
    subst (λ a. Spells Timed a seconds bytes) (sym is)
    (refl, one_lacks function lacks, (digits, number_read digits seconds number_is, ended (function ++ 0 ∷ digits) bytes (ends_argument function digits (digits_lack digits number_is.digital) number_is.some) ends))

spells_timed : (bytes : List ℕ) (arguments : List (List ℕ)) (seconds : ℕ) → Spells Timed arguments seconds bytes → IsTimed bytes arguments seconds
spells_timed bytes [] seconds s = absurd (let len = s.0 in omega arith)
spells_timed bytes (function ∷ []) seconds s =
    (function, s.2.0, (or_parts (has_nul function) false s.1).0, refl, number_written s.2.0 seconds s.2.1, may_end (function ++ 0 ∷ s.2.0) bytes s.2.2)
spells_timed bytes (function ∷ other ∷ more) seconds s = absurd (let len = s.0 in omega arith)

-- ---- request by request

spells : (kind : Kind) (n : ℕ) (bytes : List ℕ) (arguments : List (List ℕ)) (timeout : ℕ) → IsWritten kind n bytes arguments timeout → (n ≡ number kind) × Spells (shape kind) arguments timeout bytes
spells CanDo n bytes arguments timeout e = (e.0, one_spells bytes arguments timeout (e.1, e.2))
spells CantDo n bytes arguments timeout e = (e.0, one_spells bytes arguments timeout (e.1, e.2))
spells ResetAbilities n bytes arguments timeout e = (e.0, none_spells bytes arguments timeout (e.1, e.2))
spells PreSleep n bytes arguments timeout e = (e.0, none_spells bytes arguments timeout (e.1, e.2))
spells SubmitJob n bytes arguments timeout e = (e.0, job_spells bytes arguments timeout (e.1, e.2))
spells GrabJob n bytes arguments timeout e = (e.0, none_spells bytes arguments timeout (e.1, e.2))
spells WorkStatus n bytes arguments timeout e = (e.0, report_spells bytes arguments timeout (e.1, e.2))
spells WorkComplete n bytes arguments timeout e = (e.0, result_spells bytes arguments timeout (e.1, e.2))
spells WorkFail n bytes arguments timeout e = (e.0, one_spells bytes arguments timeout (e.1, e.2))
spells GetStatus n bytes arguments timeout e = (e.0, one_spells bytes arguments timeout (e.1, e.2))
spells EchoReq n bytes arguments timeout e = (e.0, body_spells bytes arguments timeout (e.1, e.2))
spells SubmitJobBg n bytes arguments timeout e = (e.0, job_spells bytes arguments timeout (e.1, e.2))
spells SubmitJobHigh n bytes arguments timeout e = (e.0, job_spells bytes arguments timeout (e.1, e.2))
spells SetClientId n bytes arguments timeout e = (e.0, one_spells bytes arguments timeout (e.1, e.2))
spells CanDoTimeout n bytes arguments timeout e = (e.0, timed_spells bytes arguments timeout e.1)
spells AllYours n bytes arguments timeout e = (e.0, none_spells bytes arguments timeout (e.1, e.2))
spells WorkException n bytes arguments timeout e = (e.0, result_spells bytes arguments timeout (e.1, e.2))
spells OptionReq n bytes arguments timeout e = (e.0, one_spells bytes arguments timeout (e.1, e.2))
spells WorkData n bytes arguments timeout e = (e.0, result_spells bytes arguments timeout (e.1, e.2))
spells WorkWarning n bytes arguments timeout e = (e.0, result_spells bytes arguments timeout (e.1, e.2))
spells GrabJobUniq n bytes arguments timeout e = (e.0, none_spells bytes arguments timeout (e.1, e.2))
spells SubmitJobHighBg n bytes arguments timeout e = (e.0, job_spells bytes arguments timeout (e.1, e.2))
spells SubmitJobLow n bytes arguments timeout e = (e.0, job_spells bytes arguments timeout (e.1, e.2))
spells SubmitJobLowBg n bytes arguments timeout e = (e.0, job_spells bytes arguments timeout (e.1, e.2))

spelled : (kind : Kind) (n : ℕ) (bytes : List ℕ) (arguments : List (List ℕ)) (timeout : ℕ) → n ≡ number kind → Spells (shape kind) arguments timeout bytes → IsWritten kind n bytes arguments timeout
spelled CanDo n bytes arguments timeout is s = let e = spells_one bytes arguments timeout s in (is, e.0, e.1)
spelled CantDo n bytes arguments timeout is s = let e = spells_one bytes arguments timeout s in (is, e.0, e.1)
spelled ResetAbilities n bytes arguments timeout is s = let e = spells_none bytes arguments timeout s in (is, e.0, e.1)
spelled PreSleep n bytes arguments timeout is s = let e = spells_none bytes arguments timeout s in (is, e.0, e.1)
spelled SubmitJob n bytes arguments timeout is s = let e = spells_job bytes arguments timeout s in (is, e.0, e.1)
spelled GrabJob n bytes arguments timeout is s = let e = spells_none bytes arguments timeout s in (is, e.0, e.1)
spelled WorkStatus n bytes arguments timeout is s = let e = spells_report bytes arguments timeout s in (is, e.0, e.1)
spelled WorkComplete n bytes arguments timeout is s = let e = spells_result bytes arguments timeout s in (is, e.0, e.1)
spelled WorkFail n bytes arguments timeout is s = let e = spells_one bytes arguments timeout s in (is, e.0, e.1)
spelled GetStatus n bytes arguments timeout is s = let e = spells_one bytes arguments timeout s in (is, e.0, e.1)
spelled EchoReq n bytes arguments timeout is s = let e = spells_body bytes arguments timeout s in (is, e.0, e.1)
spelled SubmitJobBg n bytes arguments timeout is s = let e = spells_job bytes arguments timeout s in (is, e.0, e.1)
spelled SubmitJobHigh n bytes arguments timeout is s = let e = spells_job bytes arguments timeout s in (is, e.0, e.1)
spelled SetClientId n bytes arguments timeout is s = let e = spells_one bytes arguments timeout s in (is, e.0, e.1)
spelled CanDoTimeout n bytes arguments timeout is s = (is, spells_timed bytes arguments timeout s)
spelled AllYours n bytes arguments timeout is s = let e = spells_none bytes arguments timeout s in (is, e.0, e.1)
spelled WorkException n bytes arguments timeout is s = let e = spells_result bytes arguments timeout s in (is, e.0, e.1)
spelled OptionReq n bytes arguments timeout is s = let e = spells_one bytes arguments timeout s in (is, e.0, e.1)
spelled WorkData n bytes arguments timeout is s = let e = spells_result bytes arguments timeout s in (is, e.0, e.1)
spelled WorkWarning n bytes arguments timeout is s = let e = spells_result bytes arguments timeout s in (is, e.0, e.1)
spelled GrabJobUniq n bytes arguments timeout is s = let e = spells_none bytes arguments timeout s in (is, e.0, e.1)
spelled SubmitJobHighBg n bytes arguments timeout is s = let e = spells_job bytes arguments timeout s in (is, e.0, e.1)
spelled SubmitJobLow n bytes arguments timeout is s = let e = spells_job bytes arguments timeout s in (is, e.0, e.1)
spelled SubmitJobLowBg n bytes arguments timeout is s = let e = spells_job bytes arguments timeout s in (is, e.0, e.1)

-- ---- other types and other data

none_found : (n : ℕ) (kinds : List Kind) → list_any (λ m. m == n) (map number kinds) ≡ false → find (λ k. number k == n) kinds ≡ None
none_found n [] e = refl
none_found n (kind ∷ kinds) e =
    let parts = or_parts (number kind == n) (list_any (λ m. m == n) (map number kinds)) e in rw parts.0 (none_found n kinds parts.1)

some_found : (n : ℕ) (kinds : List Kind) → list_any (λ m. m == n) (map number kinds) ≡ true → find (λ k. number k == n) kinds ≡ None → ⊥
some_found n [] e none = absurd cc
some_found n (kind ∷ kinds) e none = by (number kind == n) (some_found n kinds) e none
  where
    by : (t : Bool) → (list_any (λ m. m == n) (map number kinds) ≡ true → find (λ k. number k == n) kinds ≡ None → ⊥) → (t || list_any (λ m. m == n) (map number kinds)) ≡ true
        → cond t (Some kind) (find (λ k. number k == n) kinds) ≡ None → ⊥
    by true more e none = let bad : ⊥ = cc in bad
    by false more e none = more e none

bad_data : (n : ℕ) (bytes : List ℕ) (o : Option Kind) → kind_of n ≡ o → (o ≡ None → ⊥) → ((asked : Asked) → request_of n bytes ≡ Ok asked → ⊥) → read_kind o bytes ≡ Err BadArguments
bad_data n bytes None is some other = absurd (some refl)
bad_data n bytes (Some kind) is some other = by (read_as kind bytes) refl
  where
    by : (o : Option Asked) → read_as kind bytes ≡ o → ok_or o BadArguments ≡ Err BadArguments
    by None e = refl
    by (Some asked) e = absurd (other asked (ap (λ k. read_kind k bytes) is ∙ ap (λ r. ok_or r BadArguments) e))

pub requests_read : RequestsAreRead
requests_read = record {
  read = λ n bytes asked e. found n bytes asked (spells asked.kind n bytes asked.arguments asked.timeout e);
  written = λ n bytes asked e. let s = asks n bytes asked e in spelled asked.kind n bytes asked.arguments asked.timeout s.0 s.1;
  typed = λ n bytes asked e. ap kind_of (asks n bytes asked e).0 ∙ kind_of_number asked.kind;
  numbered = kind_of_number;
  untyped = λ n e. none_found n all_kinds e;
  unknown = λ n bytes e. ap (λ o. read_kind o bytes) (none_found n all_kinds e);
  bad = λ n bytes e other.
      bad_data n bytes (kind_of n) refl (some_found n all_kinds e)
      (λ asked is. let s = asks n bytes asked is in other asked (spelled asked.kind n bytes asked.arguments asked.timeout s.0 s.1));
}
