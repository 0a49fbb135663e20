-- What is written is read again.
use Rattle.std.proofs.Common.{◌≡◌, ◌≢◌, ℕ, zero, suc, ◌-◌, ◌<◌, ◌^◌, true, false, List, [], ◌∷◌, ◌++◌, length, take, Some, Result}
use Rattle.std.proofs.Common.{Ok, refl, sym, ap, ◌∙◌, arith, ltb, decimal}
use Rattle.std.specs.Prelude.{◌==◌}
use Rattle.std.specs.Char.{digit_value}
use Rattle.std.specs.List.{list_any, join_with_byte}
use Rattle.std.specs.Str.Parse.{AllDigits}
use Rattle.std.specs.Io.BufRead.{ends_with_byte, strip_last}
use Rattle.std.proofs.lemmas.Bool.{or_parts, or_from}
use Rattle.std.proofs.lemmas.Bool.Decides.{nat_tests}
use Rattle.std.proofs.lemmas.Fmt.{decimal_is_IsNumeral, length-decimal-le}
use Rattle.std.proofs.lemmas.List.{length-append}
use Rattle.std.proofs.lemmas.Str.Parse.{digit_from_value}
use Rattle.gm_packet.specs.declared.kind.Kind.{Kind}
use Rattle.gm_packet.specs.declared.request.Request.{Request}
use Rattle.gm_packet.specs.declared.request.Request.TheVariants.{CanDo, CantDo, ResetAbilities, PreSleep, SubmitJob, GrabJob, WorkStatus}
use Rattle.gm_packet.specs.declared.request.Request.TheVariants.{WorkComplete, WorkFail, GetStatus, EchoReq, SubmitJobBg, SubmitJobHigh}
use Rattle.gm_packet.specs.declared.request.Request.TheVariants.{SetClientId, CanDoTimeout, AllYours, WorkException, OptionReq, WorkData}
use Rattle.gm_packet.specs.declared.request.Request.TheVariants.{WorkWarning, GrabJobUniq, SubmitJobHighBg, SubmitJobLow, SubmitJobLowBg}
use Rattle.gm_packet.specs.Kinds.{Shape, Empty, Plain, Opaque, Timed, shape, number, kind_of}
use Rattle.gm_packet.specs.Laws.{last_of, IsReadable}
use Rattle.gm_packet.specs.Packets.{has_nul, LackNul}
use Rattle.gm_packet.specs.Requests.{Asked, Asks, Spells, seconds_of, request_of}
use Rattle.gm_packet.specs.Views.{asked_of}
use Rattle.gm_packet.specs.Packets.{Fits}
use Rattle.gm_packet.specs.Requests.{texts_by, request_texts}
use Rattle.gm_packet.proofs.Decimals.{decimal_written}
use Rattle.gm_packet.proofs.Requests.{kind_of_number, found}

-- ---- the NUL at the end

some_test : (n : ℕ) → ltb 0 (suc n) ≡ true
some_test n = grind (arith, nat_tests)

ends_later : (c : ℕ) (xs : List ℕ) → 0 < length xs → ends_with_byte 0 (c ∷ xs) ≡ ends_with_byte 0 xs
ends_later c [] some = absurd (omega arith)
ends_later c (d ∷ xs) some =
    let long : suc (suc (length xs)) - 1 ≡ suc (length xs) = omega arith in
    let short : suc (length xs) - 1 ≡ length xs = omega arith in
    rw (some_test (suc (length xs)), some_test (length xs), long, short) refl

ends_behind : (a b : List ℕ) → 0 < length b → ends_with_byte 0 (a ++ b) ≡ ends_with_byte 0 b
ends_behind [] b some = refl
ends_behind (c ∷ a) b some = ends_later c (a ++ b) (omega (arith, length-append a b)) ∙ ends_behind a b some

ends_lacking : (xs : List ℕ) → has_nul xs ≡ false → ends_with_byte 0 xs ≡ false
ends_lacking [] lacks = refl
ends_lacking (c ∷ []) lacks = (or_parts (c == 0) false lacks).0
ends_lacking (c ∷ d ∷ xs) lacks = ends_later c (d ∷ xs) (omega arith) ∙ ends_lacking (d ∷ xs) (or_parts (c == 0) (has_nul (d ∷ xs)) lacks).1

stays : (xs : List ℕ) → ends_with_byte 0 xs ≡ false → strip_last 0 xs ≡ xs
stays xs e = rw e refl

filled : (text : List ℕ) → text ≢ [] → 0 < length text
filled [] some = absurd (some refl)
filled (c ∷ text) some = omega arith

unfilled : (text : List ℕ) → 0 < length text → text ≢ []
unfilled [] some e = absurd (omega arith)
unfilled (c ∷ text) some e = cc

-- joined arguments, of which the last isn't empty
pub record Joined (bytes : List ℕ) : Type 0 where
  pub some : 0 < length bytes
  pub ends : ends_with_byte 0 bytes ≡ false

joined : (text : List ℕ) (texts : List (List ℕ)) → has_nul (last_of (text ∷ texts)) ≡ false → last_of (text ∷ texts) ≢ [] → Joined (join_with_byte 0 (text ∷ texts))
joined text [] lacks some = record { some = filled text some; ends = ends_lacking text lacks }
joined text (second ∷ texts) lacks some =
    let rest = joined second texts lacks some in
    record {
      some = omega (arith, length-append text (0 ∷ join_with_byte 0 (second ∷ texts)));
      ends = ends_behind text (0 ∷ join_with_byte 0 (second ∷ texts)) (omega arith) ∙ ends_later 0 (join_with_byte 0 (second ∷ texts)) rest.some ∙ rest.ends;
    }

-- ---- one shape after the other

all_lack : (n : ℕ) (texts : List (List ℕ)) → length texts ≡ suc n → LackNul n texts → has_nul (last_of texts) ≡ false → LackNul (suc n) texts
all_lack n [] len lacks last = absurd (omega arith)
all_lack zero (text ∷ []) len lacks last = or_from (has_nul text) false last refl
all_lack zero (text ∷ second ∷ texts) len lacks last = absurd (omega arith)
all_lack (suc n) (text ∷ []) len lacks last = absurd (omega arith)
all_lack (suc n) (text ∷ second ∷ texts) len lacks last =
    let p = or_parts (has_nul text) (list_any has_nul (take n (second ∷ texts))) lacks in
    or_from (has_nul text) (list_any has_nul (take (suc n) (second ∷ texts))) p.0 (all_lack n (second ∷ texts) (omega arith) p.1 last)

plain_stays : (n : ℕ) (texts : List (List ℕ)) → length texts ≡ suc n → IsReadable (Plain n) texts → strip_last 0 (join_with_byte 0 texts) ≡ join_with_byte 0 texts
plain_stays n [] len readable = absurd (omega arith)
plain_stays zero (text ∷ []) len readable = stays text (ends_lacking text readable)
plain_stays zero (text ∷ second ∷ texts) len readable = absurd (omega arith)
plain_stays (suc n) (text ∷ texts) len readable = stays _ (joined text texts readable.0 readable.1).ends

last_lacks : (n : ℕ) (texts : List (List ℕ)) → IsReadable (Plain n) texts → has_nul (last_of texts) ≡ false
last_lacks zero texts readable = readable
last_lacks (suc n) texts readable = readable.0

-- digits aren't NUL
digit_lacks : (c : ℕ) → digit_value c < 10 → (c == 0) ≡ false
digit_lacks c small = let range = digit_from_value c small in grind (arith, nat_tests)

digits_lack : (digits : List ℕ) → AllDigits 10 digits → has_nul digits ≡ false
digits_lack [] all = refl
digits_lack (c ∷ digits) all = or_from (c == 0) (has_nul digits) (digit_lacks c all.0) (digits_lack digits all.1)

-- a number of seconds in decimal is read as itself
seconds_written : (seconds : ℕ) → seconds < 2 ^ 32 → seconds_of (decimal seconds) ≡ Some seconds
seconds_written seconds small = decimal_written (2 ^ 32) 10 seconds small (omega arith) (length-decimal-le 10 seconds (omega arith) (omega arith) (omega arith))

-- what a request of a shape has: so many arguments, and a timeout in one shape alone
abbrev pub IsCounted : Shape → List (List ℕ) → ℕ → Type 0
IsCounted Empty arguments timeout = (arguments ≡ []) × (timeout ≡ 0)
IsCounted (Plain n) arguments timeout = (length arguments ≡ suc n) × (timeout ≡ 0)
IsCounted (Opaque n) arguments timeout = (length arguments ≡ suc n) × (timeout ≡ 0)
IsCounted Timed arguments timeout = length arguments ≡ 1

others_lack : (n : ℕ) (texts : List (List ℕ)) → length texts ≡ suc n → LackNul (length texts - 1) texts → LackNul n texts
others_lack n texts len lacks = let e : length texts - 1 ≡ n = omega arith in rw e at lacks

spelled : (s : Shape) (arguments : List (List ℕ)) (timeout : ℕ) → IsCounted s arguments timeout → timeout < 2 ^ 32 → LackNul (length (texts_by s arguments timeout) - 1) (texts_by s arguments timeout) → IsReadable s arguments → Spells s arguments timeout (join_with_byte 0 (texts_by s arguments timeout))
spelled Empty arguments timeout count small lacks readable = (count.0, count.1, ap (join_with_byte 0) count.0)
spelled (Plain n) arguments timeout count small lacks readable =
    (count.0, all_lack n arguments count.0 (others_lack n arguments count.0 lacks) (last_lacks n arguments readable), count.1, plain_stays n arguments count.0 readable)
spelled (Opaque n) arguments timeout count small lacks readable = (count.0, others_lack n arguments count.0 lacks, count.1, refl)
spelled Timed [] timeout count small lacks readable = absurd (omega arith)
spelled Timed (function ∷ []) timeout count small lacks readable =
    let numeral = (decimal_is_IsNumeral timeout (omega arith)).0 in
    let ends = (joined function (decimal timeout ∷ []) (digits_lack (decimal timeout) numeral.1) (unfilled (decimal timeout) numeral.0)).ends in
    (refl, others_lack 1 (function ∷ decimal timeout ∷ []) refl lacks, (decimal timeout, seconds_written timeout small, stays _ ends))
spelled Timed (function ∷ second ∷ texts) timeout count small lacks readable = absurd (omega arith)

counted : (r : Request) → IsCounted (shape (asked_of r).kind) (asked_of r).arguments (asked_of r).timeout
counted (CanDo function) = (refl, refl)
counted (CantDo function) = (refl, refl)
counted ResetAbilities = (refl, refl)
counted PreSleep = (refl, refl)
counted (SubmitJob function unique body) = (refl, refl)
counted GrabJob = (refl, refl)
counted (WorkStatus handle numerator denominator) = (refl, refl)
counted (WorkComplete handle body) = (refl, refl)
counted (WorkFail handle) = (refl, refl)
counted (GetStatus handle) = (refl, refl)
counted (EchoReq body) = (refl, refl)
counted (SubmitJobBg function unique body) = (refl, refl)
counted (SubmitJobHigh function unique body) = (refl, refl)
counted (SetClientId id) = (refl, refl)
counted (CanDoTimeout function timeout) = refl
counted AllYours = (refl, refl)
counted (WorkException handle body) = (refl, refl)
counted (OptionReq name) = (refl, refl)
counted (WorkData handle body) = (refl, refl)
counted (WorkWarning handle body) = (refl, refl)
counted GrabJobUniq = (refl, refl)
counted (SubmitJobHighBg function unique body) = (refl, refl)
counted (SubmitJobLow function unique body) = (refl, refl)
counted (SubmitJobLowBg function unique body) = (refl, refl)

read_back : (a : Asked) → IsCounted (shape a.kind) a.arguments a.timeout → a.timeout < 2 ^ 32 → Fits (request_texts a) → IsReadable (shape a.kind) a.arguments → request_of (number a.kind) (join_with_byte 0 (request_texts a)) ≡ Ok a
read_back a count small fits readable =
    found (number a.kind) (join_with_byte 0 (request_texts a)) a (refl, spelled (shape a.kind) a.arguments a.timeout count small fits.separable readable)

pub written_requests_read_back : (r : Request) → (asked_of r).timeout < 2 ^ 32 → Fits (request_texts (asked_of r)) → IsReadable (shape (asked_of r).kind) (asked_of r).arguments → request_of (number (asked_of r).kind) (join_with_byte 0 (request_texts (asked_of r))) ≡ Ok (asked_of r)
written_requests_read_back r small fits readable = read_back (asked_of r) (counted r) small fits readable

-- ---- one reading, and one kind for each number

same_ok : {E : Type 0} (a b : Asked) (r : Result Asked E) → r ≡ Ok a → r ≡ Ok b → a ≡ b
same_ok a b r first second = cc

pub one_reading : (kind : ℕ) (bytes : List ℕ) (a b : Asked) → Asks kind bytes a → Asks kind bytes b → a ≡ b
one_reading kind bytes a b first second = same_ok a b (request_of kind bytes) (found kind bytes a first) (found kind bytes b second)

pub kinds_are_numbered_apart : (j k : Kind) → number j ≡ number k → j ≡ k
kinds_are_numbered_apart j k e = let h = sym (kind_of_number j) ∙ ap kind_of e ∙ kind_of_number k in cc
