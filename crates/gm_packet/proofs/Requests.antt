-- What reading a request answers, in the words of the relation.
use Rattle.std.proofs.Common.{◌≡◌, ℕ, Bool, true, false, cond, List, [], ◌∷◌, Option, Some, None, Ok}
use Rattle.std.proofs.Common.{refl, sym, ap, subst, ◌∙◌, arith}
use Rattle.std.specs.Prelude.{◌==◌, find}
use Rattle.std.specs.List.{join_with_byte}
use Rattle.std.specs.Option.{option_map, option_and_then, ok_or}
use Rattle.std.specs.Io.BufRead.{strip_last}
use Rattle.std.proofs.lemmas.Bool.{or_parts, or_from}
use Rattle.std.proofs.lemmas.Bool.Decides.{nat_tests}
use Rattle.std.proofs.lemmas.Option.{some_pair_parts, same_Some}
use Rattle.gm_packet.specs.declared.kind.Kind.{Kind}
use Rattle.gm_packet.specs.declared.kind.Kind.TheVariants.{CanDo, CantDo, ResetAbilities, PreSleep, SubmitJob, GrabJob, WorkStatus}
use Rattle.gm_packet.specs.declared.kind.Kind.TheVariants.{WorkComplete, WorkFail, GetStatus, EchoReq, SubmitJobBg, SubmitJobHigh}
use Rattle.gm_packet.specs.declared.kind.Kind.TheVariants.{SetClientId, CanDoTimeout, AllYours, WorkException, OptionReq, WorkData}
use Rattle.gm_packet.specs.declared.kind.Kind.TheVariants.{WorkWarning, GrabJobUniq, SubmitJobHighBg, SubmitJobLow, SubmitJobLowBg}
use Rattle.gm_packet.specs.declared.request.RequestFault.TheVariants.{BadArguments}
use Rattle.gm_packet.specs.Kinds.{Shape, Empty, Plain, Opaque, Timed, shape, number, all_kinds, kind_of}
use Rattle.gm_packet.specs.Packets.{has_nul}
use Rattle.gm_packet.specs.Requests.{Asked, Asks, Spells, seconds_of, with_timeout, parts, arguments_of, read_as, read_kind, request_of}
use Rattle.gm_packet.proofs.Reading.{parts_some, parts_again, plain_spelled, plain_accepted, opaque_spelled, opaque_accepted}

-- ---- the table

found_head : (test : Kind → Bool) (k : Kind) (kinds : List Kind) (kind : Kind) (t : Bool) → test k ≡ t → (find test kinds ≡ Some kind → test kind ≡ true) → cond t (Some k) (find test kinds) ≡ Some kind → test kind ≡ true
found_head test k kinds kind true is rest e = subst (λ (x : Kind). test x ≡ true) (same_Some k kind e) is
found_head test k kinds kind false is rest e = rest e

-- what a search finds passes its test
found_passes : (test : Kind → Bool) (kinds : List Kind) (kind : Kind) → find test kinds ≡ Some kind → test kind ≡ true
found_passes test [] kind e = absurd cc
found_passes test (k ∷ kinds) kind e = found_head test k kinds kind (test k) refl (found_passes test kinds kind) e

pub number_of_found : (n : ℕ) (kind : Kind) → kind_of n ≡ Some kind → number kind ≡ n
number_of_found n kind e = let h = found_passes (λ k. number k == n) all_kinds kind e in grind (arith, nat_tests)

pub kind_of_number : (kind : Kind) → kind_of (number kind) ≡ Some kind
kind_of_number CanDo = refl
kind_of_number CantDo = refl
kind_of_number ResetAbilities = refl
kind_of_number PreSleep = refl
kind_of_number SubmitJob = refl
kind_of_number GrabJob = refl
kind_of_number WorkStatus = refl
kind_of_number WorkComplete = refl
kind_of_number WorkFail = refl
kind_of_number GetStatus = refl
kind_of_number EchoReq = refl
kind_of_number SubmitJobBg = refl
kind_of_number SubmitJobHigh = refl
kind_of_number SetClientId = refl
kind_of_number CanDoTimeout = refl
kind_of_number AllYours = refl
kind_of_number WorkException = refl
kind_of_number OptionReq = refl
kind_of_number WorkData = refl
kind_of_number WorkWarning = refl
kind_of_number GrabJobUniq = refl
kind_of_number SubmitJobHighBg = refl
kind_of_number SubmitJobLow = refl
kind_of_number SubmitJobLowBg = refl

-- ---- one shape after the other

-- a function and a timeout, found in these texts
pub record TimedParts (texts : List (List ℕ)) (found : List (List ℕ) × ℕ) : Type 0 where
  pub function : List ℕ
  pub digits : List ℕ
  pub texts_are : texts ≡ function ∷ digits ∷ []
  pub function_is : found.0 ≡ function ∷ []
  pub timeout_is : seconds_of digits ≡ Some found.1

seconds_some : (function digits : List ℕ) (found : List (List ℕ) × ℕ) (o : Option ℕ) → seconds_of digits ≡ o
    → option_map {U = List (List ℕ) × ℕ} (λ seconds. (function ∷ [], seconds)) o ≡ Some found → TimedParts (function ∷ digits ∷ []) found
seconds_some function digits found None is e = absurd cc
seconds_some function digits found (Some seconds) is e =
    let p = some_pair_parts (function ∷ []) found.0 seconds found.1 e in
    record { function = function; digits = digits; texts_are = refl; function_is = sym p.0; timeout_is = is ∙ ap Some p.1 }

with_timeout_some : (texts : List (List ℕ)) (found : List (List ℕ) × ℕ) → with_timeout texts ≡ Some found → TimedParts texts found
with_timeout_some [] found e = absurd cc
with_timeout_some (function ∷ []) found e = absurd cc
with_timeout_some (function ∷ digits ∷ []) found e = seconds_some function digits found (seconds_of digits) refl e
with_timeout_some (function ∷ digits ∷ text ∷ texts) found e = absurd cc

timed_some : (o : Option (List (List ℕ))) (found : List (List ℕ) × ℕ) → option_and_then with_timeout o ≡ Some found → (texts : List (List ℕ)) × (o ≡ Some texts) × TimedParts texts found
timed_some None found e = absurd cc
timed_some (Some texts) found e = (texts, refl, with_timeout_some texts found e)

mapped_some : (o : Option (List (List ℕ))) (found : List (List ℕ) × ℕ) → option_map {U = List (List ℕ) × ℕ} (λ texts. (texts, 0)) o ≡ Some found → (o ≡ Some found.0) × (found.1 ≡ 0)
mapped_some None found e = absurd cc
mapped_some (Some texts) found e =
    let is : ◌≡◌ {A = List (List ℕ) × ℕ} (texts, 0) found = same_Some (texts, 0) found e in
    (ap (λ (p : List (List ℕ) × ℕ). Some p.0) is, sym (ap (λ (p : List (List ℕ) × ℕ). p.1) is))

-- data that spell a function and digits
timed_spelled : (bytes : List ℕ) (texts : List (List ℕ)) (found : List (List ℕ) × ℕ) → parts (λ _. false) 1 (strip_last 0 bytes) ≡ Some texts
    → TimedParts texts found → Spells Timed found.0 found.1 bytes
timed_spelled bytes texts found e t =
    let r = parts_some (λ _. false) 1 (strip_last 0 bytes) (t.function ∷ t.digits ∷ []) (e ∙ ap (λ x. Some x) t.texts_are) in
    subst (λ (x : List (List ℕ)). Spells Timed x found.1 bytes) (sym t.function_is)
    (refl, or_from (has_nul t.function) false r.0.0 refl, (t.digits, t.timeout_is, r.1))

pub found_spelled : (s : Shape) (bytes : List ℕ) (found : List (List ℕ) × ℕ) → arguments_of s bytes ≡ Some found → Spells s found.0 found.1 bytes
found_spelled Empty [] found e = let p = some_pair_parts [] found.0 0 found.1 e in (sym p.0, sym p.1, refl)
found_spelled Empty (b ∷ bytes) found e = absurd cc
found_spelled (Plain n) bytes found e =
    let m = mapped_some (parts has_nul n (strip_last 0 bytes)) found e in
    let r = parts_some has_nul n (strip_last 0 bytes) found.0 m.0 in
    let p = plain_spelled n found.0 r.0 in
    (p.0, p.1, m.1, r.1)
found_spelled (Opaque n) bytes found e =
    let m = mapped_some (parts (λ _. false) n bytes) found e in
    let r = parts_some (λ _. false) n bytes found.0 m.0 in
    let p = opaque_spelled n found.0 r.0 in
    (p.0, p.1, m.1, r.1)
found_spelled Timed bytes found e =
    let t = timed_some (parts (λ _. false) 1 (strip_last 0 bytes)) found e in
    timed_spelled bytes t.0 found t.1 t.2

timed_found : (function digits bytes : List ℕ) (timeout : ℕ) → has_nul function ≡ false → seconds_of digits ≡ Some timeout
    → strip_last 0 bytes ≡ join_with_byte 0 (function ∷ digits ∷ []) → arguments_of Timed bytes ≡ Some (function ∷ [], timeout)
timed_found function digits bytes timeout lacks h e =
    rw (e, parts_again (λ _. false) 1 (function ∷ digits ∷ []) (lacks, refl), h) refl

pub spelled_found : (s : Shape) (arguments : List (List ℕ)) (timeout : ℕ) (bytes : List ℕ) → Spells s arguments timeout bytes → arguments_of s bytes ≡ Some (arguments, timeout)
spelled_found Empty arguments timeout bytes h = rw (h.0, h.1, h.2) refl
spelled_found (Plain n) arguments timeout bytes h = rw (h.3, parts_again has_nul n arguments (plain_accepted n arguments h.0 h.1), h.2) refl
spelled_found (Opaque n) arguments timeout bytes h = rw (h.3, parts_again (λ _. false) n arguments (opaque_accepted n arguments h.0 h.1), h.2) refl
spelled_found Timed [] timeout bytes h = let e = h.0 in absurd (omega arith)
spelled_found Timed (function ∷ []) timeout bytes h = timed_found function h.2.0 bytes timeout (or_parts (has_nul function) false h.1).0 h.2.1 h.2.2
spelled_found Timed (function ∷ text ∷ texts) timeout bytes h = let e = h.0 in absurd (omega arith)

-- ---- reading

asked_some : (kind : Kind) (o : Option (List (List ℕ) × ℕ)) (asked : Asked) → option_map {U = Asked} (λ (found : List (List ℕ) × ℕ). record { kind = kind; arguments = found.0; timeout = found.1 }) o ≡ Some asked → (kind ≡ asked.kind) × (o ≡ Some (asked.arguments, asked.timeout))
asked_some kind None asked e = absurd cc
asked_some kind (Some found) asked e =
    let is : ◌≡◌ {A = Asked} (record { kind = kind; arguments = found.0; timeout = found.1 }) asked = same_Some _ asked e in
    (ap (λ (a : Asked). a.kind) is, ap (λ (a : Asked). Some (a.arguments, a.timeout)) is)

-- what data of a known kind ask is spelled by them
pub read_spelled : (kind : Kind) (bytes : List ℕ) (asked : Asked) → read_as kind bytes ≡ Some asked → (kind ≡ asked.kind) × Spells (shape asked.kind) asked.arguments asked.timeout bytes
read_spelled kind bytes asked e =
    let a = asked_some kind (arguments_of (shape kind) bytes) asked e in
    (a.0, subst (λ (k : Kind). Spells (shape k) asked.arguments asked.timeout bytes) a.0 (found_spelled (shape kind) bytes (asked.arguments, asked.timeout) a.1))

pub spelled_read : (bytes : List ℕ) (asked : Asked) → Spells (shape asked.kind) asked.arguments asked.timeout bytes → read_as asked.kind bytes ≡ Some asked
spelled_read bytes asked h = rw (spelled_found (shape asked.kind) asked.arguments asked.timeout bytes h) refl

ok_some : (o : Option Asked) (asked : Asked) → ok_or o BadArguments ≡ Ok asked → o ≡ Some asked
ok_some None asked e = absurd cc
ok_some (Some a) asked e = cc

kind_read : (kind : ℕ) (bytes : List ℕ) (asked : Asked) (o : Option Kind) → kind_of kind ≡ o → read_kind o bytes ≡ Ok asked → Asks kind bytes asked
kind_read kind bytes asked None is e = absurd cc
kind_read kind bytes asked (Some k) is e =
    let r = read_spelled k bytes asked (ok_some (read_as k bytes) asked e) in
    (sym (number_of_found kind k is) ∙ ap number r.0, r.1)

-- what is found is asked
pub asks : (kind : ℕ) (bytes : List ℕ) (asked : Asked) → request_of kind bytes ≡ Ok asked → Asks kind bytes asked
asks kind bytes asked e = kind_read kind bytes asked (kind_of kind) refl e

-- what is asked is found
pub found : (kind : ℕ) (bytes : List ℕ) (asked : Asked) → Asks kind bytes asked → request_of kind bytes ≡ Ok asked
found kind bytes asked h = rw (h.0, kind_of_number asked.kind, spelled_read bytes asked h.1) refl
