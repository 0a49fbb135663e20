-- Requests as they come, against the table of effects.
use Rattle.std.proofs.Common.{◌≡◌, ℕ, Bool, true, false, List, [], ◌∷◌, ◌++◌, append_assoc, length, take, drop, ◌+◌, ◌-◌, ◌≤◌, if◌then◌else◌, Option, Some, None, Result, Ok, Err, refl, sym, ap, ap₂, subst, ◌∙◌, rules}
use Rattle.std.specs.List.{join_with_byte}
use Rattle.std.specs.Io.BufRead.{strip_last, ends_with_byte}
use Rattle.std.specs.Option.{option_map, ok_or}
use Rattle.gm_packet.specs.declared.kind.Kind.{Kind}
use Rattle.gm_packet.specs.declared.kind.Kind.TheVariants as kinds
use Rattle.gm_packet.specs.declared.request.RequestFault.{RequestFault}
use Rattle.gm_packet.specs.declared.request.RequestFault.TheVariants as faults
use Rattle.gm_packet.specs.Kinds.{shape}
use Rattle.gm_packet.specs.Requests.{Asked, arguments_of, read_kind}
use Rattle.gm_packet.specs.Views.{asking}
use Rattle.gm_notes.specs.Settings.{Settings}
use Rattle.gm_notes.specs.Past.{Past, refuse}
use Rattle.gm_actions.specs.declared.actions.WorkPacket.{WorkPacket}
use Rattle.gm_actions.specs.Actions.{serve, unread, option_report, ReportFits, WorkFits}
use Rattle.gm_packet.specs.Packets.{Fits}
use Rattle.gm_packet.specs.Answers.{Answer, answer_of, work_status}
use Rattle.gm_actions.specs.Carried.{HasCome, AreNumbers}
use Rattle.gm_bytes.specs.Endings.{EndsIn}
use Rattle.std.proofs.lemmas.List.{length-append}
use native.Mathlib.Omega.{arith}
use Rattle.std.proofs.Math.Seq.{drop-append_seam}
use Rattle.gm_actions.specs.Refusals.{code_of}
use Rattle.gm_notes.specs.Requests.{packet_of, request_if_read}

taken : (k : Settings) (c : ℕ) (kind : Kind) (asked : Asked) (past : Past) (found : Option (List (List ℕ) × ℕ))
    → Ok asked ≡ ok_or (option_map (λ (f : List (List ℕ) × ℕ). record { kind = kind; arguments = f.0; timeout = f.1 }) found) faults.BadArguments
    → serve k c asked past ≡ request_if_read k c (option_map (λ (f : List (List ℕ) × ℕ). record { kind = kind; arguments = f.0; timeout = f.1 }) found) past
taken k c kind asked past None is = absurd cc
taken k c kind asked past (Some found) is =
    let same : asked ≡ record { kind = kind; arguments = found.0; timeout = found.1 } = cc in ap (λ a. serve k c a past) same

-- what is read is served as the table has it
pub read_taken : (k : Settings) (c : ℕ) (known : Option Kind) (bytes : List ℕ) (asked : Asked) (past : Past) → Ok asked ≡ read_kind known bytes
    → serve k c asked past ≡ packet_of k c known bytes past
read_taken k c None bytes asked past is = absurd cc
read_taken k c (Some kind) bytes asked past is = taken k c kind asked past (arguments_of (shape kind) bytes) is

untaken : (k : Settings) (c : ℕ) (kind : Kind) (fault : RequestFault) (past : Past) (found : Option (List (List ℕ) × ℕ))
    → ◌≡◌ {A = Result Asked RequestFault} (Err fault) (ok_or (option_map (λ (f : List (List ℕ) × ℕ). record { kind = kind; arguments = f.0; timeout = f.1 }) found) faults.BadArguments)
    → refuse c (code_of (unread (Some kind))) past
    ≡ request_if_read k c (option_map (λ (f : List (List ℕ) × ℕ). record { kind = kind; arguments = f.0; timeout = f.1 }) found) past
untaken k c kind fault past None is = refl
untaken k c kind fault past (Some found) is = absurd cc

-- what isn't read is refused as the table has it
pub read_refused : (k : Settings) (c : ℕ) (known : Option Kind) (bytes : List ℕ) (fault : RequestFault) (past : Past) → Err fault ≡ read_kind known bytes
    → refuse c (code_of (unread known)) past ≡ packet_of k c known bytes past
read_refused k c None bytes fault past is = refl
read_refused k c (Some kind) bytes fault past is = untaken k c kind fault past (arguments_of (shape kind) bytes) is

-- ---- how far a job is

stripped_short : (bytes : List ℕ) → length (strip_last 0 bytes) ≤ length bytes
stripped_short bytes = go (ends_with_byte 0 bytes) where
  go : (t : Bool) → length (if t then take (length bytes - 1) bytes else bytes) ≤ length bytes
  go true = search rules
  go false = search rules

-- a report can be passed on, and its numbers told again
pub report_fits : (handle numerator denominator : List ℕ) (packet : WorkPacket) → HasCome (asking kinds.WorkStatus (handle ∷ numerator ∷ denominator ∷ []))
    → answer_of packet.response ≡ work_status handle numerator denominator → option_report packet.report ≡ Some (numerator, denominator) → WorkFits packet
report_fits h a b packet come says numbered =
    let long : length (strip_last 0 come.bytes) ≡ length h + length (0 ∷ (a ++ 0 ∷ b)) = ap length come.spelled.3 ∙ length-append h (0 ∷ (a ++ 0 ∷ b)) in
    let texts : Fits (h ∷ a ∷ b ∷ []) = search rules in
    let numbers : AreNumbers a b = record { separable = search rules; sized = omega (arith, long, stripped_short come.bytes, come.sized) } in
    record { response = subst (λ (x : Answer). Fits x.arguments) (sym says) texts; report = subst ReportFits (sym numbered) numbers }

-- ---- where the bodies are

behind : (before text bytes : List ℕ) → bytes ≡ before ++ text → EndsIn text bytes
behind before text bytes is =
    let all : length bytes ≡ length before + length text = ap length is ∙ length-append before text in
    let from : length bytes - length text ≡ length before = omega (arith, all) in
    (omega (arith, all), ap₂ drop from is ∙ drop-append_seam before text)

-- after one argument, and after two
pub ends_in_two : (first text bytes : List ℕ) → bytes ≡ join_with_byte 0 (first ∷ text ∷ []) → EndsIn text bytes
ends_in_two first text bytes is = behind (first ++ 0 ∷ []) text bytes (is ∙ sym (append_assoc first (0 ∷ []) text))

pub ends_in_three : (first second text bytes : List ℕ) → bytes ≡ join_with_byte 0 (first ∷ second ∷ text ∷ []) → EndsIn text bytes
ends_in_three first second text bytes is =
    behind ((first ++ 0 ∷ second) ++ 0 ∷ []) text bytes (is ∙ (sym (append_assoc first (0 ∷ second) (0 ∷ text)) ∙ sym (append_assoc (first ++ 0 ∷ second) (0 ∷ []) text)))
