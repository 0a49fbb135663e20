-- What a packet asks, and what follows from its kind.
use Rattle.std.proofs.Common.{◌≡◌, ℕ, Bool, true, false, List, Option, Some, None, Ok, refl, sym, ap, subst, ◌∙◌}
use Rattle.std.specs.Prelude.{◌==◌}
use Rattle.std.specs.Option.{option_map, ok_or}
use Rattle.std.proofs.lemmas.Bool.{and_from, and_parts}
use Rattle.gm_packet.specs.declared.kind.Kind.{Kind}
use Rattle.gm_packet.specs.declared.kind.Kind.TheVariants.{CanDo, CanDoTimeout, SubmitJob, SubmitJobBg, SubmitJobHigh}
use Rattle.gm_packet.specs.declared.kind.Kind.TheVariants.{SubmitJobHighBg, SubmitJobLow, SubmitJobLowBg}
use Rattle.gm_packet.specs.declared.request.RequestFault.TheVariants.{BadArguments}
use Rattle.gm_packet.specs.Kinds.{kind_of, shape}
use Rattle.gm_packet.specs.Requests.{Asked, read_as, read_kind, arguments_of}
use Rattle.gm_notes.specs.declared.note.Note.{Note}
use Rattle.gm_notes.specs.declared.note.Note.TheVariants as notes
use Rattle.gm_notes.specs.declared.states.Priority.{Priority}
use Rattle.gm_notes.specs.Settings.{Settings}
use Rattle.gm_notes.specs.Past.{Past}
use Rattle.gm_notes.specs.Requests.{request, request_if_read, packet_of}
use Rattle.gm_notes.specs.Steps.{Step, Packet, Close}
use Rattle.gm_history.specs.Causes.{Caused, is_one_of, is_request, asks, PacketAsks, priority_of, job_seconds, is_submission, is_enabling, is_close}
use Rattle.gm_notes.proofs.Numbers.{same_number}

-- ---- packets

-- what is read of a kind is of that kind
read_at : (kind : Kind) (o : Option (List (List ℕ) × ℕ)) (asked : Asked) → option_map (λ (found : List (List ℕ) × ℕ). record { kind = kind; arguments = found.0; timeout = found.1 }) o ≡ Some asked → asked.kind ≡ kind
read_at kind None asked e = absurd cc
read_at kind (Some found) asked e = let same : record { kind = kind; arguments = found.0; timeout = found.1 } ≡ asked = cc in ap (λ (a : Asked). a.kind) (sym same)

pub kind_read : (kind : Kind) (bytes : List ℕ) (asked : Asked) → read_as kind bytes ≡ Some asked → asked.kind ≡ kind
kind_read kind bytes asked e = read_at kind (arguments_of (shape kind) bytes) asked e

-- a packet does what it asks
module _ (bytes : List ℕ) (asked : Asked) where
  read_does : (k : Settings) (c : ℕ) (past : Past) (o : Option Asked) → ok_or o BadArguments ≡ Ok asked → request_if_read k c o past ≡ request k c asked.kind asked.arguments asked.timeout past
  read_does k c past None e = absurd cc
  read_does k c past (Some other) e =
      let same : other ≡ asked = cc in ap (λ (x : Asked). request k c x.kind x.arguments x.timeout past) same

  pub packet_does : (k : Settings) (c : ℕ) (past : Past) (o : Option Kind) → read_kind o bytes ≡ Ok asked → packet_of k c o bytes past ≡ request k c asked.kind asked.arguments asked.timeout past
  packet_does k c past None e = absurd cc
  packet_does k c past (Some kind) e = read_does k c past (read_as kind bytes) e

  is_read : (kind : Kind) (o : Option Asked) → o ≡ read_as kind bytes → ok_or o BadArguments ≡ Ok asked → asked.kind ≡ kind
  is_read kind None is e = absurd cc
  is_read kind (Some other) is e =
      let same : other ≡ asked = cc in ap (λ (x : Asked). x.kind) (sym same) ∙ kind_read kind bytes other (sym is)

  -- what is asked is of the packet's kind
  pub asked_kind : (kinds : Kind → Bool) (o : Option Kind) → read_kind o bytes ≡ Ok asked → is_one_of kinds o ≡ kinds asked.kind
  asked_kind kinds None e = absurd cc
  asked_kind kinds (Some kind) e = ap kinds (sym (is_read kind (read_as kind bytes) refl e))

-- ---- what a step asks

pub request_is : (kinds : Kind → Bool) (c : ℕ) (s : Step) (asked : Asked) → PacketAsks c s asked → is_request kinds s ≡ kinds asked.kind
request_is kinds c (Packet d number bytes) asked a = asked_kind bytes asked kinds (kind_of number) a.1
request_is kinds c other asked a = absurd a

pub request_asks : (kinds : Kind → Bool) (c : ℕ) (s : Step) (asked : Asked) → PacketAsks c s asked → kinds asked.kind ≡ true → is_request kinds s ≡ true
request_asks kinds c s asked a e = request_is kinds c s asked a ∙ e

-- a request of some slot
pub asks_some : (kinds : Kind → Bool) (c : ℕ) (s : Step) → asks kinds c s ≡ true → is_request kinds s ≡ true
asks_some kinds c (Packet d number bytes) e = (and_parts (c == d) (is_one_of kinds (kind_of number)) e).1
asks_some kinds c other e = absurd cc

-- a request of these kinds is one of more kinds
pub more_requests : (these those : Kind → Bool) → ((kind : Kind) → these kind ≡ true → those kind ≡ true) → (s : Step) → is_request these s ≡ true → is_request those s ≡ true
more_requests these those more (Packet c number bytes) e = by (kind_of number) e
  where
    by : (o : Option Kind) → is_one_of these o ≡ true → is_one_of those o ≡ true
    by None e = absurd cc
    by (Some kind) e = more kind e
more_requests these those more other e = absurd cc

-- kinds that are apart are no two kinds of one request
pub apart_requests : (these those : Kind → Bool) → ((kind : Kind) → these kind ≡ true → those kind ≡ false) → (s : Step) → is_request these s ≡ true → is_request those s ≡ false
apart_requests these those apart (Packet c number bytes) e = by (kind_of number) e
  where
    by : (o : Option Kind) → is_one_of these o ≡ true → is_one_of those o ≡ false
    by None e = refl
    by (Some kind) e = apart kind e
apart_requests these those apart other e = refl

pub slot_asks : (kinds : Kind → Bool) (c : ℕ) (s : Step) (asked : Asked) → PacketAsks c s asked → kinds asked.kind ≡ true → asks kinds c s ≡ true
slot_asks kinds c (Packet d number bytes) asked a e =
    and_from (c == d) (is_one_of kinds (kind_of number)) (subst (λ x. (c == x) ≡ true) a.0 (same_number c)) (request_asks kinds c (Packet d number bytes) asked a e)
slot_asks kinds c other asked a e = absurd a

pub closing_asks : (c : ℕ) (s : Step) (asked : Asked) → is_close s ≡ true → PacketAsks c s asked → ⊥
closing_asks c (Close d) asked e a = a
closing_asks c (Packet d number bytes) asked e a = let bad : ⊥ = cc in bad
closing_asks c other asked e a = a

-- ---- kinds

pub submission_kind : (kind : Kind) (p : Priority) → priority_of kind ≡ Some p → is_submission kind ≡ true
submission_kind SubmitJob p e = refl
submission_kind SubmitJobBg p e = refl
submission_kind SubmitJobHigh p e = refl
submission_kind SubmitJobHighBg p e = refl
submission_kind SubmitJobLow p e = refl
submission_kind SubmitJobLowBg p e = refl
submission_kind kind p e = absurd cc

pub enabling_kind : (kind : Kind) (timeout t : ℕ) → job_seconds kind timeout ≡ Some t → is_enabling kind ≡ true
enabling_kind CanDo timeout t e = refl
enabling_kind CanDoTimeout timeout t e = refl
enabling_kind kind timeout t e = absurd cc

-- ---- what causes a note

module _ (k : Settings) (before : List Note) (s : Step) where
  pub made_request : (n : ℕ) (f : List ℕ) (p : Priority) (u body : List ℕ) (older : List Note) → Caused k before s (notes.Made n f p u body) older → is_request is_submission s ≡ true
  made_request n f p u body older cause = request_asks is_submission cause.0 s cause.1 cause.2 (submission_kind cause.1.kind p cause.3.0)

  pub can_asks : (c : ℕ) (f : List ℕ) (t : ℕ) (older : List Note) → Caused k before s (notes.Can c f t) older → asks is_enabling c s ≡ true
  can_asks c f t older cause = slot_asks is_enabling c s cause.0 cause.1 (enabling_kind cause.0.kind cause.0.timeout t cause.2)
