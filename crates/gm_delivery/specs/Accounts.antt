-- The account of a slot's connections: the bytes and NOOPs that its pen got, and those that were written.
use Rattle.std.specs.Prelude.{◌≡◌, ℕ, ℤ, ◌+◌, ◌*◌, ◌==◌, ◌&&◌, Bool, true, if◌then◌else◌, List, [], ◌∷◌, ◌++◌, length, map}
use Rattle.gm_shared.specs.declared.tape.Answer.{Answer}
use Rattle.gm_shared.specs.declared.tape.Answer.TheVariants as answers
use Rattle.gm_shared.specs.declared.tape.Entry.{Entry}
use Rattle.gm_shared.specs.Tapes.{actor_code}
use Rattle.gm_shared.specs.Openings.{openings}
use Rattle.gm_delivery.specs.Messages.{message_of}
use Rattle.gm_delivery.specs.declared.account.Past.{Past}
use Rattle.gm_delivery.specs.declared.account.Sendings.{Sendings}

-- ---- what a pen was given

abbrev pub bytes_in : Answer → List ℕ
bytes_in (answers.Done done) = []
bytes_in (answers.Drained bytes) = bytes

-- the bytes of each drain by the pen of slot c when the slot had been opened n times, the newest first
abbrev pub drains_at : ℕ → ℕ → List Entry → List (List ℕ)
drains_at n c [] = []
drains_at n c (e ∷ older) = if (2 * c + 1 == actor_code e.actor) && (openings c older == n) then bytes_in e.answer ∷ drains_at n c older else drains_at n c older

-- ---- messages

-- one drain: the bytes that it gave, and whether a NOOP was taken for them
pub record DrainedMessage : Type 0 where
  pub took : Bool
  pub gave : List ℕ

-- the bytes that messages send, each NOOP after the bytes that were drained with it; the newest is the first
abbrev pub sent_by : List DrainedMessage → List ℕ
sent_by [] = []
sent_by (m ∷ older) = sent_by older ++ message_of m.took m.gave

abbrev pub drains_in : List DrainedMessage → List (List ℕ)
drains_in messages = map (λ (m : DrainedMessage). m.gave) messages

abbrev pub takes_in : List DrainedMessage → ℕ
takes_in [] = 0
takes_in (m ∷ older) = takes_in older + (if m.took then 1 else 0)

-- The history grew from `since` to `until`. The messages are the drains of the pen of slot c at the n-th opening, one
-- for one, and it took their NOOPs meanwhile, and perhaps others, which are lost.
pub record AreMessages (n c : ℕ) (since : List Entry) (takes : ℕ) (until : List Entry) (takes_after lost : ℕ) (messages : List DrainedMessage) : Type 0 where
  pub newer : List Entry
  pub goes_on : until ≡ newer ++ since
  pub drained : drains_at n c until ≡ drains_in messages
  pub taken : takes_after ≡ takes + takes_in messages + lost

-- The bytes written to the connection of the n-th opening, and then the rest, are those that the messages send: each
-- byte once, in order.
pub record IsWritten (n c : ℕ) (since : List Entry) (takes : ℕ) (until : List Entry) (takes_after lost : ℕ) (written rest : List ℕ) : Type 0 where
  pub messages : List DrainedMessage
  pub are : AreMessages n c since takes until takes_after lost messages
  pub whole : sent_by messages ≡ written ++ rest

-- A prefix of the bytes that the messages send was written.
abbrev pub IsPrefixWritten : ℕ → ℕ → List Entry → ℕ → List Entry → ℕ → List ℕ → Type 0
IsPrefixWritten n c since takes until takes_after written = (rest : List ℕ) × (lost : ℕ) × IsWritten n c since takes until takes_after lost written rest

-- ---- connections that are gone

-- To the connection of the n-th opening a prefix of what the messages send was written; all of it and each NOOP that
-- was taken, if that is said.
pub record WrittenTo (n c : ℕ) (p : Past) : Type 0 where
  pub rest : List ℕ
  pub lost : ℕ
  pub is_written : IsWritten n c p.since p.takes p.until p.takes_after lost p.log rest
  pub whole : p.is_whole ≡ true → (rest ≡ []) × (lost ≡ 0)

-- Each connection was written a prefix of what the pen was given at its opening: the last of them at the first one,
-- each before it at the next. The first began when the pen had taken no NOOP and seen nothing of the history, each next
-- one where the one before it ended, and the last ended here.
abbrev pub ArePast : ℕ → List Past → List Entry → ℕ → Type 0
ArePast c [] seen takes = (seen ≡ []) × (takes ≡ 0)
ArePast c (p ∷ older) seen takes = (seen ≡ p.until) × (takes ≡ p.takes_after) × WrittenTo (length older + 1) c p × ArePast c older p.since p.takes

-- Since each of them went, the pen was given nothing more at its opening.
abbrev pub AreOver : ℕ → List Past → List Entry → Type 0
AreOver c [] seen = Unit {0}
AreOver c (p ∷ older) seen = (drains_at (length older + 1) c seen ≡ drains_at (length older + 1) c p.until) × AreOver c older seen

abbrev pub no_sendings : Sendings
no_sendings = record { past = []; since = []; takes = 0 }

-- a connection more is gone, to whose socket this was written, all of what was due or not
abbrev pub closed : List Entry → ℕ → ℤ → List ℕ → Bool → Sendings → Sendings
closed seen takes socket log is_whole sendings =
    record { past = record { since = sendings.since; takes = sendings.takes; until = seen; takes_after = takes; socket = socket; log = log; is_whole = is_whole } ∷ sendings.past; since = seen; takes = takes }

-- the connections that are gone went through these sockets
abbrev pub WentThrough : List Past → List (ℤ × Bool) → Type 0
WentThrough [] [] = Unit {0}
WentThrough (p ∷ older) (passed ∷ before) = (p.socket ≡ passed.0) × WentThrough older before
WentThrough past passed = ⊥
