-- A message: the bytes of one drain, and then a NOOP if one was taken.
use Rattle.std.specs.Prelude.{◌≡◌, ◌⊎◌, ◌≤◌, ◌==◌, if◌then◌else◌, ℕ, zero, suc, List, [], ◌∷◌, ◌++◌, length, take, drop, Bool, true, false, Option, None, Some}
use Rattle.std.specs.Io.KnownBytes.{Appends}
use Rattle.std.specs.declared.io.ErrorKind.{ErrorKind}
use Rattle.std.specs.declared.io.ErrorKind.TheVariants.{WouldBlock, TimedOut, Interrupted}
use Rattle.gm_feeder.specs.declared.source.Answer.{Answer}
use Rattle.gm_feeder.specs.declared.source.Answer.TheVariants.{Moved, Failed}
use Rattle.gm_packet.specs.Answers.{noop, answer_packet}
use Rattle.gm_delivery.specs.declared.message.Message.{Message}
use Rattle.gm_delivery.specs.declared.writing.Sent.{Sent}
use Rattle.gm_delivery.specs.declared.writing.Sent.TheVariants as sent

-- the NOOP, if one was taken
abbrev pub noop_if : Bool → List ℕ
noop_if true = answer_packet noop
noop_if false = []

-- the bytes of a message: those that were drained, and then a NOOP if one was taken
abbrev pub message_of : Bool → List ℕ → List ℕ
message_of took drained = drained ++ noop_if took

-- the part of a message's NOOP that isn't sent yet, if one was taken
abbrev pub noop_left : Message → List ℕ
noop_left message = drop message.noop_sent (noop_if message.took)

-- the part of a message that isn't sent yet
abbrev pub unsent : Message → List ℕ
unsent message = message.bytes.bytes ++ noop_left message

abbrev pub left_in : Option Message → List ℕ
left_in None = []
left_in (Some message) = unsent message

-- the outcome of a write that failed so: one that only came too early can be tried again
abbrev pub sent_on : ErrorKind → Sent
sent_on WouldBlock = sent.Some
sent_on TimedOut = sent.Some
sent_on Interrupted = sent.Some
sent_on kind = sent.Failed

-- A write took this many of the bytes, which are in order the next that the writer was given: all of them exactly if
-- that is said, and none if there is no peer to write to.
pub record Writes (old new : Option (List ℕ)) (bytes : List ℕ) (count : ℕ) (outcome : Sent) : Type 0 where
  pub within : count ≤ length bytes
  pub written : Appends old new (take count bytes)
  pub all : outcome ≡ sent.All → count ≡ length bytes
  pub unless_all : count ≡ length bytes → outcome ≡ sent.All
  pub failed : outcome ≡ sent.Failed → count ≡ 0

-- A prefix of what was due was sent, and this is left; nothing exactly if all was.
pub record SendsPrefix (outcome : Sent) (old new : Option (List ℕ)) (due left : List ℕ) : Type 0 where
  pub part : List ℕ
  pub written : Appends old new part
  pub whole : due ≡ part ++ left
  pub all : outcome ≡ sent.All → left ≡ []
  pub unless_all : left ≡ [] → outcome ≡ sent.All

-- ---- why, if it is known what the writer's calls answered, the newest first

-- the outcome of a call that answered so: one that took none of its bytes, or failed, shows that there is no peer to
-- write to, unless it came too early
abbrev pub sent_as : Answer → Sent
sent_as (Moved zero size) = sent.Failed
sent_as (Moved (suc count) size) = if suc count == size then sent.All else sent.Some
sent_as (Failed kind) = sent_on kind

-- these calls were made
abbrev pub Calls : Option (List Answer) → Option (List Answer) → List Answer → Type 0
Calls None new calls = Unit {0}
Calls (Some older) new calls = new ≡ Some (calls ++ older)

-- the last of these calls says this
abbrev pub LastSays : List Answer → Sent → Type 0
LastSays [] outcome = ⊥
LastSays (answer ∷ earlier) outcome = sent_as answer ≡ outcome

-- No bytes are written without a call, and no call is made once the time is over; otherwise one call was made, and its
-- answer is the outcome.
abbrev pub WritesOnce : List ℕ → Bool → Option (List Answer) → Option (List Answer) → Sent → Type 0
WritesOnce [] over old new outcome = Calls old new [] × (outcome ≡ sent.All)
WritesOnce (b ∷ bytes) over old new outcome = ((over ≡ true) × Calls old new [] × (outcome ≡ sent.Some)) ⊎ ((answer : Answer) × Calls old new (answer ∷ []) × (sent_as answer ≡ outcome))

-- Why a message isn't sent to its end: the last call answered so, or the writer's time is over, or eight writes were
-- made in a row. That it can't be sent to any more is always what the last call answered.
abbrev pub IsWhy : Sent → Bool → List Answer → Type 0
IsWhy sent.All over calls = Unit {0}
IsWhy sent.Some over calls = LastSays calls sent.Some ⊎ (over ≡ true) ⊎ (length calls ≡ 8)
IsWhy sent.Failed over calls = LastSays calls sent.Failed

pub record IsReason (outcome : Sent) (over : Bool) (old new : Option (List Answer)) : Type 0 where
  pub calls : List Answer
  pub made : Calls old new calls
  pub why : IsWhy outcome over calls
