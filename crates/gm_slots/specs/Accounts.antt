-- The accounts of slots' connections, as a server that ended hands them out.
use Rattle.std.specs.Prelude.{◌≡◌, ◌<◌, ℕ, ℤ, Bool, List, [], ◌∷◌, Option, Some, length, slice_get}
use Rattle.gm_feeder.specs.declared.units.Limits.{Limits}
use Rattle.gm_notes.specs.Settings.{Settings}
use Rattle.gm_shared.specs.declared.tape.Entry.{Entry}
use Rattle.gm_shared.specs.Tapes.{steps_of}
use Rattle.gm_shared.specs.Books.{takings}
use Rattle.gm_shared.specs.Openings.{openings, most_openings}
use Rattle.gm_session.specs.Hearings.{AreHeard}
use Rattle.gm_session.specs.Talks.{TalkingState, IsTalking, GoesThrough}
use Rattle.gm_delivery.specs.Accounts.{ArePast, AreOver, WentThrough}
use Rattle.gm_slots.specs.Connections.{AreServed}
use Rattle.gm_slots.specs.declared.account.Account.{Account}

-- both sides of the slot were handed these sockets
abbrev pub IsSameSockets : Option TalkingState → Account → Type 0
IsSameSockets talking account = (passed : List (ℤ × Bool)) × GoesThrough talking account.heard.past passed × WentThrough account.sent.past passed

-- The desk of this number, which had seen this of the history, handed in what was read from the slot's connections; and
-- to each was written what the pen of this slot gave for it, when it had seen this and taken this count of NOOPs. The
-- account says to how many, and then it has all that the pen gave, and both went through the same sockets, if a count
-- of 64 bits tells it.
pub record IsAccount (k : Settings) (desk : ℕ × List Entry) (pen : ℕ × List Entry × ℕ) (account : Account) : Type 0 where
  pub talking : Option TalkingState
  pub are_heard : AreHeard k desk.0 account.limits account.heard.past account.heard.since
  pub talks : IsTalking k desk.0 account.limits account.heard.since desk.1 talking
  pub past : ArePast pen.0 account.sent.past pen.1 pen.2
  pub counted : account.openings < most_openings → (length account.sent.past ≡ account.openings) × AreOver pen.0 account.sent.past pen.1 × IsSameSockets talking account

-- these are the accounts of these desks and pens, in their order; there may be more desks
abbrev pub AreAccounts : Settings → List (ℕ × List Entry) → List (ℕ × List Entry × ℕ) → List Account → Type 0
AreAccounts k desks pens [] = Unit {0}
AreAccounts k (desk ∷ desks) (pen ∷ pens) (account ∷ accounts) = IsAccount k desk pen account × AreAccounts k desks pens accounts
AreAccounts k desks pens accounts = ⊥

-- Each account says how often its slot was opened, and a count of 64 bits tells that. Its units were within these
-- limits.
abbrev pub AreCounted : Limits → List Entry → List Account → Type 0
AreCounted limits log accounts = (c : ℕ) (account : Account) → slice_get accounts c ≡ Some account
    → (account.limits ≡ limits) × (account.openings ≡ openings c log) × (account.openings < most_openings)

-- There is an account for each slot, in their order, and each connection in it was served as this history says, with
-- these limits of a unit. Of what was written it has one entry for each opening of the slot. The NOOPs that were taken
-- for the slot's connections are as many as this history enters as taken.
pub record AreAccounted (k : Settings) (limits : Limits) (log : List Entry) (accounts : List Account) : Type 0 where
  pub all : length accounts ≡ k.slots
  pub written : (c : ℕ) (account : Account) → slice_get accounts c ≡ Some account → length account.sent.past ≡ openings c log
  pub each : (c : ℕ) (account : Account) → slice_get accounts c ≡ Some account → AreServed k limits log c (takings c (steps_of log)) account.heard.past account.sent.past
