-- A connection's whole life: the bytes read from it, and those written to it, by the one history of all calls. Its
-- newest entry is the first. A slot has one connection after another, each from an opening of the slot on.
use Rattle.std.specs.Prelude.{◌≡◌, ℕ, ◌+◌, ℤ, ◌*◌, ◌==◌, ◌&&◌, if◌then◌else◌, Bool, true, List, [], ◌∷◌, ◌++◌, reverse, length, Option, Some, None, IfSome}
use Rattle.gm_feeder.specs.declared.units.Limits.{Limits}
use Rattle.gm_feeder.specs.Units.{Item, Waits}
use Rattle.gm_front.specs.Units.{steps_of as steps_of_units, IsFaultAt, BeginsWith}
use Rattle.gm_notes.specs.declared.event.UnitFault.{UnitFault}
use Rattle.gm_notes.specs.Settings.{Settings}
use Rattle.gm_notes.specs.Notes.{is_open}
use Rattle.gm_notes.specs.Flow.{sent, waiting}
use Rattle.gm_notes.specs.Steps.{Step, Close}
use Rattle.gm_shared.specs.declared.tape.Entry.{Entry}
use Rattle.gm_shared.specs.Events.{slot_of}
use Rattle.gm_shared.specs.Tapes.{step_in, Legal}
use Rattle.gm_shared.specs.Histories.{Knows}
use Rattle.gm_shared.specs.Calls.{past_of}
use Rattle.gm_shared.specs.Openings.{openings}
use Rattle.gm_session.specs.declared.heard.Heard.{Heard}
use Rattle.gm_session.specs.Hearings.{IsReadThrough, AreHeard}
use Rattle.gm_session.specs.Talks.{TalkingState, IsTalking, GoesThrough}
use Rattle.gm_delivery.specs.declared.account.Past.{Past}
use Rattle.gm_delivery.specs.Accounts.{DrainedMessage, drains_at, sent_by, drains_in, takes_in, ArePast, AreOver, WentThrough}
use Rattle.gm_slots.specs.Owners.{AreOwn, says}

-- ---- an opening

-- the bytes that the abstract server sent to slot c since its n-th opening, up to the next one
abbrev pub sent_at : Settings → ℕ → ℕ → List Entry → List ℕ
sent_at k n c [] = []
sent_at k n c (e ∷ older) = if openings c (e ∷ older) == n then sent c (past_of k (e ∷ older)).flow else sent_at k n c older

-- the bytes that wait for slot c at its n-th opening, or did when it was closed
abbrev pub left_at : Settings → ℕ → ℕ → List Entry → List ℕ
left_at k n c [] = []
left_at k n c (e ∷ older) =
    if (openings c (e ∷ older) == n) && is_open c (past_of k (e ∷ older)).notes then waiting c (past_of k (e ∷ older)).flow else left_at k n c older

-- the events of slot c since its n-th opening, up to the next one, that were taken: units, faults and closing, the
-- newest first
abbrev pub said_since : ℕ → ℕ → List Entry → List Step
said_since n c [] = []
said_since n c (e ∷ older) = if says c (slot_of (step_in e.step)) && (openings c older == n) then step_in e.step ∷ said_since n c older else said_since n c older

-- ---- what was read

-- The connection of the n-th opening of slot c is closed, and this was read from it: what the slot said are the first
-- units of that, in order, then the fault after them or none, and the closing. If it is said that these are all, no
-- whole unit is left, and there was no fault.
pub record IsHandedIn (k : Settings) (limits : Limits) (log : List Entry) (c n : ℕ) (heard : Heard) : Type 0 where
  pub own : IsReadThrough heard.socket heard.read
  pub items : List Item
  pub rest : List ℕ
  pub fault : Option UnitFault
  pub begins : BeginsWith limits heard.read items rest
  pub stands : IfSome fault (λ fault. IsFaultAt limits rest fault)
  pub said : said_since n c log ≡ Close c ∷ reverse (steps_of_units k c items fault)
  pub whole : heard.is_whole ≡ true → (fault ≡ None) × Waits limits rest

-- so it is of each connection that is closed, the newest first; the last of them is of the first opening
abbrev pub AreHandedIn : Settings → Limits → List Entry → ℕ → List Heard → Type 0
AreHandedIn k limits log c [] = Unit {0}
AreHandedIn k limits log c (heard ∷ older) = IsHandedIn k limits log c (length older + 1) heard × AreHandedIn k limits log c older

-- ---- what was written

-- the bytes of drains in the order in which they were drained; the list has the newest first
abbrev pub joined : List (List ℕ) → List ℕ
joined [] = []
joined (gave ∷ older) = joined older ++ gave

-- The messages are the drains of slot c at its n-th opening, one for one, each with the NOOP that was taken for it
-- after its bytes or with none. A prefix of what they send was written to the connection. Meanwhile the pen took their
-- NOOPs, and perhaps others, which are lost. If it is said that all was written, nothing of the messages is missing
-- and no NOOP is lost. The drained bytes, and then what still waited as the slot was closed, are all that the abstract
-- server sent since that opening.
pub record IsSent (k : Settings) (log : List Entry) (c n : ℕ) (p : Past) : Type 0 where
  pub messages : List DrainedMessage
  pub rest : List ℕ
  pub lost : ℕ
  pub drained : drains_at n c log ≡ drains_in messages
  pub written : sent_by messages ≡ p.log ++ rest
  pub taken : p.takes_after ≡ p.takes + takes_in messages + lost
  pub whole : p.is_whole ≡ true → (rest ≡ []) × (lost ≡ 0)
  pub all : sent_at k n c log ≡ joined (drains_in messages) ++ left_at k n c log

-- So it is of each connection that is gone, the newest first; the last of them is of the first opening. The NOOPs that
-- the pen took for them add up to this count: none was taken before the first connection, and none between one
-- connection and the next.
abbrev pub AreSent : Settings → List Entry → ℕ → ℕ → List Past → Type 0
AreSent k log c takes [] = takes ≡ 0
AreSent k log c takes (p ∷ older) = (takes ≡ p.takes_after) × IsSent k log c (length older + 1) p × AreSent k log c p.takes older

-- ---- one socket

-- the bytes read at an opening came through the socket to which was written at that opening; or nothing was read
abbrev pub FitsSocket : Option ℤ → ℤ → Type 0
FitsSocket None written = Unit {0}
FitsSocket (Some read) written = read ≡ written

-- so it is of each opening whose connection is closed
abbrev pub FitSockets : List Heard → List Past → Type 0
FitSockets [] [] = Unit {0}
FitSockets (heard ∷ hs) (p ∷ ps) = FitsSocket heard.socket p.socket × FitSockets hs ps
FitSockets hs ps = ⊥

-- Each connection that is closed went through one socket. The newer accounts are of one that isn't closed yet.
pub record WentThroughOne (heard : List Heard) (past : List Past) : Type 0 where
  pub newer : List Past
  pub older : List Past
  pub parts : past ≡ newer ++ older
  pub each : FitSockets heard older

-- ---- the law

-- The bytes read from each connection of slot c that is closed are handed in. There is one for each opening of the
-- slot, except for the last one while the slot is open. The bytes written to each that is gone were sent to it, and for
-- all of these together this number of NOOPs was taken. The bytes read and those written at one opening went through
-- one socket.
pub record AreServed (k : Settings) (limits : Limits) (log : List Entry) (c takes : ℕ) (heard : List Heard) (past : List Past) : Type 0 where
  pub handed_in : AreHandedIn k limits log c heard
  pub all : openings c log ≡ length heard + (if is_open c (past_of k log).notes then 1 else 0)
  pub sent : AreSent k log c takes past
  pub sockets : WentThroughOne heard past

-- It is so of any legal history in which each entry is its desk's or pen's own, and of any slot: if `heard` is the
-- account of what the slot's desk handed in, and `past` of what its pen gave and of the NOOPs that it took, `takes` of
-- them, each complete, if both went through the same sockets, and if the history has nothing of that desk and that pen
-- that they haven't seen.
abbrev pub ConnectionsAreServed : Type 0
ConnectionsAreServed = (k : Settings) (limits : Limits) (log : List Entry) → Legal k log → AreOwn log → (c takes : ℕ) (heard : List Heard) (past : List Past)
    (since heard_until given_until : List Entry) (talking : Option TalkingState) (passed : List (ℤ × Bool))
    → AreHeard k c limits heard since → IsTalking k c limits since heard_until talking → Knows log (2 * c) heard_until
    → GoesThrough talking heard passed → WentThrough past passed → ArePast c past given_until takes → AreOver c past given_until → Knows log (2 * c + 1) given_until
    → AreServed k limits log c takes heard past
