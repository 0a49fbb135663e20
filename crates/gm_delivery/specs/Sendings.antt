-- The sending to a slot's connection, and the account of it.
use Rattle.std.specs.Prelude.{◌≡◌, ◌<◌, ◌+◌, ◌-◌, ◌==◌, ◌&&◌, ◌||◌, ℕ, ℤ, nat_lt, Bool, true, false, if◌then◌else◌, not, MatchBool, List, [], ◌∷◌, ◌++◌, length, Option, Some, None, is_some, Result, Ok, Err}
use Rattle.gm_feeder.specs.declared.source.Answer.{Answer}
use Rattle.gm_feeder.specs.declared.source.Answer.TheVariants.{Moved, Failed}
use Rattle.gm_notes.specs.Settings.{Settings}
use Rattle.gm_notes.specs.declared.event.ApplyError.{ApplyError}
use Rattle.gm_shared.specs.declared.receipt.Drained.{Drained}
use Rattle.gm_shared.specs.declared.tape.Entry.{Entry}
use Rattle.gm_shared.specs.Calls.{PenCalled}
use Rattle.gm_shared.specs.Openings.{most_openings}
use Rattle.gm_shared.specs.Pairings.{SideState, passed_with}
use Rattle.gm_delivery.specs.declared.account.Sendings.{Sendings}
use Rattle.gm_delivery.specs.declared.account.Past.{Past}
use Rattle.gm_delivery.specs.declared.life.Deed.{Deed}
use Rattle.gm_delivery.specs.declared.life.Deed.TheVariants.{Serve, Send, Linger, HangUp, LetGo}
use Rattle.gm_delivery.specs.declared.life.OutboundState.{OutboundState}
use Rattle.gm_delivery.specs.declared.life.OutboundState.TheVariants.{Open, Finished, Cut}
use Rattle.gm_delivery.specs.declared.sender.Delivered.{Delivered}
use Rattle.gm_delivery.specs.declared.writing.Sent.TheVariants as sent
use Rattle.gm_delivery.specs.Lives.{deed_of, state_if, cut_state}
use Rattle.gm_delivery.specs.Messages.{message_of, LastSays, IsWhy}
use Rattle.gm_delivery.specs.Accounts.{drains_at, IsWritten, IsPrefixWritten, ArePast, AreOver, WentThrough, closed}

-- a connection: how far the sending to it is, its socket, all that was written to it, what each call answered, the
-- newest first, and whether its time is over
pub record Outbound : Type 0 where
  pub state : OutboundState
  pub socket : ℤ
  pub log : List ℕ
  pub answers : List Answer
  pub over : Bool

-- the pen's slot, how many connections began there, what the pen has seen of the history, how many NOOPs it took and
-- how often it tried; what is left to be sent, to which connection, what the side that writes knows of the slot's
-- sockets, and the account of the connections that are gone
pub record SenderState : Type 0 where
  pub slot : ℕ
  pub openings : ℕ
  pub seen : List Entry
  pub takes : ℕ
  pub tries : ℕ
  pub left : List ℕ
  pub outbound : Option Outbound
  pub side : SideState
  pub sendings : Sendings

-- the opening of the connection that is there, or of the next one
abbrev pub present : SenderState → ℕ
present s = length s.sendings.past + 1

-- The bytes written to the connection, and then the rest, are those that the pen is given at its opening, which a count
-- of 64 bits can tell; if the sending is finished, it is all of that, and if it broke off, a prefix.
abbrev pub IsOutboundSo : SenderState → List ℕ → OutboundState → Type 0
IsOutboundSo s log Open = IsWritten (present s) s.slot s.sendings.since s.sendings.takes s.seen s.takes 0 log s.left × (s.openings ≡ present s) × (s.openings < most_openings)
IsOutboundSo s log Finished = IsWritten (present s) s.slot s.sendings.since s.sendings.takes s.seen s.takes 0 log [] × (s.left ≡ [])
IsOutboundSo s log Cut = IsPrefixWritten (present s) s.slot s.sendings.since s.sendings.takes s.seen s.takes log × (s.left ≡ [])

-- With no connection the pen is given nothing.
abbrev pub IsOutbound : SenderState → Option Outbound → Type 0
IsOutbound s None = (s.seen ≡ s.sendings.since) × (s.takes ≡ s.sendings.takes) × (s.left ≡ [])
IsOutbound s (Some outbound) = IsOutboundSo s outbound.log outbound.state

-- how many connections began, with the one that is there
abbrev pub began : Option Outbound → List Past → ℕ
began None past = length past
began (Some outbound) past = length past + 1

-- the connection that is there goes through the last of these sockets, and those that are gone went through the others
abbrev pub GoesThrough : Option Outbound → List Past → List (ℤ × Bool) → Type 0
GoesThrough None past passed = WentThrough past passed
GoesThrough (Some outbound) past passed = (is_served : Bool) × (before : List (ℤ × Bool)) × (passed ≡ (outbound.socket, is_served) ∷ before) × WentThrough past before

-- Each connection that began is counted, and at the openings of those that are gone the pen is given no more, unless
-- the count can't tell. At later openings it was given nothing yet. The side that writes was handed the sockets of the
-- connections.
pub record IsSender (s : SenderState) : Type 0 where
  pub past : ArePast s.slot s.sendings.past s.sendings.since s.sendings.takes
  pub counted : s.openings < most_openings → (s.openings ≡ began s.outbound s.sendings.past) × AreOver s.slot s.sendings.past s.seen
  pub unused : (n : ℕ) → s.openings < n → n < most_openings → drains_at n s.slot s.seen ≡ []
  pub outbound : IsOutbound s s.outbound
  pub side : GoesThrough s.outbound s.sendings.past s.side.passed

-- ---- a connection

-- it can't be sent to any more
abbrev pub cut : Option Outbound → Option Outbound
cut None = None
cut (Some outbound) = Some record outbound { state = cut_state outbound.state }

-- whether there is a connection that can be sent to
abbrev pub can_send : OutboundState → Bool
can_send Open = true
can_send Finished = false
can_send Cut = false

abbrev pub is_open : Option Outbound → Bool
is_open None = false
is_open (Some outbound) = can_send outbound.state

-- whether it can be sent to, and nothing is left for it
abbrev pub is_clear : SenderState → Bool
is_clear s = is_open s.outbound && (length s.left == 0)

-- ---- the present message

-- whether the last call took all, so that the next one may take some at once
abbrev pub took_all : List Answer → Bool
took_all [] = true
took_all (Moved count size ∷ earlier) = count == size
took_all (Failed kind ∷ earlier) = false

abbrev pub took_all_in : Option Outbound → Bool
took_all_in None = false
took_all_in (Some outbound) = took_all outbound.answers

-- Why not all is written: the sending breaks off only for what the last call answered; some is left for that, or
-- because the connection's time is over, or eight writes were made in a row.
abbrev pub IsLeftFor : Bool → List ℕ → Bool → List Answer → Type 0
IsLeftFor true rest over calls = LastSays calls sent.Failed
IsLeftFor false [] over calls = Unit {0}
IsLeftFor false (b ∷ rest) over calls = IsWhy sent.Some over calls

-- A part of what was left was written; the rest is left, or the sending broke off, as not all could be written.
pub record SendsPart (outbound : Outbound) (left : List ℕ) (now : Outbound) (left_now : List ℕ) : Type 0 where
  pub part : List ℕ
  pub rest : List ℕ
  pub whole : left ≡ part ++ rest
  pub breaks_off : Bool
  pub some_left : breaks_off ≡ true → rest ≡ [] → ⊥
  pub calls : List Answer
  pub why : IsLeftFor breaks_off rest now.over calls
  pub now_is : now ≡ record { state = if breaks_off then Cut else Open; socket = outbound.socket; log = outbound.log ++ part; answers = calls ++ outbound.answers; over = now.over }
  pub left_is : left_now ≡ (if breaks_off then [] else rest)

-- The rest for a connection is sent, if it can be sent to.
abbrev pub Sends : OutboundState → Outbound → List ℕ → Outbound → List ℕ → Type 0
Sends Open outbound left now left_now = SendsPart outbound left now left_now
Sends state outbound left now left_now = (now ≡ outbound) × (left_now ≡ left)

abbrev pub SendsTo : Option Outbound → SenderState → SenderState → Type 0
SendsTo None old new = new ≡ old
SendsTo (Some outbound) old new = (now : Outbound) × Sends outbound.state outbound old.left now new.left × (new ≡ record old { left = new.left; outbound = Some now })

abbrev pub SendsLeft : SenderState → SenderState → Type 0
SendsLeft old new = SendsTo old.outbound old new

-- ---- what the pen gives

-- The bytes that it gave for the connection are left to be sent. Once it gives bytes for another opening, no connection
-- can be told from another.
abbrev pub refilled : Bool → Result Drained ApplyError → SenderState → SenderState
refilled took (Ok drained) s = if drained.opening == s.openings then record s { left = message_of took drained.bytes.bytes } else record s { openings = most_openings; outbound = cut s.outbound }
refilled took (Err error) s = record s { outbound = cut s.outbound }

-- whether the slot is shut, if something was given for the connection
abbrev pub shut_in : Result Drained ApplyError → ℕ → Option Bool
shut_in (Ok drained) openings = if drained.opening == openings then Some drained.shut else None
shut_in (Err error) openings = None

-- The pen was asked for a NOOP, and then for what waits for its slot.
pub record Refills (k : Settings) (taped : Bool) (is_shut : Option Bool) (old new : SenderState) : Type 0 where
  pub took : Bool
  pub result : Result Drained ApplyError
  pub takes : MatchBool took (new.takes ≡ old.takes + 1) (new.takes ≡ old.takes)
  pub called : PenCalled k taped old.slot old.slot result old.seen new.seen
  pub after : new ≡ refilled took result (record old { seen = new.seen; takes = new.takes; tries = old.tries + 1 })
  pub is_shut_is : is_shut ≡ shut_in result old.openings

-- ---- a delivery

abbrev pub finished_outbound : Option Outbound → Option Outbound
finished_outbound None = None
finished_outbound (Some outbound) = Some record outbound { state = Finished }

-- no more is sent
abbrev pub finished : SenderState → SenderState
finished s = record s { outbound = finished_outbound s.outbound }

-- The given bytes are sent. If all of them were, and the slot is shut or the connection is to end, nothing more is.
abbrev pub SendsGiven : Option Bool → Bool → SenderState → SenderState → Type 0
SendsGiven None ends given new = new ≡ given
SendsGiven (Some is_shut) ends given new = (sent : SenderState) × SendsLeft given sent × (new ≡ (if is_clear sent && (is_shut || ends) then finished sent else sent))

abbrev pub GoesOn : Bool → Settings → Bool → Bool → SenderState → SenderState → Type 0
GoesOn false k taped ends sent new = new ≡ sent
GoesOn true k taped ends sent new = (is_shut : Option Bool) × (given : SenderState) × Refills k taped is_shut sent given × SendsGiven is_shut ends given new

-- The rest is sent. If all of it was, the pen is asked for more.
pub record Transmits (k : Settings) (taped ends : Bool) (old new : SenderState) : Type 0 where
  pub sent : SenderState
  pub sends : SendsLeft old sent
  pub goes_on : GoesOn (is_clear sent) k taped ends sent new

-- The time is looked at only if the sending is finished.
abbrev pub Looked : Outbound → Bool → Type 0
Looked outbound over = (outbound.state ≡ Finished → ⊥) → over ≡ outbound.over

abbrev pub LookedAt : Option Outbound → Option Outbound → Type 0
LookedAt None now = now ≡ None
LookedAt (Some outbound) now = (over : Bool) × Looked outbound over × (now ≡ Some record outbound { over = over })

-- the next step, by whether something is left for it, and whether its input ended; nothing if there is no
-- connection
abbrev pub deed_for : Option Outbound → Bool → Bool → Deed
deed_for None clear ended = Serve
deed_for (Some outbound) clear ended = deed_of outbound.state outbound.over (not clear) ended

abbrev pub deed_after : SenderState → Bool → Deed
deed_after s ended = deed_for s.outbound (is_clear s) ended

-- the connection is sent nothing more, and nothing is left for it
abbrev pub cut_off : SenderState → SenderState
cut_off s = record s { left = []; outbound = cut s.outbound }

-- the next step is left to others, except hanging up
abbrev pub next_by : Deed → SenderState → SenderState
next_by HangUp s = cut_off s
next_by deed s = s

-- the time is looked at, and the next step is said; hanging up is done
pub record Decides (has_ended : Bool) (deed : Deed) (old new : SenderState) : Type 0 where
  pub looked : SenderState
  pub looks : LookedAt old.outbound looked.outbound
  pub looked_is : looked ≡ record old { outbound = looked.outbound }
  pub deed_is : deed ≡ deed_after looked has_ended
  pub after : new ≡ next_by deed looked

-- the lane may be given up: nothing is left to do until it is touched again
abbrev pub may_rest : Deed → Bool
may_rest Serve = true
may_rest HangUp = true
may_rest Send = false
may_rest Linger = false
may_rest LetGo = false

-- a delivery is over if nothing is left to do; otherwise the next step is said
abbrev pub IsDeliveredFor : Result Delivered Deed → Deed → Type 0
IsDeliveredFor (Ok delivered) deed = may_rest deed ≡ true
IsDeliveredFor (Err left) deed = (left ≡ deed) × (may_rest deed ≡ false)

-- The rest is sent, and then the waiting bytes, and then the next step is decided.
pub record Delivers (k : Settings) (taped ends has_ended : Bool) (result : Result Delivered Deed) (old new : SenderState) : Type 0 where
  pub sent : SenderState
  pub transmits : Transmits k taped ends old sent
  pub deed : Deed
  pub decides : Decides has_ended deed sent new
  pub result_is : IsDeliveredFor result deed

-- ---- the end of a connection, and the beginning

abbrev pub sendings_without : SenderState → Option Outbound → Bool → Sendings
sendings_without s None is_whole = s.sendings
sendings_without s (Some outbound) is_whole = closed s.seen s.takes outbound.socket outbound.log is_whole s.sendings

-- whether all that was due was written: what is finished is whole, and what goes on is whole if nothing is left
abbrev pub whole_in : OutboundState → List ℕ → Bool
whole_in Open left = length left == 0
whole_in Finished left = true
whole_in Cut left = false

abbrev pub whole_of : Option Outbound → List ℕ → Bool
whole_of None left = false
whole_of (Some outbound) left = whole_in outbound.state left

-- the connection, if there is one, is gone, and entered with all that was written to it, and whether that was all that
-- was due
abbrev pub let_go_of : SenderState → SenderState
let_go_of s = record s { left = []; outbound = None; sendings = sendings_without s s.outbound (whole_of s.outbound s.left) }

-- whether the next opening can be told from the one after it, by a count of 64 bits
abbrev pub can_begin : ℕ → Bool
can_begin openings = nat_lt openings (most_openings - 1)

-- A connection came: it is of the next opening. It can be sent to, unless a count of 64 bits can't tell that opening
-- from the one after it; then it is cut, and so is each that comes after it.
abbrev pub begun : ℤ → List ℕ → Bool → SenderState → SenderState
begun socket log is_served s = record s {
  openings = if can_begin s.openings then s.openings + 1 else most_openings;
  side = passed_with (Some (socket, is_served)) s.side;
  outbound = Some (record { state = state_if (can_begin s.openings); socket = socket; log = log; answers = []; over = false });
}
