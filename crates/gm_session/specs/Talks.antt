-- A slot's desk, and the session of its connection.
use Rattle.std.specs.Net.Tcp.{stream_raw_fd}
use Rattle.std.specs.Prelude.{◌≡◌, ◌⊎◌, if◌then◌else◌, ℕ, ℤ, ◌+◌, ◌<◌, List, [], ◌∷◌, ◌++◌, Bool, true, false, not, Option, Some, None, IfSome, length, Result, Ok, Err}
use Rattle.gm_feeder.specs.declared.source.Answer.{Answer}
use Rattle.gm_feeder.specs.declared.units.Limits.{Limits}
use Rattle.gm_feeder.specs.Units.{Waits}
use Rattle.gm_feeder.specs.Streams.{Stream}
use Rattle.gm_notes.specs.declared.event.ApplyError.{ApplyError}
use Rattle.gm_notes.specs.declared.event.UnitFault.{UnitFault}
use Rattle.gm_notes.specs.Settings.{Settings}
use Rattle.gm_shared.specs.declared.receipt.Receipt.{Receipt}
use Rattle.gm_shared.specs.declared.tape.Entry.{Entry}
use Rattle.gm_shared.specs.Openings.{most_openings, counted}
use Rattle.gm_shared.specs.Pairings.{SideState}
use Rattle.gm_socket.specs.declared.source.Left.{Left}
use Rattle.gm_socket.specs.declared.source.Left.TheVariants as lefts
use Rattle.gm_socket.specs.Sources.{left_by, has_timed_out}
use Rattle.gm_session.specs.declared.heard.Heard.{Heard}
use Rattle.gm_session.specs.declared.heard.Hearings.{Hearings}
use Rattle.gm_session.specs.declared.session.SessionEnd.{SessionEnd}
use Rattle.gm_session.specs.declared.session.SessionEnd.TheVariants as ends
use Rattle.gm_session.specs.declared.talk.Talking.{Talking}
use Rattle.gm_session.specs.declared.talk.Reading.{Reading}
use Rattle.gm_session.specs.declared.talk.Reading.TheVariants.{Goes, Drops, Ended}
use Rattle.gm_session.specs.Hearings.{closed, AreHeard}
use Rattle.gm_session.specs.Sessions.{Adds, HandsIn, Reads, AsksInStep, ends_whole}

-- the connection's socket; the bytes of the session that make no unit yet, and whether whole units may be left before
-- them; how far its reading is; all that was read from the connection, what each call answered, the newest first, and
-- the last answer until it is taken
pub record TalkingState : Type 0 where
  pub socket : ℤ
  pub stream : Stream
  pub has_units : Bool
  pub reading : Reading
  pub heard : List ℕ
  pub answers : List Answer
  pub last : Option Answer

-- a connection's session, what is read for it, and how far that is
abbrev pub talking_of : Talking → TalkingState
talking_of x = record { socket = stream_raw_fd x.source.source.stream.value; stream = x.session.feeder; has_units = x.session.has_units; reading = x.reading; heard = x.source.bytes; answers = x.source.answers; last = x.source.last }

-- the slot's number, the limits of units, how often the slot was closed, what the desk has seen of the history; what
-- the side that reads knows, unless it is lent; the connection, if there is one, and the account of those that are gone
pub record TalkState : Type 0 where
  pub number : ℕ
  pub limits : Limits
  pub closings : ℕ
  pub seen : List Entry
  pub hearings : Hearings
  pub side : Option SideState
  pub talking : Option TalkingState

-- ---- what was handed in

-- The events handed in since the slot was last closed are the first units of the bytes read from the connection, in
-- order: all that are whole, unless some may be left.
pub record GoesOnSo (k : Settings) (n : ℕ) (limits : Limits) (since seen : List Entry) (t : TalkingState) : Type 0 where
  pub limited : t.stream.limits ≡ limits
  pub hands : HandsIn k n n limits t.heard t.stream.pending None since seen
  pub waits : t.has_units ≡ false → Waits limits t.stream.pending

-- Once the session is over: the first units, in order, and then the fault after them or none. These are all, and there
-- is no fault, if that is said.
pub record IsOverSo (k : Settings) (n : ℕ) (limits : Limits) (since seen : List Entry) (heard : List ℕ) (is_whole : Bool) : Type 0 where
  pub rest : List ℕ
  pub fault : Option UnitFault
  pub hands : HandsIn k n n limits heard rest fault since seen
  pub whole : is_whole ≡ true → (fault ≡ None) × Waits limits rest

abbrev pub IsTalkingBy : Settings → Reading → ℕ → Limits → List Entry → List Entry → TalkingState → Type 0
IsTalkingBy k Goes n limits since seen t = GoesOnSo k n limits since seen t
IsTalkingBy k (Drops end) n limits since seen t = (ends_whole end ≡ false) × IsOverSo k n limits since seen t.heard false
IsTalkingBy k (Ended end) n limits since seen t = IsOverSo k n limits since seen t.heard (ends_whole end)

-- with no connection nothing was handed in
abbrev pub IsTalking : Settings → ℕ → Limits → List Entry → List Entry → Option TalkingState → Type 0
IsTalking k n limits since seen None = Adds n [] since seen
IsTalking k n limits since seen (Some t) = IsTalkingBy k t.reading n limits since seen t

-- ---- sockets

-- it is this socket, of a connection that is served; or nothing was read, of one that isn't
abbrev pub FitsSocket : Option ℤ → ℤ × Bool → Type 0
FitsSocket None passed = passed.1 ≡ false
FitsSocket (Some socket) passed = passed ≡ (socket, true)

-- the connections that are gone went through these sockets, one each
abbrev pub WentThrough : List Heard → List (ℤ × Bool) → Type 0
WentThrough [] [] = Unit {0}
WentThrough (heard ∷ hs) (passed ∷ ps) = FitsSocket heard.socket passed × WentThrough hs ps
WentThrough hs ps = ⊥

-- and the connection that is there goes through the last, and is served
abbrev pub GoesThrough : Option TalkingState → List Heard → List (ℤ × Bool) → Type 0
GoesThrough None past passed = WentThrough past passed
GoesThrough (Some t) past passed = (older : List (ℤ × Bool)) × (passed ≡ (t.socket, true) ∷ older) × WentThrough past older

-- unless it is lent, the side that reads was handed the sockets of the connections
abbrev pub IsKnown : Option SideState → Option TalkingState → List Heard → Type 0
IsKnown None talking past = Unit {0}
IsKnown (Some side) talking past = GoesThrough talking past side.passed

-- Each connection that is gone is counted, unless the count can't tell.
pub record IsTalk (k : Settings) (t : TalkState) : Type 0 where
  pub count : t.closings < most_openings → t.closings ≡ length t.hearings.past
  pub past : AreHeard k t.number t.limits t.hearings.past t.hearings.since
  pub now : IsTalking k t.number t.limits t.hearings.since t.seen t.talking
  pub side : IsKnown t.side t.talking t.hearings.past

-- ---- a connection's way

-- The side is lent, as no connection is there: a connection is about to come.
pub record IsLent (old new : TalkState) (side : SideState) : Type 0 where
  pub nobody : old.talking ≡ None
  pub was : old.side ≡ Some side
  pub through : WentThrough old.hearings.past side.passed
  pub new_is : new ≡ record old { side = None }

-- there is none to lend only while a connection is there, or if it is lent already
abbrev pub Lends : Option SideState → TalkState → TalkState → Type 0
Lends None old new = (new ≡ old) × (old.talking ≡ None → old.side ≡ None)
Lends (Some side) old new = IsLent old new side

-- the side that was lent was handed one socket more meanwhile, of a connection that is served or not
pub record IsHanded (t : TalkState) (side : SideState) (socket : ℤ) (is_served : Bool) : Type 0 where
  pub nobody : t.talking ≡ None
  pub lent : t.side ≡ None
  pub older : List (ℤ × Bool)
  pub passed : side.passed ≡ (socket, is_served) ∷ older
  pub through : WentThrough t.hearings.past older

abbrev pub unread : ℤ → Limits → List Answer → Option Answer → TalkingState
unread socket limits answers last =
    record { socket = socket; stream = record { limits = limits; pending = []; fault = None }; has_units = false; reading = Goes; heard = []; answers = answers; last = last }

-- it came, and nothing was read of it
abbrev pub begun : TalkState → SideState → ℤ → List Answer → Option Answer → TalkState
begun t side socket answers last = record t { side = Some side; talking = Some (unread socket t.limits answers last) }

-- whether more may be read from the connection
abbrev pub is_reading_on : Reading → Bool
is_reading_on Goes = true
is_reading_on (Drops end) = true
is_reading_on (Ended end) = false

abbrev pub is_reading : Option TalkingState → Bool
is_reading None = false
is_reading (Some t) = is_reading_on t.reading

-- whether there is a connection from which nothing is read any more
abbrev pub has_ended : Option TalkingState → Bool
has_ended None = false
has_ended (Some t) = not (is_reading_on t.reading)

-- whether its session is over, and what still comes from the connection is dropped
abbrev pub is_dropping_by : Reading → Bool
is_dropping_by Goes = false
is_dropping_by (Drops end) = true
is_dropping_by (Ended end) = false

abbrev pub is_dropping : Option TalkingState → Bool
is_dropping None = false
is_dropping (Some t) = is_dropping_by t.reading

-- whether its session is over
abbrev pub is_over_by : Reading → Bool
is_over_by Goes = false
is_over_by (Drops end) = true
is_over_by (Ended end) = true

abbrev pub is_over : Option TalkingState → Bool
is_over None = false
is_over (Some t) = is_over_by t.reading

-- its session is over: if all whole units were handed in, nothing is read any more, and otherwise what still comes
-- is dropped
abbrev pub IsOverAs : Bool → Option TalkingState → Type 0
IsOverAs true talking = has_ended talking ≡ true
IsOverAs false talking = is_dropping talking ≡ true

-- nothing is read from the connection any more, whose session is over
abbrev pub ended_by : Reading → Reading
ended_by Goes = Goes
ended_by (Drops end) = Ended end
ended_by (Ended end) = Ended end

-- its session is over for this reason, whatever is left, unless it was over already
abbrev pub cut_by : SessionEnd → Reading → Reading
cut_by end Goes = Drops end
cut_by end (Drops before) = Drops before
cut_by end (Ended before) = Ended before

-- the connection's reading becomes what this makes of it, if there is a connection
abbrev pub with_reading : (Reading → Reading) → Option TalkingState → Option TalkingState
with_reading change None = None
with_reading change (Some t) = Some record t { reading = change t.reading }

-- The rest to be read: nothing if nothing is read any more; otherwise perhaps something, if whole units may be left, or
-- else what the last call left.
abbrev pub left_of : Bool → Bool → Option Answer → Left
left_of false units last = lefts.Nothing
left_of true true last = lefts.Perhaps
left_of true false last = left_by last

abbrev pub left_in : Option TalkingState → Left
left_in None = lefts.Nothing
left_in (Some t) = left_of (is_reading_on t.reading) t.has_units t.last

-- whether the last call failed, as the system found out that the peer vanished
abbrev pub has_timed_out_in : Option TalkingState → Bool
has_timed_out_in None = false
has_timed_out_in (Some t) = has_timed_out t.last

-- the last answer is taken, if more may be read
abbrev pub last_taken : Bool → TalkingState → TalkingState
last_taken false t = t
last_taken true t = record t { last = None }

abbrev pub without_last : Option TalkingState → Option TalkingState
without_last None = None
without_last (Some t) = Some (last_taken (is_reading_on t.reading) t)

-- ---- a step

-- if all whole units were handed in, nothing more can be read
abbrev pub over_by : SessionEnd → Reading
over_by end = if ends_whole end then Ended end else Drops end

-- how far the reading is after a turn
abbrev pub reading_after : Result (Unit {0}) SessionEnd → Reading
reading_after (Ok done) = Goes
reading_after (Err end) = over_by end

-- Once the session is over, the events handed in since the slot was last closed are those of a session that one thread
-- reads to its end.
abbrev pub Turns : Settings → Bool → Result (Unit {0}) SessionEnd → TalkState → List Entry → TalkingState → Type 0
Turns k taped (Ok done) old seen now = Unit {0}
Turns k taped (Err end) old seen now = Reads k taped old.number old.number old.limits (Some now.heard) (Some []) end old.hearings.since seen

-- A piece was read, or none, and what was whole then had its turn. The session is over only for what the socket
-- answered, or the book, or as there was no memory.
pub record Stepped (k : Settings) (taped : Bool) (result : Result (Unit {0}) SessionEnd) (old new : TalkState) (t : TalkingState) : Type 0 where
  pub now : TalkingState
  pub piece : List ℕ
  pub new_is : new ≡ record old { seen = new.seen; talking = Some now }
  pub heard : now.heard ≡ t.heard ++ piece
  pub socket : now.socket ≡ t.socket
  pub reading : now.reading ≡ reading_after result
  pub asks : AsksInStep t.has_units (Some t.answers) (Some now.answers) result
  pub turns : Turns k taped result old new.seen now

abbrev pub SteppedIf : Reading → Settings → Bool → Result (Unit {0}) SessionEnd → TalkState → TalkState → TalkingState → Type 0
SteppedIf Goes k taped result old new t = Stepped k taped result old new t
SteppedIf over k taped result old new t = (new ≡ old) × (result ≡ Err ends.Shut)

-- nothing is read if there is no session any more
abbrev pub StepsOn : Option TalkingState → Settings → Bool → Result (Unit {0}) SessionEnd → TalkState → TalkState → Type 0
StepsOn None k taped result old new = (new ≡ old) × (result ≡ Err ends.Shut)
StepsOn (Some t) k taped result old new = SteppedIf t.reading k taped result old new t

-- ---- the end

-- One call more was made after the session was over. Nothing is handed in of what it gave.
pub record Discarded (answer : Answer) (old new : TalkState) (t : TalkingState) : Type 0 where
  pub piece : List ℕ
  pub last : Option Answer
  pub new_is : new ≡ record old { talking = Some record t { heard = t.heard ++ piece; answers = answer ∷ t.answers; last = last } }

abbrev pub Discards : Option TalkingState → Answer → TalkState → TalkState → Type 0
Discards None answer old new = ⊥
Discards (Some t) answer old new = Discarded answer old new t

-- whether all whole units that were read were handed in
abbrev pub whole_by : Reading → Bool
whole_by Goes = false
whole_by (Drops end) = false
whole_by (Ended end) = ends_whole end

-- the account with the connection that is there, once its slot was closed at this; with one that nobody served, if
-- there is none
abbrev pub hearings_with : List Entry → Option TalkingState → Hearings → Hearings
hearings_with seen None hearings = closed seen None [] true hearings
hearings_with seen (Some t) hearings = closed seen (Some t.socket) t.heard (whole_by t.reading) hearings

-- The connection is gone, and entered with all that was read from it, and whether all whole units of that were handed
-- in; if the closing was refused nothing changed but what the desk has seen.
abbrev pub Closes : Settings → Bool → Result Receipt ApplyError → TalkState → Option SideState → TalkState → Type 0
Closes k taped (Ok receipt) old side new =
    new ≡ record old { closings = counted (old.closings + 1); seen = new.seen; hearings = hearings_with new.seen old.talking old.hearings; side = side; talking = None }
Closes k taped (Err refused) old side new = new ≡ record old { seen = new.seen }
