-- The slots that a thread serves, and in which order.
use Rattle.std.specs.Prelude.{◌≡◌, ℕ, ◌+◌, ◌*◌, ◌<◌, nat_lt, ◌==◌, Bool, true, false, ◌&&◌, ◌||◌, not, IsTrue, if◌then◌else◌}
use Rattle.std.specs.Prelude.{List, [], ◌∷◌, ◌++◌, length, drop, count_by, slice_get, slice_index_or, slice_set, Option, Some, None, MatchOption, ◌⊎◌}
use Rattle.std.specs.Prelude.{◌-◌, ◌/◌, leb, ◌^◌, bit_and, zero, suc}
use Rattle.std.specs.Int.{div_ceil}
use Rattle.std.specs.Time.{instant_nanos}
use Rattle.std.specs.declared.time.Instant.{Instant}
use Rattle.mio.specs.declared.event.event.Event.{Event}
use Rattle.mio.specs.Event.{event_token, is_read_closed, is_priority}
use Rattle.gm_time.specs.declared.timing.TheConstants.{AGAIN_MS, WAKING_TIME_MS}
use Rattle.gm_poll.specs.declared.poller.Call.{Call}

-- A thread's number, and how many threads there are. Each of its slots has a call, whose index is the slot's position.
-- The other three have positions in the order of their turns: those that were reported or woken, those with more to do,
-- and those to look at again. The last two say for how many milliseconds the system was asked last, at most, and what
-- it reported then.
pub record PollerState : Type 0 where
  pub thread : ℕ
  pub count : ℕ
  pub calls : List Call
  pub ready : List ℕ
  pub behind : List ℕ
  pub again : List ℕ
  pub time : ℕ
  pub events : List Event

-- the call at a position, or nobody's past the last one
abbrev pub nobody : Call
nobody = record { slot = 0; is_woken = false; is_odd = false; is_ready = false; is_again = false }

abbrev pub call_at : List Call → ℕ → Call
call_at calls at = slice_index_or calls at nobody

-- how often a position is among these
abbrev pub times : ℕ → List ℕ → ℕ
times at positions = count_by (λ position. at == position) positions

-- These are the positions whose calls have the flag, each once.
pub record AreThose (flag : Call → Bool) (calls : List Call) (positions : List ℕ) : Type 0 where
  pub told : (at : ℕ) → times at positions ≡ (if flag (call_at calls at) then 1 else 0)

-- A position is in one of the two queues to serve exactly if its call says so, and only once in both; likewise in the
-- one to look at again. Each call has the slot of its position.
pub record IsOrderly (p : PollerState) : Type 0 where
  pub ready : AreThose (λ call. call.is_ready) p.calls (p.ready ++ p.behind)
  pub again : AreThose (λ call. call.is_again) p.calls p.again
  pub slots : (at : ℕ) → at < length p.calls → (call_at p.calls at).slot ≡ p.thread + at * p.count
  pub apart : 0 < p.count

-- The poller has a position for the first slot and for each that comes this far after the one before, below this number
-- of slots. None of them is to be served yet.
pub record IsNew (first apart slots : ℕ) (p : PollerState) : Type 0 where
  pub thread : p.thread ≡ first
  pub count : p.count ≡ apart
  pub all : (at : ℕ) → first + at * apart < slots → at < length p.calls
  pub calls : (at : ℕ) → at < length p.calls → call_at p.calls at ≡ record nobody { slot = first + at * apart }
  pub ready : p.ready ≡ []
  pub behind : p.behind ≡ []
  pub again : p.again ≡ []
  pub time : p.time ≡ 0
  pub events : p.events ≡ []

-- There is a new poller for each of this many threads.
pub record AreNew (count slots : ℕ) (pollers : List PollerState) : Type 0 where
  pub all : length pollers ≡ count
  pub each : (thread : ℕ) (other : PollerState) → thread < count → IsNew thread count slots (slice_index_or pollers thread other)

-- the queue with the position at its end, if it comes there
abbrev pub queued : Bool → ℕ → List ℕ → List ℕ
queued comes at positions = if comes then positions ++ at ∷ [] else positions

-- the call of a position that was reported, oddly or not
abbrev pub reported : Bool → Call → Call
reported is_odd call = record call { is_odd = call.is_odd || is_odd; is_ready = true }

-- the position of an event's slot
abbrev pub position_of : Event → PollerState → ℕ
position_of event p = (event_token event).0 / p.count

-- More may be there than the event says, after a short read.
abbrev pub is_odd : Event → Bool
is_odd event = is_read_closed event || is_priority event

-- the poller once an event was heard of, if a slot has it
abbrev pub heard_of : Event → PollerState → PollerState
heard_of event p =
    let at = position_of event p in
    let call = call_at p.calls at in
    record p { calls = slice_set p.calls at (reported (is_odd event) call); ready = queued (not call.is_ready && nat_lt at (length p.calls)) at p.ready }

-- the poller once these were heard of, in their order
abbrev pub heard : List Event → PollerState → PollerState
heard [] p = p
heard (event ∷ events) p = heard events (heard_of event p)

-- the poller once a position was woken, if a slot has it
abbrev pub called : ℕ → PollerState → PollerState
called at p =
    let call = call_at p.calls at in
    record p { calls = slice_set p.calls at (record call { is_woken = true; is_ready = true }); ready = queued (not call.is_ready && nat_lt at (length p.calls)) at p.ready }

-- the poller once the marked ones of this many positions were woken, from the first on: those whose bits are set
unfoldable pub marked : ℕ → ℕ → ℕ → PollerState → PollerState
marked first bits zero p = p
marked first bits (suc count) p =
    let before = marked first bits count p in
    if bit_and bits (2 ^ count) == 0 then before else called (first + count) before

-- the poller once the marked ones were woken of 64 positions for each word, the last word first
abbrev pub all_marked : List ℕ → PollerState → PollerState
all_marked [] p = p
all_marked (bits ∷ before) p = marked (length before * 64) bits 64 (all_marked before p)

-- the poller once these were woken, and none is to be looked at again
abbrev pub looked_at : List ℕ → PollerState → PollerState
looked_at [] p = record p { again = [] }
looked_at (at ∷ again) p = looked_at again (called at (record p { calls = slice_set p.calls at (record (call_at p.calls at) { is_again = false }); again = again }))

-- the position whose turn is next
abbrev pub next_position : PollerState → Option ℕ
next_position p = slice_get (p.ready ++ p.behind) 0

-- the queues without it: one with more to do has its turn only when no other waits
abbrev pub rest_of : List ℕ → List ℕ → List ℕ × List ℕ
rest_of [] behind = ([], drop 1 behind)
rest_of (_ ∷ ready) behind = (ready, behind)

-- the poller once that position has its turn
abbrev pub without_first : ℕ → PollerState → PollerState
without_first at p =
    let rest = rest_of p.ready p.behind in
    record p { calls = slice_set p.calls at (record (call_at p.calls at) { is_woken = false; is_ready = false }); ready = rest.0; behind = rest.1 }

-- The position whose turn is next has it, and its call is the answer, with the position's slot. If none is to be
-- served, nothing changes.
abbrev pub TakesTurn : Option Call → PollerState → PollerState → Type 0
TakesTurn result old new = MatchOption (next_position old) ((result ≡ None) × (new ≡ old))
    (λ at. (result ≡ Some (call_at old.calls at)) × ((call_at old.calls at).slot ≡ old.thread + at * old.count) × (new ≡ without_first at old))

-- the poller once a position was served, which perhaps has more to do now, and perhaps is to be looked at again
abbrev pub served : ℕ → Bool → Bool → PollerState → PollerState
served at is_now is_again p =
    let call = call_at p.calls at in
    let is_slot = nat_lt at (length p.calls) in
    record p {
      calls = slice_set p.calls at (record call { is_odd = call.is_odd && is_now; is_ready = call.is_ready || is_now; is_again = call.is_again || is_again });
      behind = queued (not call.is_ready && is_now && is_slot) at p.behind;
      again = queued (not call.is_again && is_again && is_slot) at p.again;
    }

-- A call keeps its slot and each reason to serve it. One to look at again still is, or is to be served as woken.
pub record KeepsCall (old new : Call) : Type 0 where
  pub slot : new.slot ≡ old.slot
  pub woken : IsTrue old.is_woken → IsTrue new.is_woken
  pub odd : IsTrue old.is_odd → IsTrue new.is_odd
  pub ready : IsTrue old.is_ready → IsTrue new.is_ready
  pub again : IsTrue old.is_again → IsTrue new.is_again ⊎ (IsTrue new.is_ready × IsTrue new.is_woken)

-- No position that is to be served leaves or moves. More may be ready, after those that are.
pub record Heeds (old new : PollerState) : Type 0 where
  pub thread : new.thread ≡ old.thread
  pub count : new.count ≡ old.count
  pub slots : length new.calls ≡ length old.calls
  pub more : List ℕ
  pub ready : new.ready ≡ old.ready ++ more
  pub behind : new.behind ≡ old.behind
  pub calls : (at : ℕ) → KeepsCall (call_at old.calls at) (call_at new.calls at)

-- The event's slot is to be served, and more may be there after a short read, if the event says so.
pub record IsHeard (p : PollerState) (event : Event) : Type 0 where
  pub ready : position_of event p < length p.calls → IsTrue (call_at p.calls (position_of event p)).is_ready
  pub odd : position_of event p < length p.calls → IsTrue (is_odd event) → IsTrue (call_at p.calls (position_of event p)).is_odd

-- for how many milliseconds it may wait
abbrev pub longest_wait : PollerState → ℕ
longest_wait p = if nat_lt 0 (length p.ready + length p.behind) then 0 else (if nat_lt 0 (length p.again) then AGAIN_MS else WAKING_TIME_MS)

-- It is this many milliseconds from the one time to the other, or a time isn't known.
abbrev pub is_while : ℕ → Option Instant → Option Instant → Bool
is_while milliseconds (Some from) (Some to) = leb (milliseconds * 1_000_000) (instant_nanos to - instant_nanos from)
is_while milliseconds _ _ = true

-- A poller asked the system once, and what came is after what was to be served before, in this order: each event that
-- was reported, the marked ones of each 64 slots, and, if it was time for that, those to look at again. There is
-- nothing else.
pub record Wakes (old new : PollerState) : Type 0 where
  pub words : List ℕ
  pub all : length words ≡ div_ceil (length old.calls) 64
  pub woken : PollerState
  pub marked : woken ≡ all_marked words (heard new.events (record old { time = new.time; events = new.events }))
  pub looked : (new ≡ woken) ⊎ (new ≡ looked_at woken.again woken)
