-- The steps that a book agrees with, and the effect of one holding of it.
use Rattle.std.specs.Prelude.{◌≡◌, ℕ, ◌+◌, ◌<◌, Bool, true, false, ◌==◌, ◌||◌, if◌then◌else◌, List, [], ◌∷◌, Option, Some, None, Result, Ok, Err}
use Rattle.gm_notes.specs.declared.event.ApplyError.{ApplyError}
use Rattle.gm_notes.specs.declared.event.ApplyError.TheVariants.{Memory, NotOpen}
use Rattle.gm_notes.specs.declared.states.Phase.{Phase}
use Rattle.gm_notes.specs.Settings.{Settings}
use Rattle.gm_notes.specs.Notes.{is_open, phase, mode}
use Rattle.gm_notes.specs.Flow.{waiting}
use Rattle.gm_notes.specs.Steps.{Step, Close, Took, Withdrew, Drain, refusal, done}
use Rattle.gm_notes.specs.Steps.{run}
use Rattle.gm_notes.specs.Servers.{IsRefusal, is_closing, owes}
use Rattle.gm_conns.specs.Slots.{has}
use Rattle.gm_conns.specs.ConnTables.{conn, is_touched}
use Rattle.gm_core.specs.Holds.{CoreAgrees, outbox}
use Rattle.gm_word.specs.declared.view.Line.{Line as WordLine}
use Rattle.gm_word.specs.Steps.{line_at}
use Rattle.gm_shared.specs.declared.book.Booked.{Booked}
use Rattle.gm_shared.specs.declared.events.Noop.{Noop}
use Rattle.gm_shared.specs.declared.events.Noop.TheVariants.{Left}
use Rattle.gm_shared.specs.declared.receipt.Receipt.{Receipt}
use Rattle.gm_shared.specs.declared.receipt.Drained.{Drained}
use Rattle.gm_shared.specs.Words.{worded, Follows}
use Rattle.gm_shared.specs.Events.{slot_of, MayFind, entered}
use Rattle.gm_shared.specs.declared.tape.Tape.{Tape}
use Rattle.gm_shared.specs.declared.tape.Told.{Told}
use Rattle.gm_shared.specs.Tapes.{TapeIs, Grows, noop_entries, holding_entries, drain_entry, place_behind}
use Rattle.gm_notes.specs.Past.{Past}

-- ---- the book

-- how often the NOOP of slot c was entered as taken, and how often as withdrawn
abbrev pub takings : ℕ → List Step → ℕ
takings c [] = 0
takings c (Took d ∷ older) = (if c == d then 1 else 0) + takings c older
takings c (s ∷ older) = takings c older

abbrev pub withdrawals : ℕ → List Step → ℕ
withdrawals c [] = 0
withdrawals c (Withdrew d ∷ older) = (if c == d then 1 else 0) + withdrawals c older
withdrawals c (s ∷ older) = withdrawals c older

-- The book's lines say what the steps left: for each slot the phase, which is Awake if it isn't open, and how many
-- of its NOOPs were found taken, and how many were withdrawn.
pub record WordsAgree (lines : List WordLine) (k : Settings) (steps : List Step) : Type 0 where
  pub phases : (c : ℕ) → (line_at c lines).phase ≡ worded (phase c (run k steps).notes)
  pub entered : (c : ℕ) → (line_at c lines).entered ≡ takings c steps
  pub withdrawn : (c : ℕ) → (line_at c lines).withdrawals ≡ withdrawals c steps

-- the core holds what these steps give under these settings, and so does the book's seat
pub record Holds (booked : Booked) (k : Settings) (steps : List Step) : Type 0 where
  pub core : CoreAgrees booked.core k steps
  pub slots : booked.slots ≡ k.slots
  pub words : WordsAgree booked.seat.lines k steps

-- and the tape, if one is kept, is one history, of these steps
pub record BookedAgrees (booked : Booked) (k : Settings) (steps : List Step) : Type 0 where
  pub holds : Holds booked k steps
  pub tape : TapeIs booked.tape.on booked.tape.entries.items k steps

-- ---- one holding

-- the visible state of a slot: the bytes that wait for it, its phase, and whether it is shut
abbrev pub shown_at : ℕ → Past → List ℕ × Phase × Bool
shown_at c past = (waiting c past.flow, phase c past.notes, is_closing c past)

-- each slot that an event changed, with what was entered of a NOOP since the older steps, is among these
abbrev pub AreTouched : Settings → List Step → List Step → List ℕ → Type 0
AreTouched k older steps touched = (c : ℕ) → has touched c ≡ false → shown_at c (run k steps) ≡ shown_at c (run k older)

-- The event was taken after these steps, as the receipt tells, and touched these slots: each that changed in it, and each
-- that changed since the older steps. A worker whose NOOP was entered as taken, and that is owed one again, changed only
-- in the event.
pub record IsTaken (k : Settings) (older steps : List Step) (s : Step) (receipt : Receipt) (touched : List ℕ) (new : Booked) : Type 0 where
  pub taken : refusal k s (run k steps) ≡ None
  pub done_is : receipt.done ≡ done k s (run k steps)
  pub mode_is : receipt.mode ≡ mode (run k (s ∷ steps)).notes
  pub agrees : BookedAgrees new k (s ∷ steps)
  pub touches : AreTouched k older (s ∷ steps) touched
  pub renews : AreTouched k steps (s ∷ steps) touched

abbrev pub IsDone : Settings → List Step → List Step → Step → Result Receipt ApplyError → List ℕ → Booked → Type 0
IsDone k older steps s (Ok receipt) touched new = IsTaken k older steps s receipt touched new
IsDone k older steps s (Err refused) touched new = IsRefusal refused (refusal k s (run k steps)) × BookedAgrees new k steps

-- the receipt tells the event's place, after what was entered of the NOOP
abbrev pub TellsPlace : ℕ → Noop → Result Receipt ApplyError → Tape → Type 0
TellsPlace desk noop (Ok receipt) tape = receipt.at ≡ place_behind (noop_entries desk noop) tape
TellsPlace desk noop (Err refused) tape = Unit {0}

-- the word of this slot, if there is one, was asked for the state of the NOOP that the slot is owed
abbrev pub AsksWord : Option ℕ → Past → List WordLine → List WordLine → Type 0
AsksWord None past old new = Unit {0}
AsksWord (Some c) past old new = owes c past ≡ true → (line_at c old).looks < (line_at c new).looks

-- The effect of a holding: it asked the word of the event's slot, found this of the NOOP, and entered it; after that
-- the event was taken, or was refused and changed nothing. Both are entered on the tape, if one is kept, and in the
-- desk's share.
pub record Holding (k : Settings) (steps : List Step) (s : Step) (desk : ℕ) (noop : Noop) (result : Result Receipt ApplyError) (touched : List ℕ) (old new : Booked) (told : List Told) : Type 0 where
  pub asks : AsksWord (slot_of s) (run k steps) old.seat.lines new.seat.lines
  pub found : MayFind noop s (run k steps)
  pub event : IsDone k steps (entered noop steps) s result touched new
  pub tape : Grows (holding_entries desk noop s result) old.tape new.tape told
  pub place : TellsPlace desk noop result old.tape

-- A tape is kept, and there was no room for what is entered: then the book wasn't asked, and nothing changed.
pub record NoRoom (k : Settings) (steps : List Step) (result : Result Receipt ApplyError) (old new : Booked) (told : List Told) : Type 0 where
  pub on : old.tape.on ≡ true
  pub wanting : result ≡ Err Memory
  pub agrees : BookedAgrees new k steps
  pub tape : Grows [] old.tape new.tape told

pub data Held (k : Settings) (steps : List Step) (s : Step) (desk : ℕ) (noop : Noop) (result : Result Receipt ApplyError) (touched : List ℕ) (old new : Booked) (told : List Told) : Type 0 where
  asked : Holding k steps s desk noop result touched old new told → Held k steps s desk noop result touched old new told
  unasked : noop ≡ Left → NoRoom k steps result old new told → Held k steps s desk noop result touched old new told

-- a closing needs no memory, if no tape is kept
abbrev pub NeedsNoMemory : Bool → Step → Type 0
NeedsNoMemory on (Close c) = on ≡ false
NeedsNoMemory on other = ⊥

-- the effect of the drain of a slot
pub record IsDrained (k : Settings) (steps : List Step) (pen slot : ℕ) (drained : Drained) (old new : Booked) (told : List Told) : Type 0 where
  pub opened : is_open slot (run k steps).notes ≡ true
  pub bytes_are : drained.bytes.bytes ≡ waiting slot (run k steps).flow
  pub shut_is : drained.shut ≡ is_closing slot (run k steps)
  pub agrees : BookedAgrees new k (Drain slot ∷ steps)
  pub tape : Grows (drain_entry pen slot drained.bytes.bytes ∷ []) old.tape new.tape told

-- a drain is refused if the slot isn't open; for memory only with a tape
abbrev pub IsDrainRefusal : ApplyError → ℕ → Past → Bool → Type 0
IsDrainRefusal Memory slot past on = on ≡ true
IsDrainRefusal NotOpen slot past on = is_open slot past.notes ≡ false
IsDrainRefusal other slot past on = ⊥

abbrev pub Drains : Settings → List Step → ℕ → ℕ → Result Drained ApplyError → Booked → Booked → List Told → Type 0
Drains k steps pen slot (Ok drained) old new told = IsDrained k steps pen slot drained old new told
Drains k steps pen slot (Err refused) old new told =
    IsDrainRefusal refused slot (run k steps) old.tape.on × BookedAgrees new k steps × Grows [] old.tape new.tape told

-- ---- following the core

-- nothing is missing of a set of slots
abbrev pub KeepsSlots : List ℕ → List ℕ → Type 0
KeepsSlots old new = (c : ℕ) → has old c ≡ true → has new c ≡ true

-- each of these slots is one of the book's, which has this many
abbrev pub AreSlots : ℕ → List ℕ → Type 0
AreSlots slots set = (c : ℕ) → has set c ≡ true → c < slots

-- these slots are in the set too
abbrev pub AddsSlots : (ℕ → Bool) → List ℕ → List ℕ → Type 0
AddsSlots these old new = (c : ℕ) → has new c ≡ (these c || has old c)

-- These slots are some of those that were touched, and their words follow the core; each other word is as it was.
pub record FollowsAt (these : ℕ → Bool) (old new : Booked) : Type 0 where
  pub slots : new.slots ≡ old.slots
  pub table : new.seat.table ≡ old.seat.table
  pub lanes : (c : ℕ) → outbox (conn new.core.conns c) ≡ outbox (conn old.core.conns c)
  pub agrees : (k : Settings) (steps : List Step) → CoreAgrees old.core k steps → CoreAgrees new.core k steps
  pub here : (c : ℕ) → these c ≡ true → Follows (conn old.core.conns c).phase (line_at c old.seat.lines) (line_at c new.seat.lines)
  pub there : (c : ℕ) → these c ≡ true → (k : Settings) (steps : List Step) → CoreAgrees old.core k steps → (conn old.core.conns c).phase ≡ phase c (run k steps).notes
  pub elsewhere : (c : ℕ) → these c ≡ false → line_at c new.seat.lines ≡ line_at c old.seat.lines

-- No touched slot is missed, and each is in the set now.
pub record FollowsTouched (old new : Booked) (before after : List ℕ) : Type 0 where
  pub these : ℕ → Bool
  pub follows : FollowsAt these old new
  pub missed : (c : ℕ) → c < old.slots → these c ≡ false → is_touched old.core.conns c ≡ false
  pub adds : AddsSlots these before after

-- Nor is a slot that was closed.
pub record FollowsCore (s : Step) (old new : Booked) (before after : List ℕ) : Type 0 where
  pub touched : FollowsTouched old new before after
  pub closed : (c : ℕ) → c < old.slots → s ≡ Close c → touched.these c ≡ true
