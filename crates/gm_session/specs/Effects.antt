-- The effects of events, for the threads that are notified.
use Rattle.std.specs.Prelude.{◌≡◌, ◌<◌, ◌≤◌, ℕ, ◌==◌, Bool, true, false, not, ◌&&◌, List, [], Option, Some, None, Result, Ok, Err}
use Rattle.gm_conns.specs.Slots.{has}
use Rattle.gm_lane_word.specs.declared.due.Due.{Due}
use Rattle.gm_notes.specs.declared.event.ApplyError.{ApplyError}
use Rattle.gm_notes.specs.declared.states.Mode.{Mode}
use Rattle.gm_notes.specs.declared.states.Mode.TheVariants.{Running, Graceful, Stopped}
use Rattle.gm_notes.specs.Settings.{Settings}
use Rattle.gm_notes.specs.Steps.{Step}
use Rattle.gm_shared.specs.declared.receipt.Receipt.{Receipt}
use Rattle.gm_shared.specs.declared.tape.Entry.{Entry}
use Rattle.gm_shared.specs.Books.{KeepsSlots}
use Rattle.gm_shared.specs.Calls.{DeskCalled, HandedIn}

-- the slots that were touched, and whether the server goes on
pub record EffectsState : Type 0 where
  pub touched : List ℕ
  pub mode : Mode

-- no effects: no slot is touched, and the server goes on
pub record IsNothing (effects : EffectsState) : Type 0 where
  pub touched : (c : ℕ) → has effects.touched c ≡ false
  pub mode : effects.mode ≡ Running

-- the mode that a server reaches later of two: it doesn't go back
abbrev pub later : Mode → Mode → Mode
later Stopped other = Stopped
later Graceful Stopped = Stopped
later Graceful other = Graceful
later Running other = other

-- No touched slot is lost, and this mode isn't either.
pub record Collects (mode : Mode) (old new : EffectsState) : Type 0 where
  pub slots : KeepsSlots old.touched new.touched
  pub mode_is : new.mode ≡ later old.mode mode

-- the effects of an event are kept; a refused event has none
abbrev pub Kept : Result Receipt ApplyError → EffectsState → EffectsState → Type 0
Kept (Ok receipt) old new = Collects receipt.mode old new
Kept (Err refused) old new = new ≡ old

-- An event was handed in at the desk, and no slot that it touched, or that was touched before, is lost to the threads
-- that are notified.
pub record Keeps (k : Settings) (taped : Bool) (s : Step) (desk : ℕ) (answer : Result Receipt ApplyError) (before after : List Entry) (old new : EffectsState) : Type 0 where
  pub called : DeskCalled k taped s desk answer new.touched before after
  pub kept : Kept answer old new

-- the present second may have been handed in at the control desk, and no slot that was touched and no mode is lost
abbrev pub Ticks : EffectsState → EffectsState → Type 0
Ticks old new = (mode : Mode) × Collects mode old new

-- The effects of each event that the desk handed in meanwhile were added, one event after another, and perhaps those of
-- ticks; and nothing was taken out of them.
pub data Gathers (k : Settings) (taped : Bool) (desk : ℕ) (seen : List Entry) (old : EffectsState) : List Entry → EffectsState → Type 0 where
  nothing : Gathers k taped desk seen old seen old
  event : (s : Step) (receipt : Receipt) (mid after : List Entry) (between new : EffectsState) → Gathers k taped desk seen old mid between
      → Keeps k taped s desk (Ok receipt) mid after between new → Gathers k taped desk seen old after new
  tick : (mid : List Entry) (between new : EffectsState) → Gathers k taped desk seen old mid between → Ticks between new → Gathers k taped desk seen old mid new
  refusal : (mid after : List Entry) (between : EffectsState) → Gathers k taped desk seen old mid between → HandedIn desk [] mid after → Gathers k taped desk seen old after between

-- The delivery due to a slot of the book is taken out, and nothing else.
pub record Takes (k : Settings) (due : Due) (old new : EffectsState) : Type 0 where
  pub within : due.slot < k.slots
  pub was : has old.touched due.slot ≡ true
  pub slots : (c : ℕ) → has new.touched c ≡ (not (c == due.slot) && has old.touched c)
  pub mode : new.mode ≡ old.mode

-- it is that of the first touched slot from one on; none if there is no such slot
abbrev pub TakesDue : Settings → ℕ → Option Due → EffectsState → EffectsState → Type 0
TakesDue k from None old new = (new ≡ old) × ((c : ℕ) → from ≤ c → has old.touched c ≡ false)
TakesDue k from (Some due) old new = (from ≤ due.slot) × ((c : ℕ) → from ≤ c → c < due.slot → has old.touched c ≡ false) × Takes k due old new

-- it is that of this slot, if it is touched
abbrev pub TakesAt : Settings → ℕ → Option Due → EffectsState → EffectsState → Type 0
TakesAt k slot None old new = (new ≡ old) × (has old.touched slot ≡ false)
TakesAt k slot (Some due) old new = (due.slot ≡ slot) × Takes k due old new
