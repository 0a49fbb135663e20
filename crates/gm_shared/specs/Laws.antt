-- In which order calls are in the one history.
use Rattle.std.specs.Prelude.{◌≡◌, ◌⊎◌, ℕ, ◌+◌, ◌*◌, Bool, List, ◌++◌, Result}
use Rattle.gm_notes.specs.declared.event.ApplyError.{ApplyError}
use Rattle.gm_notes.specs.Settings.{Settings}
use Rattle.gm_notes.specs.Steps.{Step}
use Rattle.gm_shared.specs.declared.tape.Entry.{Entry}
use Rattle.gm_shared.specs.declared.receipt.Receipt.{Receipt}
use Rattle.gm_shared.specs.declared.receipt.Drained.{Drained}
use Rattle.gm_shared.specs.Histories.{calls_by}
use Rattle.gm_shared.specs.Calls.{DeskCalled, PenCalled, added, drained_entries}

-- a view of the history was the whole of it once, before what is newer
abbrev pub Begins : List Entry → List Entry → Type 0
Begins old new = (newer : List Entry) × (new ≡ newer ++ old)

-- Of two views of one history one begins the other.
abbrev pub OneBeginsTheOther : Type 0
OneBeginsTheOther = (log mine yours : List Entry) → Begins mine log → Begins yours log → Begins mine yours ⊎ Begins yours mine

-- If a desk or a pen has seen what another call left, what it adds in a call comes after all of that.
pub record SeenIsOlder : Type 0 where
  pub desks : (k : Settings) (taped : Bool) (s : Step) (desk : ℕ) (result : Result Receipt ApplyError) (touched : List ℕ) (seen after left : List Entry)
      → (call : DeskCalled k taped s desk result touched seen after) → Begins left seen → Begins left call.before × Begins call.before after
  pub pens : (k : Settings) (taped : Bool) (pen slot : ℕ) (result : Result Drained ApplyError) (seen after left : List Entry)
      → (call : PenCalled k taped pen slot result seen after) → Begins left seen → Begins left call.before × Begins call.before after

-- Of a desk or a pen the history has what each of its calls added, once and in order, and nothing else.
pub record OwnAreWhole : Type 0 where
  pub desks : (k : Settings) (taped : Bool) (s : Step) (desk : ℕ) (result : Result Receipt ApplyError) (touched : List ℕ) (seen after : List Entry)
      → (call : DeskCalled k taped s desk result touched seen after) → calls_by (2 * desk) after ≡ added desk s result call.noop ++ calls_by (2 * desk) seen
  pub pens : (k : Settings) (taped : Bool) (pen slot : ℕ) (result : Result Drained ApplyError) (seen after : List Entry)
      → PenCalled k taped pen slot result seen after → calls_by (2 * pen + 1) after ≡ drained_entries pen slot result ++ calls_by (2 * pen + 1) seen
