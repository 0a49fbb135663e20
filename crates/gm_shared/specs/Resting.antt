-- What is still to be delivered to a slot, by the history, whose newest entry is the first.
use Rattle.std.specs.Prelude.{◌≡◌, ℕ, Bool, true, false, List, [], ◌∷◌, Ok, Err}
use Rattle.gm_conns.specs.Slots.{has}
use Rattle.gm_notes.specs.declared.event.ApplyError.{ApplyError}
use Rattle.gm_notes.specs.declared.event.ApplyError.TheVariants.{NotOpen}
use Rattle.gm_notes.specs.Settings.{Settings}
use Rattle.gm_notes.specs.Flow.{waiting}
use Rattle.gm_notes.specs.Past.{Past}
use Rattle.gm_notes.specs.Steps.{Step}
use Rattle.gm_notes.specs.Servers.{is_closing}
use Rattle.gm_notes.specs.Notes.{is_open, phase}
use Rattle.gm_notes.specs.declared.states.Phase.TheVariants.{Owed}
use Rattle.gm_shared.specs.declared.tape.Entry.{Entry}
use Rattle.gm_shared.specs.declared.receipt.Receipt.{Receipt}
use Rattle.gm_shared.specs.declared.receipt.Drained.{Drained}
use Rattle.gm_shared.specs.Tapes.{is_drain_of}
use Rattle.gm_shared.specs.Calls.{past_of, DeskCalled, PenCalled}

-- no bytes more wait for slot c, it isn't shut now if it wasn't, and it isn't owed a NOOP now if it wasn't
pub record AsksNothing (c : ℕ) (before after : Past) : Type 0 where
  pub bytes : waiting c after.flow ≡ waiting c before.flow
  pub shut : is_closing c after ≡ true → is_closing c before ≡ true
  pub noop : phase c after.notes ≡ Owed → phase c before.notes ≡ Owed

abbrev pub Unless : Bool → Type 0 → Type 0
Unless true rest = Unit {0}
Unless false rest = rest

-- Nothing was asked for slot c since its last drain.
abbrev pub NothingSince : Settings → ℕ → List Entry → Type 0
NothingSince k c [] = Unit {0}
NothingSince k c (e ∷ older) = Unless (is_drain_of c e.step) (AsksNothing c (past_of k older) (past_of k (e ∷ older)) × NothingSince k c older)

-- If the slot is open, nothing was asked for it since its last drain.
abbrev pub Rests : Settings → ℕ → List Entry → Type 0
Rests k c log = is_open c (past_of k log).notes ≡ true → NothingSince k c log

-- Where nothing was asked for a slot no bytes wait for it. Its pen's drain leaves it so, also one that is refused, as the
-- slot isn't open. A desk's call leaves it so unless it touches the slot, and a refused call always does.
pub record DrainedSlotsRest : Type 0 where
  pub idle : (k : Settings) (c : ℕ) (log : List Entry) → Rests k c log → is_open c (past_of k log).notes ≡ true → waiting c (past_of k log).flow ≡ []
  pub drained : (k : Settings) (taped : Bool) (c : ℕ) (given : Drained) (seen after : List Entry) → PenCalled k taped c c (Ok given) seen after → NothingSince k c after
  pub closed : (k : Settings) (taped : Bool) (c : ℕ) (seen after : List Entry) → PenCalled k taped c c (Err NotOpen) seen after → Rests k c after
  pub untouched : (k : Settings) (taped : Bool) (s : Step) (desk : ℕ) (receipt : Receipt) (touched : List ℕ) (seen after : List Entry)
      → (call : DeskCalled k taped s desk (Ok receipt) touched seen after) → (c : ℕ) → has touched c ≡ false → NothingSince k c call.before → NothingSince k c after
  pub refused : (k : Settings) (taped : Bool) (s : Step) (desk : ℕ) (error : ApplyError) (touched : List ℕ) (seen after : List Entry)
      → (call : DeskCalled k taped s desk (Err error) touched seen after) → (c : ℕ) → NothingSince k c call.before → NothingSince k c after
