-- The six kinds of step at a lane's word, and the rule that they keep.
use Rattle.std.specs.Prelude.{◌≡◌, ◌≢◌, ℕ, ◌-◌, ◌<◌, ◌≤◌, max, List, [], ◌∷◌, ◌++◌, slice_set}
use mathlib.Core.Option.{some}
use lib.ListN.{get_elem?}
use Rattle.atomic_table.specs.Table.{Me, Step as Operands}
use Rattle.gm_lane_word.specs.declared.view.Hold.TheVariants.{Free, Claims, Attempts}
use Rattle.gm_lane_word.specs.declared.view.LaneView.{LaneView}
use Rattle.gm_lane_word.specs.Lane.{fresh_view, entered, touched, taken_over, attempted, finished, after_finish, handed_over, taken, touches_of, answers_of}
use Rattle.gm_lane_word.specs.Lane.{owners_of, owing_of}

-- One atomic step, of one of the six kinds.
pub data Step (word : ℕ) (views : List LaneView) : ℕ → List LaneView → Type 0 where
  -- a new seat comes, and has touched the lane if an attempt is owed anyway
  enters : Step word views word (views ++ entered word ∷ [])
  -- a seat touches the lane: idle and busy become claimed, and left stays
  touches : (seat : ℕ) (view : LaneView) → get_elem? views seat ≡ some view → Step word views (max word 2) (slice_set views seat (touched word view))
  -- a new seat, the finisher's, touches the lane, and takes it over if it is left
  takes_over : Step word views 2 (views ++ taken_over word ∷ [])
  -- the thread that has the lane and owes an attempt begins one: it follows all touches so far
  attempts : (seat : ℕ) (view : LaneView) → get_elem? views seat ≡ some view → view.hold ≡ Claims
      → Step word views 1 (slice_set views seat (attempted (touches_of views - answers_of views) view))
  -- the thread that began an attempt gives the lane up, unless it was touched since
  finishes : (seat : ℕ) (view : LaneView) → get_elem? views seat ≡ some view → view.hold ≡ Attempts
      → Step word views (finished word) (slice_set views seat (after_finish word view))
  -- the thread that has the lane leaves it to the finisher
  hands_over : (seat : ℕ) (view : LaneView) → get_elem? views seat ≡ some view → view.hold ≢ Free
      → Step word views 3 (slice_set views seat (handed_over view))

-- the words and views to which steps lead from the opening of a lane, whatever the threads do
pub data Reached : ℕ → List LaneView → Type 0 where
  opens : Reached 0 (fresh_view ∷ [])
  steps : (word : ℕ) (views : List LaneView) (next : ℕ) (after : List LaneView) → Reached word views → Step word views next after → Reached next after

-- the table has one word, and steps have led to it
pub record IsLane (words : List ℕ) (views : List LaneView) : Type 0 where
  pub word : ℕ
  pub one : words ≡ word ∷ []
  pub reached : Reached word views

-- The rule of the word. One seat has the lane exactly if the word says so, and it has begun an attempt if the word is
-- busy; and no touch is without an attempt if the word is idle or busy.
pub record Keeps (word : ℕ) (views : List LaneView) : Type 0 where
  pub small : word < 4
  pub owner : owners_of views ≡ taken word
  pub begun : word ≡ 1 → owing_of views ≡ 0
  pub answered : answers_of views ≤ touches_of views
  pub all_answered : word < 2 → touches_of views ≡ answers_of views

-- A thread owes the lane an attempt: the one that has it and is yet to begin one, or the finisher.
pub data IsClaimed (word : ℕ) (views : List LaneView) : Type 0 where
  by_owner : (seat : ℕ) (view : LaneView) → get_elem? views seat ≡ some view → view.hold ≢ Free → word ≡ 2 → IsClaimed word views
  by_finisher : word ≡ 3 → IsClaimed word views

-- the result of each kind of step, for the seat that makes it
abbrev pub TellsEnter : Operands (Unit {0}) → Me (Unit {0}) LaneView → ℕ → Me (Unit {0}) LaneView → Type 0
TellsEnter step before found after = after ≡ (entered found, [])

abbrev pub TellsTouch : Operands (Unit {0}) → Me (Unit {0}) LaneView → ℕ → Me (Unit {0}) LaneView → Type 0
TellsTouch step before found after = after ≡ (touched found before.0, before.1)

abbrev pub TellsTakeOver : Operands (Unit {0}) → Me (Unit {0}) LaneView → ℕ → Me (Unit {0}) LaneView → Type 0
TellsTakeOver step before found after = (found < 4) × (after ≡ (taken_over found, []))

abbrev pub TellsAttempt : Operands (Unit {0}) → Me (Unit {0}) LaneView → ℕ → Me (Unit {0}) LaneView → Type 0
TellsAttempt step before found after = (unanswered : ℕ) × (after ≡ (attempted unanswered before.0, before.1))

abbrev pub TellsFinish : Operands (Unit {0}) → Me (Unit {0}) LaneView → ℕ → Me (Unit {0}) LaneView → Type 0
TellsFinish step before found after = after ≡ (after_finish found before.0, before.1)

abbrev pub TellsHandOver : Operands (Unit {0}) → Me (Unit {0}) LaneView → ℕ → Me (Unit {0}) LaneView → Type 0
TellsHandOver step before found after = after ≡ (handed_over before.0, before.1)
