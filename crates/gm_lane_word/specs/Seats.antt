-- A seat, as its callers see it.
use Rattle.std.specs.Prelude.{◌≡◌, ◌⊎◌, ℕ, ◌+◌, []}
use Rattle.atomic_table.specs.Seated.{TableId}
use Rattle.atomic_table.specs.declared.shared.Seat.{Seat}
use Rattle.gm_lane_word.specs.declared.view.Hold.{Hold}
use Rattle.gm_lane_word.specs.declared.view.LaneView.{LaneView}

-- a thread's work at a lane: touches, those among them that were take-overs, attempts that were begun, and
-- hand-overs; and the word that its last touch found, or that it found when it came
pub record Count : Type 0 where
  pub lane : TableId
  pub touches : ℕ
  pub take_overs : ℕ
  pub attempts : ℕ
  pub hand_overs : ℕ
  pub found : ℕ

-- one touch, which found this word
abbrev pub one_touch : TableId → ℕ → Count
one_touch lane found = record { lane = lane; touches = 1; take_overs = 0; attempts = 0; hand_overs = 0; found = found }

-- one touch, which was a take-over
abbrev pub one_take_over : TableId → ℕ → Count
one_take_over lane found = record { lane = lane; touches = 1; take_overs = 1; attempts = 0; hand_overs = 0; found = found }

-- a touch has the lane if it found that it was idle
abbrev pub Touched : TableId → Count → Type 0
Touched lane count = (count ≡ one_touch lane count.found) × (count.found ≡ 0)

-- and otherwise another thread tries after it, or the finisher
abbrev pub LeftToOthers : TableId → Count → Type 0
LeftToOthers lane count = (count ≡ one_touch lane count.found) × (count.found ≡ 0 → ⊥)

-- a take-over has the lane if it found that it was idle or left
abbrev pub TakenOver : TableId → Count → Type 0
TakenOver lane count = (count ≡ one_take_over lane count.found) × (count.found ≡ 0 ⊎ count.found ≡ 3)

-- and otherwise another thread has it
abbrev pub TakenBefore : TableId → Count → Type 0
TakenBefore lane count = (count ≡ one_take_over lane count.found) × (count.found ≡ 0 → ⊥) × (count.found ≡ 3 → ⊥)

-- one attempt more
abbrev pub with_attempt : Count → Count
with_attempt count = record count { attempts = count.attempts + 1 }

-- one hand-over more
abbrev pub with_hand_over : Count → Count
with_hand_over count = record count { hand_overs = count.hand_overs + 1 }

-- the counts of a seat
abbrev pub count_of : Seat (Unit {0}) LaneView → Count
count_of seat =
    record { lane = seat.table_id; touches = seat.me.0.touches; take_overs = seat.me.0.take_overs; attempts = seat.me.0.attempts; hand_overs = seat.me.0.hand_overs; found = seat.me.0.found }

-- the seat is at the lane, and has this of it
pub record SitsAt (hold : Hold) (lane : TableId) (seat : Seat (Unit {0}) LaneView) : Type 0 where
  pub lane_is : seat.table_id ≡ lane
  pub hold_is : seat.me.0.hold ≡ hold
  pub empty : seat.me.1 ≡ []
