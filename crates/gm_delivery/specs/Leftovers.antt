-- The work that a delivery leaves, and the work done at a lane.
use Rattle.std.specs.Prelude.{◌≡◌, ◌⊎◌, ◌<◌, ℕ, Option, Some, None}
use Rattle.atomic_table.specs.Seated.{TableId}
use Rattle.gm_lane_word.specs.Seats.{Count}
use Rattle.gm_delivery.specs.declared.finish.Deliverer.{Deliverer}
use Rattle.gm_delivery.specs.declared.finish.Deliverer.TheVariants.{Finisher, Reader, Other}
use Rattle.gm_delivery.specs.declared.finish.Finish.{Finish}
use Rattle.gm_delivery.specs.declared.finish.Finish.TheVariants.{Pending, Again}

-- the finisher comes again by itself; for another thread it is to be woken
abbrev pub finish_of : Option Finish → Deliverer → Option Finish
finish_of (Some Pending) (Finisher patience) = Some Pending
finish_of (Some Pending) Reader = Some Again
finish_of (Some Pending) Other = Some Again
finish_of finish deliverer = finish

-- a thread that isn't the finisher never leaves work for which the finisher would come again by itself
abbrev pub IsLeftBy : Deliverer → Option Finish → Type 0
IsLeftBy (Finisher patience) finish = Unit {0}
IsLeftBy deliverer (Some Pending) = ⊥
IsLeftBy deliverer finish = Unit {0}

-- the lane was left to its finisher
abbrev pub HandsOver : Option Count → Type 0
HandsOver None = ⊥
HandsOver (Some count) = 0 < count.hand_overs

-- this thread touched this lane once, and made an attempt if it found that the lane was idle
pub record Tries (lane : TableId) (count : Count) : Type 0 where
  pub lane_is : count.lane ≡ lane
  pub once : count.touches ≡ 1
  pub attempt : count.found ≡ 0 → 0 < count.attempts

abbrev pub Tried : TableId → Option Count → Type 0
Tried lane None = ⊥
Tried lane (Some count) = Tries lane count

-- it took this lane over, and made an attempt if it found that the lane was idle or left
pub record TriesOver (lane : TableId) (count : Count) : Type 0 where
  pub lane_is : count.lane ≡ lane
  pub once : count.touches ≡ 1
  pub over : count.take_overs ≡ 1
  pub attempt : (count.found ≡ 0 ⊎ count.found ≡ 3) → 0 < count.attempts

abbrev pub TriedOver : TableId → Option Count → Type 0
TriedOver lane None = ⊥
TriedOver lane (Some count) = TriesOver lane count

-- it touched this lane once, and left it to its finisher if it found that the lane was idle
pub record Leaves (lane : TableId) (count : Count) : Type 0 where
  pub lane_is : count.lane ≡ lane
  pub once : count.touches ≡ 1
  pub left : count.found ≡ 0 → count.hand_overs ≡ 1

abbrev pub Left : TableId → Option Count → Type 0
Left lane None = ⊥
Left lane (Some count) = Leaves lane count

-- it took this lane over if it was left, and made an attempt then; if it made none, the lane wasn't left
pub record TriesLeft (lane : TableId) (count : Count) : Type 0 where
  pub lane_is : count.lane ≡ lane
  pub attempt : count.found ≡ 3 → 0 < count.attempts

abbrev pub TriedLeft : TableId → Option Count → Type 0
TriedLeft lane None = ⊥
TriedLeft lane (Some count) = TriesLeft lane count

-- a thread that has the lane made an attempt more there
abbrev pub Attempted : Count → Option Count → Type 0
Attempted claim None = ⊥
Attempted claim (Some count) = (0 < count.attempts) × (record count { attempts = claim.attempts; hand_overs = claim.hand_overs } ≡ claim)
