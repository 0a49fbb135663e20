-- Where a job is.
use Rattle.std.specs.Prelude.{ℕ, Bool}
use Rattle.gm_notes.specs.declared.states.Place.{Place}
use Rattle.gm_notes.specs.declared.states.Place.TheVariants as places
use Rattle.gm_notes.specs.Places as at

pub data JobState : Type 0 where
  Unmade : JobState
  Waiting : JobState
  Running : ℕ → JobState  -- at this slot
  Lost : JobState  -- running at no slot
  Ended : JobState
  Discarded : JobState

-- as a server tells it: ended and discarded are both gone
abbrev pub place_of : JobState → Place
place_of Unmade = places.Unmade
place_of Waiting = places.Waiting
place_of (Running c) = places.Running c
place_of Lost = places.Lost
place_of Ended = places.Gone
place_of Discarded = places.Gone

-- questions about it, as about its place
abbrev pub is_made : JobState → Bool
is_made state = at.is_made (place_of state)

abbrev pub is_waiting : JobState → Bool
is_waiting state = at.is_waiting (place_of state)

abbrev pub is_running : JobState → Bool
is_running state = at.is_running (place_of state)

abbrev pub is_running_at : ℕ → JobState → Bool
is_running_at c state = at.is_running_at c (place_of state)

abbrev pub is_live : JobState → Bool
is_live state = at.is_live (place_of state)
