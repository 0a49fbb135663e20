-- Questions about a place, as a server tells it.
use Rattle.std.specs.Prelude.{ℕ, Bool, true, false, ◌||◌, ◌==◌}
use Rattle.gm_notes.specs.declared.states.Place.{Place}
use Rattle.gm_notes.specs.declared.states.Place.TheVariants.{Unmade, Waiting, Running, Lost, Gone}

-- the job was made
abbrev pub is_made : Place → Bool
is_made Unmade = false
is_made Waiting = true
is_made (Running c) = true
is_made Lost = true
is_made Gone = true

abbrev pub is_waiting : Place → Bool
is_waiting Unmade = false
is_waiting Waiting = true
is_waiting (Running c) = false
is_waiting Lost = false
is_waiting Gone = false

-- a lost job runs, at no slot
abbrev pub is_running : Place → Bool
is_running Unmade = false
is_running Waiting = false
is_running (Running c) = true
is_running Lost = true
is_running Gone = false

abbrev pub is_running_at : ℕ → Place → Bool
is_running_at c Unmade = false
is_running_at c Waiting = false
is_running_at c (Running d) = c == d
is_running_at c Lost = false
is_running_at c Gone = false

-- the job waits or runs
abbrev pub is_live : Place → Bool
is_live place = is_waiting place || is_running place
