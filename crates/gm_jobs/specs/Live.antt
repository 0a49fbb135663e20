-- Live jobs.
use Rattle.std.specs.Prelude.{◌≡◌, ℕ, Bool, true, false, not, ◌&&◌, ◌||◌, ◌==◌, ◌+◌, ◌≤◌, nat_le, if◌then◌else◌, List, [], ◌∷◌, ◌++◌, length, filter}
use Rattle.std.specs.Prelude.{Option, Some, None}
use Rattle.std.specs.Str.{bytes_eq}
use Rattle.gm_packet.specs.Packets.{has_nul}
use Rattle.gm_notes.specs.declared.states.Priority.{Priority}
use Rattle.gm_notes.specs.declared.states.Place.{Place}
use Rattle.gm_notes.specs.declared.states.Place.TheVariants as places
use Rattle.gm_notes.specs.Closings.{is_reached}
use Rattle.gm_jobs.specs.declared.job.LivePlace.{LivePlace}
use Rattle.gm_jobs.specs.declared.job.LivePlace.TheVariants.{Waiting, Running, Lost}
use Rattle.gm_jobs.specs.declared.job.Body.{Body}
use Rattle.gm_jobs.specs.declared.job.Body.TheVariants.{Own, Shared}

-- Its function, priority, unique id and body; whether a background submission keeps it; whether it waits or runs, how
-- often it came back if that is counted, and the moment at which it fails; how far it is, once that was reported;
-- and its listeners, in the order in which they came, once for each time.
pub record Live : Type 0 where
  pub function : ℕ
  pub priority : Priority
  pub unique : List ℕ
  pub body : List ℕ
  pub kept : Bool
  pub live_place : LivePlace
  pub returns : ℕ
  pub deadline : Option ℕ
  pub report : Option (List ℕ × List ℕ)
  pub listeners : List ℕ

-- two texts that packets can carry one after the other: the first without NUL, and both of at most 1,073,741,824 bytes
pub record AreCarried (first last : List ℕ) : Type 0 where
  pub plain : has_nul first ≡ false
  pub sized : length first + length last ≤ 1073741824

-- the bytes of a body, its own or shared
abbrev pub body_bytes : Body → List ℕ
body_bytes (Own bytes) = bytes.items
body_bytes (Shared bytes) = bytes

abbrev pub listed : Option ℕ → List ℕ
listed None = []
listed (Some slot) = slot ∷ []

-- a job as it is made
abbrev pub fresh : ℕ → Priority → List ℕ → List ℕ → Bool → Option ℕ → Live
fresh f p unique body kept listener =
    record { function = f; priority = p; unique = unique; body = body; kept = kept; live_place = Waiting; returns = 0; deadline = None; report = None; listeners = listed listener }

abbrev pub assigned : ℕ → Option ℕ → Live → Live
assigned slot deadline live = record live { live_place = Running slot; deadline = deadline }

-- it waits again, and came back once more; without a limit that isn't counted
abbrev pub returned : ℕ → Live → Live
returned limit live = record live { live_place = Waiting; deadline = None; returns = (if limit == 0 then live.returns else live.returns + 1) }

-- its last worker went: the next tick fails it
abbrev pub lost : Live → Live
lost live = record live { live_place = Lost; deadline = Some 0 }

-- its worker is the last that it is given to, if there is a limit; 0 is no limit
abbrev pub is_last_try : ℕ → Live → Bool
is_last_try limit live = not (limit == 0) && nat_le limit (live.returns + 1)

abbrev pub given_back : ℕ → Live → Live
given_back limit live = if is_last_try limit live then lost live else returned limit live

abbrev pub kept : Live → Live
kept live = record live { kept = true }

abbrev pub reported : List ℕ → List ℕ → Live → Live
reported numerator denominator live = record live { report = Some (numerator, denominator) }

abbrev pub with_listener : ℕ → Live → Live
with_listener slot live = record live { listeners = live.listeners ++ slot ∷ [] }

-- the slot doesn't listen any more, however often it did
abbrev pub without_listener : ℕ → Live → Live
without_listener slot live = record live { listeners = filter (λ c. not (c == slot)) live.listeners }

abbrev pub place_at : LivePlace → Place
place_at Waiting = places.Waiting
place_at (Running slot) = places.Running slot
place_at Lost = places.Lost

-- ---- questions

abbrev pub is_named : ℕ → List ℕ → Live → Bool
is_named f unique live = live.function == f && bytes_eq live.unique unique

abbrev pub waits : LivePlace → Bool
waits Waiting = true
waits (Running slot) = false
waits Lost = false

abbrev pub runs_at : ℕ → LivePlace → Bool
runs_at slot Waiting = false
runs_at slot (Running c) = c == slot
runs_at slot Lost = false

-- it runs at the slot
abbrev pub is_run_by : ℕ → Live → Bool
is_run_by slot live = runs_at slot live.live_place

-- somebody wants it
abbrev pub is_wanted : Live → Bool
is_wanted live = live.kept || not (length live.listeners == 0)

-- it waits, and nobody wants it
abbrev pub is_orphan : Live → Bool
is_orphan live = waits live.live_place && not live.kept && length live.listeners == 0

-- it doesn't wait, and its deadline is reached
abbrev pub is_due : ℕ → Live → Bool
is_due now live = not (waits live.live_place) && is_reached live.deadline now
