-- The bytes read from a slot's connections, and the units of them that were handed in.
use Rattle.std.specs.Prelude.{◌≡◌, ℕ, ℤ, Bool, true, List, [], ◌∷◌, ◌++◌, Option, Some, None, IfSome}
use Rattle.gm_feeder.specs.declared.units.Limits.{Limits}
use Rattle.gm_feeder.specs.Units.{Item, Waits}
use Rattle.gm_notes.specs.declared.event.UnitFault.{UnitFault}
use Rattle.gm_notes.specs.Settings.{Settings}
use Rattle.gm_notes.specs.Steps.{Close}
use Rattle.gm_front.specs.Units.{steps_of, IsFaultAt, BeginsWith}
use Rattle.gm_shared.specs.declared.tape.Entry.{Entry}
use Rattle.gm_session.specs.declared.heard.Heard.{Heard}
use Rattle.gm_session.specs.declared.heard.Hearings.{Hearings}
use Rattle.gm_session.specs.Sessions.{Adds}

abbrev pub blank : Hearings
blank = record { past = []; since = [] }

-- a connection more is gone, which went through this socket, from which this was read, with whether all whole units
-- of it were handed in
abbrev pub closed : List Entry → Option ℤ → List ℕ → Bool → Hearings → Hearings
closed seen socket read is_whole hearings = record { past = record { since = hearings.since; until = seen; socket = socket; read = read; is_whole = is_whole } ∷ hearings.past; since = seen }

-- only through a socket something was read
abbrev pub IsReadThrough : Option ℤ → List ℕ → Type 0
IsReadThrough None read = read ≡ []
IsReadThrough (Some socket) read = Unit {0}

-- The events handed in at the desk of slot n of one connection: the first units of the bytes read, in order, then
-- the fault after them or none, and its closing. If it is said that these are all, no whole unit is left, and there
-- was no fault.
pub record IsHeard (k : Settings) (n : ℕ) (limits : Limits) (heard : Heard) : Type 0 where
  pub own : IsReadThrough heard.socket heard.read
  pub items : List Item
  pub rest : List ℕ
  pub fault : Option UnitFault
  pub begins : BeginsWith limits heard.read items rest
  pub stands : IfSome fault (λ fault. IsFaultAt limits rest fault)
  pub adds : Adds n (steps_of k n items fault ++ Close n ∷ []) heard.since heard.until
  pub whole : heard.is_whole ≡ true → (fault ≡ None) × Waits limits rest

-- All that the desk of slot n had handed in when it had seen this: what was handed in of each connection, one after
-- another, the newest first.
abbrev pub AreHeard : Settings → ℕ → Limits → List Heard → List Entry → Type 0
AreHeard k n limits [] seen = seen ≡ []
AreHeard k n limits (heard ∷ older) seen = (seen ≡ heard.until) × IsHeard k n limits heard × AreHeard k n limits older heard.since
