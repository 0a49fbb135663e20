-- The effect of a piece on a server and a feeder.
use Rattle.std.specs.Prelude.{◌≡◌, ◌⊎◌, ℕ, true, List, ◌++◌, length, Option, None}
use Rattle.gm_feeder.specs.Units.{Item, Spells}
use Rattle.gm_feeder.specs.Streams.{Stream}
use Rattle.gm_notes.specs.declared.event.UnitFault.{UnitFault}
use Rattle.gm_notes.specs.Settings.{Settings}
use Rattle.gm_notes.specs.Notes.{takes_units}
use Rattle.gm_notes.specs.Steps.{Step, refusal, run}
use Rattle.gm_front.specs.declared.feeding.Unloaded.{Unloaded}
use Rattle.gm_front.specs.Units.{Stands, BeginsWith, ComesNext}
use Rattle.gm_front.specs.Inputs.{with_units, faulted, created_since}

-- whatever steps the server agreed with, it agrees with these afterwards, and this is the newest job that was made
abbrev pub AgreesAfter : {S : Type 0} → (S → Settings → List Step → Type 0) → (Settings → List Step → List Step) → Option ℕ → S → S → Type 0
AgreesAfter agrees change created old new =
    (k : Settings) (steps : List Step) → agrees old k steps → agrees new k (change k steps) × (created ≡ created_since k steps (change k steps))

-- it was out of memory for a step that would have been taken, and it agrees with the same steps
abbrev pub Lacks : {S : Type 0} → (S → Settings → List Step → Type 0) → Step → S → S → Type 0
Lacks agrees s old new = (k : Settings) (steps : List Step) → agrees old k steps → agrees new k steps × (refusal k s (run k steps) ≡ None)

-- The units in the feeder are taken; the rest stays, and its fault.
pub record Unloads {S : Type 0} (agrees : S → Settings → List Step → Type 0) (c : ℕ) (server : S) (old : Stream) (unloaded : Unloaded) (server' : S) (new : Stream) : Type 0 where
  pub items : List Item
  pub count : length items ≡ unloaded.units
  pub spelled : Spells old.limits old.pending items new.pending
  pub standing : Stands old.limits new.pending unloaded.fault
  pub limited : new.limits ≡ old.limits
  pub sound : unloaded.fault ≡ None → new.fault ≡ None
  pub after : AgreesAfter agrees (λ k steps. with_units k c items steps) unloaded.created server server'

-- This many units are at the head of the bytes; they were taken, and slot c would have taken more. The next unit
-- wasn't; or, if there was no memory for the piece, none was.
pub record CutsShort {S : Type 0} (agrees : S → Settings → List Step → Type 0) (c : ℕ) (server : S) (old : Stream) (units : ℕ) (server' : S) : Type 0 where
  pub items : List Item
  pub count : length items ≡ units
  pub rest : List ℕ
  pub begins : BeginsWith old.limits old.pending items rest
  pub left : (units ≡ 0) ⊎ ComesNext old.limits rest
  pub after : (k : Settings) (steps : List Step) → agrees server k steps → takes_units c (run k steps).notes ≡ true
      → agrees server' k (with_units k c items steps) × (takes_units c (run k (with_units k c items steps)).notes ≡ true)

-- The piece is taken, and so is what it completes.
pub record TakesPiece {S : Type 0} (agrees : S → Settings → List Step → Type 0) (c : ℕ) (piece : List ℕ) (created : Option ℕ) (server : S) (old : Stream) (server' : S) (new : Stream) : Type 0 where
  pub items : List Item
  pub fault : Option UnitFault
  pub spelled : Spells old.limits (old.pending ++ piece) items new.pending
  pub standing : Stands old.limits new.pending fault
  pub limited : new.limits ≡ old.limits
  pub sound : fault ≡ None → new.fault ≡ None
  pub after : AgreesAfter agrees (λ k steps. faulted k c fault (with_units k c items steps)) created server server'
