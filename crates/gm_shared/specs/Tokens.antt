-- The entries of the history.
use Rattle.std.specs.Prelude.{◌≡◌, ℕ, ◌+◌, List, [], ◌∷◌, ◌++◌, Option, Some, None}
use Rattle.gm_notes.specs.Steps.{Step}
use Rattle.gm_notes.specs.Servers.{step_of}
use Rattle.gm_notes.specs.declared.event.Done.{Done}
use Rattle.gm_shared.specs.declared.tape.Entry.{Entry}
use Rattle.gm_shared.specs.declared.what.What.{What}
use Rattle.gm_shared.specs.declared.what.What.TheVariants as whats
use Rattle.gm_shared.specs.Tapes.{tape_step, noop_entries, event_entry, drain_entry}

-- an event that was taken, before the older entries
abbrev pub if_done : ℕ → Step → Option Done → List Entry → List Entry
if_done desk s None older = older
if_done desk s (Some done) older = event_entry desk (tape_step s) done ∷ older

-- by the number of the desk or the pen, the newest first
abbrev pub entries_of : ℕ → What → List Entry
entries_of n (whats.Call noop event done) = if_done n (step_of event) done (noop_entries n noop)
entries_of n (whats.Drain slot bytes) = drain_entry n slot bytes.now.bytes ∷ []
entries_of n whats.Nothing = []
