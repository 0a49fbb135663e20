-- Jobs that can be given out: each is the first in a queue.
use Rattle.std.specs.Prelude.{◌≡◌, ℕ, Some, slice_get}
use Rattle.gm_notes.specs.declared.states.Priority.{Priority}
use Rattle.gm_queues.specs.FunctionTables.{Table, queue}

-- of the jobs that wait for this function with some priority, this is the first
pub record IsFirst (table : Table) (f n : ℕ) : Type 0 where
  pub priority : Priority
  pub is : slice_get (queue table f priority).jobs 0 ≡ Some n
