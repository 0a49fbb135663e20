-- The table of functions, as its callers see it.
use Rattle.std.specs.Prelude.{◌≡◌, ℕ, ◌+◌, ◌*◌, ◌<◌, ◌≤◌, ◌==◌, Bool, false, ◌&&◌, if◌then◌else◌, Option}
use Rattle.std.specs.Prelude.{List, [], ◌++◌, length, position, slice_index, slice_index_or}
use Rattle.std.specs.Str.{bytes_eq}
use Rattle.std.specs.declared.hash.RandomState.{RandomState}
use Rattle.gm_packet.specs.Packets.{has_nul}
use Rattle.gm_notes.specs.declared.states.Priority.{Priority}
use Rattle.gm_notes.specs.declared.states.Priority.TheVariants.{High, Normal, Low}
use Rattle.gm_notes.specs.Jobs.{same_priority, rank}
use Rattle.gm_notes.specs.Submissions.{max_name}
use Rattle.gm_queues.specs.Queues.{Queue, Leaves, no_jobs, idle}

-- The seed with which it hashes; how many functions there may be; their names in the order of mention; their limits;
-- and their queues, three for each function, as `queue` finds them.
pub record Table : Type 0 where
  pub seed : RandomState
  pub most : ℕ
  pub names : List (List ℕ)
  pub limits : List ℕ
  pub queues : List Queue

-- a name that packets can carry: not too long, and without NUL
pub record IsName (name : List ℕ) : Type 0 where
  pub plain : has_nul name ≡ false
  pub sized : length name ≤ max_name

-- no functions, with this bound on their number
abbrev pub no_functions : RandomState → ℕ → Table
no_functions seed most = record { seed = seed; most = most; names = []; limits = []; queues = [] }

-- the number of the function of this name
abbrev pub number_of : List ℕ → Table → Option ℕ
number_of name table = position (bytes_eq name) table.names

-- the limit of a function; 0 is no limit
abbrev pub limit : Table → ℕ → ℕ
limit table f = slice_index table.limits f

-- the queue of a function and a priority
abbrev pub queue : Table → ℕ → Priority → Queue
queue table f p = slice_index_or table.queues (3 * f + rank p) no_jobs

-- all that waits for a function, in the order in which it is given out
abbrev pub waiting_for : Table → ℕ → List ℕ
waiting_for table f = (queue table f High).jobs ++ (queue table f Normal).jobs ++ (queue table f Low).jobs

-- how much reserved room of a function no waiting job uses
abbrev pub running_of : Table → ℕ → ℕ
running_of table f = idle (queue table f High) + idle (queue table f Normal) + idle (queue table f Low)

-- room is reserved that no waiting job uses
abbrev pub HasIdleRoom : Table → ℕ → Priority → Type 0
HasIdleRoom table f p = length (queue table f p).jobs < (queue table f p).reserved

abbrev pub is_queue : ℕ → Priority → ℕ → Priority → Bool
is_queue f p g q = f == g && same_priority p q

-- The queue of this function and priority is what the change makes of it, and nothing else changes.
pub record ChangesQueue (f : ℕ) (p : Priority) (change : Queue → Queue) (old new : Table) : Type 0 where
  pub seed : new.seed ≡ old.seed
  pub most : new.most ≡ old.most
  pub names : new.names ≡ old.names
  pub limits : new.limits ≡ old.limits
  pub queues : (g : ℕ) (q : Priority) → queue new g q ≡ (if is_queue f p g q then change (queue old g q) else queue old g q)

-- The job left the queue of this function and priority, and nothing else changes.
pub record ForgetsJob (f : ℕ) (p : Priority) (job : ℕ) (old new : Table) : Type 0 where
  pub seed : new.seed ≡ old.seed
  pub most : new.most ≡ old.most
  pub names : new.names ≡ old.names
  pub limits : new.limits ≡ old.limits
  pub left : Leaves job (queue old f p) (queue new f p)
  pub others : (g : ℕ) (q : Priority) → is_queue f p g q ≡ false → queue new g q ≡ queue old g q

-- The function has this limit, and nothing else changes.
pub record SetsLimit (f size : ℕ) (old new : Table) : Type 0 where
  pub seed : new.seed ≡ old.seed
  pub most : new.most ≡ old.most
  pub names : new.names ≡ old.names
  pub limits : (g : ℕ) → limit new g ≡ (if f == g then size else limit old g)
  pub queues : new.queues ≡ old.queues

-- These are the functions now. Each has the limit and the queues that it had; one that is new, or gone,
-- has none.
pub record ChangesNames (now : List (List ℕ)) (old new : Table) : Type 0 where
  pub seed : new.seed ≡ old.seed
  pub most : new.most ≡ old.most
  pub names : new.names ≡ now
  pub limits : (g : ℕ) → limit new g ≡ limit old g
  pub queues : (g : ℕ) (q : Priority) → queue new g q ≡ queue old g q

-- The function's queues have no jobs and no reserved room, and it has no limit.
pub record IsFree (f : ℕ) (table : Table) : Type 0 where
  pub limit : limit table f ≡ 0
  pub queues : (q : Priority) → queue table f q ≡ no_jobs
