-- The answers to `status`, `workers`, `version` and ECHO_REQ.
use Rattle.std.specs.Prelude.{◌≡◌, ◌⊎◌, ℕ, ◌<◌, Bool, true, false, ◌==◌, List, [], ◌∷◌, ◌++◌, length, map, Some}
use Rattle.std.specs.List.{All, list_any}
use Rattle.gm_packet.specs.declared.kind.Kind.TheVariants.{EchoReq, SetClientId}
use Rattle.gm_packet.specs.Requests.{Asked}
use Rattle.gm_packet.specs.Answers.{echo_res}
use Rattle.gm_admin.specs.Commands.{Status, Workers, Version}
use Rattle.gm_admin.specs.Answers.{StatusLine, WorkerLine, status_text, workers_text, version_text}
use Rattle.gm_notes.specs.declared.note.Note.{Note}
use Rattle.gm_notes.specs.Settings.{Settings}
use Rattle.gm_notes.specs.Notes.{is_open, takes_units, addr, id}
use Rattle.gm_notes.specs.Jobs.{Job, job_state, job, functions, is_able}
use Rattle.gm_notes.specs.JobStates.{is_live, is_running}
use Rattle.gm_notes.specs.Past.{Past}
use Rattle.gm_notes.specs.Requests.{first}
use Rattle.gm_notes.specs.Steps.{Step, Open}
use Rattle.gm_history.specs.Causes.{PacketAsks, JustQueues}
use Rattle.gm_laws.specs.Answered.{IsCommanded, JustWrites}
use Rattle.gm_laws.specs.Firsts.{functions_of}

-- ---- counts

abbrev pub is_in : ℕ → List ℕ → Bool
is_in n ns = list_any (λ m. m == n) ns

-- each number is there once
abbrev pub AreApart : List ℕ → Type 0
AreApart [] = Unit {0}
AreApart (n ∷ ns) = (is_in n ns ≡ false) × AreApart ns

-- P holds of as many numbers
abbrev pub Counts : (ℕ → Type 0) → ℕ → Type 0
Counts P many = (ns : List ℕ) × (length ns ≡ many) × AreApart ns × ((n : ℕ) → (is_in n ns ≡ true → P n) × (P n → is_in n ns ≡ true))

-- ---- `status`

abbrev pub IsOf : List ℕ → List Note → ℕ → Type 0
IsOf f notes n = (what : Job) × (job n notes ≡ Some what) × (what.function ≡ f)

-- the row counts the jobs of its function that wait or run, those that run, and the open slots that can do it
abbrev pub IsTrueOf : List Note → StatusLine → Type 0
IsTrueOf notes row =
    Counts (λ n. IsOf row.name notes n × (is_live (job_state n notes) ≡ true)) row.total
    × Counts (λ n. IsOf row.name notes n × (is_running (job_state n notes) ≡ true)) row.running
    × Counts (λ c. (is_open c notes ≡ true) × (is_able c row.name notes ≡ true)) row.workers

-- there is a row for each function, in the order in which they were first named
abbrev pub StatusTells : ℕ → Past → Past → Type 0
StatusTells c before after =
    (rows : List StatusLine) × JustWrites c (status_text rows) before after × (map (λ row. row.name) rows ≡ functions before.notes) × All (IsTrueOf before.notes) rows

-- ---- `workers`

abbrev pub IsRising : List ℕ → Type 0
IsRising [] = Unit {0}
IsRising (c ∷ slots) = ((d : ℕ) → is_in d slots ≡ true → c < d) × IsRising slots

-- these are the open slots, in their order
abbrev pub AreOpenSlots : List Note → List ℕ → Type 0
AreOpenSlots notes slots = IsRising slots × ((c : ℕ) → is_in c slots ≡ is_open c notes)

-- the row has the address, the id and the functions of the connection in its slot
abbrev pub IsOfConnection : List Note → WorkerLine → Type 0
IsOfConnection notes row = (row.addr ≡ addr row.slot notes) × (row.id ≡ id row.slot notes) × (row.functions ≡ functions_of row.slot notes)

abbrev pub WorkersTells : ℕ → Past → Past → Type 0
WorkersTells c before after =
    (rows : List WorkerLine) × JustWrites c (workers_text rows) before after × AreOpenSlots before.notes (map (λ row. row.slot) rows) × All (IsOfConnection before.notes) rows

-- ---- the law

-- such a question of a slot that takes units is answered to it, and nothing happens
abbrev pub AdminTellsTheTruth : Settings → Past → Step → Past → Type 0
AdminTellsTheTruth k before s after =
    ((c : ℕ) → IsCommanded c Status before s → StatusTells c before after × (after.notes ≡ before.notes))
    × ((c : ℕ) → IsCommanded c Workers before s → WorkersTells c before after × (after.notes ≡ before.notes))
    × ((c : ℕ) → IsCommanded c Version before s → JustWrites c version_text before after × (after.notes ≡ before.notes))
    × ((c : ℕ) (asked : Asked) → takes_units c before.notes ≡ true → PacketAsks c s asked → asked.kind ≡ EchoReq →
    JustQueues c (echo_res (first asked.arguments)) before after × (after.notes ≡ before.notes))

-- ---- what a connection is called

-- a connection gets the least slot that is free, has the address from which it was opened, and no id and no functions
-- at first
abbrev pub OpensAs : Past → Step → Past → Type 0
OpensAs before s after = (c : ℕ) → is_open c before.notes ≡ false → is_open c after.notes ≡ true →
    ((d : ℕ) → d < c → is_open d before.notes ≡ true) × (s ≡ Open (addr c after.notes)) × (id c after.notes ≡ []) × (functions_of c after.notes ≡ [])

-- its address stays, and its id is what its last SET_CLIENT_ID said
abbrev pub StaysAs : Past → Step → Past → Type 0
StaysAs before s after = (c : ℕ) → is_open c before.notes ≡ true →
    (addr c after.notes ≡ addr c before.notes)
    × ((id c after.notes ≡ id c before.notes) ⊎ ((asked : Asked) × PacketAsks c s asked × (asked.kind ≡ SetClientId) × (first asked.arguments ≡ id c after.notes)))
    × ((asked : Asked) → takes_units c before.notes ≡ true → PacketAsks c s asked → asked.kind ≡ SetClientId → id c after.notes ≡ first asked.arguments)

-- the functions that there are keep their order, and new ones come last
abbrev pub FunctionsGrow : Past → Past → Type 0
FunctionsGrow before after = (new : List (List ℕ)) × (functions after.notes ≡ functions before.notes ++ new)

abbrev pub ConnectionsAreNamed : Settings → Past → Step → Past → Type 0
ConnectionsAreNamed k before s after = OpensAs before s after × StaysAs before s after × FunctionsGrow before after
