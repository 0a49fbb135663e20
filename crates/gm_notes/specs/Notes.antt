-- Connections and the server, by the notes. The notes are one list, the newest first.
use Rattle.std.specs.Prelude.{ℕ, zero, suc, Bool, true, false, not, ◌&&◌, ◌==◌, if◌then◌else◌, List, [], ◌∷◌, Option, Some, None, unwrap_or}
use Rattle.gm_notes.specs.declared.states.Phase.{Phase}
use Rattle.gm_notes.specs.declared.states.Phase.TheVariants.{Awake, Asleep, Owed}
use Rattle.gm_notes.specs.declared.states.Mode.{Mode}
use Rattle.gm_notes.specs.declared.states.Mode.TheVariants as modes
use Rattle.gm_notes.specs.declared.note.Note.{Note}
use Rattle.gm_notes.specs.declared.note.Note.TheVariants.{Opened, Shut, Closed, Named, OptionSet, Slept, Woken, Stirred, Took}
use Rattle.gm_notes.specs.declared.note.Note.TheVariants.{Withdrew, Now, Went}

-- the first answer along the notes, or this one if none says a thing
abbrev pub last_said : {A : Type 0} → (Note → Option A) → A → List Note → A
last_said says otherwise [] = otherwise
last_said says otherwise (note ∷ older) = unwrap_or (says note) (last_said says otherwise older)

-- a note about d says this of c
abbrev pub said_of : {A : Type 0} → ℕ → ℕ → A → Option A
said_of c d answer = if c == d then Some answer else None

-- ---- connections

-- whether slot c is open: after Opened, until Closed
abbrev pub says_open : ℕ → Note → Option Bool
says_open c (Opened d addr) = said_of c d true
says_open c (Closed d) = said_of c d false
says_open c note = None

abbrev pub is_open : ℕ → List Note → Bool
is_open c notes = last_said (says_open c) false notes

-- whether slot c takes no more units, since it was opened
abbrev pub says_shut : ℕ → Note → Option Bool
says_shut c (Opened d addr) = said_of c d false
says_shut c (Shut d) = said_of c d true
says_shut c note = None

abbrev pub is_shut : ℕ → List Note → Bool
is_shut c notes = last_said (says_shut c) false notes

-- whether slot c takes units
abbrev pub takes_units : ℕ → List Note → Bool
takes_units c notes = is_open c notes && not (is_shut c notes)

-- the address of the connection, and the id that it gave itself; none at first
abbrev pub says_addr : ℕ → Note → Option (List ℕ)
says_addr c (Opened d addr) = said_of c d addr
says_addr c note = None

abbrev pub addr : ℕ → List Note → List ℕ
addr c notes = last_said (says_addr c) [] notes

abbrev pub says_id : ℕ → Note → Option (List ℕ)
says_id c (Opened d addr) = said_of c d []
says_id c (Named d id) = said_of c d id
says_id c note = None

abbrev pub id : ℕ → List Note → List ℕ
id c notes = last_said (says_id c) [] notes

-- whether the connection wants exceptions
abbrev pub says_option : ℕ → Note → Option Bool
says_option c (Opened d addr) = said_of c d false
says_option c (OptionSet d) = said_of c d true
says_option c note = None

abbrev pub has_option : ℕ → List Note → Bool
has_option c notes = last_said (says_option c) false notes

-- Asleep after Slept, Owed after Woken, otherwise Awake
abbrev pub says_phase : ℕ → Note → Option Phase
says_phase c (Opened d addr) = said_of c d Awake
says_phase c (Closed d) = said_of c d Awake
says_phase c (Slept d) = said_of c d Asleep
says_phase c (Woken d) = said_of c d Owed
says_phase c (Stirred d) = said_of c d Awake
says_phase c (Took d) = said_of c d Awake
says_phase c (Withdrew d) = said_of c d Awake
says_phase c note = None

abbrev pub phase : ℕ → List Note → Phase
phase c notes = last_said (says_phase c) Awake notes

abbrev pub is_asleep : Phase → Bool
is_asleep Asleep = true
is_asleep Awake = false
is_asleep Owed = false

abbrev pub is_awake : Phase → Bool
is_awake Awake = true
is_awake Asleep = false
is_awake Owed = false

abbrev pub is_owed : Phase → Bool
is_owed Owed = true
is_owed Awake = false
is_owed Asleep = false

-- a count of slots, from c on
abbrev pub slots_from : ℕ → ℕ → List ℕ
slots_from c zero = []
slots_from c (suc n) = c ∷ slots_from (suc c) n

-- ---- the server

-- the moment, in seconds; 0 before the first tick
abbrev pub says_moment : Note → Option ℕ
says_moment (Now t) = Some t
says_moment note = None

abbrev pub moment : List Note → ℕ
moment notes = last_said says_moment 0 notes

abbrev pub says_mode : Note → Option Mode
says_mode (Went m) = Some m
says_mode note = None

abbrev pub mode : List Note → Mode
mode notes = last_said says_mode modes.Running notes

-- whether new connections are taken
abbrev pub accepts_connections : Mode → Bool
accepts_connections modes.Running = true
accepts_connections modes.Graceful = false
accepts_connections modes.Stopped = false
