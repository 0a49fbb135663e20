-- The text printed for a script.
use Rattle.std.specs.Prelude.{◌≡◌, ℕ, zero, suc, ◌/◌, ◌%◌, ◌==◌, Bool, true, false, not, ◌&&◌, if◌then◌else◌, List, [], ◌∷◌, ◌++◌, length, codes, decimal, Option, Some, None}
use Rattle.std.specs.List.{flat_map}
use Rattle.std.specs.Char.{digit_char}
use Rattle.gm_feeder.specs.declared.units.Limits.{Limits}
use Rattle.gm_packet.specs.Answers.{noop, answer_packet}
use Rattle.gm_notes.specs.declared.event.ApplyError.{ApplyError}
use Rattle.gm_notes.specs.Numbers.{apply_error_number}
use Rattle.gm_notes.specs.Settings.{Settings}
use Rattle.gm_notes.specs.Notes.{is_open}
use Rattle.gm_notes.specs.Flow.{waiting}
use Rattle.gm_notes.specs.Past.{Past}
use Rattle.gm_notes.specs.Steps.{Step, Took, Drain}
use Rattle.gm_notes.specs.Steps.{run}
use Rattle.gm_notes.specs.Servers.{is_closing, owes}
use Rattle.gm_front.specs.Inputs.{Input, Reading, nothing_read, Adds, refusal_of, opened_by}
use Rattle.gm_play.specs.Scripts.{Order, Skip, Bad, Hands, order_of, lines_of}

-- ---- printed lines, each with its newline (10)

-- the two hexadecimal digits of a byte, in lower case
abbrev pub hex_pair : ℕ → List ℕ
hex_pair byte = digit_char (byte / 16) ∷ digit_char (byte % 16) ∷ []

abbrev pub hex_of : List ℕ → List ℕ
hex_of bytes = flat_map hex_pair bytes

-- `bad line`
abbrev pub bad_text : List ℕ
bad_text = codes "bad line" ++ 10 ∷ []

-- `refused` and the number of the refusal
abbrev pub refused_text : ApplyError → List ℕ
refused_text refused = codes "refused " ++ decimal (apply_error_number refused) ++ 10 ∷ []

-- the slot and `open`
abbrev pub open_text : ℕ → List ℕ
open_text c = decimal c ++ codes " open" ++ 10 ∷ []

-- the slot and the bytes, if there are any
abbrev pub bytes_text : ℕ → List ℕ → List ℕ
bytes_text c bytes = if length bytes == 0 then [] else decimal c ++ codes " " ++ hex_of bytes ++ 10 ∷ []

-- the slot and `shut`, if it became so
abbrev pub shut_text : ℕ → Bool → List ℕ
shut_text c became = if became then decimal c ++ codes " shut" ++ 10 ∷ [] else []

-- ---- what comes of a line

-- the NOOP, if one is taken
abbrev pub noop_if : Bool → List ℕ
noop_if true = answer_packet noop
noop_if false = []

-- the text printed of slot c, which was shut before or wasn't: the bytes that wait for it, the NOOP that is owed to it,
-- and whether it became shut; nothing if it isn't open
abbrev pub told_of : ℕ → Bool → Past → List ℕ
told_of c shut now =
    if is_open c now.notes then bytes_text c (waiting c now.flow ++ noop_if (owes c now)) ++ shut_text c (is_closing c now && not shut) else []

abbrev pub took_if : Bool → ℕ → List Step → List Step
took_if true c steps = Took c ∷ steps
took_if false c steps = steps

-- the bytes that waited for slot c are taken, and then the NOOP that is owed to it, if it is open
abbrev pub drain_of : Settings → ℕ → List Step → List Step
drain_of k c steps = if is_open c (run k steps).notes then took_if (owes c (run k steps)) c (Drain c ∷ steps) else steps

-- the text printed of the n slots from c on, one after another, since it was so before
abbrev pub told : Settings → Past → ℕ → ℕ → List Step → List ℕ
told k before c zero steps = []
told k before c (suc n) steps = told_of c (is_closing c before) (run k steps) ++ told k before (suc c) n (drain_of k c steps)

-- the steps once these are drained
abbrev pub drained : Settings → ℕ → ℕ → List Step → List Step
drained k c zero steps = steps
drained k c (suc n) steps = drained k (suc c) n (drain_of k c steps)

-- From old, a line led to mid and printed this at once; then each slot is printed and drained.
pub record Settles (k : Settings) (old mid : Reading) (said text : List ℕ) (new : Reading) : Type 0 where
  pub printed : text ≡ said ++ told k (run k old.steps) 0 k.slots mid.steps
  pub taken : new ≡ record mid { steps = drained k 0 k.slots mid.steps }

-- nothing happens but that this is printed
pub record Only (old : Reading) (said text : List ℕ) (new : Reading) : Type 0 where
  pub printed : text ≡ said
  pub kept : new ≡ old

-- the slot that was given, if one was
abbrev pub said_of : Option ℕ → List ℕ
said_of None = []
said_of (Some c) = open_text c

-- an input is refused, or taken: then each slot is printed
abbrev pub Handing : Settings → Limits → Input → Option ApplyError → Reading → List ℕ → Reading → Type 0
Handing k limits input (Some refused) old text new = Only old (refused_text refused) text new
Handing k limits input None old text new = (mid : Reading) × Adds k limits input old mid × Settles k old mid (said_of (opened_by k input old)) text new

-- from old, the order prints this and leads to new
abbrev pub Tells : Settings → Limits → Reading → Order → List ℕ → Reading → Type 0
Tells k limits old Skip text new = Only old [] text new
Tells k limits old Bad text new = Only old bad_text text new
Tells k limits old (Hands input) text new = Handing k limits input (refusal_of k input old) old text new

-- from this reading on, these lines print this text
abbrev pub Prints : Settings → Limits → Reading → List (List ℕ) → List ℕ → Type 0
Prints k limits reading [] text = text ≡ []
Prints k limits reading (line ∷ lines) text =
    (said : List ℕ) × (next : Reading) × (more : List ℕ) × Tells k limits reading (order_of line) said next × Prints k limits next lines more × (text ≡ said ++ more)

-- the text that a script prints, on a server with these settings and feeders with these limits
abbrev pub IsTextOf : Settings → Limits → List ℕ → List ℕ → Type 0
IsTextOf k limits script text = Prints k limits nothing_read (lines_of script) text
