-- The past, and what steps do to it in small.
use Rattle.std.specs.Prelude.{ℕ, ◌&&◌, if◌then◌else◌, List, [], ◌∷◌}
use Rattle.gm_packet.specs.Answers.{Answer, answer_packet}
use Rattle.gm_notes.specs.declared.note.Note.{Note}
use Rattle.gm_notes.specs.declared.note.Note.TheVariants.{Woken, Mention}
use Rattle.gm_notes.specs.Settings.{Settings}
use Rattle.gm_notes.specs.Notes.{is_open, phase, is_asleep, slots_from}
use Rattle.gm_notes.specs.Jobs.{is_able, is_mentioned}
use Rattle.gm_notes.specs.Flow.{Flow, Queued}
use Rattle.gm_notes.specs.Texts.{error_of}

-- all that has happened: the notes, and what happened to bytes, each the newest first
pub record Past : Type 0 where
  pub notes : List Note
  pub flow : List Flow

abbrev pub nothing : Past
nothing = record { notes = []; flow = [] }

abbrev pub with_note : Note → Past → Past
with_note note past = record past { notes = note ∷ past.notes }

abbrev pub with_flow : Flow → Past → Past
with_flow what past = record past { flow = what ∷ past.flow }

-- these bytes are queued to slot c
abbrev pub with_output : ℕ → List ℕ → Past → Past
with_output c text past = with_flow (Queued c text) past

-- the answer is queued to slot c
abbrev pub give : ℕ → Answer → Past → Past
give c answer past = with_output c (answer_packet answer) past

-- a refused request is answered with an ERROR packet, and adds no note
abbrev pub refuse : ℕ → List ℕ → Past → Past
refuse c code past = give c (error_of code) past

-- the answer is queued to each of these slots, in order, once for each time it is in the list
abbrev pub tell_all : Answer → List ℕ → Past → Past
tell_all answer [] past = past
tell_all answer (c ∷ slots) past = tell_all answer slots (give c answer past)

-- the function is mentioned, if it wasn't
abbrev pub with_mention : List ℕ → Past → Past
with_mention f past = if is_mentioned f past.notes then past else with_note (Mention f) past

-- slot c is owed a NOOP if it sleeps and can do the function
abbrev pub wake_one : List ℕ → ℕ → Past → Past
wake_one f c past =
    if is_open c past.notes && is_asleep (phase c past.notes) && is_able c f past.notes then with_note (Woken c) past else past

abbrev pub wake_each : List ℕ → List ℕ → Past → Past
wake_each f [] past = past
wake_each f (c ∷ slots) past = wake_each f slots (wake_one f c past)

-- every sleeping worker that can do the function is owed a NOOP, in slot order
abbrev pub wake : Settings → List ℕ → Past → Past
wake k f past = wake_each f (slots_from 0 k.slots) past
