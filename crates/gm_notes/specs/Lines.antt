-- The effects of text lines.
use Rattle.std.specs.Prelude.{ℕ, Bool, true, false, not, ◌&&◌, ◌||◌, ◌==◌, nat_lt, if◌then◌else◌, List, [], ◌∷◌, length, map}
use Rattle.std.specs.Prelude.{filter, Result, Ok, Err}
use Rattle.std.specs.List.{list_any}
use Rattle.gm_admin.specs.declared.fault.AdminFault.{AdminFault}
use Rattle.gm_admin.specs.declared.fault.AdminFault.TheVariants as faults
use Rattle.gm_admin.specs.declared.fault.AdminError.{AdminError}
use Rattle.gm_admin.specs.declared.fault.AdminError.TheVariants as errors
use Rattle.gm_admin.specs.Commands.{Commanded, Status, Workers, MaxQueue, Version, Shutdown}
use Rattle.gm_admin.specs.Answers.{StatusLine, WorkerLine, status_text, workers_text, ok_text, version_text, error_text}
use Rattle.gm_notes.specs.declared.states.Mode.{Mode}
use Rattle.gm_notes.specs.declared.states.Mode.TheVariants.{Running, Graceful, Stopped}
use Rattle.gm_notes.specs.declared.note.Note.{Note}
use Rattle.gm_notes.specs.declared.note.Note.TheVariants.{Shut, Limit, Went}
use Rattle.gm_notes.specs.Settings.{Settings}
use Rattle.gm_notes.specs.Notes.{is_open, is_shut, addr, id, mode, slots_from}
use Rattle.gm_notes.specs.Jobs.{functions, abilities, total, running, able}
use Rattle.gm_notes.specs.Past.{Past, with_note, with_output, with_mention}
use Rattle.gm_notes.specs.Submissions.{max_name, is_one_too_many}

-- a line that is refused is answered with an `ERR` line, and adds no note
abbrev pub refuse_line : ℕ → AdminError → Past → Past
refuse_line c error past = with_output c (error_text error) past

abbrev pub fault_error : AdminFault → AdminError
fault_error faults.UnknownCommand = errors.UnknownCommand
fault_error faults.MissingName = errors.MissingName
fault_error faults.BadSize = errors.BadSize

-- ---- lists

-- a row for each function mentioned, in the order of mention
abbrev pub status_rows : Settings → List Note → List StatusLine
status_rows k notes = map (λ f. record { name = f; total = total f notes; running = running f notes; workers = able k f notes }) (functions notes)

-- a row for each open connection, by slot, with its functions in the order added
abbrev pub worker_rows : Settings → List Note → List WorkerLine
worker_rows k notes =
    map (λ c. record { slot = c; addr = addr c notes; id = id c notes; functions = map (λ ability. ability.function) (abilities c notes) })
    (filter (λ c. is_open c notes) (slots_from 0 k.slots))

-- ---- commands

-- a word with too many bytes or with a NUL in it is no name of a function; no word is empty
abbrev pub is_bad_word : List ℕ → Bool
is_bad_word f = nat_lt max_name (length f) || list_any (λ b. b == 0) f

abbrev pub maxqueue : Settings → ℕ → List ℕ → ℕ → Past → Past
maxqueue k c f size past =
    if is_bad_word f then refuse_line c errors.BadFunction past
    else (if is_one_too_many k f past.notes then refuse_line c errors.TooManyFunctions past
    else with_output c ok_text (with_note (Limit f size) (with_mention f past)))

-- every open connection that isn't shut is shut
abbrev pub shut_one : ℕ → Past → Past
shut_one c past = if is_open c past.notes && not (is_shut c past.notes) then with_note (Shut c) past else past

abbrev pub shut_each : List ℕ → Past → Past
shut_each [] past = past
shut_each (c ∷ slots) past = shut_each slots (shut_one c past)

-- a mode never goes back
abbrev pub go_graceful : Mode → Past → Past
go_graceful Running past = with_note (Went Graceful) past
go_graceful Graceful past = past
go_graceful Stopped past = past

abbrev pub shutdown : Settings → ℕ → Bool → Past → Past
shutdown k c true past = with_output c ok_text (go_graceful (mode past.notes) past)
shutdown k c false past = shut_each (slots_from 0 k.slots) (with_output c ok_text (with_note (Went Stopped) past))

-- the effect of a line of slot c
abbrev pub command : Settings → ℕ → Result Commanded AdminFault → Past → Past
command k c (Err fault) past = refuse_line c (fault_error fault) past
command k c (Ok Status) past = with_output c (status_text (status_rows k past.notes)) past
command k c (Ok Workers) past = with_output c (workers_text (worker_rows k past.notes)) past
command k c (Ok (MaxQueue f size)) past = maxqueue k c f size past
command k c (Ok Version) past = with_output c version_text past
command k c (Ok (Shutdown graceful)) past = shutdown k c graceful past
