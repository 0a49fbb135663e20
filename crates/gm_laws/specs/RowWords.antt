-- The words that rows are written in.
use Prim.Native.String.{String}
use Rattle.std.specs.Prelude.{◌≡◌, ℕ, Bool, true, false, List, [], ◌∷◌, ◌++◌, reverse, filter, codes, Some, None}
use Rattle.std.specs.List.{join_with_byte, flat_map}
use Rattle.gm_packet.specs.Answers.{Answer, answer_packet}
use Rattle.gm_packet.specs.Answers as writing
use Rattle.gm_notes.specs.declared.event.ApplyError.{ApplyError}
use Rattle.gm_notes.specs.declared.event.Done.{Done}
use Rattle.gm_notes.specs.declared.states.Mode.{Mode}
use Rattle.gm_notes.specs.declared.states.Place.{Place}
use Rattle.gm_notes.specs.Settings.{Settings}
use Rattle.gm_notes.specs.Notes.{mode, slots_from}
use Rattle.gm_notes.specs.Flow.{Flow, Began, Queued, Drained, Emptied, sent, waiting}
use Rattle.gm_notes.specs.Jobs.{job_state}
use Rattle.gm_notes.specs.Past.{Past}
use Rattle.gm_notes.specs.Servers.{owes, is_closing}
use Rattle.gm_notes.specs.JobStates.{place_of}
use Rattle.gm_notes.specs.Steps.{Step, Open, Packet, Line, refusal, run, done}

-- ---- settings

abbrev pub settings : ℕ → ℕ → ℕ → Settings
settings first slots functions =
    record { name = codes "gmd"; first_job = first; slots = slots; max_functions = functions; round_robin = false; retries = 0; as_gearmand = false }

abbrev pub defaults : Settings
defaults = settings 1 64 65536

-- a worker's functions take turns
abbrev pub in_turn : Settings
in_turn = record defaults { round_robin = true }

-- requests mean what gearmand's applications mean by them
abbrev pub for_gearmand : Settings
for_gearmand = record defaults { as_gearmand = true }

-- to how many workers a job may be given
abbrev pub given_to : ℕ → Settings
given_to workers = record defaults { retries = workers }

abbrev pub from_the_last : Settings
from_the_last = settings 18446744073709551615 64 65536

abbrev pub one_function : Settings
one_function = settings 1 64 1

abbrev pub two_slots : Settings
two_slots = settings 1 2 65536

abbrev pub four_slots : Settings
four_slots = settings 1 4 65536

-- ---- steps

abbrev pub connect_from : String → Step
connect_from addr = Open (codes addr)

abbrev pub connect : Step
connect = connect_from "127.0.0.1"

abbrev pub says : ℕ → String → Step
says c line = Line c (codes line)

-- a packet of slot c with these arguments
abbrev pub sends : ℕ → ℕ → List (List ℕ) → Step
sends c kind arguments = Packet c kind (join_with_byte 0 arguments)

abbrev pub can_do : ℕ → String → Step
can_do c f = sends c 1 (codes f ∷ [])

abbrev pub cant_do : ℕ → String → Step
cant_do c f = sends c 2 (codes f ∷ [])

abbrev pub reset_abilities : ℕ → Step
reset_abilities c = sends c 3 []

abbrev pub pre_sleep : ℕ → Step
pre_sleep c = sends c 4 []

abbrev pub submit_job : ℕ → String → String → String → Step
submit_job c f u body = sends c 7 (codes f ∷ codes u ∷ codes body ∷ [])

abbrev pub grab_job : ℕ → Step
grab_job c = sends c 9 []

abbrev pub work_status : ℕ → String → String → String → Step
work_status c handle numerator denominator = sends c 12 (codes handle ∷ codes numerator ∷ codes denominator ∷ [])

abbrev pub work_complete : ℕ → String → String → Step
work_complete c handle body = sends c 13 (codes handle ∷ codes body ∷ [])

abbrev pub work_fail : ℕ → String → Step
work_fail c handle = sends c 14 (codes handle ∷ [])

abbrev pub get_status : ℕ → String → Step
get_status c handle = sends c 15 (codes handle ∷ [])

abbrev pub echo_req : ℕ → String → Step
echo_req c body = sends c 16 (codes body ∷ [])

abbrev pub submit_job_bg : ℕ → String → String → String → Step
submit_job_bg c f u body = sends c 18 (codes f ∷ codes u ∷ codes body ∷ [])

abbrev pub submit_job_high : ℕ → String → String → String → Step
submit_job_high c f u body = sends c 21 (codes f ∷ codes u ∷ codes body ∷ [])

abbrev pub set_client_id : ℕ → String → Step
set_client_id c id = sends c 22 (codes id ∷ [])

abbrev pub can_do_timeout : ℕ → String → String → Step
can_do_timeout c f seconds = sends c 23 (codes f ∷ codes seconds ∷ [])

abbrev pub all_yours : ℕ → Step
all_yours c = sends c 24 []

abbrev pub work_exception : ℕ → String → String → Step
work_exception c handle body = sends c 25 (codes handle ∷ codes body ∷ [])

abbrev pub option_req : ℕ → String → Step
option_req c name = sends c 26 (codes name ∷ [])

abbrev pub work_data : ℕ → String → String → Step
work_data c handle body = sends c 28 (codes handle ∷ codes body ∷ [])

abbrev pub work_warning : ℕ → String → String → Step
work_warning c handle body = sends c 29 (codes handle ∷ codes body ∷ [])

abbrev pub grab_job_uniq : ℕ → Step
grab_job_uniq c = sends c 30 []

abbrev pub submit_job_high_bg : ℕ → String → String → String → Step
submit_job_high_bg c f u body = sends c 32 (codes f ∷ codes u ∷ codes body ∷ [])

abbrev pub submit_job_low : ℕ → String → String → String → Step
submit_job_low c f u body = sends c 33 (codes f ∷ codes u ∷ codes body ∷ [])

abbrev pub submit_job_low_bg : ℕ → String → String → String → Step
submit_job_low_bg c f u body = sends c 34 (codes f ∷ codes u ∷ codes body ∷ [])

-- ---- what is queued, and to which slot

abbrev pub Told : Type 0
Told = ℕ × List ℕ

abbrev pub to : ℕ → Answer → Told
to c answer = (c, answer_packet answer)

-- a line, without its newline
abbrev pub line : ℕ → String → Told
line c text = (c, codes text ++ 10 ∷ [])

abbrev pub page : ℕ → List String → Told
page c texts = (c, flat_map (λ text. codes text ++ 10 ∷ []) texts)

-- rows of a function, its jobs, those of them that run, and its workers, and a dot
abbrev pub counts : ℕ → List (String × String × String × String) → Told
counts c rows = (
  c,
  flat_map (λ (row : String × String × String × String). codes row.0 ++ 9 ∷ codes row.1 ++ 9 ∷ codes row.2 ++ 9 ∷ codes row.3 ++ 10 ∷ []) rows
      ++ codes "." ++ 10 ∷ [],
)

abbrev pub created : ℕ → String → Told
created c handle = to c (writing.job_created (codes handle))

abbrev pub no_job : ℕ → Told
no_job c = to c writing.no_job

abbrev pub assigned : ℕ → String → String → String → Told
assigned c handle f body = to c (writing.job_assign (codes handle) (codes f) (codes body))

abbrev pub assigned_uniq : ℕ → String → String → String → String → Told
assigned_uniq c handle f u body = to c (writing.job_assign_uniq (codes handle) (codes f) (codes u) (codes body))

abbrev pub status_was : ℕ → String → String → String → Told
status_was c handle numerator denominator = to c (writing.work_status (codes handle) (codes numerator) (codes denominator))

abbrev pub completed : ℕ → String → String → Told
completed c handle body = to c (writing.work_complete (codes handle) (codes body))

abbrev pub failed : ℕ → String → Told
failed c handle = to c (writing.work_fail (codes handle))

abbrev pub raised : ℕ → String → String → Told
raised c handle body = to c (writing.work_exception (codes handle) (codes body))

abbrev pub data_was : ℕ → String → String → Told
data_was c handle body = to c (writing.work_data (codes handle) (codes body))

abbrev pub warned : ℕ → String → String → Told
warned c handle body = to c (writing.work_warning (codes handle) (codes body))

-- known and running, and how far
abbrev pub status : ℕ → String → Bool → Bool → String → String → Told
status c handle known running numerator denominator =
    to c (writing.status_res (codes handle) known running (codes numerator) (codes denominator))

abbrev pub echoed : ℕ → String → Told
echoed c body = to c (writing.echo_res (codes body))

abbrev pub option_set : ℕ → String → Told
option_set c name = to c (writing.option_res (codes name))

abbrev pub error : ℕ → String → String → Told
error c code text = to c (writing.error (codes code) (codes text))

-- ---- what rows say; steps are in order, the first one first

abbrev pub after : Settings → List Step → Past
after k steps = run k (reverse steps)

abbrev pub told : List Flow → List Told
told [] = []
told (Queued c bytes ∷ older) = told older ++ (c, bytes) ∷ []
told (Began c ∷ older) = told older
told (Drained c ∷ older) = told older
told (Emptied c ∷ older) = told older

-- the texts that these steps queue, in order
abbrev pub Plays : Settings → List Step → List Told → Type 0
Plays k steps answers = told (after k steps).flow ≡ answers

-- which slots are owed a NOOP after them
abbrev pub Owes : Settings → List Step → List ℕ → Type 0
Owes k steps slots = filter (λ c. owes c (after k steps)) (slots_from 0 k.slots) ≡ slots

-- which slots are open and take no more units after them
abbrev pub AreShut : Settings → List Step → List ℕ → Type 0
AreShut k steps slots = filter (λ c. is_closing c (after k steps)) (slots_from 0 k.slots) ≡ slots

-- how the server goes on after them
abbrev pub GoesOn : Settings → List Step → Mode → Type 0
GoesOn k steps so = mode (after k steps).notes ≡ so

-- which bytes wait for slot c after them
abbrev pub Waits : Settings → List Step → ℕ → List ℕ → Type 0
Waits k steps c bytes = waiting c (after k steps).flow ≡ bytes

-- which bytes were queued to it since it was opened
abbrev pub IsSent : Settings → List Step → ℕ → List ℕ → Type 0
IsSent k steps c bytes = sent c (after k steps).flow ≡ bytes

-- the answer to one step more
abbrev pub IsDone : Settings → List Step → Step → Done → Type 0
IsDone k steps s answer = done k s (after k steps) ≡ answer

abbrev pub opened : ℕ → Done
opened c = record { opened = Some c; created = None }

abbrev pub made : ℕ → Done
made n = record { opened = None; created = Some n }

abbrev pub nothing_made : Done
nothing_made = record { opened = None; created = None }

-- where the job is after them
abbrev pub JobIsAt : Settings → List Step → ℕ → Place → Type 0
JobIsAt k steps n place = place_of (job_state n (after k steps).notes) ≡ place

-- one step more is refused so, or is taken
abbrev pub Refuses : Settings → List Step → Step → ApplyError → Type 0
Refuses k steps s why = refusal k s (after k steps) ≡ Some why

abbrev pub Takes : Settings → List Step → Step → Type 0
Takes k steps s = refusal k s (after k steps) ≡ None
