-- The effects of submissions.
use Rattle.std.specs.Prelude.{ℕ, Bool, not, ◌&&◌, ◌||◌, ◌==◌, nat_lt, nat_le, if◌then◌else◌, List, length, codes, Option, Some, None}
use Rattle.gm_packet.specs.Answers.{job_created}
use Rattle.gm_notes.specs.declared.states.Priority.{Priority}
use Rattle.gm_notes.specs.declared.note.Note.{Note}
use Rattle.gm_notes.specs.declared.note.Note.TheVariants.{Made, Kept, Listens}
use Rattle.gm_notes.specs.Settings.{Settings}
use Rattle.gm_notes.specs.Jobs.{functions, is_mentioned, limit, total, joined, next_number, handle}
use Rattle.gm_notes.specs.Past.{Past, with_note, give, refuse, with_mention, wake}

-- a submission
pub record Submission : Type 0 where
  pub function : List ℕ
  pub unique : List ℕ
  pub body : List ℕ
  pub priority : Priority
  pub background : Bool

-- how many bytes a function's name may have
abbrev pub max_name : ℕ
max_name = 512

-- it has at least one
abbrev pub is_bad_name : List ℕ → Bool
is_bad_name f = length f == 0 || nat_lt max_name (length f)

-- one function more can't be known
abbrev pub is_one_too_many : Settings → List ℕ → List Note → Bool
is_one_too_many k f notes = not (is_mentioned f notes) && nat_le k.max_functions (length (functions notes))

-- the function has as many jobs as its limit allows
abbrev pub is_full : List ℕ → List Note → Bool
is_full f notes = not (limit f notes == 0) && nat_le (limit f notes) (total f notes)

-- a background submission keeps the job, another listens to it
abbrev pub keep_or_listen : ℕ → Submission → ℕ → Past → Past
keep_or_listen c s n past = if s.background then with_note (Kept n) past else with_note (Listens n c) past

-- a job is made under the next number
abbrev pub make : Settings → ℕ → Submission → Option ℕ → Past → Past
make k c s None past = refuse c (codes "no_numbers") past
make k c s (Some n) past =
    wake k s.function
    (give c (job_created (handle k n)) (keep_or_listen c s n (with_note (Made n s.function s.priority s.unique s.body) (with_mention s.function past))))

-- joining, which no limit refuses, or making
abbrev pub join_or_make : Settings → ℕ → Submission → Option ℕ → Past → Past
join_or_make k c s (Some n) past = give c (job_created (handle k n)) (keep_or_listen c s n past)
join_or_make k c s None past =
    if is_one_too_many k s.function past.notes then refuse c (codes "too_many_functions") past
    else (if is_full s.function past.notes then refuse c (codes "queue_full") past
    else make k c s (next_number k past.notes) past)

abbrev pub submit : Settings → ℕ → Submission → Past → Past
submit k c s past =
    if is_bad_name s.function then refuse c (codes "bad_function") past
    else join_or_make k c s (joined s.function s.unique past.notes) past
