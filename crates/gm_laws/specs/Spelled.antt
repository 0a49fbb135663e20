-- The bytes of each answer, and of handles.
use Rattle.std.specs.Prelude.{◌≡◌, ℕ, Bool, true, false, ◌||◌, ◌==◌, nat_le, if◌then◌else◌, List, [], ◌∷◌, ◌++◌, length, codes, decimal}
use Rattle.std.specs.Int.{w32, to_be_bytes}
use Rattle.gm_packet.specs.Answers.{answer_packet, noop, job_created, no_job, job_assign, work_status, work_complete, work_fail}
use Rattle.gm_packet.specs.Answers.{echo_res, error, status_res, work_exception, option_res, work_data, work_warning, job_assign_uniq}
use Rattle.gm_admin.specs.declared.answers.TheConstants.{VERSION}
use Rattle.gm_admin.specs.declared.fault.AdminError.TheVariants.{UnknownCommand, MissingName, BadSize, BadFunction, TooManyFunctions}
use Rattle.gm_admin.specs.declared.fault.AdminError.TheVariants.{LineTooLong}
use Rattle.gm_admin.specs.Answers.{StatusLine, WorkerLine, status_text, workers_text, ok_text, version_text, error_text}
use Rattle.gm_notes.specs.Settings.{Settings}
use Rattle.gm_notes.specs.Jobs.{handle}

-- a packet from the server: NUL and RES, the type and the size in four bytes each, and the data
abbrev pub answered : ℕ → List ℕ → List ℕ
answered kind bytes = 0 ∷ 82 ∷ 69 ∷ 83 ∷ 0 ∷ 0 ∷ 0 ∷ kind ∷ to_be_bytes w32 (length bytes) ++ bytes

-- the digit 1 for yes, and 0 for no
abbrev pub digit : Bool → ℕ
digit true = 49
digit false = 48

-- the answers, each with its type, and with its arguments in order and a NUL between each two
pub record AnswersAreSpelled : Type 0 where
  pub noops : answer_packet noop ≡ answered 6 []
  pub created : (handle : List ℕ) → answer_packet (job_created handle) ≡ answered 8 handle
  pub none : answer_packet no_job ≡ answered 10 []
  pub assigned : (handle function body : List ℕ) → answer_packet (job_assign handle function body) ≡ answered 11 (handle ++ 0 ∷ (function ++ 0 ∷ body))
  pub reported : (handle numerator denominator : List ℕ) →
      answer_packet (work_status handle numerator denominator) ≡ answered 12 (handle ++ 0 ∷ (numerator ++ 0 ∷ denominator))
  pub completed : (handle body : List ℕ) → answer_packet (work_complete handle body) ≡ answered 13 (handle ++ 0 ∷ body)
  pub failed : (handle : List ℕ) → answer_packet (work_fail handle) ≡ answered 14 handle
  pub echoed : (body : List ℕ) → answer_packet (echo_res body) ≡ answered 17 body
  pub refused : (code text : List ℕ) → answer_packet (error code text) ≡ answered 19 (code ++ 0 ∷ text)
  pub told : (handle : List ℕ) (known running : Bool) (numerator denominator : List ℕ) →
      answer_packet (status_res handle known running numerator denominator)
      ≡ answered 20 (handle ++ 0 ∷ digit known ∷ 0 ∷ digit running ∷ 0 ∷ (numerator ++ 0 ∷ denominator))
  pub excepted : (handle body : List ℕ) → answer_packet (work_exception handle body) ≡ answered 25 (handle ++ 0 ∷ body)
  pub set : (name : List ℕ) → answer_packet (option_res name) ≡ answered 27 name
  pub sent : (handle body : List ℕ) → answer_packet (work_data handle body) ≡ answered 28 (handle ++ 0 ∷ body)
  pub warned : (handle body : List ℕ) → answer_packet (work_warning handle body) ≡ answered 29 (handle ++ 0 ∷ body)
  pub assigned_uniquely : (handle function unique body : List ℕ) →
      answer_packet (job_assign_uniq handle function unique body) ≡ answered 31 (handle ++ 0 ∷ (function ++ 0 ∷ (unique ++ 0 ∷ body)))

-- ---- text lines

-- a byte up to space (32), and DEL (127), is printed as a question mark (63)
abbrev pub printed : List ℕ → List ℕ
printed [] = []
printed (b ∷ text) = (if nat_le b 32 || b == 127 then 63 else b) ∷ printed text

-- no text is printed as a dash (45)
abbrev pub printed_or_dash : List ℕ → List ℕ
printed_or_dash [] = 45 ∷ []
printed_or_dash (b ∷ text) = printed (b ∷ text)

-- names with a space before each
abbrev pub listed : List (List ℕ) → List ℕ
listed [] = []
listed (name ∷ names) = 32 ∷ printed name ++ listed names

-- the answers to text lines, and handles
pub record LinesAreSpelled : Type 0 where
  pub ok : ok_text ≡ 79 ∷ 75 ∷ 10 ∷ []
  pub version : version_text ≡ 79 ∷ 75 ∷ 32 ∷ VERSION.now ++ 10 ∷ []
  pub unknown_command : error_text UnknownCommand ≡ codes "ERR unknown_command" ++ 10 ∷ []
  pub missing_name : error_text MissingName ≡ codes "ERR missing_name" ++ 10 ∷ []
  pub bad_size : error_text BadSize ≡ codes "ERR bad_size" ++ 10 ∷ []
  pub bad_function : error_text BadFunction ≡ codes "ERR bad_function" ++ 10 ∷ []
  pub too_many_functions : error_text TooManyFunctions ≡ codes "ERR too_many_functions" ++ 10 ∷ []
  pub line_too_long : error_text LineTooLong ≡ codes "ERR line_too_long" ++ 10 ∷ []
  -- a line of `status` has tabs (9) between its columns, and a dot (46) ends the list
  pub status_line : (row : StatusLine) (rows : List StatusLine) →
      status_text (row ∷ rows)
      ≡ (printed row.name ++ 9 ∷ decimal row.total ++ 9 ∷ decimal row.running ++ 9 ∷ decimal row.workers ++ 10 ∷ []) ++ status_text rows
  pub status_end : status_text [] ≡ 46 ∷ 10 ∷ []
  -- a line of `workers` has spaces (32), and a colon (58) before the functions
  pub worker_line : (row : WorkerLine) (rows : List WorkerLine) →
      workers_text (row ∷ rows)
      ≡ (decimal row.slot ++ 32 ∷ printed_or_dash row.addr ++ 32 ∷ printed_or_dash row.id ++ 32 ∷ 58 ∷ listed row.functions ++ 10 ∷ []) ++ workers_text rows
  pub workers_end : workers_text [] ≡ 46 ∷ 10 ∷ []
  -- H:NAME:NUMBER
  pub handles : (k : Settings) (n : ℕ) → handle k n ≡ 72 ∷ 58 ∷ k.name ++ 58 ∷ decimal n
