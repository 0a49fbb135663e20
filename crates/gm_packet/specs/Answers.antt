-- The packets from the server: what each says, wherever its bytes lie in memory.
use Rattle.std.specs.Prelude.{ℕ, Bool, if◌then◌else◌, List, [], ◌∷◌, codes}
use Rattle.std.specs.List.{join_with_byte}
use Rattle.gm_packet.specs.Packets.{response_magic, packet}
use Rattle.gm_packet.specs.declared.response.Response.{Response}
use Rattle.gm_packet.specs.declared.response.Response.TheVariants.{Noop, JobCreated, NoJob, JobAssign, WorkStatus, WorkComplete, WorkFail}
use Rattle.gm_packet.specs.declared.response.Response.TheVariants.{EchoRes}
use Rattle.gm_packet.specs.declared.response.Response.TheVariants.{Error, StatusRes, WorkException, OptionRes, WorkData, WorkWarning}
use Rattle.gm_packet.specs.declared.response.Response.TheVariants.{JobAssignUniq}

-- a packet from the server: its type and its arguments
pub record Answer : Type 0 where
  pub kind : ℕ
  pub arguments : List (List ℕ)

-- the packet that says this
abbrev pub answer_packet : Answer → List ℕ
answer_packet answer = packet response_magic answer.kind (join_with_byte 0 answer.arguments)

-- ---- the answers, each with its packet type and its arguments in order

abbrev pub noop : Answer
noop = record { kind = 6; arguments = [] }

abbrev pub job_created : List ℕ → Answer
job_created handle = record { kind = 8; arguments = handle ∷ [] }

abbrev pub no_job : Answer
no_job = record { kind = 10; arguments = [] }

abbrev pub job_assign : List ℕ → List ℕ → List ℕ → Answer
job_assign handle function body = record { kind = 11; arguments = handle ∷ function ∷ body ∷ [] }

abbrev pub work_status : List ℕ → List ℕ → List ℕ → Answer
work_status handle numerator denominator = record { kind = 12; arguments = handle ∷ numerator ∷ denominator ∷ [] }

abbrev pub work_complete : List ℕ → List ℕ → Answer
work_complete handle body = record { kind = 13; arguments = handle ∷ body ∷ [] }

abbrev pub work_fail : List ℕ → Answer
work_fail handle = record { kind = 14; arguments = handle ∷ [] }

abbrev pub echo_res : List ℕ → Answer
echo_res body = record { kind = 17; arguments = body ∷ [] }

abbrev pub error : List ℕ → List ℕ → Answer
error code text = record { kind = 19; arguments = code ∷ text ∷ [] }

-- 1 for yes and 0 for no
abbrev pub flag : Bool → List ℕ
flag b = if b then codes "1" else codes "0"

abbrev pub status_res : List ℕ → Bool → Bool → List ℕ → List ℕ → Answer
status_res handle known running numerator denominator = record { kind = 20; arguments = handle ∷ flag known ∷ flag running ∷ numerator ∷ denominator ∷ [] }

abbrev pub work_exception : List ℕ → List ℕ → Answer
work_exception handle body = record { kind = 25; arguments = handle ∷ body ∷ [] }

abbrev pub option_res : List ℕ → Answer
option_res name = record { kind = 27; arguments = name ∷ [] }

abbrev pub work_data : List ℕ → List ℕ → Answer
work_data handle body = record { kind = 28; arguments = handle ∷ body ∷ [] }

abbrev pub work_warning : List ℕ → List ℕ → Answer
work_warning handle body = record { kind = 29; arguments = handle ∷ body ∷ [] }

abbrev pub job_assign_uniq : List ℕ → List ℕ → List ℕ → List ℕ → Answer
job_assign_uniq handle function unique body = record { kind = 31; arguments = handle ∷ function ∷ unique ∷ body ∷ [] }

-- ---- what a response says

abbrev pub answer_of : Response → Answer
answer_of Noop = noop
answer_of (JobCreated handle) = job_created handle.now
answer_of NoJob = no_job
answer_of (JobAssign handle function body) = job_assign handle.now function.now body.now
answer_of (WorkStatus handle numerator denominator) = work_status handle.now numerator.now denominator.now
answer_of (WorkComplete handle body) = work_complete handle.now body.now
answer_of (WorkFail handle) = work_fail handle.now
answer_of (EchoRes body) = echo_res body.now
answer_of (Error code text) = error code.now text.now
answer_of (StatusRes handle known running numerator denominator) = status_res handle.now known running numerator.now denominator.now
answer_of (WorkException handle body) = work_exception handle.now body.now
answer_of (OptionRes name) = option_res name.now
answer_of (WorkData handle body) = work_data handle.now body.now
answer_of (WorkWarning handle body) = work_warning handle.now body.now
answer_of (JobAssignUniq handle function unique body) = job_assign_uniq handle.now function.now unique.now body.now
