-- The contents of a request, without where its bytes lie in memory.
use Rattle.std.specs.Prelude.{ℕ, List, [], ◌∷◌, Result, Ok, Err}
use Rattle.gm_packet.specs.declared.kind.Kind.{Kind}
use Rattle.gm_packet.specs.declared.kind.Kind.TheVariants as kinds
use Rattle.gm_packet.specs.declared.request.Request.{Request}
use Rattle.gm_packet.specs.declared.request.Request.TheVariants.{CanDo, CantDo, ResetAbilities, PreSleep, SubmitJob, GrabJob, WorkStatus}
use Rattle.gm_packet.specs.declared.request.Request.TheVariants.{WorkComplete, WorkFail, GetStatus, EchoReq, SubmitJobBg, SubmitJobHigh}
use Rattle.gm_packet.specs.declared.request.Request.TheVariants.{SetClientId, CanDoTimeout, AllYours, WorkException, OptionReq, WorkData}
use Rattle.gm_packet.specs.declared.request.Request.TheVariants.{WorkWarning, GrabJobUniq, SubmitJobHighBg, SubmitJobLow, SubmitJobLowBg}
use Rattle.gm_packet.specs.declared.request.RequestFault.{RequestFault}
use Rattle.gm_packet.specs.Requests.{Asked}

-- a request of this kind with these arguments
abbrev pub asking : Kind → List (List ℕ) → Asked
asking kind arguments = record { kind = kind; arguments = arguments; timeout = 0 }

abbrev pub asked_of : Request → Asked
asked_of (CanDo function) = asking kinds.CanDo (function.now ∷ [])
asked_of (CantDo function) = asking kinds.CantDo (function.now ∷ [])
asked_of ResetAbilities = asking kinds.ResetAbilities []
asked_of PreSleep = asking kinds.PreSleep []
asked_of (SubmitJob function unique body) = asking kinds.SubmitJob (function.now ∷ unique.now ∷ body.now ∷ [])
asked_of GrabJob = asking kinds.GrabJob []
asked_of (WorkStatus handle numerator denominator) = asking kinds.WorkStatus (handle.now ∷ numerator.now ∷ denominator.now ∷ [])
asked_of (WorkComplete handle body) = asking kinds.WorkComplete (handle.now ∷ body.now ∷ [])
asked_of (WorkFail handle) = asking kinds.WorkFail (handle.now ∷ [])
asked_of (GetStatus handle) = asking kinds.GetStatus (handle.now ∷ [])
asked_of (EchoReq body) = asking kinds.EchoReq (body.now ∷ [])
asked_of (SubmitJobBg function unique body) = asking kinds.SubmitJobBg (function.now ∷ unique.now ∷ body.now ∷ [])
asked_of (SubmitJobHigh function unique body) = asking kinds.SubmitJobHigh (function.now ∷ unique.now ∷ body.now ∷ [])
asked_of (SetClientId id) = asking kinds.SetClientId (id.now ∷ [])
asked_of (CanDoTimeout function timeout) = record { kind = kinds.CanDoTimeout; arguments = function.now ∷ []; timeout = timeout }
asked_of AllYours = asking kinds.AllYours []
asked_of (WorkException handle body) = asking kinds.WorkException (handle.now ∷ body.now ∷ [])
asked_of (OptionReq name) = asking kinds.OptionReq (name.now ∷ [])
asked_of (WorkData handle body) = asking kinds.WorkData (handle.now ∷ body.now ∷ [])
asked_of (WorkWarning handle body) = asking kinds.WorkWarning (handle.now ∷ body.now ∷ [])
asked_of GrabJobUniq = asking kinds.GrabJobUniq []
asked_of (SubmitJobHighBg function unique body) = asking kinds.SubmitJobHighBg (function.now ∷ unique.now ∷ body.now ∷ [])
asked_of (SubmitJobLow function unique body) = asking kinds.SubmitJobLow (function.now ∷ unique.now ∷ body.now ∷ [])
asked_of (SubmitJobLowBg function unique body) = asking kinds.SubmitJobLowBg (function.now ∷ unique.now ∷ body.now ∷ [])

-- the same of what reading answers
abbrev pub asked_result : Result Request RequestFault → Result Asked RequestFault
asked_result (Ok request) = Ok (asked_of request)
asked_result (Err fault) = Err fault
