-- The table of the requests: what number each has, and how its arguments are written.
use Rattle.std.specs.Prelude.{ℕ, ◌==◌, List, [], ◌∷◌, Option, find}
use Rattle.gm_packet.specs.declared.kind.Kind.{Kind}
use Rattle.gm_packet.specs.declared.kind.Kind.TheVariants.{CanDo, CantDo, ResetAbilities, PreSleep, SubmitJob, GrabJob, WorkStatus}
use Rattle.gm_packet.specs.declared.kind.Kind.TheVariants.{WorkComplete, WorkFail, GetStatus, EchoReq, SubmitJobBg, SubmitJobHigh}
use Rattle.gm_packet.specs.declared.kind.Kind.TheVariants.{SetClientId, CanDoTimeout, AllYours, WorkException, OptionReq, WorkData}
use Rattle.gm_packet.specs.declared.kind.Kind.TheVariants.{WorkWarning, GrabJobUniq, SubmitJobHighBg, SubmitJobLow, SubmitJobLowBg}

-- How the data spell the arguments. Plain n: n arguments and a last one, none of which holds NUL, and
-- perhaps one NUL more. Opaque n: n arguments without NUL, and a last one of any bytes. Timed: a
-- function and a number of seconds, as Plain 1.
pub data Shape : Type 0 where
  Empty : Shape
  Plain : ℕ → Shape
  Opaque : ℕ → Shape
  Timed : Shape

-- the packet type
abbrev pub number : Kind → ℕ
number CanDo = 1
number CantDo = 2
number ResetAbilities = 3
number PreSleep = 4
number SubmitJob = 7
number GrabJob = 9
number WorkStatus = 12
number WorkComplete = 13
number WorkFail = 14
number GetStatus = 15
number EchoReq = 16
number SubmitJobBg = 18
number SubmitJobHigh = 21
number SetClientId = 22
number CanDoTimeout = 23
number AllYours = 24
number WorkException = 25
number OptionReq = 26
number WorkData = 28
number WorkWarning = 29
number GrabJobUniq = 30
number SubmitJobHighBg = 32
number SubmitJobLow = 33
number SubmitJobLowBg = 34

-- the arguments
abbrev pub shape : Kind → Shape
shape CanDo = Plain 0  -- function
shape CantDo = Plain 0  -- function
shape ResetAbilities = Empty
shape PreSleep = Empty
shape SubmitJob = Opaque 2  -- function, unique id, body
shape GrabJob = Empty
shape WorkStatus = Plain 2  -- handle, numerator, denominator
shape WorkComplete = Opaque 1  -- handle, body
shape WorkFail = Plain 0  -- handle
shape GetStatus = Plain 0  -- handle
shape EchoReq = Opaque 0  -- body
shape SubmitJobBg = Opaque 2  -- function, unique id, body
shape SubmitJobHigh = Opaque 2  -- function, unique id, body
shape SetClientId = Plain 0  -- id
shape CanDoTimeout = Timed  -- function, timeout
shape AllYours = Empty
shape WorkException = Opaque 1  -- handle, body
shape OptionReq = Plain 0  -- option name
shape WorkData = Opaque 1  -- handle, body
shape WorkWarning = Opaque 1  -- handle, body
shape GrabJobUniq = Empty
shape SubmitJobHighBg = Opaque 2  -- function, unique id, body
shape SubmitJobLow = Opaque 2  -- function, unique id, body
shape SubmitJobLowBg = Opaque 2  -- function, unique id, body

abbrev pub all_kinds : List Kind
all_kinds =
    CanDo ∷ CantDo ∷ ResetAbilities ∷ PreSleep ∷ SubmitJob ∷ GrabJob ∷ WorkStatus ∷ WorkComplete ∷ WorkFail ∷ GetStatus ∷ EchoReq ∷ SubmitJobBg
    ∷ SubmitJobHigh ∷ SetClientId ∷ CanDoTimeout ∷ AllYours ∷ WorkException ∷ OptionReq ∷ WorkData ∷ WorkWarning ∷ GrabJobUniq ∷ SubmitJobHighBg
    ∷ SubmitJobLow ∷ SubmitJobLowBg ∷ []

-- the request with a packet type, if there is one
abbrev pub kind_of : ℕ → Option Kind
kind_of n = find (λ k. number k == n) all_kinds
