-- How the data of each request are written.
use Rattle.std.specs.Prelude.{◌≡◌, ◌⊎◌, ℕ, ◌<◌, ◌≤◌, ◌^◌, Bool, true, false, ◌==◌, List, [], ◌∷◌, ◌++◌, length, Some, None, Ok, Err}
use Rattle.std.specs.Char.{is_ascii_digit}
use Rattle.std.specs.List.{list_any, list_all}
use Rattle.std.specs.Str.Parse.{digits_value}
use Rattle.gm_packet.specs.declared.kind.Kind.{Kind}
use Rattle.gm_packet.specs.declared.kind.Kind.TheVariants.{CanDo, CantDo, ResetAbilities, PreSleep, SubmitJob, GrabJob}
use Rattle.gm_packet.specs.declared.kind.Kind.TheVariants.{WorkStatus, WorkComplete, WorkFail, GetStatus, EchoReq, SubmitJobBg}
use Rattle.gm_packet.specs.declared.kind.Kind.TheVariants.{SubmitJobHigh, SetClientId, CanDoTimeout, AllYours, WorkException}
use Rattle.gm_packet.specs.declared.kind.Kind.TheVariants.{OptionReq, WorkData, WorkWarning, GrabJobUniq, SubmitJobHighBg}
use Rattle.gm_packet.specs.declared.kind.Kind.TheVariants.{SubmitJobLow, SubmitJobLowBg}
use Rattle.gm_packet.specs.declared.request.RequestFault.TheVariants.{UnknownCommand, BadArguments}
use Rattle.gm_packet.specs.Kinds.{number, kind_of}
use Rattle.gm_packet.specs.Requests.{Asked, request_of}

-- ---- shapes of data

-- no NUL is in the text
abbrev pub LacksNul : List ℕ → Type 0
LacksNul text = list_any (λ b. b == 0) text ≡ false

-- the data are the text, and perhaps one NUL more
abbrev pub MayEnd : List ℕ → List ℕ → Type 0
MayEnd text bytes = (bytes ≡ text) ⊎ (bytes ≡ text ++ 0 ∷ [])

-- no arguments
abbrev pub IsNone : List ℕ → List (List ℕ) → Type 0
IsNone bytes arguments = (bytes ≡ []) × (arguments ≡ [])

-- one argument, which is no body
abbrev pub IsOne : List ℕ → List (List ℕ) → Type 0
IsOne bytes arguments = (text : List ℕ) × LacksNul text × (arguments ≡ text ∷ []) × MayEnd text bytes

-- a handle, a numerator and a denominator; one NUL may follow, and does if the denominator is empty
abbrev pub IsReport : List ℕ → List (List ℕ) → Type 0
IsReport bytes arguments =
    (handle numerator denominator : List ℕ)
    × LacksNul handle × LacksNul numerator × LacksNul denominator × (arguments ≡ handle ∷ numerator ∷ denominator ∷ [])
    × (((bytes ≡ handle ++ 0 ∷ (numerator ++ 0 ∷ denominator)) × (denominator ≡ [] → ⊥))
    ⊎ (bytes ≡ handle ++ 0 ∷ (numerator ++ 0 ∷ (denominator ++ 0 ∷ []))))

-- a body alone, of any bytes
abbrev pub IsBody : List ℕ → List (List ℕ) → Type 0
IsBody bytes arguments = arguments ≡ bytes ∷ []

-- a handle and a body
abbrev pub IsResult : List ℕ → List (List ℕ) → Type 0
IsResult bytes arguments = (handle body : List ℕ) × LacksNul handle × (arguments ≡ handle ∷ body ∷ []) × (bytes ≡ handle ++ 0 ∷ body)

-- a function, a unique id and a body
abbrev pub IsJob : List ℕ → List (List ℕ) → Type 0
IsJob bytes arguments =
    (function unique body : List ℕ)
    × LacksNul function × LacksNul unique × (arguments ≡ function ∷ unique ∷ body ∷ []) × (bytes ≡ function ++ 0 ∷ (unique ++ 0 ∷ body))

-- from 1 to 10 digits that write the number, which is below 2 ^ 32
pub record IsNumber (digits : List ℕ) (n : ℕ) : Type 0 where
  pub some : 0 < length digits
  pub few : length digits ≤ 10
  pub digital : list_all is_ascii_digit digits ≡ true
  pub value : digits_value 10 digits ≡ n
  pub small : n < 2 ^ 32

-- a function, and the digits of a number of seconds
abbrev pub IsTimed : List ℕ → List (List ℕ) → ℕ → Type 0
IsTimed bytes arguments seconds =
    (function digits : List ℕ) × LacksNul function × (arguments ≡ function ∷ []) × IsNumber digits seconds × MayEnd (function ++ 0 ∷ digits) bytes

-- ---- the requests

-- the data of this type ask this: each request has its type and its shape
abbrev pub IsWritten : Kind → ℕ → List ℕ → List (List ℕ) → ℕ → Type 0
IsWritten CanDo type bytes arguments timeout = (type ≡ 1) × IsOne bytes arguments × (timeout ≡ 0)
IsWritten CantDo type bytes arguments timeout = (type ≡ 2) × IsOne bytes arguments × (timeout ≡ 0)
IsWritten ResetAbilities type bytes arguments timeout = (type ≡ 3) × IsNone bytes arguments × (timeout ≡ 0)
IsWritten PreSleep type bytes arguments timeout = (type ≡ 4) × IsNone bytes arguments × (timeout ≡ 0)
IsWritten SubmitJob type bytes arguments timeout = (type ≡ 7) × IsJob bytes arguments × (timeout ≡ 0)
IsWritten GrabJob type bytes arguments timeout = (type ≡ 9) × IsNone bytes arguments × (timeout ≡ 0)
IsWritten WorkStatus type bytes arguments timeout = (type ≡ 12) × IsReport bytes arguments × (timeout ≡ 0)
IsWritten WorkComplete type bytes arguments timeout = (type ≡ 13) × IsResult bytes arguments × (timeout ≡ 0)
IsWritten WorkFail type bytes arguments timeout = (type ≡ 14) × IsOne bytes arguments × (timeout ≡ 0)
IsWritten GetStatus type bytes arguments timeout = (type ≡ 15) × IsOne bytes arguments × (timeout ≡ 0)
IsWritten EchoReq type bytes arguments timeout = (type ≡ 16) × IsBody bytes arguments × (timeout ≡ 0)
IsWritten SubmitJobBg type bytes arguments timeout = (type ≡ 18) × IsJob bytes arguments × (timeout ≡ 0)
IsWritten SubmitJobHigh type bytes arguments timeout = (type ≡ 21) × IsJob bytes arguments × (timeout ≡ 0)
IsWritten SetClientId type bytes arguments timeout = (type ≡ 22) × IsOne bytes arguments × (timeout ≡ 0)
IsWritten CanDoTimeout type bytes arguments timeout = (type ≡ 23) × IsTimed bytes arguments timeout
IsWritten AllYours type bytes arguments timeout = (type ≡ 24) × IsNone bytes arguments × (timeout ≡ 0)
IsWritten WorkException type bytes arguments timeout = (type ≡ 25) × IsResult bytes arguments × (timeout ≡ 0)
IsWritten OptionReq type bytes arguments timeout = (type ≡ 26) × IsOne bytes arguments × (timeout ≡ 0)
IsWritten WorkData type bytes arguments timeout = (type ≡ 28) × IsResult bytes arguments × (timeout ≡ 0)
IsWritten WorkWarning type bytes arguments timeout = (type ≡ 29) × IsResult bytes arguments × (timeout ≡ 0)
IsWritten GrabJobUniq type bytes arguments timeout = (type ≡ 30) × IsNone bytes arguments × (timeout ≡ 0)
IsWritten SubmitJobHighBg type bytes arguments timeout = (type ≡ 32) × IsJob bytes arguments × (timeout ≡ 0)
IsWritten SubmitJobLow type bytes arguments timeout = (type ≡ 33) × IsJob bytes arguments × (timeout ≡ 0)
IsWritten SubmitJobLowBg type bytes arguments timeout = (type ≡ 34) × IsJob bytes arguments × (timeout ≡ 0)

-- one of these types
abbrev pub is_type : ℕ → Bool
is_type type =
    list_any (λ n. n == type)
    (1 ∷ 2 ∷ 3 ∷ 4 ∷ 7 ∷ 9 ∷ 12 ∷ 13 ∷ 14 ∷ 15 ∷ 16 ∷ 18 ∷ 21 ∷ 22 ∷ 23 ∷ 24 ∷ 25 ∷ 26 ∷ 28 ∷ 29 ∷ 30 ∷ 32 ∷ 33 ∷ 34 ∷ [])

pub record RequestsAreRead : Type 0 where
  -- data are read as a request exactly if they are written so
  pub read : (type : ℕ) (bytes : List ℕ) (asked : Asked) → IsWritten asked.kind type bytes asked.arguments asked.timeout →
      request_of type bytes ≡ Ok asked
  pub written : (type : ℕ) (bytes : List ℕ) (asked : Asked) → request_of type bytes ≡ Ok asked →
      IsWritten asked.kind type bytes asked.arguments asked.timeout
  -- a type is the kind's that is read of its data, each kind has one, and other types have none
  pub typed : (type : ℕ) (bytes : List ℕ) (asked : Asked) → request_of type bytes ≡ Ok asked → kind_of type ≡ Some asked.kind
  pub numbered : (kind : Kind) → kind_of (number kind) ≡ Some kind
  pub untyped : (type : ℕ) → is_type type ≡ false → kind_of type ≡ None
  -- other types are unknown, and other data of these types are bad
  pub unknown : (type : ℕ) (bytes : List ℕ) → is_type type ≡ false → request_of type bytes ≡ Err UnknownCommand
  pub bad : (type : ℕ) (bytes : List ℕ) → is_type type ≡ true →
      ((asked : Asked) → IsWritten asked.kind type bytes asked.arguments asked.timeout → ⊥) → request_of type bytes ≡ Err BadArguments
