-- How the program ends, said of the words that it is run on.
use Rattle.std.specs.Prelude.{◌≡◌, ◌⊎◌, Bool, true, false, List, [], Result, Ok, Err, None}
use Rattle.clap.specs.Words.{Text, IsAmong}
use Rattle.clap.specs.declared.error.kind.ErrorKind.{ErrorKind}
use Rattle.clap.specs.declared.error.kind.ErrorKind.TheVariants as kinds
use Rattle.gm_notes.specs.Settings.{config_fault}
use Rattle.gm_options.specs.declared.gmd.Args.{Args}
use Rattle.gm_server.specs.declared.outcome.Outcome.{Outcome}
use Rattle.gm_server.specs.declared.outcome.Outcome.TheVariants.{Said, Served}
use Rattle.gm_server.specs.declared.outcome.RunError.{RunError}
use Rattle.gm_server.specs.declared.outcome.RunError.TheVariants as errors
use Rattle.gm_server.specs.Arguments.{asked_settings}
use Rattle.gm_options.specs.Words.{fault_in, Reads}
use Rattle.gm_report.specs.declared.error.ServeError.{ServeError}
use Rattle.gm_report.specs.declared.summary.Summary.{Summary}
use Rattle.gm_slots.specs.declared.served.Served.{Served as Ended}
use Rattle.gm_slots.specs.Served.{EndsSo, summary_of}

-- ---- words that aren't run

-- they ask for the help or the version
abbrev pub IsRequest : ErrorKind → Type 0
IsRequest kind = (kind ≡ kinds.DisplayHelp) ⊎ (kind ≡ kinds.DisplayVersion)

abbrev pub AskHelp : List Text → Type 0
AskHelp words = (kind : ErrorKind) × IsAmong kind (fault_in words) × IsRequest kind

-- they are invalid
abbrev pub AreInvalid : List Text → Type 0
AreInvalid words = (kind : ErrorKind) × IsAmong kind (fault_in words) × (IsRequest kind → ⊥)

-- the outcome for an error of this kind
abbrev pub SaysSo : ErrorKind → Result Outcome RunError → Type 0
SaysSo kind (Ok Said) = IsRequest kind
SaysSo kind (Ok (Served served)) = ⊥
SaysSo kind (Err errors.Arguments) = (IsRequest kind → ⊥) × (kind ≡ kinds.OutOfMemory → ⊥)
SaysSo kind (Err (errors.Serve error)) = kind ≡ kinds.OutOfMemory
SaysSo kind (Err errors.Output) = IsRequest kind
SaysSo kind (Err error) = ⊥

-- how a program ended that only wrote to standard output, by whether it could be written
abbrev pub said_as : Bool → Result Outcome RunError
said_as true = Ok Said
said_as false = Err errors.Output

-- ---- the end

-- the summary of a server that served, or couldn't
abbrev pub said_of : Result Ended ServeError → Result Summary ServeError
said_of (Ok served) = summary_of served.book
said_of (Err error) = Err error

-- ---- words that are run

-- they are valid, and ask for this
pub record Ask (words : List Text) (args : Args) : Type 0 where
  pub valid : fault_in words ≡ []
  pub reads : Reads words args

-- an error is one of words
abbrev pub is_of_words : RunError → Bool
is_of_words errors.Arguments = true
is_of_words errors.Name = true
is_of_words error = false

-- of these arguments only the name may be wrong
abbrev pub FailsSo : Args → RunError → Type 0
FailsSo args error = is_of_words error ≡ true → (error ≡ errors.Name) × (config_fault (asked_settings args) ≡ None → ⊥)

-- the outcome that these arguments ask for
abbrev pub DoesSo : Args → Result Outcome RunError → Type 0
DoesSo args (Ok Said) = args.check ≡ true
DoesSo args (Ok (Served served)) = (args.check ≡ false) × EndsSo (asked_settings args) args.tape args.server.limits served
DoesSo args (Err error) = FailsSo args error

-- ---- all words

-- It only said something if that is asked for. It served as the words ask, and hands out its book as it was settled.
-- It says that the words are invalid only if they are, and refuses the name only if it can't be part of a handle.
-- Any other error but for memory comes of valid words.
abbrev pub EndsAs : List Text → Result Outcome RunError → Type 0
EndsAs words (Ok Said) = AskHelp words ⊎ ((args : Args) × Ask words args × (args.check ≡ true))
EndsAs words (Ok (Served served)) = (args : Args) × Ask words args × (args.check ≡ false) × EndsSo (asked_settings args) args.tape args.server.limits served
EndsAs words (Err errors.Arguments) = AreInvalid words
EndsAs words (Err errors.Name) = (args : Args) × Ask words args × (config_fault (asked_settings args) ≡ None → ⊥)
EndsAs words (Err errors.Output) = AskHelp words ⊎ (fault_in words ≡ [])
EndsAs words (Err (errors.Serve error)) = Unit {0}
EndsAs words (Err error) = fault_in words ≡ []
