-- The codes of refused requests.
use Rattle.std.specs.Prelude.{ℕ, List, codes}
use Rattle.gm_actions.specs.declared.refusal.Refusal.{Refusal}
use Rattle.gm_actions.specs.declared.refusal.Refusal.TheVariants.{UnknownCommand, BadArguments, BadFunction, UnknownOption}
use Rattle.gm_actions.specs.declared.refusal.Refusal.TheVariants.{JobNotFound, TooManyFunctions, QueueFull, NoNumbers}

abbrev pub code_of : Refusal → List ℕ
code_of UnknownCommand = codes "unknown_command"
code_of BadArguments = codes "bad_arguments"
code_of BadFunction = codes "bad_function"
code_of UnknownOption = codes "unknown_option"
code_of JobNotFound = codes "job_not_found"
code_of TooManyFunctions = codes "too_many_functions"
code_of QueueFull = codes "queue_full"
code_of NoNumbers = codes "no_numbers"
