-- Why a program can't get its arguments, what it says of that, and the statuses that programs end with.
use Rattle.std.specs.Prelude.{ℕ, List, codes}
use Rattle.std.specs.declared.io.ErrorKind.{ErrorKind}
use Rattle.std.specs.declared.io.ErrorKind.TheVariants.{OutOfMemory}
use Rattle.gm_options.specs.declared.program.ArgumentsError.{ArgumentsError}
use Rattle.gm_options.specs.declared.program.ArgumentsError.TheVariants.{NotText, Memory}

abbrev pub arguments_status : ArgumentsError → ℕ
arguments_status NotText = 2
arguments_status Memory = 3

abbrev pub arguments_text : ArgumentsError → List ℕ
arguments_text NotText = codes "invalid arguments: not text"
arguments_text Memory = codes "out of memory"

abbrev pub arguments_error : ErrorKind → ArgumentsError
arguments_error OutOfMemory = Memory
arguments_error _ = NotText
