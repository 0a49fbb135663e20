-- The statuses that the program ends with.
use Rattle.std.specs.Prelude.{ℕ}
use Rattle.gm_play.specs.declared.error.PlayError.{PlayError}
use Rattle.gm_play.specs.declared.error.PlayError.TheVariants as faults
use Rattle.gm_play.specs.declared.run_error.RunError.{RunError}
use Rattle.gm_play.specs.declared.run_error.RunError.TheVariants.{Arguments, Seed, Play}

-- 2 if the script can't be read, 3 if out of memory or the output can't be written
abbrev pub play_status : PlayError → ℕ
play_status faults.Read = 2
play_status faults.Write = 3
play_status faults.TooLong = 2
play_status faults.Memory = 3

-- 2 for invalid arguments, 3 if there is no random seed
abbrev pub run_status : RunError → ℕ
run_status Arguments = 2
run_status Seed = 3
run_status (Play fault) = play_status fault
