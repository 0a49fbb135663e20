-- The numbers of refusals.
use Rattle.std.specs.Prelude.{ℕ}
use Rattle.gm_queues.specs.declared.functions.MentionError.{MentionError}
use Rattle.gm_queues.specs.declared.functions.MentionError.TheVariants.{Memory, TooManyFunctions}

abbrev pub mention_error_number : MentionError → ℕ
mention_error_number Memory = 6
mention_error_number TooManyFunctions = 14
