-- The contents of a log of calls.
use Rattle.std.specs.Prelude.{List, ℕ, ◌++◌, ◌∷◌}
use Rattle.gm_feeder.specs.declared.source.Answer.{Answer}
use Rattle.gm_socket.specs.declared.log.Logged.{Logged}

-- one call more, which moved these bytes and answered so
abbrev pub with_call : List ℕ → Answer → Logged → Logged
with_call bytes answer logged = record logged { bytes = logged.bytes ++ bytes; answers = answer ∷ logged.answers }
