use Rattle.std.proofs.Common.{◌≡◌, ◌<◌, ℕ, false}
use Rattle.gm_plain.specs.Searches.{is_listening}
use Rattle.gm_plain.proofs.jobs.is_wanted.Given as goal

abbrev pub invariant-loop-slot : goal.invariant-loop-slot
invariant-loop-slot l = (d : ℕ) → d < l.slot → is_listening l.job d l.log.notes ≡ false
