use Rattle.gm_shared.specs.Tokens.{entries_of}
use Rattle.gm_shared.proofs.history.enter.Given as goal

-- what was entered
abbrev pub ghosts-enter : goal.ghosts-enter
ghosts-enter a = record { entries = entries_of a._by.now.0 a._by.now.1 }
