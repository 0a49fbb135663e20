use Rattle.gm_shared.specs.Pairings.{side_code, passages_of}
use Rattle.gm_shared.proofs.pairing.enter.Given as goal

-- the passage at this side
abbrev pub ghosts-enter : goal.ghosts-enter
ghosts-enter g a = record { entries = passages_of (side_code a._by.now.0 a._by.now.1) a._by.now.2 }
