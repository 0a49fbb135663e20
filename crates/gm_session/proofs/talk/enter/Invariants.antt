use Rattle.std.specs.Option.{option_map}
use Rattle.gm_session.specs.Talks.{talking_of, hearings_with}
use Rattle.gm_session.proofs.talk.enter.Given as goal

-- the connection, at its end
abbrev pub ghosts-update : goal.ghosts-update
ghosts-update g a = record { worth = hearings_with a._by.now.0.now.witness.seen (option_map talking_of a._by.now.1.now) a.self.now }
