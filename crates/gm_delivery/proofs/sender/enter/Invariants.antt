use Rattle.gm_delivery.specs.Accounts.{closed}
use Rattle.gm_delivery.proofs.sender.enter.Given as goal

-- what the account becomes
abbrev pub ghosts-update : goal.ghosts-update
ghosts-update g a = record { worth = closed a._by.now.0.now.witness.seen a._by.now.0.now.seat.takes a._by.now.1.now.socket a._by.now.1.now.log a._by.now.2 a.self.now }
