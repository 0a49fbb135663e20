use Rattle.gm_socket.specs.Logs.{with_call}
use Rattle.gm_socket.proofs.log.Log.add.Given as goal

-- what the log becomes
abbrev pub ghosts-update : goal.ghosts-update
ghosts-update a = record { worth = with_call a._by.now.0.now a._by.now.1.now a.self.now }
