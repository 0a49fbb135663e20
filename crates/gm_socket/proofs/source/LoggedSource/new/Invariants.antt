use Rattle.std.proofs.Common.{[]}
use Rattle.gm_socket.proofs.source.LoggedSource.new.Given as goal

-- the log begins with what is to come
abbrev pub ghosts-new : goal.ghosts-new
ghosts-new g a = record { worth = record { before = g.I.Source.remaining a.of.now; bytes = []; answers = [] } }
