use Rattle.std.proofs.Common.{[]}
use Rattle.gm_socket.proofs.writer.LoggedWriter.new.Given as goal

-- the log begins with what the writer holds
abbrev pub ghosts-new : goal.ghosts-new
ghosts-new g a = record { worth = record { before = g.W.KnownWriter.contents a.of.now; bytes = []; answers = [] } }
