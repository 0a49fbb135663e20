use Rattle.gm_threads.proofs.server.serve_with.Given as goal

abbrev pub ghosts-serve_book : goal.ghosts-serve_book
ghosts-serve_book g a = record { table = a.blank.table; history = a.blank.history; settings = a.blank.settings; taped = a.blank.taped; sockets = a.sockets }
