use Rattle.std.proofs.Common.{◌≡◌, ◌++◌, map, drop}
use Rattle.gm_conns.specs.ConnTables.{conn}
use Rattle.gm_core.specs.Listings.{names_of}
use Rattle.gm_core.proofs.ListLemmas.{told}
use Rattle.gm_core.proofs.server.lists.names_of.Given as goal

abbrev pub invariant-loop-i : goal.invariant-loop-i
invariant-loop-i l =
    map (λ name. name.now) l.names.items ++ told l.functions.names (drop l.i (conn l.conns l.slot).abilities) ≡ names_of l.functions.names (conn l.conns l.slot)
