use Rattle.std.proofs.Common.{sym, ◌∙◌, arith}
use Rattle.gm_core.proofs.TurnLemmas.{scans_in_turn, scans_without, at_next}
use Rattle.gm_core.proofs.server.Tables.tried_last.Goals as goal

pub overflow_add-result : goal.overflow_add-result
overflow_add-result c = let within = c.in-Some-index_of.ensures.within in let len = c.requires.len in let fits = c.ranges.len.fits in omega (arith, within, len, fits)

pub returns-in-Some-index_of-clause-scan : goal.returns-in-Some-index_of-clause-scan
returns-in-Some-index_of-clause-scan c past keeps =
    at_next c.args.self.now past c.args.slot c.in-Some-index_of.i
    (scans_in_turn c.args.self.now past c.args.slot keeps c.requires.open c.in-Some.last c.in-Some-index_of.i (sym c.round_robin.ensures ∙ c.if-not-round_robin.false) (sym c.in-Some.ensures)
    (sym c.in-Some-index_of.ensures.value))

pub returns-in-None-clause-scan : goal.returns-in-None-clause-scan
returns-in-None-clause-scan c past keeps =
    scans_without c.args.self.now past c.args.slot keeps c.requires.open c.in-Some.last (sym c.round_robin.ensures ∙ c.if-not-round_robin.false) (sym c.in-Some.ensures) (sym c.in-None.ensures.value)
