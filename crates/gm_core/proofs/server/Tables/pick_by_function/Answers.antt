use Rattle.std.proofs.Common.{◌≡◌, map, take, Option, Some, None, refl, subst}
use Rattle.std.specs.Option.{option_map}
use Rattle.gm_notes.specs.declared.states.Pick.{Pick}
use Rattle.gm_notes.specs.Jobs.{pick_from}
use Rattle.gm_notes.specs.Past.{Past}
use Rattle.gm_conns.specs.ConnTables.{conn}
use Rattle.gm_core.specs.declared.server.abilities.Choice.{Choice}
use Rattle.gm_core.specs.declared.server.Tables.{Tables}
use Rattle.gm_core.specs.Holds.{Keeps, ability_named}
use Rattle.gm_core.proofs.TurnLemmas.{pick_parts}
use Rattle.gm_core.proofs.server.Tables.pick_by_function.Goals as goal

pub returns-in-Some-clause-value : goal.returns-in-Some-clause-value
returns-in-Some-clause-value c past keeps =
    let core = c.args.self.now in
    let last = c.tried_last-last.result in
    pick_parts core past c.args.slot c.abilities_len-len.result last (Some (c.in-Some.found.pick))
    (pick_from (map (ability_named core.functions.names) (take last (conn core.conns c.args.slot).abilities)) past.notes)
    c.abilities_len-len.ensures (c.tried_last-last.ensures.scan past keeps) (c.in-Some.ensures.value past keeps) refl

pub returns-in-None-clause-value : goal.returns-in-None-clause-value
returns-in-None-clause-value c past keeps =
    let core = c.args.self.now in
    let none : Option Pick = None in
    let rest = option_map (λ (found : Choice). found.pick) c.pick_among-in-None.result in
    let last = c.tried_last-last.result in
    let value = subst (λ (core : Tables). (past : Past) → Keeps core past → rest ≡ pick_from (map (ability_named core.functions.names) (take last (conn core.conns c.args.slot).abilities)) past.notes)
    c.pick_among.ensures.same c.pick_among-in-None.ensures.value in
    pick_parts core past c.args.slot c.abilities_len-len.result last none rest
    c.abilities_len-len.ensures (c.tried_last-last.ensures.scan past keeps) (c.in-None.ensures.value past keeps)
    (value past keeps)
