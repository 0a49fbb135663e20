use Rattle.std.proofs.Common.{◌≡◌, take, Option, Some, None, refl, subst}
use Rattle.std.specs.Option.{option_map}
use Rattle.gm_notes.specs.declared.states.Pick.{Pick}
use Rattle.gm_notes.specs.Past.{Past}
use Rattle.gm_conns.specs.ConnTables.{conn}
use Rattle.gm_core.specs.declared.server.abilities.Choice.{Choice}
use Rattle.gm_core.specs.declared.server.Tables.{Tables}
use Rattle.gm_core.specs.Holds.{Keeps}
use Rattle.gm_core.proofs.PickLemmas.{with_of, with_parts}
use Rattle.gm_core.proofs.server.Tables.pick_in_turn.Goals as goal

pub returns-in-Some-clause-value : goal.returns-in-Some-clause-value
returns-in-Some-clause-value c past keeps =
    let core = c.args.self.now in
    with_parts core past c.args.slot c.args.priority c.args.len c.args.last (Some (c.in-Some.found.pick)) (with_of core past c.args.priority (take c.args.last (conn core.conns c.args.slot).abilities))
    c.requires.len (c.in-Some.ensures.value past keeps) refl

pub returns-in-None-clause-value : goal.returns-in-None-clause-value
returns-in-None-clause-value c past keeps =
    let core = c.args.self.now in
    let none : Option Pick = None in
    let rest = option_map (λ (found : Choice). found.pick) c.pick_with-in-None.result in
    let value = subst (λ (core : Tables). (past : Past) → Keeps core past → rest ≡ with_of core past c.args.priority (take c.args.last (conn core.conns c.args.slot).abilities))
    c.pick_with.ensures.same c.pick_with-in-None.ensures.value in
    with_parts core past c.args.slot c.args.priority c.args.len c.args.last none rest c.requires.len (c.in-None.ensures.value past keeps) (value past keeps)
