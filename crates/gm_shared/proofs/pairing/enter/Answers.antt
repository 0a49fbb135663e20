use Rattle.std.proofs.Common.{◌≡◌, ◌∙◌, ap, sym, subst}
use Rattle.gm_ghost.specs.Owners.{WitnessState}
use Rattle.gm_shared.specs.declared.pairing.Passage.{Passage}
use Rattle.gm_shared.specs.Pairings.{SideState, side_code, passed_by, passed_with}
use Rattle.gm_shared.proofs.Passing.{known, more}
use Rattle.gm_shared.proofs.pairing.enter.Goals as goal

pub returns-clause-knows : goal.returns-clause-knows
returns-clause-knows g c =
    subst (λ (s : SideState). passed_by (side_code s.slot s.is_writing) c.args.keeper.now.log ≡ s.passed) c.side.view_is
    (known c.args.keeper.now.log c.side.inside.witness.who (side_code c.side.inside.slot c.side.inside.is_writing) c.side.inside.witness.seen c.side.invariant.1 c.enter.ensures.knows)

pub returns-clause-side : goal.returns-clause-side
returns-clause-side g c =
    let code = side_code c.side.inside.slot c.side.inside.is_writing in
    ap (λ (w : WitnessState Passage). record { slot = c.side.inside.slot; is_writing = c.side.inside.is_writing; passed = passed_by code w.seen }) c.enter.ensures.witness
    ∙ (more c.side.inside.slot c.side.inside.is_writing code c.args.passage c.args.keeper.now.log c.side.inside.witness.seen
    (known c.args.keeper.now.log c.side.inside.witness.who code c.side.inside.witness.seen c.side.invariant.1 c.enter.ensures.knows)
    ∙ ap (passed_with c.args.passage) c.side.view_is)
