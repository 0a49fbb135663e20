use Rattle.std.proofs.Common.{rules, ◌≡◌, ℕ, refl, ◌∙◌, ◌++◌, ap, sym, subst, List}
use Rattle.gm_shared.specs.declared.tape.Entry.{Entry}
use Rattle.gm_shared.specs.declared.tape.Actor.TheVariants as actors
use Rattle.gm_shared.specs.Tapes.{share_of, steps_of, Legal}
use Rattle.gm_shared.specs.Histories.{Knows, AreOf, AreBelow}
use Rattle.gm_shared.specs.Tokens.{entries_of}
use Rattle.gm_shared.specs.Calls.{PenCalled, drained_entries}
use Rattle.gm_shared.specs.Shared.{IsGuarded}
use Rattle.gm_shared.proofs.Entries.{own_drained, drained_log, drained_guarded, drained_gives, drained_shares}
use Rattle.gm_shared.proofs.Sharing.{called_own}
use Rattle.gm_shared.proofs.guarded.Guarded.drain.Given.{Over}
use Rattle.gm_shared.proofs.guarded.Guarded.drain.Goals.{After-enter, in-Ok, in-Err}
use Rattle.gm_shared.proofs.guarded.Guarded.drain.Goals as goal

pub enter-requires : goal.enter-requires
enter-requires g c =
    let same : entries_of c.args.pen.now.slot c.match-result.what ≡ drained_entries c.args.pen.now.slot c.args.pen.now.slot c.drain_into-result.result = elim c.match-result.branch [ in-Ok w ↦ rw (w.what-is, w.in-Ok.is) refl | in-Err w ↦ rw (w.what-is, w.in-Err.is) refl ] in
    record {
      keeper = c.self.invariant.1 ∙ sym c.args.shared.now.historic;
      witness = c.args.pen.now.witnessed.0 ∙ sym c.args.shared.now.historic;
      own = subst (λ (z : ℕ × List Entry). AreOf z.0 z.1) (λ j. (sym c.args.pen.now.witnessed.1 j, sym same j)) (own_drained c.args.pen.now.slot c.args.pen.now.slot c.drain_into-result.result);
    }

pub invariant_of-self : goal.invariant_of-self
invariant_of-self g c =
    let i = c.self.invariant.0 in
    let log = c.self.inside.keeper.log in
    let h = c.drain_into-result.ensures.drains _ (steps_of log) i.agrees in
    let same : entries_of c.args.pen.now.slot c.match-result.what ≡ drained_entries c.args.pen.now.slot c.args.pen.now.slot c.drain_into-result.result = elim c.match-result.branch [ in-Ok w ↦ rw (w.what-is, w.in-Ok.is) refl | in-Err w ↦ rw (w.what-is, w.in-Err.is) refl ] in
    let is = ap (λ k. k.log) c.enter.ensures.keeper ∙ ap (λ es. es ++ log) same in (
      subst (IsGuarded g.K.BookName.table g.K.BookName.settings g.K.BookName.taped c.drain_into-result.new.self) (sym is)
          (drained_guarded _ c.args.pen.now.slot c.args.pen.now.slot _ _ _ log i.legal g.K.BookName.taped i.on i.recorded c.drain_into-result.result h.2 g.K.BookName.table (ap (λ s. s.table) c.drain_into-result.ensures.seat ∙ i.table_is) c.drain_into-result.ensures.openings i.counts
          (subst (λ (z : ℕ × List Entry). AreBelow z.0 (z.1 ++ log)) (λ j. (c.self.invariant.2 j, same j)) c.enter.ensures.whose)),
      ap (λ k. k.table) c.enter.ensures.keeper ∙ c.self.invariant.1,
      ap (λ k. k.made) c.enter.ensures.keeper ∙ c.self.invariant.2,
    )

called : (g : Over) (c : After-enter g) → PenCalled g.K.BookName.settings g.K.BookName.taped c.args.pen.now.slot c.args.pen.now.slot c.drain_into-result.result c.args.pen.now.witness.seen c.enter.new.witness.seen
called g c =
    let i = c.self.invariant.0 in
    let log = c.self.inside.keeper.log in
    let h = c.drain_into-result.ensures.drains _ (steps_of log) i.agrees in
    let same : entries_of c.args.pen.now.slot c.match-result.what ≡ drained_entries c.args.pen.now.slot c.args.pen.now.slot c.drain_into-result.result = elim c.match-result.branch [ in-Ok w ↦ rw (w.what-is, w.in-Ok.is) refl | in-Err w ↦ rw (w.what-is, w.in-Err.is) refl ] in
    let is = ap (λ f. f.seen) c.enter.ensures.witness ∙ ap (λ es. es ++ log) same in
    record {
      before = log;
      knows = subst (λ who. Knows log who c.args.pen.now.witness.seen) c.args.pen.now.witnessed.1 c.enter.ensures.knows;
      legal = subst (Legal g.K.BookName.settings) (sym is)
          (drained_log _ c.args.pen.now.slot c.args.pen.now.slot _ _ _ log i.legal c.drain_into-result.result h.2).1;
      gives = drained_gives _ c.args.pen.now.slot c.args.pen.now.slot _ _ _ log i.legal g.K.BookName.taped i.on i.counts c.drain_into-result.result c.drain_into-result.ensures.opening h.2;
      after_is = is;
    }

pub returns-clause-called : goal.returns-clause-called
returns-clause-called g c = called g (goal.at.returns-clause-called g c).After-enter

pub invariant_of-pen : goal.invariant_of-pen
invariant_of-pen g c =
    let i = c.self.invariant.0 in
    let log = c.self.inside.keeper.log in
    let h = c.drain_into-result.ensures.drains _ (steps_of log) i.agrees in
    let same : entries_of c.args.pen.now.slot c.match-result.what ≡ drained_entries c.args.pen.now.slot c.args.pen.now.slot c.drain_into-result.result = elim c.match-result.branch [ in-Ok w ↦ rw (w.what-is, w.in-Ok.is) refl | in-Err w ↦ rw (w.what-is, w.in-Err.is) refl ] in
    let is = ap (λ f. f.seen) c.enter.ensures.witness ∙ ap (λ es. es ++ log) same in
    let told =
    drained_shares _ c.args.pen.now.slot c.args.pen.now.slot _ _ _ log i.legal g.K.BookName.taped i.on i.recorded c.drain_into-result.result h.2 c.args.pen.now.witness.seen
    (subst (λ who. Knows log who c.args.pen.now.witness.seen) c.args.pen.now.witnessed.1 c.enter.ensures.knows) _ _ c.args.pen.now.told h.1
    ∙ ap (share_of g.K.BookName.taped (actors.Pen c.args.pen.now.slot)) (sym is) in
    record { witnessed = search rules; told = told; named = c.args.pen.now.named; sits = c.args.pen.now.sits; own = called_own _ _ _ c.drain_into-result.result _ _ (called g (goal.at.invariant_of-pen g c).After-enter) c.args.pen.now.own }
