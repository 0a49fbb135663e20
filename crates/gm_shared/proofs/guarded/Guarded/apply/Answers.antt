use Rattle.std.proofs.Common.{rules, ℕ, Option, ◌∙◌, ◌++◌, ap, sym, subst, List}
use Rattle.gm_notes.specs.declared.event.Done.{Done}
use Rattle.gm_notes.specs.Servers.{step_of}
use Rattle.gm_shared.specs.declared.tape.Entry.{Entry}
use Rattle.gm_shared.specs.declared.tape.Actor.TheVariants as actors
use Rattle.gm_shared.specs.Tapes.{share_of, steps_of, Legal, noop_entries}
use Rattle.gm_shared.specs.Histories.{Knows, AreOf, AreBelow}
use Rattle.gm_shared.specs.Tokens.{if_done}
use Rattle.gm_shared.specs.Calls.{Calls}
use Rattle.gm_shared.specs.Shared.{IsGuarded}
use Rattle.gm_shared.specs.Books.{AreSlots}
use Rattle.gm_shared.proofs.Entries.{own_added, held_log, held_guarded, held_calls, held_shares}
use Rattle.gm_shared.proofs.guarded.Guarded.apply.Goals as goal

pub enter-requires : goal.enter-requires
enter-requires g c =
    let desk = c.args.desk.now.number in
    let noop = c.hold-result.new.found in
    let s = step_of c.args.read.now.event in
    let is = ap (λ d. if_done desk s d (noop_entries desk noop)) c.done_in.ensures in
    record {
      keeper = c.self.invariant.1 ∙ sym c.args.shared.now.historic;
      witness = c.args.desk.now.witnessed.0 ∙ sym c.args.shared.now.historic;
      own = subst (λ (z : ℕ × List Entry). AreOf z.0 z.1) (λ j. (sym c.args.desk.now.witnessed.1 j, sym is j)) (own_added desk s c.hold-result.result noop);
    }

pub invariant_of-self : goal.invariant_of-self
invariant_of-self g c =
    let i = c.self.invariant.0 in
    let desk = c.args.desk.now.number in
    let noop = c.hold-result.new.found in
    let s = step_of c.args.read.now.event in
    let log = c.self.inside.keeper.log in
    let h = c.hold-result.ensures.holding _ (steps_of log) i.agrees in
    let is = ap (λ k. k.log) c.enter.ensures.keeper ∙ ap (λ d. if_done desk s d (noop_entries desk noop) ++ log) c.done_in.ensures in (
      subst (IsGuarded g.K.BookName.table g.K.BookName.settings g.K.BookName.taped c.hold-result.new.self) (sym is)
          (held_guarded _ c.args.read.now.event desk noop _ _ _ _ log i.legal g.K.BookName.taped i.on i.recorded c.hold-result.result h.2 g.K.BookName.table (c.hold-result.ensures.table ∙ i.table_is) c.hold-result.ensures.opened i.counts
          (subst (λ (z : ℕ × Option Done). AreBelow z.0 (if_done desk s z.1 (noop_entries desk noop) ++ log)) (λ j. (c.self.invariant.2 j, c.done_in.ensures j)) c.enter.ensures.whose)),
      ap (λ k. k.table) c.enter.ensures.keeper ∙ c.self.invariant.1,
      ap (λ k. k.made) c.enter.ensures.keeper ∙ c.self.invariant.2,
    )

pub returns-clause-called : goal.returns-clause-called
returns-clause-called g c =
    let i = c.self.invariant.0 in
    let desk = c.args.desk.now.number in
    let noop = c.hold-result.new.found in
    let s = step_of c.args.read.now.event in
    let log = c.self.inside.keeper.log in
    let h = c.hold-result.ensures.holding _ (steps_of log) i.agrees in
    let is = ap (λ f. f.seen) c.enter.ensures.witness ∙ ap (λ d. if_done desk s d (noop_entries desk noop) ++ log) c.done_in.ensures in
    record {
      before = log;
      knows = subst (λ who. Knows log who c.args.desk.now.witness.seen) c.args.desk.now.witnessed.1 c.enter.ensures.knows;
      legal = subst (Legal g.K.BookName.settings) (sym is) (held_log _ c.args.read.now.event desk noop _ _ _ _ log i.legal c.hold-result.result h.2).1;
      noop = noop;
      calls = subst (Calls g.K.BookName.settings g.K.BookName.taped s desk noop c.hold-result.result c.hold-result.new.touched log) (sym is)
          (held_calls _ c.args.read.now.event desk noop _ _ _ _ log i.legal g.K.BookName.taped i.on i.recorded c.hold-result.result h.2);
    }

pub invariant_of-desk : goal.invariant_of-desk
invariant_of-desk g c =
    let i = c.self.invariant.0 in
    let desk = c.args.desk.now.number in
    let noop = c.hold-result.new.found in
    let s = step_of c.args.read.now.event in
    let log = c.self.inside.keeper.log in
    let h = c.hold-result.ensures.holding _ (steps_of log) i.agrees in
    let is = ap (λ f. f.seen) c.enter.ensures.witness ∙ ap (λ d. if_done desk s d (noop_entries desk noop) ++ log) c.done_in.ensures in
    let told =
    held_shares _ c.args.read.now.event desk noop _ _ _ _ log i.legal g.K.BookName.taped i.on i.recorded c.hold-result.result h.2 c.args.desk.now.witness.seen
    (subst (λ who. Knows log who c.args.desk.now.witness.seen) c.args.desk.now.witnessed.1 c.enter.ensures.knows) _ _ c.args.desk.now.told h.1
    ∙ ap (share_of g.K.BookName.taped (actors.Desk desk)) (sym is) in
    record { witnessed = search rules; told = told }

pub returns-clause-within : goal.returns-clause-within
returns-clause-within g c =
    subst (λ slots. AreSlots slots c.args.touched.now → AreSlots slots c.hold-result.new.touched) c.self.invariant.0.agrees.holds.slots c.hold-result.ensures.within
