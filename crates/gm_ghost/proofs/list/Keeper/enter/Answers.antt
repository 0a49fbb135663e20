use Rattle.std.proofs.Common.{ℕ, ap, sym, ◌∙◌, ◌++◌, [], ◌∷◌, refl, subst, arith, List}
use Rattle.std.specs.Prelude.{Some}
use Rattle.gm_ghost.specs.Lists.{Knows, AreOf, AreBelow, with_held, entered}
use Rattle.gm_ghost.specs.Owners.{WitnessState, KeeperState, witness_state, keeper_state}
use Rattle.gm_ghost.proofs.Moves.{Sat, hold_moves, enter_moves, give_moves}
use Rattle.gm_ghost.proofs.Entering.{only_view, joined_is, loaded_is, walked, keeper_sees, witness_sees}
use Rattle.gm_ghost.proofs.list.Keeper.enter.Goals as goal

pub join_seat-requires : goal.join_seat-requires
join_seat-requires g c =
    let sits = c.self.invariant in
    let into = c.into_seat.ensures in
    let badge = c.replace-badge.ensures.value in
    let note = c.witness.invariant in
    let keepers = ap (λ k. k.table) c.self.view_is ∙ (c.requires.keeper ∙ sym c.list.view_is) in
    let witnesses = into.0 ∙ (ap (λ b. b.table_id) badge ∙ (ap (λ f. f.table) c.witness.view_is ∙ (c.requires.witness ∙ sym c.list.view_is))) in
    let known = only_view g.E.Owned.owner _ _ note.0 (ap (λ b. b.views) badge ∙ note.1) into.2 in (
      keepers,
      witnesses,
      into.3,
      (let one = c.list.invariant.0 in omega arith),
      hold_moves g.E.Owned.owner _ _ sits.page note.0 _ c.into_seat.result.me sits.first sits.knows sits.free known,
    )

pub load-zero-requires : goal.load-zero-requires
load-zero-requires g c =
    let sits = c.self.invariant in
    let into = c.into_seat.ensures in
    let badge = c.replace-badge.ensures.value in
    let note = c.witness.invariant in
    let keepers = ap (λ k. k.table) c.self.view_is ∙ (c.requires.keeper ∙ sym c.list.view_is) in
    let known = only_view g.E.Owned.owner _ _ note.0 (ap (λ b. b.views) badge ∙ note.1) into.2 in
    let j = c.join_seat.ensures in
    let joined = joined_is g.E.Owned.owner sits.page note.0 c.self.inside.seat.me c.into_seat.result.me c.join_seat.new.seat.me sits.knows known j.2 in
    let who = ap (λ f. f.who) (sym c.witness.view_is) ∙ ap (λ views. (witness_state c.witness.inside.badge.table_id views).who) note.1 in
    let own = subst (λ (z : ℕ). AreOf g.E.Owned.owner z g.A.Entered.entries) who c.requires.own in (
      j.0 ∙ keepers,
      (let one = c.list.invariant.0 in omega arith),
      enter_moves g.E.Owned.owner _ _ (with_held (Some note.0) sits.page) note.0 _ _ (j.1 ∙ sits.first) joined refl own,
    )

pub split_seat-requires : goal.split_seat-requires
split_seat-requires g c =
    let sits = c.self.invariant in
    let badge = c.replace-badge.ensures.value in
    let note = c.witness.invariant in
    let keepers = ap (λ k. k.table) c.self.view_is ∙ (c.requires.keeper ∙ sym c.list.view_is) in
    let known = only_view g.E.Owned.owner _ _ note.0 (ap (λ b. b.views) badge ∙ note.1) c.into_seat.ensures.2 in
    let j = c.join_seat.ensures in
    let l = c.load-zero.ensures in
    let joined = joined_is g.E.Owned.owner sits.page note.0 c.self.inside.seat.me c.into_seat.result.me c.join_seat.new.seat.me sits.knows known j.2 in
    let loaded = loaded_is g.E.Owned.owner g.A.Entered.entries sits.page note.0 _ c.load-zero.new.seat.me joined l.2 in (
      l.0 ∙ (j.0 ∙ keepers),
      (let one = c.list.invariant.0 in omega arith),
      give_moves g.E.Owned.owner _ (entered _ (with_held (Some note.0) sits.page) note.0) (record { who = note.0.who; seen = _ ++ sits.page.log }) _ (l.1 ∙ (j.1 ∙ sits.first)) loaded.0 refl,
    )

pub invariant_of-self : goal.invariant_of-self
invariant_of-self g c =
    let sits = c.self.invariant in
    let badge = c.replace-badge.ensures.value in
    let note = c.witness.invariant in
    let known = only_view g.E.Owned.owner _ _ note.0 (ap (λ b. b.views) badge ∙ note.1) c.into_seat.ensures.2 in
    let j = c.join_seat.ensures in
    let l = c.load-zero.ensures in
    let s = c.split_seat.ensures in
    let w = walked g.E.Owned.owner g.A.Entered.entries sits.page note.0 c.self.inside.seat.me c.into_seat.result.me c.join_seat.new.seat.me c.load-zero.new.seat.me c.split_seat.new.seat.me c.split_seat.result.me sits.knows known j.2 l.2 s.2 s.4 in
    record { page = _; first = s.1 ∙ (l.1 ∙ (j.1 ∙ sits.first)); knows = w.keeper; free = refl }

pub invariant_of-witness : goal.invariant_of-witness
invariant_of-witness g c =
    let sits = c.self.invariant in
    let badge = c.replace-badge.ensures.value in
    let note = c.witness.invariant in
    let known = only_view g.E.Owned.owner _ _ note.0 (ap (λ b. b.views) badge ∙ note.1) c.into_seat.ensures.2 in
    let j = c.join_seat.ensures in
    let l = c.load-zero.ensures in
    let s = c.split_seat.ensures in
    let w = walked g.E.Owned.owner g.A.Entered.entries sits.page note.0 c.self.inside.seat.me c.into_seat.result.me c.join_seat.new.seat.me c.load-zero.new.seat.me c.split_seat.new.seat.me c.split_seat.result.me sits.knows known j.2 l.2 s.2 s.4 in
    (_, c.into_badge.ensures.2 ∙ ap (λ (m : Sat g.row.E.Denot). m.0 ∷ []) w.witness)

pub returns-clause-knows : goal.returns-clause-knows
returns-clause-knows g c =
    let sits = c.self.invariant in
    let badge = c.replace-badge.ensures.value in
    let note = c.witness.invariant in
    let known = only_view g.E.Owned.owner _ _ note.0 (ap (λ b. b.views) badge ∙ note.1) c.into_seat.ensures.2 in
    let j = c.join_seat.ensures in
    let joined = joined_is g.E.Owned.owner sits.page note.0 c.self.inside.seat.me c.into_seat.result.me c.join_seat.new.seat.me sits.knows known j.2 in
    let loaded = loaded_is g.E.Owned.owner g.A.Entered.entries sits.page note.0 _ c.load-zero.new.seat.me joined c.load-zero.ensures.2 in
    let log = sym (ap (λ (m : Sat g.row.E.Denot). (keeper_state c.self.inside.seat.table_id m.0).log) sits.knows) ∙ ap (λ k. k.log) c.self.view_is in
    let witness = sym (ap (witness_state c.witness.inside.badge.table_id) note.1) ∙ c.witness.view_is in
    subst (λ (z : List g.row.E.Denot × WitnessState g.row.E.Denot). Knows g.E.Owned.owner z.0 z.1.who z.1.seen) (λ i. (log i, witness i)) loaded.1

pub returns-clause-whose : goal.returns-clause-whose
returns-clause-whose g c =
    let sits = c.self.invariant in
    let badge = c.replace-badge.ensures.value in
    let note = c.witness.invariant in
    let known = only_view g.E.Owned.owner _ _ note.0 (ap (λ b. b.views) badge ∙ note.1) c.into_seat.ensures.2 in
    let j = c.join_seat.ensures in
    let joined = joined_is g.E.Owned.owner sits.page note.0 c.self.inside.seat.me c.into_seat.result.me c.join_seat.new.seat.me sits.knows known j.2 in
    let loaded = loaded_is g.E.Owned.owner g.A.Entered.entries sits.page note.0 _ c.load-zero.new.seat.me joined c.load-zero.ensures.2 in
    let keeper = sym (ap (λ (m : Sat g.row.E.Denot). keeper_state c.self.inside.seat.table_id m.0) sits.knows) ∙ c.self.view_is in
    subst (λ (z : KeeperState g.row.E.Denot). AreBelow g.E.Owned.owner z.made (g.A.Entered.entries ++ z.log)) keeper loaded.2

pub returns-clause-keeper : goal.returns-clause-keeper
returns-clause-keeper g c =
    let sits = c.self.invariant in
    let badge = c.replace-badge.ensures.value in
    let note = c.witness.invariant in
    let known = only_view g.E.Owned.owner _ _ note.0 (ap (λ b. b.views) badge ∙ note.1) c.into_seat.ensures.2 in
    let j = c.join_seat.ensures in
    let l = c.load-zero.ensures in
    let s = c.split_seat.ensures in
    let w = walked g.E.Owned.owner g.A.Entered.entries sits.page note.0 c.self.inside.seat.me c.into_seat.result.me c.join_seat.new.seat.me c.load-zero.new.seat.me c.split_seat.new.seat.me c.split_seat.result.me sits.knows known j.2 l.2 s.2 s.4 in
    keeper_sees g.E.Owned.owner g.A.Entered.entries _ sits.page c.self.inside.seat.table_id _ c.self.inside.seat.me c.split_seat.new.seat.me c.args.self.now c.self.view_is (s.0 ∙ (l.0 ∙ j.0)) refl sits.knows w.keeper

pub returns-clause-witness : goal.returns-clause-witness
returns-clause-witness g c =
    let sits = c.self.invariant in
    let badge = c.replace-badge.ensures.value in
    let note = c.witness.invariant in
    let known = only_view g.E.Owned.owner _ _ note.0 (ap (λ b. b.views) badge ∙ note.1) c.into_seat.ensures.2 in
    let j = c.join_seat.ensures in
    let l = c.load-zero.ensures in
    let s = c.split_seat.ensures in
    let w = walked g.E.Owned.owner g.A.Entered.entries sits.page note.0 c.self.inside.seat.me c.into_seat.result.me c.join_seat.new.seat.me c.load-zero.new.seat.me c.split_seat.new.seat.me c.split_seat.result.me sits.knows known j.2 l.2 s.2 s.4 in
    let keepers = ap (λ k. k.table) c.self.view_is ∙ c.requires.keeper in
    let witnesses = ap (λ f. f.table) c.witness.view_is ∙ c.requires.witness in
    let table = c.into_badge.ensures.0 ∙ (s.3 ∙ (l.0 ∙ (j.0 ∙ (keepers ∙ sym witnesses)))) in
    witness_sees g.E.Owned.owner g.A.Entered.entries _ sits.page note.0 c.witness.inside.badge.table_id _ c.self.inside.seat.table_id c.witness.inside.badge.views _ c.self.inside.seat.me c.split_seat.result.me c.args.witness.now c.args.self.now
    c.witness.view_is c.self.view_is table refl note.1 sits.knows c.into_badge.ensures.2 w.witness
