use Rattle.std.proofs.Common.{◌≡◌, ◌<◌, IsTrue, [], length, refl, sym, ap, subst, ◌∙◌, arith}
use Rattle.std.proofs.lemmas.List.{get_or_default}
use Rattle.gm_conns.specs.Connections.{Connection, is_able}
use Rattle.gm_conns.specs.ConnTables.{Able, Table, conn, in_slot, able_of, IsKept}
use Rattle.gm_conns.proofs.ConnTableLemmas.{open_within, read_slot, stays_able, count_below, is_added, IsKept-covered, IsKept-gains}
use Rattle.gm_conns.proofs.ConnTableLemmas.{IsKept-same}
use Rattle.gm_conns.proofs.conns.Conns.can_do.Goals as goal
use Rattle.gm_conns.proofs.conns.Conns.can_do.Goals.{In_ok-can_do}

is_open : (c : In_ok-can_do) → IsTrue (in_slot c.self.inside.conns.items c.args.slot).is_open
is_open c = subst (λ (t : Table). IsTrue (conn t c.args.slot).is_open) (sym c.self.view_is) c.requires

within : (c : In_ok-can_do) → c.args.slot < length c.self.inside.conns.items
within c = open_within c.self.inside.conns.items c.args.slot (is_open c)

covered : (c : In_ok-can_do) → IsKept c.self.inside.conns.items c.cover.new.able.items c.self.inside.free c.self.inside.asleep
covered c =
    let t = c.self.inside in
    IsKept-covered t.conns.items t.able.items t.free t.asleep c.self.invariant c.args.slot (within c) c.can_do.new.self
    c.cover.new.able.items c.in_ok-cover.ensures.slots c.in_ok-cover.ensures.counts

pub insert-requires-clause-few : goal.insert-requires-clause-few
insert-requires-clause-few c =
    let t = c.self.inside in
    let d = (goal.at.insert-requires-clause-few c).In_ok-can_do in
    let now = c.can_do.new.self in
    let old = c.index_mut-conn.result.now in
    let here = read_slot t.conns.items t.able.items t.free t.asleep c.self.invariant c.args.slot (within d) now old c.index_mut-conn.ensures.value in
    let was = ap (is_able c.args.f) here ∙ sym c.is_able-was_able.ensures ∙ c.if-not-was_able.true in
    let will = c.in_ok-can_do.ensures.able c.args.f ∙ is_added c.args.f (is_able c.args.f old) in
    let known : c.args.f < length c.cover.new.able.items = omega (arith, c.in_ok-cover.ensures.ok, c.cover.new.able.ok.0) in
    let read : (able_of c.cover.new.able.items c.args.f).count ≡ c.index_mut-able.result.now.count =
    ap (λ (a : Able). a.count) (sym (c.index_mut-able.ensures.value ∙ get_or_default c.cover.new.able.items c.args.f c.index_mut-able.result.now (record { slots = []; count = 0 }) known)) in
    omega (arith, read, (covered d).counts c.args.f, (covered d).few, count_below (is_able c.args.f) t.conns.items c.args.slot now (within d) was will)

pub invariant_of-self-then-not-was_able : goal.invariant_of-self-then-not-was_able
invariant_of-self-then-not-was_able c =
    let t = c.self.inside in
    let d = (goal.at.invariant_of-self-then-not-was_able c).In_ok-can_do in
    let old = c.index_mut-conn.result.now in
    let is = c.in_ok-can_do.ensures.ok in
    let known : c.args.f < length c.cover.new.able.items = omega (arith, c.in_ok-cover.ensures.ok, c.cover.new.able.ok.0) in
    IsKept-gains t.conns.items c.cover.new.able.items t.free t.asleep (covered d) c.args.slot (within d) c.can_do.new.self
    old c.can_do.new.self refl c.index_mut-conn.ensures.value (is_open d) (ap (λ (x : Connection). x.is_open) is) (ap (λ (x : Connection). x.phase) is)
    c.args.f c.index_mut-able.result.now c.insert.new.self known c.index_mut-able.ensures.value
    c.insert.ensures.slots c.insert.ensures.count c.in_ok-can_do.ensures.able (sym c.is_able-was_able.ensures ∙ c.if-not-was_able.true)

pub invariant_of-self-else-not-was_able : goal.invariant_of-self-else-not-was_able
invariant_of-self-else-not-was_able c =
    let t = c.self.inside in
    let d = (goal.at.invariant_of-self-else-not-was_able c).In_ok-can_do in
    let old = c.index_mut-conn.result.now in
    let is = c.in_ok-can_do.ensures.ok in
    let was = sym c.is_able-was_able.ensures ∙ c.if-not-was_able.false in
    IsKept-same t.conns.items c.cover.new.able.items t.free t.asleep (covered d) c.args.slot (within d) c.can_do.new.self
    old c.can_do.new.self refl c.index_mut-conn.ensures.value (is_open d) (ap (λ (x : Connection). x.is_open) is) (ap (λ (x : Connection). x.phase) is)
    (λ g. c.in_ok-can_do.ensures.able g ∙ stays_able c.args.f old was g)
