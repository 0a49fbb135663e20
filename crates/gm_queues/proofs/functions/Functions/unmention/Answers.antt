use Rattle.std.proofs.Common.{◌≡◌, ◌-◌, All, length, map, take, sym, ap, subst, ◌∙◌, arith}
use Rattle.std.proofs.lemmas.List.{length-map, take-map}
use Rattle.std.proofs.lemmas.List.Elements.{All-take}
use Rattle.indexmap.specs.IndexSet.{hasher_of}
use Rattle.gm_queues.specs.declared.name_hash.NameHash.{NameHash}
use Rattle.gm_queues.specs.FunctionTables.{Table, IsName, ChangesNames, IsFree}
use Rattle.gm_queues.proofs.FunctionTableLemmas.{without_function}
use Rattle.gm_queues.proofs.functions.Functions.unmention.Goals as goal

pub returns : goal.returns
returns c =
    let table : Table = record { seed = (hasher_of c.self.inside.names).seed; most = c.self.inside.most; names = map (λ v. v.items) c.self.inside.names.keys; limits = c.self.inside.limits.items; queues = c.self.inside.rings.items } in
    let last = c.len-last.result - 1 in
    let count = length-map c.self.inside.names.keys (λ v. v.items) in
    let long = ap (λ (t : Table). length t.names) c.self.view_is in
    let is_last : length c.args.self.now.names - 1 ≡ last = omega (arith, c.len-last.ensures.len) in
    let free : IsFree last table = rw c.self.view_is (rw is_last at c.requires.free) in
    let gone = without_function table last (omega (arith, c.len-last.ensures.len, c.requires.some)) (omega (arith, c.len-last.ensures.len, c.requires.some)) free in
    let names = ap (map (λ v. v.items)) c.truncate.ensures.keys ∙ sym (take-map (λ v. v.items) last c.self.inside.names.keys) in
    let seed = ap (λ (h : NameHash). h.seed) c.truncate.ensures.room.1 in
    rw is_last (subst (λ (t : Table). ChangesNames (take last t.names) t (record { seed = (hasher_of c.truncate.new.self).seed; most = c.self.inside.most; names = map (λ v. v.items) c.truncate.new.self.keys; limits = c.truncate-2.new.self.items; queues = c.truncate-3.new.self.items })) c.self.view_is
    (rw (names, seed, c.truncate-2.ensures.items, c.truncate-3.ensures.items) gone))

pub invariant_of-self : goal.invariant_of-self
invariant_of-self c =
    let last = c.len-last.result - 1 in
    let kept = c.self.invariant in
    let names = ap (map (λ v. v.items)) c.truncate.ensures.keys ∙ sym (take-map (λ v. v.items) last c.self.inside.names.keys) in
    (omega arith, omega arith, omega arith, omega arith, subst (All IsName) (sym names) (All-take IsName last (map (λ v. v.items) c.self.inside.names.keys) kept.4))
