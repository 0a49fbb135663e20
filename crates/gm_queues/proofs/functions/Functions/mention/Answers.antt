use Rattle.std.proofs.Common.{◌≡◌, [], ◌∷◌, ◌++◌, length, map, position, None, Some, IsOk, refl, sym, ap, subst, ◌∙◌}
use Rattle.std.specs.Str.{bytes_eq}
use Rattle.std.proofs.lemmas.Slice.Eq.{bytes_eq-Decides}
use Rattle.indexmap.specs.IndexSet.{hasher_of}
use Rattle.gm_queues.specs.declared.name_hash.NameHash.{NameHash}
use Rattle.gm_queues.specs.Queues.{no_jobs}
use Rattle.gm_queues.specs.FunctionTables.{Table, number_of, ChangesNames}
use Rattle.gm_queues.proofs.PositionLemmas.{position-map, position-push}
use Rattle.gm_queues.proofs.FunctionTableLemmas.{with_function}
use Rattle.gm_queues.proofs.functions.Functions.mention.Goals as goal
use Rattle.gm_queues.proofs.functions.Functions.mention.Goals.{After-add_rings}

-- the name stands nowhere
missing : (c : After-add_rings) → position (bytes_eq c.args.name.now) (map (λ v. v.items) c.self.inside.names.keys) ≡ None
missing c = ap (number_of c.args.name.now) c.self.view_is ∙ sym c.find.ensures.value ∙ c.in_default.is

names_after : (c : After-add_rings) → map (λ v. v.items) c.add_name.new.names.keys ≡ map (λ v. v.items) c.self.inside.names.keys ++ c.args.name.now ∷ []
names_after c =
    c.add_name.ensures.names ∙ (λ j. map (λ v. v.items) (c.in_ok-make_room.ensures.names j) ++ (c.in_ok-copy.ensures.items j) ∷ [])

pub add_name-requires-clause-fresh : goal.add_name-requires-clause-fresh
add_name-requires-clause-fresh c =
    let missing =
    sym (position-map (bytes_eq c.args.name.now) (λ v. v.items) c.self.inside.names.keys)
    ∙ ap (number_of c.args.name.now) c.self.view_is ∙ sym c.find.ensures.value ∙ c.in_default.is in
    (λ j. position (λ v. bytes_eq (c.in_ok-copy.ensures.items j) v.items) (c.in_ok-make_room.ensures.names j)) ∙ missing

pub returns-clause-found : goal.returns-clause-found
returns-clause-found c =
    let d = (goal.at.returns-clause-found c).After-add_rings in
    ap (position (bytes_eq c.args.name.now)) (names_after d)
    ∙ position-push (bytes_eq c.args.name.now) (map (λ v. v.items) c.self.inside.names.keys) c.args.name.now (missing d) ((bytes_eq-Decides c.args.name.now c.args.name.now).1 refl)
    ∙ ap (λ (t : Table). Some (length t.names)) c.self.view_is ∙ ap (λ n. Some n) (sym c.len-f.ensures.value)

pub returns-clause-fresh : goal.returns-clause-fresh
returns-clause-fresh c = λ _.
    let d = (goal.at.returns-clause-fresh c).After-add_rings in
    let names = names_after d in
    let ok : IsOk c.push-added.result = c.push-added.ensures.succeeds c.in_ok-make_room.ensures.ok.1 in
    let limits = (rw ok at c.push-added.ensures.items) ∙ ap (λ xs. xs ++ 0 ∷ []) c.in_ok-make_room.ensures.limits in
    let seed = ap (λ (h : NameHash). h.seed) (c.add_name.ensures.hasher ∙ c.in_ok-make_room.ensures.hasher) in
    let queues = c.add_rings.ensures ∙ ap (λ qs. qs ++ no_jobs ∷ no_jobs ∷ no_jobs ∷ []) c.in_ok-make_room.ensures.rings in
    subst (λ (t : Table). ChangesNames (t.names ++ c.args.name.now ∷ []) t (record { seed = (hasher_of c.add_name.new.names).seed; most = c.self.inside.most; names = map (λ v. v.items) c.add_name.new.names.keys; limits = c.push-added.new.self.items; queues = c.add_rings.new.rings.items })) c.self.view_is
    (rw (names, limits, queues, seed) (with_function (record { seed = (hasher_of c.self.inside.names).seed; most = c.self.inside.most; names = map (λ v. v.items) c.self.inside.names.keys; limits = c.self.inside.limits.items; queues = c.self.inside.rings.items }) c.args.name.now))
