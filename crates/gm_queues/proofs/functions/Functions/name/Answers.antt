use Rattle.std.proofs.Common.{◌≡◌, [], length, map, slice_get, Some, refl, sym, ap, subst, ◌∙◌, arith}
use Rattle.std.specs.Option.{option_map}
use Rattle.std.proofs.lemmas.List.{length-map}
use Rattle.std.proofs.lemmas.Option.{slice_get-map, slice_get_read, slice_get_within, get_or_from_slice_get}
use Rattle.gm_queues.specs.FunctionTables.{Table, IsName, number_of}
use Rattle.gm_queues.proofs.NameLemmas.{position-distinct, IsDistinct-map}
use Rattle.gm_queues.proofs.functions.Functions.name.Goals as goal
use Rattle.gm_queues.proofs.functions.Functions.name.Goals.{After-as_slice-2}

-- the name stands at its place
named : (c : After-as_slice-2) → slice_get (map (λ v. v.items) c.self.inside.names.keys) c.args.f ≡ Some c.index-as_slice-f.result.items
named c =
    let keys = c.self.inside.names.keys in
    let name = c.index-as_slice-f.result in
    let long = ap (λ (t : Table). length t.names) c.self.view_is ∙ refl in
    let count = length-map keys (λ v. v.items) in
    let shown = ap length c.as_slice.ensures.keys in
    let at : slice_get keys c.args.f ≡ Some name =
    ap (λ vs. slice_get vs c.args.f) (sym c.as_slice.ensures.keys)
    ∙ slice_get_read c.as_slice.result.now (length c.as_slice.result.now) c.args.f name refl (omega arith) c.index-as_slice-f.is in
    slice_get-map (λ v. v.items) keys c.args.f ∙ ap (option_map (λ v. v.items)) at

pub returns-clause-fits : goal.returns-clause-fits
returns-clause-fits c =
    let names = map (λ v. v.items) c.self.inside.names.keys in
    let name = c.index-as_slice-f.result.items in
    let at = named (goal.at.returns-clause-fits c).After-as_slice-2 in
    rw c.as_slice-2.ensures.value (subst IsName (get_or_from_slice_get names c.args.f name [] at)
    (c.self.invariant.4 c.args.f [] (slice_get_within names c.args.f name at)))

pub returns-clause-only : goal.returns-clause-only
returns-clause-only c =
    let keys = c.self.inside.names.keys in
    let name = c.index-as_slice-f.result.items in
    ap (λ n. number_of n c.args.self.now) c.as_slice-2.ensures.value
    ∙ ap (number_of name) (sym c.self.view_is)
    ∙ position-distinct (map (λ v. v.items) keys) c.args.f name (IsDistinct-map (λ v. v.items) keys c.as_slice.ensures.unique) (named (goal.at.returns-clause-only c).After-as_slice-2)
