use Rattle.std.proofs.Common.{◌+◌, ◌<◌, ◌++◌, ◌∙◌, List, [], ℕ, sym, ap, arith, map, drop, length}
use Rattle.std.proofs.lemmas.Option.{get_or_from_slice_get}
use Rattle.std.specs.Borrow.{Bor}
use Rattle.gm_conns.specs.ConnTables.{conn}
use Rattle.gm_core.proofs.FunctionLemmas.{able_at, not_some}
use Rattle.gm_core.proofs.ListLemmas.{told, name_next, there_is}
use Rattle.gm_core.proofs.server.lists.names_of.Goals as goal
use Rattle.gm_core.proofs.server.lists.names_of.Goals.{in-Some+in_ok-push, in_default}

pub name-requires : goal.name-requires
name-requires c =
    able_at c.args.functions.now.names c.loop-i.i c.in-Some.f _ (conn c.args.conns.now c.args.slot).abilities c.requires.able (sym c.able.ensures ∙ c.in-Some.is)

pub loop-i-preserved : goal.loop-i-preserved
loop-i-preserved c =
    let names = c.args.functions.now.names in
    let xs = (conn c.args.conns.now c.args.slot).abilities in
    let i = c.loop-i.i in
    elim c.match-able.branch [
      | in-Some+in_ok-push w ↦
          ap (λ (l : List (Bor (List ℕ))). map (λ name. name.now) l ++ told names (drop (i + 1) xs)) (ap (λ v. v.items) w.names-is ∙ w.in_ok-push.ensures.items)
          ∙ (name_next (λ name. name.now) c.loop-i.names.items names xs i w.name.result _ (sym c.able.ensures ∙ w.in-Some.is) (sym (get_or_from_slice_get names w.in-Some.f w.name.result.now [] w.name.ensures.value))
          ∙ c.loop-i.invariant)
      | in_default w ↦
          let within : i < length xs = omega (arith, c.loop-i-test.true, c.abilities_len-i-end.ensures) in
          absurd (there_is xs i within (sym c.able.ensures ∙ not_some c.able.result w.in_default.not-Some))
    ]
