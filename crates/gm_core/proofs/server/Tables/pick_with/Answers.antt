use Rattle.std.proofs.Common.{◌≡◌, ◌+◌, ◌<◌, ℕ, length, drop, take, Option, sym, ap, subst, ◌∙◌}
use Rattle.gm_conns.specs.ConnTables.{conn}
use Rattle.gm_queues.specs.FunctionTables as queues
use Rattle.gm_core.specs.declared.server.Tables.{Tables}
use Rattle.gm_core.specs.Holds.{IsKept}
use Rattle.gm_core.proofs.FunctionLemmas.{able_at, pick_or}
use Rattle.gm_core.proofs.PickLemmas.{with_of, with_at}
use Rattle.gm_core.proofs.server.Tables.pick_with.Goals as goal
use Rattle.gm_core.proofs.server.Tables.pick_with.Goals.{In_ok-function, After-first_in}
use Rattle.gm_core.proofs.server.Tables.pick_with.Invariants.{NoneBefore}

-- the table of functions that was asked is as before
same : (c : After-first_in) → record c.loop-i.self { functions = c.first_in.new.self } ≡ c.args.self.now
same c = ap (λ (table : queues.Table). record c.loop-i.self { functions = table }) c.first_in.ensures.same ∙ c.loop-i.invariant.0

-- what a connection can do is a function
within : (c : In_ok-function) → c.in_ok-function.function < length c.loop-i.self.functions.names
within c =
    let keeps = (subst IsKept (sym c.loop-i.invariant.0) c.requires.kept).1 in
    able_at c.loop-i.self.functions.names c.loop-i.i c.in_ok-function.function c.in_ok-function.timeout (conn c.loop-i.self.conns c.args.slot).abilities
    (keeps.conns.able c.args.slot).0 (sym c.in_ok-function.ensures)

pub first_in-requires : goal.first_in-requires
first_in-requires c = within (goal.at.first_in-requires c).In_ok-function

pub returns-in-Some-clause-within : goal.returns-in-Some-clause-within
returns-in-Some-clause-within c = subst (λ (core : Tables). c.in_ok-function.function < length core.functions.names) c.loop-i.invariant.0 (within (goal.at.returns-in-Some-clause-within c).In_ok-function)

pub returns-in-Some-clause-value : goal.returns-in-Some-clause-value
returns-in-Some-clause-value c = rw (sym c.loop-i.invariant.0) (λ past keeps.
    let core = c.loop-i.self in
    let t = c.in_ok-function.timeout in
    let rest = with_of core past c.args.priority (drop (c.loop-i.i + 1) (take c.args.to (conn core.conns c.args.slot).abilities)) in
    sym (c.loop-i.invariant.1 past keeps
    ∙ (with_at core past c.args.slot c.args.priority c.args.to c.loop-i.i c.in_ok-function.function t c.first_in.result c.loop-i-test.true keeps c.in_ok-function.ensures c.first_in.ensures.value
    ∙ ap (λ (o : Option ℕ). pick_or o t rest) c.in-Some.is)))

pub loop-i-preserved : goal.loop-i-preserved
loop-i-preserved c = (
  same (goal.at.loop-i-preserved c).After-first_in,
  subst (NoneBefore c.args.slot c.args.from c.args.to (c.loop-i.i + 1) c.args.priority) (sym (ap (λ (table : queues.Table). record c.loop-i.self { functions = table }) c.first_in.ensures.same)) (λ past keeps.
      let core = c.loop-i.self in
      let t = c.in_ok-function.timeout in
      let rest = with_of core past c.args.priority (drop (c.loop-i.i + 1) (take c.args.to (conn core.conns c.args.slot).abilities)) in
      c.loop-i.invariant.1 past keeps
      ∙ (with_at core past c.args.slot c.args.priority c.args.to c.loop-i.i c.in_ok-function.function t c.first_in.result c.loop-i-test.true keeps c.in_ok-function.ensures c.first_in.ensures.value
      ∙ ap (λ (o : Option ℕ). pick_or o t rest) c.in_default.is)),
)
