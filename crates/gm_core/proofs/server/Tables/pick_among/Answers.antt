use Rattle.std.proofs.Common.{◌≡◌, ◌+◌, ◌<◌, ℕ, suc, length, map, drop, take, Option, Some, sym, ap, subst, ◌∙◌}
use Rattle.std.specs.Prelude.{slice_get}
use Rattle.std.proofs.Math.Numerals.{add-one}
use Rattle.gm_notes.specs.Jobs.{pick_from}
use Rattle.gm_notes.specs.Past.{Past}
use Rattle.gm_conns.specs.ConnTables.{conn}
use Rattle.gm_queues.specs.FunctionTables as queues
use Rattle.gm_core.specs.declared.server.Tables.{Tables}
use Rattle.gm_core.specs.Holds.{IsKept, Keeps, ability_named}
use Rattle.gm_core.proofs.FunctionLemmas.{able_at, pick_at, pick_or}
use Rattle.gm_core.proofs.TurnLemmas.{get_taken, able_taken}
use Rattle.gm_core.proofs.server.Tables.pick_among.Goals as goal
use Rattle.gm_core.proofs.server.Tables.pick_among.Goals.{In_ok-function, After-first}
use Rattle.gm_core.proofs.server.Tables.pick_among.Invariants.{NoneBefore}

-- what the loop goes on with after this ability
step : (core : Tables) (past : Past) (c to i f t : ℕ) (o : Option ℕ) → i < to → Keeps core past
    → Some (f, t) ≡ slice_get (conn core.conns c).abilities i → o ≡ slice_get (queues.waiting_for core.functions f) 0
    → pick_from (map (ability_named core.functions.names) (drop i (take to (conn core.conns c).abilities))) past.notes
    ≡ pick_or o t (pick_from (map (ability_named core.functions.names) (drop (suc i) (take to (conn core.conns c).abilities))) past.notes)
step core past c to i f t o less keeps at first =
    pick_at past.notes keeps.functions keeps.jobs (take to (conn core.conns c).abilities) (able_taken core.functions.names to (conn core.conns c).abilities (keeps.conns.able c).0) i f t
    (get_taken (conn core.conns c).abilities to i less ∙ sym at) o first

-- the table of functions that was asked is as before
same : (c : After-first) → record c.loop-i.self { functions = c.first.new.self } ≡ c.args.self.now
same c = ap (λ (table : queues.Table). record c.loop-i.self { functions = table }) c.first.ensures.same ∙ c.loop-i.invariant.0

-- what a connection can do is a function
within : (c : In_ok-function) → c.in_ok-function.function < length c.loop-i.self.functions.names
within c =
    let keeps = (subst IsKept (sym c.loop-i.invariant.0) c.requires.kept).1 in
    able_at c.loop-i.self.functions.names c.loop-i.i c.in_ok-function.function c.in_ok-function.timeout (conn c.loop-i.self.conns c.args.slot).abilities
    (keeps.conns.able c.args.slot).0 (sym c.in_ok-function.ensures)

pub first-requires : goal.first-requires
first-requires c = within (goal.at.first-requires c).In_ok-function

pub returns-in-Some-clause-within : goal.returns-in-Some-clause-within
returns-in-Some-clause-within c = subst (λ (core : Tables). c.in_ok-function.function < length core.functions.names) c.loop-i.invariant.0 (within (goal.at.returns-in-Some-clause-within c).In_ok-function)

pub returns-in-Some-clause-value : goal.returns-in-Some-clause-value
returns-in-Some-clause-value c = rw (sym c.loop-i.invariant.0) (λ past keeps.
    let core = c.loop-i.self in
    let t = c.in_ok-function.timeout in
    let rest = pick_from (map (ability_named core.functions.names) (drop (suc c.loop-i.i) (take c.args.to (conn core.conns c.args.slot).abilities))) past.notes in
    sym (c.loop-i.invariant.1 past keeps
    ∙ (step core past c.args.slot c.args.to c.loop-i.i c.in_ok-function.function t c.first.result c.loop-i-test.true keeps c.in_ok-function.ensures c.first.ensures.value
    ∙ ap (λ (o : Option ℕ). pick_or o t rest) c.in-Some.is)))

pub loop-i-preserved : goal.loop-i-preserved
loop-i-preserved c = (
  same (goal.at.loop-i-preserved c).After-first,
  subst (NoneBefore c.args.slot c.args.from c.args.to (c.loop-i.i + 1)) (sym (ap (λ (table : queues.Table). record c.loop-i.self { functions = table }) c.first.ensures.same)) (λ past keeps.
      let core = c.loop-i.self in
      let t = c.in_ok-function.timeout in
      let rest = pick_from (map (ability_named core.functions.names) (drop (suc c.loop-i.i) (take c.args.to (conn core.conns c.args.slot).abilities))) past.notes in
      c.loop-i.invariant.1 past keeps
      ∙ (step core past c.args.slot c.args.to c.loop-i.i c.in_ok-function.function t c.first.result c.loop-i-test.true keeps c.in_ok-function.ensures c.first.ensures.value
      ∙ (ap (λ (o : Option ℕ). pick_or o t rest) c.in_default.is
      ∙ ap (λ (i : ℕ). pick_from (map (ability_named core.functions.names) (drop i (take c.args.to (conn core.conns c.args.slot).abilities))) past.notes) (sym (add-one c.loop-i.i))))),
)
