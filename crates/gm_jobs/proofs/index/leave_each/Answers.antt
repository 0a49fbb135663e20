use Rattle.std.proofs.Common.{eqb, not, false, ℕ, ◌+◌, Option, Some, IfSome, ◌≡◌, ◌<◌, List, None, is_some, slice_get, below_more, inl, inr, get_or, if◌then◌else◌, refl, sym, ap, subst, ◌∙◌, arith}
use Rattle.std.specs.Option.{option_eq}
use Rattle.std.proofs.lemmas.Bool.{true≢false, not-false, eqb-true}
use Rattle.std.proofs.lemmas.List.{get_or_default}
use Rattle.std.proofs.lemmas.Option.{get_or_from_slice_get, slice_get_cases}
use Rattle.gm_jobs.specs.ByNumber.{JobTable}
use Rattle.gm_jobs.specs.Hints.{numbers_in}
use Rattle.gm_jobs.proofs.LeaveLemmas.{LeftUpTo, LeavesOne, left_here, left_still, left_some, left_each}
use Rattle.gm_jobs.proofs.NumberLemmas.{not_some}
use Rattle.gm_jobs.proofs.index.leave_each.Goals as goal
use Rattle.gm_jobs.proofs.index.leave_each.Goals.{then-ne, else-ne}

pub loop-number-init : goal.loop-number-init
loop-number-init c = record { some = λ n. inl refl; these = λ k h. absurd (omega arith); last = tt; numbers = refl; slots = refl }

pub loop-number-preserved : goal.loop-number-preserved
loop-number-preserved c =
    let slot = c.args.slot in
    let first = c.args.jobs.now.entries in
    let now = c.loop-number.jobs.entries in
    let before = c.loop-number.invariant in
    let numbers = numbers_in c.args.hints.now first in
    let is : get_or numbers c.loop-number.i 0 ≡ c.in-Some.number =
    get_or_from_slice_get numbers c.loop-number.i c.in-Some.number 0
    (ap (λ (keys : List ℕ). slice_get (if c.args.hints.now.whole then c.args.hints.now.numbers else keys) c.loop-number.i) (sym before.numbers) ∙ (sym c.number_at.ensures.number ∙ c.in-Some.is)) in
    elim c.if-ne.branch [
      | then-ne w ↦
          let mid = w.change-left.new.self.entries in
          let change = w.change-left.ensures.free refl in
          let here = left_here slot first now mid c.in-Some.number change before.some in
          subst (λ (jobs : JobTable). LeftUpTo slot c.args.hints.now c.args.jobs.now (c.loop-number.i + 1) jobs c.if-ne.last) (sym w.jobs-is)
          (subst (λ (last : Option ℕ). LeftUpTo slot c.args.hints.now c.args.jobs.now (c.loop-number.i + 1) w.change-left.new.self last) (sym w.last-is)
          (record {
            some = left_some slot first now mid c.in-Some.number change before.some;
            these = below_more (λ k. LeavesOne slot (get_or numbers k 0) first mid) c.loop-number.i
                (λ k h. left_still slot first now mid c.in-Some.number change before.some _ (before.these k h))
                (subst (λ n. LeavesOne slot n first mid) (sym is) here);
            last = here;
            numbers = w.change-left.ensures.numbers ∙ before.numbers;
            slots = w.change-left.ensures.room ∙ before.slots;
          }))
      | else-ne w ↦
          subst (λ (jobs : JobTable). LeftUpTo slot c.args.hints.now c.args.jobs.now (c.loop-number.i + 1) jobs c.if-ne.last) (sym w.jobs-is)
          (subst (λ (last : Option ℕ). LeftUpTo slot c.args.hints.now c.args.jobs.now (c.loop-number.i + 1) c.loop-number.jobs last) (sym w.last-is)
          (record {
            some = before.some;
            these = below_more (λ k. LeavesOne slot (get_or numbers k 0) first now) c.loop-number.i before.these
                (subst (λ n. LeavesOne slot n first now) (sym is) (is_last c.loop-number.last (sym c.ne.ensures ∙ w.if-ne.false) (λ n. LeavesOne slot n first now) before.last));
            last = before.last;
            numbers = before.numbers;
            slots = before.slots;
          }))
    ]
  where
    is_last : (o : Option ℕ) → not (option_eq eqb o (Some c.in-Some.number)) ≡ false → (P : ℕ → Type 0) → IfSome o P → P c.in-Some.number
    is_last None h P p = absurd (true≢false h)
    is_last (Some n) h P p = subst P (eqb-true n c.in-Some.number (not-false _ h)) p

pub returns-clause-left : goal.returns-clause-left
returns-clause-left c =
    let first = c.args.jobs.now.entries in
    let numbers = numbers_in c.args.hints.now first in
    let none : slice_get numbers c.loop-number.i ≡ None =
    ap (λ (keys : List ℕ). slice_get (if c.args.hints.now.whole then c.args.hints.now.numbers else keys) c.loop-number.i) (sym c.loop-number.invariant.numbers) ∙ (sym c.number_at.ensures.number ∙ c.in_default.is) in
    left_each c.args.slot first c.loop-number.jobs.entries c.args.hints.now c.requires c.loop-number.invariant.some
    (λ n there.
    let within = there.1 in
    let past : there.0 < c.loop-number.i = elim (slice_get_cases numbers c.loop-number.i).1 [
      | inl some ↦ absurd (not_some (slice_get numbers c.loop-number.i) none (ap is_some some.2))
      | inr late ↦ (let more = late.0 in omega (arith, within, more))
    ] in
    subst (λ i. LeavesOne c.args.slot i first c.loop-number.jobs.entries) (get_or_default numbers there.0 0 n within ∙ there.2) (c.loop-number.invariant.these there.0 past))
