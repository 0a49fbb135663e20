use Rattle.std.proofs.Common.{ℕ, ◌∙◌, sym, ap, subst, map}
use Rattle.gm_shared.specs.Openings.{Counts}
use Rattle.gm_slots.proofs.ending.with_everybody.Goals as goal
use Rattle.gm_slots.proofs.ending.with_everybody.Goals.{else-are_of-via-then-are_of+then-are_closed+else-are_counted, else-are_of-via-then-are_of+else-are_closed, else-are_of-via-else-are_of}

pub returns-then-are_counted : goal.returns-then-are_counted
returns-then-are_counted c = λ k taped history all sized agrees counts whole.
    whole (sym (ap (λ shares. map (λ share. share.actor) shares) c.as_slice.ensures.value) ∙ (c.if-are_of.ensures ∙ all)) (c.if-are_closed.ensures k _ sized agrees)
    (c.if-are_counted.ensures _ (subst (λ (n : ℕ). Counts n c.args.settled.openings c.args.settled.history.log) sized counts))

pub returns-else-are_of : goal.returns-else-are_of
returns-else-are_of c = λ k taped history all sized agrees counts whole same closed counted. elim c.else-are_of.branch [
  | else-are_of-via-then-are_of+then-are_closed+else-are_counted w ↦ w.if-are_counted.ensures _ (subst (λ (n : ℕ). Counts n c.args.settled.openings c.args.settled.history.log) sized counts) counted
  | else-are_of-via-then-are_of+else-are_closed w ↦ w.if-are_closed.ensures k _ sized agrees closed
  | else-are_of-via-else-are_of w ↦ w.if-are_of.ensures (ap (λ shares. map (λ share. share.actor) shares) c.as_slice.ensures.value ∙ (same ∙ sym all))
]
