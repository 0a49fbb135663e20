use Rattle.std.proofs.Common.{List, [], ◌∷◌, ◌++◌, ◌==◌, ◌||◌, nat_lt, sym, ap, subst, ◌∙◌, arith, rules}
use Rattle.gm_conns.specs.Connections.{Connection}
use Rattle.gm_conns.specs.ConnTables.{Able, IsKept, in_slot}
use Rattle.gm_conns.proofs.ConnTableLemmas.{IsKept-new, closed_more, below_more}
use Rattle.gm_conns.proofs.conns.Conns.new.Goals as goal

pub invariant_of-result : goal.invariant_of-result
invariant_of-result c =
    let made = c.loop-slot.invariant in
    subst (λ (able : List Able). IsKept c.loop-slot.conns.items able c.loop-slot.free c.new-3.result) (sym c.new-2.ensures.items)
    (IsKept-new c.loop-slot.conns.items c.loop-slot.free c.new-3.result (omega (arith, made.long)) made.shut
    (λ i. made.frees i ∙ ap (nat_lt i) (sym made.long)) c.new-3.ensures)

pub loop-slot-preserved : goal.loop-slot-preserved
loop-slot-preserved c =
    let kept = c.loop-slot.invariant in
    record {
      long = search rules;
      shut = λ i. ap (λ (conns : List Connection). in_slot conns i) (c.in_ok-push.ensures.items ∙ ap (λ conn. c.loop-slot.conns.items ++ conn ∷ []) c.new.ensures) ∙ closed_more c.loop-slot.conns.items kept.shut i;
      frees = λ i. c.insert.ensures i ∙ (ap (λ b. (i == c.loop-slot.slot) || b) (kept.frees i) ∙ below_more i c.loop-slot.slot);
    }
