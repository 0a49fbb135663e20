use Rattle.std.proofs.Common.{◌≡◌, ◌+◌, ◌≤◌, ◌==◌, ◌++◌, ℕ, true, false, if◌then◌else◌, List, drop, filter, get_or}
use Rattle.std.proofs.Common.{sym, ap, subst, ◌∙◌, arith}
use Rattle.std.proofs.Math.ListN.{drop_of_length-le}
use Rattle.gm_conns.specs.Connections.{with_bytes}
use Rattle.gm_conns.specs.ConnTables.{conn, Changes}
use Rattle.gm_core.specs.Holds.{HoldsConns}
use Rattle.gm_core.specs.Telling.{hears, poured, needed}
use Rattle.gm_core.specs.Writing.{Text}
use Rattle.gm_core.proofs.ConnLemmas.{touched_then, touched_told}
use Rattle.gm_core.proofs.TellLemmas.{text_put, owned_put, text_same, owned_same, put_hears, put_room, put_left, put_holds, heard_next, unheard_next}
use Rattle.gm_core.proofs.telling.put_each.Goals as goal
use Rattle.gm_core.proofs.telling.put_each.Goals.{then-can_hear, else-can_hear}

pub loop-slot-preserved : goal.loop-slot-preserved
loop-slot-preserved c =
    let i = c.loop-slot.slot-index in
    let slots = c.args.slots.now in
    let e = c.args.exceptions_only in
    let text = c.args.text.now.bytes in
    let cost = c.args.text.now.cost in
    let x = get_or slots i 0 in
    let P = hears c.args.conns.now e in
    elim c.if-can_hear.branch [
      | then-can_hear w ↦
          let heard : P x ≡ true = sym (c.loop-slot.invariant.hear e x) ∙ (sym c.can_hear.ensures.value ∙ w.if-can_hear.true) in
          let next = heard_next P slots i c.loop-slot-test.true heard in
          let was = c.loop-slot.invariant.text in
          let put : Changes x (with_bytes text cost) true c.loop-slot.conns w.put.new.conns
          = subst (λ (t : Text). Changes x (with_bytes t.bytes t.cost) true c.loop-slot.conns w.put.new.conns) was w.put.ensures.conns in
          rw w.conns-is (record {
            hear = λ b d. put_hears c.loop-slot.conns w.put.new.conns x text cost put b d ∙ c.loop-slot.invariant.hear b d;
            room = put_room c.loop-slot.conns w.put.new.conns x text cost put (filter P (drop (i + 1) slots))
                (λ d. subst (λ (l : List ℕ). needed cost d l ≤ (conn c.loop-slot.conns d).room) next (c.loop-slot.invariant.room d));
            text = text_put c.args.text.now c.loop-slot.text c.if-can_hear.text c.loop-slot.invariant.text slots i c.loop-slot.invariant.owned c.loop-slot-test.true (w.text-is ∙ w.put.ensures.text);
            owned = owned_put c.args.text.now c.loop-slot.text c.if-can_hear.text c.loop-slot.invariant.text slots i c.loop-slot.invariant.owned c.loop-slot-test.true (w.text-is ∙ w.put.ensures.text);
            touched = touched_then c.loop-slot.invariant.touched (touched_told x put);
            left = put_left c.loop-slot.conns w.put.new.conns x text cost put (filter P (drop (i + 1) slots)) (λ d. (conn c.args.conns.now d).room) (λ d. needed cost d (filter P slots))
                (λ d. subst (λ (l : List ℕ). needed cost d l ≤ (conn c.loop-slot.conns d).room) next (c.loop-slot.invariant.room d))
                (λ d. subst (λ (l : List ℕ). (conn c.args.conns.now d).room + needed cost d l ≤ (conn c.loop-slot.conns d).room + needed cost d (filter P slots)) next (c.loop-slot.invariant.left d));
            holds = λ k names facts bytes held.
                let was = c.loop-slot.invariant.holds k names facts bytes held in
                record {
                  now = λ d. if d == x then was.now d ++ text else was.now d;
                  holds = put_holds c.loop-slot.conns w.put.new.conns x text cost put was.holds;
                  leads = was.leads ∙ ap (λ (l : List ℕ). poured text l was.now) next;
                };
          })
      | else-can_hear w ↦
          let deaf : P x ≡ false = sym (c.loop-slot.invariant.hear e x) ∙ (sym c.can_hear.ensures.value ∙ w.if-can_hear.false) in
          let next = unheard_next P slots i c.loop-slot-test.true deaf in
          rw w.conns-is (record {
            hear = c.loop-slot.invariant.hear;
            room = λ d. subst (λ (l : List ℕ). needed cost d l ≤ (conn c.loop-slot.conns d).room) next (c.loop-slot.invariant.room d);
            text = text_same c.args.text.now c.loop-slot.text c.if-can_hear.text c.loop-slot.invariant.text slots i c.loop-slot.invariant.owned c.loop-slot-test.true w.text-is;
            owned = owned_same c.args.text.now c.loop-slot.text c.if-can_hear.text c.loop-slot.invariant.text slots i c.loop-slot.invariant.owned c.loop-slot-test.true w.text-is;
            touched = c.loop-slot.invariant.touched;
            left = λ d. subst (λ (l : List ℕ). (conn c.args.conns.now d).room + needed cost d l ≤ (conn c.loop-slot.conns d).room + needed cost d (filter P slots)) next (c.loop-slot.invariant.left d);
            holds = λ k names facts bytes held.
                let was = c.loop-slot.invariant.holds k names facts bytes held in
                record { now = was.now; holds = was.holds; leads = was.leads ∙ ap (λ (l : List ℕ). poured text l was.now) next };
          })
    ]

pub returns-clause-holds : goal.returns-clause-holds
returns-clause-holds c k names facts bytes held =
    let was = c.loop-slot.invariant.holds k names facts bytes held in
    let P = hears c.args.conns.now c.args.exceptions_only in
    let ends = ap (filter P) (drop_of_length-le c.args.slots.now (let over = c.loop-slot-test.false in omega (arith, over))) in
    subst (HoldsConns k c.loop-slot.conns names facts) (sym (was.leads ∙ ap (λ (l : List ℕ). poured c.args.text.now.bytes l was.now) ends)) was.holds

pub returns-clause-poured : goal.returns-clause-poured
returns-clause-poured c =
    let P = hears c.args.conns.now c.args.exceptions_only in
    let text = c.args.text.now.bytes in
    let cost = c.args.text.now.cost in
    let slots = c.args.slots.now in
    let ends = ap (filter P) (drop_of_length-le slots (let over = c.loop-slot-test.false in omega (arith, over))) in
    record {
      hear = c.loop-slot.invariant.hear;
      touched = c.loop-slot.invariant.touched;
      room = λ d.
          let left = subst (λ (l : List ℕ). (conn c.args.conns.now d).room + needed cost d l ≤ (conn c.loop-slot.conns d).room + needed cost d (filter P slots)) ends (c.loop-slot.invariant.left d) in
          omega (arith, left);
    }
