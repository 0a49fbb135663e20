use Rattle.std.proofs.Common.{rules, ◌++◌, ℕ, suc, List, [], ◌∷◌, replicate, refl, sym, ap, ◌∙◌, subst, arith, add-one}
use Rattle.std.proofs.lemmas.List.{length-replicate}
use Rattle.gm_word.proofs.Sitting.{map-replicate}
use Rattle.atomic_table.specs.Table.{Me}
use Rattle.gm_word.specs.declared.view.WordView.{WordView}
use Rattle.gm_word.specs.declared.view.Line.{Line}
use Rattle.gm_word.specs.Lines.{fresh_line}
use Rattle.gm_word.specs.Steps.{Reached, opens, opening_view, with_next_pen, next_pen}
use Rattle.gm_word.specs.Seats.{fresh_pens, takes_in, tries_in}
use Rattle.gm_word.proofs.Moves.{split_moves}
use Rattle.gm_word.proofs.table.SleepTable.new.Goals as goal

pub of_words-requires : goal.of_words-requires
of_words-requires c =
    let same = c.as_slice.ensures.value ∙ c.in_ok-all_awake.ensures.items_if_clones_equal (λ y e. e) in
    subst (λ (w : List ℕ). Reached w (opening_view c.args.slots ∷ [])) (sym same) (opens c.args.slots)

pub split_seat-pen-requires : goal.split_seat-pen-requires
split_seat-pen-requires c =
    let i = c.loop-slot.invariant in
    (search rules, search rules, split_moves _ _ _ i.first i.knows (let n = length-replicate c.args.slots fresh_line in omega arith))

pub invariant_of-push_reserved : goal.invariant_of-push_reserved
invariant_of-push_reserved c =
    let i = c.loop-slot.invariant in
    let s = c.split_seat-pen.ensures in
    record {
      count = record { slot = c.loop-slot.slot; takes = 0; tries = 0 };
      knows = s.4 ∙ ap (λ (m : Me (Unit {0}) WordView). (next_pen m.0, [])) i.knows;
      slot_is = refl;
      inside = search rules;
    }

pub loop-slot-preserved : goal.loop-slot-preserved
loop-slot-preserved c =
    let i = c.loop-slot.invariant in
    let s = c.split_seat-pen.ensures in
    let p = c.push_reserved.ensures in
    let k = c.loop-slot.slot in
    let pen = s.4 ∙ ap (λ (m : Me (Unit {0}) WordView). (next_pen m.0, [])) i.knows in
    record {
      same_table = s.0 ∙ i.same_table;
      first = s.1 ∙ i.first;
      knows = s.2 ∙ ap (λ (m : Me (Unit {0}) WordView). (with_next_pen m.0, m.1)) i.knows;
      pens_are =
          p.items
          ∙ (λ j. i.pens_are j ++ record { table = s.3 j; slot = k; takes = takes_in (pen j).0; tries = tries_in (pen j).0 } ∷ [])
          ∙ ap (λ t. fresh_pens t (suc k)) (sym s.0)
          ∙ ap (fresh_pens c.split_seat-pen.new.seat.table_id) (sym (add-one k));
      len = search rules;
      room = search rules;
    }

pub invariant_of-result-2 : goal.invariant_of-result-2
invariant_of-result-2 c =
    let i = c.loop-slot.invariant in
    record {
      page = record { lines = replicate c.args.slots fresh_line; made = c.loop-slot.slot; back = [] };
      first = i.first;
      knows = i.knows;
      wide = length-replicate c.args.slots fresh_line ∙ search rules;
      phases_are = c.in_ok-phases.ensures.items_if_clones_equal (λ y e. e) ∙ sym (map-replicate (λ (line : Line). line.phase) c.args.slots fresh_line);
    }
