use Rattle.std.proofs.Common.{◌≡◌, ◌≤◌, [], replicate, vec_len}
use Rattle.std.specs.Prelude.{vec_capacity}
use Rattle.gm_word.specs.declared.view.WordView.TheVariants.{Book}
use Rattle.gm_word.specs.Lines.{fresh_line}
use Rattle.gm_word.specs.Seats.{fresh_pens}
use Rattle.gm_word.proofs.table.SleepTable.new.Given as goal

abbrev pub invariant-loop-slot : goal.invariant-loop-slot
invariant-loop-slot l = record {
  same_table : l.seat.table_id ≡ l.initial.seat.table_id;
  first : l.seat.id ≡ 0;
  knows : l.seat.me ≡ (Book record { lines = replicate l.fn.slots fresh_line; made = l.slot; back = [] }, []);
  pens_are : l.pens.items ≡ fresh_pens l.seat.table_id l.slot;
  len : vec_len l.pens ≡ l.slot;
  room : l.fn.slots ≤ vec_capacity l.pens;
}
