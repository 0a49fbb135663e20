use Rattle.std.proofs.Common.{◌≡◌, ◌≤◌, ◌++◌, take, vec_len, vec_capacity}
use Rattle.std.specs.List.{flat_map}
use Rattle.gm_admin.proofs.writing.put_all.Given as goal

abbrev pub invariant-loop-part : goal.invariant-loop-part
invariant-loop-part g l = record {
  items : l.out.items ≡ l.initial.out.items ++ flat_map g.T.Put.text (take l.part-index l.parts);
  kept : take (vec_len l.initial.out) l.out.items ≡ l.initial.out.items;
  capacity : vec_capacity l.initial.out ≤ vec_capacity l.out;
}
