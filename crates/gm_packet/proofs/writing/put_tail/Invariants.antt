use Rattle.std.proofs.Common.{◌≡◌, ◌≤◌, ◌+◌, ◌++◌, length, take, drop, vec_len, vec_capacity}
use Rattle.std.specs.List.{flat_map}
use Rattle.gm_packet.proofs.Joins.{behind}
use Rattle.gm_packet.proofs.writing.put_tail.Given as goal

abbrev pub invariant-loop-text : goal.invariant-loop-text
invariant-loop-text l = record {
  items : l.out.items ≡ l.initial.out.items ++ flat_map behind (take l.text-index l.rest);
  room : vec_len l.out + length (flat_map behind (drop l.text-index l.rest)) ≤ vec_capacity l.out;
}
