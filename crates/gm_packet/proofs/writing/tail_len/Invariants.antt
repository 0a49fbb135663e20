use Rattle.std.proofs.Common.{◌≡◌, ◌-◌, ◌^◌, length, take, min}
use Rattle.std.specs.List.{flat_map}
use Rattle.gm_packet.proofs.Joins.{behind}
use Rattle.gm_packet.proofs.writing.tail_len.Given as goal

abbrev pub invariant-loop-text : goal.invariant-loop-text
invariant-loop-text l = l.len ≡ min (length (flat_map behind (take l.text-index l.rest))) (2 ^ 64 - 1)
