use Rattle.std.proofs.Common.{◌≡◌, ◌++◌, take}
use Rattle.gm_play.specs.Prints.{hex_of}
use Rattle.gm_play.proofs.text.put_hex.Given as goal

abbrev pub invariant-loop-byte : goal.invariant-loop-byte
invariant-loop-byte l = l.out.items ≡ l.fn.out.items ++ hex_of (take l.byte-index l.bytes)
