use Rattle.std.proofs.Common.{◌≡◌, ◌≤◌, take, vec_len}
use Rattle.std.specs.Prelude.{vec_capacity}
use Rattle.std.specs.Slots.{slots_items, slots_len}
use Rattle.gm_word.proofs.closing.read_words.Given as goal

abbrev pub invariant-loop-slot : goal.invariant-loop-slot
invariant-loop-slot l = record {
  words_are : l.words.items ≡ take l.slot (slots_items l.closed.words);
  len : vec_len l.words ≡ l.slot;
  room : slots_len l.closed.words ≤ vec_capacity l.words;
}
