use Rattle.std.proofs.Common.{rules, ap, sym, ◌∙◌, ◌++◌, ◌∷◌, []}
use Rattle.gm_word.proofs.Totals.{take_next}
use Rattle.gm_word.proofs.closing.read_words.Goals as goal

pub loop-slot-preserved : goal.loop-slot-preserved
loop-slot-preserved c =
    let i = c.loop-slot.invariant in
    let p = c.push_reserved.ensures in
    record {
      words_are = p.items ∙ ap (λ l. l ++ c.word.result ∷ []) i.words_are ∙ sym (take_next _ _ _ c.word.ensures);
      len = search rules;
      room = search rules;
    }
