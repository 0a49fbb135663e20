use Rattle.std.proofs.Common.{◌++◌, ℕ, List, take, drop, sym, ap, ◌∙◌}
use Rattle.std.proofs.lemmas.List.{append_assoc, take-append-drop}
use Rattle.gm_delivery.proofs.message.Message.next_chunk.Goals as goal

pub returns-clause-first : goal.returns-clause-first
returns-clause-first c =
    let first = c.first-first.result.now in
    let more = c.first-first.ensures.front in
    let n = c.min.result in
    (drop n first ++ more.0, more.1 ∙ (ap (λ (l : List ℕ). l ++ more.0) (sym (take-append-drop n first)) ∙ append_assoc (take n first) (drop n first) more.0))
