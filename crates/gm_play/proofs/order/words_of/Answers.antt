use Rattle.std.proofs.Common.{◌∙◌, ap, List, ℕ, ◌∷◌}
use Rattle.gm_play.specs.Scripts.{order_of_words}
use Rattle.gm_play.proofs.Pieces.{pieces_by, too_many}
use Rattle.gm_play.proofs.order.words_of.Goals as goal
use Rattle.gm_play.proofs.order.words_of.Goals.{In_default, In_default-cut, In-None, In-Some-cut-2}

pub returns-in_default : goal.returns-in_default
returns-in_default c = ap order_of_words (pieces_by 32 c.args.line.now _ (rw c.in_default.is at c.cut.ensures))

pub returns-in_default-cut : goal.returns-in_default-cut
returns-in_default-cut c =
    pieces_by 32 c.args.line.now _ (rw c.in-Some.is at c.cut.ensures)
    ∙ ap (λ (words : List (List ℕ)). c.in-Some.first.now ∷ words) (pieces_by 32 c.in-Some.rest.now _ (rw c.in_default-cut.is at c.cut-2.ensures))

pub returns-in-None : goal.returns-in-None
returns-in-None c =
    pieces_by 32 c.args.line.now _ (rw c.in-Some.is at c.cut.ensures)
    ∙ (ap (λ (words : List (List ℕ)). c.in-Some.first.now ∷ words) (pieces_by 32 c.in-Some.rest.now _ (rw c.in-Some-cut.is at c.cut-2.ensures))
    ∙ ap (λ (words : List (List ℕ)). c.in-Some.first.now ∷ c.in-Some-cut.second.now ∷ words) (pieces_by 32 c.in-Some-cut.third.now _ (rw c.in-None.is at c.cut-3.ensures)))

pub returns-in-Some-cut-2 : goal.returns-in-Some-cut-2
returns-in-Some-cut-2 c =
    ap order_of_words (pieces_by 32 c.args.line.now _ (rw c.in-Some.is at c.cut.ensures))
    ∙ (ap (λ (words : List (List ℕ)). order_of_words (c.in-Some.first.now ∷ words)) (pieces_by 32 c.in-Some.rest.now _ (rw c.in-Some-cut.is at c.cut-2.ensures))
    ∙ (ap (λ (words : List (List ℕ)). order_of_words (c.in-Some.first.now ∷ c.in-Some-cut.second.now ∷ words)) (pieces_by 32 c.in-Some-cut.third.now _ (rw c.in-Some-cut-2.is at c.cut-3.ensures))
    ∙ too_many c.in-Some.first.now c.in-Some-cut.second.now c.in-Some-cut-2.field-0.0.now 32 c.in-Some-cut-2.field-0.1.now))
