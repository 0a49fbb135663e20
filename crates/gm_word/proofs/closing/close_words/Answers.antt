use Rattle.std.proofs.Common.{sym, ap, subst}
use Rattle.gm_word.specs.Seats.{BookState, Settles, lines_of}
use Rattle.gm_word.proofs.Settling.{settles}
use Rattle.gm_word.proofs.closing.close_words.Goals as goal

pub returns : goal.returns
returns c =
    let settled = settles _ _ _ _ _ c.hand_in.ensures.book c.close_with-closed.ensures.values.2 in
    let lines = ap (λ (book : BookState). book.lines) c.book.view_is in
    subst (λ l. Settles c.read_words.new.words.items l c.args.pens.items) lines
    (subst (λ w. Settles w (lines_of c.book.inside.seat.me.0) c.args.pens.items) (sym c.read_words.ensures) settled)
