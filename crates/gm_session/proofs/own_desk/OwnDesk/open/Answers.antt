use Rattle.gm_session.proofs.Gathering.{gathers_one}
use Rattle.gm_session.proofs.own_desk.OwnDesk.open.Goals as goal

pub returns-in_err-receipt-clause-gathers : goal.returns-in_err-receipt-clause-gathers
returns-in_err-receipt-clause-gathers g c = gathers_one g.K.BookName.settings g.K.BookName.taped _ _ _ _ _ _ _ c.apply.ensures.keeps c.apply.ensures.hands

pub returns-clause-gathers : goal.returns-clause-gathers
returns-clause-gathers g c = gathers_one g.K.BookName.settings g.K.BookName.taped _ _ _ _ _ _ _ c.apply.ensures.keeps c.apply.ensures.hands
