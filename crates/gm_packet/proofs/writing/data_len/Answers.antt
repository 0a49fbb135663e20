use Rattle.std.proofs.Common.{arith}
use Rattle.gm_packet.proofs.Joins.{no_text, whole_len}
use Rattle.gm_packet.proofs.writing.data_len.Goals as goal

pub returns-in-len1-up : goal.returns-in-len1-up
returns-in-len1-up c =
    let w = whole_len c.args.texts.now no_text c.in-len1-up.len_at_least in
    omega (arith, w, c.saturating_add.ensures, c.tail_len.ensures)
