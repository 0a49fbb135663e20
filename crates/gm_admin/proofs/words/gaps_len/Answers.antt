use Rattle.std.proofs.Common.{◌∙◌, ap, not, length, unwrap_or}
use Rattle.gm_admin.specs.Commands.{is_gap}
use Rattle.gm_admin.proofs.FirstWord.{position_or}
use Rattle.gm_admin.proofs.words.gaps_len.Goals as goal

pub returns-clause-len : goal.returns-clause-len
returns-clause-len c = c.unwrap_or.ensures ∙ ap (λ o. unwrap_or o (length c.args.bytes.now)) c.word_at.ensures ∙ position_or (λ b. not (is_gap b)) c.args.bytes.now
