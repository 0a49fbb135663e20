use Rattle.std.proofs.Common.{◌∙◌, ap, length, unwrap_or}
use Rattle.gm_admin.specs.Commands.{is_gap}
use Rattle.gm_admin.proofs.FirstWord.{position_or}
use Rattle.gm_admin.proofs.words.run_len.Goals as goal

pub returns-clause-len : goal.returns-clause-len
returns-clause-len c = c.unwrap_or.ensures ∙ ap (λ o. unwrap_or o (length c.args.bytes.now)) c.gap_at.ensures ∙ position_or is_gap c.args.bytes.now
