use Rattle.std.proofs.Common.{◌++◌, ◌∙◌, List, ℕ, ap, map}
use Rattle.gm_admin.specs.declared.lines.StatusRow.{StatusRow}
use Rattle.gm_admin.specs.Answers.{status_text}
use Rattle.gm_admin.specs.Views.{status_of}
use Rattle.gm_core.proofs.ListLemmas.{status_lines_are}
use Rattle.gm_core.proofs.server.Tables.status_text.Goals as goal

pub returns : goal.returns
returns c p keeps =
    c.in_ok-write_status.ensures.ok
    ∙ (ap (λ (l : List ℕ). l ++ status_text (map status_of c.deref.result.now)) c.new-text.ensures.items
    ∙ (ap (λ (l : List StatusRow). status_text (map status_of l)) c.deref.ensures.value ∙ ap status_text (c.in_ok-rows.ensures ∙ status_lines_are keeps)))
