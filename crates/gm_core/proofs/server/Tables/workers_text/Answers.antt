use Rattle.std.proofs.Common.{◌++◌, ◌∙◌, List, ℕ, ap, map}
use Rattle.gm_admin.specs.declared.lines.WorkerRow.{WorkerRow}
use Rattle.gm_admin.specs.Answers.{workers_text}
use Rattle.gm_admin.specs.Views.{worker_of}
use Rattle.gm_core.proofs.ListLemmas.{worker_lines_are}
use Rattle.gm_core.proofs.server.Tables.workers_text.Goals as goal

pub returns : goal.returns
returns c p keeps =
    c.in_ok-write_workers.ensures.ok
    ∙ (ap (λ (l : List ℕ). l ++ workers_text (map worker_of c.deref.result.now)) c.new-text.ensures.items
    ∙ (ap (λ (l : List WorkerRow). workers_text (map worker_of l)) c.deref.ensures.value ∙ ap workers_text (c.in_ok-rows.ensures ∙ worker_lines_are keeps)))
