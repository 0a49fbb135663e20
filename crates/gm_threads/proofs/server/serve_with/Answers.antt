use Rattle.std.proofs.Common.{◌∙◌}
use Rattle.std.proofs.lemmas.Result.{IfOk-weaker}
use Rattle.gm_slots.proofs.Ended.{ends_as}
use Rattle.gm_threads.proofs.server.serve_with.Goals as goal

pub returns : goal.returns
returns g c =
    IfOk-weaker c.serve_book.result _ _ (λ served so. ends_as _ _ _ _ _ _ served c.in_ok-blank.ensures.settings (c.in_ok-blank.ensures.taped ∙ c.mode.ensures) so) c.serve_book.ensures
