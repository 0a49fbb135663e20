use Rattle.std.proofs.Common.{sym, arith}
use Rattle.gm_play.proofs.Outcomes.{on_ok}
use Rattle.gm_play.proofs.playing.play.Goals as goal

pub returns-then-plain-clause-text : goal.returns-then-plain-clause-text
returns-then-plain-clause-text g c =
    on_ok c.play_on.result _ _ (λ h. h c.args.settings.config (sym c.slots-slots.ensures.value) (omega (arith, c.slots-slots.ensures.value, c.slots-slots.ensures.bound)) c.in_ok-server.ensures) c.play_on.ensures.text

pub returns-clause-text : goal.returns-clause-text
returns-clause-text g c =
    on_ok c.play_on-2.result _ _ (λ h. h c.args.settings.config (sym c.slots-slots.ensures.value) (omega (arith, c.slots-slots.ensures.value, c.slots-slots.ensures.bound)) c.in_ok-server-2.ensures.agrees) c.play_on-2.ensures.text
