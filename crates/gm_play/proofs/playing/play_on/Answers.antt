use Rattle.std.proofs.Common.{◌∙◌, ◌≤◌, ℕ, List, length, sym, subst}
use Rattle.std.specs.Io.KnownBytes.{Appends}
use Rattle.gm_front.specs.Inputs.{nothing_read}
use Rattle.gm_play.specs.Prints.{Prints}
use Rattle.gm_play.specs.Scripts.{lines_of}
use Rattle.gm_play.proofs.Outcomes.{on_ok, if_some}
use Rattle.gm_play.proofs.Handing.{ready}
use Rattle.gm_play.proofs.playing.play_on.Goals as goal

pub returns-clause-text : goal.returns-clause-text
returns-clause-text g c =
    on_ok c.play_lines.result _ _
    (λ h k same few agreed.
    let done = h k c.args.limits nothing_read (ready g.S.JobServer.agrees k c.args.limits c.in_ok-front.front c.deref_mut.result.now c.args.slots (c.in_ok-front.ensures k few agreed) (c.deref_mut.ensures.value ∙ c.in_ok-told.ensures.items_if_clones_equal (λ y e. e)) (sym same)) in
    if_some (g.R.Read.remaining c.args.reader.now) _ _
    (λ script e.
    subst (λ (l : List ℕ). (text : List ℕ) × Prints k c.args.limits nothing_read (lines_of l) text × Appends (g.W.Write.contents c.args.writer.now) (g.W.Write.contents c.play_lines.new.writer) text) (c.deref.ensures.value ∙ e) done)
    c.in_ok-script.ensures.all)
    c.play_lines.ensures.ok

pub returns-clause-short : goal.returns-clause-short
returns-clause-short g c =
    on_ok c.play_lines.result _ _
    (λ h. if_some (g.R.Read.remaining c.args.reader.now) _ _ (λ script e. subst (λ (l : List ℕ). length l ≤ 16777216) e c.in_ok-script.ensures.most) c.in_ok-script.ensures.all)
    c.play_lines.ensures.ok
