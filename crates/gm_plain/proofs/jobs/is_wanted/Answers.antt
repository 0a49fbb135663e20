use Rattle.std.proofs.Common.{sym, ap, ◌∙◌, arith, below_more}
use Rattle.std.specs.Prelude.{◌||◌}
use Rattle.gm_notes.specs.Jobs.{is_kept}
use Rattle.gm_plain.proofs.LogLemmas.{listeners_below}
use Rattle.gm_plain.proofs.Listening.{heard_at, heard_nowhere, or_true, or_false}
use Rattle.gm_plain.proofs.jobs.is_wanted.Goals as goal

pub returns-then-is_listening : goal.returns-then-is_listening
returns-then-is_listening c =
    let kept = is_kept c.args.job c.args.log.now.notes in
    sym (ap (λ t. kept || t) (heard_at c.args.job c.loop-slot.slot c.args.log.now.notes (sym c.is_listening.ensures ∙ c.if-is_listening.true)) ∙ or_true kept)

pub loop-slot-preserved : goal.loop-slot-preserved
loop-slot-preserved c = below_more _ _ c.loop-slot.invariant (sym c.is_listening.ensures ∙ c.if-is_listening.false)

pub returns : goal.returns
returns c =
    let kept = is_kept c.args.job c.args.log.now.notes in
    let unheard = heard_nowhere c.args.log.now.slots c.args.job c.args.log.now.notes (listeners_below c.args.log.now.slots c.args.job c.args.log.now.notes c.slots-slot-end.ensures.fit)
    (λ d lt. c.loop-slot.invariant d (omega (arith, lt, c.loop-slot-test.false, c.slots-slot-end.ensures.value))) in
    c.known.ensures.knows.is_kept ∙ sym (ap (λ t. kept || t) unheard ∙ or_false kept)
