use Rattle.std.proofs.Common.{refl}
use Rattle.gm_notes.specs.declared.note.Note.TheVariants.{Listens}
use Rattle.gm_notes.specs.Past.{with_note}
use Rattle.gm_notes.specs.Submissions.{keep_or_listen}
use Rattle.gm_actions.specs.Actions.{submission_of}
use Rattle.gm_core.proofs.CoreLemmas.{goes_as, does_as, goes_kept, does_listen}
use Rattle.gm_core.proofs.server.Tables.keep_or_listen.Goals as goal

pub returns-then-asked-clause-does : goal.returns-then-asked-clause-does
returns-then-asked-clause-does c =
    goes_as (keep_or_listen c.args.slot (submission_of c.args.asked.now) c.args.job)
    (goes_kept c.args.self.now c.keep.new.self c.args.job c.keep.ensures) (λ p keeps. rw c.if-asked.true refl)

pub returns-clause-does : goal.returns-clause-does
returns-clause-does c =
    does_as {f = with_note (Listens c.args.job c.args.slot)} c.listen.result (keep_or_listen c.args.slot (submission_of c.args.asked.now) c.args.job)
    (does_listen c.args.self.now c.listen.new.self c.args.job c.args.slot c.listen.result c.requires c.listen.ensures.ok c.listen.ensures.err)
    (λ p keeps. rw c.if-asked.false refl)
