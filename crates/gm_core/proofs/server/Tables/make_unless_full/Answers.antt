use Rattle.std.proofs.Common.{◌≡◌, ◌<◌, ◌^◌, ℕ, Option, Some, true, false, None, Ok, Err, refl, sym, ap, ◌∙◌}
use Rattle.gm_notes.specs.Jobs.{next_number}
use Rattle.gm_notes.specs.Past.{Past}
use Rattle.gm_notes.specs.Submissions.{Submission, is_full, make, join_or_make}
use Rattle.gm_queues.specs.FunctionTables.{number_of}
use Rattle.gm_actions.specs.Actions.{submission_of}
use Rattle.gm_core.specs.declared.server.Tables.{Tables}
use Rattle.gm_core.specs.Facts.{conn_facts}
use Rattle.gm_core.specs.Holds.{Keeps}
use Rattle.gm_core.proofs.AddLemmas.{Submits, made_so, none_made, not_made}
use Rattle.gm_core.proofs.CoreLemmas.{goes_as}
use Rattle.gm_core.proofs.FunctionLemmas.{not_too_many}
use Rattle.gm_core.proofs.JobLemmas.{numbered, spent}
use Rattle.gm_core.proofs.server.Tables.make_unless_full.Goals as goal
use Rattle.gm_core.proofs.server.Tables.make_unless_full.Goals.{In-Ok}

pub returns-then-is_full-clause-does : goal.returns-then-is_full-clause-does
returns-then-is_full-clause-does c =
    let core = c.args.self.now in
    let s = submission_of c.args.asked.now in
    goes_as (join_or_make core.config c.args.slot s None) c.in_ok-refuse.ensures
    (λ p keeps.
    let few = not_too_many core.config core.functions p.notes keeps.functions s.function c.args.f c.requires.found in
    let full : is_full s.function p.notes ≡ true = sym (c.is_full.ensures s.function p c.requires.found keeps) ∙ c.if-is_full.true in
    rw (few, full) refl)

-- under its limit it is made under the next number, if there is one
under : (core : Tables) (c : ℕ) (s : Submission) (f : ℕ) (o : Option ℕ) (p : Past) → Keeps core p → number_of s.function core.functions ≡ Some f → is_full s.function p.notes ≡ false → next_number core.config p.notes ≡ o
    → make core.config c s o p ≡ join_or_make core.config c s None p
under core c s f o p keeps found room next = let few = not_too_many core.config core.functions p.notes keeps.functions s.function f found in rw (few, room, next) refl

made_under : (c : In-Ok) → Submits c.args.self.now (Ok (Some c.in-Ok.job)) c.make.new.self (join_or_make c.args.self.now.config c.args.slot (submission_of c.args.asked.now) None)
made_under c =
    let core = c.args.self.now in
    let s = submission_of c.args.asked.now in
    let fits : c.in-Ok.job < 2 ^ 64 = search in
    made_so c.args.slot s c.in-Ok.job (join_or_make core.config c.args.slot s None) c.in-Ok.ensures.makes
    (λ p keeps. under core c.args.slot s c.args.f (Some c.in-Ok.job) p keeps c.requires.found (sym (c.is_full.ensures s.function p c.requires.found keeps) ∙ c.if-is_full.false)
    (numbered core.config core.functions core.jobs p.notes (conn_facts p.notes).is_open keeps.functions keeps.jobs c.in-Ok.job c.in-Ok.ensures.number fits))

pub refuse_job-requires : goal.refuse_job-requires
refuse_job-requires c = c.in-Err.ensures.«open»

pub returns-in-Ok-clause-does : goal.returns-in-Ok-clause-does
returns-in-Ok-clause-does c = (made_under (goal.at.returns-in-Ok-clause-does c).In-Ok).0

pub returns-in-Ok-clause-made : goal.returns-in-Ok-clause-made
returns-in-Ok-clause-made c = (made_under (goal.at.returns-in-Ok-clause-made c).In-Ok).1

pub returns-in-Err-clause-does : goal.returns-in-Err-clause-does
returns-in-Err-clause-does c =
    let core = c.args.self.now in
    let s = submission_of c.args.asked.now in
    (not_made c.args.slot c.in-Err.error c.refuse_job.result (join_or_make core.config c.args.slot s None) (none_made c.in-Err.ensures.none) c.refuse_job.ensures.does c.refuse_job.ensures.none
    (λ is p keeps. under core c.args.slot s c.args.f None p keeps c.requires.found (sym (c.is_full.ensures s.function p c.requires.found keeps) ∙ c.if-is_full.false)
    (spent core.config core.functions core.jobs p.notes (conn_facts p.notes).is_open keeps.functions keeps.jobs (c.in-Err.ensures.spent (ap Err is))))).0
