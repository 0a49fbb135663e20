use Rattle.std.proofs.Common.{◌≡◌, Some, None, refl, sym, ap, ◌∙◌}
use Rattle.gm_notes.specs.Jobs.{made, joined}
use Rattle.gm_notes.specs.Past.{Past}
use Rattle.gm_notes.specs.Steps.{made_since}
use Rattle.gm_notes.specs.Submissions.{join_or_make, submit}
use Rattle.gm_actions.specs.Actions.{submission_of}
use Rattle.gm_core.specs.Facts.{conn_facts}
use Rattle.gm_core.specs.Holds.{Keeps}
use Rattle.gm_core.proofs.CoreLemmas.{goes_as, does_as, makes_as}
use Rattle.gm_core.proofs.JobLemmas.{joined_is}
use Rattle.gm_core.proofs.PacketLemmas.{none_by, wanted_made}
use Rattle.gm_core.proofs.server.Tables.submit_known.Goals as goal
use Rattle.gm_core.proofs.server.Tables.submit_known.Goals.{In-Ok, In-Err}

-- it joins the job that was found
joins : (c : In-Ok) (p : Past) → Keeps c.args.self.now p
    → join_or_make c.args.self.now.config c.args.slot (submission_of c.args.asked.now) (Some c.in-Ok.job) p ≡ submit c.args.self.now.config c.args.slot (submission_of c.args.asked.now) p
joins c p keeps =
    let core = c.args.self.now in
    let s = submission_of c.args.asked.now in
    let found : joined s.function s.unique p.notes ≡ Some c.in-Ok.job = sym (joined_is core.config core.functions core.jobs p.notes (conn_facts p.notes).is_open keeps.functions keeps.jobs c.args.f s.function s.unique (Some c.in-Ok.job)
    c.requires.found c.in-Ok.ensures.found c.in-Ok.ensures.only tt) in
    rw (c.requires.named, found) refl

-- there is none to join
joins_none : (c : In-Err) (p : Past) → Keeps c.args.self.now p
    → join_or_make c.args.self.now.config c.args.slot (submission_of c.args.asked.now) None p ≡ submit c.args.self.now.config c.args.slot (submission_of c.args.asked.now) p
joins_none c p keeps =
    let core = c.args.self.now in
    let s = submission_of c.args.asked.now in
    let none : joined s.function s.unique p.notes ≡ None = sym (joined_is core.config core.functions core.jobs p.notes (conn_facts p.notes).is_open keeps.functions keeps.jobs c.args.f s.function s.unique None
    c.requires.found tt tt c.in-Err.ensures.vacant.none) in
    rw (c.requires.named, none) refl

pub returns-in_ok-join-in-Ok-clause-does : goal.returns-in_ok-join-in-Ok-clause-does
returns-in_ok-join-in-Ok-clause-does c =
    goes_as (submit c.args.self.now.config c.args.slot (submission_of c.args.asked.now)) c.in_ok-join-in-Ok.ensures (joins (goal.at.returns-in_ok-join-in-Ok-clause-does c).In-Ok)

pub returns-in_ok-join-in-Ok-clause-made : goal.returns-in_ok-join-in-Ok-clause-made
returns-in_ok-join-in-Ok-clause-made c past keeps =
    let s = submission_of c.args.asked.now in
    none_by past (join_or_make c.args.self.now.config c.args.slot s (Some c.in-Ok.job) past) (wanted_made c.args.slot s c.in-Ok.job past)
    ∙ ap (λ (q : Past). made_since (made past.notes) (made q.notes)) (joins (goal.at.returns-in_ok-join-in-Ok-clause-made c).In-Ok past keeps)

pub returns-in-Err-clause-does : goal.returns-in-Err-clause-does
returns-in-Err-clause-does c =
    does_as c.make_unless_full.result (submit c.args.self.now.config c.args.slot (submission_of c.args.asked.now)) c.make_unless_full.ensures.does (joins_none (goal.at.returns-in-Err-clause-does c).In-Err)

pub returns-in-Err-clause-made : goal.returns-in-Err-clause-made
returns-in-Err-clause-made c =
    makes_as c.args.self.now c.make_unless_full.result (submit c.args.self.now.config c.args.slot (submission_of c.args.asked.now)) c.make_unless_full.ensures.made (joins_none (goal.at.returns-in-Err-clause-made c).In-Err)
