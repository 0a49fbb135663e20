use Rattle.std.proofs.Common.{◌≡◌, ℕ, true, false, List, not, ◌&&◌, filter, sym, ap, ap₂, ◌∙◌}
use Rattle.std.proofs.lemmas.Bool.{and_right}
use Rattle.gm_packet.specs.Answers.{work_fail}
use Rattle.gm_notes.specs.declared.note.Note.{Note}
use Rattle.gm_notes.specs.Jobs.{handle, listeners}
use Rattle.gm_notes.specs.Past.{tell_all}
use Rattle.gm_notes.specs.Workers.{hearers, wants_exceptions}
use Rattle.gm_actions.specs.Actions.{work_of}
use Rattle.gm_plain.specs.Holds.{tell_listeners}
use Rattle.gm_plain.proofs.ServerLemmas.{does_as, told_alone, told_beside}
use Rattle.gm_plain.proofs.server.PlainServer.tell_listeners.Goals as goal
use Rattle.gm_plain.proofs.server.PlainServer.tell_listeners.Goals.{then-not-packet-via-then-not-packet, then-not-packet-via-else-not-packet+then-not-ends_job}

pub returns-then-not-packet-clause-does : goal.returns-then-not-packet-clause-does
returns-then-not-packet-clause-does c =
    let k = c.args.self.now.config in
    let n = c.args.job in
    let w = work_of k c.args.packet.now in
    let alone : (w.exceptions_only && w.ends) ≡ false = elim c.then-not-packet.branch [
      | then-not-packet-via-then-not-packet x ↦ ap (λ t. t && w.ends) x.if-not-packet.true
      | then-not-packet-via-else-not-packet+then-not-ends_job x ↦ and_right w.exceptions_only w.ends (sym x.ends_job.ensures ∙ x.if-not-ends_job.true)
    ] in
    does_as c.give_all.result (tell_listeners k w n) c.give_all.ensures.does
    (λ p keeps.
    let slots : c.deref.result.now ≡ hearers w.exceptions_only (listeners n p.notes) p.notes =
    c.deref.ensures.value ∙ (c.in_ok-slots.ensures.value ∙ ap (λ (l : List Note). hearers w.exceptions_only (listeners n l) l) keeps.notes_are) in
    ap (λ (l : List ℕ). tell_all w.answer l p) slots ∙ told_alone k w n p alone)

pub returns-clause-does : goal.returns-clause-does
returns-clause-does c =
    let k = c.args.self.now.config in
    let n = c.args.job in
    let w = work_of k c.args.packet.now in
    let fails : (w.exceptions_only && w.ends) ≡ true = ap₂ (λ s t. s && t) c.if-not-packet.false (sym c.ends_job.ensures ∙ c.if-not-ends_job.false) in
    let text = c.deref-2.ensures.value ∙ c.in_ok-handle.ensures.value in
    does_as c.give_both.result (tell_listeners k w n) c.give_both.ensures.does
    (λ p keeps.
    let slots : c.deref-3.result.now ≡ hearers w.exceptions_only (listeners n p.notes) p.notes =
    c.deref-3.ensures.value ∙ (c.in_ok-slots.ensures.value ∙ ap (λ (l : List Note). hearers w.exceptions_only (listeners n l) l) keeps.notes_are) in
    let others : c.deref-4.result.now ≡ filter (λ d. not (wants_exceptions d p.notes)) (listeners n p.notes) =
    c.deref-4.ensures.value ∙ (c.in_ok-others.ensures.value ∙ ap (λ (l : List Note). filter (λ d. not (wants_exceptions d l)) (listeners n l)) keeps.notes_are) in
    ap (λ (t : List ℕ). tell_all (work_fail t) c.deref-4.result.now (tell_all w.answer c.deref-3.result.now p)) text
    ∙ (ap₂ (λ (l m : List ℕ). tell_all (work_fail (handle k n)) m (tell_all w.answer l p)) slots others
    ∙ told_beside k w n p fails))
