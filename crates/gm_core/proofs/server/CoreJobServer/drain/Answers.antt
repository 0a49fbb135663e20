use Rattle.std.proofs.Common.{ap, ◌∙◌, sym}
use Rattle.gm_bytes.specs.Queues.{Queued}
use Rattle.gm_core.proofs.server.CoreJobServer.drain.Goals.{in-Some, in-None}
use Rattle.gm_core.proofs.server.CoreJobServer.drain.Goals as goal

pub returns : goal.returns
returns c = record {
  answers = λ k steps h. elim c.match-drain_open.branch [
    | in-Some w ↦
        let some = w.in-Some.ensures.some k steps h in
        (ap (λ (q : Queued). q.bytes) w.result-is ∙ (ap (λ (q : Queued). q.bytes) w.in-Some.bytes-is ∙ some.1), some.3)
    | in-None w ↦
        let none = w.in-None.ensures.none k steps h in
        (ap (λ (q : Queued). q.bytes) w.result-is ∙ (ap (λ (q : Queued). q.bytes) w.new.ensures ∙ sym none.1), none.2)
  ];
}
