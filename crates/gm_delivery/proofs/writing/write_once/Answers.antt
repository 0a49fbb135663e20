use Rattle.std.proofs.Common.{◌≡◌, ◌<◌, length, sym, ap, ◌∙◌, arith}
use Rattle.std.proofs.lemmas.Bool.Decides.{nat_tests}
use Rattle.gm_feeder.specs.declared.source.Answer.TheVariants.{Moved}
use Rattle.gm_delivery.specs.Messages.{sent_as}
use Rattle.gm_delivery.proofs.Sending.{once_of, said_all, said_some}
use Rattle.gm_delivery.proofs.writing.write_once.Goals as goal

pub returns-in-Ok-clause-once : goal.returns-in-Ok-clause-once
returns-in-Ok-clause-once g c =
    let some : 0 < length c.args.bytes.now = (let is = c.is_empty.ensures in let there = c.if-is_empty.false in grind (arith, nat_tests)) in
    once_of _ _ _ _ _ _ some c.in-Ok.ensures.answered (said_all _ _ some c.if-count-bytes.true)

pub returns-in-Ok-eq0-clause-once : goal.returns-in-Ok-eq0-clause-once
returns-in-Ok-eq0-clause-once g c =
    let some : 0 < length c.args.bytes.now = (let is = c.is_empty.ensures in let there = c.if-is_empty.false in grind (arith, nat_tests)) in
    once_of _ _ _ _ _ _ some (rw c.in-Ok-eq0.is at c.write_by.ensures.answered)
    (ap (λ n. sent_as (Moved n (length c.args.bytes.now))) (sym c.in-Ok-eq0.field-0-is ∙ c.in-Ok-eq0.field-0-test))

pub returns-in-Ok-2-clause-once : goal.returns-in-Ok-2-clause-once
returns-in-Ok-2-clause-once g c =
    let some : 0 < length c.args.bytes.now = (let is = c.is_empty.ensures in let there = c.if-is_empty.false in grind (arith, nat_tests)) in
    once_of _ _ _ _ _ _ some c.in-Ok-2.ensures.answered
    (said_some c.in-Ok-2.count _ (λ is. c.in-Ok-2.count-test.1 (c.in-Ok-2.count-is ∙ is)) (λ is. c.if-count-bytes.false (c.in-Ok-2.count-is ∙ is)))

pub returns-in-Err-clause-once : goal.returns-in-Err-clause-once
returns-in-Err-clause-once g c =
    let some : 0 < length c.args.bytes.now = (let is = c.is_empty.ensures in let there = c.if-is_empty.false in grind (arith, nat_tests)) in
    once_of _ _ _ _ _ _ some c.in-Err.ensures.answered (sym c.sent_on.ensures)
