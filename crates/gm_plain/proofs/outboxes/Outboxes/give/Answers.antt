use Rattle.std.proofs.Common.{◌≡◌, ◌++◌, rules}
use Rattle.std.specs.Result.{OnOk, OnErr}
use Rattle.std.proofs.lemmas.Result.{on_ok_weaker, on_err_weaker}
use Rattle.gm_plain.proofs.OutboxLemmas.{items_of, outbox_given, outbox_same, within, outboxes_len}
use Rattle.gm_plain.proofs.outboxes.Outboxes.give.Goals as goal

pub returns-clause-ok : goal.returns-clause-ok
returns-clause-ok c =
    on_ok_weaker c.extend_from_slice.result
    (outbox_given items_of c.self.inside.outboxes.items c.args.self.now c.args.slot c.index_mut-outbox.result.now c.extend_from_slice.new.self _ c.self.view_is (within items_of _ _ _ c.self.view_is c.requires) c.index_mut-outbox.ensures.value)
    (let ok : OnOk c.extend_from_slice.result (c.extend_from_slice.new.self.items ≡ c.index_mut-outbox.result.now.items ++ c.args.text.now) = search rules in ok)

pub returns-clause-err : goal.returns-clause-err
returns-clause-err c =
    on_err_weaker c.extend_from_slice.result
    (outbox_same items_of c.self.inside.outboxes.items c.args.self.now c.args.slot c.index_mut-outbox.result.now c.extend_from_slice.new.self c.self.view_is c.index_mut-outbox.ensures.value)
    (let err : OnErr c.extend_from_slice.result (c.extend_from_slice.new.self.items ≡ c.index_mut-outbox.result.now.items) = search rules in err)

pub returns-clause-len : goal.returns-clause-len
returns-clause-len c = outboxes_len items_of c.self.inside.outboxes.items c.args.self.now c.args.slot c.extend_from_slice.new.self c.self.view_is
