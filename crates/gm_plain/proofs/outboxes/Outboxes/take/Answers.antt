use Rattle.std.proofs.Common.{ap, ◌∙◌, []}
use Rattle.gm_plain.proofs.OutboxLemmas.{items_of, outbox_set, outboxes_len}
use Rattle.gm_plain.proofs.outboxes.Outboxes.take.Goals as goal

pub returns-clause-rest : goal.returns-clause-rest
returns-clause-rest c =
    outbox_set items_of c.self.inside.outboxes.items c.args.self.now c.args.slot c.replace.new.dest [] c.self.view_is (ap items_of c.replace.ensures.after ∙ c.new-empty.ensures.items)

pub returns-clause-len : goal.returns-clause-len
returns-clause-len c = outboxes_len items_of c.self.inside.outboxes.items c.args.self.now c.args.slot c.replace.new.dest c.self.view_is
