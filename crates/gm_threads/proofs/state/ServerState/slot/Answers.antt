use Rattle.std.proofs.Common.{ap, map, ◌∙◌}
use Rattle.gm_slots.proofs.Numbering.{item_numbered, none_numbered}
use Rattle.gm_threads.proofs.state.ServerState.slot.Goals as goal

pub returns-clause-some : goal.returns-clause-some
returns-clause-some g c =
    item_numbered (λ slot. slot.lane.slot) (λ slot. slot.now) _ c.args.self.now.slot_count _ _ c.get.ensures.lookup (ap (map (λ slot. slot.lane.slot)) c.deref.ensures.value ∙ c.args.self.now.numbered)

pub returns-clause-none : goal.returns-clause-none
returns-clause-none g c =
    none_numbered (λ slot. slot.lane.slot) (λ slot. slot.now) _ c.args.self.now.slot_count _ _ c.get.ensures.lookup (ap (map (λ slot. slot.lane.slot)) c.deref.ensures.value ∙ c.args.self.now.numbered)
