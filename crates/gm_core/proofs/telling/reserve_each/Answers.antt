use Rattle.gm_core.proofs.TellLemmas.{roomed_then, reserve_step}
use Rattle.gm_core.proofs.telling.reserve_each.Goals as goal

pub loop-slot-preserved : goal.loop-slot-preserved
loop-slot-preserved c = record {
  roomed = roomed_then c.args.conns.now c.loop-slot.conns c.reserve_one.new.conns c.loop-slot.invariant.roomed c.reserve_one.ensures.roomed;
  room = λ d. reserve_step c.args.conns.now c.loop-slot.conns c.reserve_one.new.conns c.args.exceptions_only c.args.count c.args.slots.now c.loop-slot.slot-index c.loop-slot-test.true c.loop-slot.invariant.roomed c.reserve_one.ensures.roomed c.in_ok-reserve_one.ensures.room c.loop-slot.invariant.room d;
}
