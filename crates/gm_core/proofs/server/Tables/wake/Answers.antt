use Rattle.std.proofs.Common.{◌+◌, ◌≤◌, refl, arith}
use Rattle.gm_core.proofs.ConnLemmas.{touched_then}
use Rattle.gm_core.proofs.WakeLemmas.{waking_on, waking_done}
use Rattle.gm_core.proofs.CoreLemmas.{goes_woken}
use Rattle.gm_core.proofs.server.Tables.wake.Goals as goal

pub loop-slot-preserved : goal.loop-slot-preserved
loop-slot-preserved c =
    let found = c.in-Some.ensures.found in
    let within = c.in-Some.ensures.within in
    let most : c.in-Some.slot + 1 ≤ 1024 = omega (arith, within.1) in
    let goes = goes_woken c.in-Some.slot (record { config = refl; functions = refl; jobs = refl; moment = refl; mode = refl }) c.set_phase.ensures in
    record {
      config = c.loop-slot.invariant.config;
      others = touched_then c.loop-slot.invariant.others goes.others;
      functions = c.loop-slot.invariant.functions;
      most = most;
      past = λ past keeps.
          waking_on c.args.self.now c.loop-slot.self c.args.f c.loop-slot.from c.loop-slot.invariant.config c.loop-slot.invariant.functions c.requires past (c.loop-slot.invariant.past past keeps)
          _ c.in-Some.slot goes c.in-Some.ensures.«open» found.0 within.0 found.1 c.in-Some.ensures.least;
    }

pub returns : goal.returns
returns c = record {
  config = c.loop-slot.invariant.config;
  others = c.loop-slot.invariant.others;
  past = λ past keeps.
      waking_done c.args.self.now c.loop-slot.self c.args.f c.loop-slot.from c.loop-slot.invariant.config c.loop-slot.invariant.functions c.requires past (c.loop-slot.invariant.past past keeps)
      c.in_default.ensures.none;
}
