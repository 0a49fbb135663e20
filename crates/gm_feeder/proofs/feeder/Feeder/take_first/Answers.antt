use Rattle.std.proofs.Common.{◌≤◌, ◌-◌, ◌+◌, ℕ, List, length, take, drop, length-take, refl, ap, ◌∙◌, arith}
use Rattle.std.specs.Prelude.{slice_range}
use Rattle.gm_feeder.specs.Streams.{Stream, without_first}
use Rattle.gm_feeder.proofs.PartLemmas.{part_first, part_rest}
use Rattle.gm_feeder.proofs.feeder.Feeder.take_first.Goals as goal

pub returns : goal.returns
returns c =
    let f = c.self.inside in
    let len = c.args.len in
    let pending = ap (λ (s : Stream). s.pending) c.self.view_is in
    let within : len ≤ f.end - f.start = omega (arith, c.requires.within, ap length pending, length-take (f.end - f.start) (drop f.start f.buffer.items)) in (
      (
        refl,
        λ _. tt,
        ap (λ (l : List ℕ). record { limits = f.limits; pending = l; fault = f.fault }) (part_rest f.buffer.items f.start f.end len within) ∙ ap (without_first len) c.self.view_is,
      ),
      record {
        bytes = ap (λ (l : List ℕ). slice_range l f.start (f.start + len)) c.deref.ensures.value ∙ (part_first f.buffer.items f.start f.end len within ∙ ap (take len) pending);
        after = tt;
      },
    )
