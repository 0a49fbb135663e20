use Rattle.std.proofs.Common.{◌≡◌, ◌≤◌, ◌-◌, ◌+◌, ℕ, List, length, take, drop, length-take, ap, ◌∙◌, arith}
use Rattle.std.specs.Prelude.{slice_range}
use Rattle.std.proofs.lemmas.List.{take_all}
use Rattle.gm_feeder.specs.Units.{APacket}
use Rattle.gm_feeder.specs.Streams.{Stream, without_first}
use Rattle.gm_feeder.proofs.PartLemmas.{part_inner, part_rest}
use Rattle.gm_feeder.proofs.feeder.Feeder.take_buffer.Goals as goal

pub returns-clause-data : goal.returns-clause-data
returns-clause-data c =
    let f = c.self.inside in
    let len = 12 + c.args.size in
    let pending = ap (λ (s : Stream). s.pending) c.self.view_is in
    let within : len ≤ f.end - f.start = omega (arith, c.requires.within, ap length pending, length-take (f.end - f.start) (drop f.start f.buffer.items)) in
    let at : (f.start + 12) + c.args.size ≡ f.start + len = omega arith in
    let items : c.truncate.new.self.items ≡ take (f.start + len) f.buffer.items =
    c.truncate.ensures.items ∙ (ap (λ (l : List ℕ). take ((f.start + 12) + c.args.size) l) (ap (λ v. v.items) c.replace-bytes.ensures.value) ∙ ap (λ (n : ℕ). take n f.buffer.items) at)
    in
    ap (APacket c.args.kind)
    (ap (drop (f.start + 12)) items
    ∙ (part_inner f.buffer.items f.start f.end 12 len (omega arith) within ∙ ap (λ (l : List ℕ). drop 12 (take len l)) pending))

pub returns-clause-rest : goal.returns-clause-rest
returns-clause-rest c =
    let f = c.self.inside in
    let len = 12 + c.args.size in
    let pending = ap (λ (s : Stream). s.pending) c.self.view_is in
    let within : len ≤ f.end - f.start = omega (arith, c.requires.within, ap length pending, length-take (f.end - f.start) (drop f.start f.buffer.items)) in
    let at : (f.start + 12) + c.args.size ≡ f.start + len = omega arith in
    let new = c.replace-bytes.new.dest in
    let items : new.items ≡ slice_range f.buffer.items (f.start + len) f.end =
    ap (λ v. v.items) c.replace-bytes.ensures.after ∙ (c.in-Ok.ensures.items
    ∙ (ap (λ (l : List ℕ). slice_range l ((f.start + 12) + c.args.size) f.end) c.deref.ensures.value ∙ ap (λ (n : ℕ). slice_range f.buffer.items n f.end) at))
    in
    ap (λ (l : List ℕ). record { limits = f.limits; pending = l; fault = f.fault })
    (take_all (c.len-self-inside.result - 0) new.items (omega (arith, c.len-self-inside.ensures, new.ok.0)) ∙ (items ∙ part_rest f.buffer.items f.start f.end len within))
    ∙ ap (without_first len) c.self.view_is
