use Rattle.std.proofs.Common.{◌≡◌, ℕ, List, None, take, drop, length-take-le, length-drop, sym, ap, subst, ◌∙◌, arith}
use Rattle.std.specs.Prelude.{slice_range}
use Rattle.gm_feeder.specs.Streams.{Stream, with_bytes}
use Rattle.gm_feeder.specs.Heads.{IsScanned}
use Rattle.gm_feeder.proofs.PartLemmas.{part_same, part_more, scanned_more}
use Rattle.gm_feeder.proofs.feeder.Feeder.read_from.Goals as goal

pub returns-in_default-make_room-clause-err : goal.returns-in_default-make_room-clause-err
returns-in_default-make_room-clause-err g c =
    let f = c.self-2.inside in
    ap (λ (l : List ℕ). record { limits = f.limits; pending = l; fault = f.fault })
    (part_same f.buffer.items c.make_room.new.buffer.items f.start f.end c.self-2.invariant.0 c.make_room.ensures.kept)
    ∙ (c.self-2.view_is ∙ c.move_down.ensures)

pub invariant_of-self-in-Ok-read_at : goal.invariant_of-self-in-Ok-read_at
invariant_of-self-in-Ok-read_at g c =
    let f = c.self-2.inside in
    let same = c.read_at.ensures.kept ∙ c.make_room.ensures.kept in
    let none : f.fault ≡ None = ap (λ (s : Stream). s.fault) (c.self-2.view_is ∙ (c.move_down.ensures ∙ sym c.self.view_is)) ∙ c.in_default.is in (
      omega (arith, c.self-2.invariant.0),
      omega (arith, c.in-Ok-read_at.ensures.within, c.read_at.new.buffer.ok.0),
      subst (λ (l : List ℕ). IsScanned f.limits l f.scanned)
          (sym (part_more f.buffer.items c.read_at.new.buffer.items f.start f.end c.in-Ok-read_at.count c.self-2.invariant.0 same))
          (scanned_more f.limits (slice_range f.buffer.items f.start f.end) (take c.in-Ok-read_at.count (drop f.end c.read_at.new.buffer.items)) f.scanned c.self-2.invariant.2),
      rw none tt,
    )

pub invariant_of-self-in-Err : goal.invariant_of-self-in-Err
invariant_of-self-in-Err g c =
    let f = c.self-2.inside in
    let same = c.read_at.ensures.kept ∙ c.make_room.ensures.kept in
    let none : f.fault ≡ None = ap (λ (s : Stream). s.fault) (c.self-2.view_is ∙ (c.move_down.ensures ∙ sym c.self.view_is)) ∙ c.in_default.is in (
      c.self-2.invariant.0,
      omega (arith, c.make_room.ensures.within, c.read_at.ensures.len, c.read_at.new.buffer.ok.0),
      subst (λ (l : List ℕ). IsScanned f.limits l f.scanned)
          (sym (part_same f.buffer.items c.read_at.new.buffer.items f.start f.end c.self-2.invariant.0 same)) c.self-2.invariant.2,
      rw none tt,
    )

pub returns-in-Ok-read_at-clause-ok : goal.returns-in-Ok-read_at-clause-ok
returns-in-Ok-read_at-clause-ok g c =
    let f = c.self-2.inside in
    let count = c.in-Ok-read_at.count in
    let items = c.read_at.new.buffer.items in
    let same = c.read_at.ensures.kept ∙ c.make_room.ensures.kept in
    record {
      piece = take count (drop f.end items);
      consumes = c.in-Ok-read_at.ensures.ok;
      hears = c.in-Ok-read_at.ensures.heard;
      len = length-take-le count (drop f.end items) (omega (arith, length-drop f.end items, c.in-Ok-read_at.ensures.within, c.read_at.new.buffer.ok.0));
      kept = ap (λ (l : List ℕ). record { limits = f.limits; pending = l; fault = f.fault }) (part_more f.buffer.items items f.start f.end count c.self-2.invariant.0 same)
          ∙ ap (λ (s : Stream). with_bytes s (take count (drop f.end items))) (c.self-2.view_is ∙ c.move_down.ensures);
    }

pub returns-in-Err-clause-err : goal.returns-in-Err-clause-err
returns-in-Err-clause-err g c =
    let f = c.self-2.inside in
    let same = c.read_at.ensures.kept ∙ c.make_room.ensures.kept in
    ap (λ (l : List ℕ). record { limits = f.limits; pending = l; fault = f.fault })
    (part_same f.buffer.items c.read_at.new.buffer.items f.start f.end c.self-2.invariant.0 same)
    ∙ (c.self-2.view_is ∙ c.move_down.ensures)
