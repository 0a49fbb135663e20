use Rattle.std.proofs.Common.{◌≡◌, ◌+◌, ◌++◌, ℕ, List, None, length, take, length-append, length-take-le, take-take, sym, ap, subst, ◌∙◌, arith}
use Rattle.std.specs.Prelude.{slice_range}
use Rattle.gm_feeder.specs.Streams.{Stream, with_bytes}
use Rattle.gm_feeder.specs.Heads.{IsScanned}
use Rattle.gm_feeder.proofs.PartLemmas.{part_same, part_joined, scanned_more}
use Rattle.gm_feeder.proofs.feeder.Feeder.feed.Goals as goal

end_now : (c : goal.After-self-1) → c.len-self-inside.result ≡ c.self-2.inside.end + length c.args.piece.now
end_now c =
    let f = c.self-2.inside in
    let items = ap length (c.in-Ok.ensures.items ∙ ap (λ (l : List ℕ). l ++ c.args.piece.now) c.truncate.ensures.items) in
    omega (arith, c.len-self-inside.ensures, c.extend_from_slice.new.self.ok.0, items, length-append (take f.end f.buffer.items) c.args.piece.now, length-take-le f.end f.buffer.items c.self-2.invariant.1)

-- what came is behind the rest
part_now : (c : goal.After-self-1) → slice_range c.extend_from_slice.new.self.items c.self-2.inside.start c.len-self-inside.result
    ≡ slice_range c.self-2.inside.buffer.items c.self-2.inside.start c.self-2.inside.end ++ c.args.piece.now
part_now c =
    let f = c.self-2.inside in
    let piece = c.args.piece.now in
    let items = c.in-Ok.ensures.items ∙ ap (λ (l : List ℕ). l ++ piece) c.truncate.ensures.items in
    ap (λ (l : List ℕ). slice_range l f.start c.len-self-inside.result) items
    ∙ (ap (slice_range (take f.end f.buffer.items ++ piece) f.start) (end_now c) ∙ part_joined f.buffer.items piece f.start f.end c.self-2.invariant.0 c.self-2.invariant.1)

pub invariant_of-self : goal.invariant_of-self
invariant_of-self c =
    let f = c.self-2.inside in
    let none : f.fault ≡ None = ap (λ (s : Stream). s.fault) (c.self-2.view_is ∙ (c.move_down.ensures ∙ sym c.self.view_is)) ∙ c.in_default.is in (
      omega (arith, c.self-2.invariant.0, end_now c),
      omega (arith, c.len-self-inside.ensures, c.extend_from_slice.new.self.ok.0),
      subst (λ (l : List ℕ). IsScanned f.limits l f.scanned) (sym (part_now c))
          (scanned_more f.limits (slice_range f.buffer.items f.start f.end) c.args.piece.now f.scanned c.self-2.invariant.2),
      rw none tt,
    )

pub returns-in-Ok-clause-ok : goal.returns-in-Ok-clause-ok
returns-in-Ok-clause-ok c =
    let f = c.self-2.inside in
    ap (λ (l : List ℕ). record { limits = f.limits; pending = l; fault = f.fault }) (part_now c)
    ∙ ap (λ (s : Stream). with_bytes s c.args.piece.now) (c.self-2.view_is ∙ c.move_down.ensures)

pub returns-in-Err-clause-err : goal.returns-in-Err-clause-err
returns-in-Err-clause-err c =
    let f = c.self-2.inside in
    let items = c.in-Err.ensures.items ∙ c.truncate.ensures.items in
    ap (λ (l : List ℕ). record { limits = f.limits; pending = l; fault = f.fault })
    (part_same f.buffer.items c.extend_from_slice.new.self.items f.start f.end c.self-2.invariant.0 (ap (take f.end) items ∙ take-take f.end f.end f.buffer.items (omega arith)))
    ∙ (c.self-2.view_is ∙ c.move_down.ensures)
