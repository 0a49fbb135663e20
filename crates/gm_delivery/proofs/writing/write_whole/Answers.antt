use Rattle.std.proofs.Common.{◌++◌, List, ℕ, length, take, sym, ap, subst, ◌∙◌, arith, length-drop}
use Rattle.std.proofs.lemmas.List.{take_rest}
use Rattle.std.proofs.Math.Seq.{take-add}
use Rattle.std.proofs.KnownBytes.{Appends-trans}
use Rattle.std.specs.Io.KnownBytes.{Appends}
use Rattle.gm_delivery.proofs.writing.write_whole.Goals as goal

pub loop-written-preserved : goal.loop-written-preserved
loop-written-preserved g c =
    let bytes = c.args.bytes.now in
    let written = c.loop-written.written in
    let count = c.in-Ok.count in
    let took = c.in-Ok.ensures in
    let rest = take_rest bytes written in
    record {
      within = omega (arith, c.loop-written.invariant.within, took.bound, ap length rest ∙ length-drop written bytes);
      so_far = subst (λ (l : List ℕ). Appends (g.W.Write.contents c.args.w.now) (g.W.Write.contents c.write.new.self) l) (ap (λ l. take written bytes ++ take count l) rest ∙ sym (take-add written count bytes))
          (Appends-trans _ _ _ _ _ c.loop-written.invariant.so_far took.bytes);
    }
