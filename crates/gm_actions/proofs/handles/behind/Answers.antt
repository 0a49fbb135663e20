use Rattle.std.proofs.Common.{◌≡◌, true, false, length, take, sym, ap, ◌∙◌}
use Rattle.std.proofs.Math.Seq.{take-append_seam}
use Rattle.std.proofs.lemmas.Slice.Eq.{bytes_eq-Decides}
use Rattle.gm_actions.proofs.handles.behind.Goals as goal

pub returns-else-eq : goal.returns-else-eq
returns-else-eq c rest e =
    let start : c.split_at.result.0.now ≡ c.args.head.now =
    c.split_at.ensures.front ∙ (ap (take (length c.args.head.now)) e ∙ take-append_seam c.args.head.now rest) in
    let same : c.eq.result ≡ true = c.eq.ensures ∙ (bytes_eq-Decides c.split_at.result.0.now c.args.head.now).1 start in
    let wrong : true ≡ false = sym same ∙ c.if-eq.false in
    absurd cc
