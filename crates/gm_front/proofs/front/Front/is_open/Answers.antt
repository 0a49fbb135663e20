use Rattle.std.proofs.Common.{◌≡◌, ◌≤◌, ◌∙◌, false, length, sym, arith}
use Rattle.std.specs.Prelude.{nat_lt}
use Rattle.std.proofs.lemmas.Bool.Decides.{nat_tests}
use Rattle.gm_front.proofs.Taking.{closed_past_end}
use Rattle.gm_front.proofs.front.Front.is_open.Goals as goal

pub returns-else-index-len : goal.returns-else-index-len
returns-else-index-len g c k limits reading h =
    let past : c.len.result ≤ c.args.slot = c.if-index-len.false in
    let no : nat_lt c.args.slot c.len.result ≡ false = grind (arith, nat_tests) in
    let far : length c.args.self.now.feeders.items ≤ c.args.slot = omega (arith, past, c.len.ensures, c.args.self.now.feeders.ok.0) in
    no ∙ sym (closed_past_end g.S.JobServer.agrees k limits reading c.args.slot c.args.self.now h far)
