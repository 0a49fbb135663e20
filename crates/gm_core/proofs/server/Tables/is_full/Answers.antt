use Rattle.std.proofs.Common.{◌≡◌, ◌+◌, ◌==◌, ◌&&◌, not, nat_le, List, ℕ, sym, ap, ◌∙◌}
use Rattle.gm_notes.specs.Jobs.{limit, total}
use Rattle.gm_core.specs.Facts.{conn_facts, function_facts}
use Rattle.gm_core.specs.Holds.{limit_named}
use Rattle.gm_core.proofs.FunctionLemmas.{number_is}
use Rattle.gm_core.proofs.CountLemmas.{total_is}
use Rattle.gm_core.proofs.server.Tables.is_full.Goals as goal

pub returns : goal.returns
returns c name past found keeps =
    let core = c.args.self.now in
    let limits : c.limit.result ≡ limit name past.notes = c.limit.ensures ∙ (sym (ap (λ o. limit_named o core.functions) found) ∙ keeps.functions.limits name) in
    let counts : c.counts.result.waiting + c.counts.result.running ≡ total name past.notes =
    (λ i. c.counts.ensures.waiting i + c.counts.ensures.running i)
    ∙ (sym (total_is core.config core.functions core.jobs (conn_facts past.notes).is_open past.notes (function_facts past.notes) keeps.functions keeps.jobs c.args.f c.requires)
    ∙ ap (λ (g : List ℕ). total g past.notes) (number_is name core.functions c.args.f found)) in
    c.is_limit_reached.ensures ∙ (λ i. not (limits i == 0) && nat_le (limits i) (counts i))
