use Rattle.std.proofs.Common.{sym, ap, ◌∙◌}
use Rattle.std.specs.Option.{option_map, option_copied}
use Rattle.std.proofs.Common.{ℕ, Option}
use Rattle.gm_jobs.specs.Live.{Live}
use Rattle.gm_jobs.specs.Tables.{find_job}
use Rattle.gm_jobs.specs.declared.by_number.Entry.{Entry}
use Rattle.gm_jobs.specs.ByNumber.{JobTable, card, held}
use Rattle.gm_jobs.proofs.EntryLemmas.{find_here, find_none}
use Rattle.gm_jobs.proofs.by_number.JobMap.get.Goals as goal

pub returns : goal.returns
returns c =
    let t = c.self.inside in
    ap (λ (o : Option Entry). option_map (λ (q : ℕ × Live). q.1) (card o)) c.in_ok-entry.ensures
    ∙ sym (find_here t.keys.entries (held t.slab) c.self.invariant c.args.number c.in_ok-key.key.now (sym c.in_ok-key.ensures.value))
    ∙ ap (λ (s : JobTable). find_job s.entries c.args.number) c.self.view_is

pub returns-in_err-key : goal.returns-in_err-key
returns-in_err-key c =
    let t = c.self.inside in
    ap option_copied c.from_residual.ensures ∙ sym (find_none t.keys.entries (held t.slab) c.self.invariant c.args.number (sym c.in_err-key.ensures.value)) ∙ ap (λ (s : JobTable). find_job s.entries c.args.number) c.self.view_is
