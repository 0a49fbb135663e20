use Rattle.std.proofs.Common.{ℕ, Option, length, slice_get, sym, ap, ◌∙◌, arith}
use Rattle.std.proofs.lemmas.Option.{slice_get_within}
use Rattle.std.specs.Option.{option_map}
use Rattle.gm_jobs.specs.Live.{Live}
use Rattle.gm_jobs.specs.Tables.{find_job}
use Rattle.gm_jobs.specs.declared.by_number.Entry.{Entry}
use Rattle.gm_jobs.specs.ByNumber.{JobTable, card, held}
use Rattle.gm_jobs.proofs.EntryLemmas.{find_here, all_there, get_all, length_is, named}
use Rattle.gm_jobs.proofs.by_number.JobMap.at.Goals as goal

pub returns-in-Some-get-clause-entry : goal.returns-in-Some-get-clause-entry
returns-in-Some-get-clause-entry c =
    let t = c.self.inside in
    ap (λ (o : Option Entry). option_map (λ (q : ℕ × Live). (c.in-Some.number.now, q.1)) (card o)) c.in-Some-get.ensures
    ∙ ap (named (held t.slab)) c.in-Some.ensures.entry
    ∙ sym (get_all (held t.slab) t.keys.entries (all_there (held t.slab) t.keys.entries c.self.invariant) c.args.i)
    ∙ ap (λ (s : JobTable). slice_get s.entries c.args.i) c.self.view_is

pub returns-in-None-clause-entry : goal.returns-in-None-clause-entry
returns-in-None-clause-entry c =
    let t = c.self.inside in
    ap (named (held t.slab)) c.in-None.ensures.entry
    ∙ sym (get_all (held t.slab) t.keys.entries (all_there (held t.slab) t.keys.entries c.self.invariant) c.args.i)
    ∙ ap (λ (s : JobTable). slice_get s.entries c.args.i) c.self.view_is

pub returns-in-Some-get-clause-live : goal.returns-in-Some-get-clause-live
returns-in-Some-get-clause-live c =
    let t = c.self.inside in
    sym (ap (λ (s : JobTable). find_job s.entries c.in-Some.number.now) c.self.view_is)
    ∙ find_here t.keys.entries (held t.slab) c.self.invariant c.in-Some.number.now c.in-Some.key.now c.in-Some.ensures.value
    ∙ sym (ap (λ (o : Option Entry). option_map (λ (q : ℕ × Live). q.1) (card o)) c.in-Some-get.ensures)

pub returns-in-Some-get-clause-small : goal.returns-in-Some-get-clause-small
returns-in-Some-get-clause-small c = λ _.
    let t = c.self.inside in
    let within = slice_get_within t.keys.entries c.args.i (c.in-Some.number.now, c.in-Some.key.now) (sym c.in-Some.ensures.entry) in
    let count = c.len-count.ensures.count ∙ sym (ap (λ (s : JobTable). length s.entries) c.self.view_is) ∙ length_is (held t.slab) t.keys.entries c.self.invariant in
    let small = c.len-count.ensures.small in
    omega (arith, within, count, small)
