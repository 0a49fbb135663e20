use Rattle.std.proofs.Common.{ℕ, nat_eq, slice_index_or, Option, None, is_some, List, ap}
use Rattle.std.specs.Map.{lookup}
use Rattle.gm_jobs.specs.declared.by_number.Entry.{Entry}
use Rattle.gm_jobs.specs.ByNumber.{card, held}
use Rattle.gm_jobs.proofs.NumberLemmas.{not_some}
use Rattle.gm_jobs.proofs.by_number.JobMap.new.Goals as goal

pub invariant_of-result : goal.invariant_of-result
invariant_of-result c = record {
  leads = λ n k e. absurd (not_some (lookup (nat_eq n) c.with_hasher.result.entries) (ap (λ (es : List (ℕ × ℕ)). lookup (nat_eq n) es) c.with_hasher.ensures.empty) (ap is_some e));
  stands = λ k n live e. absurd (not_some (held c.new.result k) (ap (λ (xs : List (Option Entry)). card (slice_index_or xs k None)) c.new.ensures.empty) (ap is_some e));
  distinct = c.with_hasher.ensures.unique;
}
