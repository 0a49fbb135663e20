use Rattle.std.proofs.Common.{◌≡◌, ℕ, ◌<◌, Some}
use Rattle.std.specs.Prelude.{slice_get}
use Rattle.gm_shared.specs.Openings.{count_at, most_openings}
use Rattle.gm_slots.specs.declared.account.Account.{Account}
use Rattle.gm_slots.proofs.ending.are_counted.Given as goal

abbrev pub invariant-loop-slot : goal.invariant-loop-slot
invariant-loop-slot l = (c : ℕ) (account : Account) → c < l.slot → slice_get l.fn.accounts c ≡ Some account → (account.limits ≡ l.limits) × (account.openings ≡ count_at c l.openings) × (account.openings < most_openings)
