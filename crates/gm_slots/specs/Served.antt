-- How a server ended.
use Rattle.std.specs.Prelude.{◌≡◌, ℕ, ◌<◌, Bool, false, if◌then◌else◌, List, [], map, reverse, Result, Ok, Err, vec_len}
use Rattle.atomic_table.specs.Seated.{TableId}
use Rattle.gm_feeder.specs.declared.units.Limits.{Limits}
use Rattle.gm_notes.specs.Settings.{Settings as BookSettings}
use Rattle.gm_notes.specs.Notes.{is_open}
use Rattle.gm_notes.specs.Steps.{Step, run}
use Rattle.gm_shared.specs.declared.settling.Settled.{Settled}
use Rattle.gm_shared.specs.declared.tape.Share.{Share}
use Rattle.gm_shared.specs.declared.settling.SettleError.{SettleError}
use Rattle.gm_shared.specs.declared.settling.SettleError.TheVariants as of_book
use Rattle.gm_shared.specs.Openings.{Counts, total_of}
use Rattle.gm_shared.specs.Tapes.{AddUp, steps_of, Legal}
use Rattle.gm_shared.specs.Shared.{told_by, everybody}
use Rattle.gm_core.specs.Holds.{CoreAgrees}
use Rattle.gm_slots.specs.Owners.{AreOwn}
use Rattle.gm_slots.specs.declared.account.Account.{Account}
use Rattle.gm_slots.specs.Accounts.{AreCounted, AreAccounted}
use Rattle.gm_report.specs.declared.error.ServeError.{ServeError}
use Rattle.gm_report.specs.declared.error.ServeError.TheVariants as errors
use Rattle.gm_report.specs.Statuses.{summary_status}
use Rattle.gm_slots.specs.declared.served.Served.{Served}
use Rattle.gm_report.specs.declared.summary.Summary.{Summary}

-- Everybody's share is there.
abbrev pub HasEverybody : BookSettings → Settled → Type 0
HasEverybody k settled = map (λ (share : Share). share.actor) settled.shares.items ≡ everybody k.slots

-- No slot is open after these steps.
abbrev pub AllClosed : BookSettings → List Step → Type 0
AllClosed k steps = (c : ℕ) → c < k.slots → is_open c (run k steps).notes ≡ false

-- A server ended with the history of this book, which is legal, and in which each entry is its desk's or pen's own. The
-- core is what it leads to, and the tape, if one was kept, is it. The shares add up with the tape, and none is
-- missing. No slot is open, each slot was opened as often as is said, and each connection was served as the history
-- says, with these limits of a unit.
pub record IsWhole (k : BookSettings) (taped : Bool) (limits : Limits) (history : TableId) (settled : Settled) (accounts : List Account) : Type 0 where
  pub of : settled.history.table ≡ history
  pub legal : Legal k settled.history.log
  pub agrees : CoreAgrees settled.core k (steps_of settled.history.log)
  pub own : AreOwn settled.history.log
  pub tape : settled.tape.items ≡ (if taped then reverse settled.history.log else [])
  pub up : AddUp settled.tape.items (map told_by settled.shares.items)
  pub everybody : HasEverybody k settled
  pub closed : AllClosed k (steps_of settled.history.log)
  pub counts : Counts k.slots settled.openings settled.history.log
  pub accounted : AreAccounted k limits settled.history.log accounts

-- A share is missing, a slot is open, or an account has other limits or doesn't have all openings of its slot.
abbrev pub IsPartial : BookSettings → Limits → Settled → List Account → Type 0
IsPartial k limits settled accounts = HasEverybody k settled → AllClosed k (steps_of settled.history.log) → AreCounted limits settled.history.log accounts → ⊥

-- how a book with this history was settled, with the accounts of its slots, or that it couldn't be
abbrev pub SettledSo : BookSettings → Bool → Limits → TableId → Result Settled SettleError → List Account → Type 0
SettledSo k taped limits history (Ok settled) accounts = IsWhole k taped limits history settled accounts
SettledSo k taped limits history (Err of_book.Memory) accounts = Unit {0}
SettledSo k taped limits history (Err (of_book.Differs settled)) accounts = IsPartial k limits settled accounts

-- a server with these settings served, and its book was settled so: the one history is that which is handed out
abbrev pub EndsSo : BookSettings → Bool → Limits → Served → Type 0
EndsSo k taped limits served = (history : TableId) × SettledSo k taped limits history served.book served.accounts.items

-- the summary of it: how many connections its book opened, and how many entries its tape has
abbrev pub summary_of : Result Settled SettleError → Result Summary ServeError
summary_of (Ok settled) = Ok (record { connections = total_of settled.openings; entries = vec_len settled.tape })
summary_of (Err of_book.Memory) = Err errors.Memory
summary_of (Err (of_book.Differs settled)) = Err errors.Differs

-- the status that a program ends with whose server served so
abbrev pub served_status : Served → ℕ
served_status served = summary_status (summary_of served.book)
