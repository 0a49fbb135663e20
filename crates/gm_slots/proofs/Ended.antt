-- How a server ends, said of its own settings.
use Rattle.std.proofs.Common.{◌≡◌, Bool, if◌then◌else◌, List, [], map, reverse, Err, sym, ap, ◌∙◌, subst}
use Rattle.atomic_table.specs.Seated.{TableId}
use Rattle.gm_feeder.specs.declared.units.Limits.{Limits}
use Rattle.gm_notes.specs.Settings.{Settings}
use Rattle.gm_shared.specs.declared.settling.Settled.{Settled}
use Rattle.gm_shared.specs.declared.settling.SettleError.{SettleError}
use Rattle.gm_shared.specs.declared.settling.SettleError.TheVariants.{Memory, Differs}
use Rattle.gm_shared.specs.declared.tape.Actor.{Actor}
use Rattle.gm_shared.specs.declared.tape.Told.{Told}
use Rattle.gm_shared.specs.declared.tape.Entry.{Entry}
use Rattle.gm_shared.specs.Openings.{Counts}
use Rattle.gm_shared.specs.Tapes.{AddUp, Legal, steps_of}
use Rattle.gm_ghost.specs.Owners.{WitnessState}
use Rattle.gm_shared.specs.Shared.{told_by, WhySo}
use Rattle.gm_core.specs.Holds.{CoreAgrees}
use Rattle.gm_slots.specs.Owners.{AreOwn}
use Rattle.gm_slots.specs.declared.account.Account.{Account}
use Rattle.gm_slots.specs.Accounts.{AreAccounted}
use Rattle.gm_slots.specs.declared.served.Served.{Served}
use Rattle.gm_slots.specs.Served.{HasEverybody, AllClosed, IsWhole, SettledSo, EndsSo}
use Rattle.gm_slots.proofs.Owning.{map_twice}

-- the settings of the blank book are those that were asked for
pub ends_as : (k asked : Settings) (taped kept : Bool) (limits : Limits) (history : TableId) (served : Served) → k ≡ asked → taped ≡ kept → SettledSo k taped limits history served.book served.accounts.items
    → EndsSo asked kept limits served
ends_as k asked taped kept limits history served settings tape so =
    (history, subst (λ t. SettledSo asked t limits history served.book served.accounts.items) tape (subst (λ s. SettledSo s taped limits history served.book served.accounts.items) settings so))

-- the history that is handed out is that of which all this is known
pub whole_of : (k : Settings) (taped : Bool) (limits : Limits) (history : TableId) (settled : Settled) (accounts : List Account) (log : List Entry) → settled.history.log ≡ log → settled.history.table ≡ history
    → Legal k log → CoreAgrees settled.core k (steps_of log) → AreOwn log → settled.tape.items ≡ (if taped then reverse log else []) → AddUp settled.tape.items (map told_by settled.shares.items)
    → HasEverybody k settled → AllClosed k (steps_of settled.history.log) → Counts k.slots settled.openings log → AreAccounted k limits log accounts → IsWhole k taped limits history settled accounts
whole_of k taped limits history settled accounts log is of legal agrees own tape up everybody closed counts accounted =
    let same = sym is in
    record {
      of = of;
      legal = subst (Legal k) same legal;
      agrees = subst (λ l. CoreAgrees settled.core k (steps_of l)) same agrees;
      own = subst AreOwn same own;
      tape = tape ∙ ap (λ (l : List Entry). if taped then reverse l else []) same;
      up = up;
      everybody = everybody;
      closed = closed;
      counts = subst (λ l. Counts k.slots settled.openings l) same counts;
      accounted = subst (λ l. AreAccounted k limits l accounts) same accounted;
    }

-- where shares don't add up, one is missing
pub not_settled : (k : Settings) (taped : Bool) (limits : Limits) (history : TableId) (accounts : List Account) (error : SettleError) (shares : List (Actor × List Told)) (witnesses : List (WitnessState Entry)) → WhySo k taped error shares witnesses
    → SettledSo k taped limits history (Err error) accounts
not_settled k taped limits history accounts Memory shares witnesses why = tt
not_settled k taped limits history accounts (Differs settled) shares witnesses why = λ all closed counted.
    let first : Actor × List Told → Actor = λ share. share.0 in
    why.missing (ap (map first) (sym why.ended.shares_are) ∙ (map_twice told_by first settled.shares.items ∙ all))
