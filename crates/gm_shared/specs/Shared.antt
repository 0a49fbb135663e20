-- The invariant of the lock, and a shared book as its callers see it.
use Rattle.std.specs.Prelude.{◌≡◌, ◌⊎◌, ℕ, zero, suc, ◌+◌, ◌*◌, Bool, true, if◌then◌else◌, List, [], ◌∷◌, ◌++◌, reverse, map, All, replicate, Result, Ok, Err}
use Rattle.atomic_table.specs.Seated.{TableId}
use Rattle.gm_notes.specs.Settings.{Settings}
use Rattle.gm_notes.specs.Steps.{Step, run}
use Rattle.gm_notes.specs.Servers.{owes}
use Rattle.gm_core.specs.Holds.{CoreAgrees}
use Rattle.gm_word.specs.Seats.{PenState, fresh_pens}
use Rattle.gm_shared.specs.declared.book.Booked.{Booked}
use Rattle.gm_shared.specs.declared.tape.Actor.{Actor}
use Rattle.gm_shared.specs.declared.tape.Actor.TheVariants.{Desk, Pen}
use Rattle.gm_shared.specs.declared.tape.Entry.{Entry}
use Rattle.gm_shared.specs.declared.tape.Share.{Share}
use Rattle.gm_shared.specs.declared.settling.Settled.{Settled}
use Rattle.gm_shared.specs.declared.settling.SettleError.{SettleError}
use Rattle.gm_shared.specs.declared.settling.SettleError.TheVariants.{Memory, Differs}
use Rattle.gm_shared.specs.declared.tape.Told.{Told}
use Rattle.gm_shared.specs.Tapes.{AddUp, share_of, steps_of, Legal}
use Rattle.gm_shared.specs.Books.{takings, BookedAgrees}
use Rattle.gm_shared.specs.Histories.{Knows, AreBelow}
use Rattle.gm_shared.specs.Openings.{Counts}
use Rattle.gm_ghost.specs.Owners.{KeeperState, WitnessState}

-- a book that threads don't share yet, the settings under which it serves, and whether it keeps a tape
pub record BlankState : Type 0 where
  pub table : TableId
  pub history : TableId
  pub settings : Settings
  pub taped : Bool

-- nothing has happened to it, its words are in its table, and there is a pen for each slot, which has taken nothing
pub record IsBlank (table : TableId) (k : Settings) (slots : ℕ) (booked : Booked) (seats : List PenState) : Type 0 where
  pub agrees : BookedAgrees booked k []
  pub slots_are : k.slots ≡ slots
  pub table_is : booked.seat.table ≡ table
  pub seats_are : seats ≡ fresh_pens table slots
  pub unopened : booked.openings ≡ replicate slots 0

-- a count of witnesses were made of a history without an entry
pub record HasMade (count : ℕ) (history : TableId) (keeper : KeeperState Entry) : Type 0 where
  pub history_is : keeper.table ≡ history
  pub empty : keeper.log ≡ []
  pub count_is : keeper.made ≡ count

abbrev pub IsNew : TableId → KeeperState Entry → Type 0
IsNew history keeper = HasMade 0 history keeper

-- how many actors share a book with this number of slots: a desk and a pen for each, and the control desk
abbrev pub actor_count : ℕ → ℕ
actor_count slots = 2 * slots + 1

-- The invariant of the lock: the book agrees with the steps of the one history, which is legal under these settings and
-- which the tape, if one is kept, is. Each entry is of an actor of this book. Its words are in this table, and its
-- counters say how often slots were opened.
pub record IsGuarded (table : TableId) (k : Settings) (taped : Bool) (booked : Booked) (log : List Entry) : Type 0 where
  pub agrees : BookedAgrees booked k (steps_of log)
  pub legal : Legal k log
  pub recorded : booked.tape.entries.items ≡ (if taped then reverse log else [])
  pub whose : AreBelow (actor_count k.slots) log
  pub table_is : booked.seat.table ≡ table
  pub on : booked.tape.on ≡ taped
  pub counts : Counts k.slots booked.openings log

-- and contracts see the book and the history
pub record GuardedState : Type 0 where
  pub booked : Booked
  pub log : List Entry

-- ---- the end

-- the history has nothing of a witness's actor that it hasn't seen
abbrev pub HasSeenOwn : List Entry → WitnessState Entry → Type 0
HasSeenOwn log witness = Knows log witness.who witness.seen

-- a pen took the NOOPs that were entered as taken, or one more, if its slot is said to be owed one still
abbrev pub TookThose : Settings → List Step → PenState → Type 0
TookThose k steps pen =
    (pen.takes ≡ takings pen.slot steps) ⊎ ((pen.takes ≡ takings pen.slot steps + 1) × (owes pen.slot (run k steps) ≡ true))

-- the numbers below a number, in their order
abbrev pub numbers_below : ℕ → List ℕ
numbers_below zero = []
numbers_below (suc n) = numbers_below n ++ n ∷ []

-- all of them, in order: the desks, the control desk, the pens
abbrev pub everybody : ℕ → List Actor
everybody slots = map Desk (numbers_below slots) ++ (Desk slots ∷ map Pen (numbers_below slots))

-- The actor of a share, and its calls.
abbrev pub told_by : Share → Actor × List Told
told_by share = (share.actor, share.told.items)

-- a share is what the history has of its actor
abbrev pub IsShareOf : Bool → List Entry → Actor × List Told → Type 0
IsShareOf taped log share = share.1 ≡ share_of taped share.0 log

-- A book after its end: the history that is handed out is legal, the core agrees with its steps, and the tape, if one
-- was kept, is it. Each entry is of an actor of this book. These are the shares of the desks and pens that were given
-- back, each what the history has of its own, and these their witnesses. Its counters say how often slots were opened.
pub record IsEnded (k : Settings) (taped : Bool) (settled : Settled) (shares : List (Actor × List Told)) (witnesses : List (WitnessState Entry)) : Type 0 where
  pub log : List Entry
  pub log_is : settled.history.log ≡ log
  pub legal : Legal k log
  pub agrees : CoreAgrees settled.core k (steps_of log)
  pub tape : settled.tape.items ≡ (if taped then reverse log else [])
  pub whose : AreBelow (actor_count k.slots) log
  pub shares_are : map told_by settled.shares.items ≡ shares
  pub exact : All (IsShareOf taped log) shares
  pub seen : All (HasSeenOwn log) witnesses
  pub counts : Counts k.slots settled.openings log

-- The shares add up, and the pens took what was entered.
pub record IsSettled (k : Settings) (taped : Bool) (settled : Settled) (shares : List (Actor × List Told)) (witnesses : List (WitnessState Entry)) (pens : List PenState) : Type 0 where
  pub ended : IsEnded k taped settled shares witnesses
  pub up : AddUp settled.tape.items shares
  pub takes : All (TookThose k (steps_of ended.log)) pens

-- The shares don't add up, and one is missing.
pub record IsUnsettled (k : Settings) (taped : Bool) (settled : Settled) (shares : List (Actor × List Told)) (witnesses : List (WitnessState Entry)) : Type 0 where
  pub ended : IsEnded k taped settled shares witnesses
  pub apart : AddUp settled.tape.items shares → ⊥
  pub missing : map (λ (share : Actor × List Told). share.0) shares ≡ everybody k.slots → ⊥

abbrev pub WhySo : Settings → Bool → SettleError → List (Actor × List Told) → List (WitnessState Entry) → Type 0
WhySo k taped Memory shares witnesses = Unit {0}
WhySo k taped (Differs settled) shares witnesses = IsUnsettled k taped settled shares witnesses

-- a property of a book that ended, whether its shares add up or not
abbrev pub IfSettled : (Settled → Type 0) → Result Settled SettleError → Type 0
IfSettled P (Ok settled) = P settled
IfSettled P (Err Memory) = Unit {0}
IfSettled P (Err (Differs settled)) = P settled

abbrev pub settle_error_number : SettleError → ℕ
settle_error_number Memory = 6
settle_error_number (Differs settled) = 16
