-- A list's keeper and its witnesses, as contracts see them.
use Rattle.std.specs.Prelude.{◌≡◌, ℕ, ◌+◌, List, [], ◌∷◌, ◌++◌, None}
use Rattle.atomic_table.specs.Seated.{TableId}
use Rattle.atomic_table.specs.declared.shared.Seat.{Seat}
use Rattle.gm_ghost.specs.declared.view.Note.{Note}
use Rattle.gm_ghost.specs.declared.view.KeeperPage.{KeeperPage}
use Rattle.gm_ghost.specs.declared.view.ListView.{ListView}
use Rattle.gm_ghost.specs.declared.view.ListView.TheVariants.{Keeper, Witness, Spent}

-- ---- the keeper

pub record KeeperState (E : Type 0) : Type 0 where
  pub table : TableId
  pub log : List E
  pub made : ℕ

abbrev pub log_in : {E : Type 0} → ListView E → List E
log_in (Keeper page) = page.log
log_in view = []

abbrev pub made_in : {E : Type 0} → ListView E → ℕ
made_in (Keeper page) = page.made
made_in view = 0

abbrev pub keeper_state : {E : Type 0} → TableId → ListView E → KeeperState E
keeper_state table view = record { table = table; log = log_in view; made = made_in view }

-- the seat is the first, and holds no actor's note
pub record SitsAtKeeper {E : Type 0} (seat : Seat (Unit {0}) (ListView E)) : Type 0 where
  pub page : KeeperPage E
  pub first : seat.id ≡ 0
  pub knows : seat.me ≡ (Keeper page, [])
  pub free : page.held ≡ None

abbrev pub kept_more : {E : Type 0} → List E → KeeperState E → KeeperState E
kept_more es keeper = record { table = keeper.table; log = es ++ keeper.log; made = keeper.made }

abbrev pub one_witness_more : {E : Type 0} → KeeperState E → KeeperState E
one_witness_more keeper = record { table = keeper.table; log = keeper.log; made = keeper.made + 1 }

-- ---- the witness

pub record WitnessState (E : Type 0) : Type 0 where
  pub table : TableId
  pub who : ℕ
  pub seen : List E

abbrev pub no_note : {E : Type 0} → Note E
no_note = record { who = 0; seen = [] }

abbrev pub note_in : {E : Type 0} → List (ListView E) → Note E
note_in [] = no_note
note_in (Keeper page ∷ views) = no_note
note_in (Witness note ∷ views) = note
note_in (Spent ∷ views) = no_note

abbrev pub witness_state : {E : Type 0} → TableId → List (ListView E) → WitnessState E
witness_state table views = record { table = table; who = (note_in views).who; seen = (note_in views).seen }

abbrev pub HasNote : {E : Type 0} → List (ListView E) → Type 0
HasNote {E} views = (note : Note E) × (views ≡ Witness note ∷ [])

abbrev pub sees : {E : Type 0} → List E → WitnessState E → WitnessState E
sees log witness = record { table = witness.table; who = witness.who; seen = log }

abbrev pub next_witness : {E : Type 0} → KeeperState E → WitnessState E
next_witness keeper = record { table = keeper.table; who = keeper.made; seen = keeper.log }
