-- A list of entries, the newest first: whose each is, what each actor has seen, and the rule of the list's table.
use Rattle.std.specs.Prelude.{◌≡◌, ℕ, ◌+◌, ◌<◌, ◌==◌, if◌then◌else◌, List, [], ◌∷◌, ◌++◌, Option, Some, None}
use mathlib.Core.Option.{some}
use lib.ListN.{get_elem?}
use Rattle.atomic_table.specs.Table.{Me}
use Rattle.gm_ghost.specs.declared.view.Note.{Note}
use Rattle.gm_ghost.specs.declared.view.KeeperPage.{KeeperPage}
use Rattle.gm_ghost.specs.declared.view.ListView.{ListView}
use Rattle.gm_ghost.specs.declared.view.ListView.TheVariants.{Keeper, Witness, Spent}

-- the entries of one actor
abbrev pub entries_by : {E : Type 0} → (E → ℕ) → ℕ → List E → List E
entries_by owner who [] = []
entries_by owner who (e ∷ older) = if who == owner e then e ∷ entries_by owner who older else entries_by owner who older

-- The list goes on from what an actor has seen, and nothing in what is newer is of that actor.
pub record Knows {E : Type 0} (owner : E → ℕ) (log : List E) (who : ℕ) (seen : List E) : Type 0 where
  pub newer : List E
  pub goes_on : log ≡ newer ++ seen
  pub others : entries_by owner who newer ≡ []

-- each is of this actor
abbrev pub AreOf : {E : Type 0} → (E → ℕ) → ℕ → List E → Type 0
AreOf owner who [] = Unit {0}
AreOf owner who (e ∷ es) = (owner e ≡ who) × AreOf owner who es

-- each is of an actor below this number
abbrev pub AreBelow : {E : Type 0} → (E → ℕ) → ℕ → List E → Type 0
AreBelow owner n [] = Unit {0}
AreBelow owner n (e ∷ es) = (owner e < n) × AreBelow owner n es

-- ---- the rule

-- the note that a seat has
abbrev pub note_of : {E : Type 0} → ListView E → Option (Note E)
note_of (Keeper page) = page.held
note_of (Witness note) = Some note
note_of Spent = None

pub record Fits {E : Type 0} (owner : E → ℕ) (page : KeeperPage E) (note : Note E) : Type 0 where
  pub knows : Knows owner page.log note.who note.seen
  pub made : note.who < page.made

-- The first seat is the keeper's, and knows the whole list. Each note fits it, and no two are of one actor. Each entry
-- is of an actor that was made.
pub record Kept {E : Type 0} (owner : E → ℕ) (views : List (ListView E)) : Type 0 where
  pub page : KeeperPage E
  pub keeper : get_elem? views 0 ≡ some (Keeper page)
  pub fits : (seat : ℕ) (v : ListView E) (note : Note E) → get_elem? views seat ≡ some v → note_of v ≡ Some note → Fits owner page note
  pub apart : (seat other : ℕ) (v w : ListView E) (note same : Note E) → get_elem? views seat ≡ some v → note_of v ≡ Some note
      → get_elem? views other ≡ some w → note_of w ≡ Some same → note.who ≡ same.who → seat ≡ other
  pub whose : AreBelow owner page.made page.log

abbrev pub blank_page : {E : Type 0} → KeeperPage E
blank_page = record { log = []; made = 0; held = None }

abbrev pub opening_view : {E : Type 0} → ListView E
opening_view = Keeper blank_page

-- ---- the steps

abbrev pub with_held : {E : Type 0} → Option (Note E) → KeeperPage E → KeeperPage E
with_held held page = record { log = page.log; made = page.made; held = held }

abbrev pub holding : {E : Type 0} → ListView E → ListView E → ListView E
holding (Keeper page) (Witness note) = Keeper (with_held (Some note) page)
holding view other = view

abbrev pub let_go : {E : Type 0} → ListView E → ListView E
let_go (Keeper page) = Keeper (with_held None page)
let_go view = view

abbrev pub witness_if : {E : Type 0} → Option (Note E) → ListView E
witness_if (Some note) = Witness note
witness_if None = Spent

abbrev pub given : {E : Type 0} → ListView E → ListView E
given (Keeper page) = witness_if page.held
given view = Spent

abbrev pub with_next : {E : Type 0} → ListView E → ListView E
with_next (Keeper page) = Keeper record { log = page.log; made = page.made + 1; held = page.held }
with_next view = view

abbrev pub next : {E : Type 0} → ListView E → ListView E
next (Keeper page) = Witness record { who = page.made; seen = page.log }
next view = Spent

-- the keeper's page, once these entries are added for the actor of a note
abbrev pub entered : {E : Type 0} → List E → KeeperPage E → Note E → KeeperPage E
entered es page note = record { log = es ++ page.log; made = page.made; held = Some record { who = note.who; seen = es ++ page.log } }

-- the keeper adds these entries for the actor whose note it holds, and is told how far that actor has seen, and that
-- each entry then is of an actor that was made
abbrev pub Enters : {E : Type 0} → (E → ℕ) → List E → Me (Unit {0}) (ListView E) → Me (Unit {0}) (ListView E) → Type 0
Enters {E} owner es me after = (page : KeeperPage E) (note : Note E) → me.0 ≡ Keeper page → page.held ≡ Some note
    → (after ≡ (Keeper (entered es page note), me.1)) × Knows owner page.log note.who note.seen × AreBelow owner page.made (es ++ page.log)
