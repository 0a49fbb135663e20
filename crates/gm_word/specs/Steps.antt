-- A table of sleep words: its words, and what the seats know. The eight kinds of step, and the rule that they keep.
use Rattle.std.specs.Prelude.{◌≡◌, ℕ, ◌+◌, ◌<◌, ◌≤◌, ◌==◌, if◌then◌else◌, List, [], ◌∷◌, ◌++◌, length, replicate, slice_index}
use Rattle.std.specs.Prelude.{slice_index_or, slice_set}
use mathlib.Core.Option.{some}
use lib.ListN.{get_elem?}
use Rattle.atomic_table.specs.Table.{Me, Step as Operands}
use Rattle.gm_word.specs.declared.phase.Phase.{Phase}
use Rattle.gm_word.specs.declared.view.Line.{Line}
use Rattle.gm_word.specs.declared.view.Count.{Count}
use Rattle.gm_word.specs.declared.view.BookPage.{BookPage}
use Rattle.gm_word.specs.declared.view.WordView.{WordView}
use Rattle.gm_word.specs.declared.view.WordView.TheVariants.{Book, Pen, Spent}
use Rattle.gm_word.specs.Lines.{number, fresh_line, owing, cleared, Agrees, Kind, phase_for, Finds, word_after, line_after, kind_to}

-- the line of a slot
abbrev pub line_at : ℕ → List Line → Line
line_at slot lines = slice_index_or lines slot fresh_line

-- the lines, that of a slot changed
abbrev pub at_slot : ℕ → (Line → Line) → List Line → List Line
at_slot slot change lines = slice_set lines slot (change (line_at slot lines))

-- the one seat that a new table has: the book, for this number of slots
abbrev pub opening_view : ℕ → WordView
opening_view slots = Book record { lines = replicate slots fresh_line; made = 0; back = [] }

-- the book's knowledge after a step of its own, by the word that it found
abbrev pub book_after : Kind → ℕ → ℕ → BookPage → WordView
book_after kind slot found page = Book record page { lines = at_slot slot (line_after kind found) page.lines }

-- one try more, and one take more if the NOOP was there
abbrev pub pen_after : ℕ → Count → WordView
pen_after found count = Pen record count { takes = count.takes + owing found; tries = count.tries + 1 }

-- the book gives a pen to the first slot without one
abbrev pub with_next_pen : WordView → WordView
with_next_pen (Book page) = Book record page { made = page.made + 1 }
with_next_pen view = view

abbrev pub next_pen : WordView → WordView
next_pen (Book page) = Pen record { slot = page.made; takes = 0; tries = 0 }
next_pen view = Spent

-- the book takes in what a pen has counted
abbrev pub with_back : WordView → WordView → WordView
with_back (Book page) (Pen count) = Book record page { back = count ∷ page.back }
with_back view other = view

-- One atomic step, of one of the eight kinds: five that the book makes at a slot, and three more.
pub data Step (words : List ℕ) (views : List WordView) : List ℕ → List WordView → Type 0 where
  -- sleep, wake, stir, withdraw, look: the first seat is the book's
  books : (kind : Kind) (slot : ℕ) (page : BookPage) → get_elem? views 0 ≡ some (Book page) → slot < length words
      → (line_at slot page.lines).phase ≡ phase_for kind → Finds kind (slice_index words slot)
      → Step words views (slice_set words slot (word_after kind (slice_index words slot))) (slice_set views 0 (book_after kind slot (slice_index words slot) page))
  -- a pen tries once to turn 2 into 0 in the word of its slot
  takes : (seat : ℕ) (count : Count) → get_elem? views seat ≡ some (Pen count) → count.slot < length words
      → Step words views (slice_set words count.slot (cleared (slice_index words count.slot))) (slice_set views seat (pen_after (slice_index words count.slot) count))
  -- the first slot without a pen is given one, which has taken nothing
  splits : (page : BookPage) → get_elem? views 0 ≡ some (Book page) → page.made < length words
      → Step words views words (slice_set views 0 (with_next_pen (Book page)) ++ next_pen (Book page) ∷ [])
  -- a pen is given back: the book has its takes, and its seat knows nothing more
  joins : (seat : ℕ) (page : BookPage) (count : Count) → get_elem? views 0 ≡ some (Book page) → get_elem? views seat ≡ some (Pen count)
      → Step words views words (slice_set (slice_set views 0 (with_back (Book page) (Pen count))) seat Spent)

-- the words and views to which steps lead from the opening of a table, whatever the threads do
pub data Reached : List ℕ → List WordView → Type 0 where
  opens : (slots : ℕ) → Reached (replicate slots 0) (opening_view slots ∷ [])
  steps : (words : List ℕ) (views : List WordView) (next : List ℕ) (after : List WordView) → Reached words views → Step words views next after → Reached next after

-- the takes of a slot among some counts, and how many counts are of that slot
abbrev pub takes_among : ℕ → List Count → ℕ
takes_among slot [] = 0
takes_among slot (count ∷ counts) = (if count.slot == slot then count.takes else 0) + takes_among slot counts

abbrev pub pens_among : ℕ → List Count → ℕ
pens_among slot [] = 0
pens_among slot (count ∷ counts) = (if count.slot == slot then 1 else 0) + pens_among slot counts

-- the counts that a view holds: a pen's is its own, and the book has those that were given back
abbrev pub counts_of : WordView → List Count
counts_of (Book page) = page.back
counts_of (Pen count) = count ∷ []
counts_of Spent = []

-- f of each view, added up
abbrev pub total : (WordView → ℕ) → List WordView → ℕ
total f [] = 0
total f (view ∷ views) = f view + total f views

-- how often a NOOP of the slot was taken, and how many pens the slot has had
abbrev pub takes_of : ℕ → List WordView → ℕ
takes_of slot views = total (λ view. takes_among slot (counts_of view)) views

abbrev pub pens_of : ℕ → List WordView → ℕ
pens_of slot views = total (λ view. pens_among slot (counts_of view)) views

-- The word rule: for each slot the word, the book's line and the takes agree, and a slot has at most one pen.
pub record Keeps (words : List ℕ) (views : List WordView) : Type 0 where
  pub page : BookPage
  pub book : get_elem? views 0 ≡ some (Book page)
  pub wide : length page.lines ≡ length words
  pub agrees : (slot : ℕ) → slot < length words → Agrees (slice_index words slot) (line_at slot page.lines) (takes_of slot views)
  pub one_pen : (slot : ℕ) → pens_of slot views ≤ 1
  pub no_pen : (slot : ℕ) → page.made ≤ slot → pens_of slot views ≡ 0
  pub made : page.made ≤ length words

-- a step of the book tells it what it knows then
abbrev pub Tells : Kind → Operands (Unit {0}) → Me (Unit {0}) WordView → ℕ → Me (Unit {0}) WordView → Type 0
Tells kind step before found after = (page : BookPage) → before.0 ≡ Book page → after ≡ (book_after kind step.word found page, before.1)

-- a swap of the book tells it of the phase whose word it wrote
abbrev pub TellsSwap : Operands (Unit {0}) → Me (Unit {0}) WordView → ℕ → Me (Unit {0}) WordView → Type 0
TellsSwap step before found after = (phase : Phase) → step.first ≡ number phase → Tells (kind_to phase) step before found after

-- and a take tells the pen whether it got the NOOP
abbrev pub TellsPen : Operands (Unit {0}) → Me (Unit {0}) WordView → ℕ → Me (Unit {0}) WordView → Type 0
TellsPen step before found after = (count : Count) → before.0 ≡ Pen count → after ≡ (pen_after found count, before.1)
