-- A seat, and a table that is closed, as callers see them.
use Rattle.std.specs.Prelude.{◌≡◌, ℕ, zero, suc, ◌<◌, List, [], ◌∷◌, ◌++◌, map, length, All, Contains, slice_index}
use Rattle.atomic_table.specs.Seated.{TableId}
use Rattle.atomic_table.specs.declared.shared.Seat.{Seat}
use Rattle.gm_word.specs.declared.phase.Phase.{Phase}
use Rattle.gm_word.specs.declared.phase.Phase.TheVariants.{Owed}
use Rattle.gm_word.specs.declared.view.Line.{Line}
use Rattle.gm_word.specs.declared.view.Count.{Count}
use Rattle.gm_word.specs.declared.view.BookPage.{BookPage}
use Rattle.gm_word.specs.declared.view.WordView.{WordView}
use Rattle.gm_word.specs.declared.view.WordView.TheVariants.{Book, Pen}
use Rattle.gm_word.specs.Lines.{Agrees, with_look}
use Rattle.gm_word.specs.Steps.{line_at, at_slot, Reached, takes_of}

-- the book of a table: a line for each slot
pub record BookState : Type 0 where
  pub table : TableId
  pub lines : List Line

-- the pen of a slot, how many NOOPs it has taken, and how often it has asked for one
pub record PenState : Type 0 where
  pub table : TableId
  pub slot : ℕ
  pub takes : ℕ
  pub tries : ℕ

-- a pen that has asked for nothing
abbrev pub fresh_pen : TableId → ℕ → PenState
fresh_pen table slot = record { table = table; slot = slot; takes = 0; tries = 0 }

-- those of the slots below a number, in their order
abbrev pub fresh_pens : TableId → ℕ → List PenState
fresh_pens table zero = []
fresh_pens table (suc slot) = fresh_pens table slot ++ fresh_pen table slot ∷ []

-- the book, the line of a slot changed
abbrev pub with_line : ℕ → (Line → Line) → BookState → BookState
with_line slot change book = record book { lines = at_slot slot change book.lines }

-- the book after a look that found no NOOP taken: the word was asked only if one is owed
abbrev pub looked_at : Phase → ℕ → BookState → BookState
looked_at Owed slot book = with_line slot with_look book
looked_at other slot book = book

abbrev pub looked : ℕ → BookState → BookState
looked slot book = looked_at (line_at slot book.lines).phase slot book

-- How a table ends: steps of the eight kinds alone have led to its last words; these, the book's lines and the takes of
-- each slot agree; and the takes are what the pens that were given back have counted.
pub record Settles (words : List ℕ) (lines : List Line) (pens : List PenState) : Type 0 where
  pub views : List WordView
  pub reached : Reached words views
  pub wide : length words ≡ length lines
  pub agrees : (slot : ℕ) → slot < length words → Agrees (slice_index words slot) (line_at slot lines) (takes_of slot views)
  pub inside : All (λ (pen : PenState). pen.slot < length words) pens
  pub counted : All (λ (pen : PenState). takes_of pen.slot views ≡ pen.takes) pens

-- the lines of a book's view, and the takes and tries of a pen's
abbrev pub lines_of : WordView → List Line
lines_of (Book page) = page.lines
lines_of view = []

abbrev pub takes_in : WordView → ℕ
takes_in (Pen count) = count.takes
takes_in view = 0

abbrev pub tries_in : WordView → ℕ
tries_in (Pen count) = count.tries
tries_in view = 0

-- the seat is the first, which is the book's, and these are its phases
pub record SitsAtBook (seat : Seat (Unit {0}) WordView) (phases : List Phase) : Type 0 where
  pub page : BookPage
  pub first : seat.id ≡ 0
  pub knows : seat.me ≡ (Book page, [])
  pub wide : length page.lines ≡ seat.table_id.words
  pub phases_are : phases ≡ map (λ (line : Line). line.phase) page.lines

-- the seat is a pen's, of this slot
pub record SitsAtPen (seat : Seat (Unit {0}) WordView) (slot : ℕ) : Type 0 where
  pub count : Count
  pub knows : seat.me ≡ (Pen count, [])
  pub slot_is : count.slot ≡ slot
  pub inside : slot < seat.table_id.words

-- the counts of a pen
abbrev pub count_of : PenState → Count
count_of pen = record { slot = pen.slot; takes = pen.takes; tries = pen.tries }

-- the seat is the book's, with these lines, and these pens are among those that were handed in
pub record AtBook (seat : Seat (Unit {0}) WordView) (lines : List Line) (pens : List PenState) : Type 0 where
  pub page : BookPage
  pub first : seat.id ≡ 0
  pub knows : seat.me ≡ (Book page, [])
  pub lines_are : page.lines ≡ lines
  pub back : All (λ (pen : PenState). Contains page.back (count_of pen)) pens
