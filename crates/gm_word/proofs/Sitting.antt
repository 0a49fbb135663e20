-- The book's seat after a step.
use Rattle.std.proofs.Common.{◌≡◌, ◌≢◌, ℕ, zero, suc, ◌<◌, List, ◌∷◌, map, length, get_or, replicate, refl, sym, ap, ◌∙◌, subst}
use Rattle.std.proofs.Common.{length-set, ne_eqb}
use Rattle.std.specs.Prelude.{slice_set}
use Rattle.std.proofs.lemmas.List.{set-get_or, get_or-map}
use lib.Seq.{map-set}
use mathlib.Core.Logic.{dite}
use native.Mathlib.Decide.{ℕ_discrete}
use Rattle.atomic_table.specs.Table.{Me}
use Rattle.atomic_table.specs.declared.shared.Seat.{Seat}
use Rattle.gm_word.specs.declared.phase.Phase.{Phase}
use Rattle.gm_word.specs.declared.phase.Phase.TheVariants.{Awake, Asleep, Owed}
use Rattle.gm_word.specs.declared.view.Line.{Line}
use Rattle.gm_word.specs.declared.view.BookPage.{BookPage}
use Rattle.gm_word.specs.declared.view.WordView.{WordView}
use Rattle.gm_word.specs.declared.view.WordView.TheVariants.{Book}
use Rattle.gm_word.specs.Lines.{Kind, withdraw, look, line_after, kind_to, line_to, fresh_line, with_look}
use Rattle.gm_word.specs.Steps.{line_at, book_after}
use Rattle.gm_word.specs.Seats.{BookState, with_line, lines_of, looked, looked_at, SitsAtBook}

abbrev pub WordSeat : Type 0
WordSeat = Seat (Unit {0}) WordView

pub map-replicate : {A B : Type 0} (f : A → B) (n : ℕ) (x : A) → map f (replicate n x) ≡ replicate n (f x)
map-replicate f zero x = refl
map-replicate f (suc n) x = ap (λ l. f x ∷ l) (map-replicate f n x)

-- the book's seat after a step at a slot, the phase beside it set
pub sits_after : (kind : Kind) (slot found : ℕ) (old new : WordSeat) (phases : List Phase) (phase : Phase) → (sits : SitsAtBook old phases) → new.table_id ≡ old.table_id → new.id ≡ old.id
    → ((page : BookPage) → old.me.0 ≡ Book page → new.me ≡ (book_after kind slot found page, old.me.1))
    → ((line : Line) → (line_after kind found line).phase ≡ phase) → SitsAtBook new (slice_set phases slot phase)
sits_after kind slot found old new phases phase sits table id told phase_is =
    let page = sits.page in
    let line : Line = line_after kind found (line_at slot page.lines) in
    record {
      page = record page { lines = slice_set page.lines slot line };
      first = id ∙ sits.first;
      knows = told page (ap (λ (m : Me (Unit {0}) WordView). m.0) sits.knows) ∙ ap (λ (m : Me (Unit {0}) WordView). (book_after kind slot found page, m.1)) sits.knows;
      wide = length-set page.lines slot line ∙ sits.wide ∙ ap (λ t. t.words) (sym table);
      phases_are = ap (λ (l : List Phase). slice_set l slot phase) sits.phases_are
          ∙ ap (λ (p : Phase). slice_set (map (λ (x : Line). x.phase) page.lines) slot p) (sym (phase_is (line_at slot page.lines)))
          ∙ sym (map-set (λ (x : Line). x.phase) page.lines slot line);
    }

-- what a swap makes of a line, whatever word it found
swapped : (phase : Phase) (found : ℕ) (line : Line) → line_after (kind_to phase) found line ≡ line_to phase line
swapped Awake found line = refl
swapped Asleep found line = refl
swapped Owed found line = refl

swapped_phase : (phase : Phase) (line : Line) → (line_to phase line).phase ≡ phase
swapped_phase Awake line = refl
swapped_phase Asleep line = refl
swapped_phase Owed line = refl

pub phase_after_swap : (phase : Phase) (found : ℕ) (line : Line) → (line_after (kind_to phase) found line).phase ≡ phase
phase_after_swap phase found line = ap (λ (l : Line). l.phase) (swapped phase found line) ∙ swapped_phase phase line

-- what callers see of the book after a swap
pub sees_swap : (phase : Phase) (slot found : ℕ) (old new : WordSeat) (phases : List Phase) (book : BookState) → SitsAtBook old phases
    → record { table = old.table_id; lines = lines_of old.me.0 } ≡ book → new.table_id ≡ old.table_id
    → ((page : BookPage) → old.me.0 ≡ Book page → new.me ≡ (book_after (kind_to phase) slot found page, old.me.1))
    → record { table = new.table_id; lines = lines_of new.me.0 } ≡ with_line slot (line_to phase) book
sees_swap phase slot found old new phases book sits saw table told =
    let page = sits.page in
    let at : old.me.0 ≡ Book page = ap (λ (m : Me (Unit {0}) WordView). m.0) sits.knows in
    let line : Line = line_at slot page.lines in
    let lines : lines_of new.me.0 ≡ slice_set page.lines slot (line_to phase line) =
    ap (λ (m : Me (Unit {0}) WordView). lines_of m.0) (told page at) ∙ ap (λ (l : Line). slice_set page.lines slot l) (swapped phase found line) in
    let was : book.lines ≡ page.lines = sym (ap (λ (b : BookState). b.lines) saw) ∙ ap lines_of at in
    let same : new.table_id ≡ book.table = table ∙ ap (λ (b : BookState). b.table) saw in
    (λ i. record { table = same i; lines = (lines ∙ sym (ap (λ (l : List Line). slice_set l slot (line_to phase (line_at slot l))) was)) i })

-- the phase beside the seat is that of the line
pub phase_beside : (phases : List Phase) (lines : List Line) (slot : ℕ) (phase : Phase) → phases ≡ map (λ (line : Line). line.phase) lines → slot < length lines → phase ≡ get_or phases slot phase
    → (line_at slot lines).phase ≡ phase
phase_beside phases lines slot phase are low is =
    sym (get_or-map (λ (line : Line). line.phase) lines slot fresh_line phase low) ∙ ap (λ (l : List Phase). get_or l slot phase) (sym are) ∙ sym is

-- both ends of a withdrawal, and a look that finds the NOOP taken, leave the slot awake
pub awake_after_withdrawal : (found : ℕ) (line : Line) → (line_after withdraw found line).phase ≡ Awake
awake_after_withdrawal found line =
    dite (ℕ_discrete found 2)
    (λ same. subst (λ (x : ℕ). (line_after withdraw x line).phase ≡ Awake) (sym same) refl)
    (λ other. rw (ne_eqb found 2 other) refl)

pub awake_after_look : (found : ℕ) (line : Line) → found ≢ 2 → (line_after look found line).phase ≡ Awake
awake_after_look found line other = rw (ne_eqb found 2 other) refl

-- a look that finds the NOOP still owed leaves each phase
pub sits_looked : (slot found : ℕ) (old new : WordSeat) (phases : List Phase) → (sits : SitsAtBook old phases) → slot < length sits.page.lines → new.table_id ≡ old.table_id → new.id ≡ old.id
    → ((page : BookPage) → old.me.0 ≡ Book page → new.me ≡ (book_after look slot found page, old.me.1)) → found ≡ 2 → SitsAtBook new phases
sits_looked slot found old new phases sits low table id told owed =
    let page = sits.page in
    let phase_in = λ (x : Line). x.phase in
    let line : Line = with_look (line_at slot page.lines) in
    record {
      page = record page { lines = slice_set page.lines slot line };
      first = id ∙ sits.first;
      knows = told page (ap (λ (m : Me (Unit {0}) WordView). m.0) sits.knows) ∙ ap (λ (n : ℕ). (book_after look slot n page, old.me.1)) owed
          ∙ ap (λ (m : Me (Unit {0}) WordView). (book_after look slot 2 page, m.1)) sits.knows;
      wide = length-set page.lines slot line ∙ sits.wide ∙ ap (λ t. t.words) (sym table);
      phases_are = sits.phases_are
          ∙ sym (set-get_or (map phase_in page.lines) slot Awake)
          ∙ ap (λ (p : Phase). slice_set (map phase_in page.lines) slot p) (get_or-map phase_in page.lines slot fresh_line Awake low)
          ∙ sym (map-set phase_in page.lines slot line);
    }

-- what callers see of the book then
pub sees_look : (slot found : ℕ) (old new : WordSeat) (phases : List Phase) (book : BookState) → (sits : SitsAtBook old phases)
    → record { table = old.table_id; lines = lines_of old.me.0 } ≡ book → (line_at slot sits.page.lines).phase ≡ Owed → new.table_id ≡ old.table_id
    → ((page : BookPage) → old.me.0 ≡ Book page → new.me ≡ (book_after look slot found page, old.me.1)) → found ≡ 2
    → record { table = new.table_id; lines = lines_of new.me.0 } ≡ looked slot book
sees_look slot found old new phases book sits saw is table told owed =
    let page = sits.page in
    let at : old.me.0 ≡ Book page = ap (λ (m : Me (Unit {0}) WordView). m.0) sits.knows in
    let lines : lines_of new.me.0 ≡ slice_set page.lines slot (with_look (line_at slot page.lines)) =
    ap (λ (m : Me (Unit {0}) WordView). lines_of m.0) (told page at) ∙ ap (λ (n : ℕ). lines_of (book_after look slot n page)) owed in
    let was : book.lines ≡ page.lines = sym (ap (λ (b : BookState). b.lines) saw) ∙ ap lines_of at in
    let same : new.table_id ≡ book.table = table ∙ ap (λ (b : BookState). b.table) saw in
    let with : record { table = new.table_id; lines = lines_of new.me.0 } ≡ with_line slot with_look book =
    (λ i. record { table = same i; lines = (lines ∙ sym (ap (λ (l : List Line). slice_set l slot (with_look (line_at slot l))) was)) i }) in
    with ∙ ap (λ (p : Phase). looked_at p slot book) (sym is ∙ ap (λ (l : List Line). (line_at slot l).phase) (sym was))

-- a look at a slot that is owed none asks no word
pub looked_none : (slot : ℕ) (book : BookState) → ((line_at slot book.lines).phase ≡ Owed → ⊥) → looked slot book ≡ book
looked_none slot book none = by (line_at slot book.lines).phase refl
  where
    by : (p : Phase) → (line_at slot book.lines).phase ≡ p → looked_at p slot book ≡ book
    by Awake e = refl
    by Asleep e = refl
    by Owed e = absurd (none e)
