-- The pens are handed in one after another, and at the end what they have taken agrees with the words.
use Rattle.std.proofs.Common.{◌≡◌, ℕ, zero, suc, ◌+◌, ◌<◌, ◌≤◌, List, [], ◌∷◌, ◌++◌, length, get_or, refl, sym, ap, ◌∙◌, subst, arith}
use Rattle.std.proofs.Common.{append_assoc, length-append}
use Rattle.std.specs.Prelude.{All, Contains, slice_index}
use mathlib.Core.Option.{some, some-injective, some-ne-none}
use mathlib.Core.Logic.{dite}
use native.Mathlib.Decide.{ℕ_discrete, dec_le}
use lib.ListN.{get_elem?}
use Rattle.atomic_table.specs.Table.{Me, State, Final, Seen}
use Rattle.atomic_table.specs.declared.shared.Seat.{Seat}
use Rattle.gm_word.specs.declared.view.Line.{Line}
use Rattle.gm_word.specs.declared.view.Count.{Count}
use Rattle.gm_word.specs.declared.view.BookPage.{BookPage}
use Rattle.gm_word.specs.declared.view.WordView.{WordView}
use Rattle.gm_word.specs.declared.view.WordView.TheVariants.{Book, Pen}
use Rattle.gm_word.specs.Lines.{number, owing}
use Rattle.gm_word.specs.Steps.{line_at, with_back, takes_among, pens_among, counts_of, takes_of, Keeps}
use Rattle.gm_word.specs.Seats.{PenState, takes_in, tries_in, SitsAtPen, count_of, AtBook, Settles}
use Rattle.gm_word.proofs.Totals.{total-has, if_same, if_other, none_taken, none_taken_of}
use Rattle.gm_word.proofs.Keeping.{page_is, reached_keeps}
use Rattle.gm_word.proofs.Moves.{IsReached}

abbrev WordSeat : Type 0
WordSeat = Seat (Unit {0}) WordView

-- some of the pens are left, and the others were handed in
pub record HandedSoFar (seat : WordSeat) (lines : List Line) (left all : List PenState) : Type 0 where
  pub handed : List PenState
  pub all_are : all ≡ left ++ handed
  pub book : AtBook seat lines handed

-- what a pen's seat knows is what callers see
pub pen_knows : (seat : WordSeat) (slot : ℕ) (pen : PenState) → SitsAtPen seat slot → record { table = seat.table_id; slot = slot; takes = takes_in seat.me.0; tries = tries_in seat.me.0 } ≡ pen → seat.me.0 ≡ Pen (count_of pen)
pen_knows seat slot pen sits is =
    let at : seat.me.0 ≡ Pen sits.count = ap (λ (m : Me (Unit {0}) WordView). m.0) sits.knows in
    let slots : sits.count.slot ≡ pen.slot = sits.slot_is ∙ ap (λ (p : PenState). p.slot) is in
    let takes : sits.count.takes ≡ pen.takes = sym (ap takes_in at) ∙ ap (λ (p : PenState). p.takes) is in
    let tries : sits.count.tries ≡ pen.tries = sym (ap tries_in at) ∙ ap (λ (p : PenState). p.tries) is in
    at ∙ (λ i. Pen record { slot = slots i; takes = takes i; tries = tries i })

pub at_mid : {A : Type 0} (xs : List A) (y : A) (ys : List A) (d : A) → get_or (xs ++ y ∷ ys) (length xs) d ≡ y
at_mid [] y ys d = refl
at_mid (x ∷ xs) y ys d = at_mid xs y ys d

pub all_mid : {A : Type 0} (P : A → Type 0) (xs : List A) (y : A) (ys : List A) → All P (xs ++ y ∷ ys) → P y
all_mid P xs y ys all = subst P (at_mid xs y ys y) (all (length xs) y (omega (arith, length-append xs (y ∷ ys))))

back_more : (handed : List PenState) (pen : PenState) (back : List Count) → All (λ (p : PenState). Contains back (count_of p)) handed
    → All (λ (p : PenState). Contains (count_of pen ∷ back) (count_of p)) (pen ∷ handed)
back_more handed pen back all zero d low = (0, omega arith, refl)
back_more handed pen back all (suc k) d low = let c = all k d (omega arith) in (suc c.0, omega arith, c.2)

-- the last of the pens that are left is handed in
pub handed_more : (old new : WordSeat) (lines : List Line) (left more all : List PenState) (pen : PenState) → HandedSoFar old lines left all → left ≡ more ++ pen ∷ [] → new.id ≡ old.id
    → new.me ≡ (with_back old.me.0 (Pen (count_of pen)), old.me.1) → HandedSoFar new lines more all
handed_more old new lines left more all pen so_far is id told =
    let book = so_far.book in
    let page = book.page in
    record {
      handed = pen ∷ so_far.handed;
      all_are = so_far.all_are ∙ ap (λ l. l ++ so_far.handed) is ∙ append_assoc more (pen ∷ []) so_far.handed;
      book = record {
        page = record page { back = count_of pen ∷ page.back };
        first = id ∙ book.first;
        knows = told ∙ ap (λ (m : Me (Unit {0}) WordView). (with_back m.0 (Pen (count_of pen)), m.1)) book.knows;
        lines_are = book.lines_are;
        back = back_more so_far.handed pen page.back book.back;
      };
    }

-- the takes of a count that is among some, where none other is of its slot
counted : (counts : List Count) (k : ℕ) (count : Count) → k < length counts → get_or counts k count ≡ count → pens_among count.slot counts ≤ 1
    → (takes_among count.slot counts ≡ count.takes) × (1 ≤ pens_among count.slot counts)
counted [] k count low is one = absurd (omega arith)
counted (x ∷ xs) zero count low is one =
    let slot : x.slot ≡ count.slot = ap (λ (c : Count). c.slot) is in
    let takes : x.takes ≡ count.takes = ap (λ (c : Count). c.takes) is in
    let a = if_same x.slot count.slot x.takes 0 slot in
    let b = if_same x.slot count.slot 1 0 slot in
    let none = none_taken count.slot xs (omega arith) in
    (omega arith, omega arith)
counted (x ∷ xs) (suc k) count low is one =
    let rest = counted xs k count (omega arith) is (omega arith) in
    dite (ℕ_discrete x.slot count.slot)
    (λ same. let b = if_same x.slot count.slot 1 0 same in absurd (omega arith))
    (λ other.
    let a = if_other x.slot count.slot x.takes 0 other in
    let b = if_other x.slot count.slot 1 0 other in
    (omega arith, omega arith))

-- the takes of a pen that was handed in are all that its slot has had
pub all_taken : (words : List ℕ) (views : List WordView) (page : BookPage) (count : Count) → Keeps words views → get_elem? views 0 ≡ some (Book page) → Contains page.back count
    → takes_of count.slot views ≡ count.takes
all_taken words [] page count k at has = absurd (some-ne-none (Book page) (sym at))
all_taken words (v ∷ vs) page count k at has =
    let is : v ≡ Book page = some-injective v (Book page) at in
    let slot : ℕ = count.slot in
    let pens : pens_among slot (counts_of v) ≡ pens_among slot page.back = ap (λ (w : WordView). pens_among slot (counts_of w)) is in
    let takes : takes_among slot (counts_of v) ≡ takes_among slot page.back = ap (λ (w : WordView). takes_among slot (counts_of w)) is in
    let one = k.one_pen slot in
    let here = counted page.back has.0 count has.1 has.2 (omega arith) in
    let first = here.0 in
    let some_pen = here.1 in
    let none = none_taken_of slot vs (omega arith) in
    omega arith

-- the slot of a pen that was handed in has a word
pub slot_inside : (words : List ℕ) (views : List WordView) (page : BookPage) (count : Count) → Keeps words views → get_elem? views 0 ≡ some (Book page) → Contains page.back count
    → count.slot < length words
slot_inside words views page count k at has =
    let slot : ℕ = count.slot in
    let pens = total-has (λ v. pens_among slot (counts_of v)) views 0 (Book page) at in
    let one = k.one_pen slot in
    let here = counted page.back has.0 count has.1 has.2 (omega arith) in
    let some_pen = here.1 in
    dite (dec_le k.page.made slot)
    (λ above. let none = k.no_pen slot above in absurd (omega arith))
    (λ below. let made = k.made in omega arith)

pub settles : (seat : WordSeat) (lines : List Line) (pens : List PenState) (words : List ℕ) (slots : List (Unit {0})) → AtBook seat lines pens → Final (Seen IsReached seat.id seat.me.0) words slots → Settles words lines pens
settles seat lines pens words slots book final =
    let s : State (Unit {0}) WordView = final.0 in
    let page = book.page in
    let k : Keeps s.words s.views = reached_keeps s.words s.views final.1.0 in
    let at : get_elem? s.views 0 ≡ some (Book page) =
    subst (λ (i : ℕ). get_elem? s.views i ≡ some (Book page)) book.first (final.1.1 ∙ ap (λ (m : Me (Unit {0}) WordView). some m.0) book.knows) in
    let is : k.page ≡ page = page_is s.words s.views k page at in
    let lines_is : k.page.lines ≡ lines = ap (λ (p : BookPage). p.lines) is ∙ book.lines_are in
    subst (λ (w : List ℕ). Settles w lines pens) final.2
    (subst (λ (l : List Line). Settles s.words l pens) lines_is
    record {
      views = s.views;
      reached = final.1.0;
      wide = sym k.wide;
      agrees = k.agrees;
      inside = λ i d low. slot_inside s.words s.views page (count_of (get_or pens i d)) k at (book.back i d low);
      counted = λ i d low. all_taken s.words s.views page (count_of (get_or pens i d)) k at (book.back i d low);
    })

-- how a table ends, pen by pen
pub wakes_settled : (words : List ℕ) (lines : List Line) (pens : List PenState) → Settles words lines pens
    → All (λ (pen : PenState). (line_at pen.slot lines).wakes ≡ pen.takes + (line_at pen.slot lines).withdrawals + owing (slice_index words pen.slot)) pens
wakes_settled words lines pens s k d low =
    let pen = get_or pens k d in
    let agrees = s.agrees pen.slot (s.inside k d low) in
    let takes = s.counted k d low in
    let woken = agrees.woken in
    omega arith

pub entries_settled : (words : List ℕ) (lines : List Line) (pens : List PenState) → Settles words lines pens
    → All (λ (pen : PenState). pen.takes + owing (slice_index words pen.slot) ≡ (line_at pen.slot lines).entered + owing (number (line_at pen.slot lines).phase)) pens
entries_settled words lines pens s k d low =
    let pen = get_or pens k d in
    let agrees = s.agrees pen.slot (s.inside k d low) in
    let takes = s.counted k d low in
    let woken = agrees.woken in
    let told = agrees.told in
    omega arith
