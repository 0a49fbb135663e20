-- Each call makes a step of its kind, and no other: what the table asks before it.
use Rattle.std.proofs.Common.{◌≡◌, ℕ, ◌<◌, List, [], ◌∷◌, ◌++◌, length, set, refl, sym, ap, ◌∙◌, subst, arith}
use Rattle.std.specs.Prelude.{slice_index, slice_set}
use mathlib.Core.Option.{some}
use mathlib.Core.Logic.{dite}
use native.Mathlib.Decide.{dec_le}
use lib.ListN.{get_elem?}
use Rattle.atomic_table.specs.Table.{State, Me, keeps, stepped, carried_after, Allows, Splits, Joins}
use Rattle.atomic_table.proofs.Lists.{set_else}
use Rattle.gm_word.specs.declared.phase.Phase.{Phase}
use Rattle.gm_word.specs.declared.phase.Phase.TheVariants.{Awake, Asleep, Owed}
use Rattle.gm_word.specs.declared.view.Count.{Count}
use Rattle.gm_word.specs.declared.view.BookPage.{BookPage}
use Rattle.gm_word.specs.declared.view.WordView.{WordView}
use Rattle.gm_word.specs.declared.view.WordView.TheVariants.{Book, Pen, Spent}
use Rattle.gm_word.specs.Lines.{number, cleared, Agrees, Kind, phase_for, word_after, kind_to}
use Rattle.gm_word.specs.Steps.{line_at, book_after, pen_after, with_next_pen, next_pen, with_back, books, takes, splits, joins, Reached}
use Rattle.gm_word.specs.Steps.{steps, takes_of, pens_among, counts_of, Keeps}
use Rattle.gm_word.proofs.Totals.{total-has, if_same}
use Rattle.gm_word.proofs.LineSteps.{finds}
use Rattle.gm_word.proofs.Keeping.{page_is, reached_keeps}

abbrev pub Sat : Type 0
Sat = Me (Unit {0}) WordView

abbrev pub IsReached : State (Unit {0}) WordView → Type 0
IsReached s = Reached s.words s.views

-- the first seat knows the page
first_knows : (views : List WordView) (id : ℕ) (me : Sat) (page : BookPage) → id ≡ 0 → me ≡ (Book page, []) → get_elem? views id ≡ some me.0 → get_elem? views 0 ≡ some (Book page)
first_knows views id me page first knows at = subst (λ (i : ℕ). get_elem? views i ≡ some (Book page)) first (at ∙ ap (λ (m : Sat). some m.0) knows)

pub book_moves : (kind : Kind) (slots slot id : ℕ) (page : BookPage) (me : Sat) → id ≡ 0 → me ≡ (Book page, []) → slot < length page.lines
    → (line_at slot page.lines).phase ≡ phase_for kind
    → Allows IsReached slots id me slot (word_after kind) (λ found after. (p : BookPage) → me.0 ≡ Book p → after ≡ (book_after kind slot found p, me.1))
book_moves kind slots slot id page me first knows low phase s reached _ at _ =
    let k : Keeps s.words s.views = reached_keeps s.words s.views reached in
    let book : get_elem? s.views 0 ≡ some (Book page) = first_knows s.views id me page first knows at in
    let is : k.page ≡ page = page_is s.words s.views k page book in
    let wide : length page.lines ≡ length s.words = ap (λ (p : BookPage). length p.lines) (sym is) ∙ k.wide in
    let low' : slot < length s.words = omega arith in
    let word : ℕ = slice_index s.words slot in
    let agrees : Agrees word (line_at slot page.lines) (takes_of slot s.views) =
    subst (λ (p : BookPage). Agrees word (line_at slot p.lines) (takes_of slot s.views)) is (k.agrees slot low') in
    let found = finds kind word (line_at slot page.lines) (takes_of slot s.views) agrees phase in
    let after : WordView = book_after kind slot word page in
    let one = steps s.words s.views _ _ reached (books kind slot page book low' phase found) in (
      after,
      keeps,
      tt,
      subst (λ (i : ℕ). Reached (set s.words slot (word_after kind word)) (set s.views i after)) (sym first) one,
      λ p is_p. let same : Book page ≡ Book p = sym (ap (λ (m : Sat). m.0) knows) ∙ is_p in let pages : page ≡ p = cc in ap (λ (q : BookPage). (book_after kind slot word q, me.1)) pages,
    )

-- a swap makes the step that writes the word of its phase
number_apart : (phase other : Phase) → number phase ≡ number other → phase ≡ other
number_apart Awake Awake is = refl
number_apart Awake Asleep is = absurd (omega arith)
number_apart Awake Owed is = absurd (omega arith)
number_apart Asleep Awake is = absurd (omega arith)
number_apart Asleep Asleep is = refl
number_apart Asleep Owed is = absurd (omega arith)
number_apart Owed Awake is = absurd (omega arith)
number_apart Owed Asleep is = absurd (omega arith)
number_apart Owed Owed is = refl

word_to : (phase : Phase) (found : ℕ) → word_after (kind_to phase) found ≡ number phase
word_to Awake found = refl
word_to Asleep found = refl
word_to Owed found = refl

pub swap_moves : (phase : Phase) (word slots slot id : ℕ) (page : BookPage) (me : Sat) → word ≡ number phase → id ≡ 0 → me ≡ (Book page, [])
    → slot < length page.lines → (line_at slot page.lines).phase ≡ phase_for (kind_to phase)
    → Allows IsReached slots id me slot (λ _. word)
    (λ found after. (other : Phase) → word ≡ number other → (p : BookPage) → me.0 ≡ Book p → after ≡ (book_after (kind_to other) slot found p, me.1))
swap_moves phase word slots slot id page me word_is first knows low at s reached homes there small =
    let m = book_moves (kind_to phase) slots slot id page me first knows low at s reached homes there small in
    let found : ℕ = slice_index s.words slot in (
      m.0,
      m.1,
      m.2,
      subst (λ (n : ℕ). IsReached (stepped s slot n id me.1 m.0 m.1)) (word_to phase found ∙ sym word_is) m.3,
      λ other is p is_p.
          subst (λ (q : Phase). ◌≡◌ {A = Sat} (m.0, carried_after me.1 m.1) (book_after (kind_to q) slot found p, me.1)) (number_apart phase other (sym word_is ∙ is)) (m.4 p is_p),
    )

-- the slot of a pen has a word
pen_low : (words : List ℕ) (views : List WordView) (k : Keeps words views) (seat : ℕ) (count : Count) → get_elem? views seat ≡ some (Pen count) → count.slot < length words
pen_low words views k seat count at =
    dite (dec_le k.page.made count.slot)
    (λ above.
    let none = k.no_pen count.slot above in
    let one = if_same count.slot count.slot 1 0 refl in
    let has = total-has (λ v. pens_among count.slot (counts_of v)) views seat (Pen count) at in
    absurd (omega arith))
    (λ below. let made = k.made in omega arith)

pub pen_moves : (slots slot id : ℕ) (count : Count) (me : Sat) → me ≡ (Pen count, []) → count.slot ≡ slot
    → Allows IsReached slots id me slot cleared (λ found after. (c : Count) → me.0 ≡ Pen c → after ≡ (pen_after found c, me.1))
pen_moves slots slot id count me knows slot_is s reached _ at _ =
    let k : Keeps s.words s.views = reached_keeps s.words s.views reached in
    let pen : get_elem? s.views id ≡ some (Pen count) = at ∙ ap (λ (m : Sat). some m.0) knows in
    let word : ℕ = slice_index s.words slot in
    let after : WordView = pen_after word count in
    let one = steps s.words s.views _ _ reached (takes id count pen (pen_low s.words s.views k id count pen)) in (
      after,
      keeps,
      tt,
      subst (λ (i : ℕ). Reached (set s.words i (cleared (slice_index s.words i))) (set s.views id (pen_after (slice_index s.words i) count))) slot_is one,
      λ c is_c. let same : Pen count ≡ Pen c = sym (ap (λ (m : Sat). m.0) knows) ∙ is_c in let counts : count ≡ c = cc in ap (λ (q : Count). (pen_after word q, me.1)) counts,
    )

pub split_moves : (id : ℕ) (page : BookPage) (me : Sat) → id ≡ 0 → me ≡ (Book page, []) → page.made < length page.lines
    → Splits IsReached id me.0 (with_next_pen me.0) (next_pen me.0)
split_moves id page me first knows low s reached at =
    let k : Keeps s.words s.views = reached_keeps s.words s.views reached in
    let book : get_elem? s.views 0 ≡ some (Book page) = first_knows s.views id me page first knows at in
    let is : k.page ≡ page = page_is s.words s.views k page book in
    let wide : length page.lines ≡ length s.words = ap (λ (p : BookPage). length p.lines) (sym is) ∙ k.wide in
    let one = steps s.words s.views _ _ reached (splits page book (omega arith)) in
    subst (λ (z : ℕ × WordView). Reached s.words (slice_set s.views z.0 (with_next_pen z.1) ++ next_pen z.1 ∷ [])) (λ i. (sym first i, sym (ap (λ (m : Sat). m.0) knows) i)) one

pub join_moves : (id other : ℕ) (page : BookPage) (count : Count) (me you : Sat) → id ≡ 0 → me ≡ (Book page, []) → you ≡ (Pen count, [])
    → Joins IsReached id me.0 other you.0 (with_back me.0 you.0) Spent
join_moves id other page count me you first knows known s reached at apart there =
    let book : get_elem? s.views 0 ≡ some (Book page) = first_knows s.views id me page first knows at in
    let pen : get_elem? s.views other ≡ some (Pen count) = sym (set_else s.views id other (with_back me.0 you.0) apart) ∙ there ∙ ap (λ (m : Sat). some m.0) known in
    let one = steps s.words s.views _ _ reached (joins other page count book pen) in
    subst (λ (z : ℕ × WordView × WordView). Reached s.words (slice_set (slice_set s.views z.0 (with_back z.1 z.2)) other Spent))
    (λ i. (sym first i, sym (ap (λ (m : Sat). m.0) knows) i, sym (ap (λ (m : Sat). m.0) known) i)) one
