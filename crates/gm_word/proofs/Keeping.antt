-- Each kind of step keeps the word rule.
use Rattle.std.proofs.Common.{◌≡◌, ◌≢◌, ℕ, ◌+◌, ◌<◌, ◌≤◌, List, [], ◌∷◌, ◌++◌, length, set, replicate, refl, sym, ap, ◌∙◌, subst, arith}
use Rattle.std.proofs.Common.{length-set, get_or-set_same, get_or-set_other}
use Rattle.std.specs.Prelude.{slice_index, slice_set}
use Rattle.std.proofs.lemmas.List.{get_or-replicate, length-replicate, set-get_or}
use mathlib.Core.Option.{some, some-injective}
use mathlib.Core.Logic.{dite}
use native.Mathlib.Decide.{ℕ_discrete}
use lib.ListN.{get_elem?}
use Rattle.atomic_table.proofs.Lists.{set_here, set_else, at_longer}
use Rattle.gm_word.specs.declared.view.Line.{Line}
use Rattle.gm_word.specs.declared.view.Count.{Count}
use Rattle.gm_word.specs.declared.view.BookPage.{BookPage}
use Rattle.gm_word.specs.declared.view.WordView.{WordView}
use Rattle.gm_word.specs.declared.view.WordView.TheVariants.{Book, Pen, Spent}
use Rattle.gm_word.specs.Lines.{fresh_line, owing, cleared, Agrees, Kind, phase_for, Finds, word_after, line_after}
use Rattle.gm_word.specs.Steps.{line_at, at_slot, opening_view, book_after, pen_after, with_next_pen, next_pen, with_back, Step, books}
use Rattle.gm_word.specs.Steps.{takes, splits, joins, Reached, opens, steps, takes_among, pens_among, counts_of, total, takes_of, pens_of}
use Rattle.gm_word.specs.Steps.{Keeps}
use Rattle.gm_word.proofs.Totals.{inside, total-set, total-push, if_same, if_other}
use Rattle.gm_word.proofs.LineSteps.{step_agrees, taken, fresh_agrees}

-- the book's page is one
pub page_is : (words : List ℕ) (views : List WordView) (k : Keeps words views) (page : BookPage) → get_elem? views 0 ≡ some (Book page) → k.page ≡ page
page_is words views k page at = let same : some (Book k.page) ≡ some (Book page) = sym k.book ∙ at in cc

-- a pen's seat isn't the book's
pub pen_apart : (words : List ℕ) (views : List WordView) (k : Keeps words views) (seat : ℕ) (count : Count) → get_elem? views seat ≡ some (Pen count) → 0 ≢ seat
pen_apart words views k seat count at is =
    let same : some (Book k.page) ≡ some (Pen count) = sym k.book ∙ subst (λ (i : ℕ). get_elem? views i ≡ some (Pen count)) (sym is) at in
    let differ : Book k.page ≡ Pen count = some-injective (Book k.page) (Pen count) same in
    cc

-- what holds of a slot's word and line, after a change at one slot
changed : (words : List ℕ) (lines : List Line) (slot : ℕ) (word : ℕ) (line : Line) (before after : ℕ → ℕ) → length lines ≡ length words
    → ((j : ℕ) → j < length words → Agrees (slice_index words j) (line_at j lines) (before j))
    → (slot < length words → Agrees word line (after slot)) → ((j : ℕ) → j ≢ slot → after j ≡ before j)
    → (j : ℕ) → j < length (slice_set words slot word) → Agrees (slice_index (slice_set words slot word) j) (line_at j (slice_set lines slot line)) (after j)
changed words lines slot word line before after wide all here others j low =
    let low' : j < length words = omega (arith, length-set words slot word) in
    dite (ℕ_discrete j slot)
    (λ same.
    let at : slot < length words = omega arith in
    let at' : slot < length lines = omega arith in
    subst (λ (i : ℕ). Agrees (slice_index (slice_set words slot word) i) (line_at i (slice_set lines slot line)) (after i)) (sym same)
    (rw (get_or-set_same words slot word 0 at, get_or-set_same lines slot line fresh_line at') (here at)))
    (λ other. rw (get_or-set_other words slot j word 0 other, get_or-set_other lines slot j line fresh_line other, others j other) (all j low'))

-- a view's change that leaves the counts leaves the totals
same_total : (f : WordView → ℕ) (views : List WordView) (seat : ℕ) (v w : WordView) → get_elem? views seat ≡ some v → f w ≡ f v → total f (set views seat w) ≡ total f views
same_total f views seat v w at same = let t = total-set f views seat v w at in omega arith

books_keep : (words : List ℕ) (views : List WordView) (kind : Kind) (slot : ℕ) (page : BookPage) → Keeps words views → get_elem? views 0 ≡ some (Book page) → slot < length words
    → (line_at slot page.lines).phase ≡ phase_for kind → Finds kind (slice_index words slot)
    → Keeps (slice_set words slot (word_after kind (slice_index words slot))) (slice_set views 0 (book_after kind slot (slice_index words slot) page))
books_keep words views kind slot page k at low phase found =
    let word : ℕ = slice_index words slot in
    let is : k.page ≡ page = page_is words views k page at in
    let wide : length page.lines ≡ length words = ap (λ (p : BookPage). length p.lines) (sym is) ∙ k.wide in
    let after : WordView = book_after kind slot word page in
    let takes_same : (j : ℕ) → takes_of j (set views 0 after) ≡ takes_of j views = λ j. same_total (λ v. takes_among j (counts_of v)) views 0 (Book page) after at refl in
    let pens_same : (j : ℕ) → pens_of j (set views 0 after) ≡ pens_of j views = λ j. same_total (λ v. pens_among j (counts_of v)) views 0 (Book page) after at refl in
    let all : (j : ℕ) → j < length words → Agrees (slice_index words j) (line_at j page.lines) (takes_of j views) =
    subst (λ (p : BookPage). (j : ℕ) → j < length words → Agrees (slice_index words j) (line_at j p.lines) (takes_of j views)) is k.agrees in
    record {
      page = record page { lines = at_slot slot (line_after kind word) page.lines };
      book = set_here views 0 after (inside views 0 (Book page) at);
      wide = length-set page.lines slot (line_after kind word (line_at slot page.lines)) ∙ wide ∙ sym (length-set words slot (word_after kind word));
      agrees = changed words page.lines slot (word_after kind word) (line_after kind word (line_at slot page.lines)) (λ j. takes_of j views) (λ j. takes_of j (set views 0 after)) wide all
          (λ _. rw (takes_same slot) (step_agrees kind word (line_at slot page.lines) (takes_of slot views) (all slot low) phase found))
          (λ j _. takes_same j);
      one_pen = λ j. rw (pens_same j) (k.one_pen j);
      no_pen = λ j above. pens_same j ∙ k.no_pen j (subst (λ (p : BookPage). p.made ≤ j) (sym is) above);
      made = subst (λ (p : BookPage). p.made ≤ length (set words slot (word_after kind word))) is (let m = k.made in omega (arith, length-set words slot (word_after kind word)));
    }

takes_keep : (words : List ℕ) (views : List WordView) (seat : ℕ) (count : Count) → Keeps words views → get_elem? views seat ≡ some (Pen count) → count.slot < length words
    → Keeps (slice_set words count.slot (cleared (slice_index words count.slot))) (slice_set views seat (pen_after (slice_index words count.slot) count))
takes_keep words views seat count k at low =
    let slot : ℕ = count.slot in
    let word : ℕ = slice_index words slot in
    let after : WordView = pen_after word count in
    let apart : 0 ≢ seat = pen_apart words views k seat count at in
    let sum = λ (j : ℕ). total-set (λ v. takes_among j (counts_of v)) views seat (Pen count) after at in
    let here : takes_of slot (set views seat after) ≡ takes_of slot views + owing word =
    let s = sum slot in
    let a = if_same slot slot count.takes 0 refl in
    let b = if_same slot slot (count.takes + owing word) 0 refl in
    omega arith in
    let others : (j : ℕ) → j ≢ slot → takes_of j (set views seat after) ≡ takes_of j views = λ j other.
    let s = sum j in
    let a = if_other slot j count.takes 0 (λ e. other (sym e)) in
    let b = if_other slot j (count.takes + owing word) 0 (λ e. other (sym e)) in
    omega arith in
    let pens_same : (j : ℕ) → pens_of j (set views seat after) ≡ pens_of j views = λ j. same_total (λ v. pens_among j (counts_of v)) views seat (Pen count) after at refl in
    let lines = k.page.lines in
    record {
      page = k.page;
      book = set_else views seat 0 after apart ∙ k.book;
      wide = k.wide ∙ sym (length-set words slot (cleared word));
      agrees = λ j below.
          rw (sym (set-get_or lines slot fresh_line))
          (changed words lines slot (cleared word) (line_at slot lines) (λ i. takes_of i views) (λ i. takes_of i (set views seat after)) k.wide k.agrees
          (λ _. rw here (taken word (line_at slot lines) (takes_of slot views) (k.agrees slot low)))
          others j below);
      one_pen = λ j. rw (pens_same j) (k.one_pen j);
      no_pen = λ j above. pens_same j ∙ k.no_pen j above;
      made = let m = k.made in omega (arith, length-set words slot (cleared word));
    }

splits_keep : (words : List ℕ) (views : List WordView) (page : BookPage) → Keeps words views → get_elem? views 0 ≡ some (Book page) → page.made < length words
    → Keeps words (slice_set views 0 (with_next_pen (Book page)) ++ next_pen (Book page) ∷ [])
splits_keep words views page k at low =
    let is : k.page ≡ page = page_is words views k page at in
    let with_pen : WordView = with_next_pen (Book page) in
    let pen : WordView = next_pen (Book page) in
    let sum : (f : WordView → ℕ) → f with_pen ≡ f (Book page) → total f (set views 0 with_pen ++ pen ∷ []) ≡ total f views + f pen = λ f same.
    let p = total-push f (set views 0 with_pen) pen in
    let t = same_total f views 0 (Book page) with_pen at same in
    omega arith in
    let takes_same : (j : ℕ) → takes_of j (set views 0 with_pen ++ pen ∷ []) ≡ takes_of j views = λ j.
    let s = sum (λ v. takes_among j (counts_of v)) refl in
    let none : takes_among j (counts_of pen) ≡ 0 = dite (ℕ_discrete page.made j) (λ e. let z = if_same page.made j 0 0 e in omega arith) (λ e. let z = if_other page.made j 0 0 e in omega arith) in
    omega arith in
    let above : (j : ℕ) → page.made ≤ j → pens_of j views ≡ 0 = λ j le. k.no_pen j (subst (λ (p : BookPage). p.made ≤ j) (sym is) le) in
    record {
      page = record page { made = page.made + 1 };
      book = at_longer (set views 0 with_pen) (pen ∷ []) 0 with_pen (set_here views 0 with_pen (inside views 0 (Book page) at));
      wide = ap (λ (p : BookPage). length p.lines) (sym is) ∙ k.wide;
      agrees = λ j below. rw (takes_same j) (subst (λ (p : BookPage). Agrees (slice_index words j) (line_at j p.lines) (takes_of j views)) is (k.agrees j below));
      one_pen = λ j.
          let s = sum (λ v. pens_among j (counts_of v)) refl in
          dite (ℕ_discrete page.made j)
          (λ e. let z = if_same page.made j 1 0 e in let n = above j (omega arith) in omega arith)
          (λ e. let z = if_other page.made j 1 0 e in let n = k.one_pen j in omega arith);
      no_pen = λ j more.
          let s = sum (λ v. pens_among j (counts_of v)) refl in
          let z = if_other page.made j 1 0 (λ e. omega arith) in
          let n = above j (omega arith) in
          omega arith;
      made = omega arith;
    }

joins_keep : (words : List ℕ) (views : List WordView) (seat : ℕ) (page : BookPage) (count : Count) → Keeps words views → get_elem? views 0 ≡ some (Book page) → get_elem? views seat ≡ some (Pen count)
    → Keeps words (slice_set (slice_set views 0 (with_back (Book page) (Pen count))) seat Spent)
joins_keep words views seat page count k at there =
    let is : k.page ≡ page = page_is words views k page at in
    let apart : 0 ≢ seat = pen_apart words views k seat count there in
    let after : WordView = with_back (Book page) (Pen count) in
    let mid : List WordView = set views 0 after in
    let there' : get_elem? mid seat ≡ some (Pen count) = set_else views 0 seat after (λ e. apart (sym e)) ∙ there in
    let sum : (f : WordView → ℕ) → f after ≡ f (Pen count) + f (Book page) → f Spent ≡ 0 → total f (set mid seat Spent) ≡ total f views = λ f more none.
    let one = total-set f views 0 (Book page) after at in
    let two = total-set f mid seat (Pen count) Spent there' in
    omega arith in
    let takes_same : (j : ℕ) → takes_of j (set mid seat Spent) ≡ takes_of j views = λ j. sum (λ v. takes_among j (counts_of v)) (omega arith) refl in
    let pens_same : (j : ℕ) → pens_of j (set mid seat Spent) ≡ pens_of j views = λ j. sum (λ v. pens_among j (counts_of v)) (omega arith) refl in
    record {
      page = record page { back = count ∷ page.back };
      book = set_else mid seat 0 Spent apart ∙ set_here views 0 after (inside views 0 (Book page) at);
      wide = ap (λ (p : BookPage). length p.lines) (sym is) ∙ k.wide;
      agrees = λ j below. rw (takes_same j) (subst (λ (p : BookPage). Agrees (slice_index words j) (line_at j p.lines) (takes_of j views)) is (k.agrees j below));
      one_pen = λ j. rw (pens_same j) (k.one_pen j);
      no_pen = λ j above. pens_same j ∙ k.no_pen j (subst (λ (p : BookPage). p.made ≤ j) (sym is) above);
      made = subst (λ (p : BookPage). p.made ≤ length words) is k.made;
    }

pub step_keeps : (words : List ℕ) (views : List WordView) (next : List ℕ) (after : List WordView) → Keeps words views → Step words views next after → Keeps next after
step_keeps words views _ _ k (books kind slot page at low phase found) = books_keep words views kind slot page k at low phase found
step_keeps words views _ _ k (takes seat count at low) = takes_keep words views seat count k at low
step_keeps words views _ _ k (splits page at low) = splits_keep words views page k at low
step_keeps words views _ _ k (joins seat page count at there) = joins_keep words views seat page count k at there

opening_keeps : (slots : ℕ) → Keeps (replicate slots 0) (opening_view slots ∷ [])
opening_keeps slots =
    record {
      page = record { lines = replicate slots fresh_line; made = 0; back = [] };
      book = refl;
      wide = length-replicate slots fresh_line ∙ sym (length-replicate {A = ℕ} slots 0);
      agrees = λ slot below.
          let low : slot < slots = omega (arith, length-replicate {A = ℕ} slots 0) in
          rw (get_or-replicate {A = ℕ} slots slot 0 0 low, get_or-replicate slots slot fresh_line fresh_line low) fresh_agrees;
      one_pen = λ slot. omega arith;
      no_pen = λ slot _. refl;
      made = omega arith;
    }

pub reached_keeps : (words : List ℕ) (views : List WordView) → Reached words views → Keeps words views
reached_keeps _ _ (opens slots) = opening_keeps slots
reached_keeps _ _ (steps words views next after reached step) = step_keeps words views next after (reached_keeps words views reached) step
