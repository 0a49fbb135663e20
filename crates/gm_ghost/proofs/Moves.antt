-- Each step keeps the rule.
use Rattle.std.proofs.Common.{◌≡◌, ◌≢◌, ◌⊎◌, ℕ, zero, suc, ◌+◌, ◌==◌, if◌then◌else◌, eq-eqb, ne_eqb, List, [], ◌∷◌, ◌++◌, length, set, refl, sym, ap, ◌∙◌, subst, ⊎_elim, inl, inr, arith}
use Rattle.std.specs.Prelude.{slice_set, Option, Some, None}
use mathlib.Core.Option.{some, some-injective, some-ne-none}
use lib.ListN.{get_elem?}
use Rattle.atomic_table.specs.Table.{State, Me, keeps, Allows, Splits, Joins}
use Rattle.atomic_table.proofs.Lists.{at_set, set_else}
use Rattle.gm_ghost.specs.declared.view.Note.{Note}
use Rattle.gm_ghost.specs.declared.view.KeeperPage.{KeeperPage}
use Rattle.gm_ghost.specs.declared.view.ListView.{ListView}
use Rattle.gm_ghost.specs.declared.view.ListView.TheVariants.{Keeper, Witness, Spent}
use Rattle.gm_ghost.specs.Lists.{Knows, AreOf, AreBelow, note_of, Fits, Kept, blank_page, opening_view, with_held, holding, let_go, given, witness_if, with_next, next, entered, Enters}
use Rattle.gm_ghost.proofs.Logs.{knows_more, knows_all, below_more, below_next}

abbrev pub Sat : Type 0 → Type 0
Sat E = Me (Unit {0}) (ListView E)

module _ {E : Type 0} (owner : E → ℕ) where
  abbrev pub IsKept : State (Unit {0}) (ListView E) → Type 0
  IsKept s = Kept owner s.views

  -- ---- lists of views

  pub set_first : (views : List (ListView E)) (v w : ListView E) → get_elem? views 0 ≡ some v → get_elem? (set views 0 w) 0 ≡ some w
  set_first [] v w e = absurd (some-ne-none v (sym e))
  set_first (x ∷ xs) v w e = refl

  pub at_end : (views : List (ListView E)) (a b : ListView E) (j : ℕ) → get_elem? (views ++ a ∷ []) j ≡ some b → (get_elem? views j ≡ some b) ⊎ ((j ≡ length views) × (a ≡ b))
  at_end [] a b zero e = inr (refl, some-injective a b e)
  at_end [] a b (suc j) e = absurd (some-ne-none b (sym e))
  at_end (x ∷ xs) a b zero e = inl e
  at_end (x ∷ xs) a b (suc j) e = ⊎_elim (λ h. inl h) (λ h. inr (ap suc h.0, h.1)) (at_end xs a b j e)

  pub first_longer : (views more : List (ListView E)) (v : ListView E) → get_elem? views 0 ≡ some v → get_elem? (views ++ more) 0 ≡ some v
  first_longer [] more v e = absurd (some-ne-none v (sym e))
  first_longer (x ∷ xs) more v e = e

  -- ---- the keeper

  pub page_is : (views : List (ListView E)) (k : Kept owner views) (page : KeeperPage E) → get_elem? views 0 ≡ some (Keeper page) → k.page ≡ page
  page_is views k page at = let same : Keeper k.page ≡ Keeper page = some-injective _ _ (sym k.keeper ∙ at) in cc

  some_note : (n m : Note E) → Some n ≡ Some m → n ≡ m
  some_note n m e = cc

  no_note_is : (n : Note E) → None ≡ Some n → ⊥
  no_note_is n e = cc

  -- the first seat knows the page
  pub first_knows : (views : List (ListView E)) (id : ℕ) (me : Sat E) (page : KeeperPage E) → id ≡ 0 → me ≡ (Keeper page, []) → get_elem? views id ≡ some me.0 → get_elem? views 0 ≡ some (Keeper page)
  first_knows views id me page first knows at = subst (λ (i : ℕ). get_elem? views i ≡ some (Keeper page)) first (at ∙ ap (λ (m : Sat E). some m.0) knows)

  -- ---- where a note comes from

  -- the note of this seat was at some seat before, in a note of the same actor, and it fits
  record From (views : List (ListView E)) (page : KeeperPage E) (f : ℕ → ℕ) (seat : ℕ) (note : Note E) : Type 0 where
    from : ℕ
    view : ListView E
    old : Note E
    at : get_elem? views from ≡ some view
    has : note_of view ≡ Some old
    same : old.who ≡ note.who
    lands : seat ≡ f from
    fits : Fits owner page note

  kept_from : (views after : List (ListView E)) (k : Kept owner views) (page : KeeperPage E) (f : ℕ → ℕ) → get_elem? after 0 ≡ some (Keeper page)
      → ((seat : ℕ) (v : ListView E) (n : Note E) → get_elem? after seat ≡ some v → note_of v ≡ Some n → From views page f seat n)
      → AreBelow owner page.made page.log → Kept owner after
  kept_from views after k page f keeper origin whose =
      record {
        page = page;
        keeper = keeper;
        fits = λ seat v n at has. (origin seat v n at has).fits;
        apart = λ seat other v w n m at has there its is.
            let x = origin seat v n at has in
            let y = origin other w m there its in
            x.lands ∙ (ap f (k.apart x.from y.from x.view y.view x.old y.old x.at x.has y.at y.has (x.same ∙ (is ∙ sym y.same))) ∙ sym y.lands);
        whose = whose;
      }

  refit : (page : KeeperPage E) (held : Option (Note E)) (n : Note E) → Fits owner page n → Fits owner (with_held held page) n
  refit page held n f = record { knows = f.knows; made = f.made }

  choose : (to i j : ℕ) → i ≡ j → (if i == j then to else i) ≡ to
  choose to i j is = ap (λ b. if b then to else i) (eq-eqb i j is)

  stay : (to i j : ℕ) → i ≢ j → (if i == j then to else i) ≡ i
  stay to i j apart = ap (λ b. if b then to else i) (ne_eqb i j apart)

  -- ---- the keeper adds entries

  enter_kept : (views : List (ListView E)) (k : Kept owner views) (note : Note E) (es : List E) → k.page.held ≡ Some note → AreOf owner note.who es
      → Kept owner (set views 0 (Keeper (entered es k.page note)))
  enter_kept views k note es held are =
      let page : KeeperPage E = entered es k.page note in
      let mine : Fits owner k.page note = k.fits 0 (Keeper k.page) note k.keeper held in
      kept_from views (set views 0 (Keeper page)) k page (λ i. i) (set_first views (Keeper k.page) (Keeper page) k.keeper)
      (λ seat v n at has. ⊎_elim
      (λ (t : (seat ≡ 0) × (Keeper page ≡ v)).
      let is : record { who = note.who; seen = es ++ k.page.log } ≡ n = some_note _ _ (ap note_of t.1 ∙ has) in
      record {
        from = 0;
        view = Keeper k.page;
        old = note;
        at = k.keeper;
        has = held;
        same = ap (λ (m : Note E). m.who) is;
        lands = t.0;
        fits = subst (λ (m : Note E). Fits owner page m) is (record { knows = knows_all owner (es ++ k.page.log) note.who; made = mine.made });
      })
      (λ (t : (seat ≢ 0) × (get_elem? views seat ≡ some v)).
      let f : Fits owner k.page n = k.fits seat v n t.1 has in
      let apart : n.who ≢ note.who = λ is. t.0 (k.apart seat 0 v (Keeper k.page) n note t.1 has k.keeper held is) in
      record {
        from = seat;
        view = v;
        old = n;
        at = t.1;
        has = has;
        same = refl;
        lands = refl;
        fits = record { knows = knows_more owner k.page.log note.who n.who n.seen es are apart f.knows; made = f.made };
      })
      (at_set views 0 seat (Keeper page) v at))
      (below_more owner k.page.made note.who es k.page.log are mine.made k.whose)

  pub enter_moves : (slots id : ℕ) (page : KeeperPage E) (note : Note E) (me : Sat E) (es : List E) → id ≡ 0 → me ≡ (Keeper page, []) → page.held ≡ Some note → AreOf owner note.who es
      → Allows IsKept slots id me 0 (λ n. n) (λ found after. Enters owner es me after)
  enter_moves slots id page note me es first knows held are s k _ at _ =
      let keeper : get_elem? s.views 0 ≡ some (Keeper page) = first_knows s.views id me page first knows at in
      let is : k.page ≡ page = page_is s.views k page keeper in
      let held' : k.page.held ≡ Some note = ap (λ (p : KeeperPage E). p.held) is ∙ held in
      let mine : Fits owner k.page note = k.fits 0 (Keeper k.page) note k.keeper held' in
      let after : ListView E = Keeper (entered es page note) in (
        after,
        keeps,
        tt,
        subst (λ (z : ℕ × KeeperPage E). Kept owner (set s.views z.0 (Keeper (entered es z.1 note)))) (λ i. (sym first i, is i)) (enter_kept s.views k note es held' are),
        λ p n is_p is_n.
            let same : Keeper page ≡ Keeper p = sym (ap (λ (m : Sat E). m.0) knows) ∙ is_p in
            let pages : page ≡ p = cc in
            let notes : note ≡ n = some_note note n (sym held ∙ (ap (λ (q : KeeperPage E). q.held) pages ∙ is_n)) in (
              (λ i. (Keeper (entered es (pages i) (notes i)), me.1)),
              subst (λ (z : KeeperPage E × Note E). Knows owner z.0.log z.1.who z.1.seen) (λ i. ((is ∙ pages) i, notes i)) mine.knows,
              subst (λ (q : KeeperPage E). AreBelow owner q.made (es ++ q.log)) (is ∙ pages) (below_more owner k.page.made note.who es k.page.log are mine.made k.whose),
            ),
      )

  -- ---- the keeper takes a note

  hold_kept : (views : List (ListView E)) (k : Kept owner views) (other : ℕ) (note : Note E) → k.page.held ≡ None → other ≢ 0 → get_elem? views other ≡ some (Witness note)
      → Kept owner (set (set views 0 (Keeper (with_held (Some note) k.page))) other Spent)
  hold_kept views k other note free apart there =
      let page : KeeperPage E = with_held (Some note) k.page in
      let between = set views 0 (Keeper page) in
      kept_from views (set between other Spent) k page (λ i. if i == other then 0 else i)
      (set_else between other 0 Spent (λ is. apart (sym is)) ∙ set_first views (Keeper k.page) (Keeper page) k.keeper)
      (λ seat v n at has. ⊎_elim
      (λ (t : (seat ≡ other) × (Spent ≡ v)). absurd (no_note_is n (ap note_of t.1 ∙ has)))
      (λ (t : (seat ≢ other) × (get_elem? between seat ≡ some v)). ⊎_elim
      (λ (u : (seat ≡ 0) × (Keeper page ≡ v)).
      let is : note ≡ n = some_note _ _ (ap note_of u.1 ∙ has) in
      record {
        from = other;
        view = Witness note;
        old = note;
        at = there;
        has = refl;
        same = ap (λ (m : Note E). m.who) is;
        lands = u.0 ∙ sym (choose 0 other other refl);
        fits = subst (λ (m : Note E). Fits owner page m) is (refit k.page (Some note) note (k.fits other (Witness note) note there refl));
      })
      (λ (u : (seat ≢ 0) × (get_elem? views seat ≡ some v)). record {
        from = seat;
        view = v;
        old = n;
        at = u.1;
        has = has;
        same = refl;
        lands = sym (stay 0 seat other t.0);
        fits = refit k.page (Some note) n (k.fits seat v n u.1 has);
      })
      (at_set views 0 seat (Keeper page) v t.1))
      (at_set between other seat Spent v at))
      k.whose

  pub hold_moves : (id other : ℕ) (page : KeeperPage E) (note : Note E) (me you : Sat E) → id ≡ 0 → me ≡ (Keeper page, []) → page.held ≡ None → you.0 ≡ Witness note
      → Joins IsKept id me.0 other you.0 (holding me.0 you.0) Spent
  hold_moves id other page note me you first knows free known s k at apart there =
      let keeper : get_elem? s.views 0 ≡ some (Keeper page) = first_knows s.views id me page first knows at in
      let is : k.page ≡ page = page_is s.views k page keeper in
      let witness : get_elem? s.views other ≡ some (Witness note) = sym (set_else s.views id other (holding me.0 you.0) apart) ∙ (there ∙ ap some known) in
      let one = hold_kept s.views k other note (ap (λ (p : KeeperPage E). p.held) is ∙ free) (λ z. apart (z ∙ sym first)) witness in
      let both : holding me.0 you.0 ≡ Keeper (with_held (Some note) page) = (λ i. holding (knows i).0 (known i)) in
      subst (λ (v : ListView E). Kept owner (slice_set (slice_set s.views id v) other Spent)) (sym both)
      (subst (λ (z : ℕ × KeeperPage E). Kept owner (set (set s.views z.0 (Keeper (with_held (Some note) z.1))) other Spent)) (λ i. (sym first i, is i)) one)

  -- ---- the keeper gives the note back

  give_kept : (views : List (ListView E)) (k : Kept owner views) (note : Note E) → k.page.held ≡ Some note
      → Kept owner (set views 0 (Keeper (with_held None k.page)) ++ Witness note ∷ [])
  give_kept views k note held =
      let page : KeeperPage E = with_held None k.page in
      let between = set views 0 (Keeper page) in
      kept_from views (between ++ Witness note ∷ []) k page (λ i. if i == 0 then length between else i)
      (first_longer between (Witness note ∷ []) (Keeper page) (set_first views (Keeper k.page) (Keeper page) k.keeper))
      (λ seat v n at has. ⊎_elim
      (λ (t : get_elem? between seat ≡ some v). ⊎_elim
      (λ (u : (seat ≡ 0) × (Keeper page ≡ v)). absurd (no_note_is n (ap note_of u.1 ∙ has)))
      (λ (u : (seat ≢ 0) × (get_elem? views seat ≡ some v)). record {
        from = seat;
        view = v;
        old = n;
        at = u.1;
        has = has;
        same = refl;
        lands = sym (stay (length between) seat 0 u.0);
        fits = refit k.page None n (k.fits seat v n u.1 has);
      })
      (at_set views 0 seat (Keeper page) v t))
      (λ (t : (seat ≡ length between) × (Witness note ≡ v)).
      let is : note ≡ n = some_note _ _ (ap note_of t.1 ∙ has) in
      record {
        from = 0;
        view = Keeper k.page;
        old = note;
        at = k.keeper;
        has = held;
        same = ap (λ (m : Note E). m.who) is;
        lands = t.0 ∙ sym (choose (length between) 0 0 refl);
        fits = subst (λ (m : Note E). Fits owner page m) is (refit k.page None note (k.fits 0 (Keeper k.page) note k.keeper held));
      })
      (at_end between (Witness note) v seat at))
      k.whose

  pub give_moves : (id : ℕ) (page : KeeperPage E) (note : Note E) (me : Sat E) → id ≡ 0 → me ≡ (Keeper page, []) → page.held ≡ Some note
      → Splits IsKept id me.0 (let_go me.0) (given me.0)
  give_moves id page note me first knows held s k at =
      let keeper : get_elem? s.views 0 ≡ some (Keeper page) = first_knows s.views id me page first knows at in
      let is : k.page ≡ page = page_is s.views k page keeper in
      let one = give_kept s.views k note (ap (λ (p : KeeperPage E). p.held) is ∙ held) in
      let left : let_go me.0 ≡ Keeper (with_held None page) = ap (λ (m : Sat E). let_go m.0) knows in
      let right : given me.0 ≡ Witness note = ap (λ (m : Sat E). given m.0) knows ∙ ap witness_if held in
      subst (λ (z : ListView E × ListView E). Kept owner (slice_set s.views id z.0 ++ z.1 ∷ [])) (λ i. (sym left i, sym right i))
      (subst (λ (z : ℕ × KeeperPage E). Kept owner (set s.views z.0 (Keeper (with_held None z.1)) ++ Witness note ∷ [])) (λ i. (sym first i, is i)) one)

  -- ---- the keeper makes a note

  abbrev pub made_more : KeeperPage E → KeeperPage E
  made_more page = record { log = page.log; made = page.made + 1; held = page.held }

  abbrev pub next_note : KeeperPage E → Note E
  next_note page = record { who = page.made; seen = page.log }

  -- what was there, or the new one
  data Old (views : List (ListView E)) (seat : ℕ) (v : ListView E) (size : ℕ) (new : ListView E) : Type 0 where
    old : get_elem? views seat ≡ some v → Old views seat v size new
    last : seat ≡ size → new ≡ v → Old views seat v size new

  old_or_last : (views : List (ListView E)) (k : Kept owner views) (seat : ℕ) (v : ListView E) (n : Note E) → k.page.held ≡ None
      → get_elem? (set views 0 (Keeper (made_more k.page)) ++ Witness (next_note k.page) ∷ []) seat ≡ some v → note_of v ≡ Some n
      → Old views seat v (length (set views 0 (Keeper (made_more k.page)))) (Witness (next_note k.page))
  old_or_last views k seat v n free at has = ⊎_elim
      (λ (t : get_elem? (set views 0 (Keeper (made_more k.page))) seat ≡ some v). ⊎_elim
      (λ (u : (seat ≡ 0) × (Keeper (made_more k.page) ≡ v)). absurd (no_note_is n (sym free ∙ (ap note_of u.1 ∙ has))))
      (λ (u : (seat ≢ 0) × (get_elem? views seat ≡ some v)). old u.1)
      (at_set views 0 seat (Keeper (made_more k.page)) v t))
      (λ (t : (seat ≡ length (set views 0 (Keeper (made_more k.page)))) × (Witness (next_note k.page) ≡ v)). last t.0 t.1)
      (at_end (set views 0 (Keeper (made_more k.page))) (Witness (next_note k.page)) v seat at)

  new_note : (page : KeeperPage E) (v : ListView E) (n : Note E) → Witness (next_note page) ≡ v → note_of v ≡ Some n → next_note page ≡ n
  new_note page v n is has = some_note _ _ (ap note_of is ∙ has)

  fits_next : (views : List (ListView E)) (k : Kept owner views) (seat : ℕ) (v : ListView E) (n : Note E) (size : ℕ) → Old views seat v size (Witness (next_note k.page)) → note_of v ≡ Some n → Fits owner (made_more k.page) n
  fits_next views k seat v n size (old at) has = let f = k.fits seat v n at has in record { knows = f.knows; made = (let less = f.made in omega arith) }
  fits_next views k seat v n size (last is same) has =
      subst (λ (m : Note E). Fits owner (made_more k.page) m) (new_note k.page v n same has) (record { knows = knows_all owner k.page.log k.page.made; made = omega arith })

  apart_next : (views : List (ListView E)) (k : Kept owner views) (seat other : ℕ) (v w : ListView E) (n m : Note E) (size : ℕ) → Old views seat v size (Witness (next_note k.page)) → Old views other w size (Witness (next_note k.page))
      → note_of v ≡ Some n → note_of w ≡ Some m → n.who ≡ m.who → seat ≡ other
  apart_next views k seat other v w n m size (old at) (old there) has its is = k.apart seat other v w n m at has there its is
  apart_next views k seat other v w n m size (old at) (last there same) has its is =
      let less = (k.fits seat v n at has).made in
      let who : k.page.made ≡ m.who = ap (λ (x : Note E). x.who) (new_note k.page w m same its) in
      absurd (omega arith)
  apart_next views k seat other v w n m size (last at same) (old there) has its is =
      let less = (k.fits other w m there its).made in
      let who : k.page.made ≡ n.who = ap (λ (x : Note E). x.who) (new_note k.page v n same has) in
      absurd (omega arith)
  apart_next views k seat other v w n m size (last at same) (last there also) has its is = at ∙ sym there

  make_kept : (views : List (ListView E)) (k : Kept owner views) → k.page.held ≡ None
      → Kept owner (set views 0 (Keeper (made_more k.page)) ++ Witness (next_note k.page) ∷ [])
  make_kept views k free =
      let page : KeeperPage E = made_more k.page in
      let between = set views 0 (Keeper page) in
      record {
        page = page;
        keeper = first_longer between (Witness (next_note k.page) ∷ []) (Keeper page) (set_first views (Keeper k.page) (Keeper page) k.keeper);
        fits = λ seat v n at has. fits_next views k seat v n (length between) (old_or_last views k seat v n free at has) has;
        apart = λ seat other v w n m at has there its is.
            apart_next views k seat other v w n m (length between) (old_or_last views k seat v n free at has) (old_or_last views k other w m free there its) has its is;
        whose = below_next owner k.page.made k.page.log k.whose;
      }

  pub make_moves : (id : ℕ) (page : KeeperPage E) (me : Sat E) → id ≡ 0 → me ≡ (Keeper page, []) → page.held ≡ None
      → Splits IsKept id me.0 (with_next me.0) (next me.0)
  make_moves id page me first knows free s k at =
      let keeper : get_elem? s.views 0 ≡ some (Keeper page) = first_knows s.views id me page first knows at in
      let is : k.page ≡ page = page_is s.views k page keeper in
      let one = make_kept s.views k (ap (λ (p : KeeperPage E). p.held) is ∙ free) in
      let left : with_next me.0 ≡ Keeper (made_more page) = ap (λ (m : Sat E). with_next m.0) knows in
      let right : next me.0 ≡ Witness (next_note page) = ap (λ (m : Sat E). next m.0) knows in
      subst (λ (z : ListView E × ListView E). Kept owner (slice_set s.views id z.0 ++ z.1 ∷ [])) (λ i. (sym left i, sym right i))
      (subst (λ (z : ℕ × KeeperPage E). Kept owner (set s.views z.0 (Keeper (made_more z.1)) ++ Witness (next_note z.1) ∷ [])) (λ i. (sym first i, is i)) one)

  -- ---- a new table

  begins_fits : (seat : ℕ) (v : ListView E) (n : Note E) → get_elem? (opening_view ∷ []) seat ≡ some v → note_of v ≡ Some n → ⊥
  begins_fits zero v n at has = no_note_is n (ap note_of (some-injective opening_view v at) ∙ has)
  begins_fits (suc seat) v n at has = some-ne-none v (sym at)

  pub begins : Kept owner (opening_view ∷ [])
  begins = record {
    page = blank_page;
    keeper = refl;
    fits = λ seat v n at has. absurd (begins_fits seat v n at has);
    apart = λ seat other v w n m at has there its is. absurd (begins_fits seat v n at has);
    whose = tt;
  }
