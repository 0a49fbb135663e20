-- With round-robin turns go round.
use Rattle.std.proofs.Common.{◌≡◌, ◌⊎◌, inl, inr, ℕ, Bool, true, false, cond, ◌||◌, List, [], ◌∷◌, ◌++◌, map, Option, Some, None, refl, sym, ap, subst, ◌∙◌}
use Rattle.std.specs.Prelude.{◌==◌, unwrap_or}
use Rattle.std.specs.List.{list_any}
use Rattle.std.specs.Str.{bytes_eq}
use Rattle.std.proofs.lemmas.Bool.{both_ways, eqb-true}
use Rattle.std.proofs.lemmas.List.{map-append}
use Rattle.std.proofs.lemmas.Option.{same_Some}
use Rattle.std.proofs.lemmas.Slice.Eq.{bytes_eq-Decides}
use Rattle.gm_notes.specs.declared.note.Note.{Note}
use Rattle.gm_notes.specs.declared.event.ApplyError.{ApplyError}
use Rattle.gm_notes.specs.Settings.{Settings}
use Rattle.gm_notes.specs.Notes.{is_open}
use Rattle.gm_notes.specs.Jobs.{Ability, is_of, job, job_state, abilities, last_function, behind, up_to, rotated, scan}
use Rattle.gm_notes.specs.JobStates as states
use Rattle.gm_notes.specs.Past.{Past}
use Rattle.gm_notes.specs.Steps.{Step, Open, free_slot, opening, refusal, unless, step, run}
use Rattle.gm_history.specs.History.{History}
use Rattle.gm_history.specs.Causes.{asks, is_grab}
use Rattle.gm_history.proofs.Caused.{note_law}
use Rattle.gm_history.proofs.Finding.{pick_found, waiting_is}
use Rattle.gm_history.proofs.StepsKeep.{run_history, step_history}
use Rattle.gm_laws.specs.Firsts.{functions_of}
use Rattle.gm_laws.specs.Turns.{Gives, WasGivenLast, AreInTurn, TurnsGoRound}
use Rattle.gm_laws.specs.Laws.{IsAmong}
use Rattle.gm_laws.proofs.Firsts.{gives_it}
use Rattle.gm_laws.proofs.Lines.{named}
use Rattle.gm_laws.proofs.Moving.{from, both_not}
use Rattle.gm_laws.proofs.StepLaws.{gives}
use Rattle.gm_laws.proofs.TurnLaws.{function_is, Grabbed, step_grabbed, given, Passed, passed_more}
use Rattle.gm_laws.proofs.Words.{from_among}

-- ---- what a step does to the function that was given last

abbrev is_opening : Step → Bool
is_opening (Open addr) = true
is_opening other = false

opening_of : (s : Step) → is_opening s ≡ true → (addr : List ℕ) × (s ≡ Open addr)
opening_of (Open addr) e = (addr, refl)
opening_of other e = absurd cc

opening_grabs : (c : ℕ) (addr : List ℕ) → asks is_grab c (Open addr) ≡ false
opening_grabs c addr = refl

module _ (k : Settings) (c : ℕ) where
  -- the slot was opened and has none, or it wasn't and keeps it
  abbrev Goes : List Note → List Note → Type 0
  Goes before l =
      (((is_open c before ≡ false) × (is_open c l ≡ true) → ⊥) × (last_function c l ≡ last_function c before))
      ⊎ (((is_open c before ≡ false) × (is_open c l ≡ true)) × (last_function c l ≡ None))

  -- a step gives the slot a job, or none
  abbrev Turn : List Step → Step → Type 0
  Turn steps s =
      ((g : List ℕ) × Gives k c g steps s × (last_function c (run k (s ∷ steps)).notes ≡ Some g))
      ⊎ (((g : List ℕ) → Gives k c g steps s → ⊥) × Goes (run k steps).notes (run k (s ∷ steps)).notes)

  none_given : (steps : List Step) (s : Step) → asks is_grab c s ≡ false → (g : List ℕ) → Gives k c g steps s → ⊥
  none_given steps s other g gave =
      from (gives k s (run k steps) (run_history k steps) gave.0 c gave.3)
      (λ ran. let bad : states.Waiting ≡ states.Running c = sym gave.2 ∙ ran in let worse : ⊥ = cc in worse)
      (λ h. both_ways (asks is_grab c s) other h.0)

  stays : (before : List Note) → Goes before before
  stays before = inl ((λ o. both_not (is_open c before) o.1 o.0), refl)

  opened_goes : (addr : List ℕ) (start : Past) (r : Option ApplyError) (o : Option ℕ) → History k (unless r (opening o addr start) start).notes → Goes start.notes (unless r (opening o addr start) start).notes
  opened_goes addr start (Some refused) o h = stays start.notes
  opened_goes addr start None None h = stays start.notes
  opened_goes addr start None (Some d) h = by (c == d) refl
    where
      l : List Note
      l = start.notes

      by : (t : Bool) → (c == d) ≡ t
          → (((is_open c l ≡ false) × (unwrap_or (cond t (Some true) None) (is_open c l) ≡ true) → ⊥) × (cond t None (last_function c l) ≡ last_function c l))
          ⊎ (((is_open c l ≡ false) × (unwrap_or (cond t (Some true) None) (is_open c l) ≡ true)) × (cond t None (last_function c l) ≡ None))
      by true is = inr ((subst (λ x. is_open x l ≡ false) (sym (same c d is)) h.0.0, refl), refl)
        where
          same : (c d : ℕ) → (c == d) ≡ true → c ≡ d
          same c d e = eqb-true c d e
      by false is = inl ((λ o. both_not (is_open c l) o.1 o.0), refl)

  goes : (steps : List Step) (s : Step) → asks is_grab c s ≡ false → Goes (run k steps).notes (run k (s ∷ steps)).notes
  goes steps s other = by (is_opening s) refl
    where
      start : Past
      start = run k steps

      at_opening : (addr : List ℕ) → s ≡ Open addr → Goes start.notes (step k s start).notes
      at_opening addr is =
          subst (λ x. Goes start.notes (step k x start).notes) (sym is)
          (opened_goes addr start (refusal k (Open addr) start) (free_slot k start) (step_history k (Open addr) start (run_history k steps)))

      at_other : is_opening s ≡ false → Goes start.notes (step k s start).notes
      at_other apart =
          from (note_law k s start (run_history k steps) (Passed c s start.notes) (λ note older allowed cause h p. passed_more c s start.notes k other note older cause p) (inl refl))
          (λ same. inl ((λ o. both_not (is_opening s) (ap is_opening ((named k steps s).0 c o.0 o.1).1) apart), same))
          (λ q. absurd (both_not (is_opening s) (ap is_opening q.0.1) apart))

      by : (t : Bool) → is_opening s ≡ t → Goes start.notes (step k s start).notes
      by true is = at_opening (opening_of s is).0 (opening_of s is).1
      by false apart = at_other apart

  grab_turn : (steps : List Step) (s : Step) → asks is_grab c s ≡ true → Grabbed k c (run k steps) (run k (s ∷ steps)).notes → Turn steps s
  grab_turn steps s grabs (inl idle) =
      inr (
        (λ g gave. let bad : states.Waiting ≡ states.Running c = sym gave.2 ∙ (sym (idle.1 gave.0) ∙ gave.3) in let worse : ⊥ = cc in worse),
        inl ((λ o. not_opening s ((named k steps s).0 c o.0 o.1).1 grabs), idle.0),
      )
    where
      not_opening : (s : Step) {addr : List ℕ} → s ≡ Open addr → asks is_grab c s ≡ true → ⊥
      not_opening s {addr} is grabs = both_ways (asks is_grab c s) (ap (asks is_grab c) is) grabs
  grab_turn steps s grabs (inr got) =
      let start = run k steps in let there = pick_found k c got.0 start.notes got.1 in
      inl (
        there.0,
        (got.0.job, there.1.1, waiting_is (job_state got.0.job start.notes) there.1.0, got.2),
        got.3 ∙ function_is there.0 (job got.0.job start.notes) there.1.1,
      )

  turn : (steps : List Step) (s : Step) → Turn steps s
  turn steps s = by (asks is_grab c s) refl
    where
      by : (t : Bool) → asks is_grab c s ≡ t → Turn steps s
      by true grabs = grab_turn steps s grabs (step_grabbed k c (run k steps) s grabs)
      by false other = inr (none_given steps s other, goes steps s other)

  -- ---- the last function is that of the job that was given last

  last_so : (steps : List Step) (g : List ℕ) → WasGivenLast k c steps g → last_function c (run k steps).notes ≡ Some g
  last_so [] g was = absurd was
  last_so (s ∷ steps) g (inl gave) = (given k c g steps s gave).last
  last_so (s ∷ steps) g (inr was) =
      from (turn steps s) (λ one. absurd (was.0 one.0 one.1))
      (λ none. from none.1 (λ same. same.1 ∙ last_so steps g was.2) (λ opened. absurd (was.1 opened.0)))

  so_last : (steps : List Step) (g : List ℕ) → last_function c (run k steps).notes ≡ Some g → WasGivenLast k c steps g
  so_last [] g e = absurd cc
  so_last (s ∷ steps) g e =
      from (turn steps s) (λ one. inl (subst (λ x. Gives k c x steps s) (same_Some one.0 g (sym one.2 ∙ e)) one.1))
      (λ none. from none.1
      (λ same. inr (none.0, same.0, so_last steps g (sym same.1 ∙ e)))
      (λ opened. absurd (let bad : Some g ≡ None = sym e ∙ opened.1 in cc)))

-- ---- the order of turns

abbrev names : List Ability → List (List ℕ)
names all = map (λ (ability : Ability). ability.function) all

-- the abilities up to that for g and those behind it
abbrev Parts : List ℕ → List Ability → Type 0
Parts g all =
    ((before after : List (List ℕ)) × (names (up_to g all) ≡ before ++ g ∷ []) × (names (behind g all) ≡ after) × (names all ≡ before ++ g ∷ after))
    ⊎ ((list_any (is_of g) all ≡ false) × (up_to g all ≡ all) × (behind g all ≡ []))

parts_at : (g : List ℕ) (ability : Ability) (all : List Ability) (t : Bool) → is_of g ability ≡ t → Parts g all
    → ((before after : List (List ℕ)) × (names (cond t (ability ∷ []) (ability ∷ up_to g all)) ≡ before ++ g ∷ []) × (names (cond t all (behind g all)) ≡ after) × (names (ability ∷ all) ≡ before ++ g ∷ after))
    ⊎ (((t || list_any (is_of g) all) ≡ false) × (cond t (ability ∷ []) (ability ∷ up_to g all) ≡ ability ∷ all) × (cond t all (behind g all) ≡ []))
parts_at g ability all true is rest =
    let same = (bytes_eq-Decides ability.function g).0 is in inl ([], names all, ap (λ f. f ∷ []) same, refl, ap (λ f. f ∷ names all) same)
parts_at g ability all false is (inl p) = inl (ability.function ∷ p.0, p.1, ap (λ l. ability.function ∷ l) p.2, p.3, ap (λ l. ability.function ∷ l) p.4)
parts_at g ability all false is (inr p) = inr (p.0, ap (λ l. ability ∷ l) p.1, p.2)

parts : (g : List ℕ) (all : List Ability) → Parts g all
parts g [] = inr (refl, refl, refl)
parts g (ability ∷ all) = parts_at g ability all (is_of g ability) refl (parts g all)

any_name : (g : List ℕ) (all : List Ability) → list_any (λ x. bytes_eq x g) (names all) ≡ list_any (is_of g) all
any_name g [] = refl
any_name g (ability ∷ all) = ap (λ t. bytes_eq ability.function g || t) (any_name g all)

module _ (k : Settings) (c : ℕ) (steps : List Step) where
  abbrev l : List Note
  l = (run k steps).notes

  in_turn : (o : Option (List ℕ)) → last_function c l ≡ o → (turns : List (List ℕ)) → names (rotated o (abilities c l)) ≡ turns → AreInTurn k c steps turns
  in_turn None none turns is = inr ((λ g was there. let bad : Some g ≡ None = sym (last_so k c steps g was) ∙ none in let worse : ⊥ = cc in worse), sym is)
  in_turn (Some g) last turns is = by (parts g (abilities c l))
    where
      all : List Ability
      all = abilities c l

      by : Parts g all → AreInTurn k c steps turns
      by (inl p) =
          inl (g, p.0, p.1, so_last k c steps g last, p.4, sym is ∙ (map-append (λ (ability : Ability). ability.function) (behind g all) (up_to g all) ∙ (ap (λ x. x ++ names (up_to g all)) p.3 ∙ ap (λ x. p.1 ++ x) p.2)))
      by (inr p) =
          inr (
            (λ h was there.
                let same = same_Some h g (sym (last_so k c steps h was) ∙ last) in
                both_ways (list_any (is_of g) all) p.0 (sym (any_name g all) ∙ from_among g (functions_of c l) (subst (λ x. IsAmong x (functions_of c l)) same there))),
            sym is ∙ ap names (ap (λ x. x ++ up_to g all) p.2 ∙ p.1),
          )

pub go_round : TurnsGoRound
go_round k c n what steps s round waited runs is =
    let start = run k steps in
    from (gives k s start (run_history k steps) n c runs)
    (λ ran. absurd (let bad : states.Waiting ≡ states.Running c = sym waited ∙ ran in cc))
    (λ g.
    let order = rotated (last_function c start.notes) (abilities c start.notes) in
    let scan_is : scan k c start.notes ≡ order = ap (λ t. cond t order (abilities c start.notes)) round in
    let it = gives_it k c start.notes order scan_is what g.1.0 g.1.1 (ap (λ m. job m start.notes) g.1.2 ∙ is) in
    (it.0, it.1, in_turn k c steps (last_function c start.notes) refl (it.0 ++ what.function ∷ it.1) it.2, it.3, it.4))
