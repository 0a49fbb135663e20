-- Without round-robin the first ability for which a job waits wins.
use Rattle.std.proofs.Common.{◌≡◌, ◌⊎◌, inl, inr, ℕ, Bool, true, false, cond, not, ◌&&◌, ◌||◌, List, [], ◌∷◌, ◌++◌, map, filter, Some, refl, sym, ap, subst, ◌∙◌}
use Rattle.std.specs.Prelude.{◌==◌, codes}
use Rattle.std.specs.List.{All, list_any}
use Rattle.std.specs.Str.{bytes_eq}
use Rattle.std.proofs.lemmas.Slice.Eq.{bytes_eq-Decides}
use Rattle.gm_packet.specs.declared.kind.Kind.{Kind}
use Rattle.gm_packet.specs.declared.kind.Kind.TheVariants.{CanDo, CantDo, CanDoTimeout}
use Rattle.gm_packet.specs.Requests.{Asked}
use Rattle.gm_notes.specs.declared.note.Note.TheVariants as notes
use Rattle.gm_notes.specs.Notes.{takes_units, phase, is_asleep}
use Rattle.gm_notes.specs.Jobs.{put, is_of, is_able, is_mentioned}
use Rattle.gm_notes.specs.Past.{with_note, refuse, with_mention}
use Rattle.gm_notes.specs.Submissions.{is_bad_name, is_one_too_many}
use Rattle.gm_notes.specs.Workers.{wake_if, can_do, cant_do}
use Rattle.gm_notes.specs.Requests.{first, request}
use Rattle.gm_notes.specs.Steps.{step}
use Rattle.gm_history.specs.History.{History}
use Rattle.gm_history.specs.Causes.{Caused, PacketAsks, job_seconds}
use Rattle.gm_history.proofs.Caused.{note_law}
use Rattle.gm_laws.proofs.Taken.{request_does, request_shut}
use Rattle.std.proofs.lemmas.List.Elements.{All-nil, All-cons}
use Rattle.std.proofs.lemmas.Option.{same_Some}
use Rattle.gm_notes.specs.declared.note.Note.{Note}
use Rattle.gm_notes.specs.declared.states.Pick.{Pick}
use Rattle.gm_notes.specs.declared.states.Priority.{Priority}
use Rattle.gm_notes.specs.Settings.{Settings}
use Rattle.gm_notes.specs.Jobs.{Job, Ability, job, queue, waiting_for, is_empty, first_of, pick, abilities, last_function, rotated, scan}
use Rattle.gm_notes.specs.JobStates as states
use Rattle.gm_notes.specs.Past.{Past}
use Rattle.gm_notes.specs.Steps.{Step, run}
use Rattle.gm_history.proofs.StepsKeep.{run_history}
use Rattle.gm_laws.specs.Firsts.{HasNoneWaiting, HasNoneWaitingOf, functions_of, GivesOfTheFirst, FirstAbilityWins}
use Rattle.gm_laws.proofs.Moving.{from, both_not}
use Rattle.gm_laws.proofs.StepLaws.{gives}
use Rattle.gm_laws.proofs.Waiting.{queue_waits, something_waits}
use Rattle.gm_laws.proofs.Orders.{queue_head, first_of_function}
use Rattle.gm_laws.proofs.Highest.{pick_by, from_by, with_by, head_by, picks_from, picks_highest, highest}
use Rattle.gm_notes.proofs.Numbers.{same_number}
use Rattle.std.proofs.lemmas.Bool.{eqb-true}

-- the function comes after some for which nothing of this kind waits
abbrev Splits : (List ℕ → Type 0) → List Ability → List ℕ → Type 0
Splits None_of all f = (earlier later : List (List ℕ)) × (map (λ (ability : Ability). ability.function) all ≡ earlier ++ f ∷ later) × All None_of earlier

-- the pick is of the first function that has one
module _ (of : List ℕ → List ℕ) (None_of : List ℕ → Type 0) (none : (f : List ℕ) → is_empty (of f) ≡ true → None_of f) where
  splits : (all : List Ability) (found : Pick) (what : Job) → ((f : List ℕ) (ns : List ℕ) → of f ≡ found.job ∷ ns → what.function ≡ f) → pick_by of all ≡ Some found → Splits None_of all what.function
  splits [] found what named e = absurd cc
  splits (ability ∷ all) found what named e = by (of ability.function) refl (λ f. splits all found what named f) e
    where
      by : (ns : List ℕ) → of ability.function ≡ ns → (pick_by of all ≡ Some found → Splits None_of all what.function) → first_of ns ability.timeout (pick_by of all) ≡ Some found → Splits None_of (ability ∷ all) what.function
      by [] is more e =
          let rest = more e in
          (ability.function ∷ rest.0, rest.1, ap (λ l. ability.function ∷ l) rest.2, All-cons None_of ability.function rest.0 (none ability.function (ap is_empty is)) rest.3)
      by (n ∷ ns) there more e =
          let here : n ≡ found.job = ap (λ (p : Pick). p.job) (same_Some (record { job = n; timeout = ability.timeout }) found e) in
          let same = named ability.function ns (there ∙ ap (λ m. m ∷ ns) here) in
          ([], map (λ (a : Ability). a.function) all, ap (λ f. f ∷ map (λ (a : Ability). a.function) all) (sym same), All-nil None_of)

module _ (notes : List Note) where
  none_waits : (f : List ℕ) → is_empty (waiting_for f notes) ≡ true → HasNoneWaiting notes f
  none_waits f none n what waits is same =
      both_not (is_empty (waiting_for f notes)) none (subst (λ g. is_empty (waiting_for g notes) ≡ false) same (something_waits n notes what waits is))

  none_waits_of : (p : Priority) (f : List ℕ) → is_empty (queue f p notes) ≡ true → HasNoneWaitingOf p notes f
  none_waits_of p f none n what waits is same priority =
      both_not (is_empty (queue f p notes)) none (subst (λ g. is_empty (queue g p notes) ≡ false) same (subst (λ q. is_empty (queue what.function q notes) ≡ false) priority (queue_waits n notes what waits is)))

-- the slot's abilities are tried in this order
module _ (k : Settings) (c : ℕ) (l : List Note) (order : List Ability) (scan_is : scan k c l ≡ order) (what : Job) where
  abbrev GivesIt : Type 0
  GivesIt =
      (earlier later : List (List ℕ)) × (map (λ (ability : Ability). ability.function) order ≡ earlier ++ what.function ∷ later)
      × (k.as_gearmand ≡ false → All (HasNoneWaiting l) earlier) × (k.as_gearmand ≡ true → All (HasNoneWaitingOf what.priority l) earlier)

  all_of_priority : k.as_gearmand ≡ true → (p : Priority) → what.priority ≡ p → Splits (HasNoneWaitingOf p l) (scan k c l) what.function → GivesIt
  all_of_priority set p is found =
      let split = subst (λ all. Splits (HasNoneWaitingOf p l) all what.function) scan_is found in
      (split.0, split.1, split.2, (λ plainly. absurd (both_not k.as_gearmand set plainly)), λ e. subst (λ q. All (HasNoneWaitingOf q l) split.0) (sym is) split.3)

  all_of_any : k.as_gearmand ≡ false → Splits (HasNoneWaiting l) (scan k c l) what.function → GivesIt
  all_of_any plainly found =
      let split = subst (λ all. Splits (HasNoneWaiting l) all what.function) scan_is found in
      (split.0, split.1, split.2, (λ e. split.3), λ set. absurd (both_not k.as_gearmand set plainly))

  gives_of_priority : k.as_gearmand ≡ true → (found : Pick) → pick k c l ≡ Some found → job found.job l ≡ Some what → GivesIt
  gives_of_priority set found e known =
      let top = highest (scan k c l) l found (sym (picks_highest k c l set) ∙ e) in
      let named : (f : List ℕ) (ns : List ℕ) → queue f top.p l ≡ found.job ∷ ns → (what.function ≡ f) × (what.priority ≡ top.p) = λ f ns here. queue_head f top.p l found.job ns what here known in
      let picked = sym (with_by top.p (scan k c l) l) ∙ top.is in
      let there = head_by (λ f. queue f top.p l) (scan k c l) found picked in
      all_of_priority set top.p (named there.0 there.1 there.2).1
      (splits (λ f. queue f top.p l) (HasNoneWaitingOf top.p l) (none_waits_of l top.p) (scan k c l) found what (λ f ns here. (named f ns here).0) picked)

  gives_of_any : k.as_gearmand ≡ false → (found : Pick) → pick k c l ≡ Some found → job found.job l ≡ Some what → GivesIt
  gives_of_any plainly found e known =
      let picked = sym (from_by (scan k c l) l) ∙ (sym (picks_from k c l plainly) ∙ e) in
      all_of_any plainly
      (splits (λ f. waiting_for f l) (HasNoneWaiting l) (none_waits l) (scan k c l) found what (λ f ns here. first_of_function f l found.job ns what here known) picked)

  pub gives_it : (found : Pick) → pick k c l ≡ Some found → job found.job l ≡ Some what → GivesIt
  gives_it found e known = by k.as_gearmand refl
    where
      by : (t : Bool) → k.as_gearmand ≡ t → GivesIt
      by true set = gives_of_priority set found e known
      by false plainly = gives_of_any plainly found e known

gives_first : (k : Settings) (steps : List Step) (s : Step) → GivesOfTheFirst k (run k steps) (run k (s ∷ steps))
gives_first k steps s n c what plain waited runs is =
    from (gives k s (run k steps) (run_history k steps) n c runs)
    (λ ran. absurd (let bad : states.Waiting ≡ states.Running c = sym waited ∙ ran in cc))
    (λ g. gives_it k c (run k steps).notes (abilities c (run k steps).notes) (added plain) what g.1.0 g.1.1 (ap (λ m. job m (run k steps).notes) g.1.2 ∙ is))
  where
    added : k.round_robin ≡ false → scan k c (run k steps).notes ≡ abilities c (run k steps).notes
    added plain = ap (λ t. cond t (rotated (last_function c (run k steps).notes) (abilities c (run k steps).notes)) (abilities c (run k steps).notes)) plain

-- ---- the order

all_kept : (xs : List (List ℕ)) → filter (λ f. true) xs ≡ xs
all_kept [] = refl
all_kept (x ∷ xs) = ap (λ l. x ∷ l) (all_kept xs)

none_kept : (xs : List (List ℕ)) → filter (λ f. false) xs ≡ []
none_kept [] = refl
none_kept (x ∷ xs) = none_kept xs

-- an ability that is put in keeps its place, or comes last
put_order : (f : List ℕ) (t : ℕ) (all : List Ability) → map (λ (ability : Ability). ability.function) (put f t all)
    ≡ cond (list_any (is_of f) all) (map (λ (ability : Ability). ability.function) all) (map (λ (ability : Ability). ability.function) all ++ f ∷ [])
put_order f t [] = refl
put_order f t (ability ∷ all) = by (is_of f ability) (list_any (is_of f) all) refl (put_order f t all)
  where
    by : (u v : Bool) → is_of f ability ≡ u
        → map (λ (a : Ability). a.function) (put f t all) ≡ cond v (map (λ (a : Ability). a.function) all) (map (λ (a : Ability). a.function) all ++ f ∷ [])
        → map (λ (a : Ability). a.function) (cond u (record { function = f; timeout = t } ∷ all) (ability ∷ put f t all))
        ≡ cond (u || v) (ability.function ∷ map (λ (a : Ability). a.function) all) (ability.function ∷ map (λ (a : Ability). a.function) all ++ f ∷ [])
    by true v is rest = ap (λ g. g ∷ map (λ (a : Ability). a.function) all) (sym ((bytes_eq-Decides ability.function f).0 is))
    by false true is rest = ap (λ l. ability.function ∷ l) rest
    by false false is rest = ap (λ l. ability.function ∷ l) rest

cant_order : (f : List ℕ) (all : List Ability) → map (λ (ability : Ability). ability.function) (filter (λ ability. not (is_of f ability)) all)
    ≡ filter (λ g. not (bytes_eq g f)) (map (λ (ability : Ability). ability.function) all)
cant_order f [] = refl
cant_order f (ability ∷ all) = by (bytes_eq ability.function f) (cant_order f all)
  where
    by : (u : Bool) → map (λ (a : Ability). a.function) (filter (λ a. not (is_of f a)) all) ≡ filter (λ g. not (bytes_eq g f)) (map (λ (a : Ability). a.function) all)
        → map (λ (a : Ability). a.function) (cond (not u) (ability ∷ filter (λ a. not (is_of f a)) all) (filter (λ a. not (is_of f a)) all))
        ≡ cond (not u) (ability.function ∷ filter (λ g. not (bytes_eq g f)) (map (λ (a : Ability). a.function) all)) (filter (λ g. not (bytes_eq g f)) (map (λ (a : Ability). a.function) all))
    by true rest = rest
    by false rest = ap (λ l. ability.function ∷ l) rest

-- CAN_DO, CAN_DO_TIMEOUT and CANT_DO
abbrev is_placing : Kind → Bool
is_placing CanDo = true
is_placing CanDoTimeout = true
is_placing CantDo = true
is_placing kind = false

module _ (c : ℕ) (start : Past) where
  abbrev Ordered : List Note → Type 0
  Ordered l =
      ((keeps : List ℕ → Bool) × (functions_of c l ≡ filter keeps (functions_of c start.notes)))
      ⊎ ((f : List ℕ) × (is_able c f start.notes ≡ false) × (functions_of c l ≡ functions_of c start.notes ++ f ∷ []))

  same_order : (l : List Note) → functions_of c l ≡ functions_of c start.notes → Ordered l
  same_order l e = inl (λ f. true, e ∙ sym (all_kept (functions_of c start.notes)))

  emptied : (l : List Note) → functions_of c l ≡ [] → Ordered l
  emptied l e = inl (λ f. false, e ∙ sym (none_kept (functions_of c start.notes)))

  -- what these requests do
  module _ (k : Settings) (f : List ℕ) (t : ℕ) where
    placed : functions_of c (notes.Can c f t ∷ start.notes) ≡ cond (is_able c f start.notes) (functions_of c start.notes) (functions_of c start.notes ++ f ∷ [])
    placed = rw (same_number c) (put_order f t (abilities c start.notes))

    placed_so : (l : List Note) → functions_of c l ≡ cond (is_able c f start.notes) (functions_of c start.notes) (functions_of c start.notes ++ f ∷ []) → Ordered l
    placed_so l e = by (is_able c f start.notes) refl e
      where
        by : (u : Bool) → is_able c f start.notes ≡ u → functions_of c l ≡ cond u (functions_of c start.notes) (functions_of c start.notes ++ f ∷ []) → Ordered l
        by true able e = same_order l e
        by false new e = inr (f, new, e)

    mentions : (u : Bool) → functions_of c (notes.Can c f t ∷ (cond u start (with_note (notes.Mention f) start)).notes) ≡ functions_of c (notes.Can c f t ∷ start.notes)
    mentions true = refl
    mentions false = refl

    can_order : Ordered (can_do k c f t start).notes
    can_order = by (is_bad_name f) (is_one_too_many k f start.notes) (is_asleep (phase c start.notes) && not (is_empty (waiting_for f start.notes)))
      where
        by : (u v w : Bool) → Ordered (cond u (refuse c (codes "bad_function") start) (cond v (refuse c (codes "too_many_functions") start) (wake_if w c (with_note (notes.Can c f t) (with_mention f start))))).notes
        by true v w = same_order start.notes refl
        by false true w = same_order start.notes refl
        by false false true = placed_so (notes.Woken c ∷ notes.Can c f t ∷ (with_mention f start).notes) (mentions (is_mentioned f start.notes) ∙ placed)
        by false false false = placed_so (notes.Can c f t ∷ (with_mention f start).notes) (mentions (is_mentioned f start.notes) ∙ placed)

    cant_ordered : Ordered (cant_do c f start).notes
    cant_ordered = by (is_bad_name f)
      where
        gone : functions_of c (notes.Cant c f ∷ start.notes) ≡ filter (λ g. not (bytes_eq g f)) (functions_of c start.notes)
        gone = rw (same_number c) (cant_order f (abilities c start.notes))

        by : (u : Bool) → Ordered (cond u (refuse c (codes "bad_function") start) (with_note (notes.Cant c f) start)).notes
        by true = same_order start.notes refl
        by false = inl (λ g. not (bytes_eq g f), gone)

  places_so : (k : Settings) (kind : Kind) (a : List (List ℕ)) (timeout : ℕ) → is_placing kind ≡ true → Ordered (request k c kind a timeout start).notes
  places_so k CanDo a timeout e = can_order k (first a) 0
  places_so k CanDoTimeout a timeout e = can_order k (first a) timeout
  places_so k CantDo a timeout e = cant_ordered k (first a) 0
  places_so k kind a timeout e = absurd cc

  -- a step does nothing to them, or takes all, or is such a request
  module _ (k : Settings) (s : Step) (history : History k start.notes) where
    abbrev LeftSo : List Note → Type 0
    LeftSo l = (functions_of c l ≡ functions_of c start.notes) ⊎ ((functions_of c l ≡ []) ⊎ ((asked : Asked) × PacketAsks c s asked × (is_placing asked.kind ≡ true)))

    taken_all : (note : Note) (older : List Note) (t : Bool) → functions_of c (note ∷ older) ≡ cond t [] (functions_of c older) → LeftSo older → LeftSo (note ∷ older)
    taken_all note older true e p = inr (inl e)
    taken_all note older false e (inl p) = inl (e ∙ p)
    taken_all note older false e (inr (inl p)) = inr (inl (e ∙ p))
    taken_all note older false e (inr (inr p)) = inr (inr p)

    placing : (note : Note) (older : List Note) (d : ℕ) (asked : Asked) → PacketAsks d s asked → is_placing asked.kind ≡ true → ((c == d) ≡ false → functions_of c (note ∷ older) ≡ functions_of c older) → LeftSo older → LeftSo (note ∷ older)
    placing note older d asked a e other p = by (c == d) refl p
      where
        by : (t : Bool) → (c == d) ≡ t → LeftSo older → LeftSo (note ∷ older)
        by true is p = inr (inr (asked, subst (λ x. PacketAsks x s asked) (sym (eqb-true c d is)) a, e))
        by false is (inl p) = inl (other is ∙ p)
        by false is (inr (inl p)) = inr (inl (other is ∙ p))
        by false is (inr (inr p)) = inr (inr p)

    emptying : (t : Bool) (all : List Ability) → map (λ (ability : Ability). ability.function) (cond t [] all) ≡ cond t [] (map (λ (ability : Ability). ability.function) all)
    emptying true all = refl
    emptying false all = refl

    enabling_places : (kind : Kind) (timeout t : ℕ) → job_seconds kind timeout ≡ Some t → is_placing kind ≡ true
    enabling_places CanDo timeout t e = refl
    enabling_places CanDoTimeout timeout t e = refl
    enabling_places kind timeout t e = absurd cc

    left_more : (note : Note) (older : List Note) → Caused k start.notes s note older → LeftSo older → LeftSo (note ∷ older)
    left_more (notes.Opened d addr) older cause p = taken_all (notes.Opened d addr) older (c == d) (emptying (c == d) (abilities c older)) p
    left_more (notes.Closed d) older cause p = taken_all (notes.Closed d) older (c == d) (emptying (c == d) (abilities c older)) p
    left_more (notes.Reset d) older cause p = taken_all (notes.Reset d) older (c == d) (emptying (c == d) (abilities c older)) p
    left_more (notes.Can d f t) older cause p = placing (notes.Can d f t) older d cause.0 cause.1 (enabling_places cause.0.kind cause.0.timeout t cause.2) (λ other. rw other refl) p
    left_more (notes.Cant d f) older cause p = placing (notes.Cant d f) older d cause.0 cause.1 (ap is_placing cause.2) (λ other. rw other refl) p
    left_more note older cause p = p

    ordered_so : Ordered (step k s start).notes
    ordered_so = by (note_law k s start history LeftSo (λ note older allowed cause h p. left_more note older cause p) (inl refl))
      where
        asked_so : (asked : Asked) → PacketAsks c s asked → is_placing asked.kind ≡ true → (t : Bool) → takes_units c start.notes ≡ t → Ordered (step k s start).notes
        asked_so asked a e true takes = subst (λ (past : Past). Ordered past.notes) (sym (request_does k s start c asked takes a)) (places_so k asked.kind asked.arguments asked.timeout e)
        asked_so asked a e false shut = subst (λ (past : Past). Ordered past.notes) (sym (request_shut k s start c asked shut a)) (same_order start.notes refl)

        by : LeftSo (step k s start).notes → Ordered (step k s start).notes
        by (inl e) = same_order (step k s start).notes e
        by (inr (inl e)) = emptied (step k s start).notes e
        by (inr (inr p)) = asked_so p.0 p.1 p.2 (takes_units c start.notes) refl

pub first_wins : (k : Settings) (steps : List Step) (s : Step) → FirstAbilityWins k (run k steps) s (run k (s ∷ steps))
first_wins k steps s = (gives_first k steps s, λ c. ordered_so c (run k steps) k s (run_history k steps))
