-- The law that turns are fair.
use Rattle.std.proofs.Common.{◌≡◌, ◌⊎◌, inl, inr, ℕ, Bool, true, false, cond, ◌||◌, List, [], ◌∷◌, ◌++◌, Option, Some, None}
use Rattle.std.proofs.Common.{refl, sym, ap, subst, ◌∙◌}
use Rattle.std.specs.Prelude.{◌==◌}
use Rattle.std.specs.List.{All, list_any}
use Rattle.std.specs.Option.{option_map}
use Rattle.std.specs.Str.{bytes_eq}
use Rattle.std.proofs.lemmas.Bool.{both_ways, and_parts, or_from, or_right}
use Rattle.std.proofs.lemmas.List.Elements.{All-head}
use Rattle.std.proofs.lemmas.Option.{same_Some}
use Rattle.std.proofs.lemmas.Slice.Eq.{bytes_eq-Decides}
use Rattle.gm_packet.specs.declared.kind.Kind.{Kind}
use Rattle.gm_packet.specs.declared.kind.Kind.TheVariants.{GrabJob, GrabJobUniq}
use Rattle.gm_packet.specs.Kinds.{kind_of}
use Rattle.gm_notes.specs.declared.states.Pick.{Pick}
use Rattle.gm_notes.specs.declared.note.Note.{Note}
use Rattle.gm_notes.specs.declared.note.Note.TheVariants as notes
use Rattle.gm_notes.specs.Settings.{Settings}
use Rattle.gm_notes.specs.Notes.{phase, is_asleep, moment}
use Rattle.gm_notes.specs.Jobs.{Job, Ability, is_of, job, job_state, is_job_of, abilities, is_able, waiting_for, is_empty}
use Rattle.gm_notes.specs.Jobs.{first_of, pick_from, pick, last_function, up_to, rotated, scan}
use Rattle.gm_notes.specs.JobStates.{JobState, is_waiting}
use Rattle.gm_notes.specs.JobStates as states
use Rattle.gm_notes.specs.Past.{Past, with_note}
use Rattle.gm_notes.specs.Workers.{wake_itself, deadline_after, give_out}
use Rattle.gm_notes.specs.Requests.{request}
use Rattle.gm_notes.specs.Steps.{Step, Open, Packet, Line, Fault, Close, Tick, Took, Withdrew, Drain, refusal, add, step, run}
use Rattle.gm_notes.proofs.Scans.{scan_members}
use Rattle.gm_laws.proofs.Highest.{picks_from}
use Rattle.gm_history.specs.History.{Gets}
use Rattle.gm_history.specs.Causes.{Caused, is_one_of, asks, is_grab, is_enabling}
use Rattle.gm_laws.specs.Turns.{Gives, FindsWaiting, LeavesAbilities, Each, One, TurnsAreFair}
use Rattle.gm_history.proofs.Asking.{can_asks}
use Rattle.gm_history.proofs.Finding.{WaitsFor, waiting_for_waits, pick_found, waiting_is}
use Rattle.gm_history.proofs.Keeping.{keeps_notes, kept_if}
use Rattle.gm_laws.proofs.Moving.{from}
use Rattle.gm_history.proofs.StepsKeep.{taken_or_not, packet_of_kinds, step_keeps, run_history}
use Rattle.gm_laws.proofs.StepLaws.{gives, assigned_notes, pick_runs}
use Rattle.gm_laws.proofs.Turned.{abilities_once, turned_again, Ahead, ahead_after, ahead_still}
use Rattle.gm_notes.proofs.Numbers.{same_number}
use Rattle.std.proofs.lemmas.Bool.{eqb-true}

-- ---- what is picked

of_both : (f g : List ℕ) (o : Option Job) → is_job_of f o ≡ true → is_job_of g o ≡ true → f ≡ g
of_both f g None e h = absurd cc
of_both f g (Some what) e h = sym ((bytes_eq-Decides what.function f).0 e) ∙ (bytes_eq-Decides what.function g).0 h

pub function_is : (f : List ℕ) (o : Option Job) → is_job_of f o ≡ true → option_map (λ (what : Job). what.function) o ≡ Some f
function_is f None e = absurd cc
function_is f (Some what) e = ap Some ((bytes_eq-Decides what.function f).0 e)

-- the pick is of function g: there is an ability for it, and up to that none for which a job waits
abbrev Picks : List ℕ → List Ability → List Note → Type 0
Picks g all l = (list_any (is_of g) all ≡ true) × ((h : List ℕ) → is_empty (waiting_for h l) ≡ false → bytes_eq g h ≡ false → list_any (is_of h) (up_to g all) ≡ false)

-- the first ability is for g
first_picks : (g : List ℕ) (ability : Ability) (all : List Ability) (l : List Note) (t : Bool) → is_of g ability ≡ t → ability.function ≡ g → Picks g (ability ∷ all) l
first_picks g ability all l false is same = absurd (both_ways (is_of g ability) is ((bytes_eq-Decides ability.function g).1 same))
first_picks g ability all l true is same = (
  ap (λ t. t || list_any (is_of g) all) is,
  λ h waits other. ap (λ t. list_any (is_of h) (cond t (ability ∷ []) (ability ∷ up_to g all))) is ∙ or_from (is_of h ability) false (subst (λ x. bytes_eq x h ≡ false) (sym same) other) refl,
)

not_for : (h : List ℕ) (ability : Ability) (l : List Note) (t : Bool) → is_of h ability ≡ t → is_empty (waiting_for ability.function l) ≡ true → is_empty (waiting_for h l) ≡ false → t ≡ false
not_for h ability l false is none waits = refl
not_for h ability l true is none waits = absurd (both_ways (is_empty (waiting_for h l)) waits (subst (λ x. is_empty (waiting_for x l) ≡ true) ((bytes_eq-Decides ability.function h).0 is) none))

later_at : (g h : List ℕ) (ability : Ability) (all : List Ability) (t : Bool) → is_of h ability ≡ false → list_any (is_of h) (up_to g all) ≡ false → list_any (is_of h) (cond t (ability ∷ []) (ability ∷ up_to g all)) ≡ false
later_at g h ability all true one rest = or_from (is_of h ability) false one refl
later_at g h ability all false one rest = or_from (is_of h ability) (list_any (is_of h) (up_to g all)) one rest

-- nothing waits for the first ability
later_picks : (g : List ℕ) (ability : Ability) (all : List Ability) (l : List Note) → is_empty (waiting_for ability.function l) ≡ true → Picks g all l → Picks g (ability ∷ all) l
later_picks g ability all l none rest = (
  or_right (is_of g ability) (list_any (is_of g) all) rest.0,
  λ h waits other. later_at g h ability all (is_of g ability) (not_for h ability l (is_of h ability) refl none waits) (rest.1 h waits other),
)

picks_at : (g : List ℕ) (ability : Ability) (all : List Ability) (ns : List ℕ) (l : List Note) (found : Pick) → is_empty (waiting_for ability.function l) ≡ is_empty ns → All (WaitsFor ability.function l) ns
    → (pick_from all l ≡ Some found → Picks g all l) → first_of ns ability.timeout (pick_from all l) ≡ Some found → is_job_of g (job found.job l) ≡ true → Picks g (ability ∷ all) l
picks_at g ability all [] l found none each rest e of_g = later_picks g ability all l none (rest e)
picks_at g ability all (n ∷ ns) l found none each rest e of_g =
    let of_ability = subst (λ (p : Pick). is_job_of ability.function (job p.job l) ≡ true) (same_Some (record { job = n; timeout = ability.timeout }) found e) (All-head (WaitsFor ability.function l) n ns each).1 in
    first_picks g ability all l (is_of g ability) refl (of_both ability.function g (job found.job l) of_ability of_g)

picks : (g : List ℕ) (all : List Ability) (l : List Note) (found : Pick) → pick_from all l ≡ Some found → is_job_of g (job found.job l) ≡ true → Picks g all l
picks g [] l found e of_g = absurd cc
picks g (ability ∷ all) l found e of_g =
    picks_at g ability all (waiting_for ability.function l) l found refl (waiting_for_waits ability.function l) (λ later. picks g all l found later of_g) e of_g

-- ---- what a step gives

module _ (k : Settings) (c : ℕ) (start : Past) where
  -- nothing was given out
  abbrev pub Idle : List Note → Type 0
  Idle l = (last_function c l ≡ last_function c start.notes) × ((n : ℕ) → job_state n l ≡ job_state n start.notes) × ((n : ℕ) → job n l ≡ job n start.notes)

  -- the pick was given to the slot
  abbrev pub GotPick : List Note → Type 0
  GotPick l =
      (found : Pick) × (pick k c start.notes ≡ Some found) × (job_state found.job l ≡ states.Running c)
      × (last_function c l ≡ option_map (λ (what : Job). what.function) (job found.job start.notes))

  abbrev pub Grabbed : List Note → Type 0
  Grabbed l = Idle l ⊎ GotPick l

  given_out : (uniq : Bool) (o : Option Pick) (past : Past) → pick k c start.notes ≡ o → Idle past.notes → Grabbed (give_out k c uniq o past).notes
  given_out uniq None past is idle = inl idle
  given_out uniq (Some found) past is idle =
      let n = found.job in
      let one = with_note (notes.Assigned n c (deadline_after (moment past.notes) found.timeout)) past in
      let last : last_function c one.notes ≡ option_map (λ (what : Job). what.function) (job n past.notes) = rw (same_number c) refl in
      inr (
        found,
        is,
        pick_runs k c uniq (Some found) found past refl,
        ap (last_function c) (assigned_notes k c uniq n (job n past.notes) one) ∙ last ∙ ap (option_map (λ (what : Job). what.function)) (idle.2 n),
      )

  grabbed : (uniq : Bool) → Grabbed (give_out k c uniq (pick k c start.notes) (wake_itself c start)).notes
  grabbed uniq =
      given_out uniq (pick k c start.notes) (wake_itself c start) refl
      (kept_if Idle (is_asleep (phase c start.notes)) (with_note (notes.Stirred c) start) start (refl, (λ n. refl), (λ n. refl)) (refl, (λ n. refl), (λ n. refl)))

  request_grabbed : (kind : Kind) (a : List (List ℕ)) (timeout : ℕ) → is_grab kind ≡ true → Grabbed (request k c kind a timeout start).notes
  request_grabbed GrabJob a timeout e = grabbed false
  request_grabbed GrabJobUniq a timeout e = grabbed true
  request_grabbed kind a timeout e = absurd cc

  packet_grabbed : (number : ℕ) (bytes : List ℕ) → is_one_of is_grab (kind_of number) ≡ true → Grabbed (step k (Packet c number bytes) start).notes
  packet_grabbed number bytes e =
      let idle : Grabbed start.notes = inl (refl, (λ n. refl), (λ n. refl)) in
      taken_or_not (λ past. Grabbed past.notes) (refusal k (Packet c number bytes) start) (add k (Packet c number bytes) start) start
      (λ taken. packet_of_kinds Grabbed k c is_grab bytes start idle request_grabbed (kind_of number) e) idle

pub step_grabbed : (k : Settings) (c : ℕ) (start : Past) (s : Step) → asks is_grab c s ≡ true → Grabbed k c start (step k s start).notes
step_grabbed k c start (Packet d number bytes) e =
    let parts = and_parts (c == d) (is_one_of is_grab (kind_of number)) e in
    subst (λ x. Grabbed k c start (step k (Packet x number bytes) start).notes) (eqb-true c d parts.0) (packet_grabbed k c start number bytes parts.1)
step_grabbed k c start (Open addr) e = absurd cc
step_grabbed k c start (Line d bytes) e = absurd cc
step_grabbed k c start (Fault d fault) e = absurd cc
step_grabbed k c start (Close d) e = absurd cc
step_grabbed k c start (Tick now) e = absurd cc
step_grabbed k c start (Took d) e = absurd cc
step_grabbed k c start (Withdrew d) e = absurd cc
step_grabbed k c start (Drain d) e = absurd cc

-- what is given is the pick, and its function is the last
pub record Given (k : Settings) (c : ℕ) (g : List ℕ) (before after : List Note) : Type 0 where
  pub found : Pick
  pub is : pick k c before ≡ Some found
  pub function : is_job_of g (job found.job before) ≡ true
  pub last : last_function c after ≡ Some g

given_last : (k : Settings) (c : ℕ) (g : List ℕ) (start : Past) (l : List Note) (n : ℕ) → is_job_of g (job n start.notes) ≡ true → job_state n start.notes ≡ states.Waiting → job_state n l ≡ states.Running c
    → Gets k c n start.notes → Grabbed k c start l → Given k c g start.notes l
given_last k c g start l n of_g waits runs gets (inl idle) = let bad : states.Waiting ≡ states.Running c = sym waits ∙ sym (idle.1 n) ∙ runs in absurd cc
given_last k c g start l n of_g waits runs gets (inr got) =
    let same : got.0 ≡ gets.0 = same_Some got.0 gets.0 (sym got.1 ∙ gets.1) in
    let of_found = subst (λ x. is_job_of g (job x start.notes) ≡ true) (sym (ap (λ (p : Pick). p.job) same ∙ gets.2)) of_g in
    record { found = got.0; is = got.1; function = of_found; last = got.3 ∙ function_is g (job got.0.job start.notes) of_found }

pub given : (k : Settings) (c : ℕ) (g : List ℕ) (steps : List Step) (s : Step) → Gives k c g steps s → Given k c g (run k steps).notes (run k (s ∷ steps)).notes
given k c g steps s gave =
    let start = run k steps in
    from (gives k s start (run_history k steps) gave.0 c gave.3) (λ e. let bad : states.Waiting ≡ states.Running c = sym gave.2 ∙ e in absurd cc)
    (λ h. given_last k c g start (run k (s ∷ steps)).notes gave.0 gave.1 gave.2 gave.3 h.1 (step_grabbed k c start s h.0))

-- ---- what else a step does to whose turn it is

-- the slot's last function is as it was, or it was opened
abbrev pub Passed : ℕ → Step → List Note → List Note → Type 0
Passed c s before l = (last_function c l ≡ last_function c before) ⊎ (((addr : List ℕ) × (s ≡ Open addr)) × (abilities c l ≡ []))

module _ (c : ℕ) (s : Step) (before : List Note) where
  passed_opened : (d : ℕ) (addr : List ℕ) (older : List Note) (t : Bool) → (c == d) ≡ t → s ≡ Open addr → Passed c s before older → Passed c s before (notes.Opened d addr ∷ older)
  passed_opened d addr older true is cause p = inr ((addr, cause), ap (λ t. cond t [] (abilities c older)) is)
  passed_opened d addr older false is cause (inl e) = inl (ap (λ t. cond t None (last_function c older)) is ∙ e)
  passed_opened d addr older false is cause (inr q) = inr (q.0, ap (λ t. cond t [] (abilities c older)) is ∙ q.1)

  passed_assigned : (n d : ℕ) (late : Option ℕ) (older : List Note) (t : Bool) → (c == d) ≡ t → asks is_grab c s ≡ false → asks is_grab d s ≡ true → Passed c s before older → Passed c s before (notes.Assigned n d late ∷ older)
  passed_assigned n d late older true is other cause p = absurd (both_ways (asks is_grab c s) other (subst (λ x. asks is_grab x s ≡ true) (sym (eqb-true c d is)) cause))
  passed_assigned n d late older false is other cause (inl e) = inl (ap (λ t. cond t (option_map (λ (what : Job). what.function) (job n older)) (last_function c older)) is ∙ e)
  passed_assigned n d late older false is other cause (inr q) = inr q

  -- what takes abilities leaves none
  passed_less : (note : Note) (older : List Note) → last_function c (note ∷ older) ≡ last_function c older → (abilities c older ≡ [] → abilities c (note ∷ older) ≡ []) → Passed c s before older → Passed c s before (note ∷ older)
  passed_less note older same less (inl e) = inl (same ∙ e)
  passed_less note older same less (inr q) = inr (q.0, less q.1)

  -- an opening enables nothing
  passed_can : (d : ℕ) (f : List ℕ) (t : ℕ) (older : List Note) → asks is_enabling d s ≡ true → Passed c s before older → Passed c s before (notes.Can d f t ∷ older)
  passed_can d f t older cause (inl e) = inl e
  passed_can d f t older cause (inr q) = absurd (both_ways (asks is_enabling d s) (ap (asks is_enabling d) q.0.1) cause)

  none_or : (t : Bool) (all : List Ability) → all ≡ [] → cond t [] all ≡ []
  none_or true all e = refl
  none_or false all e = e

  pub passed_more : (k : Settings) → asks is_grab c s ≡ false → (note : Note) (older : List Note) → Caused k before s note older → Passed c s before older → Passed c s before (note ∷ older)
  passed_more k other (notes.Opened d addr) older cause p = passed_opened d addr older (c == d) refl cause p
  passed_more k other (notes.Assigned n d late) older cause p = passed_assigned n d late older (c == d) refl other cause.0 p
  passed_more k other (notes.Closed d) older cause p = passed_less (notes.Closed d) older refl (none_or (c == d) (abilities c older)) p
  passed_more k other (notes.Reset d) older cause p = passed_less (notes.Reset d) older refl (none_or (c == d) (abilities c older)) p
  passed_more k other (notes.Can d f t) older cause p = passed_can d f t older (can_asks k before s d f t older cause) p
  passed_more k other (notes.Cant d f) older cause p = passed_less (notes.Cant d f) older refl (λ e. rw e (none_or (c == d) [] refl)) p
  passed_more k other note older cause p = p

-- a step gives the slot a job, or leaves its last function, or none of its abilities
abbrev Turning : Settings → ℕ → List Step → Step → Type 0
Turning k c steps s =
    ((g : List ℕ) × Gives k c g steps s) ⊎ ((last_function c (run k (s ∷ steps)).notes ≡ last_function c (run k steps).notes) ⊎ (abilities c (run k (s ∷ steps)).notes ≡ []))

grab_turning : (k : Settings) (c : ℕ) (steps : List Step) (s : Step) → Grabbed k c (run k steps) (run k (s ∷ steps)).notes → Turning k c steps s
grab_turning k c steps s (inl idle) = inr (inl idle.0)
grab_turning k c steps s (inr got) =
    let start = run k steps in let there = pick_found k c got.0 start.notes got.1 in
    inl (there.0, (got.0.job, there.1.1, waiting_is (job_state got.0.job start.notes) there.1.0, got.2))

passed_turning : (k : Settings) (c : ℕ) (steps : List Step) (s : Step) → Passed c s (run k steps).notes (run k (s ∷ steps)).notes → Turning k c steps s
passed_turning k c steps s (inl e) = inr (inl e)
passed_turning k c steps s (inr q) = inr (inr q.1)

turning_at : (k : Settings) (c : ℕ) (steps : List Step) (s : Step) (t : Bool) → asks is_grab c s ≡ t → Turning k c steps s
turning_at k c steps s true is = grab_turning k c steps s (step_grabbed k c (run k steps) s is)
turning_at k c steps s false is =
    let start = run k steps in
    passed_turning k c steps s
    (step_keeps start s (keeps_notes (Passed c s start.notes) (λ note older allowed cause h p. passed_more c s start.notes k is note older cause p)) (λ d e h u. u) (run_history k steps, inl refl)).1

turning : (k : Settings) (c : ℕ) (steps : List Step) (s : Step) → Turning k c steps s
turning k c steps s = turning_at k c steps s (asks is_grab c s) refl

-- ---- turns are fair

module _ (k : Settings) (in_turn : k.round_robin ≡ true) (plain : k.as_gearmand ≡ false) (c : ℕ) (f h : List ℕ) (other : bytes_eq f h ≡ false) where
  scan_is : (l : List Note) → scan k c l ≡ rotated (last_function c l) (abilities c l)
  scan_is l = ap (λ t. cond t (rotated (last_function c l) (abilities c l)) (abilities c l)) in_turn

  given_picks : (g : List ℕ) (before after : List Note) → Given k c g before after → Picks g (rotated (last_function c before) (abilities c before)) before
  given_picks g before after gave = subst (λ all. Picks g all before) (scan_is before) (picks g (scan k c before) before gave.found (sym (picks_from k c before plain) ∙ gave.is) gave.function)

  -- slot c can do h, which comes before f
  abbrev HasTurn : List Note → Type 0
  HasTurn l = (is_able c h l ≡ true) × Ahead h f (rotated (last_function c l) (abilities c l))

  same_turn : (before after : List Note) → abilities c after ≡ abilities c before → last_function c after ≡ last_function c before → HasTurn before → HasTurn after
  same_turn before after can last turn = (
    ap (list_any (is_of h)) can ∙ turn.0,
    ap (λ all. list_any (is_of h) (up_to f (rotated (last_function c after) all))) can ∙ ap (λ o. list_any (is_of h) (up_to f (rotated o (abilities c before)))) last ∙ turn.1,
  )

  -- the slot was given a job of another function
  next_turn : (g : List ℕ) (before after : List Note) → abilities c after ≡ abilities c before → Given k c g before after → is_empty (waiting_for h before) ≡ false → bytes_eq g h ≡ false → HasTurn before → HasTurn after
  next_turn g before after can gave waits apart turn =
      let all = abilities c before in
      let picked = given_picks g before after gave in
      let member = sym (scan_members k c before (is_of g)) ∙ ap (list_any (is_of g)) (scan_is before) ∙ picked.0 in
      let still = ahead_still h f g (rotated (last_function c before) all) (picked.1 h waits apart) turn.1 in
      let here : Ahead h f (rotated (Some g) all) = subst (Ahead h f) (turned_again g (last_function c before) all (abilities_once g c before) member) still in (
        ap (list_any (is_of h)) can ∙ turn.0,
        ap (λ l. list_any (is_of h) (up_to f (rotated (last_function c after) l))) can ∙ ap (λ o. list_any (is_of h) (up_to f (rotated o all))) gave.last ∙ here,
      )

  gave_turn : (steps : List Step) (s : Step) (g : List ℕ) (t : Bool) → bytes_eq g h ≡ t → Gives k c g steps s → LeavesAbilities k c steps s → FindsWaiting k c h steps s → HasTurn (run k steps).notes
      → HasTurn (run k (s ∷ steps)).notes ⊎ Gives k c h steps s
  gave_turn steps s g true is gave leaves finds turn = inr (subst (λ x. Gives k c x steps s) ((bytes_eq-Decides g h).0 is) gave)
  gave_turn steps s g false is gave leaves finds turn = inl (next_turn g (run k steps).notes (run k (s ∷ steps)).notes leaves (given k c g steps s gave) (finds g gave) is turn)

  step_turn : (steps : List Step) (s : Step) → Turning k c steps s → LeavesAbilities k c steps s → FindsWaiting k c h steps s → HasTurn (run k steps).notes
      → HasTurn (run k (s ∷ steps)).notes ⊎ Gives k c h steps s
  step_turn steps s (inl gave) leaves finds turn = gave_turn steps s gave.0 (bytes_eq gave.0 h) refl gave.1 leaves finds turn
  step_turn steps s (inr (inl last)) leaves finds turn = inl (same_turn (run k steps).notes (run k (s ∷ steps)).notes leaves last turn)
  step_turn steps s (inr (inr none)) leaves finds turn = absurd (both_ways (is_able c h (run k steps).notes) (ap (list_any (is_of h)) (sym leaves ∙ none)) turn.0)

  all_turn : (between start : List Step) → HasTurn (run k start).notes → Each (LeavesAbilities k c) between start → Each (FindsWaiting k c h) between start
      → HasTurn (run k (between ++ start)).notes ⊎ One (Gives k c h) between start
  all_turn [] start turn leave find = inl turn
  all_turn (s ∷ newer) start turn leave find =
      from (all_turn newer start turn leave.1 find.1)
      (λ there. from (step_turn (newer ++ start) s (turning k c (newer ++ start) s) leave.0 find.0 there) (λ on. inl on) (λ gave. inr (inl gave)))
      (λ one. inr (inr one))

  -- f isn't given where h comes before it
  not_given : (steps : List Step) (s : Step) → HasTurn (run k steps).notes → FindsWaiting k c h steps s → Gives k c f steps s → ⊥
  not_given steps s turn finds gave =
      let picked = given_picks f (run k steps).notes (run k (s ∷ steps)).notes (given k c f steps s gave) in
      both_ways (list_any (is_of h) (up_to f (rotated (last_function c (run k steps).notes) (abilities c (run k steps).notes)))) (picked.1 h (finds f gave) other) turn.1

  first_turn : (before : List Step) (first : Step) → Gives k c f before first → is_able c h (run k (first ∷ before)).notes ≡ true → HasTurn (run k (first ∷ before)).notes
  first_turn before first gave able =
      let l = (run k (first ∷ before)).notes in
      (able, ap (λ o. list_any (is_of h) (up_to f (rotated o (abilities c l)))) (given k c f before first gave).last ∙ ahead_after h f (abilities c l) (abilities_once f c l) able)

pub fair : TurnsAreFair
fair k c f h before between first again in_turn plain other able gave gives_again leave find =
    from (all_turn k in_turn plain c f h other between (first ∷ before) (first_turn k in_turn plain c f h other before first gave able) leave find.1)
    (λ turn. absurd (not_given k in_turn plain c f h other (between ++ first ∷ before) again turn find.0 gives_again)) (λ one. one)
