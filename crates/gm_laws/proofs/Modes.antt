-- How the server goes on: modes, and slots that are shut.
use Rattle.std.proofs.Common.{◌≡◌, ◌⊎◌, inl, inr, ℕ, zero, suc, ◌+◌, ◌<◌, ◌≤◌, Bool, true, false, cond, not, ◌&&◌, List, [], ◌∷◌, Some, None, Result, Ok}
use Rattle.std.proofs.Common.{refl, sym, ap, subst, ◌∙◌, arith}
use Rattle.std.specs.Prelude.{◌==◌, unwrap_or}
use Rattle.std.proofs.lemmas.Bool.{and_parts, and_from}
use Rattle.std.proofs.lemmas.Bool.Decides.{nat_tests}
use Rattle.gm_admin.specs.declared.fault.AdminFault.{AdminFault}
use Rattle.gm_admin.specs.Commands.{Commanded, Shutdown, command_of}
use Rattle.gm_notes.specs.declared.states.Mode.{Mode}
use Rattle.gm_notes.specs.declared.states.Mode.TheVariants.{Running, Graceful, Stopped}
use Rattle.gm_notes.specs.declared.note.Note.{Note}
use Rattle.gm_notes.specs.declared.note.Note.TheVariants as notes
use Rattle.gm_notes.specs.Settings.{Settings}
use Rattle.gm_notes.specs.Notes.{is_open, is_shut, takes_units, mode, slots_from}
use Rattle.gm_notes.specs.Past.{Past, with_note, with_output}
use Rattle.gm_notes.specs.Servers.{is_closing as has_shut}
use Rattle.gm_notes.specs.declared.event.UnitFault.{UnitFault}
use Rattle.gm_notes.specs.Texts.{fault_text}
use Rattle.gm_notes.specs.Lines.{shut_one, shut_each, go_graceful, shutdown, command}
use Rattle.gm_admin.specs.Answers.{ok_text}
use Rattle.gm_notes.specs.Steps.{Step, Open, Line, Fault, free_from, free_slot, opening, if_free, if_accepted, unless, add, step, run}
use Rattle.gm_notes.specs.Steps.{unless_not_open}
use Rattle.gm_history.specs.History.{progress, Allowed, History}
use Rattle.gm_history.specs.Causes.{Caused, Commands, closes}
use Rattle.gm_laws.specs.Laws.{after_shutdown, ModesNeverGoBack}
use Rattle.gm_history.proofs.Keeping.{kept_if}
use Rattle.gm_laws.proofs.Moving.{from, In, slot_in, both_not}
use Rattle.gm_laws.proofs.NumberLaws.{slots}
use Rattle.gm_history.proofs.StepsKeep.{step_history, run_history}
use Rattle.gm_history.proofs.Caused.{note_law}
use Rattle.gm_laws.proofs.StepLaws.{taken_is}
use Rattle.gm_notes.proofs.Numbers.{same_number}
use Rattle.std.proofs.lemmas.Bool.{eqb-true}

-- ---- the mode

later_mode : (k : Settings) (first : Mode) (note : Note) (older : List Note) → Allowed k note older → progress first ≤ progress (mode older) → progress first ≤ progress (mode (note ∷ older))
later_mode k first (notes.Went m) older allowed p = omega arith
later_mode k first note older allowed p = p

module _ (k : Settings) (s : Step) (start : Past) (history : History k start.notes) where
  never_back : progress (mode start.notes) ≤ progress (mode (step k s start).notes)
  never_back = note_law k s start history (λ l. progress (mode start.notes) ≤ progress (mode l)) (λ note older allowed cause h p. later_mode k (mode start.notes) note older allowed p) (omega arith)

  -- a stop comes of the line that says so
  abbrev StoppedSo : List Note → Type 0
  StoppedSo l = mode l ≡ Stopped → (mode start.notes ≡ Stopped) ⊎ Commands s (Shutdown false)

  stopped_more : (note : Note) (older : List Note) → Caused k start.notes s note older → StoppedSo older → StoppedSo (note ∷ older)
  stopped_more (notes.Went Stopped) older cause p e = inr cause
  stopped_more (notes.Went Running) older cause p e = absurd cc
  stopped_more (notes.Went Graceful) older cause p e = absurd cc
  stopped_more note older cause p e = p e

  stops : StoppedSo (step k s start).notes
  stops = note_law k s start history StoppedSo (λ note older allowed cause h p. stopped_more note older cause p) (λ e. inl e)

  -- ---- who is open

  -- it was open, or the step opens it
  abbrev OpenSo : ℕ → List Note → Type 0
  OpenSo c l = is_open c l ≡ true → (is_open c start.notes ≡ true) ⊎ ((addr : List ℕ) × (s ≡ Open addr))

  open_more : (c : ℕ) (note : Note) (older : List Note) → Caused k start.notes s note older → OpenSo c older → OpenSo c (note ∷ older)
  open_more c (notes.Opened d addr) older cause p e = inr (addr, cause)
  open_more c (notes.Closed d) older cause p e = by (c == d) e
    where
      by : (t : Bool) → unwrap_or (cond t (Some false) None) (is_open c older) ≡ true → (is_open c start.notes ≡ true) ⊎ ((addr : List ℕ) × (s ≡ Open addr))
      by true f = absurd cc
      by false f = p f
  open_more c note older cause p e = p e

  pub opens : (c : ℕ) → OpenSo c (step k s start).notes
  opens c = note_law k s start history (OpenSo c) (λ note older allowed cause h p. open_more c note older cause p) (λ e. inl e)

-- only a running server opens a connection
opened_running : (k : Settings) (start : Past) (addr : List ℕ) (c : ℕ) → is_open c start.notes ≡ false → is_open c (step k (Open addr) start).notes ≡ true → mode start.notes ≡ Running
opened_running k start addr c closed opened = by (mode start.notes) refl opened
  where
    by : (m : Mode) → mode start.notes ≡ m → is_open c (unless (if_accepted m (free_slot k start)) (opening (free_slot k start) addr start) start).notes ≡ true → m ≡ Running
    by Running is e = refl
    by Graceful is e = absurd (both_not (is_open c start.notes) e closed)
    by Stopped is e = absurd (both_not (is_open c start.notes) e closed)

-- ---- who is shut

module _ (k : Settings) (s : Step) (start : Past) (history : History k start.notes) where
  -- who is open and shut stays so
  shut_more : (c : ℕ) → closes c s ≡ false → (note : Note) (older : List Note) → Allowed k note older → Caused k start.notes s note older → (is_open c older ≡ true) × (is_shut c older ≡ true)
      → (is_open c (note ∷ older) ≡ true) × (is_shut c (note ∷ older) ≡ true)
  shut_more c stays (notes.Opened d addr) older allowed cause p = by (c == d) refl
    where
      by : (t : Bool) → (c == d) ≡ t → (unwrap_or (cond t (Some true) None) (is_open c older) ≡ true) × (unwrap_or (cond t (Some false) None) (is_shut c older) ≡ true)
      by true is = absurd (both_not (is_open c older) p.0 (ap (λ x. is_open x older) (eqb-true c d is) ∙ allowed.0))
      by false is = p
  shut_more c stays (notes.Closed d) older allowed cause p = by (c == d) refl
    where
      by : (t : Bool) → (c == d) ≡ t → (unwrap_or (cond t (Some false) None) (is_open c older) ≡ true) × (is_shut c older ≡ true)
      by true is = absurd (both_not (closes c s) (ap (closes c) cause ∙ is) stays)
      by false is = p
  shut_more c stays (notes.Shut d) older allowed cause p = (p.0, by (c == d))
    where
      by : (t : Bool) → unwrap_or (cond t (Some true) None) (is_shut c older) ≡ true
      by true = refl
      by false = p.1
  shut_more c stays note older allowed cause p = p

  stays_shut : (c : ℕ) → has_shut c start ≡ true → closes c s ≡ false → has_shut c (step k s start) ≡ true
  stays_shut c e stays =
      let p = note_law k s start history (λ l. (is_open c l ≡ true) × (is_shut c l ≡ true)) (λ note older allowed cause h p. shut_more c stays note older allowed cause p)
      (and_parts (is_open c start.notes) (is_shut c start.notes) e) in
      and_from (is_open c (step k s start).notes) (is_shut c (step k s start).notes) p.0 p.1

  -- who is shut stays so, also once it is closed, if nobody is opened
  still_shut : (c : ℕ) → ((addr : List ℕ) → s ≡ Open addr → ⊥) → (note : Note) (older : List Note) → Caused k start.notes s note older → is_shut c older ≡ true → is_shut c (note ∷ older) ≡ true
  still_shut c differs (notes.Opened d addr) older cause p = absurd (differs addr cause)
  still_shut c differs (notes.Shut d) older cause p = by (c == d)
    where
      by : (t : Bool) → unwrap_or (cond t (Some true) None) (is_shut c older) ≡ true
      by true = refl
      by false = p
  still_shut c differs note older cause p = p

  remains_shut : (c : ℕ) → ((addr : List ℕ) → s ≡ Open addr → ⊥) → is_shut c start.notes ≡ true → is_shut c (step k s start).notes ≡ true
  remains_shut c differs e = note_law k s start history (λ l. is_shut c l ≡ true) (λ note older allowed cause h p. still_shut c differs note older cause p) e

-- after a shutdown each slot is shut
shut_here : (d : ℕ) (past : Past) (c : ℕ) (rest : List ℕ) → In c (d ∷ rest) ⊎ (is_open c past.notes ≡ true → is_shut c past.notes ≡ true)
    → In c rest ⊎ (is_open c (shut_one d past).notes ≡ true → is_shut c (shut_one d past).notes ≡ true)
shut_here d past c rest (inl (inr there)) = inl there
shut_here d past c rest (inl (inl same)) = inr (by (is_open d past.notes) (is_shut d past.notes) refl refl)
  where
    by : (o t : Bool) → is_open d past.notes ≡ o → is_shut d past.notes ≡ t → is_open c (cond (o && not t) (with_note (notes.Shut d) past) past).notes ≡ true
        → is_shut c (cond (o && not t) (with_note (notes.Shut d) past) past).notes ≡ true
    by true false is was e = rw (ap (λ x. x == d) same ∙ same_number d) refl
    by true true is was e = ap (λ x. is_shut x past.notes) same ∙ was
    by false t is was e = let opened : is_open c past.notes ≡ true = e in absurd (both_not (is_open c past.notes) opened (ap (λ x. is_open x past.notes) same ∙ is))
shut_here d past c rest (inr so) = inr (kept_if (λ l. is_open c l ≡ true → is_shut c l ≡ true) (is_open d past.notes && not (is_shut d past.notes)) (with_note (notes.Shut d) past) past (λ e. by (c == d) (so e)) so)
  where
    by : (t : Bool) → is_shut c past.notes ≡ true → unwrap_or (cond t (Some true) None) (is_shut c past.notes) ≡ true
    by true e = refl
    by false e = e

shuts_each : (c : ℕ) (slots : List ℕ) (past : Past) → In c slots ⊎ (is_open c past.notes ≡ true → is_shut c past.notes ≡ true) → is_open c (shut_each slots past).notes ≡ true → is_shut c (shut_each slots past).notes ≡ true
shuts_each c [] past (inl there) e = absurd there
shuts_each c [] past (inr so) e = so e
shuts_each c (d ∷ slots) past so e = shuts_each c slots (shut_one d past) (shut_here d past c slots so) e

-- ---- steps

-- once the server is stopped each open slot is shut
abbrev AllShut : List Note → Type 0
AllShut l = mode l ≡ Stopped → (c : ℕ) → is_open c l ≡ true → is_shut c l ≡ true

module _ (k : Settings) (start : Past) (history : History k start.notes) (all : AllShut start.notes) where
  opening_shut : (addr : List ℕ) → mode start.notes ≡ Stopped → (c : ℕ) → is_open c (step k (Open addr) start).notes ≡ true → is_shut c (step k (Open addr) start).notes ≡ true
  opening_shut addr stopped c = by (mode start.notes) stopped
    where
      by : (m : Mode) → m ≡ Stopped → is_open c (unless (if_accepted m (free_slot k start)) (opening (free_slot k start) addr start) start).notes ≡ true
          → is_shut c (unless (if_accepted m (free_slot k start)) (opening (free_slot k start) addr start) start).notes ≡ true
      by Stopped is e = all stopped c e
      by Running is e = absurd cc
      by Graceful is e = absurd cc

  -- a step of a stopped server
  stopped_shut : (s : Step) → mode start.notes ≡ Stopped → (c : ℕ) → is_open c (step k s start).notes ≡ true → is_shut c (step k s start).notes ≡ true
  stopped_shut (Open addr) stopped c e = opening_shut addr stopped c e
  stopped_shut s stopped c e = from (opens k s start history c e) (λ was. remains_shut k s start history c (λ addr is. absurd cc) (all stopped c was)) (λ opened. absurd (let x = opened.1 in cc))

  -- the shutdown
  shutdown_shut : (d c : ℕ) (r : Result Commanded AdminFault) → r ≡ Ok (Shutdown false) → (is_open c (command k d r start).notes ≡ true → c < k.slots)
      → is_open c (command k d r start).notes ≡ true → is_shut c (command k d r start).notes ≡ true
  shutdown_shut d c r is =
      subst (λ r. (is_open c (command k d r start).notes ≡ true → c < k.slots) → is_open c (command k d r start).notes ≡ true → is_shut c (command k d r start).notes ≡ true) (sym is)
      (λ low e. let lt = low e in shuts_each c (slots_from 0 k.slots) (with_output d ok_text (with_note (notes.Went Stopped) start)) (inl (slot_in c 0 k.slots (omega arith) (omega arith))) e)

  line_shut : (d : ℕ) (bytes : List ℕ) → command_of bytes ≡ Ok (Shutdown false) → AllShut (step k (Line d bytes) start).notes
  line_shut d bytes is stopped c e = by (takes_units d start.notes) stopped (slots k (step k (Line d bytes) start).notes (step_history k (Line d bytes) start history) c) e
    where
      by : (t : Bool) → mode (unless (unless_not_open t) (command k d (command_of bytes) start) start).notes ≡ Stopped
          → (is_open c (unless (unless_not_open t) (command k d (command_of bytes) start) start).notes ≡ true → c < k.slots)
          → is_open c (unless (unless_not_open t) (command k d (command_of bytes) start) start).notes ≡ true
          → is_shut c (unless (unless_not_open t) (command k d (command_of bytes) start) start).notes ≡ true
      by false m lt o = all m c o
      by true m lt o = shutdown_shut d c (command_of bytes) is lt o

  all_shut : (s : Step) → AllShut (step k s start).notes
  all_shut s stopped c e = from (stops k s start history stopped) (λ was. stopped_shut s was c e) (λ shuts. by s shuts stopped c e)
    where
      by : (s : Step) → Commands s (Shutdown false) → AllShut (step k s start).notes
      by (Line d bytes) shuts = line_shut d bytes shuts
      by other shuts = absurd shuts

run_shut : (k : Settings) (steps : List Step) → AllShut (run k steps).notes
run_shut k [] stopped = absurd cc
run_shut k (s ∷ steps) stopped = all_shut k (run k steps) (run_history k steps) (run_shut k steps) s stopped

-- ---- what is asked is done

-- a shutdown line of a slot that takes units
shutdown_line : (k : Settings) (start : Past) (c : ℕ) (graceful : Bool) (r : Result Commanded AdminFault) → r ≡ Ok (Shutdown graceful)
    → mode (command k c r start).notes ≡ after_shutdown graceful (mode start.notes)
shutdown_line k start c graceful r is = subst (λ x. mode (command k c x start).notes ≡ after_shutdown graceful (mode start.notes)) (sym is) (by graceful)
  where
    went : (m : Mode) → mode start.notes ≡ m → mode (go_graceful m start).notes ≡ after_shutdown true m
    went Running is = refl
    went Graceful is = is
    went Stopped is = is

    shut_mode : (slots : List ℕ) (past : Past) → mode (shut_each slots past).notes ≡ mode past.notes
    shut_mode [] past = refl
    shut_mode (d ∷ slots) past =
        shut_mode slots (shut_one d past)
        ∙ kept_if (λ l. mode l ≡ mode past.notes) (is_open d past.notes && not (is_shut d past.notes)) (with_note (notes.Shut d) past) past refl refl

    by : (t : Bool) → mode (shutdown k c t start).notes ≡ after_shutdown t (mode start.notes)
    by true = went (mode start.notes) refl
    by false = shut_mode (slots_from 0 k.slots) (with_output c ok_text (with_note (notes.Went Stopped) start))

shutdown_does : (k : Settings) (s : Step) (start : Past) (c : ℕ) (line : List ℕ) (graceful : Bool) → s ≡ Line c line → Commands s (Shutdown graceful) → takes_units c start.notes ≡ true
    → mode (step k s start).notes ≡ after_shutdown graceful (mode start.notes)
shutdown_does k s start c line graceful is asks takes =
    let reads : command_of line ≡ Ok (Shutdown graceful) = subst (λ x. Commands x (Shutdown graceful)) is asks in
    subst (λ x. mode (step k x start).notes ≡ after_shutdown graceful (mode start.notes)) (sym is)
    (subst (λ (past : Past). mode past.notes ≡ after_shutdown graceful (mode start.notes)) (sym (taken_is (takes_units c start.notes) (command k c (command_of line) start) start takes))
    (shutdown_line k start c graceful (command_of line) reads))

-- a free slot is found
pub free_found : (c d n : ℕ) (l : List Note) → d ≤ c → c < d + n → is_open c l ≡ false → (e : ℕ) × (free_from d n l ≡ Some e) × (is_open e l ≡ false)
free_found c d zero l low high closed = absurd (omega arith)
free_found c d (suc n) l low high closed = by (is_open d l) refl (λ apart. free_found c (suc d) n l apart (omega arith) closed)
  where
    by : (t : Bool) → is_open d l ≡ t → (suc d ≤ c → (e : ℕ) × (free_from (suc d) n l ≡ Some e) × (is_open e l ≡ false)) → (e : ℕ) × (cond t (free_from (suc d) n l) (Some d) ≡ Some e) × (is_open e l ≡ false)
    by false is rest = (d, refl, is)
    by true is rest = rest (later (c == d) refl)
      where
        later : (u : Bool) → (c == d) ≡ u → suc d ≤ c
        later true same = absurd (both_not (is_open d l) is (ap (λ x. is_open x l) (sym (eqb-true c d same)) ∙ closed))
        later false same = grind (arith, nat_tests)

opening_does : (k : Settings) (s : Step) (start : Past) (c : ℕ) (addr : List ℕ) → s ≡ Open addr → mode start.notes ≡ Running → c < k.slots → is_open c start.notes ≡ false
    → (d : ℕ) × (is_open d start.notes ≡ false) × (is_open d (step k s start).notes ≡ true)
opening_does k s start c addr is runs low closed =
    let free = free_found c 0 k.slots start.notes (omega arith) (omega arith) closed in
    let opened : is_open free.0 (notes.Opened free.0 addr ∷ start.notes) ≡ true = rw (same_number free.0) refl in
    let taken : step k (Open addr) start ≡ opening (Some free.0) addr start = ap (λ m. unless (if_accepted m (free_slot k start)) (opening (free_slot k start) addr start) start) runs ∙ ap (λ o. unless (if_free o) (opening o addr start) start) free.1 in
    (free.0, free.2, ap (λ x. is_open free.0 (step k x start).notes) is ∙ (ap (λ (past : Past). is_open free.0 past.notes) taken ∙ opened))

-- a fault shuts its slot, if that isn't shut already
fault_shuts : (k : Settings) (s : Step) (start : Past) (c : ℕ) (fault : UnitFault) → s ≡ Fault c fault → is_open c start.notes ≡ true → has_shut c (step k s start) ≡ true
fault_shuts k s start c fault is opened = subst (λ x. has_shut c (step k x start) ≡ true) (sym is) (by (is_shut c start.notes) refl)
  where
    shut_now : has_shut c (with_note (notes.Shut c) (with_output c (fault_text fault) start)) ≡ true
    shut_now = and_from (is_open c start.notes) (is_shut c (notes.Shut c ∷ start.notes)) opened (rw (same_number c) refl)

    by : (t : Bool) → is_shut c start.notes ≡ t → has_shut c (step k (Fault c fault) start) ≡ true
    by true was =
        let taken : takes_units c start.notes ≡ false = ap (λ t. is_open c start.notes && not t) was ∙ ap (λ t. t && false) opened in
        ap (λ t. has_shut c (unless (unless_not_open t) (add k (Fault c fault) start) start)) taken ∙ and_from (is_open c start.notes) (is_shut c start.notes) opened was
    by false was =
        let taken : takes_units c start.notes ≡ true = and_from (is_open c start.notes) (not (is_shut c start.notes)) opened (ap not was) in
        ap (λ t. has_shut c (unless (unless_not_open t) (add k (Fault c fault) start) start)) taken ∙ shut_now

pub modes : (k : Settings) (steps : List Step) (s : Step) → ModesNeverGoBack k (run k steps) s (run k (s ∷ steps))
modes k steps s =
    let start = run k steps in let history = run_history k steps in (
      (never_back k s start history, (λ c line graceful is asks takes. shutdown_does k s start c line graceful is asks takes)),
      (
        (λ c closed opened. from (opens k s start history c opened) (λ was. absurd (both_not (is_open c start.notes) was closed))
            (λ is. opened_running k start is.0 c closed (subst (λ x. is_open c (step k x start).notes ≡ true) is.1 opened))),
        (λ c addr is runs low closed. opening_does k s start c addr is runs low closed),
      ),
      (
        stays_shut k s start history,
        (λ c fault is opened. fault_shuts k s start c fault is opened),
        (λ stopped c opened. and_from (is_open c (run k (s ∷ steps)).notes) (is_shut c (run k (s ∷ steps)).notes) opened (run_shut k (s ∷ steps) stopped c opened)),
      ),
    )
