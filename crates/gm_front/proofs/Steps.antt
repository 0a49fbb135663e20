-- What steps do to who is open, to who is shut, and to which jobs were made.
use Rattle.std.proofs.Common.{◌≡◌, ◌<◌, ◌≤◌, ◌+◌, ℕ, zero, suc, arith, Bool, true, false, not, ◌&&◌, if◌then◌else◌, List, []}
use Rattle.std.proofs.Common.{◌∷◌, ◌++◌, length, Option, Some, None, refl, sym, ap, ap₂, subst, ◌∙◌, append_assoc}
use Rattle.std.proofs.Common.{length-append}
use Rattle.std.specs.Prelude.{◌==◌, unwrap_or}
use Rattle.std.specs.Option.{option_or}
use Rattle.std.proofs.lemmas.Bool.Decides.{nat_tests}
use Rattle.gm_feeder.specs.Units.{Item, APacket, ALine}
use Rattle.gm_notes.specs.declared.note.Note.{Note}
use Rattle.gm_notes.specs.declared.note.Note.TheVariants as notes
use Rattle.gm_notes.specs.declared.event.ApplyError.{ApplyError}
use Rattle.gm_notes.specs.declared.event.UnitFault.{UnitFault}
use Rattle.gm_notes.specs.Settings.{Settings}
use Rattle.gm_notes.specs.Notes.{is_open, is_shut}
use Rattle.gm_notes.specs.Jobs.{made}
use Rattle.gm_notes.specs.declared.states.Mode.{Mode}
use Rattle.gm_notes.specs.declared.states.Mode.TheVariants.{Running, Graceful, Stopped}
use Rattle.gm_notes.specs.Steps.{Step, Open, Close, Fault, refusal, made_since, unless, unless_not_open, opening, free_from}
use Rattle.gm_notes.specs.Steps.{free_slot, if_accepted}
use Rattle.gm_notes.specs.Steps.{add, run}
use Rattle.gm_history.specs.Causes.{Caused, AllCaused}
use Rattle.gm_history.proofs.Caused.{caused}
use Rattle.gm_history.proofs.StepsKeep.{run_history}
use Rattle.gm_front.specs.Units.{step_of_unit}
use Rattle.gm_front.specs.Inputs.{unless_refused, handed_in, with_units, faulted, created_since}
use Rattle.gm_notes.proofs.Numbers.{same_number}

-- ---- what is open and what is shut

-- what is open stays so, and what is shut takes no units again
pub record OnlyShuts (old new : List Note) : Type 0 where
  pub opens : (d : ℕ) → is_open d new ≡ is_open d old
  pub shuts : (d : ℕ) → is_shut d new ≡ false → is_shut d old ≡ false

pub shuts_here : (notes : List Note) → OnlyShuts notes notes
shuts_here notes = record { opens = λ d. refl; shuts = λ d e. e }

pub shuts_then : (a b c : List Note) → OnlyShuts a b → OnlyShuts b c → OnlyShuts a c
shuts_then a b c first second =
    record { opens = λ d. second.opens d ∙ first.opens d; shuts = λ d e. first.shuts d (second.shuts d e) }

-- neither an opening nor a closing
abbrev pub is_inner : Step → Bool
is_inner (Open addr) = false
is_inner (Close c) = false
is_inner other = true

not_open : (s : Step) (addr : List ℕ) → is_inner s ≡ true → s ≡ Open addr → ⊥
not_open s addr e same = let bad : false ≡ true = subst (λ (q : Step). is_inner q ≡ true) same e in let no : ⊥ = cc in no

not_close : (s : Step) (c : ℕ) → is_inner s ≡ true → s ≡ Close c → ⊥
not_close s c e same = let bad : false ≡ true = subst (λ (q : Step). is_inner q ≡ true) same e in let no : ⊥ = cc in no

shut_by : (t b : Bool) → unwrap_or (if t then Some true else None) b ≡ false → b ≡ false
shut_by true b e = absurd cc
shut_by false b e = e

note_only_shuts : (k : Settings) (before : List Note) (s : Step) (note : Note) (older : List Note) → is_inner s ≡ true → Caused k before s note older → OnlyShuts older (note ∷ older)
note_only_shuts k before s (notes.Opened c addr) older inner cause = absurd (not_open s addr inner cause)
note_only_shuts k before s (notes.Closed c) older inner cause = absurd (not_close s c inner cause)
note_only_shuts k before s (notes.Shut c) older inner cause = record { opens = λ d. refl; shuts = λ d e. shut_by (d == c) (is_shut d older) e }
note_only_shuts k before s other older inner cause = record { opens = λ d. refl; shuts = λ d e. e }

notes_only_shut : (k : Settings) (before : List Note) (s : Step) (newer : List Note) → is_inner s ≡ true → AllCaused k before s newer → OnlyShuts before (newer ++ before)
notes_only_shut k before s [] inner all = shuts_here before
notes_only_shut k before s (note ∷ newer) inner all =
    shuts_then before (newer ++ before) (note ∷ (newer ++ before)) (notes_only_shut k before s newer inner all.1)
    (note_only_shuts k before s note (newer ++ before) inner all.0)

pub step_only_shuts : (k : Settings) (s : Step) (steps : List Step) → is_inner s ≡ true → OnlyShuts (run k steps).notes (run k (s ∷ steps)).notes
step_only_shuts k s steps inner =
    let m = caused k s (run k steps) (run_history k steps) in
    subst (OnlyShuts (run k steps).notes) (sym m.1) (notes_only_shut k (run k steps).notes s m.0 inner m.2)

handed_by : (r : Option ApplyError) (k : Settings) (s : Step) (steps : List Step) → is_inner s ≡ true → OnlyShuts (run k steps).notes (run k (unless_refused r s steps)).notes
handed_by None k s steps inner = step_only_shuts k s steps inner
handed_by (Some refused) k s steps inner = shuts_here (run k steps).notes

pub handed_only_shuts : (k : Settings) (s : Step) (steps : List Step) → is_inner s ≡ true → OnlyShuts (run k steps).notes (run k (handed_in k s steps)).notes
handed_only_shuts k s steps inner = handed_by (refusal k s (run k steps)) k s steps inner

unit_inner : (k : Settings) (c : ℕ) (item : Item) → is_inner (step_of_unit k c item) ≡ true
unit_inner k c (APacket kind bytes) = refl
unit_inner k c (ALine bytes) = refl

pub units_only_shut : (k : Settings) (c : ℕ) (items : List Item) (steps : List Step) → OnlyShuts (run k steps).notes (run k (with_units k c items steps)).notes
units_only_shut k c [] steps = shuts_here (run k steps).notes
units_only_shut k c (item ∷ items) steps =
    let next = handed_in k (step_of_unit k c item) steps in
    shuts_then (run k steps).notes (run k next).notes (run k (with_units k c items next)).notes
    (handed_only_shuts k (step_of_unit k c item) steps (unit_inner k c item)) (units_only_shut k c items next)

pub fault_only_shuts : (k : Settings) (c : ℕ) (fault : Option UnitFault) (steps : List Step) → OnlyShuts (run k steps).notes (run k (faulted k c fault steps)).notes
fault_only_shuts k c None steps = shuts_here (run k steps).notes
fault_only_shuts k c (Some fault) steps = handed_only_shuts k (Fault c fault) steps refl

-- ---- which jobs were made

-- more was put before the old ones
abbrev pub Grows : List ℕ → List ℕ → Type 0
Grows old new = (more : List ℕ) × (new ≡ more ++ old)

note_grows : (note : Note) (older : List Note) → Grows (made older) (made (note ∷ older))
note_grows (notes.Made n f p u body) older = (n ∷ [], refl)
note_grows other older = ([], refl)

pub grows_then : (a b c : List ℕ) → Grows a b → Grows b c → Grows a c
grows_then a b c g h = (h.0 ++ g.0, h.1 ∙ (ap (λ (l : List ℕ). h.0 ++ l) g.1 ∙ sym (append_assoc h.0 g.0 a)))

notes_grow : (newer before : List Note) → Grows (made before) (made (newer ++ before))
notes_grow [] before = ([], refl)
notes_grow (note ∷ newer) before = grows_then (made before) (made (newer ++ before)) (made (note ∷ (newer ++ before))) (notes_grow newer before) (note_grows note (newer ++ before))

-- the jobs that were made by these steps
abbrev pub jobs : Settings → List Step → List ℕ
jobs k steps = made (run k steps).notes

step_grows : (k : Settings) (s : Step) (steps : List Step) → Grows (jobs k steps) (jobs k (s ∷ steps))
step_grows k s steps =
    let m = caused k s (run k steps) (run_history k steps) in
    subst (λ (l : List Note). Grows (jobs k steps) (made l)) (sym m.1) (notes_grow m.0 (run k steps).notes)

handed_grows_by : (r : Option ApplyError) (k : Settings) (s : Step) (steps : List Step) → Grows (jobs k steps) (jobs k (unless_refused r s steps))
handed_grows_by None k s steps = step_grows k s steps
handed_grows_by (Some refused) k s steps = ([], refl)

pub handed_grows : (k : Settings) (s : Step) (steps : List Step) → Grows (jobs k steps) (jobs k (handed_in k s steps))
handed_grows k s steps = handed_grows_by (refusal k s (run k steps)) k s steps

pub units_grow : (k : Settings) (c : ℕ) (items : List Item) (steps : List Step) → Grows (jobs k steps) (jobs k (with_units k c items steps))
units_grow k c [] steps = ([], refl)
units_grow k c (item ∷ items) steps =
    let next = handed_in k (step_of_unit k c item) steps in
    grows_then (jobs k steps) (jobs k next) (jobs k (with_units k c items next)) (handed_grows k (step_of_unit k c item) steps) (units_grow k c items next)

greater : (m n : ℕ) → n < m → (m == n) ≡ false
greater m n lt = grind (arith, nat_tests)

since_by : (a more newer : List ℕ) → option_or (made_since (more ++ a) (newer ++ (more ++ a))) (made_since a (more ++ a)) ≡ made_since a (newer ++ (more ++ a))
since_by a more [] = rw (same_number (length (more ++ a))) refl
since_by a more (n ∷ newer) =
    let first = greater (length (n ∷ (newer ++ (more ++ a)))) (length (more ++ a)) (omega (arith, length-append newer (more ++ a))) in
    let second = greater (length (n ∷ (newer ++ (more ++ a)))) (length a) (omega (arith, length-append newer (more ++ a), length-append more a)) in
    rw (first, second) refl

since_then : (a b c : List ℕ) → Grows a b → Grows b c → option_or (made_since b c) (made_since a b) ≡ made_since a c
since_then a b c g h =
    subst (λ (z : List ℕ). option_or (made_since b z) (made_since a b) ≡ made_since a z) (sym h.1)
    (subst (λ (y : List ℕ). option_or (made_since y (h.0 ++ y)) (made_since a y) ≡ made_since a (h.0 ++ y)) (sym g.1) (since_by a g.0 h.0))

-- the newest job of two stretches of steps, one after the other
pub created_then : (k : Settings) (a b c : List Step) (newer older : Option ℕ) → Grows (jobs k a) (jobs k b) → Grows (jobs k b) (jobs k c)
    → newer ≡ created_since k b c → older ≡ created_since k a b → option_or newer older ≡ created_since k a c
created_then k a b c newer older g h n o = ap₂ (λ (x y : Option ℕ). option_or x y) n o ∙ since_then (jobs k a) (jobs k b) (jobs k c) g h

-- ---- a fault shuts its slot

shut_now : (c : ℕ) (l : List Note) → is_shut c (notes.Shut c ∷ l) ≡ true
shut_now c l = rw (same_number c) refl

-- an open slot that takes no units is shut
shut_already : (o s : Bool) (refused : ApplyError) → unless_not_open (o && not s) ≡ Some refused → o ≡ true → s ≡ true
shut_already true true refused e is_on = refl
shut_already true false refused e is_on = absurd cc
shut_already false s refused e is_on = absurd cc

shuts_so : (r : Option ApplyError) (k : Settings) (c : ℕ) (fault : UnitFault) (steps : List Step) → refusal k (Fault c fault) (run k steps) ≡ r
    → is_open c (run k steps).notes ≡ true → is_shut c (run k (unless_refused r (Fault c fault) steps)).notes ≡ true
shuts_so None k c fault steps e is_on =
    let past = run k steps in
    subst (λ (q : Option ApplyError). is_shut c (unless q (add k (Fault c fault) past) past).notes ≡ true) (sym e) (shut_now c past.notes)
shuts_so (Some refused) k c fault steps e is_on =
    shut_already (is_open c (run k steps).notes) (is_shut c (run k steps).notes) refused e is_on

pub fault_shuts : (k : Settings) (c : ℕ) (fault : UnitFault) (steps : List Step) → is_open c (run k steps).notes ≡ true
    → is_shut c (run k (handed_in k (Fault c fault) steps)).notes ≡ true
fault_shuts k c fault steps is_on = shuts_so (refusal k (Fault c fault) (run k steps)) k c fault steps refl is_on

-- ---- an opening

-- slot d is one of the n from c on, and isn't open
pub record IsFree (c n : ℕ) (l : List Note) (d : ℕ) : Type 0 where
  pub low : c ≤ d
  pub high : d < c + n
  pub closed : is_open d l ≡ false

free_by : (t : Bool) (c n : ℕ) (l : List Note) (d : ℕ) → is_open c l ≡ t → (if t then free_from (suc c) n l else Some c) ≡ Some d
    → (free_from (suc c) n l ≡ Some d → IsFree (suc c) n l d) → IsFree c (suc n) l d
free_by true c n l d o e ih = let f = ih e in record { low = omega (arith, f.low); high = omega (arith, f.high); closed = f.closed }
free_by false c n l d o e ih =
    let same : c ≡ d = cc in
    record { low = omega (arith, same); high = omega (arith, same); closed = subst (λ (q : ℕ). is_open q l ≡ false) same o }

pub free_is : (c n : ℕ) (l : List Note) (d : ℕ) → free_from c n l ≡ Some d → IsFree c n l d
free_is c zero l d e = absurd cc
free_is c (suc n) l d e = free_by (is_open c l) c n l d refl e (free_is (suc c) n l d)

-- what an opening that is taken notes
pub opened_notes : (k : Settings) (addr : List ℕ) (steps : List Step) (c : ℕ) → refusal k (Open addr) (run k steps) ≡ None → free_slot k (run k steps) ≡ Some c
    → (run k (Open addr ∷ steps)).notes ≡ notes.Opened c addr ∷ (run k steps).notes
opened_notes k addr steps c taken e =
    ap (λ (q : Option ApplyError). (unless q (add k (Open addr) (run k steps)) (run k steps)).notes) taken
    ∙ ap (λ (q : Option ℕ). (opening q addr (run k steps)).notes) e

pub opened_here : (c : ℕ) (addr : List ℕ) (l : List Note) → is_open c (notes.Opened c addr ∷ l) ≡ true
opened_here c addr l = rw (same_number c) refl

-- an opening that is taken gets a slot
pub welcome_free : (m : Mode) (free : Option ℕ) → if_accepted m free ≡ None → free ≡ None → ⊥
welcome_free Running None e none = let bad : ⊥ = cc in bad
welcome_free Running (Some c) e none = let bad : ⊥ = cc in bad
welcome_free Graceful free e none = let bad : ⊥ = cc in bad
welcome_free Stopped free e none = let bad : ⊥ = cc in bad
