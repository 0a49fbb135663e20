-- Inputs that are taken, cut or refused.
use Rattle.std.proofs.Common.{◌≡◌, ◌<◌, ◌≤◌, ◌⊎◌, ℕ, arith, Bool, true, false, not, ◌&&◌, List, [], ◌∷◌, ◌++◌, length}
use Rattle.std.proofs.Common.{get_or, set, Option, Some, None, Result, Ok, Err, refl, sym, ap, subst, ◌∙◌, length-set}
use Rattle.std.specs.Prelude.{nat_lt}
use Rattle.std.specs.Result.{IsErrOf}
use Rattle.std.proofs.lemmas.Bool.Decides.{nat_tests}
use Rattle.gm_feeder.specs.declared.units.Limits.{Limits}
use Rattle.gm_feeder.specs.declared.units.FeedFault.{FeedFault}
use Rattle.gm_feeder.specs.Units.{Spells}
use Rattle.gm_feeder.specs.Streams.{with_bytes}
use Rattle.gm_notes.specs.declared.note.Note.{Note}
use Rattle.gm_notes.specs.declared.event.ApplyError.{ApplyError}
use Rattle.gm_notes.specs.declared.event.ApplyError.TheVariants.{Memory, NotOpen, NoSlot, NotOwed, Refusing}
use Rattle.gm_notes.specs.declared.event.Done.{Done}
use Rattle.gm_notes.specs.declared.event.UnitFault.{UnitFault}
use Rattle.gm_notes.specs.Settings.{Settings}
use Rattle.gm_notes.specs.Notes.{is_open, is_shut, takes_units, mode}
use Rattle.gm_notes.specs.Jobs.{made}
use Rattle.gm_notes.specs.Closings.{close}
use Rattle.gm_notes.specs.Past.{Past}
use Rattle.gm_notes.specs.Steps.{Step, Open, Close, Tick, refusal, unless, unless_not_open, free_slot, given_slot, made_since, done}
use Rattle.gm_notes.specs.Steps.{add, run}
use Rattle.gm_notes.specs.Servers.{Answers, IsRefusal, steps_after, is_closing}
use Rattle.gm_notes.proofs.Slots.{close_keeps, close_closes}
use Rattle.gm_feeder.specs.Streams.{Stream}
use Rattle.gm_front.specs.declared.front.Front.{Front}
use Rattle.gm_front.specs.declared.input.Stepped.{Stepped}
use Rattle.gm_front.specs.declared.input.StepError.{StepError}
use Rattle.gm_front.specs.declared.input.StepError.TheVariants.{Refused, Cut}
use Rattle.gm_front.specs.Units.{Stands, BeginsWith, ComesNext}
use Rattle.gm_front.specs.Inputs.{Input, Opens, Gives, Cuts, Closes, Ticks, Takes, Withdraws, Drains, Reading, nothing_read}
use Rattle.gm_front.specs.Inputs.{with_step, with_rest, with_units, faulted, kept_if, given, with_closed, AddsUnless}
use Rattle.gm_front.specs.Inputs.{created_since}
use Rattle.gm_front.specs.Feeding.{TakesPiece, CutsShort}
use Rattle.gm_front.specs.Fronts.{Feeds, FeedsIfOpen, Holds, IsHeld, Agrees, IsTaken, IsRefused, IsCutAt, Serves, inputs_after}
use Rattle.gm_front.proofs.Feeders.{each_set, past_end, feeder_stays, other_rest, this_rest, holds_on}
use Rattle.gm_front.proofs.Steps.{OnlyShuts, shuts_then, step_only_shuts, units_only_shut, fault_only_shuts}
use Rattle.gm_front.proofs.Steps.{fault_shuts, free_is, opened_notes, opened_here, welcome_free}
use Rattle.gm_notes.proofs.Numbers.{same_number}
use Rattle.std.proofs.lemmas.Bool.{ne_eqb}

-- ---- what a server answers

-- the jobs that a step made, once it was taken
pub done_is : (k : Settings) (s : Step) (steps : List Step) (answer : Done) → refusal k s (run k steps) ≡ None → answer ≡ done k s (run k steps)
    → answer ≡ record { opened = given_slot k s (run k steps); created = created_since k steps (s ∷ steps) }
done_is k s steps answer taken e =
    let past = run k steps in
    e
    ∙ ap (λ (q : Option ApplyError). record { opened = given_slot k s past; created = made_since (made past.notes) (made (unless q (add k s past) past).notes) })
    (sym taken)

-- ---- a step that opens and closes nothing

pub ticks : {S : Type 0} (agrees : S → Settings → List Step → Type 0) (k : Settings) (limits : Limits) (reading : Reading) (now : ℕ) (answer : Done) (stepped : Stepped) (front front' : Front S)
    → IsHeld agrees k limits reading front → ((refusal k (Tick now) (run k reading.steps) ≡ None) × (answer ≡ done k (Tick now) (run k reading.steps))) × agrees front'.server k (Tick now ∷ reading.steps)
    → front'.feeders.items ≡ front.feeders.items → front'.limits ≡ front.limits → stepped.done ≡ answer → stepped.drained.bytes ≡ []
    → IsTaken agrees k limits (Ticks now) reading stepped front'
ticks agrees k limits reading now answer stepped front front' h a feeders same_limits says drains =
    record {
      new = with_step (Tick now) reading;
      stands = a.0.0;
      adds = refl;
      done = says ∙ done_is k (Tick now) reading.steps answer a.0.0 a.0.1;
      drained = drains;
      held = record {
        agreed = a.1;
        slots = h.slots;
        feeders = ap length feeders ∙ h.feeders;
        limited = same_limits ∙ h.limited;
        held =
            subst (λ (l : List (Option Stream)). Holds limits (run k (Tick now ∷ reading.steps)).notes reading.rests l) (sym feeders)
            (holds_on limits (run k reading.steps).notes (run k (Tick now ∷ reading.steps)).notes reading.rests front.feeders.items (step_only_shuts k (Tick now) reading.steps refl) h.held);
      };
    }

-- ---- an opening

-- a slot that isn't open has no rest
no_rest : (limits : Limits) (c : ℕ) (l : List Note) (rest : List ℕ) (feeder : Option Stream) → is_open c l ≡ false → FeedsIfOpen limits c l rest feeder → rest ≡ []
no_rest limits c l rest None e p = p.1
no_rest limits c l rest (Some feeder) e p = absurd (let wrong : true ≡ false = sym p.opened ∙ e in let bad : ⊥ = cc in bad)

pub opens : {S : Type 0} (agrees : S → Settings → List Step → Type 0) (k : Settings) (limits : Limits) (reading : Reading) (addr : List ℕ) (c : ℕ) (answer : Done) (stepped : Stepped) (front front' : Front S) (server : S) (feeder : Stream)
    → IsHeld agrees k limits reading front → ((refusal k (Open addr) (run k reading.steps) ≡ None) × (answer ≡ done k (Open addr) (run k reading.steps))) × agrees server k (Open addr ∷ reading.steps)
    → answer.opened ≡ Some c → feeder.limits ≡ front.limits → feeder.pending ≡ [] → feeder.fault ≡ None
    → front'.feeders.items ≡ set front.feeders.items c (Some feeder) → front'.server ≡ server → front'.limits ≡ front.limits → stepped.done ≡ answer → stepped.drained.bytes ≡ []
    → IsTaken agrees k limits (Opens addr) reading stepped front'
opens {S} agrees k limits reading addr c answer stepped front front' server feeder h a slot limited empty sound feeders same_server same_limits says drains =
    let old : List Note = (run k reading.steps).notes in
    let new : List Note = (run k (Open addr ∷ reading.steps)).notes in
    let found : free_slot k (run k reading.steps) ≡ Some c = sym (ap (λ (d : Done). d.opened) a.0.1) ∙ slot in
    let free = free_is 0 k.slots old c found in
    let lt : c < length front.feeders.items = omega (arith, free.high, h.slots, h.feeders) in
    let l : new ≡ _ = opened_notes k addr reading.steps c a.0.0 found in
    record {
      new = with_step (Open addr) reading;
      stands = a.0.0;
      adds = refl;
      done = says ∙ done_is k (Open addr) reading.steps answer a.0.0 a.0.1;
      drained = drains;
      held = record {
        agreed = subst (λ (x : S). agrees x k (Open addr ∷ reading.steps)) (sym same_server) a.1;
        slots = h.slots;
        feeders = ap length feeders ∙ (length-set front.feeders.items c (Some feeder) ∙ h.feeders);
        limited = same_limits ∙ h.limited;
        held =
            subst (λ (p : List (Option Stream)). Holds limits new reading.rests p) (sym feeders)
            (each_set (λ (d : ℕ) (p : Option Stream). FeedsIfOpen limits d new (reading.rests d) p) front.feeders.items c (Some feeder) lt
            (λ d differs.
            let other = ne_eqb d c differs in
            feeder_stays limits d old new (reading.rests d) (reading.rests d) (get_or front.feeders.items d None) (ap (is_open d) l ∙ (rw other refl))
            (λ e. let was : is_shut d old ≡ false = (rw other at (sym (ap (is_shut d) l) ∙ e)) in was) refl (h.held d))
            (record {
              opened = ap (is_open c) l ∙ opened_here c addr old;
              limited = limited ∙ h.limited;
              fed = λ e. (empty ∙ sym (no_rest limits c old (reading.rests c) (get_or front.feeders.items c None) free.closed (h.held c)), sound);
            }));
      };
    }

-- an opening that was taken got a slot
pub opens_none : {S : Type 0} (agrees : S → Settings → List Step → Type 0) (k : Settings) (limits : Limits) (reading : Reading) (addr : List ℕ) (answer : Done) (server : S)
    → ((refusal k (Open addr) (run k reading.steps) ≡ None) × (answer ≡ done k (Open addr) (run k reading.steps))) × agrees server k (Open addr ∷ reading.steps)
    → answer.opened ≡ None → ⊥
opens_none agrees k limits reading addr answer server a none =
    welcome_free (mode (run k reading.steps).notes) (free_slot k (run k reading.steps)) a.0.0 (sym (ap (λ (d : Done). d.opened) a.0.1) ∙ none)

-- ---- a closing

was_open : (o : Bool) → unless_not_open o ≡ None → o ≡ true
was_open true e = refl
was_open false e = absurd cc

-- an open slot has a feeder
feeder_at : (limits : Limits) (c : ℕ) (l : List Note) (rest : List ℕ) (feeders : List (Option Stream)) (t : Bool) → nat_lt c (length feeders) ≡ t → is_open c l ≡ true
    → FeedsIfOpen limits c l rest (get_or feeders c None) → c < length feeders
feeder_at limits c l rest feeders true e opened p = grind (arith, nat_tests)
feeder_at limits c l rest feeders false e opened p =
    let far : length feeders ≤ c = grind (arith, nat_tests) in
    let shut = subst (λ (q : Option Stream). FeedsIfOpen limits c l rest q) (past_end feeders c far) p in
    absurd (let wrong : true ≡ false = sym opened ∙ shut.0 in let bad : ⊥ = cc in bad)

-- the notes of a closing that is taken
pub closed_notes : (k : Settings) (c : ℕ) (steps : List Step) → is_open c (run k steps).notes ≡ true → (run k (Close c ∷ steps)).notes ≡ (close k c (run k steps)).notes
closed_notes k c steps opened = ap (λ (o : Bool). (unless (unless_not_open o) (close k c (run k steps)) (run k steps)).notes) opened

-- slot c is closed, and the other feeders are as the notes before say, or at least their slots were open and shut so
closed_feeders : (k : Settings) (limits : Limits) (c : ℕ) (steps : List Step) (rests : ℕ → List ℕ) (feeders : List (Option Stream)) → c < length feeders → is_open c (run k steps).notes ≡ true
    → ((d : ℕ) → (d ≡ c → ⊥) → FeedsIfOpen limits d (run k steps).notes (rests d) (get_or feeders d None)) → Holds limits (run k (Close c ∷ steps)).notes (with_rest c [] rests) (set feeders c None)
closed_feeders k limits c steps rests feeders lt opened others =
    let old : List Note = (run k steps).notes in
    let new : List Note = (run k (Close c ∷ steps)).notes in
    let l : new ≡ (close k c (run k steps)).notes = closed_notes k c steps opened in
    each_set (λ (d : ℕ) (p : Option Stream). FeedsIfOpen limits d new (with_rest c [] rests d) p) feeders c None lt
    (λ d differs.
    let other = ne_eqb d c differs in
    let kept = close_keeps k c d (run k steps) other in
    feeder_stays limits d old new (rests d) (with_rest c [] rests d) (get_or feeders d None) (ap (is_open d) l ∙ kept.0) (λ e. sym kept.1 ∙ (sym (ap (is_shut d) l) ∙ e)) (other_rest c d [] rests other) (others d differs))
    (ap (is_open c) l ∙ close_closes k c (run k steps) (same_number c), this_rest c [] rests)

pub closes : {S : Type 0} (agrees : S → Settings → List Step → Type 0) (k : Settings) (limits : Limits) (reading : Reading) (c : ℕ) (answer : Done) (stepped : Stepped) (front front' : Front S) (server : S)
    → IsHeld agrees k limits reading front → ((refusal k (Close c) (run k reading.steps) ≡ None) × (answer ≡ done k (Close c) (run k reading.steps))) × agrees server k (Close c ∷ reading.steps)
    → front'.feeders.items ≡ set front.feeders.items c None → front'.server ≡ server → front'.limits ≡ front.limits → stepped.done ≡ answer → stepped.drained.bytes ≡ []
    → IsTaken agrees k limits (Closes c) reading stepped front'
closes {S} agrees k limits reading c answer stepped front front' server h a feeders same_server same_limits says drains =
    let l : List Note = (run k reading.steps).notes in
    let opened = was_open (is_open c l) a.0.0 in
    let lt = feeder_at limits c l (reading.rests c) front.feeders.items (nat_lt c (length front.feeders.items)) refl opened (h.held c) in
    record {
      new = with_closed c reading.steps reading.rests;
      stands = a.0.0;
      adds = refl;
      done = says ∙ done_is k (Close c) reading.steps answer a.0.0 a.0.1;
      drained = drains;
      held = record {
        agreed = subst (λ (x : S). agrees x k (Close c ∷ reading.steps)) (sym same_server) a.1;
        slots = h.slots;
        feeders = ap length feeders ∙ (length-set front.feeders.items c None ∙ h.feeders);
        limited = same_limits ∙ h.limited;
        held =
            subst (λ (p : List (Option Stream)). Holds limits (run k (Close c ∷ reading.steps)).notes (with_rest c [] reading.rests) p) (sym feeders)
            (closed_feeders k limits c reading.steps reading.rests front.feeders.items lt opened (λ d differs. h.held d));
      };
    }

-- ---- a piece

not_shut : (o s : Bool) → o ≡ true → (o && s) ≡ false → s ≡ false
not_shut true true o e = absurd cc
not_shut true false o e = refl
not_shut false s o e = absurd cc

takes : (o s : Bool) → o ≡ true → s ≡ false → (o && not s) ≡ true
takes true true o e = absurd cc
takes true false o e = refl
takes false s o e = absurd cc

takes_open : (o s : Bool) → (o && not s) ≡ true → o ≡ true
takes_open true s e = refl
takes_open false s e = absurd cc

-- once a fault was handed in, the slot is shut
sound : (k : Settings) (c : ℕ) (fault : Option UnitFault) (steps : List Step) (answered : Option FeedFault) → is_open c (run k steps).notes ≡ true
    → (fault ≡ None → answered ≡ None) → is_shut c (run k (faulted k c fault steps)).notes ≡ false → answered ≡ None
sound k c None steps answered o h shut = h refl
sound k c (Some fault) steps answered o h shut = absurd (let yes = fault_shuts k c fault steps o in let bad : true ≡ false = sym yes ∙ shut in let no : ⊥ = cc in no)

-- the feeder of a slot that takes units
feeder_of : {S : Type 0} (agrees : S → Settings → List Step → Type 0) (k : Settings) (limits : Limits) (reading : Reading) (c : ℕ) (front : Front S) (feeder : Stream)
    → IsHeld agrees k limits reading front → get_or front.feeders.items c None ≡ Some feeder → Feeds limits c (run k reading.steps).notes (reading.rests c) feeder
feeder_of agrees k limits reading c front feeder h is =
    subst (λ (p : Option Stream). FeedsIfOpen limits c (run k reading.steps).notes (reading.rests c) p) is (h.held c)

pub gives : {S : Type 0} (agrees : S → Settings → List Step → Type 0) (k : Settings) (limits : Limits) (reading : Reading) (c : ℕ) (piece : List ℕ) (created : Option ℕ) (stepped : Stepped) (front front' : Front S) (old new : Stream)
    → IsHeld agrees k limits reading front → c < length front.feeders.items → get_or front.feeders.items c None ≡ Some old → is_closing c (run k reading.steps) ≡ false
    → TakesPiece agrees c piece created front.server old front'.server new
    → front'.feeders.items ≡ set front.feeders.items c (Some new) → front'.limits ≡ front.limits → stepped.done ≡ record { opened = None; created = created } → stepped.drained.bytes ≡ []
    → IsTaken agrees k limits (Gives c piece) reading stepped front'
gives agrees k limits reading c piece created stepped front front' old new h lt is closing t feeders same_limits says drains =
    let past : Past = run k reading.steps in
    let feeder = feeder_of agrees k limits reading c front old h is in
    let unshut = not_shut (is_open c past.notes) (is_shut c past.notes) feeder.opened closing in
    let fed = feeder.fed unshut in
    let mid : List Step = with_units k c t.items reading.steps in
    let steps : List Step = faulted k c t.fault mid in
    let units = units_only_shut k c t.items reading.steps in
    let only : OnlyShuts past.notes (run k steps).notes = shuts_then past.notes (run k mid).notes (run k steps).notes units (fault_only_shuts k c t.fault mid) in
    let rest : List ℕ = new.pending in
    let after : Reading = given k c t.items rest t.fault reading in
    let went = t.after k reading.steps h.agreed in
    record {
      new = after;
      stands = ap unless_not_open (takes (is_open c past.notes) (is_shut c past.notes) feeder.opened unshut);
      adds = record {
        items = t.items;
        rest = rest;
        fault = t.fault;
        spelled =
            subst (λ (l : Limits). Spells l (reading.rests c ++ piece) t.items rest) feeder.limited
            (subst (λ (l : List ℕ). Spells old.limits (l ++ piece) t.items rest) fed.0 t.spelled);
        standing = subst (λ (l : Limits). Stands l rest t.fault) feeder.limited t.standing;
        adds = refl;
      };
      done = says ∙ ap (λ (m : Option ℕ). record { opened = None; created = m }) went.1;
      drained = drains;
      held = record {
        agreed = went.0;
        slots = h.slots;
        feeders = ap length feeders ∙ (length-set front.feeders.items c (Some new) ∙ h.feeders);
        limited = same_limits ∙ h.limited;
        held =
            subst (λ (p : List (Option Stream)). Holds limits (run k steps).notes after.rests p) (sym feeders)
            (each_set (λ (d : ℕ) (p : Option Stream). FeedsIfOpen limits d (run k steps).notes (after.rests d) p) front.feeders.items c (Some new) lt
            (λ d differs.
            feeder_stays limits d past.notes (run k steps).notes (reading.rests d) (after.rests d) (get_or front.feeders.items d None) (only.opens d) (only.shuts d)
            (other_rest c d (kept_if (takes_units c (run k steps).notes) rest) reading.rests (ne_eqb d c differs)) (h.held d))
            (record {
              opened = only.opens c ∙ feeder.opened;
              limited = t.limited ∙ feeder.limited;
              fed = λ e. (
                sym
                    (this_rest c (kept_if (takes_units c (run k steps).notes) rest) reading.rests
                    ∙ ap (λ (b : Bool). kept_if b rest) (takes (is_open c (run k steps).notes) (is_shut c (run k steps).notes) (only.opens c ∙ feeder.opened) e)),
                sound k c t.fault mid new.fault (units.opens c ∙ feeder.opened) t.sound e,
              );
            }));
      };
    }

-- a closing of an open slot is taken: it never lacks memory
never : (refused : ApplyError) → IsRefusal refused None → (refused ≡ Memory → ⊥) → ⊥
never Memory e m = m refl
never NotOpen e m = let bad : ⊥ = cc in bad
never NoSlot e m = let bad : ⊥ = cc in bad
never NotOwed e m = let bad : ⊥ = cc in bad
never Refusing e m = let bad : ⊥ = cc in bad

taken_close : {S : Type 0} (agrees : S → Settings → List Step → Type 0) (k : Settings) (c : ℕ) (steps : List Step) (server : S) (r : Result Done ApplyError) → is_open c (run k steps).notes ≡ true
    → Answers k steps (Close c) r × agrees server k (steps_after r (Close c) steps) → (IsErrOf r Memory → ⊥) → agrees server k (Close c ∷ steps)
taken_close agrees k c steps server (Ok answer) opened a m = a.1
taken_close agrees k c steps server (Err refused) opened a m =
    absurd (never refused (subst (λ (o : Bool). IsRefusal refused (unless_not_open o)) opened a.0) (λ e. m (ap Err e)))

pub cuts : {S : Type 0} (agrees : S → Settings → List Step → Type 0) (k : Settings) (limits : Limits) (reading : Reading) (c : ℕ) (piece : List ℕ) (units : ℕ) (r : Result Done ApplyError) (front front' : Front S) (server server' : S) (old new : Stream)
    → IsHeld agrees k limits reading front → c < length front.feeders.items → get_or front.feeders.items c None ≡ Some old → is_closing c (run k reading.steps) ≡ false
    → CutsShort agrees c front.server (with_bytes old piece) units server
    → ((k : Settings) (steps : List Step) → agrees server k steps → Answers k steps (Close c) r × agrees server' k (steps_after r (Close c) steps)) → (IsErrOf r Memory → ⊥)
    → front'.feeders.items ≡ set (set front.feeders.items c (Some new)) c None → front'.server ≡ server' → front'.limits ≡ front.limits
    → IsCutAt agrees k limits c piece units reading front'
cuts {S} agrees k limits reading c piece units r front front' server server' old new h lt is closing t closes m feeders same_server same_limits =
    let past : Past = run k reading.steps in
    let feeder = feeder_of agrees k limits reading c front old h is in
    let unshut = not_shut (is_open c past.notes) (is_shut c past.notes) feeder.opened closing in
    let stands = takes (is_open c past.notes) (is_shut c past.notes) feeder.opened unshut in
    let fed = feeder.fed unshut in
    let steps : List Step = with_units k c t.items reading.steps in
    let only = units_only_shut k c t.items reading.steps in
    let went = t.after k reading.steps h.agreed stands in
    let opened = takes_open (is_open c (run k steps).notes) (is_shut c (run k steps).notes) went.1 in
    let filled : List (Option Stream) = set front.feeders.items c (Some new) in
    let lt' : c < length filled = omega (arith, lt, length-set front.feeders.items c (Some new)) in
    record {
      new = with_closed c steps reading.rests;
      stands = ap unless_not_open stands;
      adds = record {
        items = t.items;
        count = t.count;
        rest = t.rest;
        begins =
            subst (λ (l : Limits). BeginsWith l (reading.rests c ++ piece) t.items t.rest) feeder.limited
            (subst (λ (l : List ℕ). BeginsWith old.limits (l ++ piece) t.items t.rest) fed.0 t.begins);
        left = subst (λ (l : Limits). (units ≡ 0) ⊎ ComesNext l t.rest) feeder.limited t.left;
        taken = went.1;
        adds = refl;
      };
      held = record {
        agreed = subst (λ (x : S). agrees x k (Close c ∷ steps)) (sym same_server) (taken_close agrees k c steps server' r opened (closes k steps went.0) m);
        slots = h.slots;
        feeders = ap length feeders ∙ (length-set filled c None ∙ (length-set front.feeders.items c (Some new) ∙ h.feeders));
        limited = same_limits ∙ h.limited;
        held =
            subst (λ (p : List (Option Stream)). Holds limits (run k (Close c ∷ steps)).notes (with_rest c [] reading.rests) p) (sym feeders)
            (closed_feeders k limits c steps reading.rests filled lt' opened
            (λ d differs.
            each_set (λ (d : ℕ) (p : Option Stream). (d ≡ c → ⊥) → FeedsIfOpen limits d (run k steps).notes (reading.rests d) p) front.feeders.items c (Some new) lt
            (λ d differs _. feeder_stays limits d past.notes (run k steps).notes (reading.rests d) (reading.rests d) (get_or front.feeders.items d None) (only.opens d) (only.shuts d) refl (h.held d))
            (λ differs. absurd (differs refl)) d differs));
      };
    }

-- a slot that isn't open, or is shut, takes no piece
takes_none : (o s : Bool) → o ≡ false → (o && not s) ≡ false
takes_none true s e = absurd cc
takes_none false s e = refl

shut_takes_none : (o s : Bool) → (o && s) ≡ true → (o && not s) ≡ false
shut_takes_none true true e = refl
shut_takes_none true false e = absurd cc
shut_takes_none false s e = absurd cc

-- a front whose parts are the same holds the same
held_as : {S : Type 0} (agrees : S → Settings → List Step → Type 0) (k : Settings) (limits : Limits) (reading : Reading) (front front' : Front S) → IsHeld agrees k limits reading front
    → front'.server ≡ front.server → front'.feeders ≡ front.feeders → front'.limits ≡ front.limits → IsHeld agrees k limits reading front'
held_as {S} agrees k limits reading front front' h server feeders same =
    record {
      agreed = subst (λ (x : S). agrees x k reading.steps) (sym server) h.agreed;
      slots = h.slots;
      feeders = ap (λ (v : _). length v.items) feeders ∙ h.feeders;
      limited = same ∙ h.limited;
      held = subst (λ (v : _). Holds limits (run k reading.steps).notes reading.rests v.items) (sym feeders) h.held;
    }

pub gives_past_end : {S : Type 0} (agrees : S → Settings → List Step → Type 0) (k : Settings) (limits : Limits) (reading : Reading) (c : ℕ) (piece : List ℕ) (front front' : Front S)
    → IsHeld agrees k limits reading front → front'.server ≡ front.server → front'.feeders ≡ front.feeders → front'.limits ≡ front.limits → length front.feeders.items ≤ c
    → IsRefused agrees k limits (Gives c piece) reading NotOpen front'
gives_past_end agrees k limits reading c piece front front' h server feeders same far =
    let l : List Note = (run k reading.steps).notes in
    let feeder = subst (λ (p : Option Stream). FeedsIfOpen limits c l (reading.rests c) p) (past_end front.feeders.items c far) (h.held c) in
    record {
      stands = ap unless_not_open (takes_none (is_open c l) (is_shut c l) feeder.0);
      held = held_as agrees k limits reading front front' h server feeders same;
    }

pub gives_shut : {S : Type 0} (agrees : S → Settings → List Step → Type 0) (k : Settings) (limits : Limits) (reading : Reading) (c : ℕ) (piece : List ℕ) (front front' : Front S)
    → IsHeld agrees k limits reading front → front'.server ≡ front.server → front'.feeders ≡ front.feeders → front'.limits ≡ front.limits → is_closing c (run k reading.steps) ≡ true
    → IsRefused agrees k limits (Gives c piece) reading NotOpen front'
gives_shut agrees k limits reading c piece front front' h server feeders same closing =
    let l : List Note = (run k reading.steps).notes in
    record {
      stands = ap unless_not_open (shut_takes_none (is_open c l) (is_shut c l) closing);
      held = held_as agrees k limits reading front front' h server feeders same;
    }

-- a slot past the last feeder isn't open
pub closed_past_end : {S : Type 0} (agrees : S → Settings → List Step → Type 0) (k : Settings) (limits : Limits) (reading : Reading) (c : ℕ) (front : Front S) → IsHeld agrees k limits reading front
    → length front.feeders.items ≤ c → is_open c (run k reading.steps).notes ≡ false
closed_past_end agrees k limits reading c front h far =
    (subst (λ (p : Option Stream). FeedsIfOpen limits c (run k reading.steps).notes (reading.rests c) p) (past_end front.feeders.items c far) (h.held c)).0

-- ---- lists of inputs

-- what a front agrees with after an answer
pub follows : {S : Type 0} (agrees : S → Settings → List Step → Type 0) (input : Input) (old new : Front S) (r : Result Stepped StepError) → Serves agrees input old r new
    → (k : Settings) (limits : Limits) (inputs : List Input) → Agrees agrees k limits inputs old → Agrees agrees k limits (inputs_after r input inputs) new
follows agrees input old new (Ok stepped) s k limits inputs a =
    let t = s k limits a.reading a.held in
    record {
      reading = t.new;
      reads = (a.reading, a.reads, subst (λ (q : Option ApplyError). AddsUnless q k limits input a.reading t.new) (sym t.stands) t.adds);
      held = t.held;
    }
follows agrees input old new (Err (Refused refused)) s k limits inputs a =
    record { reading = a.reading; reads = a.reads; held = (s k limits a.reading a.held).held }
follows agrees (Gives c piece) old new (Err (Cut units)) s k limits inputs a =
    let t = s k limits a.reading a.held in
    record {
      reading = t.new;
      reads = (a.reading, a.reads, subst (λ (q : Option ApplyError). AddsUnless q k limits (Cuts c piece units) a.reading t.new) (sym t.stands) t.adds);
      held = t.held;
    }
follows agrees (Opens addr) old new (Err (Cut units)) s k limits inputs a = absurd (s k limits a.reading a.held)
follows agrees (Cuts c piece more) old new (Err (Cut units)) s k limits inputs a = absurd (s k limits a.reading a.held)
follows agrees (Closes c) old new (Err (Cut units)) s k limits inputs a = absurd (s k limits a.reading a.held)
follows agrees (Ticks now) old new (Err (Cut units)) s k limits inputs a = absurd (s k limits a.reading a.held)
follows agrees (Takes c) old new (Err (Cut units)) s k limits inputs a = absurd (s k limits a.reading a.held)
follows agrees (Withdraws c) old new (Err (Cut units)) s k limits inputs a = absurd (s k limits a.reading a.held)
follows agrees (Drains c) old new (Err (Cut units)) s k limits inputs a = absurd (s k limits a.reading a.held)

-- ---- the beginning

fresh_place : (limits : Limits) (c : ℕ) (feeder : Option Stream) → feeder ≡ None → FeedsIfOpen limits c [] [] feeder
fresh_place limits c None e = (refl, refl)
fresh_place limits c (Some feeder) e = absurd (let bad : Some feeder ≡ None = e in let no : ⊥ = cc in no)

pub begins : {S : Type 0} (agrees : S → Settings → List Step → Type 0) (k : Settings) (front : Front S) → k.slots ≤ 1024 → agrees front.server k [] → length front.feeders.items ≡ 1024
    → ((c : ℕ) → get_or front.feeders.items c None ≡ None) → Agrees agrees k front.limits [] front
begins agrees k front few agreed count empty =
    record {
      reading = nothing_read;
      reads = refl;
      held = record {
        agreed = agreed;
        slots = few;
        feeders = count;
        limited = refl;
        held = λ c. fresh_place front.limits c (get_or front.feeders.items c None) (empty c);
      };
    }
