-- Slots that aren't open have no rest.
use Rattle.std.proofs.Common.{◌≡◌, ℕ, Bool, true, false, not, ◌&&◌, if◌then◌else◌, List, [], ◌∷◌, Option, Some, None}
use Rattle.std.proofs.Common.{refl, sym, ap, subst, ◌∙◌}
use Rattle.std.specs.Prelude.{◌==◌, unwrap_or}
use Rattle.gm_feeder.specs.declared.units.Limits.{Limits}
use Rattle.gm_notes.specs.declared.event.ApplyError.{ApplyError}
use Rattle.gm_notes.specs.Settings.{Settings}
use Rattle.gm_notes.specs.Notes.{is_open, is_shut, takes_units}
use Rattle.gm_notes.specs.Past.{Past}
use Rattle.gm_notes.specs.Closings.{close}
use Rattle.gm_notes.specs.Steps.{Step, Open, Close, Tick, Took, Withdrew, Drain, free_slot, opening, refusal, unless, unless_not_open}
use Rattle.gm_notes.specs.Steps.{add, run}
use Rattle.gm_notes.proofs.Slots.{close_keeps}
use Rattle.gm_front.specs.Inputs.{Input, Opens, Gives, Cuts, Closes, Ticks, Takes, Withdraws, Drains, Reading, with_step}
use Rattle.gm_front.specs.Inputs.{with_rest, with_units, faulted, kept_if, with_closed, Adds, AddsUnless, refusal_of, ReadsOn}
use Rattle.gm_front.specs.Inputs.{Reads}
use Rattle.gm_front.proofs.Steps.{OnlyShuts, shuts_then, step_only_shuts, units_only_shut, fault_only_shuts, free_is}
use Rattle.std.proofs.lemmas.Bool.{eqb-true}

-- ---- who isn't open wasn't before

opened_by : (t b : Bool) → unwrap_or (if t then Some true else None) b ≡ false → b ≡ false
opened_by true b e = absurd cc
opened_by false b e = e

before_opening : (free : Option ℕ) (addr : List ℕ) (c : ℕ) (past : Past) → is_open c (opening free addr past).notes ≡ false → is_open c past.notes ≡ false
before_opening None addr c past e = e
before_opening (Some d) addr c past e = opened_by (c == d) (is_open c past.notes) e

before_open : (r : Option ApplyError) (k : Settings) (addr : List ℕ) (c : ℕ) (past : Past) → is_open c (unless r (add k (Open addr) past) past).notes ≡ false → is_open c past.notes ≡ false
before_open None k addr c past e = before_opening (free_slot k past) addr c past e
before_open (Some refused) k addr c past e = e

before_close : (r : Option ApplyError) (k : Settings) (d c : ℕ) (past : Past) → (c == d) ≡ false → is_open c (unless r (close k d past) past).notes ≡ false → is_open c past.notes ≡ false
before_close None k d c past other e = sym (close_keeps k d c past other).0 ∙ e
before_close (Some refused) k d c past other e = e

takes_open : (o s : Bool) → (o && not s) ≡ true → o ≡ true
takes_open true s e = refl
takes_open false s e = absurd cc

was_taken : (t : Bool) → unless_not_open t ≡ None → t ≡ true
was_taken true e = refl
was_taken false e = absurd cc

-- ---- rests

-- slot c has no rest where it isn't open
abbrev HasNone : Settings → ℕ → Reading → Type 0
HasNone k c reading = is_open c (run k reading.steps).notes ≡ false → reading.rests c ≡ []

closed_none : (t : Bool) (k : Settings) (d c : ℕ) (steps : List Step) (rests : ℕ → List ℕ) → (c == d) ≡ t → (is_open c (run k steps).notes ≡ false → rests c ≡ []) → HasNone k c (with_closed d steps rests)
closed_none true k d c steps rests same h = λ e. rw same refl
closed_none false k d c steps rests other h = λ e. rw other (h (before_close (refusal k (Close d) (run k steps)) k d c (run k steps) other e))

given_none : (t : Bool) (k : Settings) (d c : ℕ) (rest : List ℕ) (steps : List Step) (old : Reading) → (c == d) ≡ t → is_open d (run k old.steps).notes ≡ true → OnlyShuts (run k old.steps).notes (run k steps).notes → HasNone k c old
    → HasNone k c (record { steps = steps; rests = with_rest d rest old.rests })
given_none true k d c rest steps old same opened only h = λ e.
    absurd
    (let here : is_open d (run k steps).notes ≡ false = subst (λ (x : ℕ). is_open x (run k steps).notes ≡ false) (eqb-true c d same) e in
    let wrong : true ≡ false = sym opened ∙ (sym (only.opens d) ∙ here) in
    let bad : ⊥ = cc in bad)
given_none false k d c rest steps old other opened only h = λ e. rw other (h (sym (only.opens c) ∙ e))

-- with a step that opens and closes nothing
stepped_none : (k : Settings) (c : ℕ) (s : Step) (old : Reading) → OnlyShuts (run k old.steps).notes (run k (s ∷ old.steps)).notes → HasNone k c old → HasNone k c (with_step s old)
stepped_none k c s old only h = λ e. h (sym (only.opens c) ∙ e)

added_none : (k : Settings) (limits : Limits) (input : Input) (c : ℕ) (old new : Reading) → refusal_of k input old ≡ None → Adds k limits input old new → HasNone k c old → HasNone k c new
added_none k limits (Opens addr) c old new r a h =
    subst (HasNone k c) (sym a) (λ e. h (before_open (refusal k (Open addr) (run k old.steps)) k addr c (run k old.steps) e))
added_none k limits (Gives d piece) c old new r g h =
    let opened = takes_open (is_open d (run k old.steps).notes) (is_shut d (run k old.steps).notes) (was_taken (takes_units d (run k old.steps).notes) r) in
    let mid = with_units k d g.items old.steps in
    let steps = faulted k d g.fault mid in
    let only = shuts_then (run k old.steps).notes (run k mid).notes (run k steps).notes (units_only_shut k d g.items old.steps) (fault_only_shuts k d g.fault mid) in
    subst (HasNone k c) (sym g.adds) (given_none (c == d) k d c (kept_if (takes_units d (run k steps).notes) g.rest) steps old refl opened only h)
added_none k limits (Cuts d piece units) c old new r g h =
    let only = units_only_shut k d g.items old.steps in
    subst (HasNone k c) (sym g.adds) (closed_none (c == d) k d c (with_units k d g.items old.steps) old.rests refl (λ e. h (sym (only.opens c) ∙ e)))
added_none k limits (Closes d) c old new r a h = subst (HasNone k c) (sym a) (closed_none (c == d) k d c old.steps old.rests refl h)
added_none k limits (Ticks now) c old new r a h = subst (HasNone k c) (sym a) (stepped_none k c (Tick now) old (step_only_shuts k (Tick now) old.steps refl) h)
added_none k limits (Takes d) c old new r a h = subst (HasNone k c) (sym a) (stepped_none k c (Took d) old (step_only_shuts k (Took d) old.steps refl) h)
added_none k limits (Withdraws d) c old new r a h = subst (HasNone k c) (sym a) (stepped_none k c (Withdrew d) old (step_only_shuts k (Withdrew d) old.steps refl) h)
added_none k limits (Drains d) c old new r a h = subst (HasNone k c) (sym a) (stepped_none k c (Drain d) old (step_only_shuts k (Drain d) old.steps refl) h)

led_none : (r : Option ApplyError) (k : Settings) (limits : Limits) (input : Input) (c : ℕ) (old new : Reading) → refusal_of k input old ≡ r → AddsUnless r k limits input old new → HasNone k c old → HasNone k c new
led_none None k limits input c old new e a h = added_none k limits input c old new e a h
led_none (Some refused) k limits input c old new e a h = subst (HasNone k c) (sym a) h

pub no_rest : (k : Settings) (limits : Limits) (inputs : List Input) (reading : Reading) (c : ℕ) → Reads k limits inputs reading → is_open c (run k reading.steps).notes ≡ false → reading.rests c ≡ []
no_rest k limits [] reading c r = λ e. ap (λ (x : Reading). x.rests c) r
no_rest k limits (input ∷ older) reading c r =
    led_none (refusal_of k input r.0) k limits input c r.0 reading refl r.2 (no_rest k limits older r.0 c r.1)

opened_rests : (r : Option ApplyError) (k : Settings) (limits : Limits) (addr : List ℕ) (c : ℕ) (old new : Reading) → AddsUnless r k limits (Opens addr) old new → new.rests c ≡ old.rests c
opened_rests None k limits addr c old new a = ap (λ (x : Reading). x.rests c) a
opened_rests (Some refused) k limits addr c old new a = ap (λ (x : Reading). x.rests c) a

pub begins_anew : (k : Settings) (limits : Limits) (inputs : List Input) (addr : List ℕ) (old new : Reading) (c : ℕ) → Reads k limits inputs old → ReadsOn k limits (Opens addr) old new
    → free_slot k (run k old.steps) ≡ Some c → new.rests c ≡ []
begins_anew k limits inputs addr old new c r l free =
    opened_rests (refusal_of k (Opens addr) old) k limits addr c old new l
    ∙ no_rest k limits inputs old c r (free_is 0 k.slots (run k old.steps).notes c free).closed
