-- A piece that is cut in two.
use mathlib.Core.Path.{fun_ext}
use Rattle.std.proofs.Common.{◌≡◌, ℕ, Bool, true, false, not, ◌&&◌, if◌then◌else◌, List, [], ◌∷◌, ◌++◌, Option, Some, None}
use Rattle.std.proofs.Common.{refl, sym, ap, ap₂, subst, ◌∙◌, append_assoc}
use Rattle.std.specs.Prelude.{◌==◌}
use Rattle.gm_feeder.specs.declared.units.Limits.{Limits}
use Rattle.gm_feeder.specs.Units.{Item, APacket, ALine, IsUnitThen, Spells}
use Rattle.gm_feeder.proofs.StreamLemmas.{one_after, unit_stays, one_spelling, fault_stays, fault-begins_no_unit}
use Rattle.gm_notes.specs.declared.event.UnitFault.{UnitFault}
use Rattle.gm_notes.specs.Settings.{Settings}
use Rattle.gm_notes.specs.Notes.{is_open, is_shut, takes_units}
use Rattle.gm_notes.specs.Steps.{Step, Packet, Line, Fault, unless_not_open}
use Rattle.gm_notes.specs.Steps.{run}
use Rattle.gm_front.specs.Units.{step_of_unit, Stands, IsFaultAt}
use Rattle.gm_front.specs.Inputs.{Input, Gives, Reading, with_rest, unless_refused, handed_in, with_units, faulted, kept_if}
use Rattle.gm_front.specs.Inputs.{GivesPiece, AddsUnless, ReadsOn, Reads}
use Rattle.gm_front.proofs.OneReading.{one_standing, one_leading, one_reading}
use Rattle.gm_front.proofs.Feeders.{this_rest}
use Rattle.gm_front.proofs.Steps.{fault_shuts}

-- ---- units of a slot that takes none

unit_refused : (k : Settings) (c : ℕ) (item : Item) (steps : List Step) → takes_units c (run k steps).notes ≡ false → handed_in k (step_of_unit k c item) steps ≡ steps
unit_refused k c (APacket kind bytes) steps e = ap (λ (b : Bool). unless_refused (unless_not_open b) (step_of_unit k c (APacket kind bytes)) steps) e
unit_refused k c (ALine bytes) steps e = ap (λ (b : Bool). unless_refused (unless_not_open b) (Line c bytes) steps) e

units_refused : (k : Settings) (c : ℕ) (items : List Item) (steps : List Step) → takes_units c (run k steps).notes ≡ false → with_units k c items steps ≡ steps
units_refused k c [] steps e = refl
units_refused k c (item ∷ items) steps e = ap (with_units k c items) (unit_refused k c item steps e) ∙ units_refused k c items steps e

fault_refused : (k : Settings) (c : ℕ) (fault : Option UnitFault) (steps : List Step) → takes_units c (run k steps).notes ≡ false → faulted k c fault steps ≡ steps
fault_refused k c None steps e = refl
fault_refused k c (Some fault) steps e = ap (λ (b : Bool). unless_refused (unless_not_open b) (Fault c fault) steps) e

with_units-append : (k : Settings) (c : ℕ) (items more : List Item) (steps : List Step) → with_units k c (items ++ more) steps ≡ with_units k c more (with_units k c items steps)
with_units-append k c [] more steps = refl
with_units-append k c (item ∷ items) more steps = with_units-append k c items more (handed_in k (step_of_unit k c item) steps)

takes_open : (o s : Bool) → (o && not s) ≡ true → o ≡ true
takes_open true s e = refl
takes_open false s e = absurd cc

shut_takes_none : (o s : Bool) → s ≡ true → (o && not s) ≡ false
shut_takes_none true true e = refl
shut_takes_none true false e = absurd cc
shut_takes_none false s e = refl

-- after a fault the slot takes no units
fault_ends : (k : Settings) (c : ℕ) (fault : UnitFault) (steps : List Step) → takes_units c (run k steps).notes ≡ true → takes_units c (run k (faulted k c (Some fault) steps)).notes ≡ false
fault_ends k c fault steps takes =
    let opened = takes_open (is_open c (run k steps).notes) (is_shut c (run k steps).notes) takes in
    let after = (run k (handed_in k (Fault c fault) steps)).notes in
    shut_takes_none (is_open c after) (is_shut c after) (fault_shuts k c fault steps opened)

-- ---- the spelling of the whole

-- what comes after the first part's units
pub record Beyond (limits : Limits) (rest back : List ℕ) (first items : List Item) (end : List ℕ) : Type 0 where
  pub more : List Item
  pub joined : items ≡ first ++ more
  pub spelled : Spells limits (rest ++ back) more end

beyond : (limits : Limits) (front back : List ℕ) (first items : List Item) (rest end : List ℕ) → Spells limits front first rest → Spells limits (front ++ back) items end → Beyond limits rest back first items end
beyond limits front back [] items rest end s t =
    record { more = items; joined = refl; spelled = subst (λ (l : List ℕ). Spells limits (l ++ back) items end) s.0 t }
beyond limits front back (item ∷ first) [] rest end s t =
    absurd (t.1 item (s.0 ++ back) (subst (λ (l : List ℕ). IsUnitThen limits l item (s.0 ++ back)) t.0 (unit_stays limits front back item s.0 s.1)))
beyond limits front back (item ∷ first) (another ∷ items) rest end s t =
    let same = one_after limits (front ++ back) item another (s.0 ++ back) t.0 (unit_stays limits front back item s.0 s.1) t.1 in
    let b = beyond limits s.0 back first items rest end s.2 (subst (λ (l : List ℕ). Spells limits l items end) (sym same.1) t.2) in
    record { more = b.more; joined = ap₂ (λ (i : Item) (l : List Item). i ∷ l) (sym same.0) b.joined; spelled = b.spelled }

-- no unit comes after a fault
none_beyond : (limits : Limits) (rest back : List ℕ) (fault : UnitFault) (more : List Item) (end : List ℕ) → IsFaultAt limits rest fault → Spells limits (rest ++ back) more end → (more ≡ []) × (end ≡ rest ++ back)
none_beyond limits rest back fault [] end f s = (refl, sym s.0)
none_beyond limits rest back fault (item ∷ more) end f s =
    absurd (fault-begins_no_unit limits (rest ++ back) f.fed (fault_stays limits rest back f.fed f.stands) item s.0 s.1)

-- ---- the rest

twice : (t : Bool) (rest other here : List ℕ) → (if t then rest else (if t then other else here)) ≡ (if t then rest else here)
twice true rest other here = refl
twice false rest other here = refl

rest_again : (c : ℕ) (rest other : List ℕ) (rests : ℕ → List ℕ) → with_rest c rest (with_rest c other rests) ≡ with_rest c rest rests
rest_again c rest other rests = fun_ext (λ d. twice (d == c) rest other (rests d))

-- a slot that takes units no more, with these steps
abbrev ended : ℕ → List Step → Reading → Reading
ended c steps old = record { steps = steps; rests = with_rest c [] old.rests }

ended_by : (k : Settings) (c : ℕ) (steps : List Step) (rest : List ℕ) (old : Reading) → takes_units c (run k steps).notes ≡ false
    → record { steps = steps; rests = with_rest c (kept_if (takes_units c (run k steps).notes) rest) old.rests } ≡ ended c steps old
ended_by k c steps rest old e = ap (λ (b : Bool). record { steps = steps; rests = with_rest c (kept_if b rest) old.rests }) e

-- the reading of these steps and this rest
abbrev reading_of : Settings → ℕ → List Step → List ℕ → Reading → Reading
reading_of k c steps rest old = record { steps = steps; rests = with_rest c (kept_if (takes_units c (run k steps).notes) rest) old.rests }

-- ---- the law

-- the first part and the whole, and what the second part does
record Cut (k : Settings) (limits : Limits) (c : ℕ) (front back : List ℕ) (old whole mid new : Reading) : Type 0 where
  w : GivesPiece k limits c (front ++ back) old whole
  g : GivesPiece k limits c front old mid
  second : ReadsOn k limits (Gives c back) mid new
  b : Beyond limits g.rest back g.items w.items w.rest

-- a slot that takes no units takes no second part
none_new : (k : Settings) (limits : Limits) (c : ℕ) (back : List ℕ) (mid new : Reading) → takes_units c (run k mid.steps).notes ≡ false → ReadsOn k limits (Gives c back) mid new → new ≡ mid
none_new k limits c back mid new e l = let h : new ≡ mid = subst (λ (t : Bool). AddsUnless (unless_not_open t) k limits (Gives c back) mid new) e l in h

some_new : (k : Settings) (limits : Limits) (c : ℕ) (back : List ℕ) (mid new : Reading) → takes_units c (run k mid.steps).notes ≡ true → ReadsOn k limits (Gives c back) mid new → GivesPiece k limits c back mid new
some_new k limits c back mid new e l = let h : GivesPiece k limits c back mid new = subst (λ (t : Bool). AddsUnless (unless_not_open t) k limits (Gives c back) mid new) e l in h

-- the slot was shut when the first part's steps were taken
shut_after : (k : Settings) (limits : Limits) (c : ℕ) (back : List ℕ) (steps : List Step) (old whole mid new : Reading) → takes_units c (run k steps).notes ≡ false → whole ≡ ended c steps old → mid ≡ ended c steps old
    → ReadsOn k limits (Gives c back) mid new → whole ≡ new
shut_after k limits c back steps old whole mid new e w m l =
    let none : takes_units c (run k mid.steps).notes ≡ false = ap (λ (r : Reading). takes_units c (run k r.steps).notes) m ∙ e in
    w ∙ (sym m ∙ sym (none_new k limits c back mid new none l))

-- the units of the whole are those of the first part, and more
all_units : (k : Settings) (limits : Limits) (c : ℕ) (front back : List ℕ) (old whole mid new : Reading) (p : Cut k limits c front back old whole mid new)
    → with_units k c p.w.items old.steps ≡ with_units k c p.b.more (with_units k c p.g.items old.steps)
all_units k limits c front back old whole mid new p =
    ap (λ (l : List Item). with_units k c l old.steps) p.b.joined ∙ with_units-append k c p.g.items p.b.more old.steps

-- a unit of the first part shut the slot
cut_shut : (k : Settings) (limits : Limits) (c : ℕ) (front back : List ℕ) (old whole mid new : Reading) (p : Cut k limits c front back old whole mid new)
    → takes_units c (run k (with_units k c p.g.items old.steps)).notes ≡ false → whole ≡ new
cut_shut k limits c front back old whole mid new p e =
    let steps : List Step = with_units k c p.g.items old.steps in
    let all : faulted k c p.w.fault (with_units k c p.w.items old.steps) ≡ steps =
    ap (faulted k c p.w.fault) (all_units k limits c front back old whole mid new p ∙ units_refused k c p.b.more steps e) ∙ fault_refused k c p.w.fault steps e
    in
    shut_after k limits c back steps old whole mid new e
    (p.w.adds ∙ (ap (λ (s : List Step). reading_of k c s p.w.rest old) all ∙ ended_by k c steps p.w.rest old e))
    (p.g.adds ∙ (ap (λ (s : List Step). reading_of k c s p.g.rest old) (fault_refused k c p.g.fault steps e) ∙ ended_by k c steps p.g.rest old e))
    p.second

-- a fault stands after the first part
cut_faulty : (k : Settings) (limits : Limits) (c : ℕ) (front back : List ℕ) (old whole mid new : Reading) (p : Cut k limits c front back old whole mid new) (fault : UnitFault) → p.g.fault ≡ Some fault
    → takes_units c (run k (with_units k c p.g.items old.steps)).notes ≡ true → whole ≡ new
cut_faulty k limits c front back old whole mid new p fault faulty e =
    let units : List Step = with_units k c p.g.items old.steps in
    let steps : List Step = faulted k c (Some fault) units in
    let none = fault_ends k c fault units e in
    let stands : IsFaultAt limits p.g.rest fault = subst (λ (f : Option UnitFault). Stands limits p.g.rest f) faulty p.g.standing in
    let beyond = none_beyond limits p.g.rest back fault p.b.more p.w.rest stands p.b.spelled in
    let still : Stands limits (p.g.rest ++ back) (Some fault) = record { fed = stands.fed; named = stands.named; stands = fault_stays limits p.g.rest back stands.fed stands.stands } in
    let same : p.w.fault ≡ Some fault =
    one_standing limits (p.g.rest ++ back) p.w.fault (Some fault) (subst (λ (l : List ℕ). Stands limits l p.w.fault) beyond.1 p.w.standing) still
    in
    let all : faulted k c p.w.fault (with_units k c p.w.items old.steps) ≡ steps =
    ap₂ (λ (f : Option UnitFault) (s : List Step). faulted k c f s) same
    (all_units k limits c front back old whole mid new p ∙ ap (λ (l : List Item). with_units k c l units) beyond.0)
    in
    shut_after k limits c back steps old whole mid new none
    (p.w.adds ∙ (ap (λ (s : List Step). reading_of k c s p.w.rest old) all ∙ ended_by k c steps p.w.rest old none))
    (p.g.adds ∙ (ap (λ (f : Option UnitFault). reading_of k c (faulted k c f units) p.g.rest old) faulty ∙ ended_by k c steps p.g.rest old none))
    p.second

-- the slot goes on
cut_on : (k : Settings) (limits : Limits) (c : ℕ) (front back : List ℕ) (old whole mid new : Reading) (p : Cut k limits c front back old whole mid new) → p.g.fault ≡ None
    → takes_units c (run k (with_units k c p.g.items old.steps)).notes ≡ true → whole ≡ new
cut_on k limits c front back old whole mid new p no_fault e =
    let units : List Step = with_units k c p.g.items old.steps in
    let on : Reading = record { steps = units; rests = with_rest c p.g.rest old.rests } in
    let mid_is : mid ≡ on =
    p.g.adds
    ∙ (ap (λ (f : Option UnitFault). reading_of k c (faulted k c f units) p.g.rest old) no_fault
    ∙ ap (λ (t : Bool). record { steps = units; rests = with_rest c (kept_if t p.g.rest) old.rests }) e)
    in
    let h : GivesPiece k limits c back on new = some_new k limits c back on new e (subst (λ (r : Reading). ReadsOn k limits (Gives c back) r new) mid_is p.second) in
    let spelled : Spells limits (p.g.rest ++ back) h.items h.rest = subst (λ (l : List ℕ). Spells limits (l ++ back) h.items h.rest) (this_rest c p.g.rest old.rests) h.spelled in
    let same = one_spelling limits (p.g.rest ++ back) p.b.more h.items p.w.rest h.rest p.b.spelled spelled in
    let fault : p.w.fault ≡ h.fault = one_standing limits h.rest p.w.fault h.fault (subst (λ (l : List ℕ). Stands limits l p.w.fault) same.1 p.w.standing) h.standing in
    let steps : List Step = faulted k c h.fault (with_units k c h.items units) in
    let all : faulted k c p.w.fault (with_units k c p.w.items old.steps) ≡ steps =
    ap₂ (λ (f : Option UnitFault) (s : List Step). faulted k c f s) fault
    (all_units k limits c front back old whole mid new p ∙ ap (λ (l : List Item). with_units k c l units) same.0)
    in
    p.w.adds
    ∙ (ap₂ (λ (s : List Step) (rest : List ℕ). reading_of k c s rest old) all same.1
    ∙ (ap (λ (rests : ℕ → List ℕ). record { steps = steps; rests = rests }) (sym (rest_again c (kept_if (takes_units c (run k steps).notes) h.rest) p.g.rest old.rests))
    ∙ sym h.adds))

cut_fault : (k : Settings) (limits : Limits) (c : ℕ) (front back : List ℕ) (old whole mid new : Reading) (p : Cut k limits c front back old whole mid new) (fault : Option UnitFault) → p.g.fault ≡ fault
    → takes_units c (run k (with_units k c p.g.items old.steps)).notes ≡ true → whole ≡ new
cut_fault k limits c front back old whole mid new p None f e = cut_on k limits c front back old whole mid new p f e
cut_fault k limits c front back old whole mid new p (Some fault) f e = cut_faulty k limits c front back old whole mid new p fault f e

cut_taken : (k : Settings) (limits : Limits) (c : ℕ) (front back : List ℕ) (old whole mid new : Reading) (p : Cut k limits c front back old whole mid new) (t : Bool)
    → takes_units c (run k (with_units k c p.g.items old.steps)).notes ≡ t → whole ≡ new
cut_taken k limits c front back old whole mid new p true e = cut_fault k limits c front back old whole mid new p p.g.fault refl e
cut_taken k limits c front back old whole mid new p false e = cut_shut k limits c front back old whole mid new p e

cut_by : (k : Settings) (limits : Limits) (c : ℕ) (front back : List ℕ) (old whole mid new : Reading) (t : Bool) → takes_units c (run k old.steps).notes ≡ t → ReadsOn k limits (Gives c (front ++ back)) old whole
    → ReadsOn k limits (Gives c front) old mid → ReadsOn k limits (Gives c back) mid new → whole ≡ new
cut_by k limits c front back old whole mid new true e w g l =
    let first = some_new k limits c front old mid e g in
    let all = some_new k limits c (front ++ back) old whole e w in
    let p : Cut k limits c front back old whole mid new =
    record {
      w = all;
      g = first;
      second = l;
      b = beyond limits (old.rests c ++ front) back first.items all.items first.rest all.rest first.spelled
          (subst (λ (bytes : List ℕ). Spells limits bytes all.items all.rest) (sym (append_assoc (old.rests c) front back)) all.spelled);
    }
    in
    cut_taken k limits c front back old whole mid new p (takes_units c (run k (with_units k c first.items old.steps)).notes) refl
cut_by k limits c front back old whole mid new false e w g l =
    let same : mid ≡ old = none_new k limits c front old mid e g in
    none_new k limits c (front ++ back) old whole e w
    ∙ (sym same ∙ sym (none_new k limits c back mid new (ap (λ (r : Reading). takes_units c (run k r.steps).notes) same ∙ e) l))

pub any_cut : (k : Settings) (limits : Limits) (before after : List Input) (c : ℕ) (front back : List ℕ) (whole parts : Reading) → Reads k limits (after ++ Gives c (front ++ back) ∷ before) whole
    → Reads k limits (after ++ Gives c back ∷ Gives c front ∷ before) parts → whole ≡ parts
any_cut k limits before [] c front back whole parts w p =
    let same = one_reading k limits before w.0 p.1.0 w.1 p.1.1 in
    cut_by k limits c front back p.1.0 whole p.0 parts (takes_units c (run k p.1.0.steps).notes) refl (subst (λ (r : Reading). ReadsOn k limits (Gives c (front ++ back)) r whole) same w.2) p.1.2 p.2
any_cut k limits before (input ∷ after) c front back whole parts w p =
    let same = any_cut k limits before after c front back w.0 p.0 w.1 p.1 in
    one_leading k limits input p.0 whole parts (subst (λ (r : Reading). ReadsOn k limits input r whole) same w.2) p.2
