-- Units that are handed in one after another.
use Rattle.std.proofs.Common.{◌≡◌, ◌≤◌, ◌+◌, inl, inr, ℕ, arith, true, List, [], ◌∷◌, ◌++◌, length, Option, Some, None, refl, sym, ap}
use Rattle.std.proofs.Common.{subst, ◌∙◌, length-append}
use Rattle.std.specs.Option.{option_or}
use Rattle.gm_feeder.specs.declared.units.Limits.{Limits}
use Rattle.gm_feeder.specs.Units.{Item, APacket, ALine, IsUnitThen, Spells, BeginsNoUnit}
use Rattle.gm_feeder.specs.Streams.{Stream, GivesNone}
use Rattle.gm_feeder.proofs.StreamLemmas.{fault-begins_no_unit}
use Rattle.gm_notes.specs.declared.event.UnitFault.{UnitFault}
use Rattle.gm_notes.specs.Settings.{Settings}
use Rattle.gm_notes.specs.Notes.{takes_units}
use Rattle.gm_notes.specs.Steps.{Step, Fault, refusal, run}
use Rattle.gm_history.proofs.StepsKeep.{takes_open}
use Rattle.gm_front.specs.declared.feeding.Unloaded.{Unloaded}
use Rattle.gm_front.specs.Readings.{step_read}
use Rattle.gm_front.specs.Units.{step_said, step_of_unit, Stands, BeginsWith, GivesEvent, GivesFaultAs}
use Rattle.gm_front.specs.Inputs.{handed_in, with_units, created_since}
use Rattle.gm_front.specs.Feeding.{AgreesAfter, Lacks, Unloads, CutsShort}
use Rattle.gm_front.proofs.Steps.{jobs, units_grow, handed_grows, created_then}
use Rattle.gm_front.proofs.Reading.{unit_read}
use Rattle.gm_front.proofs.Heads.{begins_more, begins_spells, spells_begins, falls}
use Rattle.gm_notes.proofs.Numbers.{same_number}

pub with_units-push : (k : Settings) (c : ℕ) (items : List Item) (item : Item) (steps : List Step) → with_units k c (items ++ item ∷ []) steps ≡ handed_in k (step_of_unit k c item) (with_units k c items steps)
with_units-push k c [] item steps = refl
with_units-push k c (first ∷ items) item steps = with_units-push k c items item (handed_in k (step_of_unit k c first) steps)

-- these units were handed in, and more may stand there
pub record Unloading {S : Type 0} (agrees : S → Settings → List Step → Type 0) (c : ℕ) (server : S) (old : Stream) (units : ℕ) (created : Option ℕ) (server' : S) (new : Stream) : Type 0 where
  pub items : List Item
  pub count : length items ≡ units
  pub room : units + length new.pending ≤ length old.pending
  pub begins : BeginsWith old.limits old.pending items new.pending
  pub limited : new.limits ≡ old.limits
  pub after : AgreesAfter agrees (λ k steps. with_units k c items steps) created server server'

same_created : (k : Settings) (steps : List Step) → None ≡ created_since k steps steps
same_created k steps = rw (same_number (length (jobs k steps))) refl

pub unloading_none : {S : Type 0} (agrees : S → Settings → List Step → Type 0) (c : ℕ) (server : S) (old : Stream) → Unloading agrees c server old 0 None server old
unloading_none agrees c server old =
    record {
      items = [];
      count = refl;
      room = omega arith;
      begins = refl;
      limited = refl;
      after = λ k steps a. (a, same_created k steps);
    }

pub unloading_more : {S : Type 0} (agrees : S → Settings → List Step → Type 0) (c : ℕ) (first : S) (old : Stream) (units : ℕ) (created newer : Option ℕ) (server : S) (mid : Stream) (server' : S) (new : Stream) (s : Step)
    → Unloading agrees c first old units created server mid → GivesEvent c mid s new → AgreesAfter agrees (λ k steps. handed_in k (step_read k.as_gearmand s) steps) newer server server'
    → Unloading agrees c first old (units + 1) (option_or newer created) server' new
unloading_more agrees c first old units created newer server mid server' new s u h handed =
    record {
      items = u.items ++ h.item ∷ [];
      count = omega (arith, length-append u.items (h.item ∷ []), u.count);
      room = omega (arith, u.room, falls mid new h.item h.gives);
      begins = begins_more old.limits old.pending u.items h.item mid new u.limited u.begins h.gives;
      limited = ap (λ (s : Stream). s.limits) h.gives.kept ∙ u.limited;
      after = λ k steps a.
          let b = u.after k steps a in
          let mid_steps = with_units k c u.items steps in
          let read = ap (step_read k.as_gearmand) h.is_step ∙ unit_read k c h.item in
          let d = subst (λ (s : Step). agrees server' k (handed_in k s mid_steps) × (newer ≡ created_since k mid_steps (handed_in k s mid_steps))) read (handed k mid_steps b.0) in
          let last = handed_in k (step_of_unit k c h.item) mid_steps in
          subst (λ (l : List Step). agrees server' k l × (option_or newer created ≡ created_since k steps l)) (sym (with_units-push k c u.items h.item steps))
          (d.0, created_then k steps mid_steps last newer created (units_grow k c u.items steps) (handed_grows k (step_of_unit k c h.item) mid_steps) d.1 b.1);
    }

-- nothing more stands there
ends : {S : Type 0} (agrees : S → Settings → List Step → Type 0) (c : ℕ) (first : S) (old : Stream) (unloaded : Unloaded) (server : S) (mid : Stream) (new : Stream)
    → Unloading agrees c first old unloaded.units unloaded.created server mid → new.limits ≡ mid.limits → new.pending ≡ mid.pending → BeginsNoUnit mid.limits mid.pending → Stands mid.limits mid.pending unloaded.fault → (unloaded.fault ≡ None → new.fault ≡ None)
    → Unloads agrees c first old unloaded server new
ends agrees c first old unloaded server mid new u limited pending none stands sound =
    record {
      items = u.items;
      count = u.count;
      spelled =
          subst (λ (l : List ℕ). Spells old.limits old.pending u.items l) (sym pending)
          (begins_spells old.limits old.pending u.items mid.pending u.begins (subst (λ (l : Limits). BeginsNoUnit l mid.pending) u.limited none));
      standing = subst (λ (l : List ℕ). Stands old.limits l unloaded.fault) (sym pending) (subst (λ (l : Limits). Stands l mid.pending unloaded.fault) u.limited stands);
      limited = limited ∙ u.limited;
      sound = sound;
      after = u.after;
    }

pub ends_waiting : {S : Type 0} (agrees : S → Settings → List Step → Type 0) (c : ℕ) (first : S) (old : Stream) (unloaded : Unloaded) (server : S) (mid : Stream) (new : Stream)
    → Unloading agrees c first old unloaded.units unloaded.created server mid → unloaded.fault ≡ None → GivesNone mid new → Unloads agrees c first old unloaded server new
ends_waiting agrees c first old unloaded server mid new u no_fault g =
    ends agrees c first old unloaded server mid new u (ap (λ (s : Stream). s.limits) g.kept) (ap (λ (s : Stream). s.pending) g.kept) g.waits.no_unit
    (subst (λ (f : Option UnitFault). Stands mid.limits mid.pending f) (sym no_fault) g.waits) (λ e. ap (λ (s : Stream). s.fault) g.kept ∙ g.running)

pub ends_faulty : {S : Type 0} (agrees : S → Settings → List Step → Type 0) (c : ℕ) (first : S) (old : Stream) (unloaded : Unloaded) (server : S) (mid : Stream) (fault : UnitFault) (new : Stream)
    → Unloading agrees c first old unloaded.units unloaded.created server mid → unloaded.fault ≡ Some fault → GivesFaultAs mid fault new → Unloads agrees c first old unloaded server new
ends_faulty agrees c first old unloaded server mid fault new u faulty g =
    ends agrees c first old unloaded server mid new u (ap (λ (s : Stream). s.limits) g.gives.kept) (ap (λ (s : Stream). s.pending) g.gives.kept)
    (fault-begins_no_unit mid.limits mid.pending g.fed g.gives.stands)
    (subst (λ (f : Option UnitFault). Stands mid.limits mid.pending f) (sym faulty) (record { fed = g.fed; named = g.named; stands = g.gives.stands }))
    (λ e. absurd (let bad : Some fault ≡ None = sym faulty ∙ e in cc))

unit_taken : (k : Settings) (c : ℕ) (item : Item) (steps : List Step) → refusal k (step_said c item) (run k steps) ≡ None → takes_units c (run k steps).notes ≡ true
unit_taken k c (APacket kind bytes) steps e = takes_open (takes_units c (run k steps).notes) e
unit_taken k c (ALine bytes) steps e = takes_open (takes_units c (run k steps).notes) e

-- memory was wanting for the next unit
pub ends_short : {S : Type 0} (agrees : S → Settings → List Step → Type 0) (c : ℕ) (first : S) (old : Stream) (units : ℕ) (created : Option ℕ) (server : S) (mid new : Stream) (server' : S) (s : Step)
    → Unloading agrees c first old units created server mid → GivesEvent c mid s new → Lacks agrees s server server' → CutsShort agrees c first old units server'
ends_short agrees c first old units created server mid new server' s u h lacks =
    record {
      items = u.items;
      count = u.count;
      rest = mid.pending;
      begins = u.begins;
      left = inr (inl (h.item, new.pending, subst (λ (l : Limits). IsUnitThen l mid.pending h.item new.pending) u.limited h.gives.unit));
      after = λ k steps a takes.
          let l = lacks k (with_units k c u.items steps) (u.after k steps a).0 in
          (l.0, unit_taken k c h.item (with_units k c u.items steps) (subst (λ (s : Step). refusal k s (run k (with_units k c u.items steps)) ≡ None) h.is_step l.1));
    }

-- ---- a piece

-- no unit of it was taken
pub cut_at_once : {S : Type 0} (agrees : S → Settings → List Step → Type 0) (c : ℕ) (server : S) (old : Stream) → CutsShort agrees c server old 0 server
cut_at_once agrees c server old = record { items = []; count = refl; rest = old.pending; begins = refl; left = inl refl; after = λ k steps a takes. (a, takes) }

-- all units were taken, but not the fault after them
pub cut_at_fault : {S : Type 0} (agrees : S → Settings → List Step → Type 0) (c : ℕ) (server : S) (old : Stream) (unloaded : Unloaded) (fault : UnitFault) (server' : S) (new : Stream) (server'' : S)
    → Unloads agrees c server old unloaded server' new → unloaded.fault ≡ Some fault → Lacks agrees (Fault c fault) server' server'' → CutsShort agrees c server old unloaded.units server''
cut_at_fault agrees c server old unloaded fault server' new server'' u is lacks =
    record {
      items = u.items;
      count = u.count;
      rest = new.pending;
      begins = spells_begins old.limits old.pending u.items new.pending u.spelled;
      left = inr (inr (fault, subst (Stands old.limits new.pending) is u.standing));
      after = λ k steps a takes.
          let steps' = with_units k c u.items steps in
          let l = lacks k steps' (u.after k steps a).0 in
          (l.0, takes_open (takes_units c (run k steps').notes) l.1);
    }
