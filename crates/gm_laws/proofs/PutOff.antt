-- The taking of a NOOP is put off.
use Rattle.std.proofs.Common.{◌≡◌, ℕ, Bool, true, false, cond, not, ◌&&◌, List, [], ◌∷◌, ◌++◌, Option, Some, None, refl, sym}
use Rattle.std.proofs.Common.{ap, subst, ◌∙◌, arith}
use Rattle.std.specs.Prelude.{◌==◌, unwrap_or}
use Rattle.std.specs.List.{list_all}
use Rattle.std.proofs.lemmas.Bool.{and_parts}
use Rattle.std.proofs.lemmas.Bool.Decides.{nat_tests}
use Rattle.gm_packet.specs.Kinds.{kind_of}
use Rattle.gm_notes.specs.declared.states.Phase.{Phase}
use Rattle.gm_notes.specs.declared.states.Phase.TheVariants.{Awake, Asleep, Owed}
use Rattle.gm_notes.specs.declared.event.ApplyError.{ApplyError}
use Rattle.gm_notes.specs.declared.event.ApplyError.TheVariants.{NotOpen, NotOwed}
use Rattle.gm_notes.specs.declared.note.Note.{Note}
use Rattle.gm_notes.specs.declared.note.Note.TheVariants as notes
use Rattle.gm_notes.specs.Settings.{Settings}
use Rattle.gm_notes.specs.Notes.{is_open, phase, is_asleep, is_owed}
use Rattle.gm_notes.specs.Past.{Past, with_note}
use Rattle.gm_notes.specs.Flow.{waiting}
use Rattle.gm_notes.specs.JobStates.{place_of}
use Rattle.gm_notes.specs.Steps.{Step, Packet, Took, Withdrew, refusal, if_owed, unless, step, run}
use Rattle.gm_history.specs.History.{Allowed, History}
use Rattle.gm_history.specs.Causes.{Caused, asks, is_one_of, is_sleeping}
use Rattle.gm_laws.specs.Laws.{lets_pass, AllGoAlike, TellAlike, MayBeTakenLater}
use Rattle.gm_history.proofs.Keeping.{keeps_notes}
use Rattle.gm_history.proofs.StepsKeep.{step_keeps, run_history}
use Rattle.gm_laws.proofs.Alike.{Alike, alike_taken, alike_untaken}
use Rattle.gm_laws.proofs.SideBySide.{PhasesFor, steps_alike, phases_after, flows_after, goes_alike}
use Rattle.gm_notes.proofs.Numbers.{same_number}
use Rattle.std.proofs.lemmas.Bool.{not-true}
use Rattle.std.proofs.lemmas.Bool.{eqb-true}
use Rattle.std.proofs.lemmas.Bool.{false_from_ne_true}
use Rattle.gm_laws.proofs.Moving.{both_not}

-- ---- tests

turned : (c d : ℕ) → (c == d) ≡ false → (d == c) ≡ false
turned c d e = grind (arith, nat_tests)

-- ---- a slot to which a NOOP is owed, or that was just given one, is left so

sleeps_not : (c : ℕ) (s : Step) → lets_pass c s ≡ true → asks is_sleeping c s ≡ false
sleeps_not c (Packet d number bytes) e = not-true (asks is_sleeping c (Packet d number bytes)) e
sleeps_not c other e = refl

-- slot c is open, and its phase is this
abbrev IsAt : ℕ → Phase → List Note → Type 0
IsAt c at l = (is_open c l ≡ true) × (phase c l ≡ at)

module _ (k : Settings) (c : ℕ) (at : Phase) (calm : is_asleep at ≡ false) (start : Past) (s : Step) (lets : lets_pass c s ≡ true) where
  not_asleep : (d : ℕ) (older : List Note) → IsAt c at older → is_asleep (phase d older) ≡ true → (c == d) ≡ false
  not_asleep d older p asleep =
      false_from_ne_true (c == d) (λ e. both_not (is_asleep at) (ap is_asleep (sym p.1) ∙ ap (λ x. is_asleep (phase x older)) (eqb-true c d e) ∙ asleep) calm)

  at_more : (note : Note) (older : List Note) → Allowed k note older → Caused k start.notes s note older → IsAt c at older → IsAt c at (note ∷ older)
  at_more (notes.Opened d addr) older allowed cause p =
      let other = false_from_ne_true (c == d) (λ e. both_not (is_open d older) (ap (λ x. is_open x older) (sym (eqb-true c d e)) ∙ p.0) allowed.0) in rw other p
  at_more (notes.Closed d) older allowed cause p = let other = not-true (c == d) (ap (lets_pass c) (sym cause) ∙ lets) in rw other p
  at_more (notes.Slept d) older allowed cause p =
      let other = false_from_ne_true (c == d) (λ e. both_not (asks is_sleeping d s) cause (ap (λ x. asks is_sleeping x s) (sym (eqb-true c d e)) ∙ sleeps_not c s lets)) in rw other p
  at_more (notes.Woken d) older allowed cause p = let other = not_asleep d older p allowed.1 in rw other p
  at_more (notes.Stirred d) older allowed cause p = let other = not_asleep d older p allowed in rw other p
  at_more (notes.Took d) older allowed cause p = let other = not-true (c == d) (ap (lets_pass c) (sym cause) ∙ lets) in rw other p
  at_more (notes.Withdrew d) older allowed cause p = let other = not-true (c == d) (ap (lets_pass c) (sym cause) ∙ lets) in rw other p
  at_more note older allowed cause p = p

  stays : History k start.notes → IsAt c at start.notes → IsAt c at (step k s start).notes
  stays h p = (step_keeps start s (keeps_notes (λ l. IsAt c at l) (λ note older allowed cause g q. at_more note older allowed cause q)) (λ d e g q. q) (h, p)).1

-- ---- between

-- a NOOP of slot c is owed to it in the one past, and was taken in the other; there is no other difference
record Apart (c : ℕ) (late early : Past) : Type 0 where
  alike : Alike late.notes early.notes
  owed : IsAt c Owed late.notes
  awake : IsAt c Awake early.notes
  others : (d : ℕ) → (d == c) ≡ false → phase d late.notes ≡ phase d early.notes
  flows : late.flow ≡ early.flow

taken_at : (c d : ℕ) (l : List Note) (t : Bool) → (d == c) ≡ t → phase c l ≡ Owed → is_asleep (phase d l) ≡ is_asleep (unwrap_or (cond t (Some Awake) None) (phase d l))
taken_at c d l true is e = ap (λ x. is_asleep (phase x l)) (eqb-true d c is) ∙ ap is_asleep e
taken_at c d l false is e = refl

apart_at_first : (c : ℕ) (past : Past) → IsAt c Owed past.notes → Apart c past (with_note (notes.Took c) past)
apart_at_first c past p = record {
  alike = alike_untaken c past.notes (λ d. taken_at c d past.notes (d == c) refl p.1);
  owed = p;
  awake = (p.0, rw (same_number c) refl);
  others = λ d other. rw other refl;
  flows = refl;
}

unasked : (t u : Bool) → not (t && u) ≡ true → u ≡ true → t ≡ false
unasked true true e g = absurd cc
unasked true false e g = absurd cc
unasked false u e g = refl

-- what lets the taking pass doesn't ask for the phase of slot c
phases_for : (c : ℕ) (s : Step) (late early : Past) → lets_pass c s ≡ true → Apart c late early → PhasesFor s late early
phases_for c (Packet d number bytes) late early lets p = λ sleeps. p.others d (turned c d (unasked (c == d) (is_one_of is_sleeping (kind_of number)) lets sleeps))
phases_for c (Took d) late early lets p = p.others d (turned c d (not-true (c == d) lets))
phases_for c (Withdrew d) late early lets p = p.others d (turned c d (not-true (c == d) lets))
phases_for c other late early lets p = tt

apart_after : (k : Settings) (c : ℕ) (s : Step) (late early : Past) → lets_pass c s ≡ true → History k late.notes → History k early.notes → Apart c late early → Apart c (step k s late) (step k s early)
apart_after k c s late early lets h g p =
    let phases = phases_for c s late early lets p in
    record {
      alike = steps_alike k late early p.alike s phases;
      owed = stays k c Owed refl late s lets h p.owed;
      awake = stays k c Awake refl early s lets g p.awake;
      others = λ d other. phases_after k late early p.alike s phases d (p.others d other);
      flows = flows_after k late early p.alike s phases p.flows;
    }

-- ---- the law

owed_taken : (t u : Bool) → cond t (cond {A = Option ApplyError} u None (Some NotOwed)) (Some NotOpen) ≡ None → (t ≡ true) × (u ≡ true)
owed_taken true true e = (refl, refl)
owed_taken true false e = absurd cc
owed_taken false u e = absurd cc

is_owed_so : (p : Phase) → is_owed p ≡ true → p ≡ Owed
is_owed_so Owed e = refl
is_owed_so Awake e = absurd cc
is_owed_so Asleep e = absurd cc

owed_at : (c : ℕ) (l : List Note) → if_owed c l ≡ None → IsAt c Owed l
owed_at c l e = let p = owed_taken (is_open c l) (is_owed (phase c l)) e in (p.0, is_owed_so (phase c l) p.1)

can_be_taken : (c : ℕ) (l : List Note) → IsAt c Owed l → if_owed c l ≡ None
can_be_taken c l p = simp (p.0, p.1)

took_run : (k : Settings) (c : ℕ) (steps : List Step) → refusal k (Took c) (run k steps) ≡ None → run k (Took c ∷ steps) ≡ with_note (notes.Took c) (run k steps)
took_run k c steps e = ap (λ o. unless o (with_note (notes.Took c) (run k steps)) (run k steps)) e

module _ (k : Settings) (c : ℕ) (before : List Step) (taken : refusal k (Took c) (run k before) ≡ None) where
  apart : (between : List Step) → list_all (lets_pass c) between ≡ true → Apart c (run k (between ++ before)) (run k (between ++ Took c ∷ before))
  apart [] e = subst (λ past. Apart c (run k before) past) (sym (took_run k c before taken)) (apart_at_first c (run k before) (owed_at c (run k before).notes taken))
  apart (s ∷ between) e =
      let late = between ++ before in
      let early = between ++ Took c ∷ before in
      let lets = and_parts (lets_pass c s) (list_all (lets_pass c) between) e in
      apart_after k c s (run k late) (run k early) lets.0 (run_history k late) (run_history k early) (apart between lets.1)

  all_between : (between : List Step) → list_all (lets_pass c) between ≡ true → AllGoAlike k between before (Took c ∷ before)
  all_between [] e = tt
  all_between (s ∷ between) e =
      let late = run k (between ++ before) in
      let early = run k (between ++ Took c ∷ before) in
      let lets = and_parts (lets_pass c s) (list_all (lets_pass c) between) e in
      let p = apart between lets.1 in
      (goes_alike k late early p.alike s (phases_for c s late early lets.0 p) p.flows, all_between between lets.1)

-- ---- afterwards

-- nothing differs that can be asked
record Level (a b : Past) : Type 0 where
  alike : Alike a.notes b.notes
  phases : (d : ℕ) → phase d a.notes ≡ phase d b.notes
  flows : a.flow ≡ b.flow

level_for : (s : Step) (a b : Past) → Level a b → PhasesFor s a b
level_for (Packet d number bytes) a b p = λ sleeps. p.phases d
level_for (Took d) a b p = p.phases d
level_for (Withdrew d) a b p = p.phases d
level_for other a b p = tt

level_phase : (c d : ℕ) (late early : Past) (t : Bool) → (d == c) ≡ t → Apart c late early → unwrap_or (cond t (Some Awake) None) (phase d late.notes) ≡ phase d early.notes
level_phase c d late early true is p = sym (ap (λ x. phase x early.notes) (eqb-true d c is) ∙ p.awake.1)
level_phase c d late early false is p = p.others d is

level_at_last : (c : ℕ) (late early : Past) → Apart c late early → Level (with_note (notes.Took c) late) early
level_at_last c late early p =
    let phases = λ (d : ℕ). level_phase c d late early (d == c) refl p in
    record { alike = alike_taken c late.notes early.notes p.alike (λ d. ap is_asleep (phases d)); phases = phases; flows = p.flows }

module _ (k : Settings) (these those : List Step) (first : Level (run k these) (run k those)) where
  level : (after : List Step) → Level (run k (after ++ these)) (run k (after ++ those))
  level [] = first
  level (s ∷ after) =
      let a = run k (after ++ these) in
      let b = run k (after ++ those) in
      let p = level after in
      let phases = level_for s a b p in
      record {
        alike = steps_alike k a b p.alike s phases;
        phases = λ d. phases_after k a b p.alike s phases d (p.phases d);
        flows = flows_after k a b p.alike s phases p.flows;
      }

  all_after : (after : List Step) → AllGoAlike k after these those
  all_after [] = tt
  all_after (s ∷ after) =
      let a = run k (after ++ these) in
      let b = run k (after ++ those) in
      let p = level after in
      (goes_alike k a b p.alike s (level_for s a b p) p.flows, all_after after)

tells : (a b : Past) → Level a b → TellAlike a b
tells a b p = (
  λ c. simp (p.alike.opened, p.phases),
  λ c. simp (p.alike.opened, p.alike.shut),
  p.alike.mode_is,
  λ n. ap place_of (p.alike.place n),
  λ c. ap (waiting c) p.flows,
)

pub may_be_taken_later : MayBeTakenLater
may_be_taken_later k c before between after taken lets =
    let late = Took c ∷ between ++ before in
    let early = between ++ Took c ∷ before in
    let p = apart k c before taken between lets in
    let taken_then : refusal k (Took c) (run k (between ++ before)) ≡ None = can_be_taken c (run k (between ++ before)).notes p.owed in
    let first = subst (λ past. Level past (run k early)) (sym (took_run k c (between ++ before) taken_then)) (level_at_last c (run k (between ++ before)) (run k early) p) in (
      taken_then,
      all_between k c before taken between lets,
      all_after k late early first after,
      tells (run k (after ++ late)) (run k (after ++ early)) (level k late early first after),
    )
