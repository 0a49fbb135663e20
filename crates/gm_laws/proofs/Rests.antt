-- Who sleeps asked for it, and asking is enough.
use Rattle.std.proofs.Common.{◌≡◌, ◌⊎◌, inl, inr, ℕ, Bool, true, false, cond, ◌||◌, List, ◌∷◌, Option, Some, None, refl, sym, ap, subst, ◌∙◌}
use Rattle.std.specs.Prelude.{◌==◌, unwrap_or}
use Rattle.std.proofs.lemmas.Bool.{and_parts}
use Rattle.gm_packet.specs.declared.kind.Kind.{Kind}
use Rattle.gm_packet.specs.declared.kind.Kind.TheVariants.{GrabJob, GrabJobUniq}
use Rattle.gm_notes.specs.declared.note.Note.{Note}
use Rattle.gm_notes.specs.declared.note.Note.TheVariants as notes
use Rattle.gm_notes.specs.declared.states.Phase.{Phase}
use Rattle.gm_notes.specs.declared.states.Phase.TheVariants.{Awake, Asleep, Owed}
use Rattle.gm_notes.specs.declared.states.Pick.{Pick}
use Rattle.gm_notes.specs.declared.event.ApplyError.TheVariants.{NotOpen, NotOwed}
use Rattle.gm_notes.specs.Settings.{Settings}
use Rattle.gm_notes.specs.Notes.{is_open, phase, is_asleep, is_awake, is_owed}
use Rattle.gm_notes.specs.Jobs.{job, pick}
use Rattle.gm_notes.specs.Past.{Past, with_note}
use Rattle.gm_notes.specs.Workers.{sleep_beside, pre_sleep, wake_itself, give_out}
use Rattle.gm_notes.specs.Requests.{request}
use Rattle.gm_notes.specs.Servers.{owes}
use Rattle.gm_notes.specs.Steps.{Step, Packet, Close, Took, Withdrew, if_owed, unless, step, run}
use Rattle.gm_history.specs.History.{Allowed, History}
use Rattle.gm_history.specs.Causes.{Caused, asks, is_sleeping, is_grab, closes}
use Rattle.gm_history.proofs.Phases.{awake_unless_open}
use Rattle.gm_history.proofs.StepsKeep.{run_history}
use Rattle.gm_history.proofs.Caused.{note_law}
use Rattle.gm_laws.specs.Sleeping.{Rests, rouses, SleepersAskedForIt, AskingIsEnough}
use Rattle.gm_laws.proofs.Moving.{both_not}
use Rattle.gm_laws.proofs.StepLaws.{assigned_notes}
use Rattle.gm_laws.proofs.Taken.{request_does}
use Rattle.gm_notes.proofs.Numbers.{same_number}
use Rattle.std.proofs.lemmas.Bool.{eqb-true}

sleeper_rests : (p : Phase) → is_asleep p ≡ true → is_awake p ≡ false
sleeper_rests Asleep e = refl
sleeper_rests Awake e = absurd cc
sleeper_rests Owed e = absurd cc

module _ (k : Settings) (s : Step) (start : Past) (history : History k start.notes) (c : ℕ) where
  -- ---- a rest begins with PRE_SLEEP

  abbrev BegunSo : List Note → Type 0
  BegunSo l = is_awake (phase c l) ≡ false → Rests c start ⊎ (asks is_sleeping c s ≡ true)

  -- a note that leaves slot d awake
  roused : (t : Bool) (old : Phase) → is_awake (unwrap_or (cond t (Some Awake) None) old) ≡ false → is_awake old ≡ false
  roused true old e = absurd cc
  roused false old e = e

  begun_more : (note : Note) (older : List Note) → Allowed k note older → Caused k start.notes s note older → BegunSo older → BegunSo (note ∷ older)
  begun_more (notes.Opened d addr) older allowed cause p e = p (roused (c == d) (phase c older) e)
  begun_more (notes.Closed d) older allowed cause p e = p (roused (c == d) (phase c older) e)
  begun_more (notes.Stirred d) older allowed cause p e = p (roused (c == d) (phase c older) e)
  begun_more (notes.Took d) older allowed cause p e = p (roused (c == d) (phase c older) e)
  begun_more (notes.Withdrew d) older allowed cause p e = p (roused (c == d) (phase c older) e)
  begun_more (notes.Slept d) older allowed cause p e = by (c == d) refl e
    where
      by : (t : Bool) → (c == d) ≡ t → is_awake (unwrap_or (cond t (Some Asleep) None) (phase c older)) ≡ false → Rests c start ⊎ (asks is_sleeping c s ≡ true)
      by true is e = inr (subst (λ x. asks is_sleeping x s ≡ true) (sym (eqb-true c d is)) cause)
      by false is e = p e
  begun_more (notes.Woken d) older allowed cause p e = by (c == d) refl e
    where
      by : (t : Bool) → (c == d) ≡ t → is_awake (unwrap_or (cond t (Some Owed) None) (phase c older)) ≡ false → Rests c start ⊎ (asks is_sleeping c s ≡ true)
      by true is e = p (sleeper_rests (phase c older) (subst (λ x. is_asleep (phase x older) ≡ true) (sym (eqb-true c d is)) allowed.1))
      by false is e = p e
  begun_more note older allowed cause p e = p e

  begun : BegunSo (step k s start).notes
  begun = note_law k s start history BegunSo (λ note older allowed cause h p. begun_more note older allowed cause p) (λ e. inl e)

  -- ---- and goes on until something rouses the slot

  resting : (t : Bool) (new old : Phase) → is_awake new ≡ false → is_awake old ≡ false → is_awake (unwrap_or (cond t (Some new) None) old) ≡ false
  resting true new old e p = e
  resting false new old e p = p

  another : (d : ℕ) (older : List Note) → ((c == d) ≡ true → ⊥) → is_awake (phase c older) ≡ false → is_awake (unwrap_or (cond (c == d) (Some Awake) None) (phase c older)) ≡ false
  another d older other p = by (c == d) refl
    where
      by : (t : Bool) → (c == d) ≡ t → is_awake (unwrap_or (cond t (Some Awake) None) (phase c older)) ≡ false
      by true is = absurd (other is)
      by false is = p

  grab_rouses : (s : Step) → (asks is_grab c s || closes c s) ≡ true → rouses c s ≡ true
  grab_rouses (Packet d number bytes) e = by (asks is_grab c (Packet d number bytes)) e
    where
      by : (t : Bool) → (t || false) ≡ true → t ≡ true
      by true e = refl
      by false e = e
  grab_rouses (Close d) e = e
  grab_rouses other e = absurd cc

  module _ (stays : rouses c s ≡ false) where
    -- what rouses slot c isn't slot d's
    apart : (d : ℕ) (one : Step) → s ≡ one → rouses d one ≡ true → (c == d) ≡ true → ⊥
    apart d one is e same = both_not (rouses c s) (subst (λ x. rouses x s ≡ true) (sym (eqb-true c d same)) (ap (rouses d) is ∙ e)) stays

    rests_more : (note : Note) (older : List Note) → Allowed k note older → Caused k start.notes s note older → History k older → is_awake (phase c older) ≡ false → is_awake (phase c (note ∷ older)) ≡ false
    rests_more (notes.Opened d addr) older allowed cause h p =
        another d older
        (λ same. both_not (is_awake (phase c older)) (ap is_awake (awake_unless_open k c older h (ap (λ x. is_open x older) (eqb-true c d same) ∙ allowed.0))) p) p
    rests_more (notes.Closed d) older allowed cause h p = another d older (apart d (Close d) cause (same_number d)) p
    rests_more (notes.Took d) older allowed cause h p = another d older (apart d (Took d) cause (same_number d)) p
    rests_more (notes.Withdrew d) older allowed cause h p = another d older (apart d (Withdrew d) cause (same_number d)) p
    rests_more (notes.Stirred d) older allowed cause h p =
        another d older (λ same. both_not (rouses c s) (grab_rouses s (subst (λ x. (asks is_grab x s || closes x s) ≡ true) (sym (eqb-true c d same)) cause)) stays) p
    rests_more (notes.Slept d) older allowed cause h p = resting (c == d) Asleep (phase c older) refl p
    rests_more (notes.Woken d) older allowed cause h p = resting (c == d) Owed (phase c older) refl p
    rests_more note older allowed cause h p = p

    rests : Rests c start → Rests c (step k s start)
    rests p = note_law k s start history (λ l. is_awake (phase c l) ≡ false) (λ note older allowed cause h q. rests_more note older allowed cause h q) p

-- ---- what requests do

module _ (k : Settings) (c : ℕ) (start : Past) where
  sleeps_now : (new : Phase) → unwrap_or (cond (c == c) (Some new) None) (phase c start.notes) ≡ new
  sleeps_now new = rw (same_number c) refl

  pre_sleeps : is_awake (phase c (pre_sleep k c start).notes) ≡ false
  pre_sleeps = by (is_awake (phase c start.notes)) refl
    where
      beside : (o : Option Pick) → is_awake (phase c (sleep_beside o c (with_note (notes.Slept c) start)).notes) ≡ false
      beside None = rw (same_number c) refl
      beside (Some found) = rw (same_number c) refl

      by : (t : Bool) → is_awake (phase c start.notes) ≡ t → is_awake (phase c (cond t (sleep_beside (pick k c start.notes) c (with_note (notes.Slept c) start)) start).notes) ≡ false
      by true is = beside (pick k c start.notes)
      by false is = is

  given_phase : (uniq : Bool) (o : Option Pick) (past : Past) → phase c (give_out k c uniq o past).notes ≡ phase c past.notes
  given_phase uniq None past = refl
  given_phase uniq (Some found) past = ap (phase c) (assigned_notes k c uniq found.job (job found.job past.notes) _)

  stirs : is_asleep (phase c (wake_itself c start).notes) ≡ false
  stirs = by (is_asleep (phase c start.notes)) refl
    where
      by : (t : Bool) → is_asleep (phase c start.notes) ≡ t → is_asleep (phase c (cond t (with_note (notes.Stirred c) start) start).notes) ≡ false
      by true is = rw (same_number c) refl
      by false is = is

  grabs : (kind : Kind) (a : List (List ℕ)) (timeout : ℕ) → is_grab kind ≡ true → is_asleep (phase c (request k c kind a timeout start).notes) ≡ false
  grabs GrabJob a timeout e = ap is_asleep (given_phase false (pick k c start.notes) (wake_itself c start)) ∙ stirs
  grabs GrabJobUniq a timeout e = ap is_asleep (given_phase true (pick k c start.notes) (wake_itself c start)) ∙ stirs
  grabs kind a timeout e = absurd cc

  -- the taking or the withdrawal of a NOOP that is owed
  relieved : (note : Note) → phase c (note ∷ start.notes) ≡ Awake → owes c start ≡ true → phase c (unless (if_owed c start.notes) (with_note note start) start).notes ≡ Awake
  relieved note awakes owed = by (is_open c start.notes) (is_owed (phase c start.notes)) (and_parts (is_open c start.notes) (is_owed (phase c start.notes)) owed)
    where
      by : (t u : Bool) → (t ≡ true) × (u ≡ true) → phase c (unless (cond t (cond u None (Some NotOwed)) (Some NotOpen)) (with_note note start) start).notes ≡ Awake
      by true true e = awakes
      by true false e = absurd (let x = e.1 in cc)
      by false u e = absurd (let x = e.0 in cc)

pub asked_for : (k : Settings) (steps : List Step) (s : Step) → SleepersAskedForIt k (run k steps) s (run k (s ∷ steps))
asked_for k steps s =
    let start = run k steps in (
      (λ c. begun k s start (run_history k steps) c),
      (λ c asked takes a e. ap (λ (past : Past). is_asleep (phase c past.notes)) (request_does k s start c asked takes a) ∙ grabs k c start asked.kind asked.arguments asked.timeout e),
      λ c owed which. by s c start owed which,
    )
  where
    by : (s : Step) (c : ℕ) (start : Past) → owes c start ≡ true → (s ≡ Took c) ⊎ (s ≡ Withdrew c) → phase c (step k s start).notes ≡ Awake
    by s c start owed (inl is) = subst (λ x. phase c (step k x start).notes ≡ Awake) (sym is) (relieved k c start (notes.Took c) (sleeps_now k c start Awake) owed)
    by s c start owed (inr is) = subst (λ x. phase c (step k x start).notes ≡ Awake) (sym is) (relieved k c start (notes.Withdrew c) (sleeps_now k c start Awake) owed)

pub enough : (k : Settings) (steps : List Step) (s : Step) → AskingIsEnough k (run k steps) s (run k (s ∷ steps))
enough k steps s =
    let start = run k steps in (
      (λ c asked takes a is.
          ap (λ (past : Past). is_awake (phase c past.notes)) (request_does k s start c asked takes a)
          ∙ (ap (λ kind. is_awake (phase c (request k c kind asked.arguments asked.timeout start).notes)) is ∙ pre_sleeps k c start)),
      λ c p stays. rests k s start (run_history k steps) c stays p,
    )
