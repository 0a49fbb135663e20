-- Who sleeps, or is owed a NOOP, is open.
use Rattle.std.proofs.Common.{◌≡◌, ℕ, Bool, true, false, cond, List, [], ◌∷◌, Some, None, refl, sym, ap, ◌∙◌}
use Rattle.std.specs.Prelude.{◌==◌, unwrap_or}
use Rattle.gm_notes.specs.declared.states.Phase.{Phase}
use Rattle.gm_notes.specs.declared.states.Phase.TheVariants.{Awake, Asleep, Owed}
use Rattle.gm_notes.specs.declared.note.Note.{Note}
use Rattle.gm_notes.specs.declared.note.Note.TheVariants as notes
use Rattle.gm_notes.specs.Settings.{Settings}
use Rattle.gm_notes.specs.Notes.{is_open, phase}
use Rattle.gm_notes.specs.Steps.{Step, run}
use Rattle.gm_history.specs.History.{History}
use Rattle.gm_history.proofs.StepsKeep.{run_history}
use Rattle.std.proofs.lemmas.Bool.{eqb-true}

opened_now : (old t : Bool) → unwrap_or (cond t (Some true) None) old ≡ false → (t ≡ false) × (old ≡ false)
opened_now old true e = absurd cc
opened_now old false e = (refl, e)

-- where a note sets the phase to awake
pub awoken : (old : Phase) (t : Bool) → old ≡ Awake → unwrap_or (cond t (Some Awake) None) old ≡ Awake
awoken old true e = refl
awoken old false e = e

closed_now : (old_open t : Bool) (old : Phase) → (old_open ≡ false → old ≡ Awake) → unwrap_or (cond t (Some false) None) old_open ≡ false → unwrap_or (cond t (Some Awake) None) old ≡ Awake
closed_now old_open true old rest e = refl
closed_now old_open false old rest e = rest e

-- a note that sets the phase of an open slot leaves that of one that isn't
left : (c d : ℕ) (new old : Phase) (older : List Note) (t : Bool) → (c == d) ≡ t → is_open d older ≡ true → is_open c older ≡ false → old ≡ Awake → unwrap_or (cond t (Some new) None) old ≡ Awake
left c d new old older true is opened shut e = let there = eqb-true c d is in let bad : true ≡ false = sym opened ∙ (ap (λ x. is_open x older) (sym there) ∙ shut) in let worse : ⊥ = cc in absurd worse
left c d new old older false is opened shut e = e

pub awake_unless_open : (k : Settings) (c : ℕ) (l : List Note) → History k l → is_open c l ≡ false → phase c l ≡ Awake
awake_unless_open k c [] h e = refl
awake_unless_open k c (notes.Opened d addr ∷ older) h e =
    let was = opened_now (is_open c older) (c == d) e in awoken (phase c older) (c == d) (awake_unless_open k c older h.1 was.1)
awake_unless_open k c (notes.Closed d ∷ older) h e = closed_now (is_open c older) (c == d) (phase c older) (awake_unless_open k c older h.1) e
awake_unless_open k c (notes.Slept d ∷ older) h e = left c d Asleep (phase c older) older (c == d) refl h.0.0 e (awake_unless_open k c older h.1 e)
awake_unless_open k c (notes.Woken d ∷ older) h e = left c d Owed (phase c older) older (c == d) refl h.0.0 e (awake_unless_open k c older h.1 e)
awake_unless_open k c (notes.Stirred d ∷ older) h e = awoken (phase c older) (c == d) (awake_unless_open k c older h.1 e)
awake_unless_open k c (notes.Took d ∷ older) h e = awoken (phase c older) (c == d) (awake_unless_open k c older h.1 e)
awake_unless_open k c (notes.Withdrew d ∷ older) h e = awoken (phase c older) (c == d) (awake_unless_open k c older h.1 e)
awake_unless_open k c (note ∷ older) h e = awake_unless_open k c older h.1 e

pub sleepers_open : (k : Settings) (steps : List Step) (c : ℕ) → is_open c (run k steps).notes ≡ false → phase c (run k steps).notes ≡ Awake
sleepers_open k steps c shut = awake_unless_open k c (run k steps).notes (run_history k steps) shut
