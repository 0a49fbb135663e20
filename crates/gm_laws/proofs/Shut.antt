-- Which slots are heard, what shuts a slot, and what changes the mode.
use Rattle.std.proofs.Common.{◌≡◌, ◌⊎◌, inl, inr, ℕ, Bool, true, false, cond, not, ◌&&◌, List, ◌∷◌, Some, None, refl, sym, subst}
use Rattle.std.specs.Prelude.{◌==◌, unwrap_or}
use Rattle.std.proofs.lemmas.Bool.{eqb-true}
use Rattle.gm_notes.specs.declared.note.Note.{Note}
use Rattle.gm_notes.specs.declared.note.Note.TheVariants as notes
use Rattle.gm_admin.specs.Commands.{Shutdown}
use Rattle.gm_notes.specs.Settings.{Settings}
use Rattle.gm_notes.specs.Notes.{is_open, is_shut, mode}
use Rattle.gm_notes.specs.Past.{Past}
use Rattle.gm_notes.specs.Steps.{Step, Open, Packet, Line, Fault, unless_not_open, step, run}
use Rattle.gm_history.specs.History.{History}
use Rattle.gm_history.specs.Causes.{Caused, GoesTo, Commands, faults}
use Rattle.gm_history.specs.Laws.{InEachStep}
use Rattle.gm_history.proofs.Caused.{note_law}
use Rattle.gm_history.proofs.StepsKeep.{run_history}
use Rattle.gm_laws.specs.Shut.{WhoIsntShutIsHeard, Shuts, ShutHasItsReason, LinesAloneChangeTheMode}
use Rattle.gm_laws.proofs.Moving.{from, both_not}

-- ---- who is heard

heard : (o t : Bool) → o ≡ true → t ≡ false → unless_not_open (o && not t) ≡ None
heard true false a b = refl
heard true true a b = absurd cc
heard false t a b = absurd cc

alone : (o t : Bool) → unless_not_open (o && not t) ≡ None → (o ≡ true) × (t ≡ false)
alone true false e = (refl, refl)
alone true true e = absurd cc
alone false t e = absurd cc

pub who_isnt_shut_is_heard : InEachStep WhoIsntShutIsHeard
who_isnt_shut_is_heard k steps (Packet c number bytes) =
    let l = (run k steps).notes in record { heard = heard (is_open c l) (is_shut c l); alone = alone (is_open c l) (is_shut c l) }
who_isnt_shut_is_heard k steps (Line c bytes) =
    let l = (run k steps).notes in record { heard = heard (is_open c l) (is_shut c l); alone = alone (is_open c l) (is_shut c l) }
who_isnt_shut_is_heard k steps (Fault c fault) =
    let l = (run k steps).notes in record { heard = heard (is_open c l) (is_shut c l); alone = alone (is_open c l) (is_shut c l) }
who_isnt_shut_is_heard k steps other = tt

-- ---- what shuts, and what changes the mode

module _ (k : Settings) (s : Step) (start : Past) (history : History k start.notes) where
  abbrev ModeSo : List Note → Type 0
  ModeSo l = (mode l ≡ mode start.notes) ⊎ GoesTo (mode l) s

  mode_more : (note : Note) (older : List Note) → Caused k start.notes s note older → ModeSo older → ModeSo (note ∷ older)
  mode_more (notes.Went m) older cause p = inr cause
  mode_more note older cause p = p

  mode_so : ModeSo (step k s start).notes
  mode_so = note_law k s start history ModeSo (λ note older allowed cause h p. mode_more note older cause p) (inl refl)

  module _ (c : ℕ) where
    abbrev Reason : Type 0
    Reason = ((is_open c start.notes ≡ true) × (is_shut c start.notes ≡ true)) ⊎ Shuts c s

    abbrev ShutSo : List Note → Type 0
    ShutSo l = is_open c l ≡ true → is_shut c l ≡ true → Reason

    shut_more : (note : Note) (older : List Note) → Caused k start.notes s note older → ShutSo older → ShutSo (note ∷ older)
    shut_more (notes.Opened d addr) older cause p = by (c == d)
      where
        by : (t : Bool) → unwrap_or (cond t (Some true) None) (is_open c older) ≡ true → unwrap_or (cond t (Some false) None) (is_shut c older) ≡ true → Reason
        by true o e = absurd cc
        by false o e = p o e
    shut_more (notes.Closed d) older cause p = by (c == d)
      where
        by : (t : Bool) → unwrap_or (cond t (Some false) None) (is_open c older) ≡ true → is_shut c older ≡ true → Reason
        by true o e = absurd cc
        by false o e = p o e
    shut_more (notes.Shut d) older cause p = by (c == d) refl
      where
        by : (t : Bool) → (c == d) ≡ t → is_open c older ≡ true → unwrap_or (cond t (Some true) None) (is_shut c older) ≡ true → Reason
        by true is o e = from cause (λ f. inr (inl (subst (λ x. faults x s ≡ true) (sym (eqb-true c d is)) f))) (λ m. inr (inr m))
        by false is o e = p o e
    shut_more note older cause p = p

    shut_so : ShutSo (step k s start).notes
    shut_so = note_law k s start history ShutSo (λ note older allowed cause h p. shut_more note older cause p) (λ o e. inl (o, e))

    abbrev OpenedSo : List Note → Type 0
    OpenedSo l = is_open c l ≡ true → (is_open c start.notes ≡ true) ⊎ (((addr : List ℕ) × (s ≡ Open addr)) × (is_shut c l ≡ false))

    not_shut_by : (d : ℕ) (addr : List ℕ) → s ≡ Open addr → (faults d s ≡ true) ⊎ Commands s (Shutdown false) → ⊥
    not_shut_by d addr is cause = from (subst (λ x. (faults d x ≡ true) ⊎ Commands x (Shutdown false)) is cause) (λ f. let bad : ⊥ = cc in bad) (λ m. m)

    opened_more : (note : Note) (older : List Note) → Caused k start.notes s note older → OpenedSo older → OpenedSo (note ∷ older)
    opened_more (notes.Opened d addr) older cause p = by (c == d)
      where
        by : (t : Bool) → unwrap_or (cond t (Some true) None) (is_open c older) ≡ true
            → (is_open c start.notes ≡ true) ⊎ (((addr : List ℕ) × (s ≡ Open addr)) × (unwrap_or (cond t (Some false) None) (is_shut c older) ≡ false))
        by true o = inr ((addr, cause), refl)
        by false o = p o
    opened_more (notes.Closed d) older cause p = by (c == d)
      where
        by : (t : Bool) → unwrap_or (cond t (Some false) None) (is_open c older) ≡ true
            → (is_open c start.notes ≡ true) ⊎ (((addr : List ℕ) × (s ≡ Open addr)) × (is_shut c older ≡ false))
        by true o = absurd cc
        by false o = p o
    opened_more (notes.Shut d) older cause p = λ o. from (p o) inl (λ r. absurd (not_shut_by d r.0.0 r.0.1 cause))
    opened_more note older cause p = p

    opened_so : OpenedSo (step k s start).notes
    opened_so = note_law k s start history OpenedSo (λ note older allowed cause h p. opened_more note older cause p) inl

pub lines_alone_change_the_mode : InEachStep LinesAloneChangeTheMode
lines_alone_change_the_mode k steps s = mode_so k s (run k steps) (run_history k steps)

pub shut_has_its_reason : InEachStep ShutHasItsReason
shut_has_its_reason k steps s =
    let start = run k steps in
    let history = run_history k steps in (
      (λ c. shut_so k s start history c),
      (λ c was now. from (opened_so k s start history c now) (λ o. absurd (both_not (is_open c start.notes) o was)) (λ r. r.1)),
    )
