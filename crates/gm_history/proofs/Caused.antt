-- Each note that a step adds has its cause.
use Rattle.std.proofs.Common.{◌≡◌, List, [], ◌∷◌, ◌++◌, refl, subst, ap}
use Rattle.gm_notes.specs.declared.note.Note.{Note}
use Rattle.gm_notes.specs.Settings.{Settings}
use Rattle.gm_notes.specs.Past.{Past}
use Rattle.gm_notes.specs.Steps.{Step, step}
use Rattle.gm_history.specs.History.{Allowed, History}
use Rattle.gm_history.specs.Causes.{Caused, AllCaused}
use Rattle.gm_history.specs.Laws.{NotesAreCaused}
use Rattle.gm_history.proofs.Keeping.{keeps_notes}
use Rattle.gm_history.proofs.StepsKeep.{step_keeps}

module _ (k : Settings) (s : Step) (start : Past) (history : History k start.notes) where
  pub note_law : (P : List Note → Type 0) → ((note : Note) (older : List Note) → Allowed k note older → Caused k start.notes s note older → History k older → P older → P (note ∷ older)) → P start.notes → P (step k s start).notes
  note_law P more p = (step_keeps start s (keeps_notes {k = k} P more) (λ c e h u. u) (history, p)).1

  pub caused : NotesAreCaused k start s (step k s start)
  caused =
      note_law (λ l. (newer : List Note) × (l ≡ newer ++ start.notes) × AllCaused k start.notes s newer)
      (λ note older allowed cause h p. (note ∷ p.0, ap (λ l. note ∷ l) p.1, (subst (λ l. Caused k start.notes s note l) p.1 cause, p.2)))
      ([], refl, tt)
