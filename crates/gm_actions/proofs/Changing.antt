-- One change of a server after another, whatever server it is.
use Rattle.std.proofs.Common.{◌≡◌, List, ◌∷◌, None, Result, Ok, Err, refl, sym, subst, ◌∙◌}
use Rattle.std.specs.Result.{IsErr, IsErrAnd}
use Rattle.std.specs.declared.alloc.AllocError.{AllocError}
use Rattle.gm_notes.specs.Settings.{Settings}
use Rattle.gm_notes.specs.Past.{Past}
use Rattle.gm_notes.specs.declared.event.Done.{Done}
use Rattle.gm_notes.specs.declared.event.ApplyError.{ApplyError}
use Rattle.gm_notes.specs.declared.event.ApplyError.TheVariants.{Memory}
use Rattle.gm_notes.specs.Steps.{Step, refusal, run, add}
use Rattle.gm_notes.specs.Servers.{IsRefusal, Answers, steps_after}
use Rattle.gm_actions.specs.Effects.{Changes, Agrees, if_done}
use Rattle.gm_actions.proofs.JobsMade.{run_taken}

module _ {A : Type 0} {settings_of : A → Settings} {keeps : A → Past → Type 0} {also : A → A → Type 0} {a b : A} where
  pub changes_then : {c : A} {f g : Past → Past} → (also a b → also b c → also a c) → Changes settings_of keeps also a b f → Changes settings_of keeps also b c g
      → Changes settings_of keeps also a c (λ past. g (f past))
  changes_then {c} {f} {g} both first second =
      record { config = second.config ∙ first.config; past = λ p held. second.past (f p) (first.past p held); others = both first.others second.others }

  -- a change that is the same at what is held
  pub changes_as : {f : Past → Past} (g : Past → Past) → Changes settings_of keeps also a b f → ((past : Past) → keeps a past → f past ≡ g past)
      → Changes settings_of keeps also a b g
  changes_as {f} g changes same = record { config = changes.config; past = λ p held. subst (keeps b) (same p held) (changes.past p held); others = changes.others }

  pub done_as : {E : Type 0} {f : Past → Past} (result : Result (Unit {0}) E) (g : Past → Past) → Changes settings_of keeps also a b (if_done result f)
      → ((past : Past) → keeps a past → f past ≡ g past) → Changes settings_of keeps also a b (if_done result g)
  done_as {E} {f} (Ok done) g changes same = changes_as {f = f} g changes same
  done_as {E} {f} (Err failed) g changes same = changes_as {f = λ past. past} (λ past. past) changes (λ p held. refl)

  -- out of memory nothing happened
  pub done_not : {S : Type 0} (result : Result (Unit {0}) AllocError) (g : Past → Past) → IsErr result × S → Changes settings_of keeps also a b (λ past. past)
      → Changes settings_of keeps also a b (if_done result g)
  done_not {S} (Ok done) g failed changes = absurd (let wrong : IsErr (let r : Result (Unit {0}) AllocError = Ok done in r) = failed.0 in cc)
  done_not {S} (Err wanting) g failed changes = changes

  -- ---- steps

  pub agrees_next : (k : Settings) (steps : List Step) (s : Step) (f : Past → Past) → Agrees settings_of keeps a k steps → Changes settings_of keeps also a b f
      → refusal k s (run k steps) ≡ None → f (run k steps) ≡ add k s (run k steps) → Agrees settings_of keeps b k (s ∷ steps)
  agrees_next k steps s f agrees changes taken adds = record {
    settings = changes.config ∙ agrees.settings;
    past = subst (keeps b) (adds ∙ sym (run_taken k s steps taken)) (changes.past (run k steps) agrees.past);
  }

  pub agrees_kept : (k : Settings) (steps : List Step) → Agrees settings_of keeps a k steps → Changes settings_of keeps also a b (λ past. past) → Agrees settings_of keeps b k steps
  agrees_kept k steps agrees changes = record { settings = changes.config ∙ agrees.settings; past = changes.past (run k steps) agrees.past }

  -- a step that would have been taken, but for memory
  pub agrees_refused : (k : Settings) (steps : List Step) (s : Step) (result : Result Done ApplyError) → IsErr result × IsErrAnd result (λ e. e ≡ Memory)
      → refusal k s (run k steps) ≡ None → Agrees settings_of keeps a k steps → Changes settings_of keeps also a b (λ past. past)
      → Answers k steps s result × Agrees settings_of keeps b k (steps_after result s steps)
  agrees_refused k steps s (Ok done) failed taken agrees changes = absurd failed.1
  agrees_refused k steps s (Err e) failed taken agrees changes =
      (subst (λ (x : ApplyError). IsRefusal x (refusal k s (run k steps))) (sym failed.1) taken, agrees_kept k steps agrees changes)
