-- Of a job that isn't made there is nothing.
use Rattle.std.proofs.Common.{◌≡◌, ℕ, Bool, true, false, not, List, [], ◌∷◌, filter, None, refl, sym, ap, subst, ◌∙◌}
use Rattle.std.specs.Prelude.{◌==◌, codes}
use Rattle.gm_notes.specs.declared.note.Note.{Note}
use Rattle.gm_notes.specs.declared.note.Note.TheVariants as notes
use Rattle.gm_notes.specs.Settings.{Settings}
use Rattle.gm_notes.specs.Jobs.{job_state, job, report, listeners, is_kept}
use Rattle.gm_notes.specs.JobStates.{is_live}
use Rattle.gm_notes.specs.JobStates as states
use Rattle.gm_history.specs.History.{runs_at_a_slot, History}
use Rattle.gm_laws.proofs.Moving.{from, moved}
use Rattle.std.proofs.lemmas.Bool.{eqb-true}

abbrev pub nothing_yet : List ℕ × List ℕ
nothing_yet = (codes "0", codes "0")

-- nothing is known of the job, or reported of it; nothing keeps it or listens to it
pub record Nothing (n : ℕ) (l : List Note) : Type 0 where
  pub unknown : job n l ≡ None
  pub unkept : is_kept n l ≡ false
  pub unreported : report n l ≡ nothing_yet
  pub unheard : listeners n l ≡ []

module _ (n : ℕ) (older : List Note) where
  listens_not : (m c : ℕ) → job_state n older ≡ states.Unmade → is_live (job_state m older) ≡ true → Nothing n older → Nothing n (notes.Listens m c ∷ older)
  listens_not m c e live r = by (n == m) refl
    where
      by : (t : Bool) → (n == m) ≡ t → Nothing n (notes.Listens m c ∷ older)
      by true is = absurd (let bad : is_live states.Unmade ≡ true = subst (λ s. is_live s ≡ true) e (subst (λ x. is_live (job_state x older) ≡ true) (sym (eqb-true n m is)) live) in cc)
      by false is = record { unknown = r.unknown; unkept = r.unkept; unreported = r.unreported; unheard = rw is r.unheard }

  keeps_not : (m : ℕ) → job_state n older ≡ states.Unmade → is_live (job_state m older) ≡ true → Nothing n older → Nothing n (notes.Kept m ∷ older)
  keeps_not m e live r = by (n == m) refl
    where
      by : (t : Bool) → (n == m) ≡ t → Nothing n (notes.Kept m ∷ older)
      by true is = absurd (let bad : is_live states.Unmade ≡ true = subst (λ s. is_live s ≡ true) e (subst (λ x. is_live (job_state x older) ≡ true) (sym (eqb-true n m is)) live) in cc)
      by false is = record { unknown = r.unknown; unkept = rw is r.unkept; unreported = r.unreported; unheard = r.unheard }

  reports_not : (m : ℕ) (a b : List ℕ) → job_state n older ≡ states.Unmade → runs_at_a_slot (job_state m older) ≡ true → Nothing n older → Nothing n (notes.Report m a b ∷ older)
  reports_not m a b e runs r = by (n == m) refl
    where
      by : (t : Bool) → (n == m) ≡ t → Nothing n (notes.Report m a b ∷ older)
      by true is =
          absurd (let bad : runs_at_a_slot states.Unmade ≡ true = subst (λ s. runs_at_a_slot s ≡ true) e (subst (λ x. runs_at_a_slot (job_state x older) ≡ true) (sym (eqb-true n m is)) runs) in cc)
      by false is = record { unknown = r.unknown; unkept = r.unkept; unreported = rw is r.unreported; unheard = r.unheard }

  others_not : (note : Note) → job n (note ∷ older) ≡ job n older → is_kept n (note ∷ older) ≡ is_kept n older → report n (note ∷ older) ≡ report n older → listeners n (note ∷ older) ≡ listeners n older → Nothing n older
      → Nothing n (note ∷ older)
  others_not note jobs keeps reports hears r = record { unknown = jobs ∙ r.unknown; unkept = keeps ∙ r.unkept; unreported = reports ∙ r.unreported; unheard = hears ∙ r.unheard }

pub unmade_is : (k : Settings) (n : ℕ) (l : List Note) → History k l → job_state n l ≡ states.Unmade → Nothing n l
unmade_is k n [] h e = record { unknown = refl; unkept = refl; unreported = refl; unheard = refl }
unmade_is k n (notes.Made m f p u body ∷ older) h e =
    from (moved n m states.Waiting (job_state n older) states.Unmade (n == m) refl e) (λ x. absurd (let y = x.1 in cc))
    (λ x. let is = x.0 in others_not n older (notes.Made m f p u body) (rw is refl) (rw is refl) (rw is refl) (rw is refl) (unmade_is k n older h.1 x.1))
unmade_is k n (notes.Returned m ∷ older) h e =
    from (moved n m states.Waiting (job_state n older) states.Unmade (n == m) refl e) (λ x. absurd (let y = x.1 in cc)) (λ x. others_not n older (notes.Returned m) refl refl refl refl (unmade_is k n older h.1 x.1))
unmade_is k n (notes.Assigned m c late ∷ older) h e =
    from (moved n m (states.Running c) (job_state n older) states.Unmade (n == m) refl e) (λ x. absurd (let y = x.1 in cc)) (λ x. others_not n older (notes.Assigned m c late) refl refl refl refl (unmade_is k n older h.1 x.1))
unmade_is k n (notes.Lost m ∷ older) h e =
    from (moved n m states.Lost (job_state n older) states.Unmade (n == m) refl e) (λ x. absurd (let y = x.1 in cc)) (λ x. others_not n older (notes.Lost m) refl refl refl refl (unmade_is k n older h.1 x.1))
unmade_is k n (notes.Ended m ∷ older) h e =
    from (moved n m states.Ended (job_state n older) states.Unmade (n == m) refl e) (λ x. absurd (let y = x.1 in cc)) (λ x. others_not n older (notes.Ended m) refl refl refl refl (unmade_is k n older h.1 x.1))
unmade_is k n (notes.Discarded m ∷ older) h e =
    from (moved n m states.Discarded (job_state n older) states.Unmade (n == m) refl e) (λ x. absurd (let y = x.1 in cc)) (λ x. others_not n older (notes.Discarded m) refl refl refl refl (unmade_is k n older h.1 x.1))
unmade_is k n (notes.Kept m ∷ older) h e = keeps_not n older m e h.0 (unmade_is k n older h.1 e)
unmade_is k n (notes.Listens m c ∷ older) h e = listens_not n older m c e h.0.0 (unmade_is k n older h.1 e)
unmade_is k n (notes.Report m a b ∷ older) h e = reports_not n older m a b e h.0 (unmade_is k n older h.1 e)
unmade_is k n (notes.Closed c ∷ older) h e =
    let r = unmade_is k n older h.1 e in
    record { unknown = r.unknown; unkept = r.unkept; unreported = r.unreported; unheard = ap (filter (λ d. not (d == c))) r.unheard }
unmade_is k n (note ∷ older) h e = others_not n older note refl refl refl refl (unmade_is k n older h.1 e)
