-- The job that a handle names, as the table of jobs knows it.
use Rattle.std.proofs.Common.{◌≡◌, ℕ, ◌<◌, ◌^◌, Bool, true, false, ◌&&◌, ◌==◌, nat_le, nat_lt, if◌then◌else◌, List, length}
use Rattle.std.proofs.Common.{Option, Some, None, refl, sym, ap, subst, ◌∙◌, arith}
use Rattle.std.specs.List.{list_any}
use Rattle.std.specs.Prelude.{MatchOption}
use Rattle.gm_notes.specs.declared.note.Note.{Note}
use Rattle.gm_notes.specs.Settings.{Settings}
use Rattle.gm_notes.specs.Jobs.{made, handle, job_of_handle, job_state}
use Rattle.gm_notes.specs.JobStates.{is_running, is_live}
use Rattle.gm_notes.specs.Past.{Past}
use Rattle.gm_notes.specs.Requests.{tell_status}
use Rattle.gm_actions.specs.Effects.{known_told, unknown_told}
use Rattle.gm_notes.specs.Places as places
use Rattle.gm_queues.specs.FunctionTables as queues
use Rattle.gm_jobs.specs.declared.job.LivePlace.{LivePlace}
use Rattle.gm_jobs.specs.declared.job.LivePlace.TheVariants.{Waiting, Running, Lost}
use Rattle.gm_jobs.specs.Live.{Live, place_at}
use Rattle.gm_jobs.specs.Tables.{Table, job, place, place_or, is_made}
use Rattle.gm_core.specs.Facts.{job_facts}
use Rattle.gm_core.specs.Holds.{job_state_at, HoldsJobs}
use Rattle.gm_actions.proofs.HandleTexts.{AllSmall, none_found, one_found}
use Rattle.gm_core.proofs.Ranges.{small_down, any_down}
use Rattle.std.proofs.lemmas.Option.{none-some}

pub when_none : {A X : Type 0} (B : X → Type 0) (o : Option X) → o ≡ None → MatchOption o A B → A
when_none {A} {X} B None e held = held
when_none {A} {X} B (Some n) e held = absurd (none-some n (sym e))

made_at : (o : Option Live) (t : Bool) → ((live : Live) → o ≡ Some live → t ≡ true) → places.is_made (place_or o t) ≡ t
made_at None true live = refl
made_at None false live = refl
made_at (Some l) t live = placed l.live_place ∙ sym (live l refl)
  where
    placed : (s : LivePlace) → places.is_made (place_at s) ≡ true
    placed Waiting = refl
    placed (Running c) = refl
    placed Lost = refl

module _ (k : Settings) (functions : queues.Table) (table : Table) (is_open : ℕ → Bool) (notes : List Note) (holds : HoldsJobs k functions table is_open (job_facts notes)) (text : List ℕ) where
  small : AllSmall (made notes)
  small =
      let next = holds.next in
      let most = holds.most in
      subst AllSmall (sym holds.made) (small_down k.first_job (length (made notes)) (omega (arith, next, most)))

  any_made : (n : ℕ) → list_any (λ m. m == n) (made notes) ≡ is_made table n
  any_made n =
      ap (list_any (λ m. m == n)) holds.made
      ∙ (any_down n k.first_job (length (made notes))
      ∙ sym (λ i. nat_le (holds.first i) n && nat_lt n (holds.next i)))

  pub handled_none : ((n : ℕ) → n < 2 ^ 64 → text ≡ handle k n → ⊥) → (let o : Option ℕ = None in o) ≡ job_of_handle k text notes
  handled_none none = sym (none_found k text (made notes) small none)

  pub handled_at : (n : ℕ) → n < 2 ^ 64 → text ≡ handle k n → (if places.is_made (place table n) then Some n else None) ≡ job_of_handle k text notes
  handled_at n lt is =
      let same = made_at (job table n) (is_made table n) (λ live e. holds.numbered n live e) in
      ap (λ t. if t then Some n else None) (same ∙ sym (any_made n)) ∙ sym (one_found k text n (made notes) small lt is)

-- whether a live job runs, as the table and the past tell it
pub runs_same : (s : LivePlace) → places.is_running (place_at s) ≡ is_running (job_state_at s)
runs_same Waiting = refl
runs_same (Running c) = refl
runs_same Lost = refl

-- what is told of the number in a handle, as the table has it
module _ (k : Settings) (functions : queues.Table) (table : Table) (is_open : ℕ → Bool) (past : Past) (holds : HoldsJobs k functions table is_open (job_facts past.notes)) (c : ℕ) (text : List ℕ) (n : ℕ) (lt : n < 2 ^ 64) (is : text ≡ handle k n) where
  asked : (made live : Bool) → places.is_made (place table n) ≡ made → places.is_live (place table n) ≡ live
      → tell_status k c text (job_of_handle k text past.notes) past ≡ (if made && live then known_told c text n past else unknown_told c text past)
  asked made live e f =
      ap (λ o. tell_status k c text o past) (sym (handled_at k functions table is_open past.notes holds text n lt is))
      ∙ (ap (λ t. tell_status k c text (if t then Some n else None) past) e ∙ by made (ap places.is_live (sym (holds.places n)) ∙ f))
    where
      by : (made : Bool) → is_live (job_state n past.notes) ≡ live → tell_status k c text (if made then Some n else None) past ≡ (if made && live then known_told c text n past else unknown_told c text past)
      by true lives = rw lives refl
      by false lives = refl

  at_live : (s : LivePlace) → (places.is_made (place_at s) ≡ true) × (places.is_live (place_at s) ≡ true)
  at_live Waiting = (refl, refl)
  at_live (Running d) = (refl, refl)
  at_live Lost = (refl, refl)

  gone : (made : Bool) → places.is_live (place_or None made) ≡ false
  gone true = refl
  gone false = refl

  pub told_live : (live : Live) → job table n ≡ Some live → tell_status k c text (job_of_handle k text past.notes) past ≡ known_told c text n past
  told_live live at =
      let there : place table n ≡ place_at live.live_place = ap (λ o. place_or o (is_made table n)) at in
      let both = at_live live.live_place in
      asked true true (ap places.is_made there ∙ both.0) (ap places.is_live there ∙ both.1)

  pub told_other : job table n ≡ None → tell_status k c text (job_of_handle k text past.notes) past ≡ unknown_told c text past
  told_other at = last (places.is_made (place table n)) (asked _ false refl (ap places.is_live (ap (λ o. place_or o (is_made table n)) at) ∙ gone (is_made table n)))
    where
      last : (made : Bool) → tell_status k c text (job_of_handle k text past.notes) past ≡ (if made && false then known_told c text n past else unknown_told c text past)
          → tell_status k c text (job_of_handle k text past.notes) past ≡ unknown_told c text past
      last true e = e
      last false e = e
