use Rattle.std.proofs.Common.{◌≡◌, ℕ, ◌+◌, ◌^◌, ◌==◌, true, if◌then◌else◌, Option, Some, None, is_some}
use Rattle.std.proofs.Common.{unwrap_or, sym, ap, subst, ◌∙◌, arith}
use Rattle.gm_notes.specs.Jobs.{joins}
use Rattle.gm_jobs.specs.Live.{Live, is_named}
use Rattle.gm_jobs.specs.Tables.{Room, Table, find_job, passes}
use Rattle.gm_jobs.specs.Kept.{IsReady, IsKept}
use Rattle.gm_jobs.specs.declared.job.Query.{Query}
use Rattle.gm_jobs.specs.Queries.{meets}
use Rattle.gm_jobs.specs.Hints.{IsHinted, hints_of}
use Rattle.gm_jobs.specs.Uniques.{LeadsTo, digest_of}
use Rattle.gm_jobs.proofs.UniqueLemmas.{leads_same}
use Rattle.gm_jobs.proofs.JobLemmas.{beside, kept_made, next_absent, next_is}
use Rattle.gm_jobs.proofs.jobs.Jobs.insert.Goals as goal
use Rattle.gm_jobs.proofs.jobs.Jobs.insert.Goals.{After-begin}

number : (c : After-begin) → (beside c.self.inside).next ≡ c.unwrap-number.result
number c = ap (λ o. unwrap_or o (2 ^ 64)) c.unwrap-number.ensures

ready : (c : After-begin) → IsReady (beside c.self.inside) c.self.inside.jobs.room
ready c = c.self.invariant.ready c.unwrap-reservation.result (sym c.take.ensures.value ∙ c.unwrap-reservation.ensures)

pub insert-requires-clause-absent : goal.insert-requires-clause-absent
insert-requires-clause-absent c =
    let t = c.self.inside in
    subst (λ i. find_job t.jobs.entries i ≡ None) (ap (λ o. unwrap_or o (2 ^ 64)) c.unwrap-number.ensures) (next_absent (beside t) t.jobs.entries t.reservation t.jobs.room c.self.invariant)

pub insert-requires-clause-room : goal.insert-requires-clause-room
insert-requires-clause-room c = (c.self.invariant.ready c.unwrap-reservation.result (sym c.take.ensures.value ∙ c.unwrap-reservation.ensures)).job

adds : (c : After-begin) → (m : ℕ) → find_job c.insert.new.self.entries m ≡ (if (beside c.self.inside).next == m then Some c.fill-job.result else find_job c.self.inside.jobs.entries m)
adds c =
    subst (λ i. (m : ℕ) → find_job c.insert.new.self.entries m ≡ (if i == m then Some c.fill-job.result else find_job c.self.inside.jobs.entries m)) (sym (number c)) c.insert.ensures.jobs

made_led : (c : After-begin) → joins c.fill-job.result.unique ≡ true → LeadsTo c.insert-2.new.self (digest_of c.self.inside.seed c.fill-job.result.function c.fill-job.result.unique) (beside c.self.inside).next
made_led c good =
    let unique = ap (λ (l : Live). l.unique) c.fill-job.ensures in
    let named = ap joins (sym unique) ∙ good in
    let digest = c.requires.vacant.digest named ∙ ap (λ (t : Table). digest_of t.seed c.args.new.f c.args.new.unique.now) (sym c.self.view_is) in
    leads_same c.insert-2.new.self c.self.inside.seed c.args.new.f c.fill-job.result.function c.unwrap-number.result (beside c.self.inside).next c.args.new.unique.now c.fill-job.result.unique
    (sym (ap (λ (l : Live). l.function) c.fill-job.ensures)) (sym unique) (sym (number c))
    (subst (λ d. LeadsTo c.insert-2.new.self d c.unwrap-number.result) digest (c.insert-2.ensures.stands named))

made_found : (c : After-begin) (q : Query) → meets q c.fill-job.result ≡ true → IsHinted (hints_of c.begin.new.self q) (beside c.self.inside).next
made_found c q met =
    subst (λ i. IsHinted (hints_of c.begin.new.self q) i) (sym (number c)) (c.begin.ensures.stands q c.args.new.f c.args.new.p c.args.new.unique.now _ (sym (ap (meets q) c.fill-job.ensures) ∙ met))

made_single : (c : After-begin) (m : ℕ) (live : Live) → joins c.fill-job.result.unique ≡ true → find_job c.self.inside.jobs.entries m ≡ Some live → is_named c.fill-job.result.function c.fill-job.result.unique live ≡ true → ⊥
made_single c m live good found named =
    c.requires.vacant.none m (record {
      joins = ap (λ (l : Live). joins l.unique) (sym c.fill-job.ensures) ∙ good;
      named = subst (λ (t : Table). passes (is_named c.args.new.f c.args.new.unique.now) (find_job t.live m) ≡ true) c.self.view_is
          (ap (passes (is_named c.args.new.f c.args.new.unique.now)) found ∙ ap (λ (l : Live). is_named l.function l.unique live) (sym c.fill-job.ensures) ∙ named);
    })

pub invariant_of-self : goal.invariant_of-self
invariant_of-self c =
    let d = (goal.at.invariant_of-self c).After-begin in
    let t = c.self.inside in
    let next : unwrap_or c.checked_add-self-inside.result (2 ^ 64) ≡ (beside t).next + 1 = next_is c.checked_add-self-inside.result c.unwrap-number.result c.checked_add-self-inside.ensures (omega arith) ∙ ap (λ i. i + 1) (sym (number d)) in
    subst (λ i. IsKept (record (beside t) { next = i; left = is_some c.checked_add-self-inside.result; uniques = c.insert-2.new.self; index = c.begin.new.self }) c.take.new.self c.insert.new.self.room c.insert.new.self.entries) (sym next)
    (subst (λ (r : Option Room). IsKept (record (beside t) { next = (beside t).next + 1; left = is_some c.checked_add-self-inside.result; uniques = c.insert-2.new.self; index = c.begin.new.self }) r c.insert.new.self.room c.insert.new.self.entries) (sym c.take.ensures.after)
    (kept_made (beside t) t.jobs.entries c.fill-job.result c.insert.new.self.entries (adds d) (is_some c.checked_add-self-inside.result) t.reservation c.unwrap-reservation.result t.jobs.room c.insert.new.self.room c.insert-2.new.self c.begin.new.self
    c.self.invariant (ready d) (made_led d) c.insert-2.ensures.kept c.begin.ensures.kept (made_found d) (ap (λ (l : Live). l.live_place) c.fill-job.ensures) (made_single d)))
