-- The job that a packet makes, if it makes one.
use Rattle.std.proofs.Common.{◌≡◌, ℕ, Bool, true, false, not, ◌&&◌, ◌==◌, filter, List, ◌∷◌, length, codes, Option, Some, None, refl, sym, ap, ◌∙◌, arith}
use Rattle.std.proofs.lemmas.Bool.Decides.{nat_tests}
use Rattle.gm_packet.specs.Answers.{Answer, work_fail}
use Rattle.gm_notes.specs.declared.note.Note.{Note}
use Rattle.gm_notes.specs.declared.note.Note.TheVariants.{Mention, Made, Kept, Listens}
use Rattle.gm_notes.specs.Settings.{Settings}
use Rattle.gm_notes.specs.Notes.{slots_from}
use Rattle.gm_notes.specs.Jobs.{made, job_state, is_mentioned, listeners, handle}
use Rattle.gm_notes.specs.JobStates.{is_running_at}
use Rattle.gm_notes.specs.Past.{Past, with_note, refuse, with_mention, tell_all}
use Rattle.gm_notes.specs.Submissions.{Submission, keep_or_listen, make}
use Rattle.gm_notes.specs.Steps.{made_since}
use Rattle.gm_notes.specs.Workers.{Work, keep_report, end_if, hearers, wants_exceptions, tell_others, tell_work, work_on}
use Rattle.gm_actions.proofs.JobsMade.{either, none_made, tell_made, wake_made}

-- ---- what makes no job

mentioned_made : (f : List ℕ) (past : Past) → made (with_mention f past).notes ≡ made past.notes
mentioned_made f past = either (is_mentioned f past.notes) (made past.notes) past (with_note (Mention f) past) refl refl

report_made : (n : ℕ) (numbers : Option (List ℕ × List ℕ)) (past : Past) → made (keep_report n numbers past).notes ≡ made past.notes
report_made n None past = refl
report_made n (Some numbers) past = refl

ended_made : (t : Bool) (n : ℕ) (past : Past) → made (end_if t n past).notes ≡ made past.notes
ended_made true n past = refl
ended_made false n past = refl

others_made : (t : Bool) (answer : Answer) (slots : List ℕ) (notes : List Note) (past : Past) → made (tell_others t answer slots notes past).notes ≡ made past.notes
others_made true answer slots notes past = tell_made answer (filter (λ c. not (wants_exceptions c notes)) slots) past
others_made false answer slots notes past = refl

tell_work_made : (k : Settings) (w : Work) (n : ℕ) (past : Past) → made (tell_work k w n past).notes ≡ made past.notes
tell_work_made k w n past =
    let kept : Past = keep_report n w.report past in
    let slots = listeners n past.notes in
    let heard = hearers w.exceptions_only slots past.notes in
    let told : Past = tell_all w.answer heard kept in
    let fails = w.exceptions_only && w.ends in
    ended_made w.ends n (tell_others fails (work_fail (handle k n)) slots past.notes told)
    ∙ (others_made fails (work_fail (handle k n)) slots past.notes told ∙ (tell_made w.answer heard kept ∙ report_made n w.report past))

pub work_on_made : (k : Settings) (c : ℕ) (w : Work) (found : Option ℕ) (past : Past) → made (work_on k c w found past).notes ≡ made past.notes
work_on_made k c w None past = refl
work_on_made k c w (Some n) past =
    either (is_running_at c (job_state n past.notes)) (made past.notes) (tell_work k w n past) (refuse c (codes "job_not_found") past) (tell_work_made k w n past) refl

pub wanted_made : (c : ℕ) (s : Submission) (n : ℕ) (past : Past) → made (keep_or_listen c s n past).notes ≡ made past.notes
wanted_made c s n past = either s.background (made past.notes) (with_note (Kept n) past) (with_note (Listens n c) past) refl refl

-- ---- what is answered

pub none_by : (past after : Past) → made after.notes ≡ made past.notes → None ≡ made_since (made past.notes) (made after.notes)
none_by past after same = sym (ap (made_since (made past.notes)) same ∙ none_made (made past.notes))

one_more : (n : ℕ) (jobs : List ℕ) → Some n ≡ made_since jobs (n ∷ jobs)
one_more n jobs = let longer : (length (n ∷ jobs) == length jobs) ≡ false = grind (arith, nat_tests) in rw longer refl

pub one_by : (k : Settings) (c : ℕ) (s : Submission) (n : ℕ) (past : Past) → Some n ≡ made_since (made past.notes) (made (make k c s (Some n) past).notes)
one_by k c s n past =
    let there : Past = with_note (Made n s.function s.priority s.unique s.body) (with_mention s.function past) in
    let kept : Past = keep_or_listen c s n there in
    let answered : Past = record { notes = kept.notes; flow = _ } in
    one_more n (made past.notes)
    ∙ sym (ap (made_since (made past.notes)) (wake_made s.function (slots_from 0 k.slots) answered ∙ (wanted_made c s n there ∙ ap (λ (l : List ℕ). n ∷ l) (mentioned_made s.function past))))
