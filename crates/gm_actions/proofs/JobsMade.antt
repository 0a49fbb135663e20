-- What makes no jobs, and how many a step made.
use Rattle.std.proofs.Common.{◌≡◌, ℕ, suc, ◌+◌, Bool, true, false, List, [], ◌∷◌, length, reverse, Option, Some, None, Result}
use Rattle.std.proofs.Common.{Ok, Err, refl, ap, ◌∙◌, arith}
use Rattle.std.specs.Prelude.{not, ◌==◌, ◌&&◌, if◌then◌else◌, max}
use Rattle.std.proofs.Math.Numerals.{add-one}
use Rattle.std.proofs.lemmas.Bool.Decides.{nat_tests}
use Rattle.gm_packet.specs.Answers.{Answer, work_fail}
use Rattle.gm_admin.specs.declared.fault.AdminFault.{AdminFault}
use Rattle.gm_admin.specs.declared.fault.AdminError.TheVariants as errors
use Rattle.gm_admin.specs.Commands.{Commanded, Status, Workers, MaxQueue, Version, Shutdown}
use Rattle.gm_admin.specs.Answers.{ok_text}
use Rattle.gm_notes.specs.declared.note.Note.TheVariants.{Woken, Stirred, Returned, Lost, Discarded, Ended, Now, Shut, Limit, Went, Mention}
use Rattle.gm_notes.specs.declared.states.Mode.{Mode}
use Rattle.gm_notes.specs.declared.states.Mode.TheVariants.{Running, Graceful, Stopped}
use Rattle.gm_notes.specs.Settings.{Settings}
use Rattle.gm_notes.specs.Notes.{is_open, is_shut, phase, is_asleep, mode, moment, slots_from}
use Rattle.gm_notes.specs.Jobs.{Job, job, job_state, made, is_able, is_wanted, is_last_try, is_mentioned, deadline, listeners, handle}
use Rattle.gm_notes.specs.JobStates.{is_waiting, is_running, is_running_at}
use Rattle.gm_notes.specs.Past.{Past, with_note, with_output, give, with_mention, tell_all, wake_one, wake_each}
use Rattle.gm_notes.specs.Steps.{Step, refusal, add, unless, run, made_since}
use Rattle.gm_notes.specs.Submissions.{is_one_too_many}
use Rattle.gm_notes.specs.Workers.{wake_itself}
use Rattle.gm_notes.specs.Closings.{discard_one, discard_each, wake_for, return_or_lose, give_back_one, give_back_each, disconnect, rising}
use Rattle.gm_notes.specs.Closings.{close, is_reached, expire_one, expire_each, tick}
use Rattle.gm_notes.specs.Lines.{refuse_line, is_bad_word, maxqueue, shut_one, shut_each, go_graceful, command}

-- ---- steps

-- a step that is taken adds what it adds
pub run_taken : (k : Settings) (s : Step) (steps : List Step) → refusal k s (run k steps) ≡ None → run k (s ∷ steps) ≡ add k s (run k steps)
run_taken k s steps taken = ap (λ o. unless o (add k s (run k steps)) (run k steps)) taken

-- no job was made where there are as many
pub none_made : (jobs : List ℕ) → made_since jobs jobs ≡ None
none_made jobs = let same : (length jobs == length jobs) ≡ true = grind (arith, nat_tests) in rw same refl

-- ---- what makes no job

pub either : (t : Bool) (jobs : List ℕ) (a b : Past) → made a.notes ≡ jobs → made b.notes ≡ jobs → made (if t then a else b).notes ≡ jobs
either true jobs a b x y = x
either false jobs a b x y = y

pub tell_made : (answer : Answer) (slots : List ℕ) (past : Past) → made (tell_all answer slots past).notes ≡ made past.notes
tell_made answer [] past = refl
tell_made answer (c ∷ slots) past = tell_made answer slots (give c answer past)

pub stir_made : (c : ℕ) (past : Past) → made (wake_itself c past).notes ≡ made past.notes
stir_made c past = either (is_asleep (phase c past.notes)) (made past.notes) (with_note (Stirred c) past) past refl refl

pub discard_made : (n : ℕ) (past : Past) → made (discard_one n past).notes ≡ made past.notes
discard_made n past = either (is_waiting (job_state n past.notes) && not (is_wanted n past.notes)) (made past.notes) (with_note (Discarded n) past) past refl refl

pub discards_made : (jobs : List ℕ) (past : Past) → made (discard_each jobs past).notes ≡ made past.notes
discards_made [] past = refl
discards_made (n ∷ jobs) past = discards_made jobs (discard_one n past) ∙ discard_made n past

pub wake_one_made : (f : List ℕ) (c : ℕ) (past : Past) → made (wake_one f c past).notes ≡ made past.notes
wake_one_made f c past = either (is_open c past.notes && is_asleep (phase c past.notes) && is_able c f past.notes) (made past.notes) (with_note (Woken c) past) past refl refl

pub wake_made : (f : List ℕ) (slots : List ℕ) (past : Past) → made (wake_each f slots past).notes ≡ made past.notes
wake_made f [] past = refl
wake_made f (c ∷ slots) past = wake_made f slots (wake_one f c past) ∙ wake_one_made f c past

wake_for_made : (k : Settings) (o : Option Job) (past : Past) → made (wake_for k o past).notes ≡ made past.notes
wake_for_made k None past = refl
wake_for_made k (Some job) past = wake_made job.function (slots_from 0 k.slots) past

return_or_lose_made : (k : Settings) (n : ℕ) (past : Past) → made (return_or_lose k n past).notes ≡ made past.notes
return_or_lose_made k n past =
    either (is_last_try k n past.notes) (made past.notes) (with_note (Lost n) past) (wake_for k (job n past.notes) (with_note (Returned n) past)) refl
    (wake_for_made k (job n past.notes) (with_note (Returned n) past))

pub give_back_made : (k : Settings) (c n : ℕ) (past : Past) → made (give_back_one k c n past).notes ≡ made past.notes
give_back_made k c n past =
    either (is_running_at c (job_state n past.notes)) (made past.notes) (if is_wanted n past.notes then return_or_lose k n past else with_note (Discarded n) past) past
    (either (is_wanted n past.notes) (made past.notes) (return_or_lose k n past) (with_note (Discarded n) past) (return_or_lose_made k n past) refl)
    refl

give_backs_made : (k : Settings) (c : ℕ) (jobs : List ℕ) (past : Past) → made (give_back_each k c jobs past).notes ≡ made past.notes
give_backs_made k c [] past = refl
give_backs_made k c (n ∷ jobs) past = give_backs_made k c jobs (give_back_one k c n past) ∙ give_back_made k c n past

pub close_made : (k : Settings) (c : ℕ) (past : Past) → made (close k c past).notes ≡ made past.notes
close_made k c past =
    give_backs_made k c (rising past) (discard_each (rising past) (disconnect c past)) ∙ (discards_made (rising past) (disconnect c past) ∙ stir_made c past)

-- the jobs made are the same at each part of it
pub close_is : (k : Settings) (c : ℕ) (past : Past)
    → give_back_each k c (rising (discard_each (rising (disconnect c past)) (disconnect c past))) (discard_each (rising (disconnect c past)) (disconnect c past)) ≡ close k c past
close_is k c past =
    let first : rising (disconnect c past) ≡ rising past = ap reverse (stir_made c past) in
    let second : rising (discard_each (rising past) (disconnect c past)) ≡ rising past = ap reverse (discards_made (rising past) (disconnect c past) ∙ stir_made c past) in
    ap (λ jobs. give_back_each k c (rising (discard_each jobs (disconnect c past))) (discard_each jobs (disconnect c past))) first
    ∙ ap (λ jobs. give_back_each k c jobs (discard_each (rising past) (disconnect c past))) second

-- ---- ticks

pub expired_made : (k : Settings) (n : ℕ) (past : Past) → made (expire_one k n past).notes ≡ made past.notes
expired_made k n past =
    either (is_running (job_state n past.notes) && is_reached (deadline n past.notes) (moment past.notes)) (made past.notes)
    (with_note (Ended n) (tell_all (work_fail (handle k n)) (listeners n past.notes) past)) past (tell_made (work_fail (handle k n)) (listeners n past.notes) past) refl

expire_made : (k : Settings) (jobs : List ℕ) (past : Past) → made (expire_each k jobs past).notes ≡ made past.notes
expire_made k [] past = refl
expire_made k (n ∷ jobs) past = expire_made k jobs (expire_one k n past) ∙ expired_made k n past

pub tick_made : (k : Settings) (now : ℕ) (past : Past) → made (tick k now past).notes ≡ made past.notes
tick_made k now past = expire_made k (rising past) (with_note (Now (max now (moment past.notes))) past)

-- ---- lines

pub shut_next : (slot count rest : ℕ) (past : Past) → count ≡ suc rest → shut_each (slots_from slot count) past ≡ shut_each (slots_from (slot + 1) rest) (shut_one slot past)
shut_next slot count rest past e = rw (e, add-one) refl

pub shut_none : (slot count : ℕ) (past : Past) → count ≡ 0 → shut_each (slots_from slot count) past ≡ past
shut_none slot count past e = rw e refl

shut_made : (slots : List ℕ) (past : Past) → made (shut_each slots past).notes ≡ made past.notes
shut_made [] past = refl
shut_made (c ∷ slots) past =
    shut_made slots (shut_one c past) ∙ either (is_open c past.notes && not (is_shut c past.notes)) (made past.notes) (with_note (Shut c) past) past refl refl

graceful_made : (m : Mode) (past : Past) → made (go_graceful m past).notes ≡ made past.notes
graceful_made Running past = refl
graceful_made Graceful past = refl
graceful_made Stopped past = refl

maxqueue_made : (k : Settings) (c : ℕ) (f : List ℕ) (size : ℕ) (past : Past) → made (maxqueue k c f size past).notes ≡ made past.notes
maxqueue_made k c f size past =
    let limited = with_output c ok_text (with_note (Limit f size) (with_mention f past)) in
    let many = refuse_line c errors.TooManyFunctions past in
    either (is_bad_word f) (made past.notes) (refuse_line c errors.BadFunction past) (if is_one_too_many k f past.notes then many else limited) refl
    (either (is_one_too_many k f past.notes) (made past.notes) many limited refl (either (is_mentioned f past.notes) (made past.notes) past (with_note (Mention f) past) refl refl))

pub command_made : (k : Settings) (c : ℕ) (asked : Result Commanded AdminFault) (past : Past) → made (command k c asked past).notes ≡ made past.notes
command_made k c (Err fault) past = refl
command_made k c (Ok Status) past = refl
command_made k c (Ok Workers) past = refl
command_made k c (Ok (MaxQueue f size)) past = maxqueue_made k c f size past
command_made k c (Ok Version) past = refl
command_made k c (Ok (Shutdown true)) past = graceful_made (mode past.notes) past
command_made k c (Ok (Shutdown false)) past = shut_made (slots_from 0 k.slots) (with_output c ok_text (with_note (Went Stopped) past))
