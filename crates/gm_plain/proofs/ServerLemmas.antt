-- What a plain server needs of the definitions.
use Rattle.std.proofs.Common.{◌≡◌, ◌≢◌, ℕ, suc, ◌+◌, ◌<◌, Bool, true, false, cond, List, [], ◌∷◌, ◌++◌, length, get_or, set, Option, Some}
use Rattle.std.proofs.Common.{None, Result, Ok, Err, refl, sym, ap, subst, ◌∙◌, arith, length-set}
use Rattle.std.specs.Prelude.{is_some, not, filter, ◌&&◌, ◌==◌, if◌then◌else◌}
use Rattle.std.specs.Result.{IsErr, OnOk, OnErr}
use Rattle.std.specs.List.{All}
use Rattle.std.proofs.lemmas.Bool.Decides.{nat_tests}
use Rattle.std.proofs.lemmas.List.{get_or-set_same, get_or-set_other}
use Rattle.std.proofs.Math.Numerals.{add-one}
use Rattle.std.specs.declared.alloc.AllocError.{AllocError}
use Rattle.gm_packet.specs.Answers.{Answer, answer_packet, job_created, work_fail}
use Rattle.gm_notes.specs.declared.note.Note.{Note}
use Rattle.gm_notes.specs.declared.note.Note.TheVariants.{Woken, Stirred, Kept, Listens, Made, Mention, Assigned}
use Rattle.gm_notes.specs.declared.states.Priority.{Priority}
use Rattle.gm_notes.specs.declared.states.Mode.{Mode}
use Rattle.gm_notes.specs.declared.states.Mode.TheVariants as modes
use Rattle.gm_notes.specs.Settings.{Settings}
use Rattle.gm_notes.specs.Notes.{is_open, phase, is_asleep, slots_from, takes_units, moment, accepts_connections}
use Rattle.gm_notes.specs.Jobs.{Job, job, is_able, is_mentioned, handle, listeners}
use Rattle.gm_notes.specs.declared.states.Pick.{Pick}
use Rattle.gm_notes.specs.Flow.{Flow, waiting}
use Rattle.gm_plain.specs.Outboxes.{with_bytes, with_bytes_each}
use Rattle.gm_notes.specs.Past.{Past, with_note, with_output, give, tell_all, with_mention, wake_each, wake}
use Rattle.gm_notes.specs.Workers.{sleep_beside, wake_itself, deadline_after, tell_assigned, give_out, keep_report}
use Rattle.gm_notes.specs.Workers.{Work, hearers, wants_exceptions, tell_others, tell_work, end_if}
use Rattle.gm_notes.specs.Submissions.{Submission, keep_or_listen, make}
use Rattle.gm_notes.specs.Closings.{wake_for}
use Rattle.gm_plain.specs.Holds.{Holds, Contents, HeldIn, Becomes, tell_listeners, wake_one_for}
use Rattle.gm_notes.specs.Steps.{if_free, if_accepted, unless_not_open}
use Rattle.gm_actions.specs.Effects.{if_done}
use Rattle.gm_actions.proofs.Changing.{changes_then, changes_as, done_as, done_not}
use Rattle.gm_notes.proofs.Numbers.{same_number}

-- ---- one change after another

module _ {a b : Contents} where
  pub goes_then : {c : Contents} {f g : Past → Past} → Becomes a b f → Becomes b c g → Becomes a c (λ past. g (f past))
  goes_then {c} {f} {g} first second = changes_then {f = f} {g = g} (λ x y. tt) first second

  -- a change that is the same at what is kept
  pub goes_as : {f g : Past → Past} → Becomes a b f → ((past : Past) → HeldIn a past → f past ≡ g past) → Becomes a b g
  goes_as {f} {g} goes same = changes_as {f = f} g goes same

  pub does_as : {E : Type 0} {f : Past → Past} (result : Result (Unit {0}) E) (g : Past → Past) → Becomes a b (if_done result f)
      → ((past : Past) → HeldIn a past → f past ≡ g past) → Becomes a b (if_done result g)
  does_as {E} {f} result g goes same = done_as {f = f} result g goes same

  -- out of memory nothing happened
  pub does_not : {S : Type 0} (result : Result (Unit {0}) AllocError) (g : Past → Past) → IsErr result × S → Becomes a b (λ past. past)
      → Becomes a b (if_done result g)
  does_not {S} result g failed goes = done_not result g failed goes

-- ---- bytes

queued_at : (t : Bool) (outboxes : List (List ℕ)) (slot : ℕ) (bytes : List ℕ) (flow : List Flow) (c : ℕ) → (c == slot) ≡ t → slot < length outboxes
    → ((d : ℕ) → get_or outboxes d [] ≡ waiting d flow) → get_or (set outboxes slot (get_or outboxes slot [] ++ bytes)) c [] ≡ cond t (waiting c flow ++ bytes) (waiting c flow)
queued_at true outboxes slot bytes flow c is lt each =
    let same : slot ≡ c = grind (arith, nat_tests) in
    subst (λ x. get_or (set outboxes slot (get_or outboxes slot [] ++ bytes)) x [] ≡ waiting x flow ++ bytes) same (get_or-set_same outboxes slot _ [] lt ∙ ap (λ l. l ++ bytes) (each slot))
queued_at false outboxes slot bytes flow c is lt each =
    let other : c ≢ slot = grind (arith, nat_tests) in
    rw get_or-set_other (each c)

-- what is queued waits
pub holds_given : (notes : List Note) (outboxes : List (List ℕ)) (past : Past) (slot : ℕ) (bytes : List ℕ) → Holds notes outboxes past → slot < length outboxes
    → Holds notes (with_bytes slot bytes outboxes) (with_output slot bytes past)
holds_given notes outboxes past slot bytes holds lt =
    record { notes_are = holds.notes_are; waiting_are = λ c. queued_at (c == slot) outboxes slot bytes past.flow c refl lt holds.waiting_are }

pub holds_given_all : (notes : List Note) (outboxes : List (List ℕ)) (past : Past) (slots : List ℕ) (answer : Answer) → Holds notes outboxes past
    → All (λ c. c < length outboxes) slots → Holds notes (with_bytes_each (answer_packet answer) slots outboxes) (tell_all answer slots past)
holds_given_all notes outboxes past [] answer holds below = holds
holds_given_all notes outboxes past (slot ∷ slots) answer holds below =
    let text = answer_packet answer in
    let lt : slot < length outboxes = below 0 0 (omega arith) in
    let long = length-set outboxes slot (get_or outboxes slot [] ++ text) in
    holds_given_all notes (with_bytes slot text outboxes) (with_output slot text past) slots answer (holds_given notes outboxes past slot text holds lt)
    (λ k d h. subst (λ n. get_or slots k d < n) (sym long) (below (suc k) d (omega (arith, h))))

-- ---- steps

-- who takes new connections and has a free slot
pub accepted : (m : Mode) (o : Option ℕ) (slot : ℕ) → accepts_connections m ≡ true → o ≡ Some slot → if_accepted m o ≡ None
accepted modes.Running o slot goes free = ap if_free free
accepted m o slot goes free = absurd cc

-- ---- requests

pub give_wanted : (c : ℕ) (s : Submission) (n : ℕ) (answer : Answer) (past : Past) → give c answer (keep_or_listen c s n past) ≡ keep_or_listen c s n (give c answer past)
give_wanted c s n answer past = go s.background
  where
    go : (t : Bool) → give c answer (if t then with_note (Kept n) past else with_note (Listens n c) past) ≡ (if t then with_note (Kept n) (give c answer past) else with_note (Listens n c) (give c answer past))
    go true = refl
    go false = refl

give_mentioned : (c : ℕ) (f : List ℕ) (answer : Answer) (past : Past) → give c answer (with_mention f past) ≡ with_mention f (give c answer past)
give_mentioned c f answer past = go (is_mentioned f past.notes)
  where
    go : (t : Bool) → give c answer (if t then past else with_note (Mention f) past) ≡ (if t then give c answer past else with_note (Mention f) (give c answer past))
    go true = refl
    go false = refl

job_made : (n : ℕ) (f : List ℕ) (p : Priority) (u body : List ℕ) (c : ℕ) (s : Submission) (past : Past)
    → job n (keep_or_listen c s n (with_note (Made n f p u body) past)).notes ≡ Some (record { function = f; priority = p; unique = u; body = body })
job_made n f p u body c s past = go s.background
  where
    go : (t : Bool) → job n (if t then with_note (Kept n) (with_note (Made n f p u body) past) else with_note (Listens n c) (with_note (Made n f p u body) past)).notes
        ≡ Some (record { function = f; priority = p; unique = u; body = body })
    go true = rw (same_number n) refl
    go false = rw (same_number n) refl

-- it doesn't matter that the answer is queued first, nor by which name those are woken who can do the job
pub make_is : (k : Settings) (c : ℕ) (s : Submission) (n : ℕ) (past : Past)
    → wake_for k (job n (keep_or_listen c s n (with_note (Made n s.function s.priority s.unique s.body) (with_mention s.function (give c (job_created (handle k n)) past)))).notes)
    (keep_or_listen c s n (with_note (Made n s.function s.priority s.unique s.body) (with_mention s.function (give c (job_created (handle k n)) past))))
    ≡ make k c s (Some n) past
make_is k c s n past =
    let answer = job_created (handle k n) in
    let note = Made n s.function s.priority s.unique s.body in
    let q : Past = keep_or_listen c s n (with_note note (with_mention s.function (give c answer past))) in
    ap (λ o. wake_for k o q) (job_made n s.function s.priority s.unique s.body c s (with_mention s.function (give c answer past)))
    ∙ ap (wake k s.function)
    (ap (λ p. keep_or_listen c s n (with_note note p)) (sym (give_mentioned c s.function answer past)) ∙ sym (give_wanted c s n answer (with_note note (with_mention s.function past))))

-- those of these slots that sleep and can do such a job are woken
abbrev pub wake_each_for : Option Job → List ℕ → Past → Past
wake_each_for None slots past = past
wake_each_for (Some job) slots past = wake_each job.function slots past

pub wake_all : (k : Settings) (o : Option Job) (past : Past) → wake_for k o past ≡ wake_each_for o (slots_from 0 k.slots) past
wake_all k None past = refl
wake_all k (Some job) past = refl

pub wake_next : (o : Option Job) (slot count rest : ℕ) (past : Past) → count ≡ suc rest
    → wake_each_for o (slots_from slot count) past ≡ wake_each_for o (slots_from (slot + 1) rest) (wake_one_for o slot past)
wake_next None slot count rest past e = refl
wake_next (Some job) slot count rest past e = rw (e, add-one) refl

pub wake_none : (o : Option Job) (slot count : ℕ) (past : Past) → count ≡ 0 → wake_each_for o (slots_from slot count) past ≡ past
wake_none None slot count past e = refl
wake_none (Some job) slot count past e = rw e refl

-- waking tells nothing of jobs
woken_job : (t : Bool) (n c : ℕ) (past : Past) → job n (if t then with_note (Woken c) past else past).notes ≡ job n past.notes
woken_job true n c past = refl
woken_job false n c past = refl

pub wake_job : (o : Option Job) (n c : ℕ) (past : Past) → job n (wake_one_for o c past).notes ≡ job n past.notes
wake_job None n c past = refl
wake_job (Some j) n c past = woken_job (is_open c past.notes && is_asleep (phase c past.notes) && is_able c j.function past.notes) n c past

-- ---- workers

pub holds_all : {n : List Note} {l l' : List (List ℕ)} (result : Result (Unit {0}) AllocError) (answer : Answer) (slots text : List ℕ) → text ≡ answer_packet answer
    → All (λ c. c < length l) slots → OnOk result (l' ≡ with_bytes_each text slots l) → OnErr result (l' ≡ l) → (p : Past) → Holds n l p → Holds n l' (if_done result (tell_all answer slots) p)
holds_all {n} {l} {l'} (Ok done) answer slots text is below ok err p holds =
    subst (λ a. Holds n a (tell_all answer slots p)) (sym (ok ∙ ap (λ t. with_bytes_each t slots l) is)) (holds_given_all n l p slots answer holds below)
holds_all {n} {l} {l'} (Err failed) answer slots text is below ok err p holds = subst (λ a. Holds n a p) (sym err) holds

pub woken_given : (c : ℕ) (answer : Answer) (past : Past) → wake_itself c (give c answer past) ≡ give c answer (wake_itself c past)
woken_given c answer past = go (is_asleep (phase c past.notes))
  where
    go : (t : Bool) → (if t then with_note (Stirred c) (give c answer past) else give c answer past) ≡ give c answer (if t then with_note (Stirred c) past else past)
    go true = refl
    go false = refl

-- it doesn't matter that the worker hears of its job first
assign_told : (k : Settings) (c : ℕ) (uniq : Bool) (n timeout : ℕ) (past : Past) (t : Bool) (found : Option Job) → job n past.notes ≡ found
    → with_note (Assigned n c (deadline_after (moment past.notes) timeout)) (if t then with_note (Stirred c) (tell_assigned k c uniq n found past) else tell_assigned k c uniq n found past)
    ≡ tell_assigned k c uniq n (job n (if t then with_note (Stirred c) past else past).notes)
    (with_note (Assigned n c (deadline_after (moment (if t then with_note (Stirred c) past else past).notes) timeout)) (if t then with_note (Stirred c) past else past))
assign_told k c uniq n timeout past true None e = rw e refl
assign_told k c uniq n timeout past true (Some found) e = rw e refl
assign_told k c uniq n timeout past false None e = rw e refl
assign_told k c uniq n timeout past false (Some found) e = rw e refl

told_phase : (k : Settings) (c : ℕ) (uniq : Bool) (n : ℕ) (past : Past) (found : Option Job) → (tell_assigned k c uniq n found past).notes ≡ past.notes
told_phase k c uniq n past None = refl
told_phase k c uniq n past (Some found) = refl

pub assign_is : (k : Settings) (c : ℕ) (uniq : Bool) (n timeout : ℕ) (past : Past)
    → with_note (Assigned n c (deadline_after (moment past.notes) timeout)) (wake_itself c (tell_assigned k c uniq n (job n past.notes) past))
    ≡ give_out k c uniq (Some (record { job = n; timeout = timeout })) (wake_itself c past)
assign_is k c uniq n timeout past =
    let told = tell_assigned k c uniq n (job n past.notes) past in
    ap (λ (l : List Note). with_note (Assigned n c (deadline_after (moment past.notes) timeout)) (if is_asleep (phase c l) then with_note (Stirred c) told else told))
    (told_phase k c uniq n past (job n past.notes))
    ∙ assign_told k c uniq n timeout past (is_asleep (phase c past.notes)) (job n past.notes) refl

-- it doesn't matter that the listeners hear first
pub kept_told : (n : ℕ) (r : Option (List ℕ × List ℕ)) (answer : Answer) (slots : List ℕ) (past : Past)
    → keep_report n r (tell_all answer slots past) ≡ tell_all answer slots (keep_report n r past)
kept_told n r answer [] past = refl
kept_told n None answer (c ∷ slots) past = refl
kept_told n (Some numbers) answer (c ∷ slots) past = kept_told n (Some numbers) answer slots (give c answer past)

kept_beside : (n : ℕ) (r : Option (List ℕ × List ℕ)) (t : Bool) (answer : Answer) (slots : List ℕ) (notes : List Note) (past : Past)
    → keep_report n r (tell_others t answer slots notes past) ≡ tell_others t answer slots notes (keep_report n r past)
kept_beside n r true answer slots notes past = kept_told n r answer (filter (λ c. not (wants_exceptions c notes)) slots) past
kept_beside n r false answer slots notes past = refl

pub kept_listening : (k : Settings) (w : Work) (n : ℕ) (past : Past) → end_if w.ends n (keep_report n w.report (tell_listeners k w n past)) ≡ tell_work k w n past
kept_listening k w n past =
    let slots = listeners n past.notes in
    let heard = hearers w.exceptions_only slots past.notes in
    let fails = w.exceptions_only && w.ends in
    ap (end_if w.ends n)
    (kept_beside n w.report fails (work_fail (handle k n)) slots past.notes (tell_all w.answer heard past)
    ∙ ap (tell_others fails (work_fail (handle k n)) slots past.notes) (kept_told n w.report w.answer heard past))

-- where nobody else is told anything, and where the others are told of a failure
pub told_alone : (k : Settings) (w : Work) (n : ℕ) (past : Past) → (w.exceptions_only && w.ends) ≡ false
    → tell_all w.answer (hearers w.exceptions_only (listeners n past.notes) past.notes) past ≡ tell_listeners k w n past
told_alone k w n past e = rw e refl

pub told_beside : (k : Settings) (w : Work) (n : ℕ) (past : Past) → (w.exceptions_only && w.ends) ≡ true
    → tell_all (work_fail (handle k n)) (filter (λ c. not (wants_exceptions c past.notes)) (listeners n past.notes))
    (tell_all w.answer (hearers w.exceptions_only (listeners n past.notes) past.notes) past)
    ≡ tell_listeners k w n past
told_beside k w n past e = rw e refl

pub beside_some : (c : ℕ) (o : Option Pick) (past : Past) → is_some o ≡ true → with_note (Woken c) past ≡ sleep_beside o c past
beside_some c None past e = absurd cc
beside_some c (Some found) past e = refl

pub beside_none : (c : ℕ) (o : Option Pick) (past : Past) → is_some o ≡ false → past ≡ sleep_beside o c past
beside_none c None past e = refl
beside_none c (Some found) past e = absurd cc

-- ---- answers

pub units_taken : (notes : List Note) (slot : ℕ) (past : Past) → notes ≡ past.notes → takes_units slot notes ≡ true → unless_not_open (takes_units slot past.notes) ≡ None
units_taken notes slot past is takes = ap unless_not_open (ap (takes_units slot) (sym is) ∙ takes)
