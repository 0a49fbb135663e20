-- Ticks, and jobs whose deadlines are reached.
use Rattle.std.proofs.Common.{◌≡◌, ◌≢◌, ℕ, suc, ◌+◌, ◌<◌, ◌≤◌, Bool, true, false, ◌&&◌, List, [], ◌∷◌, ◌++◌, filter, length}
use Rattle.std.proofs.Common.{drop, get_or, append_assoc, Option, Some, None, refl, sym, ap, subst, ◌∙◌, arith}
use Rattle.std.specs.Prelude.{not, max}
use Rattle.std.proofs.lemmas.Bool.{false≢true, and_parts}
use Rattle.std.proofs.Math.Seq.{drop-cons}
use Rattle.std.proofs.Math.Numerals.{add-one}
use Rattle.gm_packet.specs.Answers.{work_fail, answer_packet}
use Rattle.gm_notes.specs.declared.note.Note.TheVariants.{Ended, Now}
use Rattle.gm_notes.specs.Settings.{Settings}
use Rattle.gm_notes.specs.Notes.{moment}
use Rattle.gm_notes.specs.Jobs.{job_state, deadline, listeners, handle}
use Rattle.gm_notes.specs.JobStates.{JobState, is_running, place_of}
use Rattle.gm_notes.specs.JobStates as states
use Rattle.gm_notes.specs.Past.{Past, with_note, tell_all}
use Rattle.gm_notes.specs.Closings.{is_reached, expire_one, expire_each, rising}
use Rattle.gm_conns.specs.ConnTables.{conn}
use Rattle.gm_conns.specs.ConnTables as conns
use Rattle.gm_jobs.specs.Live.{Live, waits, is_due}
use Rattle.gm_jobs.specs.Tables.{Table, job, passes, place_or, is_made, listeners_of, IsNext}
use Rattle.gm_core.specs.declared.server.Tables.{Tables}
use Rattle.gm_core.specs.declared.server.ticking.Late.{Late}
use Rattle.gm_core.specs.Holds.{Keeps, AllTouched, Goes}
use Rattle.gm_core.specs.Telling.{hears, needed, IsRunning, Roomed, Poured}
use Rattle.gm_core.specs.Writing.{copied_text}
use Rattle.gm_core.specs.Ticks.{AreLate, late_bytes, OthersStay}
use Rattle.gm_actions.proofs.JobsMade.{expired_made}
use Rattle.gm_core.proofs.ConnLemmas.{touched_same, touched_then}
use Rattle.gm_core.proofs.JobLemmas.{state_runs}
use Rattle.gm_core.proofs.TellLemmas.{hears_roomed}
use Rattle.gm_core.proofs.RisingLemmas.{Rising, rising_begins, rising_on, rising_done}

-- ---- whose deadlines are reached

dead : (t : Bool) (at : JobState) → place_or None t ≡ place_of at → is_running at ≡ false
dead t states.Unmade e = refl
dead t states.Waiting e = refl
dead true (states.Running d) e = absurd cc
dead false (states.Running d) e = absurd cc
dead true states.Lost e = absurd cc
dead false states.Lost e = absurd cc
dead t states.Ended e = refl
dead t states.Discarded e = refl

pub due_runs : (now : ℕ) (o : Option Live) → passes (is_due now) o ≡ true → IsRunning o
due_runs now None e = absurd (false≢true e)
due_runs now (Some live) e = by (waits live.live_place) (and_parts (not (waits live.live_place)) (is_reached live.deadline now) e).0
  where
    by : (t : Bool) → not t ≡ true → t ≡ false
    by true e = absurd (false≢true e)
    by false e = refl

module _ (core : Tables) (past : Past) (keeps : Keeps core past) (n : ℕ) where
  late_at : (live : Live) → job core.jobs n ≡ Some live → (is_running (job_state n past.notes) && is_reached (deadline n past.notes) (moment past.notes)) ≡ is_due core.moment live
  late_at live at =
      let is = keeps.jobs.live n live at in
      (λ i. is_running (is.job_state i) && is_reached (is.deadline i) (sym keeps.moment i)) ∙ ap (λ b. b && is_reached live.deadline core.moment) (state_runs live.live_place)

  late_is : (is_running (job_state n past.notes) && is_reached (deadline n past.notes) (moment past.notes)) ≡ passes (is_due core.moment) (job core.jobs n)
  late_is = by (job core.jobs n) refl
    where
      by : (o : Option Live) → job core.jobs n ≡ o → (is_running (job_state n past.notes) && is_reached (deadline n past.notes) (moment past.notes)) ≡ passes (is_due core.moment) o
      by None at =
          ap (λ b. b && is_reached (deadline n past.notes) (moment past.notes))
          (dead (is_made core.jobs n) (job_state n past.notes) (ap (λ o. place_or o (is_made core.jobs n)) (sym at) ∙ keeps.jobs.places n))
      by (Some live) at = late_at live at

  pub stays_on_time : (k : Settings) → passes (is_due core.moment) (job core.jobs n) ≡ false → expire_one k n past ≡ past
  stays_on_time k e = let test = late_is ∙ e in rw test refl

  pub expires_so : (k : Settings) → passes (is_due core.moment) (job core.jobs n) ≡ true
      → with_note (Ended n) (tell_all (work_fail (handle k n)) (listeners n past.notes) past) ≡ expire_one k n past
  expires_so k e = let test = late_is ∙ e in rw test refl

-- ---- the jobs that are left

other : (n after m : ℕ) → n ≤ after → after < m → m ≢ n
other n after m le lt e = omega (arith, le, lt, e)

pub late_moved : (k : Settings) (now n after : ℕ) (rest : List Late) (old new : Table) → n ≤ after → OthersStay n old new → AreLate k now old.live after rest → AreLate k now new.live after rest
late_moved k now n after [] old new le stays last = λ m above. ap (passes (is_due now)) (stays m (other n after m le above)) ∙ last m above
late_moved k now n after (late ∷ rest) old new le stays (next, text, more) =
    let above = next.above in (
      record {
        above = next.above;
        found = ap (passes (is_due now)) (stays late.job (other n after late.job le next.above)) ∙ next.found;
        least = λ m at under. ap (passes (is_due now)) (stays m (other n after m le at)) ∙ next.least m at under;
      },
      text,
      late_moved k now n late.job rest old new (omega (arith, le, above)) stays more,
    )

pub bytes_moved : (who : ℕ → Bool) (c : ℕ) (k : Settings) (now n after : ℕ) (rest : List Late) (old new : Table) → n ≤ after → OthersStay n old new → AreLate k now old.live after rest
    → late_bytes who new c rest ≡ late_bytes who old c rest
bytes_moved who c k now n after [] old new le stays late = refl
bytes_moved who c k now n after (late ∷ rest) old new le stays (next, text, more) =
    let above = next.above in
    let first : needed late.text.cost c (filter who (listeners_of (job new late.job))) ≡ needed late.text.cost c (filter who (listeners_of (job old late.job))) =
    ap (λ (o : Option Live). needed late.text.cost c (filter who (listeners_of o))) (stays late.job (other n after late.job le next.above)) in
    let others = bytes_moved who c k now n late.job rest old new (omega (arith, le, above)) stays more in
    (λ i. first i + others i)

pub bytes_last : (who : ℕ → Bool) (table : Table) (c : ℕ) (lates : List Late) (late : Late)
    → late_bytes who table c (lates ++ late ∷ []) ≡ late_bytes who table c lates + needed late.text.cost c (filter who (listeners_of (job table late.job)))
bytes_last who table c [] late = omega arith
bytes_last who table c (first ∷ lates) late = let more = bytes_last who table c lates late in omega (arith, more)

pub left_next : (lates : List Late) (i : ℕ) (late : Late) → i < length lates → late ≡ get_or lates i late → drop i lates ≡ late ∷ drop (i + 1) lates
left_next lates i late lt is =
    drop-cons lates i late lt ∙ (ap (λ x. x ∷ drop (suc i) lates) (sym is) ∙ ap (λ n. late ∷ drop n lates) (sym (add-one i)))

-- ---- the time

pub goes_now : (core : Tables) (now : ℕ) (m : ℕ) → m ≡ max now core.moment → Goes core (record core { moment = m }) (λ past. with_note (Now (max now (moment past.notes))) past)
goes_now core now m is = record {
  config = refl;
  others = touched_same refl;
  past = λ p keeps. record { conns = keeps.conns; functions = keeps.functions; jobs = keeps.jobs; moment = is ∙ ap (max now) keeps.moment; mode = keeps.mode };
}

-- ---- one after another

-- some have failed, and these are left
pub record Expiring (first self : Tables) (rest : List Late) : Type 0 where
  pub after : ℕ
  pub config : self.config ≡ first.config
  pub moment : self.moment ≡ first.moment
  pub late : AreLate first.config first.moment self.jobs.live after rest
  pub room : (c : ℕ) → late_bytes (hears self.conns false) self.jobs c rest ≤ (conn self.conns c).room
  pub others : AllTouched first.conns self.conns
  pub past : (past : Past) → Keeps first past → Rising self (expire_each first.config) first.config.first_job after past

module _ (first : Tables) where
  pub expiring_begins : (lates : List Late) → AreLate first.config first.moment first.jobs.live 0 lates
      → ((c : ℕ) → late_bytes (hears first.conns false) first.jobs c lates ≤ (conn first.conns c).room) → Expiring first first lates
  expiring_begins lates late room = record {
    after = 0;
    config = refl;
    moment = refl;
    late = late;
    room = room;
    others = touched_same refl;
    past = λ past keeps. rising_begins (expire_each first.config) (expire_one first.config) (λ p. refl) (λ n jobs p. refl) first past 0 keeps.jobs.begins keeps;
  }

  module _ (self new : Tables) (late : Late) (rest : List Late) (t : Expiring first self (late ∷ rest)) where
    pub late_now : passes (is_due self.moment) (job self.jobs late.job) ≡ true
    late_now = subst (λ now. passes (is_due now) (job self.jobs late.job) ≡ true) (sym t.moment) t.late.0.found

    pub late_text : late.text ≡ copied_text (answer_packet (work_fail (handle self.config late.job)))
    late_text = subst (λ k. late.text ≡ copied_text (answer_packet (work_fail (handle k late.job)))) (sym t.config) t.late.1

    pub late_room : (c : ℕ) → needed late.text.cost c (filter (hears self.conns false) (listeners_of (job self.jobs late.job))) ≤ (conn self.conns c).room
    late_room c = let all = t.room c in omega (arith, all)

    pub expiring_on : Goes self new (expire_one self.config late.job) → new.moment ≡ self.moment → OthersStay late.job self.jobs new.jobs
        → Poured late.text.cost (filter (hears self.conns false) (listeners_of (job self.jobs late.job))) self.conns new.conns → Expiring first new rest
    expiring_on goes moment stays poured = record {
      after = late.job;
      config = goes.config ∙ t.config;
      others = touched_then t.others goes.others;
      moment = moment ∙ t.moment;
      late = late_moved first.config first.moment late.job late.job rest self.jobs new.jobs (omega arith) stays t.late.2;
      room = λ c.
          let all = t.room c in
          let left = poured.room c in
          let same : late_bytes (hears new.conns false) new.jobs c rest ≡ late_bytes (hears self.conns false) self.jobs c rest =
          (λ i. late_bytes (λ d. poured.hear false d i) new.jobs c rest)
          ∙ bytes_moved (hears self.conns false) c first.config first.moment late.job late.job rest self.jobs new.jobs (omega arith) stays t.late.2 in
          omega (arith, all, left, same);
      past = λ past keeps.
          let k = first.config in
          let was = t.past past keeps in
          rising_on (expire_each k) (expire_one k) (λ p. refl) (λ n jobs p. refl) (is_due first.moment) first self t.config t.after past was
          (λ m e. stays_on_time self was.now was.keeps m k (subst (λ now. passes (is_due now) (job self.jobs m) ≡ false) (sym t.moment) e)) new late.job t.late.0
          (subst (λ (x : Settings). Keeps new (expire_one x late.job was.now)) t.config (goes.past was.now was.keeps)) (expired_made k late.job was.now);
    }

  pub expiring_done : (self : Tables) → Expiring first self [] → Goes first self (λ past. expire_each first.config (rising past) past)
  expiring_done self t = record {
    config = t.config;
    others = t.others;
    past = λ past keeps.
        let k = first.config in
        let was = t.past past keeps in
        rising_done (expire_each k) (expire_one k) (λ p. refl) (λ n jobs p. refl) (is_due first.moment) first self t.config t.after past was
        (λ m e. stays_on_time self was.now was.keeps m k (subst (λ now. passes (is_due now) (job self.jobs m) ≡ false) (sym t.moment) e)) t.late;
  }

-- ---- the list of those that will fail

module _ (k : Settings) (now : ℕ) (table : Table) (self new : conns.Table) (lates : List Late) (after : ℕ) (late : Late)
    (next : IsNext (is_due now) after table.live late.job) where
  -- one more is found
  pub late_next : late.text ≡ copied_text (answer_packet (work_fail (handle k late.job)))
      → ((rest : List Late) → AreLate k now table.live after rest → AreLate k now table.live 0 (lates ++ rest))
      → (rest : List Late) → AreLate k now table.live late.job rest → AreLate k now table.live 0 ((lates ++ late ∷ []) ++ rest)
  late_next text leads rest more = subst (AreLate k now table.live 0) (sym (append_assoc lates (late ∷ []) rest)) (leads (late ∷ rest) (next, text, more))

  pub room_next : Roomed self new
      → ((c : ℕ) → late_bytes (hears self false) table c lates ≤ (conn self c).room)
      → ((c : ℕ) → (conn self c).room + needed late.text.cost c (filter (hears self false) (listeners_of (job table late.job))) ≤ (conn new c).room)
      → (c : ℕ) → late_bytes (hears new false) table c (lates ++ late ∷ []) ≤ (conn new c).room
  room_next roomed room more c =
      let was = room c in
      let is = more c in
      let last = bytes_last (hears self false) table c lates late in
      let same : late_bytes (hears new false) table c (lates ++ late ∷ []) ≡ late_bytes (hears self false) table c (lates ++ late ∷ []) =
      (λ i. late_bytes (λ d. hears_roomed self new false roomed d i) table c (lates ++ late ∷ [])) in
      omega (arith, was, is, last, same)
