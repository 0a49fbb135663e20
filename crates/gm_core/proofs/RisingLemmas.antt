-- Loops over jobs in the order of their numbers, which pass over the jobs that they don't change.
use Rattle.std.proofs.Common.{◌≡◌, ℕ, zero, suc, ◌+◌, ◌-◌, ◌<◌, ◌≤◌, Bool, true, false, not, ◌&&◌, ◌||◌, ◌==◌, nat_le, nat_lt}
use Rattle.std.proofs.Common.{List, [], ◌∷◌, ◌++◌, length, reverse, Option, Some, None, refl, sym, ap, subst, ◌∙◌, arith}
use Rattle.std.proofs.lemmas.Bool.{false≢true, and_parts}
use Rattle.std.proofs.lemmas.Bool.Decides.{nat_tests}
use Rattle.std.proofs.lemmas.Grind.{reverse_onto}
use Rattle.gm_notes.specs.declared.note.Note.TheVariants.{Discarded}
use Rattle.gm_notes.specs.Settings.{Settings}
use Rattle.gm_notes.specs.Notes.{slots_from}
use Rattle.gm_notes.specs.Jobs.{job_state, made, is_wanted}
use Rattle.gm_notes.specs.JobStates.{JobState, is_waiting, is_running_at, place_of}
use Rattle.gm_notes.specs.JobStates as states
use Rattle.gm_notes.specs.Past.{Past, with_note}
use Rattle.gm_notes.specs.Closings.{discard_one, give_back_one, rising}
use Rattle.gm_jobs.specs.declared.job.LivePlace.{LivePlace}
use Rattle.gm_jobs.specs.declared.job.LivePlace.TheVariants.{Waiting, Running, Lost}
use Rattle.gm_jobs.specs.Live.{Live, waits, runs_at, is_run_by, is_orphan}
use Rattle.gm_jobs.specs.Tables.{job, passes, place_or, is_made, IsNext, IsLast}
use Rattle.gm_core.specs.declared.server.Tables.{Tables}
use Rattle.gm_core.specs.Holds.{numbers_down, job_state_at, Keeps}
use Rattle.gm_core.proofs.JobLemmas.{turned}

-- ---- the jobs made, from the first on

slots_end : (n c : ℕ) → slots_from c (suc n) ≡ slots_from c n ++ (c + n) ∷ []
slots_end zero c = ap (λ (x : ℕ). x ∷ []) (omega arith)
slots_end (suc n) c = ap (λ (l : List ℕ). c ∷ l) (slots_end n (suc c) ∙ ap (λ (x : ℕ). slots_from (suc c) n ++ x ∷ []) (omega arith))

rising_slots : (first count : ℕ) → reverse (numbers_down first count) ≡ slots_from first count
rising_slots first zero = refl
rising_slots first (suc count) =
    reverse_onto (numbers_down first count) (first + count) [] ∙ (ap (λ (l : List ℕ). l ++ (first + count) ∷ []) (rising_slots first count) ∙ sym (slots_end count first))

-- the core keeps a past from which doing this to the jobs that are left leads where doing it to all led from the first
pub record Rising (core : Tables) (fold : List ℕ → Past → Past) (first after : ℕ) (past : Past) : Type 0 where
  pub now : Past
  pub keeps : Keeps core now
  pub from : ℕ
  pub left : ℕ
  pub same : made now.notes ≡ made past.notes
  pub low : after < from
  pub reach : (m : ℕ) → after < m → first ≤ m → from ≤ m
  pub end : from + left ≡ first + length (made past.notes)
  pub leads : fold (rising past) past ≡ fold (slots_from from left) now

module _ (fold : List ℕ → Past → Past) (one : ℕ → Past → Past) (ends : (past : Past) → fold [] past ≡ past)
    (goes_on : (n : ℕ) (jobs : List ℕ) (past : Past) → fold (n ∷ jobs) past ≡ fold jobs (one n past)) where
  -- numbers where nothing changes are passed over
  jumped : (count from total rest to : ℕ) (past : Past) → total ≡ count + rest → to ≡ from + count
      → ((m : ℕ) → from ≤ m → m < to → one m past ≡ past) → fold (slots_from from total) past ≡ fold (slots_from to rest) past
  jumped zero from total rest to past all end none =
      let same : total ≡ rest = omega (arith, all) in
      let here : to ≡ from = omega (arith, end) in
      rw (same, here) refl
  jumped (suc count) from total rest to past all end none =
      let more : total ≡ suc (count + rest) = omega (arith, all) in
      ap (λ n. fold (slots_from from n) past) more
      ∙ (goes_on from (slots_from (suc from) (count + rest)) past
      ∙ (ap (fold (slots_from (suc from) (count + rest))) (none from (omega arith) (omega (arith, end)))
      ∙ jumped count (suc from) (count + rest) rest to past refl (omega (arith, end)) (λ m low high. none m (omega (arith, low)) high)))

  pub rising_begins : (core : Tables) (past : Past) (after : ℕ) → after < core.config.first_job → Keeps core past → Rising core fold core.config.first_job after past
  rising_begins core past after below keeps = record {
    now = past;
    keeps = keeps;
    from = core.config.first_job;
    left = length (made past.notes);
    same = refl;
    low = below;
    reach = λ m above at_least. at_least;
    end = refl;
    leads = ap (λ (l : List ℕ). fold l past) (ap (λ (l : List ℕ). reverse l) keeps.jobs.made ∙ rising_slots core.config.first_job (length (made past.notes)));
  }

  was_passed : (test : Live → Bool) (o : Option Live) → passes test o ≡ true → (l : Live) × (o ≡ Some l)
  was_passed test None e = absurd (false≢true e)
  was_passed test (Some l) e = (l, refl)

  bounds : (core : Tables) (past : Past) → Keeps core past → (n : ℕ) (l : Live) → job core.jobs n ≡ Some l → (core.config.first_job ≤ n) × (n < core.config.first_job + length (made past.notes))
  bounds core past keeps n l at =
      let first = keeps.jobs.first in
      let next = keeps.jobs.next in
      let both = and_parts (nat_le core.jobs.first n) (nat_lt n core.jobs.next) (keeps.jobs.numbered n l at) in
      let low : core.jobs.first ≤ n = (let h = both.0 in grind (arith, nat_tests)) in
      let high : n < core.jobs.next = (let h = both.1 in grind (arith, nat_tests)) in
      (omega (arith, first, low), omega (arith, next, high))

  module _ (test : Live → Bool) (core self : Tables) (config : self.config ≡ core.config) (after : ℕ) (past : Past) (t : Rising self fold core.config.first_job after past)
      (stays : (m : ℕ) → passes test (job self.jobs m) ≡ false → one m t.now ≡ t.now) where
    pub rising_on : (new : Tables) (n : ℕ) → IsNext test after self.jobs.live n → Keeps new (one n t.now) → made (one n t.now).notes ≡ made t.now.notes
        → Rising new fold core.config.first_job n past
    rising_on new n next keeps same =
        let alive = was_passed test (job self.jobs n) next.found in
        let within = bounds self t.now t.keeps n alive.0 alive.1 in
        let begins : self.config.first_job ≡ core.config.first_job = ap (λ (k : Settings). k.first_job) config in
        let count : length (made t.now.notes) ≡ length (made past.notes) = ap (λ (l : List ℕ). length l) t.same in
        let end = t.end in
        let low = t.low in
        let reached = t.reach n next.above (let h = within.0 in omega (arith, h, begins)) in
        let high : n < t.from + t.left = (let h = within.1 in omega (arith, h, begins, count, end)) in
        let rest = t.from + t.left - suc n in
        record {
          now = one n t.now;
          keeps = keeps;
          from = suc n;
          left = rest;
          same = same ∙ t.same;
          low = omega arith;
          reach = λ m above at_least. omega (arith, above);
          end = omega (arith, high, end);
          leads = t.leads
              ∙ (jumped (n - t.from) t.from t.left (suc rest) n t.now (omega (arith, reached, high)) (omega (arith, reached)) (λ m at under. stays m (next.least m (omega (arith, at, low)) under))
              ∙ goes_on n (slots_from (suc n) rest) t.now);
        }

    pub rising_done : IsLast test after self.jobs.live → Keeps self (fold (rising past) past)
    rising_done last =
        let low = t.low in
        let done : fold (slots_from t.from t.left) t.now ≡ t.now =
        jumped t.left t.from t.left 0 (t.from + t.left) t.now (omega arith) refl (λ m at under. stays m (last m (omega (arith, at, low)))) ∙ ends t.now in
        subst (Keeps self) (sym (t.leads ∙ done)) t.keeps

-- ---- who isn't asked for doesn't change

dead : (c : ℕ) (t : Bool) (at : JobState) → place_or None t ≡ place_of at → (is_waiting at ≡ false) × (is_running_at c at ≡ false)
dead c t states.Unmade e = (refl, refl)
dead c true states.Waiting e = absurd cc
dead c false states.Waiting e = absurd cc
dead c true (states.Running d) e = absurd cc
dead c false (states.Running d) e = absurd cc
dead c true states.Lost e = absurd cc
dead c false states.Lost e = absurd cc
dead c t states.Ended e = (refl, refl)
dead c t states.Discarded e = (refl, refl)

not_orphan : (live : Live) → is_orphan live ≡ false → (is_waiting (job_state_at live.live_place) && not (live.kept || not (length live.listeners == 0))) ≡ false
not_orphan live e = by live.live_place live.kept (length live.listeners == 0) e
  where
    by : (s : LivePlace) (b t : Bool) → (waits s && not b && t) ≡ false → (is_waiting (job_state_at s) && not (b || not t)) ≡ false
    by (Running c) b t e = refl
    by Lost b t e = refl
    by Waiting true t e = refl
    by Waiting false false e = refl
    by Waiting false true e = absurd (false≢true (sym e))

an_orphan : (live : Live) → is_orphan live ≡ true → (is_waiting (job_state_at live.live_place) && not (live.kept || not (length live.listeners == 0))) ≡ true
an_orphan live e = by live.live_place live.kept (length live.listeners == 0) e
  where
    by : (s : LivePlace) (b t : Bool) → (waits s && not b && t) ≡ true → (is_waiting (job_state_at s) && not (b || not t)) ≡ true
    by (Running c) b t e = absurd (false≢true e)
    by Lost b t e = absurd (false≢true e)
    by Waiting true t e = absurd (false≢true e)
    by Waiting false false e = absurd (false≢true e)
    by Waiting false true e = refl

not_run : (c : ℕ) (live : Live) → is_run_by c live ≡ false → is_running_at c (job_state_at live.live_place) ≡ false
not_run c live e = by live.live_place e
  where
    by : (s : LivePlace) → runs_at c s ≡ false → is_running_at c (job_state_at s) ≡ false
    by Waiting e = refl
    by Lost e = refl
    by (Running d) e = turned d c false e

module _ (core : Tables) (past : Past) (keeps : Keeps core past) (n : ℕ) where
  wanted_at : (live : Live) → job core.jobs n ≡ Some live
      → (is_waiting (job_state n past.notes) && not (is_wanted n past.notes)) ≡ (is_waiting (job_state_at live.live_place) && not (live.kept || not (length live.listeners == 0)))
  wanted_at live at =
      let is = keeps.jobs.live n live at in
      (λ i. is_waiting (is.job_state i) && not (is.kept i || not (length (is.listeners i) == 0)))

  pub stays_so : passes is_orphan (job core.jobs n) ≡ false → discard_one n past ≡ past
  stays_so e = let test = by (job core.jobs n) refl e in rw test refl
    where
      by : (o : Option Live) → job core.jobs n ≡ o → passes is_orphan o ≡ false → (is_waiting (job_state n past.notes) && not (is_wanted n past.notes)) ≡ false
      by None at e = ap (λ b. b && not (is_wanted n past.notes)) (dead 0 (is_made core.jobs n) (job_state n past.notes) (ap (λ o. place_or o (is_made core.jobs n)) (sym at) ∙ keeps.jobs.places n)).0
      by (Some live) at e = wanted_at live at ∙ not_orphan live e

  pub discards_so : passes is_orphan (job core.jobs n) ≡ true → with_note (Discarded n) past ≡ discard_one n past
  discards_so e = let test = by (job core.jobs n) refl e in rw test refl
    where
      by : (o : Option Live) → job core.jobs n ≡ o → passes is_orphan o ≡ true → (is_waiting (job_state n past.notes) && not (is_wanted n past.notes)) ≡ true
      by None at e = absurd (false≢true e)
      by (Some live) at e = wanted_at live at ∙ an_orphan live e

  pub runs_on : (k : Settings) (c : ℕ) → passes (is_run_by c) (job core.jobs n) ≡ false → give_back_one k c n past ≡ past
  runs_on k c e = let test = by (job core.jobs n) refl e in rw test refl
    where
      by : (o : Option Live) → job core.jobs n ≡ o → passes (is_run_by c) o ≡ false → is_running_at c (job_state n past.notes) ≡ false
      by None at e = (dead c (is_made core.jobs n) (job_state n past.notes) (ap (λ o. place_or o (is_made core.jobs n)) (sym at) ∙ keeps.jobs.places n)).1
      by (Some live) at e = ap (is_running_at c) (keeps.jobs.live n live at).job_state ∙ not_run c live e
