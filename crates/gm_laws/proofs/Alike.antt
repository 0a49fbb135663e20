-- Notes that answer alike whatever is asked of them, but for who is awake and who is owed a NOOP.
use Rattle.std.proofs.Common.{◌≡◌, ℕ, zero, suc, Bool, true, false, cond, not, ◌&&◌, List, [], ◌∷◌, ◌++◌, filter, Option, Some, None, refl, ap, ◌∙◌}
use Rattle.std.proofs.Math.Path.{fun_ext}
use Rattle.std.specs.Prelude.{unwrap_or}
use Rattle.gm_notes.specs.declared.states.Phase.{Phase}
use Rattle.gm_notes.specs.declared.states.Priority.{Priority}
use Rattle.gm_notes.specs.declared.states.Priority.TheVariants.{High, Normal, Low}
use Rattle.gm_notes.specs.declared.note.Note.{Note}
use Rattle.gm_notes.specs.declared.note.Note.TheVariants as notes
use Rattle.gm_notes.specs.Settings.{Settings}
use Rattle.gm_notes.specs.Notes.{is_open, says_open, is_shut, says_shut, addr, says_addr, id, says_id, has_option, says_option}
use Rattle.gm_notes.specs.Notes.{phase, says_phase, is_asleep, moment, says_moment, mode, says_mode, takes_units}
use Rattle.gm_notes.specs.Jobs.{Ability, job_state, says_job_state, is_empty, job, says_job, made, is_kept, says_kept}
use Rattle.gm_notes.specs.Jobs.{listeners, is_wanted, returns, is_last_try, report, says_report, deadline, says_deadline, functions, is_mentioned}
use Rattle.gm_notes.specs.Jobs.{limit, says_limit, abilities, is_able, as_they_came, queue, waiting_for, pick_from, pick_with, pick_highest, pick, joined}
use Rattle.gm_notes.specs.Jobs.{next_number, total, is_live_of, is_live_named, is_queued, job_of_handle, last_function, scan}
use Rattle.gm_notes.specs.JobStates.{is_waiting, is_running}
use Rattle.gm_notes.specs.Submissions.{is_one_too_many, is_full}
use Rattle.gm_notes.specs.Workers.{wants_exceptions, hearers}
use Rattle.gm_notes.specs.Closings.{is_reached}
use Rattle.gm_notes.specs.Lines.{status_rows, worker_rows}
use Rattle.gm_notes.specs.Steps.{free_from}

pub record Alike (l m : List Note) : Type 0 where
  pub opened : (c : ℕ) → is_open c l ≡ is_open c m
  pub shut : (c : ℕ) → is_shut c l ≡ is_shut c m
  pub address : (c : ℕ) → addr c l ≡ addr c m
  pub name : (c : ℕ) → id c l ≡ id c m
  pub option : (c : ℕ) → has_option c l ≡ has_option c m
  pub asleep : (c : ℕ) → is_asleep (phase c l) ≡ is_asleep (phase c m)
  pub now : moment l ≡ moment m
  pub mode_is : mode l ≡ mode m
  pub place : (n : ℕ) → job_state n l ≡ job_state n m
  pub what : (n : ℕ) → job n l ≡ job n m
  pub numbers : made l ≡ made m
  pub kept : (n : ℕ) → is_kept n l ≡ is_kept n m
  pub hear : (n : ℕ) → listeners n l ≡ listeners n m
  pub progress : (n : ℕ) → report n l ≡ report n m
  pub late : (n : ℕ) → deadline n l ≡ deadline n m
  pub known : functions l ≡ functions m
  pub most : (f : List ℕ) → limit f l ≡ limit f m
  pub can : (c : ℕ) → abilities c l ≡ abilities c m
  pub last : (c : ℕ) → last_function c l ≡ last_function c m
  pub came : as_they_came l ≡ as_they_came m
  pub back : (n : ℕ) → returns n l ≡ returns n m

-- ---- one note more

asleep_more : (o : Option Phase) (p q : Phase) → is_asleep p ≡ is_asleep q → is_asleep (unwrap_or o p) ≡ is_asleep (unwrap_or o q)
asleep_more None p q e = e
asleep_more (Some r) p q e = refl

made_more : (note : Note) (l m : List Note) → made l ≡ made m → made (note ∷ l) ≡ made (note ∷ m)
made_more (notes.Made n f p u body) l m e = ap (λ x. n ∷ x) e
made_more note l m e = e

hear_more : (n : ℕ) (note : Note) (l m : List Note) → listeners n l ≡ listeners n m → listeners n (note ∷ l) ≡ listeners n (note ∷ m)
hear_more n (notes.Made o f p u body) l m e = rw e refl
hear_more n (notes.Listens o c) l m e = rw e refl
hear_more n (notes.Closed c) l m e = rw e refl
hear_more n note l m e = e

known_more : (note : Note) (l m : List Note) → functions l ≡ functions m → functions (note ∷ l) ≡ functions (note ∷ m)
known_more (notes.Mention f) l m e = rw e refl
known_more note l m e = e

can_more : (c : ℕ) (note : Note) (l m : List Note) → abilities c l ≡ abilities c m → abilities c (note ∷ l) ≡ abilities c (note ∷ m)
can_more c (notes.Opened d addr) l m e = rw e refl
can_more c (notes.Closed d) l m e = rw e refl
can_more c (notes.Reset d) l m e = rw e refl
can_more c (notes.Can d f t) l m e = rw e refl
can_more c (notes.Cant d f) l m e = rw e refl
can_more c note l m e = e

last_more : (c : ℕ) (note : Note) (l m : List Note) → ((n : ℕ) → job n l ≡ job n m) → last_function c l ≡ last_function c m → last_function c (note ∷ l) ≡ last_function c (note ∷ m)
last_more c (notes.Opened d addr) l m what e = rw e refl
last_more c (notes.Assigned n d deadline) l m what e = rw e (rw (what n) refl)
last_more c note l m what e = e

came_more : (note : Note) (l m : List Note) → as_they_came l ≡ as_they_came m → as_they_came (note ∷ l) ≡ as_they_came (note ∷ m)
came_more (notes.Made n f p u body) l m e = rw e refl
came_more (notes.Returned n) l m e = rw e refl
came_more note l m e = e

back_more : (n : ℕ) (note : Note) (l m : List Note) → returns n l ≡ returns n m → returns n (note ∷ l) ≡ returns n (note ∷ m)
back_more n (notes.Made o f p u body) l m e = rw e refl
back_more n (notes.Returned o) l m e = rw e refl
back_more n note l m e = e

pub alike_more : (note : Note) (l m : List Note) → Alike l m → Alike (note ∷ l) (note ∷ m)
alike_more note l m a = record {
  opened = λ c. ap (unwrap_or (says_open c note)) (a.opened c);
  shut = λ c. ap (unwrap_or (says_shut c note)) (a.shut c);
  address = λ c. ap (unwrap_or (says_addr c note)) (a.address c);
  name = λ c. ap (unwrap_or (says_id c note)) (a.name c);
  option = λ c. ap (unwrap_or (says_option c note)) (a.option c);
  asleep = λ c. asleep_more (says_phase c note) (phase c l) (phase c m) (a.asleep c);
  now = ap (unwrap_or (says_moment note)) a.now;
  mode_is = ap (unwrap_or (says_mode note)) a.mode_is;
  place = λ n. ap (unwrap_or (says_job_state n note)) (a.place n);
  what = λ n. ap (unwrap_or (says_job n note)) (a.what n);
  numbers = made_more note l m a.numbers;
  kept = λ n. ap (unwrap_or (says_kept n note)) (a.kept n);
  hear = λ n. hear_more n note l m (a.hear n);
  progress = λ n. ap (unwrap_or (says_report n note)) (a.progress n);
  late = λ n. ap (unwrap_or (says_deadline n note)) (a.late n);
  known = known_more note l m a.known;
  most = λ f. ap (unwrap_or (says_limit f note)) (a.most f);
  can = λ c. can_more c note l m (a.can c);
  last = λ c. last_more c note l m a.what (a.last c);
  came = came_more note l m a.came;
  back = λ n. back_more n note l m (a.back n);
}

pub alike_on : (newer l m : List Note) → Alike l m → Alike (newer ++ l) (newer ++ m)
alike_on [] l m a = a
alike_on (note ∷ newer) l m a = alike_more note (newer ++ l) (newer ++ m) (alike_on newer l m a)

-- only phases read that a NOOP was taken
pub alike_taken : (c : ℕ) (l m : List Note) → Alike l m → ((d : ℕ) → is_asleep (phase d (notes.Took c ∷ l)) ≡ is_asleep (phase d m)) → Alike (notes.Took c ∷ l) m
alike_taken c l m a asleep = record {
  opened = a.opened;
  shut = a.shut;
  address = a.address;
  name = a.name;
  option = a.option;
  asleep = asleep;
  now = a.now;
  mode_is = a.mode_is;
  place = a.place;
  what = a.what;
  numbers = a.numbers;
  kept = a.kept;
  hear = a.hear;
  progress = a.progress;
  late = a.late;
  known = a.known;
  most = a.most;
  can = a.can;
  last = a.last;
  came = a.came;
  back = a.back;
}

pub alike_untaken : (c : ℕ) (l : List Note) → ((d : ℕ) → is_asleep (phase d l) ≡ is_asleep (phase d (notes.Took c ∷ l))) → Alike l (notes.Took c ∷ l)
alike_untaken c l asleep = record {
  opened = λ d. refl;
  shut = λ d. refl;
  address = λ d. refl;
  name = λ d. refl;
  option = λ d. refl;
  asleep = asleep;
  now = refl;
  mode_is = refl;
  place = λ n. refl;
  what = λ n. refl;
  numbers = refl;
  kept = λ n. refl;
  hear = λ n. refl;
  progress = λ n. refl;
  late = λ n. refl;
  known = refl;
  most = λ f. refl;
  can = λ d. refl;
  last = λ d. refl;
  came = refl;
  back = λ n. refl;
}

-- ---- what else is asked

module _ {l m : List Note} (a : Alike l m) where
  pub units_alike : (c : ℕ) → takes_units c l ≡ takes_units c m
  units_alike c = simp (a.opened, a.shut)

  pub wanted_alike : (n : ℕ) → is_wanted n l ≡ is_wanted n m
  wanted_alike n = simp (a.kept, a.hear)

  pub last_try_alike : (k : Settings) (n : ℕ) → is_last_try k n l ≡ is_last_try k n m
  last_try_alike k n = simp a.back

  pub mentioned_alike : (f : List ℕ) → is_mentioned f l ≡ is_mentioned f m
  mentioned_alike f = simp a.known

  pub many_alike : (k : Settings) (f : List ℕ) → is_one_too_many k f l ≡ is_one_too_many k f m
  many_alike k f = simp a.known

  pub unwanted_alike : (n : ℕ) → (is_waiting (job_state n l) && not (is_wanted n l)) ≡ (is_waiting (job_state n m) && not (is_wanted n m))
  unwanted_alike n = simp (a.place, a.kept, a.hear)

  pub waked_alike : (c : ℕ) (f : List ℕ) → (is_open c l && is_asleep (phase c l) && is_able c f l) ≡ (is_open c m && is_asleep (phase c m) && is_able c f m)
  waked_alike c f = simp (a.opened, a.asleep, a.can)

  pub hearers_alike : (only : Bool) (n : ℕ) → hearers only (listeners n l) l ≡ hearers only (listeners n m) m
  hearers_alike true n = simp (a.opened, a.option, a.hear)
  hearers_alike false n = a.hear n

  pub others_alike : (n : ℕ) → filter (λ c. not (wants_exceptions c l)) (listeners n l) ≡ filter (λ c. not (wants_exceptions c m)) (listeners n m)
  others_alike n = simp (a.opened, a.option, a.hear)

  pub expired_alike : (n : ℕ) → (is_running (job_state n l) && is_reached (deadline n l) (moment l)) ≡ (is_running (job_state n m) && is_reached (deadline n m) (moment m))
  expired_alike n = simp (a.place, a.late, a.now)

  live_alike : (f : List ℕ) → is_live_of f l ≡ is_live_of f m
  live_alike f = fun_ext (λ n. simp (a.place, a.what))

  named_alike : (f u : List ℕ) → is_live_named f u l ≡ is_live_named f u m
  named_alike f u = fun_ext (λ n. simp (a.place, a.what))

  queued_alike : (f : List ℕ) (p : Priority) → is_queued f p l ≡ is_queued f p m
  queued_alike f p = fun_ext (λ n. simp (a.place, a.what))

  pub total_alike : (f : List ℕ) → total f l ≡ total f m
  total_alike f = simp (live_alike, a.numbers)

  pub full_alike : (f : List ℕ) → is_full f l ≡ is_full f m
  full_alike f = simp (a.most, live_alike, a.numbers)

  pub joined_alike : (f u : List ℕ) → joined f u l ≡ joined f u m
  joined_alike f u = simp (named_alike, a.numbers)

  pub next_alike : (k : Settings) → next_number k l ≡ next_number k m
  next_alike k = simp a.numbers

  pub handled_alike : (k : Settings) (text : List ℕ) → job_of_handle k text l ≡ job_of_handle k text m
  handled_alike k text = simp a.numbers

  pub waiting_alike : (f : List ℕ) → waiting_for f l ≡ waiting_for f m
  waiting_alike f = simp (queued_alike, a.came)

  pub enabled_alike : (c : ℕ) (f : List ℕ) → (is_asleep (phase c l) && not (is_empty (waiting_for f l))) ≡ (is_asleep (phase c m) && not (is_empty (waiting_for f m)))
  enabled_alike c f = simp (a.asleep, queued_alike, a.came)

  pick_from_alike : (abilities : List Ability) → pick_from abilities l ≡ pick_from abilities m
  pick_from_alike [] = refl
  pick_from_alike (ability ∷ abilities) = let first = waiting_alike ability.function in let rest = pick_from_alike abilities in cc

  scan_alike : (k : Settings) (c : ℕ) → scan k c l ≡ scan k c m
  scan_alike k c = simp (a.can, a.last)

  pick_with_alike : (p : Priority) (abilities : List Ability) → pick_with p abilities l ≡ pick_with p abilities m
  pick_with_alike p [] = refl
  pick_with_alike p (ability ∷ abilities) =
      let first : queue ability.function p l ≡ queue ability.function p m = simp (queued_alike, a.came) in let rest = pick_with_alike p abilities in cc

  picks_alike : (t : Bool) (abilities : List Ability) → cond t (pick_highest abilities l) (pick_from abilities l) ≡ cond t (pick_highest abilities m) (pick_from abilities m)
  picks_alike true abilities = simp (pick_with_alike High abilities, pick_with_alike Normal abilities, pick_with_alike Low abilities)
  picks_alike false abilities = pick_from_alike abilities

  pub pick_alike : (k : Settings) (c : ℕ) → pick k c l ≡ pick k c m
  pick_alike k c = ap (λ can. cond k.as_gearmand (pick_highest can l) (pick_from can l)) (scan_alike k c) ∙ picks_alike k.as_gearmand (scan k c m)

  pub statuses_alike : (k : Settings) → status_rows k l ≡ status_rows k m
  statuses_alike k = simp (live_alike, a.place, a.what, a.numbers, a.known, a.opened, a.can)

  pub workers_alike : (k : Settings) → worker_rows k l ≡ worker_rows k m
  workers_alike k = simp (a.address, a.name, a.opened, a.can)

  pub free_alike : (c n : ℕ) → free_from c n l ≡ free_from c n m
  free_alike c zero = refl
  free_alike c (suc n) = let first = a.opened c in let rest = free_alike (suc c) n in cc
