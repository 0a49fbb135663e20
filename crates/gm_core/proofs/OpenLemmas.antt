-- A connection that is opened: the slot that it gets, and what is known then.
use Rattle.std.proofs.Common.{◌≡◌, ◌≢◌, ℕ, zero, suc, ◌+◌, ◌<◌, ◌≤◌, Bool, true, false, ◌==◌, if◌then◌else◌, ◌⊎◌, inl, inr}
use Rattle.std.proofs.Common.{List, [], ◌∷◌, length, Option, Some, None, Result, Ok, Err, unwrap_or, refl, sym, ap, subst, ◌∙◌}
use Rattle.std.proofs.Common.{arith}
use Rattle.std.specs.Result.{IsErr, IsErrAnd}
use Rattle.std.proofs.lemmas.Bool.Decides.{nat_tests}
use Rattle.gm_notes.specs.declared.note.Note.{Note}
use Rattle.gm_notes.specs.declared.note.Note.TheVariants.{Opened}
use Rattle.gm_notes.specs.declared.states.Phase.TheVariants.{Awake}
use Rattle.gm_notes.specs.declared.states.Mode.{Mode}
use Rattle.gm_notes.specs.declared.states.Mode.TheVariants as modes
use Rattle.gm_notes.specs.Settings.{Settings}
use Rattle.gm_notes.specs.Flow.{Began, waiting}
use Rattle.gm_notes.specs.declared.event.Done.{Done}
use Rattle.gm_notes.specs.declared.event.ApplyError.{ApplyError}
use Rattle.gm_notes.specs.declared.event.ApplyError.TheVariants.{NoSlot, Memory}
use Rattle.gm_notes.specs.Notes.{is_open, mode, accepts_connections}
use Rattle.gm_notes.specs.Past.{Past, with_note, with_flow}
use Rattle.gm_notes.specs.Steps.{Step, free_from, free_slot, if_free, if_accepted, refusal, run}
use Rattle.gm_notes.specs.Servers.{IsRefusal, Answers, steps_after}
use Rattle.gm_conns.specs.Connections.{Connection, opened}
use Rattle.gm_conns.specs.ConnTables.{Table, conn, Changes, IsLeastFree, IsFull}
use Rattle.gm_queues.specs.FunctionTables as queues
use Rattle.gm_jobs.specs.Tables as jobs
use Rattle.gm_core.specs.declared.server.Tables.{Tables}
use Rattle.gm_core.specs.Facts.{Seen, JobFacts, seen, conn_facts, job_facts}
use Rattle.gm_core.specs.Holds.{NamesFunctions, AreOpen, HoldsConns, HoldsJobs, Keeps, Holds, Goes, CoreAgrees, shown}
use Rattle.gm_core.proofs.ConnLemmas.{touched_told}
use Rattle.gm_core.proofs.CoreLemmas.{OnlyConns, open_is}

-- ---- the slot

module _ (notes : List Note) where
  -- the least of the slots that isn't open is given
  pub free_some : (n c slot : ℕ) → c ≤ slot → slot < c + n → is_open slot notes ≡ false → ((d : ℕ) → d < slot → is_open d notes ≡ true) → free_from c n notes ≡ Some slot
  free_some zero c slot low high free least = absurd (omega (arith, low, high))
  free_some (suc n) c slot low high free least = by (c == slot) refl (λ less. free_some n (suc c) slot (omega (arith, less)) (omega (arith, high)) free least)
    where
      by : (t : Bool) → (c == slot) ≡ t → (c < slot → free_from (suc c) n notes ≡ Some slot) → (if is_open c notes then free_from (suc c) n notes else Some c) ≡ Some slot
      by true e rest =
          let same : c ≡ slot = grind (arith, nat_tests) in
          let here : is_open c notes ≡ false = ap (λ d. is_open d notes) same ∙ free in
          rw here (ap (λ (d : ℕ). Some d) same)
      by false e rest =
          let other : c ≢ slot = grind (arith, nat_tests) in
          let less : c < slot = omega (arith, low, other) in
          let here : is_open c notes ≡ true = least c less in
          rw here (rest less)

  -- none is given where each is open
  pub free_none : (n c : ℕ) → ((d : ℕ) → d < c + n → is_open d notes ≡ true) → free_from c n notes ≡ None
  free_none zero c all = refl
  free_none (suc n) c all =
      let here : is_open c notes ≡ true = all c (omega arith) in
      rw here (free_none n (suc c) (λ d h. all d (omega (arith, h))))

  -- and only there
  pub all_open : (n c : ℕ) → free_from c n notes ≡ None → (d : ℕ) → c ≤ d → d < c + n → is_open d notes ≡ true
  all_open zero c none d low high = absurd (omega (arith, low, high))
  all_open (suc n) c none d low high = by (is_open c notes) refl none (λ later less. all_open n (suc c) later d (omega (arith, less)) (omega (arith, high)))
    where
      at : (t : Bool) → (c == d) ≡ t → is_open c notes ≡ true → (c < d → is_open d notes ≡ true) → is_open d notes ≡ true
      at true same e rest = ap (λ x. is_open x notes) (sym (let one : c ≡ d = grind (arith, nat_tests) in one)) ∙ e
      at false other e rest = rest (let apart : c ≢ d = grind (arith, nat_tests) in omega (arith, low, apart))

      by : (t : Bool) → is_open c notes ≡ t → (if t then free_from (suc c) n notes else Some c) ≡ None → (free_from (suc c) n notes ≡ None → c < d → is_open d notes ≡ true)
          → is_open d notes ≡ true
      by false e none rest = absurd cc
      by true e none rest = at (c == d) refl e (rest none)

-- where connections are welcome only a free slot may be wanting
pub welcomed : (m : Mode) (o : Option ℕ) → accepts_connections m ≡ true → if_accepted m o ≡ if_free o
welcomed modes.Running o goes = refl
welcomed modes.Graceful o goes = absurd cc
welcomed modes.Stopped o goes = absurd cc

pub free_unless : (o : Option ℕ) → (o ≡ None → ⊥) → if_free o ≡ None
free_unless None wrong = absurd (wrong refl)
free_unless (Some slot) wrong = refl

-- ---- what is known

-- the slots that are open stay so
still_open : (t b : Bool) → b ≡ true → unwrap_or (if t then Some true else None) b ≡ true
still_open true b e = refl
still_open false b e = e

pub conns_opened : (k : Settings) (old new : Table) (names : List (List ℕ)) (c : ℕ) (addr : List ℕ) (told : Bool) (p : Past) → Changes c (λ _. opened addr) told old new
    → HoldsConns k old names (conn_facts p.notes) (λ d. waiting d p.flow)
    → HoldsConns k new names (conn_facts (Opened c addr ∷ p.notes)) (λ d. waiting d (Began c ∷ p.flow))
conns_opened k old new names c addr told p changes holds = record {
  slots = changes.slots ∙ holds.slots;
  opens = λ d. ap (λ (x : Connection). x.is_open) (changes.conns d) ∙ opens d (d == c) (holds.opens d);
  seen = λ d e. ap (shown names) (changes.conns d) ∙ sees d (d == c) e (seen d p.notes) (holds.seen d);
  waiting = λ d. ap (λ (x : Connection). x.waiting) (changes.conns d) ∙ waits d (d == c) (holds.waiting d);
  able = λ d. subst (NamesFunctions names) (sym (changes.conns d)) (able d (d == c));
}
  where
    opens : (d : ℕ) (t : Bool) → (conn old d).is_open ≡ is_open d p.notes → (if t then opened addr else conn old d).is_open ≡ unwrap_or (if t then Some true else None) (is_open d p.notes)
    opens d true e = refl
    opens d false e = e

    sees : (d : ℕ) (t : Bool) → unwrap_or (if t then Some true else None) (is_open d p.notes) ≡ true → (s : Seen) → (is_open d p.notes ≡ true → shown names (conn old d) ≡ s)
        → shown names (if t then opened addr else conn old d)
        ≡ record {
          is_shut = unwrap_or (if t then Some false else None) s.is_shut;
          has_option = unwrap_or (if t then Some false else None) s.has_option;
          phase = unwrap_or (if t then Some Awake else None) s.phase;
          addr = unwrap_or (if t then Some addr else None) s.addr;
          id = unwrap_or (if t then Some [] else None) s.id;
          abilities = if t then [] else s.abilities;
          last = if t then None else s.last;
        }
    sees d true e s shows = refl
    sees d false e s shows = shows e

    waits : (d : ℕ) (t : Bool) → (conn old d).waiting ≡ waiting d p.flow → (if t then opened addr else conn old d).waiting ≡ (if t then [] else waiting d p.flow)
    waits d true e = refl
    waits d false e = e

    able : (d : ℕ) (t : Bool) → NamesFunctions names (if t then opened addr else conn old d)
    able d true = (tt, tt)
    able d false = holds.able d

are_still_open : (before after : ℕ → Bool) → ((c : ℕ) → before c ≡ true → after c ≡ true) → (slots : List ℕ) → AreOpen before slots → AreOpen after slots
are_still_open before after more [] all = tt
are_still_open before after more (c ∷ slots) all = (more c all.0, are_still_open before after more slots all.1)

pub jobs_opened : (k : Settings) (functions : queues.Table) (table : jobs.Table) (before after : ℕ → Bool) (facts : JobFacts) → ((c : ℕ) → before c ≡ true → after c ≡ true)
    → HoldsJobs k functions table before facts → HoldsJobs k functions table after facts
jobs_opened k functions table before after facts more holds = record {
  first = holds.first;
  next = holds.next;
  most = holds.most;
  made = holds.made;
  begins = holds.begins;
  numbered = holds.numbered;
  came = holds.came;
  places = holds.places;
  live = λ n found at.
      let is = holds.live n found at in
      record {
        function = is.function;
        job = is.job;
        job_state = is.job_state;
        kept = is.kept;
        listeners = is.listeners;
        report = is.report;
        deadline = is.deadline;
        heard = are_still_open before after more found.listeners is.heard;
      };
  counts = holds.counts;
  queues = holds.queues;
  room = holds.room;
}

pub goes_opened : {old new : Tables} (c : ℕ) (addr : List ℕ) → OnlyConns old new → Changes c (λ _. opened addr) true old.conns new.conns
    → Goes old new (λ past. with_flow (Began c) (with_note (Opened c addr) past))
goes_opened {old} {new} c addr only changes = record {
  config = only.config;
  others = touched_told c changes;
  past = λ p keeps.
      let step : Past = with_flow (Began c) (with_note (Opened c addr) p) in
      let held : Holds old.config new.conns old.functions old.jobs old.moment old.mode step =
      record {
        conns = conns_opened old.config old.conns new.conns old.functions.names c addr true p changes keeps.conns;
        functions = keeps.functions;
        jobs = jobs_opened old.config old.functions old.jobs (λ d. is_open d p.notes) (λ d. is_open d step.notes) (job_facts p.notes) (λ d e. still_open (d == c) (is_open d p.notes) e) keeps.jobs;
        moment = keeps.moment;
        mode = keeps.mode;
      } in
      subst (λ x. Holds new.config new.conns new.functions new.jobs new.moment x step) (sym only.mode)
      (subst (λ x. Holds new.config new.conns new.functions new.jobs x old.mode step) (sym only.moment)
      (subst (λ x. Holds new.config new.conns new.functions x old.moment old.mode step) (sym only.jobs)
      (subst (λ x. Holds new.config new.conns x old.jobs old.moment old.mode step) (sym only.functions)
      (subst (λ x. Holds x new.conns old.functions old.jobs old.moment old.mode step) (sym only.config) held))));
}

-- ---- what an opening is answered

module _ (core : Tables) (k : Settings) (past : Past) (settings : core.config ≡ k) (keeps : Keeps core past) where
  slots_are : length core.conns.conns ≡ k.slots
  slots_are = keeps.conns.slots ∙ ap (λ (s : Settings). s.slots) settings

  pub slot_found : (slot : ℕ) → IsLeastFree slot core.conns → free_slot k past ≡ Some slot
  slot_found slot least =
      let slots = slots_are in
      free_some past.notes k.slots 0 slot (omega arith) (omega (arith, slots, least.within)) (sym (keeps.conns.opens slot) ∙ ap (λ (x : Connection). x.is_open) least.free)
      (λ d h. open_is keeps d (least.least d h))

  slot_none : IsFull core.conns → free_slot k past ≡ None
  slot_none full = let slots = slots_are in free_none past.notes k.slots 0 (λ d h. open_is keeps d (full d (omega (arith, slots, h))))

  only_full : free_slot k past ≡ None → IsFull core.conns
  only_full none d h = let slots = slots_are in keeps.conns.opens d ∙ all_open past.notes k.slots 0 none d (omega arith) (omega (arith, slots, h))

  -- why no slot was given
  pub no_slot : (e : ApplyError) → (e ≡ NoSlot) ⊎ (e ≡ Memory) → (e ≡ NoSlot → IsFull core.conns) → (IsFull core.conns → e ≡ NoSlot)
      → accepts_connections (mode past.notes) ≡ true → IsRefusal e (if_accepted (mode past.notes) (free_slot k past))
  no_slot e (inl none) full only goes =
      subst (λ (x : ApplyError). IsRefusal x (if_accepted (mode past.notes) (free_slot k past))) (sym none) (welcomed (mode past.notes) (free_slot k past) goes ∙ ap if_free (slot_none (full none)))
  no_slot e (inr wanting) full only goes =
      subst (λ (x : ApplyError). IsRefusal x (if_accepted (mode past.notes) (free_slot k past))) (sym wanting)
      (welcomed (mode past.notes) (free_slot k past) goes ∙ free_unless (free_slot k past) (λ none. let wrong : NoSlot ≡ Memory = sym (only (only_full none)) ∙ wanting in absurd cc))

-- a call that was refused for this reason
pub refused : {core : Tables} (k : Settings) (steps : List Step) (s : Step) (why : ApplyError) (result : Result Done ApplyError) → IsErr result × IsErrAnd result (λ e. e ≡ why)
    → IsRefusal why (refusal k s (run k steps)) → CoreAgrees core k steps → Answers k steps s result × CoreAgrees core k (steps_after result s steps)
refused k steps s why (Ok done) is stands agrees = absurd is.1
refused k steps s why (Err e) is stands agrees = (subst (λ (x : ApplyError). IsRefusal x (refusal k s (run k steps))) (sym is.1) stands, agrees)

pub is_err : {A : Type 0} {x y : ApplyError} → (let r : Result A ApplyError = Err x in r) ≡ Err y → x ≡ y
is_err e = cc
