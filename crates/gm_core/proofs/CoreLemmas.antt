-- One change of a core after another, and the changes of its connections.
use Rattle.std.proofs.Common.{◌≡◌, ◌≢◌, ℕ, Bool, true, false, ◌==◌, ◌&&◌, if◌then◌else◌, List, [], ◌∷◌, ◌++◌, length, map}
use Rattle.std.proofs.Common.{filter, not, Option, Some, None, Result, Ok, Err, refl, sym, ap, subst, ◌∙◌}
use Rattle.std.specs.Result.{IsErr, OnOk, OnErr}
use Rattle.std.specs.Str.{bytes_eq}
use Rattle.gm_queues.proofs.PositionLemmas.{position-within}
use Rattle.gm_core.proofs.FunctionLemmas.{put_named, taken_out, none_out, able_put, able_out, number_is}
use Rattle.gm_notes.specs.Steps.{made_since}
use Rattle.gm_notes.specs.Jobs.{made, Ability, abilities, is_of, put, is_empty}
use Rattle.std.specs.Prelude.{is_some}
use Rattle.std.specs.Option.{option_map}
use Rattle.gm_core.specs.declared.server.abilities.Choice.{Choice}
use Rattle.gm_notes.specs.Workers.{wake_if, sleep_beside}
use Rattle.gm_queues.specs.FunctionTables.{number_of, ChangesNames, IsFree}
use Rattle.gm_core.proofs.JobLemmas.{jobs_kept, jobs_listen}
use Rattle.gm_core.proofs.MentionLemmas.{Same, conns_mention, functions_mention, jobs_mention, functions_same, jobs_held_same}
use Rattle.gm_notes.specs.Settings.{Settings}
use Rattle.std.specs.declared.alloc.AllocError.{AllocError}
use Rattle.gm_notes.specs.declared.states.Phase.TheVariants.{Awake, Asleep, Owed}
use Rattle.gm_notes.specs.declared.note.Note.TheVariants.{Shut, Named, OptionSet, Can, Cant, Mention, Kept, Listens, Slept}
use Rattle.gm_notes.specs.declared.note.Note.TheVariants.{Woken, Stirred, Took, Withdrew}
use Rattle.gm_notes.specs.Past.{Past, with_note, with_flow, with_output}
use Rattle.gm_notes.specs.Flow.{Drained, waiting}
use Rattle.gm_notes.specs.Notes.{is_open, phase, moment, mode}
use Rattle.gm_conns.specs.Connections.{Connection, with_room, with_bytes}
use Rattle.gm_conns.specs.Connections as conns
use Rattle.gm_conns.specs.ConnTables.{conn, Changes, IsOpen}
use Rattle.gm_conns.specs.ConnTables as tables
use Rattle.gm_queues.specs.FunctionTables as queues
use Rattle.gm_jobs.specs.Tables as jobs
use Rattle.gm_notes.specs.declared.states.Mode.{Mode}
use Rattle.gm_core.specs.declared.server.Tables.{Tables}
use Rattle.gm_core.specs.Writing.{Text}
use Rattle.gm_core.specs.Facts.{Seen, seen, conn_facts, function_facts, job_facts}
use Rattle.gm_core.specs.Holds.{Holds, Keeps, IsKept, NamesFunctions, ability_named, shown, HoldsConns, HoldsFunctions, HoldsJobs}
use Rattle.gm_core.specs.Holds.{AllTouched, Goes, Does, Makes, config_of}
use Rattle.gm_actions.specs.Effects as effects
use Rattle.gm_core.proofs.ConnLemmas.{touched_same, touched_then, touched_told, touched_apart, conn_changes, same_here}
use Rattle.gm_core.proofs.ConnLemmas.{seen_same, phase_seen, shut_seen, option_seen, id_seen, can_seen, cant_seen}
use Rattle.gm_core.proofs.ConnLemmas as lemmas
use Rattle.gm_actions.proofs.Changing.{changes_then, changes_as}

-- ---- one change after another

module _ {a b : Tables} where
  pub goes_nothing : b.config ≡ a.config → b.conns ≡ a.conns → b.functions ≡ a.functions → b.jobs ≡ a.jobs → b.moment ≡ a.moment → b.mode ≡ a.mode
      → Goes a b (λ past. past)
  goes_nothing config conns functions jobs moment mode = record {
    config = config;
    past = λ p keeps.
        subst (λ x. Holds b.config b.conns b.functions b.jobs b.moment x p) (sym mode)
        (subst (λ x. Holds b.config b.conns b.functions b.jobs x a.mode p) (sym moment)
        (subst (λ x. Holds b.config b.conns b.functions x a.moment a.mode p) (sym jobs)
        (subst (λ x. Holds b.config b.conns x a.jobs a.moment a.mode p) (sym functions)
        (subst (λ x. Holds b.config x a.functions a.jobs a.moment a.mode p) (sym conns)
        (subst (λ x. Holds x a.conns a.functions a.jobs a.moment a.mode p) (sym config) keeps)))));
    others = touched_same conns;
  }

  pub goes_then : {c : Tables} {f g : Past → Past} → Goes a b f → Goes b c g → Goes a c (λ past. g (f past))
  goes_then {c} {f} {g} first second = changes_then {f = f} {g = g} (λ x y. touched_then x y) first second

  pub kept_then : {f : Past → Past} → Goes a b f → IsKept a → IsKept b
  kept_then {f} goes kept = (f kept.0, goes.past kept.0 kept.1)

  -- a change that is the same at what is kept
  pub goes_as : {f : Past → Past} (g : Past → Past) → Goes a b f → ((past : Past) → Keeps a past → f past ≡ g past) → Goes a b g
  goes_as {f} g goes same = changes_as {f = f} g goes same

  pub does_as : {A E : Type 0} {f : Past → Past} (result : Result A E) (g : Past → Past) → Does a result b f
      → ((past : Past) → Keeps a past → f past ≡ g past) → Does a result b g
  does_as {A} {E} {f} (Ok answer) g goes same = goes_as {f = f} g goes same
  does_as {A} {E} {f} (Err failed) g goes same = goes

  -- out of memory nothing happened
  pub does_not : {A S : Type 0} (result : Result A AllocError) (g : Past → Past) → IsErr result × S → Goes a b (λ past. past) → Does a result b g
  does_not {A} {S} (Ok answer) g failed goes = absurd (let wrong : IsErr (let r : Result A AllocError = Ok answer in r) = failed.0 in cc)
  does_not {A} {S} (Err wanting) g failed goes = goes

-- an answer that tells of a change tells of one that is the same at what is kept
pub makes_as : {E : Type 0} (a : Tables) {f : Past → Past} (result : Result (Option ℕ) E) (g : Past → Past) → Makes a result f → ((past : Past) → Keeps a past → f past ≡ g past) → Makes a result g
makes_as {E} a {f} (Ok answer) g makes same = λ past keeps. makes past keeps ∙ ap (λ (q : Past). made_since (made past.notes) (made q.notes)) (same past keeps)
makes_as {E} a {f} (Err failed) g makes same = makes

-- ---- what is seen of a slot

module _ {k : Settings} {connections : tables.Table} {mentioned : queues.Table} {live : jobs.Table} {now : ℕ} {goes : Mode} {p : Past} (holds : Holds k connections mentioned live now goes p) (c : ℕ) where
  pub open_is : IsOpen connections c → is_open c p.notes ≡ true
  open_is opened = sym (holds.conns.opens c) ∙ opened

  pub seen_is : IsOpen connections c → shown mentioned.names (conn connections c) ≡ seen c p.notes
  seen_is opened = holds.conns.seen c (open_is opened)

  pub phase_is : IsOpen connections c → (conn connections c).phase ≡ phase c p.notes
  phase_is opened = ap (λ (s : Seen). s.phase) (seen_is opened)

-- ---- changes of connections

-- only the connections of a core changed
pub record OnlyConns (old new : Tables) : Type 0 where
  pub config : new.config ≡ old.config
  pub functions : new.functions ≡ old.functions
  pub jobs : new.jobs ≡ old.jobs
  pub moment : new.moment ≡ old.moment
  pub mode : new.mode ≡ old.mode

-- what a step means for a slot that stays open: what is seen of it and what waits for it changes so, and nothing else
pub record Touches (c : ℕ) (effect : Seen → Seen) (pour : List ℕ → List ℕ) (step : Past → Past) : Type 0 where
  pub opens : (p : Past) → (conn_facts (step p).notes).is_open ≡ (conn_facts p.notes).is_open
  pub seen : (p : Past) (d : ℕ) → (if d == c then effect (seen d p.notes) else seen d p.notes) ≡ seen d (step p).notes
  pub waiting : (p : Past) (d : ℕ) → (if d == c then pour (waiting d p.flow) else waiting d p.flow) ≡ waiting d (step p).flow
  pub functions : (p : Past) → function_facts (step p).notes ≡ function_facts p.notes
  pub jobs : (p : Past) → job_facts (step p).notes ≡ job_facts p.notes
  pub moment : (p : Past) → moment (step p).notes ≡ moment p.notes
  pub mode : (p : Past) → mode (step p).notes ≡ mode p.notes

-- what a change of a slot means for what is seen
pub record Alters (names : List (List ℕ)) (change : Connection → Connection) (effect : Seen → Seen) (pour : List ℕ → List ℕ) : Type 0 where
  pub opens : (x : Connection) → (change x).is_open ≡ x.is_open
  pub shown : (x : Connection) → NamesFunctions names x → shown names (change x) ≡ effect (shown names x)
  pub waiting : (x : Connection) → (change x).waiting ≡ pour x.waiting
  pub able : (x : Connection) → NamesFunctions names x → NamesFunctions names (change x)

pub goes_conn : {also : Tables → Tables → Type 0} {old new : Tables} {change : Connection → Connection} {told : Bool} (c : ℕ) (effect : Seen → Seen) (pour : List ℕ → List ℕ) (step : Past → Past)
    → OnlyConns old new → Changes c change told old.conns new.conns → also old new
    → ((p : Past) → Keeps old p → Alters old.functions.names change effect pour) → Touches c effect pour step → effects.Changes config_of Keeps also old new step
goes_conn {also} {old} {new} {change} {told} c effect pour step only changes touched alter touches = record {
  config = only.config;
  others = touched;
  past = λ p keeps.
      let alters = alter p keeps in
      let conns = conn_changes c change effect pour changes alters.opens alters.shown alters.waiting alters.able
      (λ d. ap (λ (is_open : ℕ → Bool). is_open d) (sym (touches.opens p))) (touches.seen p) (touches.waiting p) keeps.conns in
      let functions = subst (HoldsFunctions old.config old.functions) (sym (touches.functions p)) keeps.functions in
      let jobs = subst (λ is_open. HoldsJobs old.config old.functions old.jobs is_open (job_facts (step p).notes)) (sym (touches.opens p))
      (subst (HoldsJobs old.config old.functions old.jobs (conn_facts p.notes).is_open) (sym (touches.jobs p)) keeps.jobs) in
      let held : Holds old.config new.conns old.functions old.jobs old.moment old.mode (step p) =
      record { conns = conns; functions = functions; jobs = jobs; moment = keeps.moment ∙ sym (touches.moment p); mode = keeps.mode ∙ sym (touches.mode p) } in
      subst (λ x. Holds new.config new.conns new.functions new.jobs new.moment x (step p)) (sym only.mode)
      (subst (λ x. Holds new.config new.conns new.functions new.jobs x old.mode (step p)) (sym only.moment)
      (subst (λ x. Holds new.config new.conns new.functions x old.moment old.mode (step p)) (sym only.jobs)
      (subst (λ x. Holds new.config new.conns x old.jobs old.moment old.mode (step p)) (sym only.functions)
      (subst (λ x. Holds x new.conns old.functions old.jobs old.moment old.mode (step p)) (sym only.config) held))));
}

-- ---- room and bytes

abbrev unseen : Seen → Seen
unseen s = s

abbrev unpoured : List ℕ → List ℕ
unpoured bytes = bytes

module _ {old new : Tables} (c : ℕ) (only : OnlyConns old new) where
  -- room is nothing that the past tells of
  pub goes_room : {told : Bool} (n : ℕ) → Changes c (conns.with_room n) told old.conns new.conns → Goes old new (λ past. past)
  goes_room {told} n changes =
      goes_conn c unseen unpoured (λ past. past) only changes (touched_apart c (λ x. refl) changes) (λ p keeps. record { opens = λ x. refl; shown = λ x able. refl; waiting = λ x. refl; able = λ x able. able })
      (record { opens = λ p. refl; seen = λ p d. same_here (d == c) (seen d p.notes); waiting = λ p d. same_here (d == c) (waiting d p.flow); functions = λ p. refl; jobs = λ p. refl; moment = λ p. refl; mode = λ p. refl })

  pub goes_printed : (bytes : List ℕ) (cost : ℕ) → Changes c (conns.with_bytes bytes cost) true old.conns new.conns → Goes old new (with_output c bytes)
  goes_printed bytes cost changes =
      goes_conn c unseen (λ w. w ++ bytes) (with_output c bytes) only changes (touched_told c changes) (λ p keeps. record { opens = λ x. refl; shown = λ x able. refl; waiting = λ x. refl; able = λ x able. able })
      (record { opens = λ p. refl; seen = λ p d. same_here (d == c) (seen d p.notes); waiting = λ p d. refl; functions = λ p. refl; jobs = λ p. refl; moment = λ p. refl; mode = λ p. refl })

  -- a drain touches nothing
  pub goes_drained : Changes c conns.emptied false old.conns new.conns → effects.Changes config_of Keeps (λ a b. Unit {0}) old new (with_flow (Drained c))
  goes_drained changes =
      goes_conn c unseen (λ w. []) (with_flow (Drained c)) only changes tt (λ p keeps. record { opens = λ x. refl; shown = λ x able. refl; waiting = λ x. refl; able = λ x able. able })
      (record { opens = λ p. refl; seen = λ p d. same_here (d == c) (seen d p.notes); waiting = λ p d. refl; functions = λ p. refl; jobs = λ p. refl; moment = λ p. refl; mode = λ p. refl })

  -- ---- notes of one slot

  pub goes_slept : Changes c (conns.with_phase Asleep) true old.conns new.conns → Goes old new (with_note (Slept c))
  goes_slept changes =
      goes_conn c (lemmas.with_phase Asleep) unpoured (with_note (Slept c)) only changes (touched_told c changes) (λ p keeps. record { opens = λ x. refl; shown = λ x able. refl; waiting = λ x. refl; able = λ x able. able })
      (record { opens = λ p. refl; seen = λ p d. phase_seen Asleep (d == c) (seen d p.notes); waiting = λ p d. same_here (d == c) (waiting d p.flow); functions = λ p. refl; jobs = λ p. refl; moment = λ p. refl; mode = λ p. refl })

  pub goes_woken : Changes c (conns.with_phase Owed) true old.conns new.conns → Goes old new (with_note (Woken c))
  goes_woken changes =
      goes_conn c (lemmas.with_phase Owed) unpoured (with_note (Woken c)) only changes (touched_told c changes) (λ p keeps. record { opens = λ x. refl; shown = λ x able. refl; waiting = λ x. refl; able = λ x able. able })
      (record { opens = λ p. refl; seen = λ p d. phase_seen Owed (d == c) (seen d p.notes); waiting = λ p d. same_here (d == c) (waiting d p.flow); functions = λ p. refl; jobs = λ p. refl; moment = λ p. refl; mode = λ p. refl })

  pub goes_stirred : Changes c (conns.with_phase Awake) true old.conns new.conns → Goes old new (with_note (Stirred c))
  goes_stirred changes =
      goes_conn c (lemmas.with_phase Awake) unpoured (with_note (Stirred c)) only changes (touched_told c changes) (λ p keeps. record { opens = λ x. refl; shown = λ x able. refl; waiting = λ x. refl; able = λ x able. able })
      (record { opens = λ p. refl; seen = λ p d. phase_seen Awake (d == c) (seen d p.notes); waiting = λ p d. same_here (d == c) (waiting d p.flow); functions = λ p. refl; jobs = λ p. refl; moment = λ p. refl; mode = λ p. refl })

  pub goes_took : Changes c (conns.with_phase Awake) true old.conns new.conns → Goes old new (with_note (Took c))
  goes_took changes =
      goes_conn c (lemmas.with_phase Awake) unpoured (with_note (Took c)) only changes (touched_told c changes) (λ p keeps. record { opens = λ x. refl; shown = λ x able. refl; waiting = λ x. refl; able = λ x able. able })
      (record { opens = λ p. refl; seen = λ p d. phase_seen Awake (d == c) (seen d p.notes); waiting = λ p d. same_here (d == c) (waiting d p.flow); functions = λ p. refl; jobs = λ p. refl; moment = λ p. refl; mode = λ p. refl })

  pub goes_withdrew : Changes c (conns.with_phase Awake) true old.conns new.conns → Goes old new (with_note (Withdrew c))
  goes_withdrew changes =
      goes_conn c (lemmas.with_phase Awake) unpoured (with_note (Withdrew c)) only changes (touched_told c changes) (λ p keeps. record { opens = λ x. refl; shown = λ x able. refl; waiting = λ x. refl; able = λ x able. able })
      (record { opens = λ p. refl; seen = λ p d. phase_seen Awake (d == c) (seen d p.notes); waiting = λ p d. same_here (d == c) (waiting d p.flow); functions = λ p. refl; jobs = λ p. refl; moment = λ p. refl; mode = λ p. refl })

  pub goes_shut : Changes c conns.shut true old.conns new.conns → Goes old new (with_note (Shut c))
  goes_shut changes =
      goes_conn c lemmas.with_shut unpoured (with_note (Shut c)) only changes (touched_told c changes) (λ p keeps. record { opens = λ x. refl; shown = λ x able. refl; waiting = λ x. refl; able = λ x able. able })
      (record { opens = λ p. refl; seen = λ p d. shut_seen (d == c) (seen d p.notes); waiting = λ p d. same_here (d == c) (waiting d p.flow); functions = λ p. refl; jobs = λ p. refl; moment = λ p. refl; mode = λ p. refl })

  pub goes_option : {told : Bool} → Changes c conns.with_option told old.conns new.conns → Goes old new (with_note (OptionSet c))
  goes_option {told} changes =
      goes_conn c lemmas.with_option unpoured (with_note (OptionSet c)) only changes (touched_apart c (λ x. refl) changes) (λ p keeps. record { opens = λ x. refl; shown = λ x able. refl; waiting = λ x. refl; able = λ x able. able })
      (record { opens = λ p. refl; seen = λ p d. option_seen (d == c) (seen d p.notes); waiting = λ p d. same_here (d == c) (waiting d p.flow); functions = λ p. refl; jobs = λ p. refl; moment = λ p. refl; mode = λ p. refl })

  pub goes_named : {told : Bool} (id : List ℕ) → Changes c (conns.with_id id) told old.conns new.conns → Goes old new (with_note (Named c id))
  goes_named {told} id changes =
      goes_conn c (lemmas.with_id id) unpoured (with_note (Named c id)) only changes (touched_apart c (λ x. refl) changes) (λ p keeps. record { opens = λ x. refl; shown = λ x able. refl; waiting = λ x. refl; able = λ x able. able })
      (record { opens = λ p. refl; seen = λ p d. id_seen id (d == c) (seen d p.notes); waiting = λ p d. same_here (d == c) (waiting d p.flow); functions = λ p. refl; jobs = λ p. refl; moment = λ p. refl; mode = λ p. refl })

-- room is made for bytes, and then they are queued
pub goes_queued : (old : Tables) (ready told : tables.Table) (text : Text) (c n cost : ℕ) (bytes : List ℕ) → Changes c (conns.with_room n) false old.conns ready
    → Changes c (conns.with_bytes bytes cost) true ready told → Goes old (record old { conns = told; text = text }) (with_output c bytes)
goes_queued old ready told text c n cost bytes room put =
    goes_then (goes_room {old = old} {new = record old { conns = ready }} c (record { config = refl; functions = refl; jobs = refl; moment = refl; mode = refl }) n room)
    (goes_printed {old = record old { conns = ready }} {new = record old { conns = told; text = text }} c (record { config = refl; functions = refl; jobs = refl; moment = refl; mode = refl }) bytes cost put)

pub does_set_id : (old new : Tables) (told : Bool) (c : ℕ) (id : List ℕ) (result : Result (Unit {0}) AllocError) → OnlyConns old new
    → OnOk result (Changes c (conns.with_id id) told old.conns new.conns) → OnErr result (new.conns ≡ old.conns) → Does old result new (with_note (Named c id))
does_set_id old new told c id (Ok done) only ok err = goes_named c only id ok
does_set_id old new told c id (Err wanting) only ok err = goes_nothing only.config err only.functions only.jobs only.moment only.mode

-- ---- abilities

module _ {old new : Tables} (c : ℕ) (only : OnlyConns old new) where
  pub goes_cant : {told : Bool} (name : List ℕ) (f : ℕ) → number_of name old.functions ≡ Some f → Changes c (conns.without_ability f) told old.conns new.conns → Goes old new (with_note (Cant c name))
  goes_cant {told} name f at changes =
      goes_conn c (lemmas.without_ability name) unpoured (with_note (Cant c name)) only changes (touched_apart c (λ x. refl) changes)
      (λ p keeps.
      let within = position-within (bytes_eq name) old.functions.names f at in
      let is = number_is name old.functions f at in
      record {
        opens = λ x. refl;
        shown = λ x able.
            ap (λ (l : List Ability). lemmas.with_abilities l (shown old.functions.names x))
            (taken_out keeps.functions f x.abilities able.0 within
            ∙ ap (λ (g : List ℕ). filter (λ ability. not (is_of g ability)) (map (ability_named old.functions.names) x.abilities)) is);
        waiting = λ x. refl;
        able = λ x able. (able_out old.functions.names f x.abilities able.0, able.1);
      })
      (record { opens = λ p. refl; seen = λ p d. cant_seen name (d == c) (seen d p.notes); waiting = λ p d. same_here (d == c) (waiting d p.flow); functions = λ p. refl; jobs = λ p. refl; moment = λ p. refl; mode = λ p. refl })

  pub goes_can : {told : Bool} (name : List ℕ) (f t : ℕ) → number_of name old.functions ≡ Some f → Changes c (conns.with_ability f t) told old.conns new.conns → Goes old new (with_note (Can c name t))
  goes_can {told} name f t at changes =
      goes_conn c (lemmas.with_ability name t) unpoured (with_note (Can c name t)) only changes (touched_apart c (λ x. refl) changes)
      (λ p keeps.
      let within = position-within (bytes_eq name) old.functions.names f at in
      let is = number_is name old.functions f at in
      record {
        opens = λ x. refl;
        shown = λ x able.
            ap (λ (l : List Ability). lemmas.with_abilities l (shown old.functions.names x))
            (put_named keeps.functions f t x.abilities able.0 within
            ∙ ap (λ (g : List ℕ). put g t (map (ability_named old.functions.names) x.abilities)) is);
        waiting = λ x. refl;
        able = λ x able. (able_put old.functions.names f t x.abilities able.0 within, able.1);
      })
      (record { opens = λ p. refl; seen = λ p d. can_seen name t (d == c) (seen d p.notes); waiting = λ p d. same_here (d == c) (waiting d p.flow); functions = λ p. refl; jobs = λ p. refl; moment = λ p. refl; mode = λ p. refl })

-- a function that isn't known is none that a worker can do
pub goes_cant_unknown : (core : Tables) (c : ℕ) (name : List ℕ) → number_of name core.functions ≡ None → Goes core core (with_note (Cant c name))
goes_cant_unknown core c name none = record {
  config = refl;
  others = touched_same refl;
  past = λ p keeps. record {
    conns = seen_same keeps.conns (λ d. refl)
        (λ d opened.
        let shows = ap (λ (s : Seen). s.abilities) (keeps.conns.seen d opened) in
        let same : abilities d p.notes ≡ filter (λ ability. not (is_of name ability)) (abilities d p.notes) =
        subst (λ (l : List Ability). l ≡ filter (λ ability. not (is_of name ability)) l) shows (none_out keeps.functions name (conn core.conns d).abilities none (keeps.conns.able d).0) in
        ap (λ (l : List Ability). lemmas.with_abilities l (seen d p.notes)) (either_same (d == c) same));
    functions = keeps.functions;
    jobs = keeps.jobs;
    moment = keeps.moment;
    mode = keeps.mode;
  };
}
  where
    either_same : {A : Type 0} {x y : A} (t : Bool) → x ≡ y → x ≡ (if t then y else x)
    either_same true e = e
    either_same false e = refl

-- ---- functions

pub goes_functions : (old : Tables) (functions : queues.Table) (step : Past → Past)
    → ((p : Past) → Keeps old p → Holds old.config old.conns functions old.jobs old.moment old.mode (step p)) → Goes old (record old { functions = functions }) step
goes_functions old functions step holds = record { config = refl; others = touched_same refl; past = holds }

pub goes_mention : (old : Tables) (new : queues.Table) (name : List ℕ) → number_of name old.functions ≡ None
    → ChangesNames (old.functions.names ++ name ∷ []) old.functions new → IsFree (length old.functions.names) new
    → length old.functions.names ≢ old.functions.most → Goes old (record old { functions = new }) (with_note (Mention name))
goes_mention old new name none changes free room =
    goes_functions old new (with_note (Mention name))
    (λ p keeps. record {
      conns = subst (λ (l : List (List ℕ)). HoldsConns old.config old.conns l (conn_facts p.notes) (λ c. waiting c p.flow)) (sym changes.names) (conns_mention name keeps.conns);
      functions = functions_mention old.config old.functions new name none changes free p.notes room keeps.functions;
      jobs = jobs_mention old.config old.functions new name none changes free old.jobs (conn_facts p.notes).is_open (job_facts p.notes) (function_facts p.notes) keeps.functions keeps.jobs;
      moment = keeps.moment;
      mode = keeps.mode;
    })

-- a function was mentioned and taken back
pub goes_back : (old : Tables) (new : queues.Table) → Same old.functions new → Goes old (record old { functions = new }) (λ past. past)
goes_back old new same =
    goes_functions old new (λ past. past)
    (λ p keeps. record {
      conns = subst (λ (l : List (List ℕ)). HoldsConns old.config old.conns l (conn_facts p.notes) (λ c. waiting c p.flow)) (sym same.names) keeps.conns;
      functions = functions_same old.config old.functions new same keeps.functions;
      jobs = jobs_held_same old.config old.functions new same keeps.jobs;
      moment = keeps.moment;
      mode = keeps.mode;
    })

-- nobody is woken where nothing waits
pub woken_not : (c : ℕ) (asleep : Bool) (l : List ℕ) (p : Past) → l ≡ [] → wake_if (asleep && not (is_empty l)) c p ≡ p
woken_not c true l p e = rw e refl
woken_not c false l p e = refl

-- ---- sleep

pub beside_some : (o : Option Choice) (c : ℕ) (p : Past) → is_some o ≡ true → with_note (Woken c) p ≡ sleep_beside (option_map (λ (found : Choice). found.pick) o) c p
beside_some None c p e = absurd cc
beside_some (Some found) c p e = refl

pub beside_none : (o : Option Choice) (c : ℕ) (p : Past) → is_some o ≡ false → p ≡ sleep_beside (option_map (λ (found : Choice). found.pick) o) c p
beside_none None c p e = refl
beside_none (Some found) c p e = absurd cc

-- ---- jobs

pub goes_jobs : (old : Tables) (new : jobs.Table) (step : Past → Past)
    → ((p : Past) → Keeps old p → Holds old.config old.conns old.functions new old.moment old.mode (step p)) → Goes old (record old { jobs = new }) step
goes_jobs old new step holds = record { config = refl; others = touched_same refl; past = holds }

pub goes_kept : (old : Tables) (new : jobs.Table) (n : ℕ) → jobs.Changes n Rattle.gm_jobs.specs.Live.kept old.jobs new → Goes old (record old { jobs = new }) (with_note (Kept n))
goes_kept old new n changes =
    goes_jobs old new (with_note (Kept n))
    (λ p keeps. record { conns = keeps.conns; functions = keeps.functions; jobs = jobs_kept p.notes n changes keeps.jobs; moment = keeps.moment; mode = keeps.mode })

pub does_listen : (old : Tables) (new : jobs.Table) (n c : ℕ) (result : Result (Unit {0}) AllocError) → IsOpen old.conns c
    → OnOk result (jobs.Changes n (Rattle.gm_jobs.specs.Live.with_listener c) old.jobs new) → OnErr result (new ≡ old.jobs) → Does old result (record old { jobs = new }) (with_note (Listens n c))
does_listen old new n c (Ok done) opened ok err =
    goes_jobs old new (with_note (Listens n c))
    (λ p keeps. record { conns = keeps.conns; functions = keeps.functions; jobs = jobs_listen p.notes n c ok (open_is keeps c opened) keeps.jobs; moment = keeps.moment; mode = keeps.mode })
does_listen old new n c (Err wanting) opened ok err = goes_nothing refl refl refl err refl refl
