-- What is submitted is what is worked on.
use Rattle.std.proofs.Common.{◌≡◌, ◌⊎◌, inl, inr, ℕ, Bool, true, false, cond, List, [], ◌∷◌, Option, Some, None, Ok}
use Rattle.std.proofs.Common.{refl, sym, ap, subst, ◌∙◌}
use Rattle.std.specs.Prelude.{◌==◌, codes, unwrap_or}
use Rattle.std.specs.Option.{ok_or}
use Rattle.std.proofs.lemmas.Bool.{and_parts}
use Rattle.std.proofs.lemmas.List.{append-nil}
use Rattle.std.proofs.lemmas.Option.{same_Some}
use Rattle.gm_packet.specs.declared.kind.Kind.{Kind}
use Rattle.gm_packet.specs.declared.kind.Kind.TheVariants.{GrabJob, GrabJobUniq}
use Rattle.gm_packet.specs.declared.request.RequestFault.TheVariants.{BadArguments}
use Rattle.gm_packet.specs.Kinds.{kind_of}
use Rattle.gm_packet.specs.Requests.{Asked, read_as, read_kind, request_of}
use Rattle.gm_packet.specs.Answers.{Answer, answer_packet, job_created}
use Rattle.gm_notes.specs.declared.note.Note.{Note}
use Rattle.gm_notes.specs.declared.note.Note.TheVariants as notes
use Rattle.gm_notes.specs.declared.states.Pick.{Pick}
use Rattle.gm_notes.specs.Settings.{Settings}
use Rattle.gm_notes.specs.Notes.{phase, is_asleep, takes_units, moment}
use Rattle.gm_notes.specs.Flow.{Queued}
use Rattle.gm_notes.specs.Jobs.{Job, job_state, job, pick, handle}
use Rattle.gm_notes.specs.JobStates as states
use Rattle.gm_notes.specs.Past.{Past, with_note, refuse}
use Rattle.gm_notes.specs.Workers.{wake_itself, deadline_after, assignment, tell_assigned, give_out}
use Rattle.gm_notes.specs.Requests.{request, request_if_read, packet_of}
use Rattle.gm_notes.specs.Steps.{Step, Packet, unless, unless_not_open, step, run}
use Rattle.gm_history.specs.History.{Gets, Allowed, History}
use Rattle.gm_history.specs.Causes.{Caused, is_one_of, asks, PacketAsks, Submits, is_submission, is_grab, JustQueues}
use Rattle.gm_laws.specs.Submitted.{grab_answer, MakesJob, GivesTheJob, WhatIsSubmittedIsWorkedOn}
use Rattle.gm_laws.specs.Turns.{One}
use Rattle.gm_history.proofs.Asking.{kind_read, submission_kind}
use Rattle.gm_laws.proofs.Created.{Answered, packet_answered}
use Rattle.gm_history.proofs.Finding.{pick_found, job_of}
use Rattle.gm_laws.proofs.Grabs.{stirred_flow}
use Rattle.gm_laws.proofs.JobLaws.{unmade}
use Rattle.gm_history.proofs.Keeping.{kept_if}
use Rattle.gm_laws.proofs.Moving.{from}
use Rattle.gm_history.proofs.StepsKeep.{taken_or_not, run_history}
use Rattle.gm_history.proofs.Caused.{note_law}
use Rattle.gm_laws.proofs.StepLaws.{gives}
use Rattle.gm_laws.proofs.Unmade.{unmade_is}
use Rattle.std.proofs.lemmas.Bool.{eqb-true}

-- ---- each job was submitted

module _ (k : Settings) (s : Step) (start : Past) (history : History k start.notes) (n : ℕ) where
  -- a job that there is stays what it is
  abbrev Known : Job → List Note → Type 0
  Known what l = job n l ≡ Some what

  known_more : (what : Job) (note : Note) (older : List Note) → Allowed k note older → History k older → Known what older → Known what (note ∷ older)
  known_more what (notes.Made m f p u body) older allowed h e = by (n == m) refl
    where
      by : (t : Bool) → (n == m) ≡ t → unwrap_or (cond t (Some (Some (record { function = f; priority = p; unique = u; body = body }))) None) (job n older) ≡ Some what
      by true is =
          let none : job n older ≡ None = ap (λ x. job x older) (eqb-true n m is) ∙ (unmade_is k m older h (unmade k m older h allowed.0)).unknown in
          let bad : None ≡ Some what = sym none ∙ e in
          absurd cc
      by false is = e
  known_more what note older allowed h e = e

  stays_known : (what : Job) → Known what start.notes → Known what (step k s start).notes
  stays_known what e = note_law k s start history (Known what) (λ note older allowed cause h p. known_more what note older allowed h p) e

  -- it is what it was, or the step is a submission
  abbrev KnownSo : List Note → Type 0
  KnownSo l = (job n l ≡ job n start.notes) ⊎ ((c : ℕ) × (asked : Asked) × PacketAsks c s asked × (is_submission asked.kind ≡ true))

  submitted_more : (note : Note) (older : List Note) → Caused k start.notes s note older → KnownSo older → KnownSo (note ∷ older)
  submitted_more (notes.Made m f p u body) older cause e = by (n == m)
    where
      by : (t : Bool) → (unwrap_or (cond t (Some (Some (record { function = f; priority = p; unique = u; body = body }))) None) (job n older) ≡ job n start.notes) ⊎ ((c : ℕ) × (asked : Asked) × PacketAsks c s asked × (is_submission asked.kind ≡ true))
      by true = inr (cause.0, cause.1, cause.2, submission_kind cause.1.kind p cause.3.0)
      by false = e
  submitted_more note older cause e = e

  submitted_so : KnownSo (step k s start).notes
  submitted_so = note_law k s start history KnownSo (λ note older allowed cause h p. submitted_more note older cause p) (inl refl)

module _ (k : Settings) (n : ℕ) (what : Job) (earlier : List Step) (none : job n (run k earlier).notes ≡ None) where
  abbrev start : Past
  start = run k earlier

  abbrev Makes : Step → Past → Type 0
  Makes s after = job n after.notes ≡ Some what →
      (c : ℕ) × (asked : Asked) × PacketAsks c s asked × Submits asked what × (job n start.notes ≡ None) × JustQueues c (job_created (handle k n)) start after

  -- nothing is new where the notes are the same
  same_makes : (s : Step) (after : Past) → job n after.notes ≡ job n start.notes → Makes s after
  same_makes s after same e = let bad : None ≡ Some what = sym none ∙ (sym same ∙ e) in absurd cc

  answered_makes : (c : ℕ) (asked : Asked) (s : Step) (after : Past) → PacketAsks c s asked → Answered k c asked start after → Makes s after
  answered_makes c asked s after a (inr r) e = same_makes s after (ap (job n) r.3) e
  answered_makes c asked s after a (inl r) e = from (r.others n) (λ same. same_makes s after same e)
      (λ x.
      let here : job r.n after.notes ≡ Some what = ap (λ m. job m after.notes) (sym x.0) ∙ e in
      let same : x.1.0 ≡ what = same_Some x.1.0 what (sym x.1.1 ∙ here) in
      (c, asked, a, subst (Submits asked) same x.1.2, none, subst (λ m. JustQueues c (job_created (handle k m)) start after) (sym x.0) r.queued))

  packet_makes : (c d number : ℕ) (bytes : List ℕ) (asked : Asked) → PacketAsks c (Packet d number bytes) asked → is_submission asked.kind ≡ true → Makes (Packet d number bytes) (run k (Packet d number bytes ∷ earlier))
  packet_makes c d number bytes asked a e = by (takes_units d start.notes) refl
    where
      by : (t : Bool) → takes_units d start.notes ≡ t → Makes (Packet d number bytes) (step k (Packet d number bytes) start)
      by true takes = answered_makes d asked (Packet d number bytes) (step k (Packet d number bytes) start) (refl, a.1) (packet_answered k start (run_history k earlier) d number bytes asked takes a.1 e)
      by false takes = same_makes (Packet d number bytes) (step k (Packet d number bytes) start) (ap (λ t. job n (unless (unless_not_open t) (packet_of k d (kind_of number) bytes start) start).notes) takes)

  step_makes : (s : Step) → Makes s (run k (s ∷ earlier))
  step_makes s e = from (submitted_so k s start (run_history k earlier) n) (λ same. same_makes s (run k (s ∷ earlier)) same e) (λ x. by s x e)
    where
      by : (s : Step) → (c : ℕ) × (asked : Asked) × PacketAsks c s asked × (is_submission asked.kind ≡ true) → Makes s (run k (s ∷ earlier))
      by (Packet d number bytes) x = packet_makes x.0 d number bytes x.1 x.2 x.3
      by other x = absurd x.2

each_submitted : (k : Settings) (steps : List Step) (n : ℕ) (what : Job) → job n (run k steps).notes ≡ Some what → One (MakesJob k n what) steps []
each_submitted k [] n what e = absurd cc
each_submitted k (s ∷ earlier) n what e = by (job n (run k earlier).notes) refl (each_submitted k earlier n what)
  where
    by : (o : Option Job) → job n (run k earlier).notes ≡ o → (job n (run k earlier).notes ≡ Some what → One (MakesJob k n what) earlier []) → One (MakesJob k n what) (s ∷ earlier) []
    by (Some other) is rest =
        let still = stays_known k s (run k earlier) (run_history k earlier) n other is in
        inr (rest (is ∙ ap Some (same_Some other what (sym still ∙ e))))
    by None is rest = inl (subst (λ l. MakesJob k n what l s) (sym (append-nil earlier)) (step_makes k n what earlier is s e))

-- ---- whoever is given a job gets just it

module _ (k : Settings) (c : ℕ) (start : Past) (n : ℕ) (gets : Gets k c n start.notes) where
  -- what the job is, and that just this is told
  abbrev Given : Kind → Past → Type 0
  Given kind after = (what : Job) × (answer : Answer) × (job n start.notes ≡ Some what) × (grab_answer k n what kind ≡ Some answer) × JustQueues c answer start after

  assigned_is : (kind : Kind) (uniq : Bool) → ((what : Job) → grab_answer k n what kind ≡ Some (assignment k uniq n what)) → (o : Option Pick) → pick k c start.notes ≡ o → Given kind (give_out k c uniq o (wake_itself c start))
  assigned_is kind uniq says None is = let bad = sym is ∙ gets.1 in absurd cc
  assigned_is kind uniq says (Some found) is =
      let there = pick_found k c found start.notes is in
      let what = job_of there.0 (job found.job start.notes) there.1.1 in
      let same : found.job ≡ n = ap (λ (p : Pick). p.job) (same_Some found gets.0 (sym is ∙ gets.1)) ∙ gets.2 in
      let known : job found.job (wake_itself c start).notes ≡ Some what.0 =
      kept_if (λ l. job found.job l ≡ job found.job start.notes) (is_asleep (phase c start.notes)) (with_note (notes.Stirred c) start) start refl refl ∙ what.1 in
      let one = with_note (notes.Assigned found.job c (deadline_after (moment (wake_itself c start).notes) found.timeout)) (wake_itself c start) in (
        what.0,
        assignment k uniq n what.0,
        ap (λ m. job m start.notes) (sym same) ∙ what.1,
        says what.0,
        ap (λ o. (tell_assigned k c uniq found.job o one).flow) known
            ∙ (ap (λ m. Queued c (answer_packet (assignment k uniq m what.0)) ∷ (wake_itself c start).flow) same
            ∙ ap (λ flow. Queued c (answer_packet (assignment k uniq n what.0)) ∷ flow) (stirred_flow c start)),
      )

  request_given : (kind : Kind) (a : List (List ℕ)) (timeout : ℕ) → is_grab kind ≡ true → Given kind (request k c kind a timeout start)
  request_given GrabJob a timeout e = assigned_is GrabJob false (λ what. refl) (pick k c start.notes) refl
  request_given GrabJobUniq a timeout e = assigned_is GrabJobUniq true (λ what. refl) (pick k c start.notes) refl
  request_given kind a timeout e = absurd cc

  -- what a packet gives, if the job runs at the slot after it
  abbrev GivesIt : ℕ → List ℕ → Past → Type 0
  GivesIt number bytes after = job_state n after.notes ≡ states.Running c →
      (what : Job) × (asked : Asked) × (answer : Answer)
      × (job n start.notes ≡ Some what) × (request_of number bytes ≡ Ok asked) × (grab_answer k n what asked.kind ≡ Some answer) × JustQueues c answer start after

  module _ (waits : job_state n start.notes ≡ states.Waiting) where
    same_gives : (number : ℕ) (bytes : List ℕ) (after : Past) → job_state n after.notes ≡ job_state n start.notes → GivesIt number bytes after
    same_gives number bytes after same runs = let bad : states.Waiting ≡ states.Running c = sym waits ∙ (sym same ∙ runs) in absurd cc

    read_gives : (number : ℕ) (bytes : List ℕ) (kind : Kind) (o : Option Asked) → kind_of number ≡ Some kind → read_as kind bytes ≡ o → is_grab kind ≡ true → GivesIt number bytes (request_if_read k c o start)
    read_gives number bytes kind None is read e runs = same_gives number bytes (refuse c (codes "bad_arguments") start) refl runs
    read_gives number bytes kind (Some asked) is read e runs =
        let given = request_given asked.kind asked.arguments asked.timeout (ap is_grab (kind_read kind bytes asked read) ∙ e) in
        (given.0, asked, given.1, given.2, ap (λ o. read_kind o bytes) is ∙ ap (λ o. ok_or o BadArguments) read, given.3, given.4)

    kind_gives : (number : ℕ) (bytes : List ℕ) (o : Option Kind) → kind_of number ≡ o → is_one_of is_grab o ≡ true → GivesIt number bytes (packet_of k c o bytes start)
    kind_gives number bytes None is e = absurd cc
    kind_gives number bytes (Some kind) is e = read_gives number bytes kind (read_as kind bytes) is refl e

    packet_gives : (number : ℕ) (bytes : List ℕ) → is_one_of is_grab (kind_of number) ≡ true → GivesIt number bytes (step k (Packet c number bytes) start)
    packet_gives number bytes e =
        taken_or_not (GivesIt number bytes) (unless_not_open (takes_units c start.notes)) (packet_of k c (kind_of number) bytes start) start
        (λ taken. kind_gives number bytes (kind_of number) refl e) (same_gives number bytes start refl)

gives_job : (k : Settings) (steps : List Step) (s : Step) → GivesTheJob k (run k steps) s (run k (s ∷ steps))
gives_job k steps s n c waits runs =
    let start = run k steps in
    from (gives k s start (run_history k steps) n c runs) (λ e. let bad : states.Waiting ≡ states.Running c = sym waits ∙ e in absurd cc) (λ h. by s h.0 h.1 runs)
  where
    by : (s : Step) → asks is_grab c s ≡ true → Gets k c n (run k steps).notes → job_state n (run k (s ∷ steps)).notes ≡ states.Running c
        → (what : Job) × (asked : Asked) × (answer : Answer)
        × (job n (run k steps).notes ≡ Some what) × PacketAsks c s asked × (grab_answer k n what asked.kind ≡ Some answer) × JustQueues c answer (run k steps) (run k (s ∷ steps))
    by (Packet d number bytes) e gets runs =
        let parts = and_parts (c == d) (is_one_of is_grab (kind_of number)) e in
        let same = eqb-true c d parts.0 in
        let g = packet_gives k c (run k steps) n gets waits number bytes parts.1 in
        let there = subst (λ x. GivesIt k c (run k steps) n gets number bytes (step k (Packet x number bytes) (run k steps))) same g in
        let given = there runs in (
          given.0,
          given.1,
          given.2,
          given.3,
          (same, given.4),
          given.5,
          given.6,
        )
    by other e gets runs = absurd cc

pub worked_on : WhatIsSubmittedIsWorkedOn
worked_on = (each_submitted, gives_job)
