-- The functions are those that steps named.
use Rattle.std.proofs.Common.{◌≡◌, ◌⊎◌, inl, inr, ℕ, Bool, true, false, cond, ◌||◌, List, [], ◌∷◌, ◌++◌, length, Some, Result, Ok, Err, refl, sym, ap, subst, ◌∙◌, arith, length-append}
use Rattle.std.specs.Str.{bytes_eq}
use Rattle.std.specs.List.{list_any}
use Rattle.gm_packet.specs.declared.kind.Kind.{Kind}
use Rattle.gm_packet.specs.declared.kind.Kind.TheVariants.{CanDo, CanDoTimeout}
use Rattle.gm_packet.specs.declared.request.RequestFault.{RequestFault}
use Rattle.gm_packet.specs.Requests.{Asked}
use Rattle.gm_admin.specs.declared.fault.AdminFault.{AdminFault}
use Rattle.gm_admin.specs.declared.fault.AdminError.TheVariants as errors
use Rattle.gm_admin.specs.Commands.{Commanded, MaxQueue, command_of}
use Rattle.gm_admin.specs.Answers.{ok_text, error_text}
use Rattle.gm_notes.specs.declared.note.Note.{Note}
use Rattle.gm_notes.specs.declared.note.Note.TheVariants as notes
use Rattle.gm_notes.specs.Settings.{Settings}
use Rattle.gm_notes.specs.Notes.{takes_units}
use Rattle.gm_notes.specs.Flow.{Flow, Queued}
use Rattle.gm_notes.specs.Jobs.{functions, is_mentioned}
use Rattle.gm_notes.specs.Past.{Past, with_note, with_output, with_mention}
use Rattle.gm_notes.specs.Requests.{first}
use Rattle.gm_notes.specs.Submissions.{is_one_too_many}
use Rattle.gm_notes.specs.Lines.{is_bad_word, refuse_line, maxqueue, command}
use Rattle.gm_notes.specs.Steps.{Step, Packet, Line, unless, unless_not_open, step, run}
use Rattle.gm_history.specs.History.{Allowed, History}
use Rattle.gm_history.specs.Causes.{Caused, Mentions, PacketAsks, Commands, is_enabling, is_submission, job_seconds}
use Rattle.gm_history.specs.Laws.{InEachStep}
use Rattle.gm_history.proofs.Caused.{note_law}
use Rattle.gm_history.proofs.Finding.{within_able}
use Rattle.gm_history.proofs.StepsKeep.{run_history}
use Rattle.gm_laws.specs.Named.{Names, FunctionsGrowBy, FunctionsAreWhatWasNamed}
use Rattle.gm_laws.specs.Laws.{IsAmong}
use Rattle.gm_laws.proofs.Abilities.{abilities_asked}
use Rattle.gm_laws.proofs.Created.{submissions_answered}
use Rattle.gm_laws.proofs.Limits.{limits, job_mentioned, able_mentioned}
use Rattle.gm_laws.proofs.Moving.{from, both_not}
use Rattle.gm_laws.proofs.Taken.{request_shut, line_does}
use Rattle.gm_laws.proofs.Words.{among, from_among}

-- ---- a step mentions one function

abbrev asked_first : Result Asked RequestFault → List ℕ
asked_first (Ok asked) = first asked.arguments
asked_first (Err fault) = []

abbrev limited : Result Commanded AdminFault → List ℕ
limited (Ok (MaxQueue f size)) = f
limited other = []

one_mentioned : (s : Step) (f g : List ℕ) → Mentions s f → Mentions s g → f ≡ g
one_mentioned (Packet c number bytes) f g (inl a) (inl b) = sym a.4 ∙ (ap asked_first (sym a.2.1 ∙ b.2.1) ∙ b.4)
one_mentioned (Packet c number bytes) f g (inl a) (inr b) = absurd b.1
one_mentioned (Packet c number bytes) f g (inr a) b = absurd a.1
one_mentioned (Line c bytes) f g (inr a) (inr b) = ap limited (sym a.1 ∙ b.1)
one_mentioned (Line c bytes) f g (inl a) b = absurd a.2
one_mentioned (Line c bytes) f g (inr a) (inl b) = absurd b.2
one_mentioned other f g (inl a) b = absurd a.2
one_mentioned other f g (inr a) b = absurd a.1

-- ---- what a step adds

grew : (all : List (List ℕ)) (f : List ℕ) → all ≡ all ++ f ∷ [] → ⊥
grew all f e = let same = ap length e in omega (arith, same, length-append all (f ∷ []))

module _ (k : Settings) (s : Step) (start : Past) (history : History k start.notes) where
  abbrev Grown : List Note → Type 0
  Grown l =
      (functions l ≡ functions start.notes)
      ⊎ ((f : List ℕ) × (functions l ≡ functions start.notes ++ f ∷ []) × (is_mentioned f start.notes ≡ false) × Mentions s f)

  grown_more : (note : Note) (older : List Note) → Allowed k note older → Caused k start.notes s note older → Grown older → Grown (note ∷ older)
  grown_more (notes.Mention g) older allowed cause (inl same) =
      inr (g, ap (λ l. l ++ g ∷ []) same, ap (λ l. list_any (λ x. bytes_eq x g) l) (sym same) ∙ allowed.0, cause)
  grown_more (notes.Mention g) older allowed cause (inr r) =
      let same = one_mentioned s r.0 g r.3 cause in
      absurd (both_not (is_mentioned g older) (from_among g (functions older) (functions start.notes, [], subst (λ x. functions older ≡ functions start.notes ++ x ∷ []) same r.1)) allowed.0)
  grown_more note older allowed cause p = p

  grown : Grown (step k s start).notes
  grown = note_law k s start history Grown (λ note older allowed cause h p. grown_more note older allowed cause p) (inl refl)

-- ---- which it names

enabling : (kind : Kind) → is_enabling kind ≡ true → (kind ≡ CanDo) ⊎ (kind ≡ CanDoTimeout)
enabling CanDo e = inl refl
enabling CanDoTimeout e = inr refl
enabling other e = absurd cc

seconds_for : (kind : Kind) (timeout : ℕ) → (kind ≡ CanDo) ⊎ (kind ≡ CanDoTimeout) → (seconds : ℕ) × (job_seconds kind timeout ≡ Some seconds)
seconds_for kind timeout (inl e) = (0, rw e refl)
seconds_for kind timeout (inr e) = (timeout, rw e refl)

either : (t u : Bool) → (t || u) ≡ true → (t ≡ true) ⊎ (u ≡ true)
either true u e = inl refl
either false u e = inr e

line_of : (s : Step) (asked : Commanded) → Commands s asked → (c : ℕ) × (line : List ℕ) × (s ≡ Line c line)
line_of (Line c line) asked e = (c, line, refl)
line_of other asked e = absurd e

line_shut : (k : Settings) (s : Step) (start : Past) (c : ℕ) (line : List ℕ) → s ≡ Line c line → takes_units c start.notes ≡ false → step k s start ≡ start
line_shut k s start c line is shut = ap (λ x. step k x start) is ∙ ap (λ t. unless (unless_not_open t) (command k c (command_of line) start) start) shut

module _ (k : Settings) (steps : List Step) (s : Step) where
  abbrev start : Past
  start = run k steps

  abbrev after : Past
  after = run k (s ∷ steps)

  module _ (f : List ℕ) (more : functions after.notes ≡ functions start.notes ++ f ∷ []) (new : is_mentioned f start.notes ≡ false) where
    -- something happened
    changed : after.notes ≡ start.notes → ⊥
    changed same = grew (functions start.notes) f (sym (ap functions same) ∙ more)

    by_ability : (c : ℕ) (asked : Asked) → takes_units c start.notes ≡ true → PacketAsks c s asked → is_enabling asked.kind ≡ true → first asked.arguments ≡ f → Names start s after f
    by_ability c asked takes a e is =
        let kinds = enabling asked.kind e in
        let seconds = seconds_for asked.kind asked.timeout kinds in
        from (((abilities_asked k steps s).0 c asked f takes a).0 seconds.0 (is, seconds.1))
        (λ within. inl (c, asked, a, kinds, is, within_able c f seconds.0 after.notes within))
        (λ rejected. absurd (changed rejected.2.1))

    by_job : (c : ℕ) (asked : Asked) → takes_units c start.notes ≡ true → PacketAsks c s asked → is_submission asked.kind ≡ true → first asked.arguments ≡ f → Names start s after f
    by_job c asked takes a e is =
        from (submissions_answered k steps s c asked takes a e)
        (λ made. from made.3
        (λ joined.
        let known = job_mentioned k start.notes (run_history k steps) made.0 joined.0 joined.1 in
        absurd (both_not (is_mentioned f start.notes) (subst (λ g. is_mentioned g start.notes ≡ true) (sym joined.3.0 ∙ is) known) new))
        (λ one. inr (inl (made.0, one.0, one.3, one.1, sym one.2.1 ∙ is))))
        (λ turned. absurd (changed turned.3))

    by_limit : (size c : ℕ) (line : List ℕ) → s ≡ Line c line → Commands s (MaxQueue f size) → takes_units c start.notes ≡ true → Names start s after f
    by_limit size c line is commands takes =
        from ((limits k steps s).3 c line f size is commands takes)
        (λ set. inr (inr (c, size, ((line, is), commands, takes), set.0)))
        (λ err. absurd (changed err.2.1))

    named : Mentions s f → Names start s after f
    named (inl m) = by (takes_units m.0 start.notes) refl
      where
        by : (t : Bool) → takes_units m.0 start.notes ≡ t → Names start s after f
        by true takes = from (either (is_submission m.1.kind) (is_enabling m.1.kind) m.3) (λ e. by_job m.0 m.1 takes m.2 e m.4) (λ e. by_ability m.0 m.1 takes m.2 e m.4)
        by false shut = absurd (changed (ap (λ (past : Past). past.notes) (request_shut k s start m.0 m.1 shut m.2)))
    named (inr m) = by (line_of s (MaxQueue f m.0) m.1)
      where
        by : (c : ℕ) × (line : List ℕ) × (s ≡ Line c line) → Names start s after f
        by l = at (takes_units l.0 start.notes) refl
          where
            at : (t : Bool) → takes_units l.0 start.notes ≡ t → Names start s after f
            at true takes = by_limit m.0 l.0 l.1 l.2 m.1 takes
            at false shut = absurd (changed (ap (λ (past : Past). past.notes) (line_shut k s start l.0 l.1 l.2 shut)))

  grows_by : FunctionsGrowBy start s after
  grows_by =
      from (grown k s start (run_history k steps)) inl
      (λ r. inr (r.0, r.1, (λ there. both_not (is_mentioned r.0 start.notes) (from_among r.0 (functions start.notes) there) r.2), named r.0 r.1 r.2 r.3))

-- ---- what is named is there

abbrev text_of : List Flow → List ℕ
text_of (Queued c text ∷ flow) = text
text_of other = []

abbrev first_byte : List ℕ → ℕ
first_byte [] = 0
first_byte (b ∷ bytes) = b

module _ (k : Settings) (c : ℕ) (f : List ℕ) (size : ℕ) (start : Past) where
  mentioned_now : is_mentioned f (with_mention f start).notes ≡ true
  mentioned_now = by (is_mentioned f start.notes) refl
    where
      by : (t : Bool) → is_mentioned f start.notes ≡ t → is_mentioned f (cond t start (with_note (notes.Mention f) start)).notes ≡ true
      by true is = is
      by false is = from_among f (functions (notes.Mention f ∷ start.notes)) (functions start.notes, [], refl)

  limited_now : (maxqueue k c f size start).flow ≡ Queued c ok_text ∷ start.flow → is_mentioned f (maxqueue k c f size start).notes ≡ true
  limited_now = by (is_bad_word f) (is_one_too_many k f start.notes)
    where
      no_ok : (text : List ℕ) → (first_byte text ≡ 79 → ⊥) → (with_output c text start).flow ≡ Queued c ok_text ∷ start.flow → ⊥
      no_ok text other e = other (ap (λ flow. first_byte (text_of flow)) e)

      done : Past
      done = with_output c ok_text (with_note (notes.Limit f size) (with_mention f start))

      by : (t u : Bool) → (cond t (refuse_line c errors.BadFunction start) (cond u (refuse_line c errors.TooManyFunctions start) done)).flow ≡ Queued c ok_text ∷ start.flow
          → is_mentioned f (cond t (refuse_line c errors.BadFunction start) (cond u (refuse_line c errors.TooManyFunctions start) done)).notes ≡ true
      by true u e = absurd (no_ok (error_text errors.BadFunction) (λ is. let bad : ⊥ = cc in bad) e)
      by false true e = absurd (no_ok (error_text errors.TooManyFunctions) (λ is. let bad : ⊥ = cc in bad) e)
      by false false e = mentioned_now

there_then : (k : Settings) (steps : List Step) (s : Step) (f : List ℕ) → Names (run k steps) s (run k (s ∷ steps)) f → IsAmong f (functions (run k (s ∷ steps)).notes)
there_then k steps s f named = among f (functions after.notes) (by named)
  where
    start : Past
    start = run k steps

    after : Past
    after = run k (s ∷ steps)

    by : Names start s after f → is_mentioned f after.notes ≡ true
    by (inl ability) = able_mentioned k after.notes (run_history k (s ∷ steps)) ability.0 f ability.5
    by (inr (inl new)) = subst (λ g. is_mentioned g after.notes ≡ true) new.4 (job_mentioned k after.notes (run_history k (s ∷ steps)) new.0 new.1 new.3)
    by (inr (inr limit)) =
        let does : after ≡ maxqueue k limit.0 f limit.1 start = line_does k s start limit.0 limit.2.0.0 (MaxQueue f limit.1) limit.2.0.1 limit.2.1 limit.2.2 in
        subst (λ (past : Past). is_mentioned f past.notes ≡ true) (sym does)
        (limited_now k limit.0 f limit.1 start (ap (λ (past : Past). past.flow) (sym does) ∙ limit.3))

pub functions_named : InEachStep FunctionsAreWhatWasNamed
functions_named k steps s = (grows_by k steps s, there_then k steps s)
