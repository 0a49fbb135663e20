-- What a step answers names what is new.
use Rattle.std.proofs.Common.{◌≡◌, ◌⊎◌, inl, inr, ℕ, suc, Bool, true, false, cond, ◌||◌, List, ◌∷◌, length, Option, Some, None, refl, sym, ap, subst, ◌∙◌, arith}
use Rattle.std.specs.Prelude.{◌==◌, unwrap_or, codes}
use Rattle.std.proofs.lemmas.Bool.Decides.{nat_tests}
use Rattle.std.proofs.lemmas.Option.{same_Some}
use Rattle.gm_packet.specs.declared.kind.Kind.{Kind}
use Rattle.gm_packet.specs.declared.kind.Kind.TheVariants.{SubmitJob, SubmitJobBg, SubmitJobHigh, SubmitJobHighBg}
use Rattle.gm_packet.specs.declared.kind.Kind.TheVariants.{SubmitJobLow, SubmitJobLowBg}
use Rattle.gm_packet.specs.Kinds.{kind_of}
use Rattle.gm_packet.specs.Answers.{job_created}
use Rattle.gm_notes.specs.declared.states.Priority.TheVariants.{High, Normal, Low}
use Rattle.gm_notes.specs.declared.note.Note.{Note}
use Rattle.gm_notes.specs.declared.note.Note.TheVariants as notes
use Rattle.gm_notes.specs.Settings.{Settings}
use Rattle.gm_notes.specs.Notes.{is_open, slots_from}
use Rattle.gm_notes.specs.Jobs.{made, is_mentioned, joined, next_number, handle}
use Rattle.gm_notes.specs.Past.{Past, with_note, give, with_mention, refuse}
use Rattle.gm_notes.specs.Submissions.{Submission, is_bad_name, is_one_too_many, is_full, keep_or_listen, make, join_or_make, submit}
use Rattle.gm_notes.specs.Requests.{submission, request, packet_of}
use Rattle.gm_notes.specs.Steps.{Step, Open, Packet, free_slot, opening, unless, refusal, add, given_slot, newest, made_since, step, run}
use Rattle.gm_notes.proofs.FreeSlots.{free_is}
use Rattle.gm_history.specs.History.{History}
use Rattle.gm_history.specs.Causes.{Caused, is_request, is_one_of, is_submission}
use Rattle.gm_history.proofs.Asking.{made_request}
use Rattle.gm_history.proofs.Keeping.{kept_if}
use Rattle.gm_history.proofs.StepsKeep.{taken_or_not, packet_of_kinds, run_history}
use Rattle.gm_history.proofs.Caused.{note_law}
use Rattle.gm_laws.specs.Laws.{was_made}
use Rattle.gm_laws.specs.Lines.{is_in, AreApart}
use Rattle.std.proofs.lemmas.Bool.{or_left}
use Rattle.gm_laws.specs.Done.{IsOpenedBy, IsMadeBy, AnswersNameWhatIsNew}
use Rattle.gm_laws.proofs.Lines.{made_apart}
use Rattle.gm_laws.proofs.Modes.{opens}
use Rattle.gm_laws.proofs.Moving.{from, both_not, wake_each_notes}
use Rattle.gm_laws.proofs.NumberLaws.{numbers}
use Rattle.gm_notes.proofs.Numbers.{same_number}
use Rattle.std.proofs.lemmas.Bool.{eqb-true}

-- ---- the jobs made

-- as before, or one more
abbrev MoreSo : List ℕ → List Note → Type 0
MoreSo before l = (made l ≡ before) ⊎ ((n : ℕ) × (made l ≡ n ∷ before))

module _ (k : Settings) (c : ℕ) (start : Past) (sub : Submission) where
  abbrev More : Past → Type 0
  More past = MoreSo (made start.notes) past.notes

  keeps_made : (n : ℕ) (past : Past) (before : List ℕ) → made past.notes ≡ before → made (keep_or_listen c sub n past).notes ≡ before
  keeps_made n past before e = kept_if (λ l. made l ≡ before) sub.background (with_note (notes.Kept n) past) (with_note (notes.Listens n c) past) e e

  makes_one : (o : Option ℕ) → More (make k c sub o start)
  makes_one None = inl refl
  makes_one (Some n) =
      let one = with_note (notes.Made n sub.function sub.priority sub.unique sub.body) (with_mention sub.function start) in
      let same : made one.notes ≡ n ∷ made start.notes =
      ap (λ l. n ∷ l) (kept_if (λ l. made l ≡ made start.notes) (is_mentioned sub.function start.notes) start (with_note (notes.Mention sub.function) start) refl refl) in
      inr (
        n,
        wake_each_notes (λ l. made l ≡ n ∷ made start.notes) (λ d older p. p) sub.function (slots_from 0 k.slots) (give c (job_created (handle k n)) (keep_or_listen c sub n one))
            (keeps_made n one (n ∷ made start.notes) same),
      )

  joins_or_makes_one : (o : Option ℕ) → More (join_or_make k c sub o start)
  joins_or_makes_one (Some n) = inl (keeps_made n start (made start.notes) refl)
  joins_or_makes_one None = by (is_one_too_many k sub.function start.notes) (is_full sub.function start.notes)
    where
      by : (t u : Bool) → More (cond t (refuse c (codes "too_many_functions") start) (cond u (refuse c (codes "queue_full") start) (make k c sub (next_number k start.notes) start)))
      by true u = inl refl
      by false true = inl refl
      by false false = makes_one (next_number k start.notes)

  submits_one : More (submit k c sub start)
  submits_one = by (is_bad_name sub.function)
    where
      by : (t : Bool) → More (cond t (refuse c (codes "bad_function") start) (join_or_make k c sub (joined sub.function sub.unique start.notes) start))
      by true = inl refl
      by false = joins_or_makes_one (joined sub.function sub.unique start.notes)

request_makes : (k : Settings) (c : ℕ) (start : Past) (kind : Kind) (a : List (List ℕ)) (timeout : ℕ) → is_submission kind ≡ true → MoreSo (made start.notes) (request k c kind a timeout start).notes
request_makes k c start SubmitJob a timeout e = submits_one k c start (submission Normal false a)
request_makes k c start SubmitJobBg a timeout e = submits_one k c start (submission Normal true a)
request_makes k c start SubmitJobHigh a timeout e = submits_one k c start (submission High false a)
request_makes k c start SubmitJobHighBg a timeout e = submits_one k c start (submission High true a)
request_makes k c start SubmitJobLow a timeout e = submits_one k c start (submission Low false a)
request_makes k c start SubmitJobLowBg a timeout e = submits_one k c start (submission Low true a)
request_makes k c start kind a timeout e = absurd cc

module _ (k : Settings) (start : Past) (history : History k start.notes) where
  made_more : (s : Step) → is_request is_submission s ≡ false → (note : Note) (older : List Note) → Caused k start.notes s note older → made older ≡ made start.notes → made (note ∷ older) ≡ made start.notes
  made_more s other (notes.Made n f p u body) older cause e = absurd (both_not (is_request is_submission s) (made_request k start.notes s n f p u body older cause) other)
  made_more s other note older cause e = e

  quiet_makes : (s : Step) → is_request is_submission s ≡ false → MoreSo (made start.notes) (step k s start).notes
  quiet_makes s other = inl (note_law k s start history (λ l. made l ≡ made start.notes) (λ note older allowed cause h p. made_more s other note older cause p) refl)

  packet_makes : (c number : ℕ) (bytes : List ℕ) (t : Bool) → is_one_of is_submission (kind_of number) ≡ t → MoreSo (made start.notes) (step k (Packet c number bytes) start).notes
  packet_makes c number bytes true is =
      taken_or_not (λ past. MoreSo (made start.notes) past.notes) (refusal k (Packet c number bytes) start) (packet_of k c (kind_of number) bytes start) start
      (λ taken. packet_of_kinds (λ l. MoreSo (made start.notes) l) k c is_submission bytes start (inl refl) (request_makes k c start) (kind_of number) is) (inl refl)
  packet_makes c number bytes false is = quiet_makes (Packet c number bytes) is

  makes : (s : Step) → MoreSo (made start.notes) (step k s start).notes
  makes (Packet c number bytes) = packet_makes c number bytes (is_one_of is_submission (kind_of number)) refl
  makes s = quiet_makes s refl

  -- ---- what is answered

  names_job : (n : ℕ) (after : Past) → History k after.notes → MoreSo (made start.notes) after.notes
      → (made_since (made start.notes) (made after.notes) ≡ Some n → IsMadeBy n start after) × (IsMadeBy n start after → made_since (made start.notes) (made after.notes) ≡ Some n)
  names_job n after h (inl same) =
      let none : made_since (made start.notes) (made after.notes) ≡ None =
      let all : (length (made after.notes) == length (made start.notes)) ≡ true = ap (λ l. length l == length (made start.notes)) same ∙ same_number (length (made start.notes)) in
      ap (λ t. cond t None (newest (made after.notes))) all in (
        (λ e. let bad : None ≡ Some n = sym none ∙ e in let worse : ⊥ = cc in absurd worse),
        λ m. absurd (both_not (was_made n after.notes) m.1 (ap (is_in n) same ∙ m.0)),
      )
  names_job n after h (inr (m, more)) =
      let apart = made_apart k (made after.notes) (numbers k after.notes h) in
      let some : made_since (made start.notes) (made after.notes) ≡ Some m =
      let longer : (length (made after.notes) == length (made start.notes)) ≡ false = ap (λ l. length l == length (made start.notes)) more ∙ one_longer (length (made start.notes)) in
      ap (λ t. cond t None (newest (made after.notes))) longer ∙ ap newest more in (
        (λ e. by (same_Some m n (sym some ∙ e)) (subst AreApart more apart)),
        λ x. some ∙ ap Some (it (m == n) refl x (subst AreApart more apart)),
      )
    where
      one_longer : (l : ℕ) → (suc l == l) ≡ false
      one_longer l = grind (arith, nat_tests)

      by : m ≡ n → AreApart (m ∷ made start.notes) → IsMadeBy n start after
      by same a = (
        subst (λ x. was_made x start.notes ≡ false) same a.0,
        subst (λ l. is_in n l ≡ true) (sym more) (or_left (m == n) (is_in n (made start.notes)) (subst (λ x. (m == x) ≡ true) same (same_number m))),
      )

      it : (t : Bool) → (m == n) ≡ t → IsMadeBy n start after → AreApart (m ∷ made start.notes) → m ≡ n
      it true is x a = eqb-true m n is
      it false is x a =
          let there : ((m == n) || is_in n (made start.notes)) ≡ true = subst (λ l. is_in n l ≡ true) more x.1 in
          absurd (both_not (is_in n (made start.notes)) (sym (ap (λ t. t || is_in n (made start.notes)) is) ∙ there) x.0)

  -- the slot
  opened_at : (c d : ℕ) (addr : List ℕ) (t : Bool) → (c == d) ≡ t → is_open c start.notes ≡ false → unwrap_or (cond t (Some true) None) (is_open c start.notes) ≡ true → d ≡ c
  opened_at c d addr true is shut e = sym (eqb-true c d is)
  opened_at c d addr false is shut e = absurd (both_not (is_open c start.notes) e shut)

  opens_it : (addr : List ℕ) (o : Option ℕ) → free_slot k start ≡ o → (c : ℕ) → (o ≡ Some c → IsOpenedBy c start (opening o addr start)) × (IsOpenedBy c start (opening o addr start) → o ≡ Some c)
  opens_it addr None is c = ((λ e. absurd cc), λ x. absurd (both_not (is_open c start.notes) x.1 x.0))
  opens_it addr (Some d) is c = (
    (λ e. subst (λ x. IsOpenedBy x start (opening (Some d) addr start)) (same_Some d c e) ((free_is 0 k.slots start.notes d is).1, rw (same_number d) refl)),
    λ x. ap Some (opened_at c d addr (c == d) refl x.0 x.1),
  )

  names_slot : (s : Step) → refusal k s start ≡ None → (c : ℕ) → (given_slot k s start ≡ Some c → IsOpenedBy c start (step k s start)) × (IsOpenedBy c start (step k s start) → given_slot k s start ≡ Some c)
  names_slot (Open addr) taken c =
      subst (λ after. (free_slot k start ≡ Some c → IsOpenedBy c start after) × (IsOpenedBy c start after → free_slot k start ≡ Some c)) (sym (ap (λ o. unless o (opening (free_slot k start) addr start) start) taken))
      (opens_it addr (free_slot k start) refl c)
  names_slot s taken c = (
    (λ e. absurd cc),
    λ x. from (opens k s start history c x.1) (λ was. absurd (both_not (is_open c start.notes) was x.0)) (λ o. absurd (let bad = o.1 in cc)),
  )

pub answers_name : (k : Settings) (steps : List Step) (s : Step) → AnswersNameWhatIsNew k (run k steps) s (run k (s ∷ steps))
answers_name k steps s taken =
    let start = run k steps in
    let h = run_history k steps in
    let does : step k s start ≡ add k s start = ap (λ o. unless o (add k s start) start) taken in (
      names_slot k start h s taken,
      λ n. subst (λ after. (made_since (made start.notes) (made after.notes) ≡ Some n → IsMadeBy n start (step k s start)) × (IsMadeBy n start (step k s start) → made_since (made start.notes) (made after.notes) ≡ Some n)) does
          (names_job k start h n (step k s start) (run_history k (s ∷ steps)) (makes k start h s)),
    )
