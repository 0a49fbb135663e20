-- Nobody is told twice.
use Rattle.std.proofs.Common.{◌≡◌, inl, inr, ℕ, ◌<◌, ◌^◌, Bool, true, false, cond, List, ◌∷◌, ◌++◌, drop, Some, None, Ok, sym, ap, subst, ◌∙◌}
use Rattle.std.proofs.lemmas.Option.{same_Some}
use Rattle.std.proofs.lemmas.List.{append_cancel_right}
use Rattle.gm_packet.specs.declared.kind.Kind.{Kind}
use Rattle.gm_packet.specs.declared.kind.Kind.TheVariants.{WorkComplete, WorkFail, WorkException}
use Rattle.gm_packet.specs.Packets.{packet}
use Rattle.gm_packet.specs.Requests.{Asked, request_of}
use Rattle.gm_packet.specs.Answers.{Answer, answer_packet, work_complete, work_fail, work_exception}
use Rattle.gm_notes.specs.declared.note.Note.{Note}
use Rattle.gm_notes.specs.Settings.{Settings}
use Rattle.gm_notes.specs.Jobs.{job_state, handle}
use Rattle.gm_notes.specs.JobStates.{JobState, is_running}
use Rattle.gm_notes.specs.JobStates as states
use Rattle.gm_notes.specs.Workers.{wants_exceptions}
use Rattle.gm_notes.specs.Requests.{second}
use Rattle.gm_notes.specs.Steps.{Step, Packet, Tick, run}
use Rattle.gm_history.specs.Causes.{IsOfEnd, is_ending}
use Rattle.gm_laws.specs.Laws.{is_gone}
use Rattle.gm_history.specs.Hearing.{passed_on}
use Rattle.gm_laws.specs.Listeners.{TellsEnd, Tells, NobodyIsToldTwice}
use Rattle.gm_laws.proofs.Handles.{same_handle, fail_handle, placed_small}
use Rattle.gm_laws.proofs.JobLaws.{places, running_place, stay_gone}
use Rattle.gm_laws.proofs.OnlyEnds.{only_ends}
use Rattle.gm_history.proofs.StepsKeep.{run_history}

-- a WORK_COMPLETE says its handle, where the data are the same
complete_handle : (a b body : List ℕ) → answer_packet (work_complete a body) ≡ answer_packet (work_complete b body) → a ≡ b
unfolding packet
complete_handle a b body e = append_cancel_right a b (0 ∷ body) (ap (drop 12) e)

exception_handle : (a b body : List ℕ) → answer_packet (work_exception a body) ≡ answer_packet (work_exception b body) → a ≡ b
unfolding packet
exception_handle a b body e = append_cancel_right a b (0 ∷ body) (ap (drop 12) e)

-- who gets no exception gets this instead, where the exception ends the job
instead : (t : Bool) (fail answer : Answer) → t ≡ true → cond t (Some fail) None ≡ Some answer → fail ≡ answer
instead true fail answer set is = same_Some fail answer is
instead false fail answer set is = absurd cc

same_asked : (number : ℕ) (bytes : List ℕ) (a b : Asked) → request_of number bytes ≡ Ok a → request_of number bytes ≡ Ok b → a ≡ b
same_asked number bytes a b p q = cc

module _ (k : Settings) (n m : ℕ) where
  said_of_end : (wants : Bool) (kind : Kind) (a : List (List ℕ)) (answer : Answer) → is_ending k kind ≡ true → passed_on k wants n kind a ≡ Some answer → IsOfEnd k answer
  said_of_end wants WorkComplete a answer e is = inl (ap (λ (x : Answer). x.kind) (sym (same_Some (work_complete (handle k n) (second a)) answer is)))
  said_of_end wants WorkFail a answer e is = inr (inl (ap (λ (x : Answer). x.kind) (sym (same_Some (work_fail (handle k n)) answer is))))
  said_of_end true WorkException a answer e is = inr (inr (e, ap (λ (x : Answer). x.kind) (sym (same_Some (work_exception (handle k n) (second a)) answer is))))
  said_of_end false WorkException a answer e is = inr (inl (ap (λ (x : Answer). x.kind) (sym (instead k.as_gearmand (work_fail (handle k n)) answer e is))))
  said_of_end wants kind a answer e is = absurd cc

  of_end : (before : List Note) (c : ℕ) (s : Step) (answer : Answer) → TellsEnd k before c n s answer → IsOfEnd k answer
  of_end before c (Packet worker number bytes) answer t = said_of_end (wants_exceptions c before) t.0.kind t.0.arguments answer t.2 t.3
  of_end before c (Tick now) answer t = inr (inl (ap (λ (x : Answer). x.kind) t))
  of_end before c s answer t = absurd t

  same_said : (wants : Bool) (kind : Kind) (a : List (List ℕ)) (answer tells : Answer) → is_ending k kind ≡ true → passed_on k wants n kind a ≡ Some answer → passed_on k wants m kind a ≡ Some tells → answer_packet answer ≡ answer_packet tells
      → handle k n ≡ handle k m
  same_said true WorkException a answer tells e is are same =
      exception_handle (handle k n) (handle k m) (second a)
      (ap answer_packet (same_Some (work_exception (handle k n) (second a)) answer is) ∙ (same ∙ sym (ap answer_packet (same_Some (work_exception (handle k m) (second a)) tells are))))
  same_said false WorkException a answer tells e is are same =
      fail_handle (handle k n) (handle k m)
      (ap answer_packet (instead k.as_gearmand (work_fail (handle k n)) answer e is) ∙ (same ∙ sym (ap answer_packet (instead k.as_gearmand (work_fail (handle k m)) tells e are))))
  same_said wants WorkComplete a answer tells e is are same =
      complete_handle (handle k n) (handle k m) (second a)
      (ap answer_packet (same_Some (work_complete (handle k n) (second a)) answer is) ∙ (same ∙ sym (ap answer_packet (same_Some (work_complete (handle k m) (second a)) tells are))))
  same_said wants WorkFail a answer tells e is are same =
      fail_handle (handle k n) (handle k m) (ap answer_packet (same_Some (work_fail (handle k n)) answer is) ∙ (same ∙ sym (ap answer_packet (same_Some (work_fail (handle k m)) tells are))))
  same_said wants kind a answer tells e is are same = absurd cc

  -- what a step says of two ends in one packet is of one job
  same_told : (before : List Note) (c : ℕ) (s : Step) (answer tells : Answer) → TellsEnd k before c n s answer → TellsEnd k before c m s tells → answer_packet answer ≡ answer_packet tells → handle k n ≡ handle k m
  same_told before c (Packet worker number bytes) answer tells t u same =
      let asked : u.0 ≡ t.0 = same_asked number bytes u.0 t.0 u.1 t.1 in
      same_said (wants_exceptions c before) t.0.kind t.0.arguments answer tells t.2 t.3
      (subst (λ (x : Asked). passed_on k (wants_exceptions c before) m x.kind x.arguments ≡ Some tells) asked u.3) same
  same_told before c (Tick now) answer tells t u same = fail_handle (handle k n) (handle k m) (sym (ap answer_packet t) ∙ (same ∙ ap answer_packet u))
  same_told before c s answer tells t u same = absurd t

-- a step that tells of an end ends the job
tells_ends : (k : Settings) (c n : ℕ) (earlier : List Step) (s : Step) → n < 2 ^ 64 → Tells k c n earlier s
    → (is_running (job_state n (run k earlier).notes) ≡ true) × (job_state n (run k (s ∷ earlier)).notes ≡ states.Ended)
tells_ends k c n earlier s lt t =
    let o = only_ends k s earlier c t.2.0 t.0 t.2.1 (of_end k n n (run k earlier).notes c s t.0 t.1) t.2.2 in
    let small = placed_small k (run k earlier).notes o.0 (run_history k earlier) (running_place (job_state o.0 (run k earlier).notes) o.4) in
    let same : o.0 ≡ n = sym (same_handle k n o.0 lt small (same_told k n o.0 (run k earlier).notes c s t.0 o.1 t.1 o.3 o.2)) in
    (subst (λ x. is_running (job_state x (run k earlier).notes) ≡ true) same o.4, subst (λ x. job_state x (run k (s ∷ earlier)).notes ≡ states.Ended) same o.5)

ended_not : (s : JobState) → s ≡ states.Ended → is_running s ≡ true → ⊥
ended_not s is runs = let bad : is_running states.Ended ≡ true = subst (λ x. is_running x ≡ true) is runs in cc

pub told_once : NobodyIsToldTwice
told_once k c n earlier between one other there first again =
    let after = one ∷ earlier in
    let small = placed_small k (run k after).notes n (run_history k after) (places k (run k after).notes (run_history k after) n ∙ there) in
    let ended = (tells_ends k c n earlier one small first).1 in
    let still = stay_gone k between after n (ap is_gone ended) ∙ ended in
    ended_not (job_state n (run k (between ++ after)).notes) still (tells_ends k c n (between ++ after) other small again).0
