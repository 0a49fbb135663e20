-- Job servers with one contract answer alike.
use Rattle.std.proofs.Common.{◌≡◌, ◌⊎◌, inl, inr, false, List, Option, Some, None, Result, Ok, Err, refl, sym, ap, subst, ◌∙◌}
use Rattle.std.specs.Result.{IsErrOf}
use Rattle.std.proofs.lemmas.Option.{same_Some}
use Rattle.gm_notes.specs.declared.event.Event.{Event}
use Rattle.gm_notes.specs.declared.event.Event.TheVariants as events
use Rattle.gm_notes.specs.declared.event.Done.{Done}
use Rattle.gm_notes.specs.declared.event.ApplyError.{ApplyError}
use Rattle.gm_notes.specs.declared.event.ApplyError.TheVariants.{Memory, NotOpen, NoSlot, NotOwed, Refusing}
use Rattle.gm_notes.specs.Settings.{Settings}
use Rattle.gm_notes.specs.Steps.{Step, refusal, run}
use Rattle.gm_notes.specs.Servers.{step_of, IsRefusal, AnswersAt, NeedsNoMemory}
use Rattle.gm_history.specs.Causes.{is_close}
use Rattle.gm_laws.specs.Answering.{MayAnswer, LacksMemory, step_said, ServersAnswerAlike}

-- a refusal is of memory, where the step would be taken, or the step's own
abbrev IsOwn : ApplyError → Option ApplyError → Type 0
IsOwn error stands = ((error ≡ Memory) × (stands ≡ None)) ⊎ (stands ≡ Some error)

own : (error : ApplyError) (stands : Option ApplyError) → IsRefusal error stands → IsOwn error stands
own Memory stands e = inl (refl, e)
own NotOpen stands e = inr e
own NoSlot stands e = inr e
own NotOwed stands e = inr e
own Refusing stands e = inr e

never : (error : ApplyError) (stands : Option ApplyError) → stands ≡ None → stands ≡ Some error → ⊥
never error stands none some = let bad : Some error ≡ None = sym some ∙ none in let worse : ⊥ = cc in worse

no_closing : (event : Event) (error : ApplyError) → error ≡ Memory → (NeedsNoMemory event → IsErrOf (let answer : Result Done ApplyError = Err error in answer) Memory → ⊥) → is_close (step_of event) ≡ false
no_closing (events.Open addr) error is free = refl
no_closing (events.Packet slot kind bytes) error is free = refl
no_closing (events.Line slot bytes) error is free = refl
no_closing (events.Fault slot fault) error is free = refl
no_closing (events.Close slot) error is free = absurd (free tt (ap Err is))
no_closing (events.Tick now) error is free = refl

lacks : (event : Event) (error : ApplyError) (answer : Done) → error ≡ Memory → (NeedsNoMemory event → IsErrOf (let answer : Result Done ApplyError = Err error in answer) Memory → ⊥) → LacksMemory (step_of event) (Err error) (Ok answer)
lacks event error answer is free = subst (λ e. LacksMemory (step_of event) (Err e) (Ok answer)) (sym is) (no_closing event error is free)

same_refusal : (one other : ApplyError) (stands : Option ApplyError) → IsOwn one stands → IsOwn other stands → one ≡ other
same_refusal one other stands (inl a) (inl b) = a.0 ∙ sym b.0
same_refusal one other stands (inl a) (inr b) = absurd (never other stands a.1 b)
same_refusal one other stands (inr a) (inl b) = absurd (never one stands b.1 a)
same_refusal one other stands (inr a) (inr b) = same_Some one other (sym a ∙ b)

memory_only : (error : ApplyError) (stands : Option ApplyError) → stands ≡ None → IsOwn error stands → error ≡ Memory
memory_only error stands none (inl a) = a.0
memory_only error stands none (inr b) = absurd (never error stands none b)

alike : (k : Settings) (steps : List Step) (event : Event) (one other : Result Done ApplyError) → MayAnswer k steps event one → MayAnswer k steps event other
    → (one ≡ other) ⊎ (LacksMemory (step_of event) one other ⊎ LacksMemory (step_of event) other one)
alike k steps event (Ok a) (Ok b) p q = inl (ap Ok (p.0.1 ∙ sym q.0.1))
alike k steps event (Ok a) (Err e) p q =
    let stands = refusal k (step_of event) (run k steps) in
    inr (inr (lacks event e a (memory_only e stands p.0.0 (own e stands q.0)) q.1))
alike k steps event (Err e) (Ok b) p q =
    let stands = refusal k (step_of event) (run k steps) in
    inr (inl (lacks event e b (memory_only e stands q.0.0 (own e stands p.0)) p.1))
alike k steps event (Err e) (Err d) p q =
    let stands = refusal k (step_of event) (run k steps) in
    inl (ap Err (same_refusal e d stands (own e stands p.0) (own d stands q.0)))

alike_at : (k : Settings) (steps : List Step) (s : Step) (one other : Result (Unit {0}) ApplyError) → AnswersAt k steps s one → AnswersAt k steps s other → one ≡ other
alike_at k steps s (Ok a) (Ok b) p q = refl
alike_at k steps s (Ok a) (Err e) p q = absurd (never e (refusal k s (run k steps)) p q)
alike_at k steps s (Err e) (Ok b) p q = absurd (never e (refusal k s (run k steps)) q p)
alike_at k steps s (Err e) (Err d) p q = ap Err (same_Some e d (sym p ∙ q))

said : (event : Event) → step_of event ≡ step_said event
said (events.Open addr) = refl
said (events.Packet slot kind bytes) = refl
said (events.Line slot bytes) = refl
said (events.Fault slot fault) = refl
said (events.Close slot) = refl
said (events.Tick now) = refl

pub alike_all : ServersAnswerAlike
alike_all = record {
  events = alike;
  said = said;
  noops = alike_at;
  taken = λ steps s answer. refl;
  refused = λ steps s error. refl;
  noop_taken = λ steps s answer. refl;
  noop_refused = λ steps s error. refl;
}
