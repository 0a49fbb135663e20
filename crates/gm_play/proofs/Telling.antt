-- Slots that are told of one after another.
use Rattle.std.proofs.Common.{◌≡◌, ◌<◌, ◌≤◌, ◌+◌, ℕ, zero, suc, arith, Bool, true, false, not, ◌&&◌, List, [], ◌∷◌, ◌++◌, length, get_or, set, Option, Some, None, Result, Ok, Err, refl, sym, ap, ap₂, subst, ◌∙◌, append_assoc, append-nil, length-set}
use Rattle.std.specs.Prelude.{if◌then◌else◌}
use Rattle.std.proofs.Math.Numerals.{add-one}
use Rattle.gm_feeder.specs.declared.units.Limits.{Limits}
use Rattle.gm_packet.specs.Answers.{noop, answer_packet}
use Rattle.gm_notes.specs.declared.event.ApplyError.{ApplyError}
use Rattle.gm_notes.specs.declared.event.ApplyError.TheVariants.{NotOpen, NotOwed}
use Rattle.gm_notes.specs.Settings.{Settings}
use Rattle.gm_notes.specs.Notes.{is_open, phase, is_owed}
use Rattle.gm_notes.specs.Flow.{waiting}
use Rattle.gm_notes.specs.Past.{Past}
use Rattle.gm_notes.specs.Steps.{Step, Drain, Took, refusal, unless}
use Rattle.gm_notes.specs.Steps.{add, run}
use Rattle.gm_notes.specs.Servers.{is_closing, owes}
use Rattle.gm_front.specs.declared.front.Front.{Front}
use Rattle.gm_front.specs.declared.input.Stepped.{Stepped}
use Rattle.gm_front.specs.Inputs.{Takes, Drains, Reading}
use Rattle.gm_front.specs.declared.input.StepError.{StepError}
use Rattle.gm_front.specs.declared.input.StepError.TheVariants.{Refused, Cut}
use Rattle.gm_front.specs.Fronts.{IsHeld, IsTaken, IsRefused, AnswersInput}
use Rattle.gm_play.specs.Prints.{bytes_text, shut_text, noop_if, took_if, told_of, drain_of, told, drained}
use Rattle.gm_play.specs.Players.{IsHeldSince, TakesNoop, TellsOne, TellsAll}

-- a drain is never refused
pub drains : {S : Type 0} (agrees : S → Settings → List Step → Type 0) (k : Settings) (limits : Limits) (reading : Reading) (c : ℕ) (result : Result Stepped StepError) (front : Front S)
    → ((stepped : Stepped) → result ≡ Ok stepped → ⊥) → AnswersInput agrees k limits (Drains c) reading result front → ⊥
drains agrees k limits reading c (Ok stepped) front refused answered = refused stepped refl
drains agrees k limits reading c (Err (Refused error)) front refused answered = absurd (let wrong : None ≡ Some error = answered.stands in cc)
drains agrees k limits reading c (Err (Cut units)) front refused answered = answered

-- ---- the NOOP

owed_if : (o w : Bool) → (if o then (if w then None else Some NotOwed) else Some NotOpen) ≡ None → (o && w) ≡ true
owed_if true true e = refl
owed_if true false e = absurd cc
owed_if false w e = absurd cc

not_owed_if : (o w : Bool) (refused : ApplyError) → (if o then (if w then None else Some NotOwed) else Some NotOpen) ≡ Some refused → (o && w) ≡ false
not_owed_if true true refused e = absurd cc
not_owed_if true false refused e = refl
not_owed_if false w refused e = refl

pub takes : {S : Type 0} (agrees : S → Settings → List Step → Type 0) (k : Settings) (limits : Limits) (reading : Reading) (c : ℕ) (out out' : List ℕ) (stepped : Stepped) (front : Front S)
    → IsTaken agrees k limits (Takes c) reading stepped front → out' ≡ out ++ answer_packet noop → TakesNoop agrees k limits reading c out front out'
takes agrees k limits reading c out out' stepped front t said =
    let owed : owes c (run k reading.steps) ≡ true = owed_if (is_open c (run k reading.steps).notes) (is_owed (phase c (run k reading.steps).notes)) t.stands in
    record {
      held =
          subst (λ (b : Bool). IsHeld agrees k limits (record reading { steps = took_if b c reading.steps }) front) (sym owed)
          (subst (λ (r : Reading). IsHeld agrees k limits r front) t.adds t.held);
      printed = subst (λ (b : Bool). out' ≡ out ++ noop_if b) (sym owed) said;
    }

takes_none : {S : Type 0} (agrees : S → Settings → List Step → Type 0) (k : Settings) (limits : Limits) (reading : Reading) (c : ℕ) (out : List ℕ) (refused : ApplyError) (front : Front S)
    → IsRefused agrees k limits (Takes c) reading refused front → TakesNoop agrees k limits reading c out front out
takes_none agrees k limits reading c out refused front t =
    let unowed : owes c (run k reading.steps) ≡ false = not_owed_if (is_open c (run k reading.steps).notes) (is_owed (phase c (run k reading.steps).notes)) refused t.stands in
    record {
      held = subst (λ (b : Bool). IsHeld agrees k limits (record reading { steps = took_if b c reading.steps }) front) (sym unowed) t.held;
      printed = subst (λ (b : Bool). out ≡ out ++ noop_if b) (sym unowed) (sym (append-nil out));
    }

pub takes_not : {S : Type 0} (agrees : S → Settings → List Step → Type 0) (k : Settings) (limits : Limits) (reading : Reading) (c : ℕ) (out : List ℕ) (error : StepError) (front : Front S)
    → AnswersInput agrees k limits (Takes c) reading (Err error) front → TakesNoop agrees k limits reading c out front out
takes_not agrees k limits reading c out (Refused refused) front a = takes_none agrees k limits reading c out refused front a
takes_not agrees k limits reading c out (Cut units) front a = absurd a

-- ---- one slot

-- an open slot is drained, and told of
pub tells : {S : Type 0} (agrees : S → Settings → List Step → Type 0) (k : Settings) (limits : Limits) (reading : Reading) (c : ℕ) (shut shut' : Bool) (out out' out'' drained' : List ℕ) (stepped : Stepped) (mid front : Front S)
    → is_open c (run k reading.steps).notes ≡ true → shut' ≡ is_closing c (run k reading.steps) → IsTaken agrees k limits (Drains c) reading stepped mid
    → ((reading : Reading) → IsHeld agrees k limits reading mid → TakesNoop agrees k limits reading c stepped.drained.bytes front drained')
    → out' ≡ out ++ bytes_text c drained' → out'' ≡ out' ++ shut_text c (shut' && not shut) → TellsOne agrees k limits reading c shut out front shut' out''
tells agrees k limits reading c shut shut' out out' out'' drained' stepped mid front opened closing t takes said told =
    let past : Past = run k reading.steps in
    let noop = takes (record reading { steps = Drain c ∷ reading.steps }) (subst (λ (r : Reading). IsHeld agrees k limits r mid) t.adds t.held) in
    let bytes : drained' ≡ waiting c past.flow ++ noop_if (owes c past) = noop.printed ∙ ap (λ (l : List ℕ). l ++ noop_if (owes c past)) t.drained in
    let text : List ℕ = bytes_text c (waiting c past.flow ++ noop_if (owes c past)) ++ shut_text c (is_closing c past && not shut) in
    let says : told_of c shut past ≡ text = rw opened refl in
    let same : drain_of k c reading.steps ≡ took_if (owes c past) c (Drain c ∷ reading.steps) = rw opened refl in
    record {
      held = subst (λ (s : List Step). IsHeld agrees k limits (record reading { steps = s }) front) (sym same) noop.held;
      printed =
          told
          ∙ (ap₂ (λ (l m : List ℕ). l ++ m) (said ∙ ap (λ (b : List ℕ). out ++ bytes_text c b) bytes) (ap (λ (b : Bool). shut_text c (b && not shut)) closing)
          ∙ (append_assoc out (bytes_text c (waiting c past.flow ++ noop_if (owes c past))) (shut_text c (is_closing c past && not shut)) ∙ ap (λ (l : List ℕ). out ++ l) (sym says)));
      told = closing;
    }

-- ---- drains shut nothing

took_closing : (r : Option ApplyError) (k : Settings) (c d : ℕ) (past : Past) → is_closing d (unless r (add k (Took c) past) past) ≡ is_closing d past
took_closing None k c d past = refl
took_closing (Some refused) k c d past = refl

took_if_closing : (b : Bool) (k : Settings) (c d : ℕ) (steps : List Step) → is_closing d (run k (took_if b c (Drain c ∷ steps))) ≡ is_closing d (run k steps)
took_if_closing true k c d steps = took_closing (refusal k (Took c) (run k (Drain c ∷ steps))) k c d (run k (Drain c ∷ steps))
took_if_closing false k c d steps = refl

drain_closing_by : (o : Bool) (k : Settings) (c d : ℕ) (steps : List Step) → is_closing d (run k (if o then took_if (owes c (run k steps)) c (Drain c ∷ steps) else steps)) ≡ is_closing d (run k steps)
drain_closing_by true k c d steps = took_if_closing (owes c (run k steps)) k c d steps
drain_closing_by false k c d steps = refl

drain_closing : (k : Settings) (c d : ℕ) (steps : List Step) → is_closing d (run k (drain_of k c steps)) ≡ is_closing d (run k steps)
drain_closing k c d steps = drain_closing_by (is_open c (run k steps).notes) k c d steps

-- ---- all slots

-- what holds of each slot holds still once one is told of, of which it holds
each_set : (P : ℕ → Bool → Type 0) (slots : List Bool) (i : ℕ) (b : Bool) → i < length slots → ((d : ℕ) → d < length slots → (d ≡ i → ⊥) → P d (get_or slots d false)) → P i b
    → (d : ℕ) → d < length (set slots i b) → P d (get_or (set slots i b) d false)
each_set P [] i b lt h g d near = absurd (omega arith)
each_set P (x ∷ slots) zero b lt h g zero near = g
each_set P (x ∷ slots) zero b lt h g (suc d) near = h (suc d) near (λ e. absurd (omega (arith, e)))
each_set P (x ∷ slots) (suc i) b lt h g zero near = h zero (omega arith) (λ e. absurd (omega (arith, e)))
each_set P (x ∷ slots) (suc i) b lt h g (suc d) near =
    each_set (λ e. P (suc e)) slots i b (omega arith) (λ e lt' differs. h (suc e) (omega (arith, lt')) (λ same. differs (omega (arith, same)))) g d (omega (arith, near))

-- The slots before i were told of; what is still to be printed and drained completes the whole.
pub record Telling {S : Type 0} (agrees : S → Settings → List Step → Type 0) (k : Settings) (limits : Limits) (before : Past) (reading : Reading) (out : List ℕ) (i : ℕ) (front : Front S) (slots : List Bool) (now_out : List ℕ) : Type 0 where
  pub now : List Step
  pub left : ℕ
  pub count : left + i ≡ k.slots
  pub slots_count : length slots ≡ k.slots
  pub held : IsHeld agrees k limits (record reading { steps = now }) front
  pub new_told : (c : ℕ) → c < length slots → c < i → get_or slots c false ≡ is_closing c (run k now)
  pub old_told : (c : ℕ) → c < length slots → i ≤ c → get_or slots c false ≡ is_closing c before
  pub printed : now_out ++ told k before i left now ≡ out ++ told k before 0 k.slots reading.steps
  pub drains : drained k i left now ≡ drained k 0 k.slots reading.steps

pub begins : {S : Type 0} (agrees : S → Settings → List Step → Type 0) (k : Settings) (limits : Limits) (before : Past) (reading : Reading) (out : List ℕ) (front : Front S) (slots : List Bool)
    → IsHeldSince agrees k limits before reading front slots → Telling agrees k limits before reading out 0 front slots out
begins agrees k limits before reading out front slots h =
    record {
      now = reading.steps;
      left = k.slots;
      count = omega arith;
      slots_count = h.count;
      held = h.held;
      new_told = λ c near lt. absurd (omega (arith, lt));
      old_told = λ c near le. h.told_so c near;
      printed = refl;
      drains = refl;
    }

ends_by : {S : Type 0} (left : ℕ) (agrees : S → Settings → List Step → Type 0) (k : Settings) (limits : Limits) (before : Past) (reading : Reading) (out : List ℕ) (i : ℕ) (front : Front S) (slots : List Bool) (now_out : List ℕ)
    (t : Telling agrees k limits before reading out i front slots now_out) → t.left ≡ left → length slots ≤ i → TellsAll agrees k limits before reading out front slots now_out
ends_by zero agrees k limits before reading out i front slots now_out t e le =
    let text : now_out ++ told k before i 0 t.now ≡ out ++ told k before 0 k.slots reading.steps = subst (λ (n : ℕ). now_out ++ told k before i n t.now ≡ out ++ told k before 0 k.slots reading.steps) e t.printed in
    let steps : t.now ≡ drained k 0 k.slots reading.steps = subst (λ (n : ℕ). drained k i n t.now ≡ drained k 0 k.slots reading.steps) e t.drains in
    record {
      printed = sym (append-nil now_out) ∙ text;
      ready = record {
        held = subst (λ (s : List Step). IsHeld agrees k limits (record reading { steps = s }) front) steps t.held;
        count = t.slots_count;
        told_so = λ c near.
            subst (λ (s : List Step). get_or slots c false ≡ is_closing c (run k s)) steps (t.new_told c near (omega (arith, near, le)));
      };
    }
ends_by (suc left) agrees k limits before reading out i front slots now_out t e le = absurd (omega (arith, e, t.count, t.slots_count, le))

pub ends : {S : Type 0} (agrees : S → Settings → List Step → Type 0) (k : Settings) (limits : Limits) (before : Past) (reading : Reading) (out : List ℕ) (i : ℕ) (front : Front S) (slots : List Bool) (now_out : List ℕ)
    → Telling agrees k limits before reading out i front slots now_out → length slots ≤ i → TellsAll agrees k limits before reading out front slots now_out
ends agrees k limits before reading out i front slots now_out t le = ends_by t.left agrees k limits before reading out i front slots now_out t refl le

one_by : {S : Type 0} (left : ℕ) (agrees : S → Settings → List Step → Type 0) (k : Settings) (limits : Limits) (before : Past) (reading : Reading) (out : List ℕ) (i : ℕ) (front front' : Front S) (slots : List Bool) (now_out new_out : List ℕ) (shut shut' : Bool)
    (t : Telling agrees k limits before reading out i front slots now_out) → t.left ≡ left → i < length slots → get_or slots i false ≡ shut → TellsOne agrees k limits (record reading { steps = t.now }) i shut now_out front' shut' new_out
    → Telling agrees k limits before reading out (suc i) front' (set slots i shut') new_out
one_by zero agrees k limits before reading out i front front' slots now_out new_out shut shut' t e lt is one = absurd (omega (arith, e, t.count, lt, t.slots_count))
one_by (suc left) agrees k limits before reading out i front front' slots now_out new_out shut shut' t e lt is one =
    let next : List Step = drain_of k i t.now in
    let was : shut ≡ is_closing i before = sym is ∙ t.old_told i lt (omega arith) in
    let text : List ℕ = told_of i (is_closing i before) (run k t.now) in
    record {
      now = next;
      left = left;
      count = omega (arith, e, t.count);
      slots_count = length-set slots i shut' ∙ t.slots_count;
      held = one.held;
      new_told =
          each_set (λ (d : ℕ) (b : Bool). d < suc i → b ≡ is_closing d (run k next)) slots i shut' lt
          (λ d near differs h. t.new_told d near (omega (arith, h, differs)) ∙ sym (drain_closing k i d t.now)) (λ h. one.told ∙ sym (drain_closing k i i t.now));
      old_told =
          each_set (λ (d : ℕ) (b : Bool). suc i ≤ d → b ≡ is_closing d before) slots i shut' lt
          (λ d near differs h. t.old_told d near (omega (arith, h))) (λ h. absurd (omega (arith, h)));
      printed =
          ap (λ (l : List ℕ). l ++ told k before (suc i) left next) (one.printed ∙ ap (λ (b : Bool). now_out ++ told_of i b (run k t.now)) was)
          ∙ (append_assoc now_out text (told k before (suc i) left next) ∙ (ap (λ (n : ℕ). now_out ++ told k before i n t.now) (sym e) ∙ t.printed));
      drains = ap (λ (n : ℕ). drained k i n t.now) (sym e) ∙ t.drains;
    }

pub one_more : {S : Type 0} (agrees : S → Settings → List Step → Type 0) (k : Settings) (limits : Limits) (before : Past) (reading : Reading) (out : List ℕ) (i : ℕ) (front front' : Front S) (slots : List Bool) (now_out new_out : List ℕ) (shut shut' : Bool)
    (t : Telling agrees k limits before reading out i front slots now_out) → i < length slots → get_or slots i false ≡ shut → TellsOne agrees k limits (record reading { steps = t.now }) i shut now_out front' shut' new_out
    → Telling agrees k limits before reading out (i + 1) front' (set slots i shut') new_out
one_more agrees k limits before reading out i front front' slots now_out new_out shut shut' t lt is one =
    rw add-one (one_by t.left agrees k limits before reading out i front front' slots now_out new_out shut shut' t refl lt is one)
