-- Connections' lives, of the histories that desks and pens have seen.
use Rattle.std.proofs.Common.{◌≡◌, ℕ, ℤ, ◌+◌, ◌*◌, ◌<◌, ◌≤◌, Bool, true, false, if◌then◌else◌, List, [], ◌∷◌, ◌++◌, length}
use Rattle.std.proofs.Common.{Option, Some, None, refl, sym, ap, ap₂, subst, ◌∙◌, arith, append_assoc, eq-eqb, eqb-true, ne_eqb}
use Rattle.std.specs.Prelude.{◌==◌, ◌&&◌, reverse, map, unwrap_or}
use Rattle.std.specs.List.{AllByRecursion as ByRecursion}
use Rattle.std.proofs.lemmas.List.{append-nil, reverse-append}
use Rattle.std.proofs.lemmas.List.Elements.{All-head, All-tail}
use Rattle.std.proofs.lemmas.Bool.{eqb-false}
use Rattle.gm_feeder.specs.declared.units.Limits.{Limits}
use Rattle.gm_feeder.specs.Units.{Item, APacket, ALine}
use Rattle.gm_front.specs.Units.{step_of_unit, fault_steps, steps_of as steps_of_units}
use Rattle.gm_notes.specs.declared.event.UnitFault.{UnitFault}
use Rattle.gm_notes.specs.declared.states.Mode.{Mode}
use Rattle.gm_notes.specs.declared.states.Mode.TheVariants.{Running, Graceful, Stopped}
use Rattle.gm_notes.specs.declared.note.Note.{Note}
use Rattle.gm_notes.specs.declared.note.Note.TheVariants as notes
use Rattle.gm_notes.specs.Settings.{Settings}
use Rattle.gm_notes.specs.Notes.{is_open, is_asleep, mode, phase}
use Rattle.gm_notes.specs.Flow.{sent, waiting}
use Rattle.gm_notes.specs.Past.{Past as PastOf, with_note}
use Rattle.gm_notes.specs.Closings.{close, disconnect, discard_each, rising}
use Rattle.gm_notes.specs.Steps.{Step, Open, Packet, Line, Fault, Close, Tick, Took, Withdrew, Drain, if_accepted, refusal, unless, add, opening, free_slot}
use Rattle.gm_notes.proofs.FreeSlots.{free_is}
use Rattle.gm_history.specs.History.{History}
use Rattle.gm_history.proofs.Bytes.{inner_open, close_closes, same_slot}
use Rattle.gm_history.proofs.Keeping.{Keeps}
use Rattle.gm_history.proofs.StepsKeep.{add_keeps, discard_each_keeps, give_back_each_keeps, gone_keeps, run_history, takes_open, units_open}
use Rattle.gm_shared.specs.declared.tape.Actor.{Actor}
use Rattle.gm_shared.specs.declared.tape.Actor.TheVariants.{Desk, Pen}
use Rattle.gm_shared.specs.declared.tape.TapeStep.{TapeStep}
use Rattle.gm_shared.specs.declared.tape.TapeStep.TheVariants as tape
use Rattle.gm_shared.specs.declared.tape.Answer.{Answer}
use Rattle.gm_shared.specs.declared.tape.Answer.TheVariants as answers
use Rattle.gm_shared.specs.declared.tape.Entry.{Entry}
use Rattle.gm_shared.specs.Events.{slot_of}
use Rattle.gm_shared.specs.Tapes.{actor_code, step_in, steps_of, answer_to, is_drain_of, Legal}
use Rattle.gm_shared.specs.Histories.{entry_owner, Knows}
use Rattle.gm_shared.specs.Openings.{if_one_more, opened_by, openings}
use Rattle.gm_shared.specs.Calls.{events_in, events_of, past_of}
use Rattle.gm_ghost.proofs.Logs.{entries_known}
use Rattle.gm_shared.proofs.Sharing.{events_of_more}
use Rattle.gm_session.specs.declared.heard.Heard.{Heard}
use Rattle.gm_session.specs.Hearings.{AreHeard}
use Rattle.gm_session.specs.Sessions.{Adds}
use Rattle.gm_session.specs.declared.talk.Reading.{Reading}
use Rattle.gm_session.specs.declared.talk.Reading.TheVariants.{Goes, Drops, Ended}
use Rattle.gm_session.specs.Talks.{TalkingState, IsTalking, IsTalkingBy, GoesThrough, FitsSocket as HeardFits, WentThrough as HeardThrough}
use Rattle.gm_delivery.specs.declared.account.Past.{Past}
use Rattle.gm_delivery.specs.Accounts.{bytes_in, drains_at, drains_in, ArePast, AreOver, WentThrough}
use Rattle.gm_delivery.proofs.Accounting.{none_drained}
use Rattle.gm_slots.specs.Owners.{is_own, AreOwn, says, said_at}
use Rattle.gm_slots.specs.Given.{if_opened, given_by, given, GivenSo}
use Rattle.gm_slots.specs.Connections.{joined, sent_at, left_at, said_since, AreHandedIn, AreSent, FitsSocket, FitSockets, WentThroughOne, AreServed}
use Rattle.gm_slots.proofs.Owning.{said_own, drain_own}
use Rattle.gm_slots.proofs.Given.{all_given}
use Rattle.gm_notes.proofs.Numbers.{same_number}

-- ---- what a pen gave at an opening

-- the bytes that the pen of slot c was given when the slot had been opened n times, in the order in which it was
abbrev given_at : ℕ → ℕ → List Entry → List ℕ
given_at n c [] = []
given_at n c (e ∷ older) = given_at n c older ++ (if 2 * c + 1 == actor_code e.actor then (if openings c older == n then bytes_in e.answer else []) else [])

joined_drains : (n c : ℕ) (log : List Entry) → joined (drains_at n c log) ≡ given_at n c log
joined_drains n c [] = refl
joined_drains n c (e ∷ older) = by (2 * c + 1 == actor_code e.actor) (openings c older == n) (joined_drains n c older)
  where
    by : (own now : Bool) → joined (drains_at n c older) ≡ given_at n c older
        → joined (if own && now then bytes_in e.answer ∷ drains_at n c older else drains_at n c older) ≡ given_at n c older ++ (if own then (if now then bytes_in e.answer else []) else [])
    by true true rest = ap (λ l. l ++ bytes_in e.answer) rest
    by true false rest = rest ∙ sym (append-nil (given_at n c older))
    by false now rest = rest ∙ sym (append-nil (given_at n c older))

more_or_same : (c n : ℕ) (o : Option ℕ) → n ≤ if_one_more c o n
more_or_same c n None = omega arith
more_or_same c n (Some d) = by (c == d)
  where
    by : (t : Bool) → n ≤ (if t then n + 1 else n)
    by true = omega arith
    by false = omega arith

grows : (c n : ℕ) (s : TapeStep) (a : Answer) → n ≤ opened_by c s a n
grows c n (tape.Open addr) (answers.Done done) = more_or_same c n done.opened
grows c n s a = omega arith

-- an entry that isn't of slot c's pen gives nothing
module _ (n c : ℕ) (e : Entry) (older : List Entry) where
  of_another : (2 * c + 1 == actor_code e.actor) ≡ false → given_at n c (e ∷ older) ≡ given_at n c older
  of_another other = ap (λ (b : Bool). given_at n c older ++ (if b then (if openings c older == n then bytes_in e.answer else []) else [])) other ∙ append-nil (given_at n c older)

  -- and what one gives at another opening
  at_another : (openings c older == n) ≡ false → given_at n c (e ∷ older) ≡ given_at n c older
  at_another other = by (2 * c + 1 == actor_code e.actor)
    where
      by : (t : Bool) → given_at n c older ++ (if t then (if openings c older == n then bytes_in e.answer else []) else []) ≡ given_at n c older
      by true = ap (λ (b : Bool). given_at n c older ++ (if b then bytes_in e.answer else [])) other ∙ append-nil (given_at n c older)
      by false = append-nil (given_at n c older)

  of_its_pen : (2 * c + 1 == actor_code e.actor) ≡ true → (openings c older == n) ≡ true → given_at n c (e ∷ older) ≡ given_at n c older ++ bytes_in e.answer
  of_its_pen own now =
      ap (λ (b : Bool). given_at n c older ++ (if b then (if openings c older == n then bytes_in e.answer else []) else [])) own
      ∙ ap (λ (b : Bool). given_at n c older ++ (if b then bytes_in e.answer else [])) now

-- an opening that is to come gave nothing
none_yet : (n c : ℕ) (log : List Entry) → openings c log < n → given_at n c log ≡ []
none_yet n c [] less = refl
none_yet n c (e ∷ older) less =
    let before = grows c (openings c older) e.step e.answer in
    at_another n c e older (ne_eqb (openings c older) n (λ is. absurd (omega (arith, before, less, is)))) ∙ none_yet n c older (omega (arith, before, less))

same_code : (c d : ℕ) → (c == d) ≡ true → (2 * c + 1 == 2 * d + 1) ≡ true
same_code c d is = let same = eqb-true c d is in eq-eqb (2 * c + 1) (2 * d + 1) (omega arith)

other_code : (c d : ℕ) → (c == d) ≡ false → (2 * c + 1 == 2 * d + 1) ≡ false
other_code c d other = let apart = eqb-false c d other in ne_eqb (2 * c + 1) (2 * d + 1) (λ is. apart (omega arith))

-- a step that is no drain isn't a pen's
not_pens : (c : ℕ) (actor : Actor) (step : TapeStep) → is_own actor step ≡ true → ((d : ℕ) → is_drain_of d step ≡ true → ⊥) → (2 * c + 1 == actor_code actor) ≡ false
not_pens c (Desk n) step own still = ne_eqb (2 * c + 1) (2 * n) (λ is. absurd (omega arith))
not_pens c (Pen n) step own still = absurd (still n own)

-- What was given since the last opening is what the slot's pen was given at that.
module _ (c : ℕ) (e : Entry) (older : List Entry) (own : is_own e.actor e.step ≡ true) (last : given c older ≡ given_at (openings c older) c older) where
  kept : ((d : ℕ) → is_drain_of d e.step ≡ true → ⊥) → given c older ≡ given_at (openings c older) c (e ∷ older)
  kept still = last ∙ sym (of_another (openings c older) c e older (not_pens c e.actor e.step own still))

  opens : (o : Option ℕ) → ((d : ℕ) → is_drain_of d e.step ≡ true → ⊥) → if_opened c o (given c older) ≡ given_at (if_one_more c o (openings c older)) c (e ∷ older)
  opens None still = kept still
  opens (Some d) still = by (c == d)
    where
      by : (t : Bool) → (if t then [] else given c older) ≡ given_at (if t then openings c older + 1 else openings c older) c (e ∷ older)
      by true = sym (of_another (openings c older + 1) c e older (not_pens c e.actor e.step own still) ∙ none_yet (openings c older + 1) c older (omega arith))
      by false = kept still

  drains : (d : ℕ) → e.actor ≡ Pen d → (t : Bool) → (c == d) ≡ t → (if t then given c older ++ bytes_in e.answer else given c older) ≡ given_at (openings c older) c (e ∷ older)
  drains d pen true same =
      ap (λ l. l ++ bytes_in e.answer) last
      ∙ sym (of_its_pen (openings c older) c e older (ap (λ a. 2 * c + 1 == actor_code a) pen ∙ same_code c d same) (same_number (openings c older)))
  drains d pen false other = last ∙ sym (of_another (openings c older) c e older (ap (λ a. 2 * c + 1 == actor_code a) pen ∙ other_code c d other))

  drained : (d : ℕ) → e.actor ≡ Pen d → (a : Answer) → e.answer ≡ a → given_by c (tape.Drain d) a (given c older) ≡ given_at (opened_by c (tape.Drain d) a (openings c older)) c (e ∷ older)
  drained d pen (answers.Drained bytes) is =
      subst (λ a. (if c == d then given c older ++ bytes_in a else given c older) ≡ given_at (openings c older) c (e ∷ older)) is (drains d pen (c == d) refl)
  drained d pen (answers.Done done) is = by (c == d) (drains d pen (c == d) refl)
    where
      by : (t : Bool) → (if t then given c older ++ bytes_in e.answer else given c older) ≡ given_at (openings c older) c (e ∷ older) → given c older ≡ given_at (openings c older) c (e ∷ older)
      by true h = sym (ap (λ a. given c older ++ bytes_in a) is ∙ append-nil (given c older)) ∙ h
      by false h = h

  opened : (a : Answer) (addr : List ℕ) → ((d : ℕ) → is_drain_of d e.step ≡ true → ⊥)
      → given_by c (tape.Open addr) a (given c older) ≡ given_at (opened_by c (tape.Open addr) a (openings c older)) c (e ∷ older)
  opened (answers.Done done) addr still = opens done.opened still
  opened (answers.Drained bytes) addr still = kept still

  given_next : (s : TapeStep) → e.step ≡ s → given_by c s e.answer (given c older) ≡ given_at (opened_by c s e.answer (openings c older)) c (e ∷ older)
  given_next (tape.Open addr) is = opened e.answer addr (λ d h. let bad : is_drain_of d (tape.Open addr) ≡ true = ap (is_drain_of d) (sym is) ∙ h in absurd cc)
  given_next (tape.Packet d kind bytes) is = kept (λ x h. let bad : is_drain_of x (tape.Packet d kind bytes) ≡ true = ap (is_drain_of x) (sym is) ∙ h in absurd cc)
  given_next (tape.Line d bytes) is = kept (λ x h. let bad : is_drain_of x (tape.Line d bytes) ≡ true = ap (is_drain_of x) (sym is) ∙ h in absurd cc)
  given_next (tape.Fault d fault) is = kept (λ x h. let bad : is_drain_of x (tape.Fault d fault) ≡ true = ap (is_drain_of x) (sym is) ∙ h in absurd cc)
  given_next (tape.Close d) is = kept (λ x h. let bad : is_drain_of x (tape.Close d) ≡ true = ap (is_drain_of x) (sym is) ∙ h in absurd cc)
  given_next (tape.Tick now) is = kept (λ x h. let bad : is_drain_of x (tape.Tick now) ≡ true = ap (is_drain_of x) (sym is) ∙ h in absurd cc)
  given_next (tape.Took d) is = kept (λ x h. let bad : is_drain_of x (tape.Took d) ≡ true = ap (is_drain_of x) (sym is) ∙ h in absurd cc)
  given_next (tape.Withdrew d) is = kept (λ x h. let bad : is_drain_of x (tape.Withdrew d) ≡ true = ap (is_drain_of x) (sym is) ∙ h in absurd cc)
  given_next (tape.Drain d) is = drained d (drain_own d e.actor e.step own is) e.answer refl

own_first : (e : Entry) (older : List Entry) → AreOwn (e ∷ older) → is_own e.actor e.step ≡ true
own_first e older own = All-head (λ (e : Entry). is_own e.actor e.step ≡ true) e older own

own_rest : (e : Entry) (older : List Entry) → AreOwn (e ∷ older) → AreOwn older
own_rest e older own = All-tail (λ (e : Entry). is_own e.actor e.step ≡ true) e older own

given_last : (c : ℕ) (log : List Entry) → AreOwn log → given c log ≡ given_at (openings c log) c log
given_last c [] own = refl
given_last c (e ∷ older) own = given_next c e older (own_first e older own) (given_last c older (own_rest e older own)) e.step refl

-- an entry of a pen opens nothing
pens_open : (c n : ℕ) (actor : Actor) (step : TapeStep) (a : Answer) → is_own actor step ≡ true → (2 * c + 1 == actor_code actor) ≡ true → opened_by c step a n ≡ n
pens_open c n actor (tape.Open addr) a own is = let apart = not_pens c actor (tape.Open addr) own (λ d h. absurd cc) in let bad : true ≡ false = sym is ∙ apart in absurd cc
pens_open c n actor step a own is = refl

-- ---- openings and closings

-- how often slot c's closing is among these steps
abbrev closings : ℕ → List Step → ℕ
closings c [] = 0
closings c (Close d ∷ older) = if c == d then closings c older + 1 else closings c older
closings c (s ∷ older) = closings c older

module _ (k : Settings) (c : ℕ) (past : PastOf) (history : History k past.notes) where
  -- whatever opens nothing, and doesn't close slot c, leaves it as it is
  still_open : (s : Step) → ((addr : List ℕ) → s ≡ Open addr → ⊥) → (s ≡ Close c → ⊥) → refusal k s past ≡ None → is_open c (add k s past).notes ≡ is_open c past.notes
  still_open s opens closes taken =
      (add_keeps {k = k} {I = λ p. is_open c p.notes ≡ is_open c past.notes} past s
      (record {
        by_note = λ note p inner allowed cause h i. inner_open note p.notes c inner ∙ i;
        by_opening = λ d addr p allowed cause h i. absurd (opens addr cause);
        by_closing = λ d p opened cause h i. by (c == d) refl (is_open c p.notes) i cause;
        by_saying = λ d bytes p opened may h i. i;
      })
      (λ d is h i. i) taken (history, refl)).1
    where
      by : {d : ℕ} (t : Bool) → (c == d) ≡ t → (older : Bool) → older ≡ is_open c past.notes → s ≡ Close d → unwrap_or (if t then Some false else None) older ≡ is_open c past.notes
      by {d} true is older i cause = absurd (closes (cause ∙ ap Close (sym (eqb-true c d is))))
      by false is older i cause = i

-- nothing is sent to a slot that is closed
module _ (k : Settings) (c : ℕ) (before : List Note) (s : Step) (was : List ℕ) (opens : (addr : List ℕ) → s ≡ Open addr → ⊥) where
  nothing_sent : Keeps k before s (λ p. (is_open c p.notes ≡ false) × (sent c p.flow ≡ was))
  nothing_sent = record {
    by_note = λ note p inner allowed cause h i. (inner_open note p.notes c inner ∙ i.0, i.1);
    by_opening = λ d addr p allowed cause h i. absurd (opens addr cause);
    by_closing = λ d p opened cause h i. (closing (c == d) (is_open c p.notes) i.0, i.1);
    by_saying = λ d bytes p opened may h i. (i.0, saying d bytes p opened i.0 (c == d) refl ∙ i.1);
  }
    where
      closing : (t older : Bool) → older ≡ false → unwrap_or (if t then Some false else None) older ≡ false
      closing true older i = refl
      closing false older i = i

      saying : (d : ℕ) (bytes : List ℕ) (p : PastOf) → is_open d p.notes ≡ true → is_open c p.notes ≡ false → (t : Bool) → (c == d) ≡ t
          → (if t then sent c p.flow ++ bytes else sent c p.flow) ≡ sent c p.flow
      saying d bytes p opened closed true is = let bad : true ≡ false = sym (same_slot c d p.notes opened is) ∙ closed in absurd cc
      saying d bytes p opened closed false is = refl

-- nor with its closing
closing_sends : (k : Settings) (c : ℕ) (past : PastOf) → History k past.notes → is_open c past.notes ≡ true → sent c (close k c past).flow ≡ sent c past.flow
closing_sends k c past history opened =
    let anything : Keeps k past.notes (Close c) (λ p. Unit {0}) = record {
      by_note = λ note p inner allowed cause h i. tt;
      by_opening = λ d addr p allowed cause h i. tt;
      by_closing = λ d p opened cause h i. tt;
      by_saying = λ d bytes p opened may h i. tt;
    } in
    let K = nothing_sent k c past.notes (Close c) (sent c past.flow) (λ addr bad. absurd cc) in
    let gone : is_open c (disconnect c past).notes ≡ false = rw (same_number c) refl in
    (give_back_each_keeps K (rising past) (discard_each (rising past) (disconnect c past))
    (discard_each_keeps K (rising past) (disconnect c past) ((gone_keeps anything past opened (history, tt)).0, (gone, asleep (is_asleep (phase c past.notes)))))).1.1
  where
    asleep : (t : Bool) → sent c (if t then with_note (notes.Stirred c) past else past).flow ≡ sent c past.flow
    asleep true = refl
    asleep false = refl

abbrev one_if : Bool → ℕ
one_if t = if t then 1 else 0

-- a slot was opened as often as it was closed, and once more while it is open
module _ (k : Settings) (c : ℕ) (e : Entry) (older : List Entry) (legal : Legal k (e ∷ older)) (so_far : openings c older ≡ closings c (said_at c (steps_of older)) + one_if (is_open c (past_of k older).notes)) where
  abbrev past : PastOf
  past = past_of k older

  abbrev said : List Step
  said = said_at c (steps_of older)

  abbrev after : PastOf
  after = past_of k (e ∷ older)

  taken_as : (s : Step) → step_in e.step ≡ s → refusal k s past ≡ None
  taken_as s is = ap (λ s. refusal k s past) (sym is) ∙ legal.0

  after_is : (s : Step) → step_in e.step ≡ s → after ≡ add k s past
  after_is s is = ap (λ o. unless o (add k (step_in e.step) past) past) legal.0 ∙ ap (λ s. add k s past) is

  -- neither an opening nor slot c's closing
  balanced : (s : Step) → step_in e.step ≡ s → ((addr : List ℕ) → s ≡ Open addr → ⊥) → (s ≡ Close c → ⊥) → ((steps : List Step) → closings c (s ∷ steps) ≡ closings c steps)
      → openings c older ≡ closings c (said_at c (s ∷ steps_of older)) + one_if (is_open c after.notes)
  balanced s is opens closes same =
      let stays : is_open c after.notes ≡ is_open c past.notes =
      ap (λ (p : PastOf). is_open c p.notes) (after_is s is) ∙ still_open k c past (run_history k (steps_of older)) s opens closes (taken_as s is) in
      so_far ∙ ap₂ (λ (n : ℕ) (t : Bool). n + one_if t) (by (says c (slot_of s))) (sym stays)
    where
      by : (t : Bool) → closings c said ≡ closings c (if t then s ∷ said else said)
      by true = sym (same said)
      by false = refl

  no_slot : (m : Mode) → if_accepted m None ≡ None → ⊥
  no_slot Running taken = absurd cc
  no_slot Graceful taken = absurd cc
  no_slot Stopped taken = absurd cc

  opening_balanced : (o : Option ℕ) (addr : List ℕ) → free_slot k past ≡ o → step_in e.step ≡ Open addr → if_one_more c o (openings c older) ≡ closings c said + one_if (is_open c after.notes)
  opening_balanced None addr free is = absurd (no_slot (mode past.notes) (ap (if_accepted (mode past.notes)) (sym free) ∙ taken_as (Open addr) is))
  opening_balanced (Some d) addr free is = by (c == d) refl
    where
      now : after.notes ≡ notes.Opened d addr ∷ past.notes
      now = ap (λ (p : PastOf). p.notes) (after_is (Open addr) is ∙ ap (λ o. opening o addr past) free)

      was : is_open d past.notes ≡ false
      was = (free_is 0 k.slots past.notes d free).1

      by : (t : Bool) → (c == d) ≡ t → (if t then openings c older + 1 else openings c older) ≡ closings c said + one_if (is_open c after.notes)
      by true same =
          let before : is_open c past.notes ≡ false = subst (λ (x : ℕ). is_open x past.notes ≡ false) (sym (eqb-true c d same)) was in
          let count : openings c older ≡ closings c said + 0 = so_far ∙ ap (λ t. closings c said + one_if t) before in
          let opened : is_open c after.notes ≡ true = ap (is_open c) now ∙ ap (λ t. unwrap_or (if t then Some true else None) (is_open c past.notes)) same in
          rw opened (omega (arith, count))
      by false other =
          let stays : is_open c after.notes ≡ is_open c past.notes = ap (is_open c) now ∙ ap (λ t. unwrap_or (if t then Some true else None) (is_open c past.notes)) other in
          so_far ∙ ap (λ t. closings c said + one_if t) (sym stays)

  closing_balanced : (d : ℕ) → step_in e.step ≡ Close d → (t : Bool) → (c == d) ≡ t → openings c older ≡ closings c (if d == c then Close d ∷ said else said) + one_if (is_open c after.notes)
  closing_balanced d is true same =
      let at : c ≡ d = eqb-true c d same in
      let here : (d == c) ≡ true = eq-eqb d c (sym at) in
      let was : is_open c past.notes ≡ true = subst (λ (x : ℕ). is_open x past.notes ≡ true) (sym at) (takes_open (is_open d past.notes) (taken_as (Close d) is)) in
      let shut : is_open c after.notes ≡ false =
      ap (λ (p : PastOf). is_open c p.notes) (after_is (Close d) is ∙ ap (λ (x : ℕ). close k x past) (sym at)) ∙ close_closes k c past (run_history k (steps_of older)) was in
      let count : openings c older ≡ closings c said + 1 = so_far ∙ ap (λ t. closings c said + one_if t) was in
      rw (here, shut, same) (omega (arith, count))
  closing_balanced d is false other =
      let apart = eqb-false c d other in
      let away : (d == c) ≡ false = ne_eqb d c (λ same. apart (sym same)) in
      let stays : is_open c after.notes ≡ is_open c past.notes =
      ap (λ (p : PastOf). is_open c p.notes) (after_is (Close d) is)
      ∙ still_open k c past (run_history k (steps_of older)) (Close d) (λ addr same. absurd cc) (λ same. apart (sym (let x : d ≡ c = cc in x))) (taken_as (Close d) is) in
      rw away (so_far ∙ ap (λ t. closings c said + one_if t) (sym stays))

  answered : (step : TapeStep) → e.step ≡ step → opened_by c step e.answer (openings c older) ≡ closings c (said_at c (step_in step ∷ steps_of older)) + one_if (is_open c after.notes)
  answered (tape.Open addr) is =
      let answer : e.answer ≡ answer_to k (Open addr) past = legal.1 ∙ ap (λ s. answer_to k (step_in s) past) is in
      ap (λ a. opened_by c (tape.Open addr) a (openings c older)) answer ∙ opening_balanced (free_slot k past) addr refl (ap step_in is)
  answered (tape.Close d) is = closing_balanced d (ap step_in is) (c == d) refl
  answered (tape.Packet d kind bytes) is = balanced (Packet d kind bytes) (ap step_in is) (λ addr x. absurd cc) (λ x. absurd cc) (λ steps. refl)
  answered (tape.Line d bytes) is = balanced (Line d bytes) (ap step_in is) (λ addr x. absurd cc) (λ x. absurd cc) (λ steps. refl)
  answered (tape.Fault d fault) is = balanced (Fault d fault) (ap step_in is) (λ addr x. absurd cc) (λ x. absurd cc) (λ steps. refl)
  answered (tape.Tick now) is = balanced (Tick now) (ap step_in is) (λ addr x. absurd cc) (λ x. absurd cc) (λ steps. refl)
  answered (tape.Took d) is = balanced (Took d) (ap step_in is) (λ addr x. absurd cc) (λ x. absurd cc) (λ steps. refl)
  answered (tape.Withdrew d) is = balanced (Withdrew d) (ap step_in is) (λ addr x. absurd cc) (λ x. absurd cc) (λ steps. refl)
  answered (tape.Drain d) is = balanced (Drain d) (ap step_in is) (λ addr x. absurd cc) (λ x. absurd cc) (λ steps. refl)

  -- where the slot is closed, nothing was sent to it, and it wasn't opened
  module _ (closed : is_open c after.notes ≡ false) where
    quiet : (s : Step) → step_in e.step ≡ s → ((addr : List ℕ) → s ≡ Open addr → ⊥) → (s ≡ Close c → ⊥) → (is_open c past.notes ≡ false) × (sent c after.flow ≡ sent c past.flow)
    quiet s is opens closes =
        let was : is_open c past.notes ≡ false =
        sym (ap (λ (p : PastOf). is_open c p.notes) (after_is s is) ∙ still_open k c past (run_history k (steps_of older)) s opens closes (taken_as s is)) ∙ closed in (
          was,
          ap (λ (p : PastOf). sent c p.flow) (after_is s is)
              ∙ (add_keeps {k = k} {I = λ p. (is_open c p.notes ≡ false) × (sent c p.flow ≡ sent c past.flow)} past s (nothing_sent k c past.notes s (sent c past.flow) opens)
              (λ d same h i. i) (taken_as s is) (run_history k (steps_of older), (was, refl))).1.1,
        )

    abbrev IsQuiet : ℕ → Type 0
    IsQuiet n = (n ≡ openings c older) × (sent c after.flow ≡ sent c past.flow)

    quiet_opening : (o : Option ℕ) (addr : List ℕ) → free_slot k past ≡ o → step_in e.step ≡ Open addr → IsQuiet (if_one_more c o (openings c older))
    quiet_opening None addr free is = absurd (no_slot (mode past.notes) (ap (if_accepted (mode past.notes)) (sym free) ∙ taken_as (Open addr) is))
    quiet_opening (Some d) addr free is = by (c == d) refl
      where
        now : after ≡ opening (Some d) addr past
        now = after_is (Open addr) is ∙ ap (λ o. opening o addr past) free

        by : (t : Bool) → (c == d) ≡ t → IsQuiet (if t then openings c older + 1 else openings c older)
        by true same =
            let opened : is_open c after.notes ≡ true = ap (λ (p : PastOf). is_open c p.notes) now ∙ ap (λ t. unwrap_or (if t then Some true else None) (is_open c past.notes)) same in
            let bad : true ≡ false = sym opened ∙ closed in
            absurd cc
        by false other = (refl, ap (λ (p : PastOf). sent c p.flow) now ∙ ap (λ t. if t then [] else sent c past.flow) other)

    quiet_closing : (d : ℕ) → step_in e.step ≡ Close d → (t : Bool) → (c == d) ≡ t → sent c after.flow ≡ sent c past.flow
    quiet_closing d is true same =
        let at : c ≡ d = eqb-true c d same in
        let was : is_open c past.notes ≡ true = subst (λ (x : ℕ). is_open x past.notes ≡ true) (sym at) (takes_open (is_open d past.notes) (taken_as (Close d) is)) in
        ap (λ (p : PastOf). sent c p.flow) (after_is (Close d) is ∙ ap (λ (x : ℕ). close k x past) (sym at)) ∙ closing_sends k c past (run_history k (steps_of older)) was
    quiet_closing d is false other =
        let apart = eqb-false c d other in
        (quiet (Close d) is (λ addr same. absurd cc) (λ same. apart (let x : d ≡ c = cc in sym x))).1

    all_quiet : (step : TapeStep) → e.step ≡ step → IsQuiet (opened_by c step e.answer (openings c older))
    all_quiet (tape.Open addr) is =
        let answer : e.answer ≡ answer_to k (Open addr) past = legal.1 ∙ ap (λ s. answer_to k (step_in s) past) is in
        subst (λ a. IsQuiet (opened_by c (tape.Open addr) a (openings c older))) (sym answer) (quiet_opening (free_slot k past) addr refl (ap step_in is))
    all_quiet (tape.Close d) is = (refl, quiet_closing d (ap step_in is) (c == d) refl)
    all_quiet (tape.Packet d kind bytes) is = (refl, (quiet (Packet d kind bytes) (ap step_in is) (λ addr x. absurd cc) (λ x. absurd cc)).1)
    all_quiet (tape.Line d bytes) is = (refl, (quiet (Line d bytes) (ap step_in is) (λ addr x. absurd cc) (λ x. absurd cc)).1)
    all_quiet (tape.Fault d fault) is = (refl, (quiet (Fault d fault) (ap step_in is) (λ addr x. absurd cc) (λ x. absurd cc)).1)
    all_quiet (tape.Tick now) is = (refl, (quiet (Tick now) (ap step_in is) (λ addr x. absurd cc) (λ x. absurd cc)).1)
    all_quiet (tape.Took d) is = (refl, (quiet (Took d) (ap step_in is) (λ addr x. absurd cc) (λ x. absurd cc)).1)
    all_quiet (tape.Withdrew d) is = (refl, (quiet (Withdrew d) (ap step_in is) (λ addr x. absurd cc) (λ x. absurd cc)).1)
    all_quiet (tape.Drain d) is = (refl, (quiet (Drain d) (ap step_in is) (λ addr x. absurd cc) (λ x. absurd cc)).1)

    -- what is drained of it is empty
    module _ (own : is_own e.actor e.step ≡ true) (n : ℕ) where
      drained_none : (d : ℕ) → e.step ≡ tape.Drain d → e.actor ≡ Pen d → (t : Bool) → (c == d) ≡ t → given_at n c (e ∷ older) ≡ given_at n c older
      drained_none d is pen true same =
          let at : c ≡ d = eqb-true c d same in
          let was = (quiet (Drain d) (ap step_in is) (λ addr x. absurd cc) (λ x. absurd cc)).0 in
          let none : waiting c past.flow ≡ [] = (subst (λ t. GivenSo t (given c older) c past.flow) was (all_given k older legal.2 c)).0 in
          let answer : e.answer ≡ answers.Drained [] = legal.1 ∙ (ap (λ s. answer_to k (step_in s) past) is ∙ ap answers.Drained (ap (λ (x : ℕ). waiting x past.flow) (sym at) ∙ none)) in
          ap (λ a. given_at n c older ++ (if 2 * c + 1 == actor_code e.actor then (if openings c older == n then bytes_in a else []) else [])) answer
          ∙ (ap (λ l. given_at n c older ++ l) (empty (2 * c + 1 == actor_code e.actor) (openings c older == n)) ∙ append-nil (given_at n c older))
        where
          empty : (t u : Bool) → (if t then (if u then bytes_in (answers.Drained []) else []) else []) ≡ []
          empty true true = refl
          empty true false = refl
          empty false u = refl
      drained_none d is pen false other = of_another n c e older (ap (λ a. 2 * c + 1 == actor_code a) pen ∙ other_code c d other)

      given_none : (step : TapeStep) → e.step ≡ step → given_at n c (e ∷ older) ≡ given_at n c older
      given_none (tape.Drain d) is = drained_none d is (drain_own d e.actor e.step own is) (c == d) refl
      given_none step is = of_another n c e older (not_pens c e.actor e.step own (λ d drain. let bad : is_drain_of d step ≡ true = ap (is_drain_of d) (sym is) ∙ drain in absurd cc))

balance : (k : Settings) (c : ℕ) (log : List Entry) → Legal k log → openings c log ≡ closings c (said_at c (steps_of log)) + one_if (is_open c (past_of k log).notes)
balance k c [] legal = refl
balance k c (e ∷ older) legal = answered k c e older legal (balance k c older legal.2) e.step refl

-- ---- all that was sent

sent_now : (k : Settings) (c : ℕ) (log : List Entry) → sent_at k (openings c log) c log ≡ sent c (past_of k log).flow
sent_now k c [] = refl
sent_now k c (e ∷ older) = ap (λ (t : Bool). if t then sent c (past_of k (e ∷ older)).flow else sent_at k (openings c (e ∷ older)) c older) (same_number (openings c (e ∷ older)))

sent_all : (k : Settings) (n c : ℕ) (log : List Entry) → Legal k log → AreOwn log → sent_at k n c log ≡ given_at n c log ++ left_at k n c log
sent_all k n c [] legal own = refl
sent_all k n c (e ∷ older) legal own = by (openings c (e ∷ older) == n) refl (is_open c (past_of k (e ∷ older)).notes) refl (sent_all k n c older legal.2 (own_rest e older own))
  where
    -- given at another opening
    apart : (openings c (e ∷ older) == n) ≡ false → (t : Bool) → (2 * c + 1 == actor_code e.actor) ≡ t → given_at n c (e ∷ older) ≡ given_at n c older
    apart other true is =
        at_another n c e older (ap (λ (m : ℕ). m == n) (sym (pens_open c (openings c older) e.actor e.step e.answer (own_first e older own) is)) ∙ other)
    apart other false is = of_another n c e older is

    by : (t : Bool) → (openings c (e ∷ older) == n) ≡ t → (o : Bool) → is_open c (past_of k (e ∷ older)).notes ≡ o → sent_at k n c older ≡ given_at n c older ++ left_at k n c older
        → (if t then sent c (past_of k (e ∷ older)).flow else sent_at k n c older)
        ≡ given_at n c (e ∷ older) ++ (if t && o then waiting c (past_of k (e ∷ older)).flow else left_at k n c older)
    by true is true at rest =
        let here : given c (e ∷ older) ≡ given_at n c (e ∷ older) = given_last c (e ∷ older) own ∙ ap (λ (m : ℕ). given_at m c (e ∷ older)) (eqb-true (openings c (e ∷ older)) n is) in
        subst (λ t. GivenSo t (given c (e ∷ older)) c (past_of k (e ∷ older)).flow) at (all_given k (e ∷ older) legal c) ∙ ap (λ l. l ++ waiting c (past_of k (e ∷ older)).flow) here
    by true is false at rest =
        let so = balance k c older legal.2 in
        let quiet = all_quiet k c e older legal so at e.step refl in
        let same : openings c older ≡ n = sym quiet.0 ∙ eqb-true (openings c (e ∷ older)) n is in
        quiet.1 ∙ (sym (sent_now k c older) ∙ (ap (λ (m : ℕ). sent_at k m c older) same
        ∙ (rest ∙ ap (λ l. l ++ left_at k n c older) (sym (given_none k c e older legal so at (own_first e older own) n e.step refl)))))
    by false other o at rest = rest ∙ ap (λ l. l ++ left_at k n c older) (sym (apart other (2 * c + 1 == actor_code e.actor) refl))

are_sent : (k : Settings) (log : List Entry) → Legal k log → AreOwn log → (c : ℕ) (past : List Past) (seen since : List Entry) (takes : ℕ) → ((n : ℕ) → drains_at n c log ≡ drains_at n c seen)
    → AreOver c past seen → ArePast c past since takes → AreSent k log c takes past
are_sent k log legal own c [] seen since takes same over are = are.1
are_sent k log legal own c (p ∷ older) seen since takes same over are =
    let n = length older + 1 in
    let w = are.2.is_written in
    let drained : drains_at n c log ≡ drains_in w.messages = same n ∙ (over.0 ∙ w.are.drained) in (
      are.1,
      record {
        messages = w.messages;
        rest = are.2.rest;
        lost = are.2.lost;
        drained = drained;
        written = w.whole;
        taken = w.are.taken;
        whole = are.2.whole;
        all = sent_all k n c log legal own ∙ ap (λ l. l ++ left_at k n c log) (sym (joined_drains n c log) ∙ ap joined drained);
      },
      are_sent k log legal own c older seen p.since p.takes same over.1 are.3,
    )

-- ---- what was said since an opening

-- a slot that says something is open
said_open : (k : Settings) (c : ℕ) (s : Step) (past : PastOf) → says c (slot_of s) ≡ true → refusal k s past ≡ None → is_open c past.notes ≡ true
said_open k c (Packet d kind bytes) past is taken = subst (λ (x : ℕ). is_open x past.notes ≡ true) (eqb-true d c is) (units_open d past.notes taken)
said_open k c (Line d bytes) past is taken = subst (λ (x : ℕ). is_open x past.notes ≡ true) (eqb-true d c is) (units_open d past.notes taken)
said_open k c (Fault d fault) past is taken = subst (λ (x : ℕ). is_open x past.notes ≡ true) (eqb-true d c is) (units_open d past.notes taken)
said_open k c (Close d) past is taken = subst (λ (x : ℕ). is_open x past.notes ≡ true) (eqb-true d c is) (takes_open (is_open d past.notes) taken)
said_open k c (Open addr) past is taken = absurd cc
said_open k c (Tick now) past is taken = absurd cc
said_open k c (Took d) past is taken = absurd cc
said_open k c (Withdrew d) past is taken = absurd cc
said_open k c (Drain d) past is taken = absurd cc

-- the steps behind so many closings of slot c, and before the next
abbrev block : ℕ → ℕ → List Step → List Step
block m c [] = []
block m c (s ∷ older) = if closings c older == m then s ∷ block m c older else block m c older

same_test : (a b m : ℕ) → a ≡ b + 1 → (a == m + 1) ≡ (b == m)
same_test a b m is = by (b == m) refl
  where
    by : (t : Bool) → (b == m) ≡ t → (a == m + 1) ≡ (b == m)
    by true same = let e = eqb-true b m same in eq-eqb a (m + 1) (omega (arith, is, e)) ∙ sym same
    by false other = let apart = eqb-false b m other in ne_eqb a (m + 1) (λ e. apart (omega (arith, is, e))) ∙ sym other

since_is : (k : Settings) (m c : ℕ) (log : List Entry) → Legal k log → said_since (m + 1) c log ≡ block m c (said_at c (steps_of log))
since_is k m c [] legal = refl
since_is k m c (e ∷ older) legal = by (says c (slot_of (step_in e.step))) refl (since_is k m c older legal.2)
  where
    by : (t : Bool) → says c (slot_of (step_in e.step)) ≡ t → said_since (m + 1) c older ≡ block m c (said_at c (steps_of older))
        → (if t && (openings c older == m + 1) then step_in e.step ∷ said_since (m + 1) c older else said_since (m + 1) c older)
        ≡ block m c (if t then step_in e.step ∷ said_at c (steps_of older) else said_at c (steps_of older))
    by true is rest =
        let opened = said_open k c (step_in e.step) (past_of k older) is legal.0 in
        let count : openings c older ≡ closings c (said_at c (steps_of older)) + 1 = balance k c older legal.2 ∙ ap (λ t. closings c (said_at c (steps_of older)) + one_if t) opened in
        ap₂ (λ (t : Bool) (l : List Step). if t then step_in e.step ∷ l else l) (same_test (openings c older) (closings c (said_at c (steps_of older))) m count) rest
    by false is rest = rest

-- ---- sessions' events

-- slot c says it, and it is no closing
record IsUnit (c : ℕ) (s : Step) : Type 0 where
  pub said : says c (slot_of s) ≡ true
  pub closes_none : (older : List Step) → closings c (s ∷ older) ≡ closings c older

unit_is : (k : Settings) (c : ℕ) (item : Item) → IsUnit c (step_of_unit k c item)
unit_is k c (APacket kind bytes) = record { said = same_number c; closes_none = λ older. refl }
unit_is k c (ALine bytes) = record { said = same_number c; closes_none = λ older. refl }

units_are : (k : Settings) (c : ℕ) (items : List Item) → ByRecursion (IsUnit c) (map (step_of_unit k c) items)
units_are k c [] = tt
units_are k c (item ∷ items) = (unit_is k c item, units_are k c items)

both : (c : ℕ) (xs ys : List Step) → ByRecursion (IsUnit c) xs → ByRecursion (IsUnit c) ys → ByRecursion (IsUnit c) (xs ++ ys)
both c [] ys a b = b
both c (x ∷ xs) ys a b = (a.0, both c xs ys a.1 b)

turned : (c : ℕ) (xs : List Step) → ByRecursion (IsUnit c) xs → ByRecursion (IsUnit c) (reverse xs)
turned c [] a = tt
turned c (x ∷ xs) a = subst (ByRecursion (IsUnit c)) (sym (reverse-append (x ∷ []) xs)) (both c (reverse xs) (x ∷ []) (turned c xs a.1) (a.0, tt))

session_units : (k : Settings) (c : ℕ) (items : List Item) (fault : Option UnitFault) → ByRecursion (IsUnit c) (reverse (steps_of_units k c items fault))
session_units k c items fault = turned c (steps_of_units k c items fault) (both c (map (step_of_unit k c) items) (fault_steps c fault) (units_are k c items) (by fault))
  where
    by : (fault : Option UnitFault) → ByRecursion (IsUnit c) (fault_steps c fault)
    by None = tt
    by (Some fault) = (record { said = same_number c; closes_none = λ older. refl }, tt)

module _ (k : Settings) (c : ℕ) where
  closings_units : (xs ys : List Step) → ByRecursion (IsUnit c) xs → closings c (xs ++ ys) ≡ closings c ys
  closings_units [] ys a = refl
  closings_units (x ∷ xs) ys a = a.0.closes_none (xs ++ ys) ∙ closings_units xs ys a.1

  block_units : (m : ℕ) (t : Bool) (xs ys : List Step) → ByRecursion (IsUnit c) xs → (closings c ys == m) ≡ t → block m c (xs ++ ys) ≡ (if t then xs ++ block m c ys else block m c ys)
  block_units m true [] ys a is = refl
  block_units m false [] ys a is = refl
  block_units m true (x ∷ xs) ys a is =
      ap (λ (n : ℕ). if n == m then x ∷ block m c (xs ++ ys) else block m c (xs ++ ys)) (closings_units xs ys a.1)
      ∙ (ap (λ (t : Bool). if t then x ∷ block m c (xs ++ ys) else block m c (xs ++ ys)) is ∙ ap (λ l. x ∷ l) (block_units m true xs ys a.1 is))
  block_units m false (x ∷ xs) ys a is =
      ap (λ (n : ℕ). if n == m then x ∷ block m c (xs ++ ys) else block m c (xs ++ ys)) (closings_units xs ys a.1)
      ∙ (ap (λ (t : Bool). if t then x ∷ block m c (xs ++ ys) else block m c (xs ++ ys)) is ∙ block_units m false xs ys a.1 is)

  said_units : (xs ys : List Step) → ByRecursion (IsUnit c) xs → said_at c (xs ++ ys) ≡ xs ++ said_at c ys
  said_units [] ys a = refl
  said_units (x ∷ xs) ys a = ap (λ (t : Bool). if t then x ∷ said_at c (xs ++ ys) else said_at c (xs ++ ys)) a.0.said ∙ ap (λ l. x ∷ l) (said_units xs ys a.1)

  closing_counts : (steps : List Step) → closings c (Close c ∷ steps) ≡ closings c steps + 1
  closing_counts steps = ap (λ (t : Bool). if t then closings c steps + 1 else closings c steps) (same_number c)

  said_closing : (steps : List Step) → said_at c (Close c ∷ steps) ≡ Close c ∷ said_at c steps
  said_closing steps = ap (λ (t : Bool). if t then Close c ∷ said_at c steps else said_at c steps) (same_number c)

  closings_more : (s : Step) (steps : List Step) → closings c steps ≤ closings c (s ∷ steps)
  closings_more (Close d) steps = by (c == d)
    where
      by : (t : Bool) → closings c steps ≤ (if t then closings c steps + 1 else closings c steps)
      by true = omega arith
      by false = omega arith
  closings_more s steps = omega arith

  closings_grow : (xs ys : List Step) → closings c ys ≤ closings c (xs ++ ys)
  closings_grow [] ys = omega arith
  closings_grow (x ∷ xs) ys = let rest = closings_grow xs ys in let first = closings_more x (xs ++ ys) in omega (arith, rest, first)

  -- what is behind more closings isn't in the block
  later : (m : ℕ) (xs ys : List Step) → m < closings c ys → block m c (xs ++ ys) ≡ block m c ys
  later m [] ys less = refl
  later m (x ∷ xs) ys less =
      let grown = closings_grow xs ys in
      let other : (closings c (xs ++ ys) == m) ≡ false = ne_eqb (closings c (xs ++ ys)) m (λ is. absurd (omega (arith, is, grown, less))) in
      ap (λ (t : Bool). if t then x ∷ block m c (xs ++ ys) else block m c (xs ++ ys)) other ∙ later m xs ys less

  -- ---- the connections that are closed

  abbrev heard_events : (limits : Limits) (heard : List Heard) (since : List Entry) → AreHeard k c limits heard since → List Step
  heard_events limits [] since are = []
  heard_events limits (h ∷ older) since are = Close c ∷ (reverse (steps_of_units k c are.1.items are.1.fault) ++ heard_events limits older h.since are.2)

  events_are : (limits : Limits) (heard : List Heard) (since : List Entry) (are : AreHeard k c limits heard since) → events_of c since ≡ heard_events limits heard since are
  events_are limits [] since are = ap (events_of c) are
  events_are limits (h ∷ older) since are =
      let steps = steps_of_units k c are.1.items are.1.fault in
      ap (events_of c) (are.0 ∙ are.1.adds.goes_on)
      ∙ (events_of_more c are.1.adds.newer h.since
      ∙ ap₂ (λ xs ys. xs ++ ys) (are.1.adds.events_are ∙ reverse-append steps (Close c ∷ [])) (events_are limits older h.since are.2))

  closings_heard : (limits : Limits) (heard : List Heard) (since : List Entry) (are : AreHeard k c limits heard since) → closings c (heard_events limits heard since are) ≡ length heard
  closings_heard limits [] since are = refl
  closings_heard limits (h ∷ older) since are =
      let units = reverse (steps_of_units k c are.1.items are.1.fault) in
      let rest = heard_events limits older h.since are.2 in
      let first = closing_counts (units ++ rest) in
      let among = closings_units units rest (session_units k c are.1.items are.1.fault) in
      let before = closings_heard limits older h.since are.2 in
      omega (arith, first, among, before)

  said_heard : (limits : Limits) (heard : List Heard) (since : List Entry) (are : AreHeard k c limits heard since) → said_at c (heard_events limits heard since are) ≡ heard_events limits heard since are
  said_heard limits [] since are = refl
  said_heard limits (h ∷ older) since are =
      let units = reverse (steps_of_units k c are.1.items are.1.fault) in
      let rest = heard_events limits older h.since are.2 in
      said_closing (units ++ rest)
      ∙ ap (λ l. Close c ∷ l) (said_units units rest (session_units k c are.1.items are.1.fault) ∙ ap (λ l. units ++ l) (said_heard limits older h.since are.2))

  -- there are no more blocks than closings
  none_later : (limits : Limits) (heard : List Heard) (since : List Entry) (are : AreHeard k c limits heard since) (m : ℕ) → length heard ≤ m → block m c (heard_events limits heard since are) ≡ []
  none_later limits [] since are m less = refl
  none_later limits (h ∷ older) since are m less =
      let units = reverse (steps_of_units k c are.1.items are.1.fault) in
      let rest = heard_events limits older h.since are.2 in
      let long : closings c rest ≡ length older = closings_heard limits older h.since are.2 in
      let other : (closings c rest == m) ≡ false = ne_eqb (closings c rest) m (λ is. absurd (omega (arith, is, long, less))) in
      let among : closings c (units ++ rest) ≡ closings c rest = closings_units units rest (session_units k c are.1.items are.1.fault) in
      ap (λ (n : ℕ). if n == m then Close c ∷ block m c (units ++ rest) else block m c (units ++ rest)) among
      ∙ (ap (λ (t : Bool). if t then Close c ∷ block m c (units ++ rest) else block m c (units ++ rest)) other
      ∙ (block_units m false units rest (session_units k c are.1.items are.1.fault) other ∙ none_later limits older h.since are.2 m (omega (arith, less))))

  -- the block of a connection
  its_block : (limits : Limits) (h : Heard) (older : List Heard) (since : List Entry) (are : AreHeard k c limits (h ∷ older) since)
      → block (length older) c (heard_events limits (h ∷ older) since are) ≡ Close c ∷ reverse (steps_of_units k c are.1.items are.1.fault)
  its_block limits h older since are =
      let m = length older in
      let units = reverse (steps_of_units k c are.1.items are.1.fault) in
      let rest = heard_events limits older h.since are.2 in
      let here : (closings c rest == m) ≡ true = eq-eqb (closings c rest) m (closings_heard limits older h.since are.2) in
      let among : closings c (units ++ rest) ≡ closings c rest = closings_units units rest (session_units k c are.1.items are.1.fault) in
      ap (λ (n : ℕ). if n == m then Close c ∷ block m c (units ++ rest) else block m c (units ++ rest)) among
      ∙ (ap (λ (t : Bool). if t then Close c ∷ block m c (units ++ rest) else block m c (units ++ rest)) here
      ∙ ap (λ l. Close c ∷ l) (block_units m true units rest (session_units k c are.1.items are.1.fault) here
      ∙ (ap (λ l. units ++ l) (none_later limits older h.since are.2 m (omega arith)) ∙ append-nil units)))

  handed_in : (limits : Limits) (log : List Entry) → Legal k log → (heard : List Heard) (since : List Entry) (are : AreHeard k c limits heard since) (newer : List Step)
      → said_at c (steps_of log) ≡ newer ++ heard_events limits heard since are → AreHandedIn k limits log c heard
  handed_in limits log legal [] since are newer is = tt
  handed_in limits log legal (h ∷ older) since are newer is =
      let m = length older in
      let events = heard_events limits (h ∷ older) since are in
      let units = reverse (steps_of_units k c are.1.items are.1.fault) in
      let rest = heard_events limits older h.since are.2 in
      let count = closings_heard limits (h ∷ older) since are in (
        record {
          own = are.1.own;
          items = are.1.items;
          rest = are.1.rest;
          fault = are.1.fault;
          begins = are.1.begins;
          stands = are.1.stands;
          said = since_is k m c log legal ∙ (ap (block m c) is ∙ (later m newer events (omega (arith, count)) ∙ its_block limits h older since are));
          whole = are.1.whole;
        },
        handed_in limits log legal older h.since are.2 (newer ++ Close c ∷ units) (is ∙ sym (append_assoc newer (Close c ∷ units) rest)),
      )

-- what the present connection said, if there is one
record Lead (k : Settings) (c : ℕ) (since until : List Entry) : Type 0 where
  pub items : List Item
  pub fault : Option UnitFault
  pub adds : Adds c (steps_of_units k c items fault) since until

lead_of : (k : Settings) (c : ℕ) (limits : Limits) (since until : List Entry) (talking : Option TalkingState) → IsTalking k c limits since until talking → Lead k c since until
lead_of k c limits since until None is = record { items = []; fault = None; adds = is }
lead_of k c limits since until (Some t) is = by t.reading is
  where
    by : (reading : Reading) → IsTalkingBy k reading c limits since until t → Lead k c since until
    by Goes so = record { items = so.hands.items; fault = None; adds = so.hands.adds }
    by (Drops end) so = record { items = so.1.hands.items; fault = so.1.fault; adds = so.1.hands.adds }
    by (Ended end) so = record { items = so.hands.items; fault = so.fault; adds = so.hands.adds }

-- ---- one socket

-- both sides were handed the same sockets
sockets_fit : (heard : List Heard) (past : List Past) (passed : List (ℤ × Bool)) → HeardThrough heard passed → WentThrough past passed → FitSockets heard past
sockets_fit [] [] [] read written = tt
sockets_fit [] (p ∷ past) [] read written = absurd written
sockets_fit (h ∷ heard) past [] read written = absurd read
sockets_fit [] past (x ∷ passed) read written = absurd read
sockets_fit (h ∷ heard) [] (x ∷ passed) read written = absurd written
sockets_fit (h ∷ heard) (p ∷ past) (x ∷ passed) read written = (by h.socket read.0, sockets_fit heard past passed read.1 written.1)
  where
    by : (socket : Option ℤ) → HeardFits socket x → FitsSocket socket p.socket
    by None unserved = tt
    by (Some own) served = let same = ap (λ (y : ℤ × Bool). y.0) served in sym (written.0 ∙ same)

one_socket : (talking : Option TalkingState) (heard : List Heard) (past : List Past) (passed : List (ℤ × Bool)) → GoesThrough talking heard passed → WentThrough past passed → WentThroughOne heard past
one_socket None heard past passed read written = record { newer = []; older = past; parts = refl; each = sockets_fit heard past passed read written }
one_socket (Some t) heard past passed read written = by past (subst (λ (l : List (ℤ × Bool)). WentThrough past l) read.1 written)
  where
    by : (past : List Past) → WentThrough past ((t.socket, true) ∷ read.0) → WentThroughOne heard past
    by [] bad = absurd bad
    by (p ∷ older) went = record { newer = p ∷ []; older = older; parts = refl; each = sockets_fit heard older read.0 read.2 went.1 }

pub are_served : (k : Settings) (limits : Limits) (log : List Entry) → Legal k log → AreOwn log → (c takes : ℕ) (heard : List Heard) (past : List Past)
    (since heard_until given_until : List Entry) (talking : Option TalkingState) (passed : List (ℤ × Bool))
    → AreHeard k c limits heard since → IsTalking k c limits since heard_until talking → Knows log (2 * c) heard_until
    → GoesThrough talking heard passed → WentThrough past passed → ArePast c past given_until takes → AreOver c past given_until → Knows log (2 * c + 1) given_until
    → AreServed k limits log c takes heard past
are_served k limits log legal own c takes heard past since heard_until given_until talking passed are talks knows read written are_past over gave =
    let lead = lead_of k c limits since heard_until talking talks in
    let units = reverse (steps_of_units k c lead.items lead.fault) in
    let events = heard_events k c limits heard since are in
    let all : events_of c log ≡ units ++ events =
    ap events_in (entries_known entry_owner log (2 * c) heard_until knows)
    ∙ (ap (events_of c) lead.adds.goes_on ∙ (events_of_more c lead.adds.newer since ∙ ap₂ (λ xs ys. xs ++ ys) lead.adds.events_are (events_are k c limits heard since are))) in
    let said : said_at c (steps_of log) ≡ units ++ events =
    said_own c log own ∙ (ap (said_at c) all ∙ (said_units k c units events (session_units k c lead.items lead.fault) ∙ ap (λ l. units ++ l) (said_heard k c limits heard since are))) in
    let closed : closings c (said_at c (steps_of log)) ≡ length heard =
    ap (closings c) said ∙ (closings_units k c units events (session_units k c lead.items lead.fault) ∙ closings_heard k c limits heard since are) in
    record {
      handed_in = handed_in k c limits log legal heard since are units said;
      all = balance k c log legal ∙ ap (λ (n : ℕ). n + one_if (is_open c (past_of k log).notes)) closed;
      sent = are_sent k log legal own c past given_until given_until takes (λ n. ap (drains_at n c) gave.goes_on ∙ none_drained n c gave.newer given_until gave.others) over are_past;
      sockets = one_socket talking heard past passed read written;
    }
