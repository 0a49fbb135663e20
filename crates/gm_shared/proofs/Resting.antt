-- What it means that nothing was asked for a slot since its last drain.
use Rattle.std.proofs.Common.{◌≡◌, ℕ, ◌==◌, Bool, true, false, List, [], ◌∷◌, ◌++◌, Option, Some, None, Result, Ok, Err, refl, sym, ap, ◌∙◌, subst, eq-eqb}
use Rattle.gm_conns.specs.Slots.{has}
use Rattle.gm_notes.specs.declared.event.ApplyError.{ApplyError}
use Rattle.gm_notes.specs.declared.event.ApplyError.TheVariants.{Memory, NotOpen}
use Rattle.gm_notes.specs.declared.note.Note.{Note}
use Rattle.gm_notes.specs.declared.note.Note.TheVariants as notes
use Rattle.gm_notes.specs.declared.states.Phase.{Phase}
use Rattle.gm_notes.specs.declared.states.Phase.TheVariants.{Owed, Awake}
use Rattle.gm_notes.specs.Settings.{Settings}
use Rattle.gm_notes.specs.Past.{Past, with_note}
use Rattle.gm_notes.specs.Flow.{waiting}
use Rattle.gm_notes.specs.Notes.{is_open, phase}
use Rattle.gm_notes.specs.Steps.{Step, run, unless, if_owed}
use Rattle.gm_shared.specs.declared.events.Noop.{Noop}
use Rattle.gm_shared.specs.declared.events.Noop.TheVariants.{Left, Taken, Withdrawn}
use Rattle.gm_shared.specs.declared.receipt.Drained.{Drained}
use Rattle.gm_shared.specs.declared.receipt.Receipt.{Receipt}
use Rattle.gm_shared.specs.declared.tape.Actor.TheVariants.{Desk}
use Rattle.gm_shared.specs.declared.tape.Entry.{Entry}
use Rattle.gm_shared.specs.declared.tape.TapeStep.{TapeStep}
use Rattle.gm_shared.specs.declared.tape.TapeStep.TheVariants as tape
use Rattle.gm_shared.specs.Books.{shown_at}
use Rattle.gm_shared.specs.Calls.{past_of, PenCalled, DeskCalled, Calls, asks, lacks}
use Rattle.gm_shared.specs.Resting.{AsksNothing, Unless, NothingSince, Rests, DrainedSlotsRest}
use Rattle.gm_shared.specs.Tapes.{steps_of, step_in, is_drain_of, noop_entries, nothing_made}

false_isnt : false ≡ true → ⊥
false_isnt e = cc

-- a drain of the slot leaves nothing waiting
drained : (k : Settings) (c : ℕ) (older : List Entry) (step : TapeStep) → is_drain_of c step ≡ true → waiting c (run k (step_in step ∷ steps_of older)).flow ≡ []
drained k c older (tape.Drain d) is = rw is refl
drained k c older (tape.Open addr) is = absurd (false_isnt is)
drained k c older (tape.Packet d kind bytes) is = absurd (false_isnt is)
drained k c older (tape.Line d bytes) is = absurd (false_isnt is)
drained k c older (tape.Fault d fault) is = absurd (false_isnt is)
drained k c older (tape.Close d) is = absurd (false_isnt is)
drained k c older (tape.Tick now) is = absurd (false_isnt is)
drained k c older (tape.Took d) is = absurd (false_isnt is)
drained k c older (tape.Withdrew d) is = absurd (false_isnt is)

-- by whether the newest entry is a drain of the slot
by_newest : (k : Settings) (c : ℕ) (e : Entry) (older : List Entry) (is : Bool) → is_drain_of c e.step ≡ is
    → Unless is (AsksNothing c (past_of k older) (past_of k (e ∷ older)) × NothingSince k c older) → (NothingSince k c older → waiting c (past_of k older).flow ≡ [])
    → waiting c (past_of k (e ∷ older)).flow ≡ []
by_newest k c e older true is nothing before = drained k c older e.step is
by_newest k c e older false is nothing before = nothing.0.bytes ∙ before nothing.1

nothing_waits : (k : Settings) (c : ℕ) (log : List Entry) → NothingSince k c log → waiting c (past_of k log).flow ≡ []
nothing_waits k c [] nothing = refl
nothing_waits k c (e ∷ older) nothing = by_newest k c e older (is_drain_of c e.step) refl nothing (nothing_waits k c older)

after_drain : (k : Settings) (taped : Bool) (c : ℕ) (given : Drained) (seen after : List Entry) → PenCalled k taped c c (Ok given) seen after → NothingSince k c after
after_drain k taped c given seen after call = subst (NothingSince k c) (sym call.after_is) (rw (eq-eqb c c refl) tt)

-- what is shown of a slot is the same, so nothing was asked for it
same_asks : (c : ℕ) (before after : Past) → shown_at c after ≡ shown_at c before → AsksNothing c before after
same_asks c before after same = record {
  bytes = ap (λ (x : List ℕ × Phase × Bool). x.0) same;
  shut = λ is. sym (ap (λ (x : List ℕ × Phase × Bool). x.2) same) ∙ is;
  noop = λ is. sym (ap (λ (x : List ℕ × Phase × Bool). x.1) same) ∙ is;
}

unless_drained : (is : Bool) (rest : Type 0) → rest → Unless is rest
unless_drained true rest r = tt
unless_drained false rest r = r

one_more : (k : Settings) (c : ℕ) (e : Entry) (before : List Entry) → shown_at c (past_of k (e ∷ before)) ≡ shown_at c (past_of k before) → NothingSince k c before → NothingSince k c (e ∷ before)
one_more k c e before same nothing =
    unless_drained (is_drain_of c e.step) (AsksNothing c (past_of k before) (past_of k (e ∷ before)) × NothingSince k c before) (same_asks c (past_of k before) (past_of k (e ∷ before)) same, nothing)

-- ---- a NOOP that is entered asks nothing

awake_isnt_owed : Awake ≡ Owed → ⊥
awake_isnt_owed e = cc

noop_taken : (c d : ℕ) (older : List Note) (is : Bool) → (c == d) ≡ is → phase c (notes.Took d ∷ older) ≡ Owed → phase c older ≡ Owed
noop_taken c d older true is owed = let a : phase c (notes.Took d ∷ older) ≡ Awake = rw is refl in absurd (awake_isnt_owed (sym a ∙ owed))
noop_taken c d older false is owed = let a : phase c (notes.Took d ∷ older) ≡ phase c older = rw is refl in sym a ∙ owed

noop_withdrawn : (c d : ℕ) (older : List Note) (is : Bool) → (c == d) ≡ is → phase c (notes.Withdrew d ∷ older) ≡ Owed → phase c older ≡ Owed
noop_withdrawn c d older true is owed = let a : phase c (notes.Withdrew d ∷ older) ≡ Awake = rw is refl in absurd (awake_isnt_owed (sym a ∙ owed))
noop_withdrawn c d older false is owed = let a : phase c (notes.Withdrew d ∷ older) ≡ phase c older = rw is refl in sym a ∙ owed

took_asks : (c d : ℕ) (past : Past) (refused : Option ApplyError) → AsksNothing c past (unless refused (with_note (notes.Took d) past) past)
took_asks c d past None = record { bytes = refl; shut = λ is. is; noop = noop_taken c d past.notes (c == d) refl }
took_asks c d past (Some error) = record { bytes = refl; shut = λ is. is; noop = λ is. is }

withdrew_asks : (c d : ℕ) (past : Past) (refused : Option ApplyError) → AsksNothing c past (unless refused (with_note (notes.Withdrew d) past) past)
withdrew_asks c d past None = record { bytes = refl; shut = λ is. is; noop = noop_withdrawn c d past.notes (c == d) refl }
withdrew_asks c d past (Some error) = record { bytes = refl; shut = λ is. is; noop = λ is. is }

took_more : (k : Settings) (c d : ℕ) (e : Entry) (before : List Entry) → e.step ≡ tape.Took d → NothingSince k c before → NothingSince k c (e ∷ before)
took_more k c d e before is nothing =
    unless_drained (is_drain_of c e.step) (AsksNothing c (past_of k before) (past_of k (e ∷ before)) × NothingSince k c before)
    (subst (λ (s : TapeStep). AsksNothing c (past_of k before) (run k (step_in s ∷ steps_of before))) (sym is) (took_asks c d (past_of k before) (if_owed d (past_of k before).notes)), nothing)

withdrew_more : (k : Settings) (c d : ℕ) (e : Entry) (before : List Entry) → e.step ≡ tape.Withdrew d → NothingSince k c before → NothingSince k c (e ∷ before)
withdrew_more k c d e before is nothing =
    unless_drained (is_drain_of c e.step) (AsksNothing c (past_of k before) (past_of k (e ∷ before)) × NothingSince k c before)
    (subst (λ (s : TapeStep). AsksNothing c (past_of k before) (run k (step_in s ∷ steps_of before))) (sym is) (withdrew_asks c d (past_of k before) (if_owed d (past_of k before).notes)), nothing)

noop_more : (k : Settings) (c desk : ℕ) (noop : Noop) (before : List Entry) → NothingSince k c before → NothingSince k c (noop_entries desk noop ++ before)
noop_more k c desk Left before nothing = nothing
noop_more k c desk (Taken d) before nothing = took_more k c d (record { actor = Desk desk; step = tape.Took d; answer = nothing_made }) before refl nothing
noop_more k c desk (Withdrawn d) before nothing = withdrew_more k c d (record { actor = Desk desk; step = tape.Withdrew d; answer = nothing_made }) before refl nothing

-- ---- a desk's call

not_lacks : (receipt : Receipt) → Ok receipt ≡ Err Memory → ⊥
not_lacks receipt e = cc

event_more : (k : Settings) (c : ℕ) (e : Entry) (mid after : List Entry) → after ≡ e ∷ mid → shown_at c (past_of k after) ≡ shown_at c (past_of k mid) → NothingSince k c mid → NothingSince k c after
event_more k c e mid after is same nothing =
    subst (NothingSince k c) (sym is) (one_more k c e mid (subst (λ (l : List Entry). shown_at c (past_of k l) ≡ shown_at c (past_of k mid)) is same) nothing)

called : (k : Settings) (taped : Bool) (s : Step) (desk : ℕ) (noop : Noop) (receipt : Receipt) (touched : List ℕ) (before after : List Entry) → Calls k taped s desk noop (Ok receipt) touched before after
    → (c : ℕ) → has touched c ≡ false → NothingSince k c before → NothingSince k c after
called k taped s desk noop receipt touched before after (lacks l) c out nothing = absurd (not_lacks receipt l.result_is)
called k taped s desk noop receipt touched before after (asks a) c out nothing =
    event_more k c _ (noop_entries desk noop ++ before) after a.after_is (a.answers.renews c out) (noop_more k c desk noop before nothing)

called_off : (k : Settings) (taped : Bool) (s : Step) (desk : ℕ) (noop : Noop) (error : ApplyError) (touched : List ℕ) (before after : List Entry) → Calls k taped s desk noop (Err error) touched before after
    → (c : ℕ) → NothingSince k c before → NothingSince k c after
called_off k taped s desk noop error touched before after (lacks l) c nothing = subst (NothingSince k c) (sym l.after_is) nothing
called_off k taped s desk noop error touched before after (asks a) c nothing = subst (NothingSince k c) (sym a.after_is) (noop_more k c desk noop before nothing)

-- ---- slots that aren't open

open_isnt : (b : Bool) → b ≡ true → b ≡ false → ⊥
open_isnt b is isnt = false_isnt (sym isnt ∙ is)

after_refusal : (k : Settings) (taped : Bool) (c : ℕ) (seen after : List Entry) → PenCalled k taped c c (Err NotOpen) seen after → Rests k c after
after_refusal k taped c seen after call = λ is. absurd (open_isnt (is_open c (past_of k after).notes) is (ap (λ (l : List Entry). is_open c (past_of k l).notes) call.after_is ∙ call.gives))

idle_has_nothing : (k : Settings) (c : ℕ) (log : List Entry) → Rests k c log → is_open c (past_of k log).notes ≡ true → waiting c (past_of k log).flow ≡ []
idle_has_nothing k c log rests is = nothing_waits k c log (rests is)

pub drained_rest : DrainedSlotsRest
drained_rest = record {
  idle = idle_has_nothing;
  drained = after_drain;
  closed = after_refusal;
  untouched = λ k taped s desk receipt touched seen after call. called k taped s desk call.noop receipt touched call.before after call.calls;
  refused = λ k taped s desk error touched seen after call. called_off k taped s desk call.noop error touched call.before after call.calls;
}
