-- What came of events, one after another.
use Rattle.std.proofs.Common.{◌≡◌, ℕ, Bool, List, Result, Ok, Err, refl, sym, subst}
use Rattle.gm_notes.specs.declared.event.ApplyError.{ApplyError}
use Rattle.gm_notes.specs.declared.states.Mode.{Mode}
use Rattle.gm_notes.specs.declared.states.Mode.TheVariants.{Running, Graceful, Stopped}
use Rattle.gm_notes.specs.Settings.{Settings}
use Rattle.gm_notes.specs.Steps.{Step}
use Rattle.gm_shared.specs.declared.receipt.Receipt.{Receipt}
use Rattle.gm_shared.specs.declared.tape.Entry.{Entry}
use Rattle.gm_shared.specs.Calls.{HandedIn, if_taken}
use Rattle.gm_session.specs.Talks.{TalkState}
use Rattle.gm_session.specs.Effects.{EffectsState, Keeps, Gathers, nothing, event, tick, refusal, Ticks, later}

gathers_on : (k : Settings) (taped : Bool) (desk : ℕ) (seen mid : List Entry) (old between : EffectsState) → Gathers k taped desk seen old mid between
    → (after : List Entry) (new : EffectsState) → Gathers k taped desk mid between after new → Gathers k taped desk seen old after new
gathers_on k taped desk seen mid old between g after new nothing = g
gathers_on k taped desk seen mid old between g after new (event s receipt here there some more h keeps) =
    event s receipt here there some more (gathers_on k taped desk seen mid old between g here some h) keeps
gathers_on k taped desk seen mid old between g after new (tick here some more h ticks) = tick here some more (gathers_on k taped desk seen mid old between g here some h) ticks
gathers_on k taped desk seen mid old between g after new (refusal here there some h handed) =
    refusal here there some (gathers_on k taped desk seen mid old between g here some h) handed

pub gathers_then : (k : Settings) (taped : Bool) (desk n : ℕ) (seen mid after : List Entry) (old between new : EffectsState) → n ≡ desk → Gathers k taped desk seen old mid between
    → Gathers k taped n mid between after new → Gathers k taped desk seen old after new
gathers_then k taped desk n seen mid after old between new same g h =
    gathers_on k taped desk seen mid old between g after new (subst (λ (i : ℕ). Gathers k taped i mid between after new) same h)

pub gathers_one : (k : Settings) (taped : Bool) (desk : ℕ) (s : Step) (result : Result Receipt ApplyError) (seen after : List Entry) (old new : EffectsState) → Keeps k taped s desk result seen after old new
    → HandedIn desk (if_taken s result) seen after → Gathers k taped desk seen old after new
gathers_one k taped desk s (Ok receipt) seen after old new keeps hands = event s receipt seen after old new nothing keeps
gathers_one k taped desk s (Err refused) seen after old new keeps hands = subst (λ (e : EffectsState). Gathers k taped desk seen old after e) (sym keeps.kept) (refusal seen after old nothing hands)

-- an event that was handed in after ticks
pub gathers_ticked : (k : Settings) (taped : Bool) (desk : ℕ) (s : Step) (result : Result Receipt ApplyError) (seen after : List Entry) (old between new : EffectsState) → Ticks old between
    → Keeps k taped s desk result seen after between new → HandedIn desk (if_taken s result) seen after → Gathers k taped desk seen old after new
gathers_ticked k taped desk s result seen after old between new ticks keeps hands =
    gathers_on k taped desk seen seen old between (tick seen old between nothing ticks) after new (gathers_one k taped desk s result seen after between new keeps hands)

-- the same of a talk that is seen so
pub gathers_from : (k : Settings) (taped : Bool) (t u : TalkState) (after : List Entry) (old new : EffectsState) → u ≡ t → Gathers k taped u.number u.seen old after new → Gathers k taped t.number t.seen old after new
gathers_from k taped t u after old new is g = subst (λ (s : TalkState). Gathers k taped s.number s.seen old after new) is g

-- ---- ticks

later_running : (mode : Mode) → mode ≡ later mode Running
later_running Running = refl
later_running Graceful = refl
later_running Stopped = refl

pub ticks_none : (old : EffectsState) → Ticks old old
ticks_none old = (Running, record { slots = λ c h. h; mode_is = later_running old.mode })

pub ticks_one : (k : Settings) (taped : Bool) (s : Step) (desk : ℕ) (answer : Result Receipt ApplyError) (before after : List Entry) (old new : EffectsState)
    → Keeps k taped s desk answer before after old new → Ticks old new
ticks_one k taped s desk (Ok receipt) before after old new keeps = (receipt.mode, keeps.kept)
ticks_one k taped s desk (Err refused) before after old new keeps = subst (λ (e : EffectsState). Ticks old e) (sym keeps.kept) (ticks_none old)
