-- What a session hands in, unit after unit and piece after piece.
use Rattle.std.proofs.Common.{◌≡◌, ℕ, Bool, true, false, List, [], ◌∷◌, ◌++◌, map, Option, Some, None, Result, Ok, Err, length}
use Rattle.std.proofs.Common.{refl, sym, ap, ap₂, subst, ◌∙◌, arith, length-append}
use Rattle.std.specs.Prelude.{IfSome}
use Rattle.std.proofs.lemmas.List.{append-nil, append_assoc, map-append, reverse-append}
use Rattle.std.specs.Io.KnownBytes.{Consumes, Appends, Keeps}
use Rattle.gm_feeder.specs.declared.units.Limits.{Limits}
use Rattle.gm_feeder.specs.Units.{Item, IsUnitThen, Waits}
use Rattle.gm_feeder.specs.Streams.{Stream, GivesUnit, GivesNone}
use Rattle.gm_feeder.proofs.HeadLemmas.{empty_goes_on}
use Rattle.gm_feeder.proofs.StreamLemmas.{unit_not_empty}
use Rattle.gm_notes.specs.declared.event.UnitFault.{UnitFault}
use Rattle.gm_notes.specs.Settings.{Settings}
use Rattle.gm_notes.specs.Steps.{Step, Fault}
use Rattle.gm_front.specs.Readings.{step_read}
use Rattle.gm_front.specs.Units.{step_said, step_of_unit, steps_of, IsFaultAt, BeginsWith, GivesEvent, GivesFaultAs}
use Rattle.gm_front.proofs.Heads.{begins_then, begins_stay, begins_more}
use Rattle.gm_front.proofs.Reading.{unit_read}
use Rattle.gm_shared.specs.declared.tape.Entry.{Entry}
use Rattle.gm_shared.proofs.Sharing.{events_of_more}
use Rattle.gm_session.specs.declared.session.SessionEnd.{SessionEnd}
use Rattle.gm_session.specs.declared.session.SessionEnd.TheVariants as ends
use Rattle.gm_session.specs.declared.applier.Taken.{Taken}
use Rattle.gm_session.specs.declared.applier.Taken.TheVariants.{Unit as AUnit, Nothing}
use Rattle.gm_session.specs.Sessions.{Adds, HandsIn, Reads, Applies, Stops, TakesNext, Unloads, Fed, Steps, Ends, broke, unread, IsShutBy, StandsNext, unit, broken, IsWhole, IsBroken}

-- ---- events handed in, one after another

pub adds_none : (desk : ℕ) (seen : List Entry) → Adds desk [] seen seen
adds_none desk seen = record { newer = []; goes_on = refl; events_are = refl }

pub adds_then : (desk : ℕ) (xs ys : List Step) (seen mid after : List Entry) → Adds desk xs seen mid → Adds desk ys mid after → Adds desk (xs ++ ys) seen after
adds_then desk xs ys seen mid after a b = record {
  newer = b.newer ++ a.newer;
  goes_on = b.goes_on ∙ (ap (λ l. b.newer ++ l) a.goes_on ∙ sym (append_assoc b.newer a.newer seen));
  events_are = events_of_more desk b.newer a.newer ∙ (ap₂ (λ l m. l ++ m) b.events_are a.events_are ∙ sym (reverse-append xs ys));
}

pub adds_same : (desk : ℕ) (xs ys : List Step) (seen after : List Entry) → xs ≡ ys → Adds desk xs seen after → Adds desk ys seen after
adds_same desk xs ys seen after e a = subst (λ zs. Adds desk zs seen after) e a

-- the steps of units, and then more
steps_then : (k : Settings) (c : ℕ) (items more : List Item) (fault : Option UnitFault) → map (step_of_unit k c) items ++ steps_of k c more fault ≡ steps_of k c (items ++ more) fault
steps_then k c [] more fault = refl
steps_then k c (item ∷ items) more fault = ap (λ steps. step_of_unit k c item ∷ steps) (steps_then k c items more fault)

-- ---- a feeder that is emptied

-- these units were handed in
pub record Handed (k : Settings) (desk c : ℕ) (limits : Limits) (bytes rest : List ℕ) (seen after : List Entry) : Type 0 where
  pub items : List Item
  pub begins : BeginsWith limits bytes items rest
  pub adds : Adds desk (map (step_of_unit k c) items) seen after

pub handed_none : (k : Settings) (desk c : ℕ) (limits : Limits) (bytes : List ℕ) (seen : List Entry) → Handed k desk c limits bytes bytes seen seen
handed_none k desk c limits bytes seen = record { items = []; begins = refl; adds = adds_none desk seen }

-- what was handed in, with the fault that stands behind it or without
hands : (k : Settings) (desk c : ℕ) (limits : Limits) (bytes rest : List ℕ) (fault : Option UnitFault) (seen mid after : List Entry) → Handed k desk c limits bytes rest seen mid
    → IfSome fault (λ fault. IsFaultAt limits rest fault) → Adds desk (steps_of k c [] fault) mid after → HandsIn k desk c limits bytes rest fault seen after
hands k desk c limits bytes rest fault seen mid after h stands adds = record {
  items = h.items;
  begins = h.begins;
  stands = stands;
  adds = adds_then desk (map (step_of_unit k c) h.items) (steps_of k c [] fault) seen mid after h.adds adds;
}

-- some units of the feeder were handed in, and the rest stands there still
pub record Unloading (k : Settings) (desk c : ℕ) (old : Stream) (seen after : List Entry) (new : Stream) : Type 0 where
  pub handed : Handed k desk c old.limits old.pending new.pending seen after
  pub limited : new.limits ≡ old.limits

pub unloading_none : (k : Settings) (desk c : ℕ) (old : Stream) (seen : List Entry) → Unloading k desk c old seen seen old
unloading_none k desk c old seen = record { handed = handed_none k desk c old.limits old.pending seen; limited = refl }

module _ (k : Settings) (taped : Bool) (desk c : ℕ) (old : Stream) (seen mid_seen after : List Entry) (mid new : Stream) (u : Unloading k desk c old seen mid_seen mid) where
  pub unloading_more : (may_be_long : Bool) → TakesNext k taped desk c mid (Ok (AUnit may_be_long)) mid_seen after new → Unloading k desk c old seen after new
  unloading_more may_be_long t = record {
    handed = record {
      items = u.handed.items ++ t.0 ∷ [];
      begins = begins_more old.limits old.pending u.handed.items t.0 mid new u.limited u.handed.begins t.1;
      adds = adds_same desk (map (step_of_unit k c) u.handed.items ++ step_of_unit k c t.0 ∷ []) (map (step_of_unit k c) (u.handed.items ++ t.0 ∷ [])) seen after
          (sym (map-append (step_of_unit k c) u.handed.items (t.0 ∷ [])))
          (adds_then desk (map (step_of_unit k c) u.handed.items) (step_of_unit k c t.0 ∷ []) seen mid_seen after u.handed.adds t.2);
    };
    limited = ap (λ (s : Stream). s.limits) t.1.kept ∙ u.limited;
  }

  pub unloads_all : TakesNext k taped desk c mid (Ok Nothing) mid_seen after new → Unloads k taped desk c old (Ok tt) false seen after new
  unloads_all t = record {
    hands = hands k desk c old.limits old.pending new.pending None seen mid_seen after
        (subst (λ (s : Stream). Handed k desk c old.limits old.pending s.pending seen mid_seen) (sym t.0.kept) u.handed) tt
        (subst (λ (l : List Entry). Adds desk [] mid_seen l) (sym t.1) (adds_none desk mid_seen));
    waits = λ is. subst (λ (s : Stream). Waits old.limits s.pending) (sym t.0.kept) (subst (λ (l : Limits). Waits l mid.pending) u.limited t.0.waits);
    limited = ap (λ (s : Stream). s.limits) t.0.kept ∙ u.limited;
  }

  -- the unit that stands there was refused, or the fault was applied
  pub unloads_stops : (end : SessionEnd) → Stops k taped desk c mid end mid_seen after → (units : Bool) → Unloads k taped desk c old (Err end) units seen after new
  unloads_stops end t units = record {
    rest = mid.pending;
    fault = t.fault;
    hands = hands k desk c old.limits old.pending mid.pending t.fault seen mid_seen after u.handed
        (subst (λ (l : Limits). IfSome t.fault (λ fault. IsFaultAt l mid.pending fault)) u.limited t.stands) t.adds;
    broken = t.broken;
    shut = λ is. subst (λ (l : Limits). IsShutBy k taped desk c l mid.pending t.fault after) u.limited (t.shut is);
  }

-- what was taken is not all, perhaps
pub unloads_some : (k : Settings) (taped : Bool) (desk c : ℕ) (old : Stream) (seen after : List Entry) (new : Stream) → Unloading k desk c old seen after new → Unloads k taped desk c old (Ok tt) true seen after new
unloads_some k taped desk c old seen after new u = record {
  hands = hands k desk c old.limits old.pending new.pending None seen after after u.handed tt (adds_none desk after);
  waits = λ is. absurd cc;
  limited = u.limited;
}

-- a unit was taken at the desk that this is
pub at_home : (k : Settings) (taped : Bool) (desk c n : ℕ) (mid new : Stream) (seen after : List Entry) (result : Result Taken SessionEnd) → n ≡ desk
    → TakesNext k taped n c mid result seen after new → TakesNext k taped desk c mid result seen after new
at_home k taped desk c n mid new seen after result same t = subst (λ (i : ℕ). TakesNext k taped i c mid result seen after new) same t

-- ---- the next unit

module _ (k : Settings) (taped : Bool) (desk c : ℕ) (old mid new : Stream) (seen after : List Entry) (same : mid ≡ old) where
  -- what the unit says is read as its step
  read_as : (s : Step) (g : GivesEvent c mid s new) → step_read k.as_gearmand s ≡ step_of_unit k c g.item
  read_as s g = ap (step_read k.as_gearmand) g.is_step ∙ unit_read k c g.item

  pub next_unit : (s : Step) (may_be_long : Bool) → GivesEvent c mid s new → Applies k taped desk (step_read k.as_gearmand s) (Ok tt) seen after → TakesNext k taped desk c old (Ok (AUnit may_be_long)) seen after new
  next_unit s may_be_long g applies =
      (g.item, subst (λ (m : Stream). GivesUnit m g.item new) same g.gives, adds_same desk (step_read k.as_gearmand s ∷ []) (step_of_unit k c g.item ∷ []) seen after (ap (λ (x : Step). x ∷ []) (read_as s g)) applies)

  pub next_none : GivesNone mid new → after ≡ seen → TakesNext k taped desk c old (Ok Nothing) seen after new
  next_none g left = (subst (λ (m : Stream). GivesNone m new) same g, left)

  fault_stands : (fault : UnitFault) → GivesFaultAs mid fault new → IsFaultAt old.limits old.pending fault
  fault_stands fault g = subst (λ (m : Stream). IsFaultAt m.limits m.pending fault) same (record { fed = g.fed; named = g.named; stands = g.gives.stands })

  pub next_fault : (fault : UnitFault) → GivesFaultAs mid fault new → Applies k taped desk (Fault c fault) (Ok tt) seen after → Stops k taped desk c old ends.Shut seen after
  next_fault fault g applies = record {
    fault = Some fault;
    stands = fault_stands fault g;
    adds = applies;
    broken = tt;
    shut = λ is. tt;
  }

  -- a unit or a fault that was refused
  stops : (s : Step) (end : SessionEnd) → StandsNext k c old.limits old.pending s → Applies k taped desk s (Err end) seen after → Stops k taped desk c old end seen after
  stops s end stands applies = record { fault = None; stands = tt; adds = applies.0; broken = applies.1; shut = λ is. (s, stands, applies.2 is) }

  pub unit_stops : (s : Step) (end : SessionEnd) → GivesEvent c mid s new → Applies k taped desk (step_read k.as_gearmand s) (Err end) seen after → Stops k taped desk c old end seen after
  unit_stops s end g applies =
      stops (step_read k.as_gearmand s) end (subst (λ (x : Step). StandsNext k c old.limits old.pending x) (sym (read_as s g))
      (unit g.item new.pending (subst (λ (m : Stream). IsUnitThen m.limits m.pending g.item new.pending) same g.gives.unit))) applies

  pub fault_stops : (fault : UnitFault) (end : SessionEnd) → GivesFaultAs mid fault new → Applies k taped desk (Fault c fault) (Err end) seen after → Stops k taped desk c old end seen after
  fault_stops fault end g applies = stops (Fault c fault) end (broken fault (fault_stands fault g)) applies

-- a packet that was taken with its memory was refused
pub packet_stops : (k : Settings) (taped : Bool) (desk c : ℕ) (old new : Stream) (item : Item) (s : Step) (end : SessionEnd) (seen after : List Entry) → s ≡ step_said c item → GivesUnit old item new
    → Applies k taped desk (step_read k.as_gearmand s) (Err end) seen after → Stops k taped desk c old end seen after
packet_stops k taped desk c old new item s end seen after is g applies =
    unit_stops k taped desk c old old new seen after refl s end (record { item = item; is_step = is; gives = g }) applies

-- ---- a session

consumes_then : (a b c : Option (List ℕ)) (xs ys : List ℕ) → Consumes a b xs → Consumes b c ys → Consumes a c (xs ++ ys)
consumes_then None b c xs ys f s = tt
consumes_then (Some xa) None c xs ys f s = absurd f
consumes_then (Some xa) (Some xb) None xs ys f s = absurd s
consumes_then (Some xa) (Some xb) (Some xc) xs ys f s = f ∙ (ap (λ zs. xs ++ zs) s ∙ sym (append_assoc xs ys xc))

pub consumes_none : (a : Option (List ℕ)) → Consumes a a []
consumes_none None = tt
consumes_none (Some xa) = refl

-- what breaks a session isn't what ends it as a whole
broken_unwhole : (end : SessionEnd) → IsBroken end → IsWhole end → ⊥
broken_unwhole ends.Ended is whole = is
broken_unwhole ends.ReadFault is whole = is
broken_unwhole ends.Shut is whole = whole
broken_unwhole ends.Memory is whole = whole
broken_unwhole ends.Turns is whole = is
broken_unwhole ends.Stopped is whole = is
broken_unwhole ends.NoThread is whole = is

-- so much was read, and all of it that is a unit was handed in, unless some may be left
pub record Reading (k : Settings) (desk c : ℕ) (limits : Limits) (old now : Option (List ℕ)) (seen after : List Entry) (feeder : Stream) (units : Bool) : Type 0 where
  pub read : List ℕ
  pub consumes : Consumes old now read
  pub limited : feeder.limits ≡ limits
  pub handed : Handed k desk c limits read feeder.pending seen after
  pub waits : units ≡ false → Waits limits feeder.pending

-- nothing stands at the end of no bytes
pub waits_none : (limits : Limits) → Waits limits []
waits_none limits = record {
  no_unit = λ item after u. let some = unit_not_empty limits u.whole item u.unit in omega (arith, some, ap length u.joined, length-append u.whole after);
  goes_on = empty_goes_on limits [] (omega arith) refl;
}

pub reading_none : (k : Settings) (desk c : ℕ) (old : Option (List ℕ)) (seen : List Entry) (feeder : Stream) (units : Bool) → feeder.pending ≡ [] → Reading k desk c feeder.limits old old seen seen feeder units
reading_none k desk c old seen feeder units empty = record {
  read = [];
  consumes = consumes_none old;
  limited = refl;
  handed = subst (λ rest. Handed k desk c feeder.limits [] rest seen seen) (sym empty) (handed_none k desk c feeder.limits [] seen);
  waits = λ left. subst (λ rest. Waits feeder.limits rest) (sym empty) (waits_none feeder.limits);
}

-- a piece came, and had its turn
pub step_took : (k : Settings) (taped : Bool) (desk c : ℕ) (input left heard after_heard : Option (List ℕ)) (feeder fed next : Stream) (units later : Bool) (outcome : Result (Unit {0}) SessionEnd) (seen after : List Entry)
    → Fed input left heard after_heard feeder fed → Unloads k taped desk c fed outcome later seen after next → Steps k taped desk c feeder units input left heard after_heard outcome later seen after next
step_took k taped desk c input left heard after_heard feeder fed next units later (Ok done) seen after came taken =
    record { piece = came.piece; consumes = came.consumes; hears = came.hears; goes_on = subst (λ (s : Stream). Unloads k taped desk c s (Ok done) later seen after next) came.kept taken }
step_took k taped desk c input left heard after_heard feeder fed next units later (Err end) seen after came taken =
    broke came.piece came.consumes came.hears (subst (λ (s : Stream). Unloads k taped desk c s (Err end) later seen after next) came.kept taken)

appends_none : (a : Option (List ℕ)) → Appends a a []
appends_none None = tt
appends_none (Some xs) = sym (append-nil xs)

-- known bytes that stay grow by none
pub keeps_none : (a b : Option (List ℕ)) → Keeps a b → Appends a b []
keeps_none None b h = tt
keeps_none (Some xs) None h = absurd h
keeps_none (Some xs) (Some ys) h = h ∙ sym (append-nil xs)

-- no piece was asked for
pub fed_none : (input heard : Option (List ℕ)) (feeder : Stream) → Fed input input heard heard feeder feeder
fed_none input heard feeder = record {
  piece = [];
  consumes = consumes_none input;
  hears = appends_none heard;
  kept = ap (λ (l : List ℕ). record feeder { pending = l }) (sym (append-nil feeder.pending));
}

module _ (k : Settings) (taped : Bool) (desk c : ℕ) (limits : Limits) (old now new heard after_heard : Option (List ℕ)) (seen mid after : List Entry) (feeder : Stream) (units : Bool)
    (r : Reading k desk c limits old now seen mid feeder units) where
  -- more units, and the fault behind them, after those that were handed in
  hands_more : (piece rest : List ℕ) (fault : Option UnitFault) → HandsIn k desk c feeder.limits (feeder.pending ++ piece) rest fault mid after → HandsIn k desk c limits (r.read ++ piece) rest fault seen after
  hands_more piece rest fault h =
      let begins = subst (λ (l : Limits). BeginsWith l (feeder.pending ++ piece) h.items rest) r.limited h.begins in
      record {
        items = r.handed.items ++ h.items;
        begins = begins_then limits (r.read ++ piece) (feeder.pending ++ piece) rest r.handed.items h.items (begins_stay limits r.read feeder.pending piece r.handed.items r.handed.begins) begins;
        stands = subst (λ (l : Limits). IfSome fault (λ fault. IsFaultAt l rest fault)) r.limited h.stands;
        adds = adds_same desk (map (step_of_unit k c) r.handed.items ++ steps_of k c h.items fault) (steps_of k c (r.handed.items ++ h.items) fault) seen after
            (steps_then k c r.handed.items h.items fault) (adds_then desk (map (step_of_unit k c) r.handed.items) (steps_of k c h.items fault) seen mid after r.handed.adds h.adds);
      }

  reading_more_here : (later : Bool) (next : Stream) → Steps k taped desk c feeder units now new heard after_heard (Ok tt) later mid after next → Reading k desk c limits old new seen after next later
  reading_more_here later next s =
      let more = hands_more s.piece next.pending None s.goes_on.hands in
      record {
        read = r.read ++ s.piece;
        consumes = consumes_then old now new r.read s.piece r.consumes s.consumes;
        limited = s.goes_on.limited ∙ r.limited;
        handed = record { items = more.items; begins = more.begins; adds = adds_same desk (steps_of k c more.items None) (map (step_of_unit k c) more.items) seen after (append-nil (map (step_of_unit k c) more.items)) more.adds };
        waits = λ none. subst (λ (l : Limits). Waits l next.pending) r.limited (s.goes_on.waits none);
      }

  pub reading_more : (n : ℕ) → n ≡ desk → (later : Bool) (next : Stream) → Steps k taped n c feeder units now new heard after_heard (Ok tt) later mid after next
      → Reading k desk c limits old new seen after next later
  reading_more n same later next stepped = reading_more_here later next (subst (λ (i : ℕ). Steps k taped i c feeder units now new heard after_heard (Ok tt) later mid after next) same stepped)

  -- nothing was read any more
  pub reading_ends : (end : SessionEnd) → units ≡ false → Consumes now new [] → (end ≡ ends.Shut → ⊥) → Reads k taped desk c limits old new end seen mid
  reading_ends end none kept unshut = record {
    read = r.read ++ [];
    consumes = consumes_then old now new r.read [] r.consumes kept;
    rest = feeder.pending;
    fault = None;
    hands = hands k desk c limits (r.read ++ []) feeder.pending None seen mid mid
        (subst (λ bytes. Handed k desk c limits bytes feeder.pending seen mid) (sym (append-nil r.read)) r.handed) tt (adds_none desk mid);
    whole = λ w. (refl, r.waits none);
    shut = λ is. absurd (unshut is);
  }

  reading_over_here : (end : SessionEnd) → Ends k taped desk c feeder units now new heard after_heard end mid after → Reads k taped desk c limits old new end seen after
  reading_over_here end (broke piece consumes hears t) = record {
    read = r.read ++ piece;
    consumes = consumes_then old now new r.read piece r.consumes consumes;
    rest = t.rest;
    fault = t.fault;
    hands = hands_more piece t.rest t.fault t.hands;
    whole = λ w. absurd (broken_unwhole end t.broken w);
    shut = λ is. subst (λ (l : Limits). IsShutBy k taped desk c l t.rest t.fault after) r.limited (t.shut is);
  }
  reading_over_here end (unread none consumes kept unshut same) = subst (λ (l : List Entry). Reads k taped desk c limits old new end seen l) (sym same) (reading_ends end none consumes unshut)

  pub reading_over : (n : ℕ) → n ≡ desk → (end : SessionEnd) → Ends k taped n c feeder units now new heard after_heard end mid after → Reads k taped desk c limits old new end seen after
  reading_over n same end ended = reading_over_here end (subst (λ (i : ℕ). Ends k taped i c feeder units now new heard after_heard end mid after) same ended)
