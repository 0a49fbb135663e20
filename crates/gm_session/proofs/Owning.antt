-- What a desk hands in is its own.
use Rattle.std.proofs.Common.{◌≡◌, ℕ, Bool, true, false, List, [], ◌∷◌, ◌++◌, Option, Some, None, Result, Ok, Err, refl, sym, ap, subst, ◌∙◌}
use Rattle.std.specs.Prelude.{◌&&◌, reverse}
use Rattle.std.proofs.lemmas.List.{reverse-append}
use Rattle.gm_feeder.specs.Units.{Item, APacket, ALine}
use Rattle.gm_feeder.specs.declared.units.Limits.{Limits}
use Rattle.gm_front.specs.Units.{steps_of as steps_of_units}
use Rattle.gm_notes.specs.declared.event.ApplyError.{ApplyError}
use Rattle.gm_notes.specs.declared.event.UnitFault.{UnitFault}
use Rattle.gm_notes.specs.Settings.{Settings}
use Rattle.gm_notes.specs.Steps.{Step}
use Rattle.gm_shared.specs.declared.receipt.Receipt.{Receipt}
use Rattle.gm_shared.specs.declared.tape.Entry.{Entry}
use Rattle.gm_shared.specs.Calls.{HandedIn, if_taken, events_of}
use Rattle.gm_shared.proofs.Sharing.{and_more, events_of_more}
use Rattle.gm_session.specs.declared.session.SessionEnd.{SessionEnd}
use Rattle.gm_session.specs.Sessions.{HandsIn, Steps, broke, unread}
use Rattle.gm_feeder.specs.Streams.{Stream}
use Rattle.gm_session.specs.Owners.{is_said_by, are_said_by, SaysOwn}
use Rattle.gm_notes.proofs.Numbers.{same_number}
use Rattle.std.proofs.lemmas.Bool.{and_from}

-- ---- tests

pub and_first : (a b : Bool) → (a && b) ≡ true → a ≡ true
and_first true b h = refl
and_first false b h = absurd cc

pub and_second : (a b : Bool) → (a && b) ≡ true → b ≡ true
and_second true b h = h
and_second false b h = absurd cc

-- ---- what is handed in at a desk

said_append : (n : ℕ) (xs ys : List Step) → are_said_by n (xs ++ ys) ≡ (are_said_by n xs && are_said_by n ys)
said_append n [] ys = refl
said_append n (s ∷ xs) ys = ap (λ b. is_said_by n s && b) (said_append n xs ys) ∙ and_more (is_said_by n s) (are_said_by n xs) (are_said_by n ys)

pub said_reverse : (n : ℕ) (xs : List Step) → are_said_by n xs ≡ true → are_said_by n (reverse xs) ≡ true
said_reverse n [] h = refl
said_reverse n (s ∷ xs) h =
    ap (are_said_by n) (reverse-append (s ∷ []) xs)
    ∙ (said_append n (reverse xs) (s ∷ [])
    ∙ and_from (are_said_by n (reverse xs)) (is_said_by n s && true) (said_reverse n xs (and_second (is_said_by n s) (are_said_by n xs) h)) (ap (λ b. b && true) (and_first (is_said_by n s) (are_said_by n xs) h)))

-- a desk that handed in these events more
more_own : (n : ℕ) (events : List Step) (seen after : List Entry) → HandedIn n events seen after → are_said_by n events ≡ true → SaysOwn n seen → SaysOwn n after
more_own n events seen after h own before =
    ap (λ l. are_said_by n (events_of n l)) h.goes_on
    ∙ (ap (are_said_by n) (events_of_more n h.newer seen)
    ∙ (said_append n (events_of n h.newer) (events_of n seen)
    ∙ and_from (are_said_by n (events_of n h.newer)) (are_said_by n (events_of n seen)) (ap (are_said_by n) h.events_are ∙ own) before))

taken_said : (n : ℕ) (s : Step) (result : Result Receipt ApplyError) → is_said_by n s ≡ true → are_said_by n (if_taken s result) ≡ true
taken_said n s (Ok receipt) own = ap (λ b. b && true) own
taken_said n s (Err refused) own = refl

pub own_event : (n m : ℕ) (s : Step) (result : Result Receipt ApplyError) (seen after : List Entry) → m ≡ n → is_said_by n s ≡ true
    → HandedIn n (if_taken s result) seen after → SaysOwn n seen → SaysOwn m after
own_event n m s result seen after same own hands before =
    ap (λ (i : ℕ). are_said_by i (events_of i after)) same ∙ more_own n (if_taken s result) seen after hands (taken_said n s result own) before

units_said : (k : Settings) (c : ℕ) (items : List Item) (fault : Option UnitFault) → are_said_by c (steps_of_units k c items fault) ≡ true
units_said k c [] None = refl
units_said k c [] (Some fault) = ap (λ b. b && true) (same_number c)
units_said k c (APacket kind bytes ∷ items) fault = ap (λ b. b && are_said_by c (steps_of_units k c items fault)) (same_number c) ∙ units_said k c items fault
units_said k c (ALine bytes ∷ items) fault = ap (λ b. b && are_said_by c (steps_of_units k c items fault)) (same_number c) ∙ units_said k c items fault

own_hands : (k : Settings) (n m c : ℕ) (limits : Limits) (bytes rest : List ℕ) (fault : Option UnitFault) (seen after : List Entry) → c ≡ n → m ≡ n
    → HandsIn k n c limits bytes rest fault seen after → SaysOwn n seen → SaysOwn m after
own_hands k n m c limits bytes rest fault seen after here same hands before =
    let steps = steps_of_units k c hands.items fault in
    ap (λ (i : ℕ). are_said_by i (events_of i after)) same
    ∙ more_own n (reverse steps) seen after hands.adds (said_reverse n steps (subst (λ (i : ℕ). are_said_by i steps ≡ true) here (units_said k c hands.items fault))) before

-- what a session reads in a step is said at its desk
pub own_steps : (k : Settings) (taped : Bool) (n m c : ℕ) (old : Stream) (units : Bool) (input left heard after_heard : Option (List ℕ)) (outcome : Result (Unit {0}) SessionEnd) (later : Bool) (seen after : List Entry) (new : Stream)
    → c ≡ n → m ≡ n → Steps k taped n c old units input left heard after_heard outcome later seen after new → SaysOwn n seen → SaysOwn m after
own_steps k taped n m c old units input left heard after_heard (Ok done) later seen after new here same s before =
    own_hands k n m c old.limits (old.pending ++ s.piece) new.pending None seen after here same s.goes_on.hands before
own_steps k taped n m c old units input left heard after_heard (Err end) later seen after new here same (broke piece consumes hears b) before =
    own_hands k n m c old.limits (old.pending ++ piece) b.rest b.fault seen after here same b.hands before
own_steps k taped n m c old units input left heard after_heard (Err end) later seen after new here same (unread none consumes kept unshut e) before =
    subst (λ (l : List Entry). SaysOwn m l) (sym e) (ap (λ (i : ℕ). are_said_by i (events_of i seen)) same ∙ before)
