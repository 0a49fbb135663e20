-- The accounts that a server hands out.
use Rattle.std.proofs.Common.{◌≡◌, ◌⊎◌, inl, inr, ℕ, ℤ, zero, suc, ◌+◌, ◌*◌, ◌<◌, ◌≤◌, true, false, List, [], ◌∷◌, ◌++◌, length, map, All, Bool, Option, Some, None, refl, sym, ap, ap₂, subst, ◌∙◌, arith, length-append}
use Rattle.std.specs.Prelude.{slice_get, IsSomeAnd, if◌then◌else◌}
use Rattle.std.specs.List.{AllByRecursion as ByRecursion}
use Rattle.std.proofs.lemmas.List.{append-nil, map-append, length-map}
use Rattle.std.proofs.lemmas.List.Elements.{recursion_from_All}
use Rattle.gm_feeder.specs.declared.units.Limits.{Limits}
use Rattle.gm_notes.specs.Settings.{Settings}
use Rattle.gm_notes.specs.Notes.{is_open, phase, is_owed}
use Rattle.gm_notes.specs.Servers.{owes}
use Rattle.gm_shared.specs.declared.tape.Actor.{Actor}
use Rattle.gm_shared.specs.declared.tape.Actor.TheVariants.{Desk, Pen}
use Rattle.gm_shared.specs.declared.tape.Entry.{Entry}
use Rattle.gm_shared.specs.declared.tape.Share.{Share}
use Rattle.gm_shared.specs.declared.tape.Told.{Told}
use Rattle.gm_shared.specs.Tapes.{steps_of, Legal}
use Rattle.gm_shared.specs.Books.{takings}
use Rattle.gm_shared.specs.Histories.{Knows}
use Rattle.gm_shared.specs.Calls.{past_of}
use Rattle.gm_ghost.specs.Owners.{WitnessState}
use Rattle.gm_shared.specs.Shared.{told_by, HasSeenOwn, numbers_below, everybody}
use Rattle.gm_session.specs.Hearings.{AreHeard}
use Rattle.gm_session.specs.declared.heard.Hearings.{Hearings}
use Rattle.gm_session.specs.Talks.{TalkState, IsTalk, IsTalking, IsKnown, GoesThrough}
use Rattle.gm_shared.specs.Pairings.{SideState}
use Rattle.gm_session.proofs.Owning.{and_first}
use Rattle.gm_shared.specs.Openings.{most_openings}
use Rattle.gm_delivery.specs.Accounts.{ArePast, AreOver, WentThrough}
use Rattle.gm_slots.specs.Owners.{AreOwn}
use Rattle.gm_slots.specs.declared.account.Account.{Account}
use Rattle.gm_slots.specs.Connections.{AreServed}
use Rattle.gm_slots.specs.Accounts.{IsSameSockets, IsAccount, AreAccounts, AreCounted, AreAccounted}
use Rattle.gm_slots.proofs.Lives.{are_served}
use Rattle.gm_slots.proofs.Owning.{map_twice, left, right}

abbrev pub DeskSeen : Type 0
DeskSeen = ℕ × List Entry

abbrev pub PenSeen : Type 0
PenSeen = ℕ × List Entry × ℕ

-- ---- as slots are taken apart

-- one slot's account, if its two sides are there
pub account_of : (k : Settings) (t : TalkState) (desk : DeskSeen) (pen : PenSeen) (account : Account) (side : Option SideState) (writing : SideState) (openings : ℕ) (paired : Bool) → IsTalk k t → desk.0 ≡ t.number → desk.1 ≡ t.seen
    → account.limits ≡ t.limits → account.heard ≡ t.hearings → side ≡ t.side → (paired ≡ true → IsSomeAnd side (λ reading. reading.passed ≡ writing.passed)) → ArePast pen.0 account.sent.past pen.1 pen.2
    → (openings < most_openings → (length account.sent.past ≡ openings) × AreOver pen.0 account.sent.past pen.1) → WentThrough account.sent.past writing.passed → account.openings ≡ (if paired then openings else most_openings)
    → IsAccount k desk pen account
account_of k t desk pen account side writing openings paired is number seen limits heard side_is same past counted through openings_is =
    let here = subst (λ (z : ℕ × List Entry × Limits × Hearings). AreHeard k z.0 z.2 z.3.past z.3.since × IsTalking k z.0 z.2 z.3.since z.1 t.talking) (λ i. (sym number i, sym seen i, sym limits i, sym heard i)) (is.past, is.now) in
    record {
      talking = t.talking;
      are_heard = here.0;
      talks = here.1;
      past = past;
      counted = by paired same openings_is;
    }
  where
    goes : (reading : SideState) → t.side ≡ Some reading → GoesThrough t.talking account.heard.past reading.passed
    goes reading there = subst (λ (h : Hearings). GoesThrough t.talking h.past reading.passed) (sym heard) (subst (λ (o : Option SideState). IsKnown o t.talking t.hearings.past) there is.side)

    known : (o : Option SideState) → t.side ≡ o → IsSomeAnd o (λ reading. reading.passed ≡ writing.passed) → IsSameSockets t.talking account
    known None there bad = absurd bad
    known (Some reading) there is_same = (writing.passed, subst (λ (l : List (ℤ × Bool)). GoesThrough t.talking account.heard.past l) is_same (goes reading there), through)

    by : (paired : Bool) → (paired ≡ true → IsSomeAnd side (λ reading. reading.passed ≡ writing.passed)) → account.openings ≡ (if paired then openings else most_openings)
        → account.openings < most_openings → (length account.sent.past ≡ account.openings) × AreOver pen.0 account.sent.past pen.1 × IsSameSockets t.talking account
    by true same known_is below = let so = counted (omega (arith, known_is, below)) in (so.0 ∙ sym known_is, so.1, known side (sym side_is) (same refl))
    by false same known_is below = absurd (omega (arith, known_is, below))

pub one_account_more : (k : Settings) (desks : List DeskSeen) (pens : List PenSeen) (accounts : List Account) (desk : DeskSeen) (pen : PenSeen) (account : Account)
    → length desks ≡ length accounts → length pens ≡ length accounts → AreAccounts k desks pens accounts → IsAccount k desk pen account
    → AreAccounts k (desks ++ desk ∷ []) (pens ++ pen ∷ []) (accounts ++ account ∷ [])
one_account_more k [] [] [] desk pen account d p are is = (is, tt)
one_account_more k (x ∷ desks) [] [] desk pen account d p are is = absurd (omega (arith, d))
one_account_more k [] (x ∷ pens) [] desk pen account d p are is = absurd (omega (arith, p))
one_account_more k (x ∷ desks) (y ∷ pens) [] desk pen account d p are is = absurd (omega (arith, d))
one_account_more k [] pens (a ∷ accounts) desk pen account d p are is = absurd (omega (arith, d))
one_account_more k (x ∷ desks) [] (a ∷ accounts) desk pen account d p are is = absurd (omega (arith, p))
one_account_more k (x ∷ desks) (y ∷ pens) (a ∷ accounts) desk pen account d p are is =
    (are.0, one_account_more k desks pens accounts desk pen account (omega (arith, d)) (omega (arith, p)) are.1 is)

pub one_desk_more : (k : Settings) (desks : List DeskSeen) (pens : List PenSeen) (accounts : List Account) (desk : DeskSeen) → AreAccounts k desks pens accounts → AreAccounts k (desks ++ desk ∷ []) pens accounts
one_desk_more k desks pens [] desk are = tt
one_desk_more k [] pens (a ∷ accounts) desk are = absurd are
one_desk_more k (x ∷ desks) [] (a ∷ accounts) desk are = absurd are
one_desk_more k (x ∷ desks) (y ∷ pens) (a ∷ accounts) desk are = (are.0, one_desk_more k desks pens accounts desk are.1)

pub account_pushed : {A B : Type 0} (k : Settings) (f : A → DeskSeen) (h : B → PenSeen) (desks all : List A) (pens all_pens : List B) (accounts all_accounts : List Account) (desk given : A) (pen : B) (account : Account)
    → all ≡ desks ++ desk ∷ [] → all_pens ≡ pens ++ pen ∷ [] → all_accounts ≡ accounts ++ account ∷ [] → length desks ≡ length accounts → length pens ≡ length accounts
    → AreAccounts k (map f desks) (map h pens) accounts → desk ≡ given → IsAccount k (f given) (h pen) account → AreAccounts k (map f all) (map h all_pens) all_accounts
account_pushed k f h desks all pens all_pens accounts all_accounts desk given pen account d p a long wide are same is =
    subst (λ l. AreAccounts k (map f all) (map h all_pens) l) (sym a)
    (subst (λ l. AreAccounts k (map f all) l (accounts ++ account ∷ [])) (sym (ap (map h) p ∙ map-append h pens (pen ∷ [])))
    (subst (λ l. AreAccounts k l (map h pens ++ h pen ∷ []) (accounts ++ account ∷ [])) (sym (ap (map f) d ∙ map-append f desks (desk ∷ [])))
    (one_account_more k (map f desks) (map h pens) accounts (f desk) (h pen) account (length-map desks f ∙ long) (length-map pens h ∙ wide) are
    (subst (λ x. IsAccount k (f x) (h pen) account) (sym same) is))))

pub desk_pushed : {A : Type 0} (k : Settings) (f : A → DeskSeen) (desks all : List A) (pens : List PenSeen) (accounts : List Account) (desk : A) → all ≡ desks ++ desk ∷ [] → AreAccounts k (map f desks) pens accounts → AreAccounts k (map f all) pens accounts
desk_pushed k f desks all pens accounts desk d are =
    subst (λ l. AreAccounts k l pens accounts) (sym (ap (map f) d ∙ map-append f desks (desk ∷ []))) (one_desk_more k (map f desks) pens accounts (f desk) are)

-- one more on each side
pub longer : {A B : Type 0} (xs all : List A) (x : A) (ys more : List B) (y : B) → all ≡ xs ++ x ∷ [] → more ≡ ys ++ y ∷ [] → length xs ≡ length ys → length all ≡ length more
longer xs all x ys more y is also same = omega (arith, ap length is, length-append xs (x ∷ []), ap length also, length-append ys (y ∷ []), same)

-- ---- whose they are

-- the desks' and the pens' numbers among actors
desks_in : List Actor → List ℕ
desks_in [] = []
desks_in (Desk n ∷ actors) = n ∷ desks_in actors
desks_in (Pen n ∷ actors) = desks_in actors

pens_in : List Actor → List ℕ
pens_in [] = []
pens_in (Desk n ∷ actors) = pens_in actors
pens_in (Pen n ∷ actors) = n ∷ pens_in actors

module _ {A : Type 0} (f : A → ℕ) where
  desks_first : (xs : List A) (ys : List Actor) → desks_in (map (λ x. Desk (f x)) xs ++ ys) ≡ map f xs ++ desks_in ys
  unfolding desks_in
  desks_first [] ys = refl
  desks_first (x ∷ xs) ys = ap (λ l. f x ∷ l) (desks_first xs ys)

  no_desks : (xs : List A) → desks_in (map (λ x. Pen (f x)) xs) ≡ []
  unfolding desks_in
  no_desks [] = refl
  no_desks (x ∷ xs) = no_desks xs

  pens_behind : (xs : List A) (ys : List Actor) → pens_in (map (λ x. Desk (f x)) xs ++ ys) ≡ pens_in ys
  unfolding pens_in
  pens_behind [] ys = refl
  pens_behind (x ∷ xs) ys = pens_behind xs ys

  all_pens : (xs : List A) → pens_in (map (λ x. Pen (f x)) xs) ≡ map f xs
  unfolding pens_in
  all_pens [] = refl
  all_pens (x ∷ xs) = ap (λ l. f x ∷ l) (all_pens xs)

map_id : (xs : List ℕ) → map (λ x. x) xs ≡ xs
map_id [] = refl
map_id (x ∷ xs) = ap (λ l. x ∷ l) (map_id xs)

-- so many numbers from this one on
abbrev counting : ℕ → ℕ → List ℕ
counting c zero = []
counting c (suc n) = c ∷ counting (suc c) n

counting_more : (c n : ℕ) → counting c n ++ (c + n) ∷ [] ≡ counting c (suc n)
counting_more c zero = let same : c + 0 ≡ c = omega arith in ap (λ (m : ℕ). m ∷ []) same
counting_more c (suc n) = let same : c + suc n ≡ suc c + n = omega arith in ap (λ (m : ℕ). c ∷ (counting (suc c) n ++ m ∷ [])) same ∙ ap (λ l. c ∷ l) (counting_more (suc c) n)

below_is : (n : ℕ) → numbers_below n ≡ counting 0 n
below_is zero = refl
below_is (suc n) = let same : n ≡ 0 + n = omega arith in ap (λ l. l ++ n ∷ []) (below_is n) ∙ (ap (λ (m : ℕ). counting 0 n ++ m ∷ []) same ∙ counting_more 0 n)

-- everybody's numbers
module _ {A B : Type 0} (number : A → ℕ) (slot : B → ℕ) (slots : ℕ) (desks : List A) (pens : List B)
    (all : map (λ desk. Desk (number desk)) desks ++ map (λ pen. Pen (slot pen)) pens ≡ everybody slots) where
  pub desk_numbers : map number desks ≡ counting 0 slots ++ slots ∷ []
  unfolding desks_in
  desk_numbers =
      sym (desks_first number desks (map (λ pen. Pen (slot pen)) pens) ∙ (ap (λ l. map number desks ++ l) (no_desks slot pens) ∙ append-nil (map number desks)))
      ∙ (ap desks_in all ∙ (desks_first (λ n. n) (numbers_below slots) (Desk slots ∷ map Pen (numbers_below slots))
      ∙ ap₂ (λ xs ys. xs ++ slots ∷ ys) (map_id (numbers_below slots) ∙ below_is slots) (no_desks (λ n. n) (numbers_below slots))))

  pub pen_numbers : map slot pens ≡ counting 0 slots
  unfolding pens_in
  pen_numbers =
      sym (pens_behind number desks (map (λ pen. Pen (slot pen)) pens) ∙ all_pens slot pens)
      ∙ (ap pens_in all ∙ (pens_behind (λ n. n) (numbers_below slots) (Desk slots ∷ map Pen (numbers_below slots))
      ∙ (all_pens (λ n. n) (numbers_below slots) ∙ (map_id (numbers_below slots) ∙ below_is slots))))

-- ---- the NOOPs that were taken

-- A slot that isn't open is owed no NOOP, so its pen took those that are entered as taken, and no more.
pub took_entered : (k : Settings) (log : List Entry) (c d takes : ℕ) → d ≡ c → is_open c (past_of k log).notes ≡ false
    → (takes ≡ takings d (steps_of log)) ⊎ ((takes ≡ takings d (steps_of log) + 1) × (owes d (past_of k log) ≡ true)) → takes ≡ takings c (steps_of log)
took_entered k log c d takes same closed (inl those) = those ∙ ap (λ (n : ℕ). takings n (steps_of log)) same
took_entered k log c d takes same closed (inr more) =
    let opened : is_open d (past_of k log).notes ≡ true = and_first (is_open d (past_of k log).notes) (is_owed (phase d (past_of k log).notes)) more.1 in
    let bad : true ≡ false = sym opened ∙ (ap (λ (n : ℕ). is_open n (past_of k log).notes) same ∙ closed) in
    absurd cc

-- ---- what they say

module _ (k : Settings) (log : List Entry) (legal : Legal k log) (own : AreOwn log) where
  -- each connection was served, and those that were written to are counted, if they can be
  abbrev IsSo : ℕ → Account → Type 0
  IsSo c account =
      account.openings < most_openings → AreServed k account.limits log c (takings c (steps_of log)) account.heard.past account.sent.past × (length account.sent.past ≡ account.openings)

  -- the history has nothing of a pen that it hasn't seen, and enters as taken what the pen of a slot took
  abbrev IsPensOwn : PenSeen → Type 0
  IsPensOwn pen = Knows log (2 * pen.0 + 1) pen.1 × (pen.0 < k.slots → pen.2 ≡ takings pen.0 (steps_of log))

  served_so : (c : ℕ) (desk : DeskSeen) (pen : PenSeen) (account : Account) → c < k.slots → desk.0 ≡ c → pen.0 ≡ c → Knows log (2 * desk.0) desk.1 → IsPensOwn pen → IsAccount k desk pen account
      → IsSo c account
  served_so c desk pen account less d p seen gave is below =
      let counted = is.counted below in (
        are_served k account.limits log legal own c (takings c (steps_of log)) account.heard.past account.sent.past account.heard.since desk.1 pen.1 is.talking counted.2.0
            (subst (λ (n : ℕ). AreHeard k n account.limits account.heard.past account.heard.since) d is.are_heard)
            (subst (λ (n : ℕ). IsTalking k n account.limits account.heard.since desk.1 is.talking) d is.talks)
            (subst (λ (n : ℕ). Knows log (2 * n) desk.1) d seen) counted.2.1 counted.2.2
            (subst (λ (n : ℕ). ArePast n account.sent.past pen.1 (takings n (steps_of log))) p (subst (ArePast pen.0 account.sent.past pen.1) (gave.1 (subst (λ (n : ℕ). n < k.slots) (sym p) less)) is.past))
            (subst (λ (n : ℕ). AreOver n account.sent.past pen.1) p counted.1)
            (subst (λ (n : ℕ). Knows log (2 * n + 1) pen.1) p gave.0),
        counted.0,
      )

  each_from : (c n : ℕ) (desks : List DeskSeen) (pens : List PenSeen) (accounts : List Account) (rest : List ℕ) → c + n ≤ k.slots → map (λ d. d.0) desks ≡ counting c n ++ rest → map (λ p. p.0) pens ≡ counting c n
      → ByRecursion (λ d. Knows log (2 * d.0) d.1) desks → ByRecursion IsPensOwn pens → AreAccounts k desks pens accounts
      → (i : ℕ) (account : Account) → slice_get accounts i ≡ Some account → IsSo (c + i) account
  each_from c n desks pens [] rest most d p seen gave are i account is = absurd cc
  each_from c n [] pens (a ∷ accounts) rest most d p seen gave are i account is = absurd are
  each_from c n (x ∷ desks) [] (a ∷ accounts) rest most d p seen gave are i account is = absurd are
  each_from c zero (x ∷ desks) (y ∷ pens) (a ∷ accounts) rest most d p seen gave are i account is = absurd cc
  each_from c (suc n) (x ∷ desks) (y ∷ pens) (a ∷ accounts) rest most d p seen gave are zero account is =
      let same : a ≡ account = cc in
      let number : x.0 ≡ c = cc in
      let slot : y.0 ≡ c = cc in
      let here : c ≡ c + 0 = omega arith in
      subst (λ (m : ℕ). IsSo m account) here (subst (IsSo c) same (served_so c x y a (omega (arith, most)) number slot seen.0 gave.0 are.0))
  each_from c (suc n) (x ∷ desks) (y ∷ pens) (a ∷ accounts) rest most d p seen gave are (suc i) account is =
      let next : suc c + i ≡ c + suc i = omega arith in
      let more : map (λ d. d.0) desks ≡ counting (suc c) n ++ rest = cc in
      let others : map (λ p. p.0) pens ≡ counting (suc c) n = cc in
      subst (λ (m : ℕ). IsSo m account) next (each_from (suc c) n desks pens accounts rest (omega (arith, most)) more others seen.1 gave.1 are.1 i account is)

-- What a server hands out, once each share is there.
pub accounted : {A B : Type 0} (number : A → ℕ) (desk_share : A → List Told) (desk_witness : A → WitnessState Entry) (slot : B → ℕ) (pen_share : B → List Told) (pen_witness : B → WitnessState Entry) (takes : B → ℕ)
    (k : Settings) (limits : Limits) (log : List Entry) → Legal k log → AreOwn log → (desks : List A) (pens : List B) (shares : List Share) (accounts : List Account)
    → map told_by shares ≡ map (λ desk. (Desk (number desk), desk_share desk)) desks ++ map (λ pen. (Pen (slot pen), pen_share pen)) pens
    → All (HasSeenOwn log) (map desk_witness desks ++ map pen_witness pens) → All (λ desk. (desk_witness desk).who ≡ 2 * number desk) desks → All (λ pen. (pen_witness pen).who ≡ 2 * slot pen + 1) pens
    → All (λ pen. slot pen < k.slots → takes pen ≡ takings (slot pen) (steps_of log)) pens → map (λ (share : Share). share.actor) shares ≡ everybody k.slots
    → AreAccounts k (map (λ desk. (number desk, (desk_witness desk).seen)) desks) (map (λ pen. (slot pen, (pen_witness pen).seen, takes pen)) pens) accounts → length accounts ≡ k.slots → AreCounted limits log accounts
    → AreAccounted k limits log accounts
accounted {A} {B} number desk_share desk_witness slot pen_share pen_witness takes k limits log legal own desks pens shares accounts are seen desk_who pen_who took all accounts_are count told =
    let first : Actor × List Told → Actor = λ pair. pair.0 in
    let names : map (λ desk. Desk (number desk)) desks ++ map (λ pen. Pen (slot pen)) pens ≡ everybody k.slots =
    sym (sym (map_twice told_by first shares) ∙ (ap (map first) are
    ∙ (map-append first (map (λ desk. (Desk (number desk), desk_share desk)) desks) (map (λ pen. (Pen (slot pen), pen_share pen)) pens)
    ∙ ap₂ (λ xs ys. xs ++ ys) (map_twice (λ desk. (Desk (number desk), desk_share desk)) first desks) (map_twice (λ pen. (Pen (slot pen), pen_share pen)) first pens)))) ∙ all in
    let known = recursion_from_All (HasSeenOwn log) (map desk_witness desks ++ map pen_witness pens) seen in
    let each : (c : ℕ) (account : Account) → slice_get accounts c ≡ Some account → IsSo k log legal own c account = λ c account is. subst (λ (m : ℕ). IsSo k log legal own m account) (let same : 0 + c ≡ c = omega arith in same)
    (each_from k log legal own 0 k.slots (map desk_seen desks) (map pen_seen pens) accounts (k.slots ∷ []) (omega arith)
    (map_twice desk_seen (λ d. d.0) desks ∙ desk_numbers number slot k.slots desks pens names) (map_twice pen_seen (λ p. p.0) pens ∙ pen_numbers number slot k.slots desks pens names)
    (of_desks desks (left (HasSeenOwn log) (map desk_witness desks) (map pen_witness pens) known) (recursion_from_All (λ desk. (desk_witness desk).who ≡ 2 * number desk) desks desk_who))
    (of_pens pens (right (HasSeenOwn log) (map desk_witness desks) (map pen_witness pens) known) (recursion_from_All (λ pen. (pen_witness pen).who ≡ 2 * slot pen + 1) pens pen_who)
    (recursion_from_All (λ pen. slot pen < k.slots → takes pen ≡ takings (slot pen) (steps_of log)) pens took))
    accounts_are c account is) in
    record {
      all = count;
      written = λ c account is. (each c account is (told c account is).2).1 ∙ (told c account is).1;
      each = λ c account is. subst (λ (l : Limits). AreServed k l log c (takings c (steps_of log)) account.heard.past account.sent.past) (told c account is).0 (each c account is (told c account is).2).0;
    }
  where
    desk_seen : A → DeskSeen
    desk_seen desk = (number desk, (desk_witness desk).seen)

    pen_seen : B → PenSeen
    pen_seen pen = (slot pen, (pen_witness pen).seen, takes pen)

    of_desks : (desks : List A) → ByRecursion (HasSeenOwn log) (map desk_witness desks) → ByRecursion (λ desk. (desk_witness desk).who ≡ 2 * number desk) desks
        → ByRecursion (λ (d : DeskSeen). Knows log (2 * d.0) d.1) (map desk_seen desks)
    of_desks [] seen who = tt
    of_desks (desk ∷ desks) seen who = (subst (λ (n : ℕ). Knows log n (desk_witness desk).seen) who.0 seen.0, of_desks desks seen.1 who.1)

    of_pens : (pens : List B) → ByRecursion (HasSeenOwn log) (map pen_witness pens) → ByRecursion (λ pen. (pen_witness pen).who ≡ 2 * slot pen + 1) pens
        → ByRecursion (λ pen. slot pen < k.slots → takes pen ≡ takings (slot pen) (steps_of log)) pens → ByRecursion (IsPensOwn k log legal own) (map pen_seen pens)
    of_pens [] seen who took = tt
    of_pens (pen ∷ pens) seen who took = ((subst (λ (n : ℕ). Knows log n (pen_witness pen).seen) who.0 seen.0, took.0), of_pens pens seen.1 who.1 took.1)
