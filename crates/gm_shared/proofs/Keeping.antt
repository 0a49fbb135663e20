-- What the lock keeps after a holding, and the pens that it is opened with.
use Rattle.std.proofs.Common.{◌≡◌, ℕ, zero, suc, ◌<◌, List, [], ◌∷◌, ◌++◌, ◌+◌, ◌*◌, length, map, Result, refl, sym}
use Rattle.std.proofs.Common.{ap, subst, ◌∙◌, arith, add-one, All}
use Rattle.std.proofs.lemmas.List.Elements.{All-push}
use Rattle.std.proofs.lemmas.List.{map-append}
use Rattle.atomic_table.specs.Seated.{TableId}
use Rattle.gm_notes.specs.declared.event.ApplyError.{ApplyError}
use Rattle.gm_notes.specs.Settings.{Settings}
use Rattle.gm_notes.specs.Steps.{Step}
use Rattle.gm_word.specs.Seats.{PenState, fresh_pen, fresh_pens}
use Rattle.gm_shared.specs.declared.book.Booked.{Booked}
use Rattle.gm_shared.specs.declared.events.Noop.{Noop}
use Rattle.gm_shared.specs.declared.tape.Told.{Told}
use Rattle.gm_shared.specs.declared.receipt.Receipt.{Receipt}
use Rattle.gm_shared.specs.Books.{Held}
use Rattle.gm_shared.specs.declared.tape.Entry.{Entry}
use Rattle.gm_ghost.specs.Owners.{KeeperState, one_witness_more}
use Rattle.gm_shared.specs.Shared.{HasMade, numbers_below}

pub held_so : {k : Settings} {steps : List Step} {s : Step} {desk : ℕ} {noop : Noop} {result same : Result Receipt ApplyError} {touched : List ℕ} {old new : Booked} {told : List Told}
    → result ≡ same → Held k steps s desk noop same touched old new told → Held k steps s desk noop result touched old new told
held_so {k} {steps} {s} {desk} {noop} {result} {same} {touched} {old} {new} {told} e h = subst (λ r. Held k steps s desk noop r touched old new told) (sym e) h

-- ---- the pens that a book is opened with

-- so many pens, from a slot on
abbrev pub pens_from : TableId → ℕ → ℕ → List PenState
pens_from table k zero = []
pens_from table k (suc n) = fresh_pen table k ∷ pens_from table (k + 1) n

one_more : (table : TableId) (k n : ℕ) → pens_from table k (suc n) ≡ pens_from table k n ++ fresh_pen table (k + n) ∷ []
one_more table k zero = ap (λ (i : ℕ). fresh_pen table i ∷ []) (omega arith)
one_more table k (suc n) =
    ap (λ ps. fresh_pen table k ∷ ps) (one_more table (k + 1) n ∙ ap (λ (i : ℕ). pens_from table (k + 1) n ++ fresh_pen table i ∷ []) (omega arith))

from_first : (table : TableId) (n : ℕ) → fresh_pens table n ≡ pens_from table 0 n
from_first table zero = refl
from_first table (suc n) =
    ap (λ ps. ps ++ fresh_pen table n ∷ []) (from_first table n)
    ∙ (ap (λ (i : ℕ). pens_from table 0 n ++ fresh_pen table i ∷ []) (omega arith) ∙ sym (one_more table 0 n))

-- the pens of the slots from k on are left
pub record PensLeft (table : TableId) (slots k : ℕ) (pens : List PenState) : Type 0 where
  pub count : ℕ
  pub sum : k + count ≡ slots
  pub are : pens ≡ pens_from table k count

pub all_left : (table : TableId) (slots : ℕ) (pens : List PenState) → pens ≡ fresh_pens table slots → PensLeft table slots 0 pens
all_left table slots pens e = record { count = slots; sum = omega arith; are = e ∙ from_first table slots }

pub record NextPen (table : TableId) (slots k : ℕ) (pen : PenState) (pens : List PenState) : Type 0 where
  pub pen_is : pen ≡ fresh_pen table k
  pub inside : k < slots
  pub left : PensLeft table slots (k + 1) pens

next_of : (table : TableId) (slots k n : ℕ) (pen : PenState) (pens : List PenState) → k + n ≡ slots → pen ∷ pens ≡ pens_from table k n → NextPen table slots k pen pens
next_of table slots k zero pen pens sum e = absurd cc
next_of table slots k (suc n) pen pens sum e = record {
  pen_is = cc;
  inside = omega arith;
  left = record { count = n; sum = omega arith; are = cc };
}

pub next_left : (table : TableId) (slots k : ℕ) (all : List PenState) (pen : PenState) (pens : List PenState) → PensLeft table slots k all → all ≡ pen ∷ pens → NextPen table slots k pen pens
next_left table slots k all pen pens left e = next_of table slots k left.count pen pens left.sum (sym e ∙ left.are)

none_of : (table : TableId) (slots k n : ℕ) → k + n ≡ slots → [] ≡ pens_from table k n → k ≡ slots
none_of table slots k zero sum e = omega arith
none_of table slots k (suc n) sum e = absurd cc

pub none_left : (table : TableId) (slots k : ℕ) (all : List PenState) → PensLeft table slots k all → length all ≡ 0 → k ≡ slots
none_left table slots k [] left e = none_of table slots k left.count left.sum left.are
none_left table slots k (pen ∷ pens) left e = absurd cc

pub numbers_grow : {A : Type 0} (f : A → ℕ) (xs all : List A) (x : A) (n : ℕ) → all ≡ xs ++ x ∷ [] → map f xs ≡ numbers_below n → f x ≡ n → map f all ≡ numbers_below (n + 1)
numbers_grow f xs all x n e h is =
    ap (map f) e ∙ (map-append f xs (x ∷ []) ∙ (ap (λ ys. ys ++ f x ∷ []) h ∙ (ap (λ (i : ℕ). numbers_below n ++ i ∷ []) is ∙ ap numbers_below (sym (add-one n)))))

pub all_more : {A : Type 0} (P : A → Type 0) (xs all : List A) (x : A) → all ≡ xs ++ x ∷ [] → All P xs → P x → All P all
all_more P xs all x e h is = subst (λ l. All P l) (sym e) (All-push P xs x h is)

-- two witnesses more
pub made_more : (history : TableId) (n : ℕ) (old mid new : KeeperState Entry) → HasMade (2 * n) history old → mid ≡ one_witness_more old → new ≡ one_witness_more mid → HasMade (2 * (n + 1)) history new
made_more history n old mid new h e f = record {
  history_is = ap (λ k. k.table) f ∙ (ap (λ k. k.table) e ∙ h.history_is);
  empty = ap (λ k. k.log) f ∙ (ap (λ k. k.log) e ∙ h.empty);
  count_is = omega (arith, ap (λ (k : KeeperState Entry). k.made) f, ap (λ (k : KeeperState Entry). k.made) e, h.count_is);
}
