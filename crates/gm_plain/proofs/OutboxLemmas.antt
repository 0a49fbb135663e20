-- The bytes that wait, slot by slot.
use Rattle.std.proofs.Common.{◌≡◌, ℕ, ◌<◌, List, [], ◌++◌, length, map, get_or, set, sym, ap, ◌∙◌, arith, Vec, Global}
use Rattle.std.proofs.lemmas.List.{map-set, get_or-map, length-map, length-set}
use Rattle.std.proofs.Math.Seq.{map-set_same}

-- the bytes of one of them
abbrev pub items_of : Vec ℕ Global → List ℕ
items_of outbox = outbox.items

-- a place among what is seen is one among what is kept
pub within : {V : Type 0} (f : V → List ℕ) (xs : List V) (ys : List (List ℕ)) (i : ℕ) → map f xs ≡ ys → i < length ys → i < length xs
within f xs ys i view lt = omega (arith, ap length view, length-map xs f)

-- what stands at a place, seen by f
pub seen_at : {V : Type 0} (f : V → List ℕ) (xs : List V) (ys : List (List ℕ)) (i : ℕ) (old : V) → map f xs ≡ ys → i < length xs → old ≡ get_or xs i old → f old ≡ get_or ys i []
seen_at f xs ys i old view lt is = ap f is ∙ sym (get_or-map f xs i old [] lt) ∙ ap (λ l. get_or l i []) view

-- one of them grows
pub outbox_given : {V : Type 0} (f : V → List ℕ) (xs : List V) (ys : List (List ℕ)) (i : ℕ) (old new : V) (more : List ℕ) → map f xs ≡ ys → i < length xs → old ≡ get_or xs i old → f new ≡ f old ++ more → map f (set xs i new) ≡ set ys i (get_or ys i [] ++ more)
outbox_given f xs ys i old new more view lt is grown =
    map-set f xs i new ∙ ap (λ l. set l i (f new)) view ∙ ap (set ys i) (grown ∙ ap (λ l. l ++ more) (seen_at f xs ys i old view lt is))

-- one of them becomes another
pub outbox_set : {V : Type 0} (f : V → List ℕ) (xs : List V) (ys : List (List ℕ)) (i : ℕ) (new : V) (bytes : List ℕ) → map f xs ≡ ys → f new ≡ bytes → map f (set xs i new) ≡ set ys i bytes
outbox_set f xs ys i new bytes view e = map-set f xs i new ∙ ap (λ l. set l i (f new)) view ∙ ap (set ys i) e

-- one of them stays
pub outbox_same : {V : Type 0} (f : V → List ℕ) (xs : List V) (ys : List (List ℕ)) (i : ℕ) (old new : V) → map f xs ≡ ys → old ≡ get_or xs i old → f new ≡ f old → map f (set xs i new) ≡ ys
outbox_same f xs ys i old new view is e = map-set_same f xs i new old (e ∙ ap f is) ∙ view

-- their number stays
pub outboxes_len : {V : Type 0} (f : V → List ℕ) (xs : List V) (ys : List (List ℕ)) (i : ℕ) (new : V) → map f xs ≡ ys → length (map f (set xs i new)) ≡ length ys
outboxes_len f xs ys i new view = length-map (set xs i new) f ∙ length-set xs i new ∙ sym (length-map xs f) ∙ ap length view
