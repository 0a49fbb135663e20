-- A scan in turn: the function of the last job, and the abilities behind the one for it.
use Rattle.std.proofs.Common.{◌≡◌, ℕ, suc, ◌+◌, ◌≤◌, Bool, true, false, cond, List, [], ◌∷◌, ◌++◌, length, map, take, drop, reverse}
use Rattle.std.proofs.Common.{Option, Some, None, refl, sym, ap, ap₂, ◌∙◌, arith}
use Rattle.std.specs.Prelude.{not, ◌==◌, position}
use Rattle.std.specs.Option.{option_map}
use Rattle.std.proofs.lemmas.Bool.Decides.{nat_tests}
use Rattle.std.proofs.lemmas.List.{map-append, reverse-append, take_all}
use Rattle.std.proofs.Math.ListN.{drop_of_length-le}
use Rattle.gm_notes.specs.declared.note.Note.{Note}
use Rattle.gm_notes.specs.declared.note.Note.TheVariants.{Assigned}
use Rattle.gm_notes.specs.Jobs.{Ability, is_of, job, last_function, behind, up_to, rotated}
use Rattle.gm_plain.proofs.AbilityLemmas.{before, there, nowhere}

-- ---- the function of the last job

-- the newest of the notes and the others
pub newest_first : (notes older : List Note) (note : Note) → notes ≡ older ++ note ∷ [] → reverse notes ≡ note ∷ reverse older
newest_first notes older note is = ap reverse is ∙ reverse-append older (note ∷ [])

pub assigned_here : (c n d : ℕ) (deadline : Option ℕ) (note : Note) (older : List Note) → note ≡ Assigned n d deadline → d ≡ c
    → last_function c (note ∷ older) ≡ option_map (λ job. job.function) (job n older)
assigned_here c n d deadline note older is same =
    let here : (c == d) ≡ true = grind (arith, nat_tests) in
    ap (λ n. last_function c (n ∷ older)) is ∙ rw here refl

-- ---- the abilities behind the one for a function

drop_next : {V : Type 0} (n : ℕ) (x : V) (items : List V) → drop (1 + n + 1) (x ∷ items) ≡ drop (n + 1) items
drop_next n x items = let e : 1 + n + 1 ≡ suc (n + 1) = omega arith in rw e refl

take_next : {V : Type 0} (n : ℕ) (x : V) (items : List V) → take (1 + n + 1) (x ∷ items) ≡ x ∷ take (n + 1) items
take_next n x items = let e : 1 + n + 1 ≡ suc (n + 1) = omega arith in rw e refl

behind_is : {V : Type 0} (view : V → Ability) (f : List ℕ) (items : List V) → behind f (map view items) ≡ map view (drop (before view f items + 1) items)
behind_is view f [] = refl
behind_is view f (x ∷ items) = by (is_of f (view x)) (behind_is view f items)
  where
    by : (here : Bool) → behind f (map view items) ≡ map view (drop (before view f items + 1) items)
        → cond here (map view items) (behind f (map view items)) ≡ map view (drop (cond (not here) (1 + before view f items) 0 + 1) (x ∷ items))
    by true rest = refl
    by false rest = rest ∙ sym (ap (map view) (drop_next (before view f items) x items))

up_to_is : {V : Type 0} (view : V → Ability) (f : List ℕ) (items : List V) → up_to f (map view items) ≡ map view (take (before view f items + 1) items)
up_to_is view f [] = refl
up_to_is view f (x ∷ items) = by (is_of f (view x)) (up_to_is view f items)
  where
    by : (here : Bool) → up_to f (map view items) ≡ map view (take (before view f items + 1) items)
        → cond here (view x ∷ []) (view x ∷ up_to f (map view items)) ≡ map view (take (cond (not here) (1 + before view f items) 0 + 1) (x ∷ items))
    by true rest = refl
    by false rest = ap (λ l. view x ∷ l) rest ∙ sym (ap (map view) (take_next (before view f items) x items))

-- where there is one, those behind it come first
pub turned_at : {V : Type 0} (view : V → Ability) (f : List ℕ) (items new : List V) (i : ℕ) → Some i ≡ position (λ x. is_of f (view x)) items
    → new ≡ drop (i + 1) items ++ take (i + 1) items → map view new ≡ rotated (Some f) (map view items)
turned_at view f items new i is rotated =
    let n = before view f items + 1 in
    ap (map view) (rotated ∙ ap (λ m. drop (m + 1) items ++ take (m + 1) items) (there view f items i is).0)
    ∙ (map-append view (drop n items) (take n items) ∙ sym (ap₂ (λ a b. a ++ b) (behind_is view f items) (up_to_is view f items)))

-- where there is none, nothing changes
pub turned_nowhere : {V : Type 0} (view : V → Ability) (f : List ℕ) (items : List V) → (let o : Option ℕ = None in o) ≡ position (λ x. is_of f (view x)) items
    → map view items ≡ rotated (Some f) (map view items)
turned_nowhere view f items is =
    let n = before view f items + 1 in
    let past : length items ≤ n = omega (arith, nowhere view f items is) in
    sym (ap₂ (λ a b. a ++ b) (behind_is view f items ∙ ap (map view) (drop_of_length-le items past)) (up_to_is view f items ∙ ap (map view) (take_all n items past)))
