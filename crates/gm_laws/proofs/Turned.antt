-- Abilities in turn: which of two functions comes first, and that each function is there once.
use Rattle.std.proofs.Common.{◌≡◌, ℕ, Bool, true, false, cond, not, ◌||◌, List, [], ◌∷◌, ◌++◌, filter, Option, Some, None}
use Rattle.std.proofs.Common.{refl, sym, ap, subst, ◌∙◌}
use Rattle.std.specs.Prelude.{◌==◌}
use Rattle.std.specs.List.{list_any}
use Rattle.std.specs.Str.{bytes_eq}
use Rattle.std.proofs.Math.Bool.{or_comm}
use Rattle.std.proofs.lemmas.Bool.{both_ways, or_parts, or_from, cond_both}
use Rattle.std.proofs.lemmas.Bool.Decides.{same_from_decides}
use Rattle.std.proofs.lemmas.List.{append_assoc}
use Rattle.std.proofs.lemmas.List.Folds.{list_any-append}
use Rattle.std.proofs.lemmas.Slice.Eq.{bytes_eq-Decides}
use Rattle.gm_notes.specs.declared.note.Note.{Note}
use Rattle.gm_notes.specs.declared.note.Note.TheVariants as notes
use Rattle.gm_notes.specs.Jobs.{Ability, is_of, put, abilities, behind, up_to, rotated}

-- ---- the parts behind and up to the ability for f, of two lists joined

first_at : (f : List ℕ) (ability : Ability) (a b : List Ability) (t : Bool)
    → (list_any (is_of f) a ≡ true → (behind f (a ++ b) ≡ behind f a ++ b) × (up_to f (a ++ b) ≡ up_to f a)) → (t || list_any (is_of f) a) ≡ true
    → (cond t (a ++ b) (behind f (a ++ b)) ≡ cond t a (behind f a) ++ b)
    × (cond t (ability ∷ []) (ability ∷ up_to f (a ++ b)) ≡ cond t (ability ∷ []) (ability ∷ up_to f a))
first_at f ability a b true rest e = (refl, refl)
first_at f ability a b false rest e = ((rest e).0, ap (λ l. ability ∷ l) (rest e).1)

in_first : (f : List ℕ) (a b : List Ability) → list_any (is_of f) a ≡ true → (behind f (a ++ b) ≡ behind f a ++ b) × (up_to f (a ++ b) ≡ up_to f a)
in_first f [] b e = absurd cc
in_first f (ability ∷ a) b e = first_at f ability a b (is_of f ability) (in_first f a b) e

second_at : (f : List ℕ) (ability : Ability) (a b : List Ability) (t : Bool)
    → (list_any (is_of f) a ≡ false → (behind f (a ++ b) ≡ behind f b) × (up_to f (a ++ b) ≡ a ++ up_to f b)) → (t || list_any (is_of f) a) ≡ false
    → (cond t (a ++ b) (behind f (a ++ b)) ≡ behind f b)
    × (cond t (ability ∷ []) (ability ∷ up_to f (a ++ b)) ≡ ability ∷ a ++ up_to f b)
second_at f ability a b true rest e = absurd cc
second_at f ability a b false rest e = ((rest e).0, ap (λ l. ability ∷ l) (rest e).1)

in_second : (f : List ℕ) (a b : List Ability) → list_any (is_of f) a ≡ false → (behind f (a ++ b) ≡ behind f b) × (up_to f (a ++ b) ≡ a ++ up_to f b)
in_second f [] b e = (refl, refl)
in_second f (ability ∷ a) b e = second_at f ability a b (is_of f ability) (in_second f a b) e

joined_at : (f : List ℕ) (ability : Ability) (all : List Ability) (t : Bool) → up_to f all ++ behind f all ≡ all
    → cond t (ability ∷ []) (ability ∷ up_to f all) ++ cond t all (behind f all) ≡ ability ∷ all
joined_at f ability all true e = refl
joined_at f ability all false e = ap (λ l. ability ∷ l) e

joined : (f : List ℕ) (all : List Ability) → up_to f all ++ behind f all ≡ all
joined f [] = refl
joined f (ability ∷ all) = joined_at f ability all (is_of f ability) (joined f all)

again_at : (f : List ℕ) (ability : Ability) (all : List Ability) (t : Bool) → is_of f ability ≡ t → up_to f (up_to f all) ≡ up_to f all
    → up_to f (cond t (ability ∷ []) (ability ∷ up_to f all)) ≡ cond t (ability ∷ []) (ability ∷ up_to f all)
again_at f ability all true is e = ap (λ t. cond t (ability ∷ []) (ability ∷ [])) is
again_at f ability all false is e = ap (λ t. cond t (ability ∷ []) (ability ∷ up_to f (up_to f all))) is ∙ ap (λ l. ability ∷ l) e

up_to_again : (f : List ℕ) (all : List Ability) → up_to f (up_to f all) ≡ up_to f all
up_to_again f [] = refl
up_to_again f (ability ∷ all) = again_at f ability all (is_of f ability) refl (up_to_again f all)

-- ---- each function once

-- no ability behind the one for f is for f
abbrev pub Once : List ℕ → List Ability → Type 0
Once f all = list_any (is_of f) (behind f all) ≡ false

-- no ability is for the function of an earlier one
abbrev Apart : List Ability → Type 0
Apart [] = Unit {0}
Apart (ability ∷ all) = (list_any (is_of ability.function) all ≡ false) × Apart all

once_at : (f : List ℕ) (ability : Ability) (all : List Ability) (t : Bool) → is_of f ability ≡ t → list_any (is_of ability.function) all ≡ false → Once f all
    → list_any (is_of f) (cond t all (behind f all)) ≡ false
once_at f ability all true is none rest = subst (λ g. list_any (is_of g) all ≡ false) ((bytes_eq-Decides ability.function f).0 is) none
once_at f ability all false is none rest = rest

once : (f : List ℕ) (all : List Ability) → Apart all → Once f all
once f [] apart = refl
once f (ability ∷ all) apart = once_at f ability all (is_of f ability) refl apart.0 (once f all apart.1)

other_way : (f g : List ℕ) → bytes_eq f g ≡ bytes_eq g f
other_way f g = same_from_decides (bytes_eq f g) (bytes_eq g f) (bytes_eq-Decides f g) ((λ e. sym ((bytes_eq-Decides g f).0 e)), (λ e. (bytes_eq-Decides g f).1 (sym e)))

none_put_at : (f g : List ℕ) (timeout : ℕ) (ability : Ability) (all : List Ability) (t : Bool) → bytes_eq g f ≡ false → is_of f ability ≡ false → list_any (is_of f) all ≡ false → list_any (is_of f) (put g timeout all) ≡ false
    → list_any (is_of f) (cond t (record { function = g; timeout = timeout } ∷ all) (ability ∷ put g timeout all)) ≡ false
none_put_at f g timeout ability all true other one none rest = or_from (bytes_eq g f) (list_any (is_of f) all) other none
none_put_at f g timeout ability all false other one none rest = or_from (is_of f ability) (list_any (is_of f) (put g timeout all)) one rest

none_put : (f g : List ℕ) (timeout : ℕ) (all : List Ability) → bytes_eq g f ≡ false → list_any (is_of f) all ≡ false → list_any (is_of f) (put g timeout all) ≡ false
none_put f g timeout [] other none = or_from (bytes_eq g f) false other refl
none_put f g timeout (ability ∷ all) other none =
    let parts = or_parts (is_of f ability) (list_any (is_of f) all) none in
    none_put_at f g timeout ability all (is_of g ability) other parts.0 parts.1 (none_put f g timeout all other parts.1)

put_apart_at : (f : List ℕ) (timeout : ℕ) (ability : Ability) (all : List Ability) (t : Bool) → is_of f ability ≡ t → list_any (is_of ability.function) all ≡ false → Apart all → Apart (put f timeout all)
    → Apart (cond t (record { function = f; timeout = timeout } ∷ all) (ability ∷ put f timeout all))
put_apart_at f timeout ability all true is none apart rest = (subst (λ g. list_any (is_of g) all ≡ false) ((bytes_eq-Decides ability.function f).0 is) none, apart)
put_apart_at f timeout ability all false is none apart rest = (none_put ability.function f timeout all (other_way f ability.function ∙ is) none, rest)

put_apart : (f : List ℕ) (timeout : ℕ) (all : List Ability) → Apart all → Apart (put f timeout all)
put_apart f timeout [] apart = (refl, tt)
put_apart f timeout (ability ∷ all) apart = put_apart_at f timeout ability all (is_of f ability) refl apart.0 apart.1 (put_apart f timeout all apart.1)

none_kept_at : (f : List ℕ) (test : Ability → Bool) (ability : Ability) (all : List Ability) (t : Bool) → is_of f ability ≡ false → list_any (is_of f) (filter test all) ≡ false
    → list_any (is_of f) (cond t (ability ∷ filter test all) (filter test all)) ≡ false
none_kept_at f test ability all true one rest = or_from (is_of f ability) (list_any (is_of f) (filter test all)) one rest
none_kept_at f test ability all false one rest = rest

none_kept : (f : List ℕ) (test : Ability → Bool) (all : List Ability) → list_any (is_of f) all ≡ false → list_any (is_of f) (filter test all) ≡ false
none_kept f test [] none = refl
none_kept f test (ability ∷ all) none =
    let parts = or_parts (is_of f ability) (list_any (is_of f) all) none in
    none_kept_at f test ability all (test ability) parts.0 (none_kept f test all parts.1)

kept_apart : (test : Ability → Bool) (all : List Ability) → Apart all → Apart (filter test all)
kept_apart test [] apart = tt
kept_apart test (ability ∷ all) apart =
    let rest = kept_apart test all apart.1 in
    cond_both (test ability) (ability ∷ filter test all) (filter test all) Apart (λ e. (none_kept ability.function test all apart.0, rest)) (λ e. rest)

abilities_apart : (c : ℕ) (l : List Note) → Apart (abilities c l)
abilities_apart c [] = tt
abilities_apart c (notes.Opened d addr ∷ older) = cond_both (c == d) [] (abilities c older) Apart (λ e. tt) (λ e. abilities_apart c older)
abilities_apart c (notes.Closed d ∷ older) = cond_both (c == d) [] (abilities c older) Apart (λ e. tt) (λ e. abilities_apart c older)
abilities_apart c (notes.Reset d ∷ older) = cond_both (c == d) [] (abilities c older) Apart (λ e. tt) (λ e. abilities_apart c older)
abilities_apart c (notes.Can d f t ∷ older) =
    let rest = abilities_apart c older in cond_both (c == d) (put f t (abilities c older)) (abilities c older) Apart (λ e. put_apart f t (abilities c older) rest) (λ e. rest)
abilities_apart c (notes.Cant d f ∷ older) =
    let rest = abilities_apart c older in
    cond_both (c == d) (filter (λ ability. not (is_of f ability)) (abilities c older)) (abilities c older) Apart (λ e. kept_apart (λ ability. not (is_of f ability)) (abilities c older) rest) (λ e. rest)
abilities_apart c (note ∷ older) = abilities_apart c older

-- a connection can do each function once
pub abilities_once : (f : List ℕ) (c : ℕ) (l : List Note) → Once f (abilities c l)
abilities_once f c l = once f (abilities c l) (abilities_apart c l)

-- ---- rotated and rotated again

-- where f is in the first of two lists alone, it doesn't matter which comes first
swapped : (f : List ℕ) (a b : List Ability) → list_any (is_of f) a ≡ true → list_any (is_of f) b ≡ false → rotated (Some f) (a ++ b) ≡ rotated (Some f) (b ++ a)
swapped f a b here there =
    let p = in_first f a b here in let q = in_second f b a there in
    ap (λ l. l ++ up_to f (a ++ b)) p.0 ∙ ap (λ l. (behind f a ++ b) ++ l) p.1
    ∙ append_assoc (behind f a) b (up_to f a)
    ∙ sym (ap (λ l. l ++ up_to f (b ++ a)) q.0 ∙ ap (λ l. behind f a ++ l) q.1)

swapped_once : (f : List ℕ) (a b : List Ability) (t : Bool) → list_any (is_of f) a ≡ t → Once f (a ++ b) → (t || list_any (is_of f) b) ≡ true → rotated (Some f) (b ++ a) ≡ rotated (Some f) (a ++ b)
swapped_once f a b true here only e =
    let behind_is = sym (list_any-append (is_of f) (behind f a) b) ∙ sym (ap (list_any (is_of f)) (in_first f a b here).0) ∙ only in
    sym (swapped f a b here (or_parts (list_any (is_of f) (behind f a)) (list_any (is_of f) b) behind_is).1)
swapped_once f a b false here only e = swapped f b a e here

-- abilities rotated for one function and then for another of theirs are rotated for that
pub turned_again : (f : List ℕ) (last : Option (List ℕ)) (all : List Ability) → Once f all → list_any (is_of f) all ≡ true → rotated (Some f) (rotated last all) ≡ rotated (Some f) all
turned_again f None all only e = refl
turned_again f (Some g) all only e =
    let whole = joined g all in
    swapped_once f (up_to g all) (behind g all) (list_any (is_of f) (up_to g all)) refl (subst (Once f) (sym whole) only)
    (sym (list_any-append (is_of f) (up_to g all) (behind g all)) ∙ ap (list_any (is_of f)) whole ∙ e)
    ∙ ap (rotated (Some f)) whole

-- ---- whose turn comes first

-- an ability for h comes before any for f
abbrev pub Ahead : List ℕ → List ℕ → List Ability → Type 0
Ahead h f all = list_any (is_of h) (up_to f all) ≡ true

past_at : (h f : List ℕ) (ability : Ability) (a b : List Ability) (t : Bool) → (Ahead h f (a ++ b) → Ahead h f b) → is_of h ability ≡ false
    → list_any (is_of h) (cond t (ability ∷ []) (ability ∷ up_to f (a ++ b))) ≡ true → Ahead h f b
past_at h f ability a b true rest none e = absurd (both_ways (list_any (is_of h) (ability ∷ [])) (or_from (is_of h ability) false none refl) e)
past_at h f ability a b false rest none e = rest (ap (λ t. t || list_any (is_of h) (up_to f (a ++ b))) (sym none) ∙ e)

-- where the first of two lists has none for h, what comes first in both does in the second
past_first : (h f : List ℕ) (a b : List Ability) → list_any (is_of h) a ≡ false → Ahead h f (a ++ b) → Ahead h f b
past_first h f [] b none e = e
past_first h f (ability ∷ a) b none e =
    let parts = or_parts (is_of h ability) (list_any (is_of h) a) none in
    past_at h f ability a b (is_of f ability) (past_first h f a b parts.1) parts.0 e

or_more : (x y z : Bool) → (y ≡ true → z ≡ true) → (x || y) ≡ true → (x || z) ≡ true
or_more true y z more e = refl
or_more false y z more e = more e

more_at : (h f : List ℕ) (ability : Ability) (a b : List Ability) (t : Bool) → (Ahead h f a → Ahead h f (a ++ b))
    → list_any (is_of h) (cond t (ability ∷ []) (ability ∷ up_to f a)) ≡ true → list_any (is_of h) (cond t (ability ∷ []) (ability ∷ up_to f (a ++ b))) ≡ true
more_at h f ability a b true rest e = e
more_at h f ability a b false rest e = or_more (is_of h ability) (list_any (is_of h) (up_to f a)) (list_any (is_of h) (up_to f (a ++ b))) rest e

-- what comes first does with more behind
before_more : (h f : List ℕ) (a b : List Ability) → Ahead h f a → Ahead h f (a ++ b)
before_more h f [] b e = absurd cc
before_more h f (ability ∷ a) b e = more_at h f ability a b (is_of f ability) (before_more h f a b) e

-- right after f, each other function comes first
pub ahead_after : (h f : List ℕ) (all : List Ability) → Once f all → list_any (is_of h) all ≡ true → Ahead h f (rotated (Some f) all)
ahead_after h f all only e =
    let whole : up_to f (rotated (Some f) all) ≡ rotated (Some f) all = (in_second f (behind f all) (up_to f all) only).1 ∙ ap (λ l. behind f all ++ l) (up_to_again f all) in
    ap (list_any (is_of h)) whole ∙ list_any-append (is_of h) (behind f all) (up_to f all)
    ∙ or_comm (list_any (is_of h) (behind f all)) (list_any (is_of h) (up_to f all))
    ∙ sym (list_any-append (is_of h) (up_to f all) (behind f all)) ∙ ap (list_any (is_of h)) (joined f all) ∙ e

-- what comes first still does after a turn of one before it
pub ahead_still : (h f g : List ℕ) (all : List Ability) → list_any (is_of h) (up_to g all) ≡ false → Ahead h f all → Ahead h f (rotated (Some g) all)
ahead_still h f g all none e =
    before_more h f (behind g all) (up_to g all) (past_first h f (up_to g all) (behind g all) none (subst (Ahead h f) (sym (joined g all)) e))
