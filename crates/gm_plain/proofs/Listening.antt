-- Who listens to a job, slot by slot.
use Rattle.std.proofs.Common.{◌≡◌, ℕ, suc, ◌<◌, Bool, true, false, List, [], ◌∷◌, ◌++◌, length, Some, None, refl, sym, ap, ◌∙◌, arith}
use Rattle.std.specs.Prelude.{not, ◌&&◌, ◌||◌, ◌==◌, if◌then◌else◌, filter, unwrap_or}
use Rattle.std.specs.List.{All, list_any}
use Rattle.std.proofs.lemmas.Bool.Decides.{nat_tests}
use Rattle.std.proofs.lemmas.List.Folds.{list_any-append}
use Rattle.gm_notes.specs.declared.note.Note.{Note}
use Rattle.gm_notes.specs.declared.note.Note.TheVariants.{Made, Listens, Closed}
use Rattle.gm_notes.specs.Jobs.{listeners}
use Rattle.gm_plain.specs.Searches.{is_listening}

abbrev stands_in : ℕ → List ℕ → Bool
stands_in c slots = list_any (λ d. d == c) slots

pub or_false : (a : Bool) → (a || false) ≡ a
or_false true = refl
or_false false = refl

pub or_true : (a : Bool) → (a || true) ≡ true
or_true true = refl
or_true false = refl

same_either_way : (c d : ℕ) → (c == d) ≡ (d == c)
same_either_way c d = by (c == d) refl
  where
    by : (t : Bool) → (c == d) ≡ t → t ≡ (d == c)
    by true e = let o : (d == c) ≡ true = grind (arith, nat_tests) in sym o
    by false e = let o : (d == c) ≡ false = grind (arith, nat_tests) in sym o

at_end : (c d : ℕ) (slots : List ℕ) → stands_in c (slots ++ d ∷ []) ≡ (stands_in c slots || (d == c))
at_end c d slots = list_any-append (λ x. x == c) slots (d ∷ []) ∙ ap (λ t. stands_in c slots || t) (or_false (d == c))

-- without slot d, where that is c and where it isn't
left_out : (c d : ℕ) (slots : List ℕ) → (c == d) ≡ true → stands_in c (filter (λ x. not (x == d)) slots) ≡ false
left_out c d [] is = refl
left_out c d (x ∷ slots) is = by (x == d) refl (left_out c d slots is)
  where
    by : (t : Bool) → (x == d) ≡ t → stands_in c (filter (λ y. not (y == d)) slots) ≡ false
        → stands_in c (if not t then x ∷ filter (λ y. not (y == d)) slots else filter (λ y. not (y == d)) slots) ≡ false
    by true e rest = rest
    by false e rest =
        let other : (x == c) ≡ false = grind (arith, nat_tests) in
        rw other rest

left_in : (c d : ℕ) (slots : List ℕ) → (c == d) ≡ false → stands_in c (filter (λ x. not (x == d)) slots) ≡ stands_in c slots
left_in c d [] is = refl
left_in c d (x ∷ slots) is = by (x == d) refl (left_in c d slots is)
  where
    by : (t : Bool) → (x == d) ≡ t → stands_in c (filter (λ y. not (y == d)) slots) ≡ stands_in c slots
        → stands_in c (if not t then x ∷ filter (λ y. not (y == d)) slots else filter (λ y. not (y == d)) slots) ≡ ((x == c) || stands_in c slots)
    by true e rest =
        let other : (x == c) ≡ false = grind (arith, nat_tests) in
        rw other rest
    by false e rest = ap (λ t. (x == c) || t) rest

made_at : (t : Bool) (c : ℕ) (slots : List ℕ) (b : Bool) → b ≡ stands_in c slots → unwrap_or (if t then Some false else None) b ≡ stands_in c (if t then [] else slots)
made_at true c slots b e = refl
made_at false c slots b e = e

listens_at : (t s : Bool) (c d : ℕ) (slots : List ℕ) (b : Bool) → (c == d) ≡ s → b ≡ stands_in c slots
    → unwrap_or (if t && s then Some true else None) b ≡ stands_in c (if t then slots ++ d ∷ [] else slots)
listens_at true true c d slots b is e = sym (at_end c d slots ∙ (ap (λ t. stands_in c slots || t) (sym (same_either_way c d) ∙ is) ∙ or_true (stands_in c slots)))
listens_at true false c d slots b is e = e ∙ sym (at_end c d slots ∙ (ap (λ t. stands_in c slots || t) (sym (same_either_way c d) ∙ is) ∙ or_false (stands_in c slots)))
listens_at false s c d slots b is e = e

closed_at : (s : Bool) (c d : ℕ) (slots : List ℕ) (b : Bool) → (c == d) ≡ s → b ≡ stands_in c slots
    → unwrap_or (if s then Some false else None) b ≡ stands_in c (filter (λ x. not (x == d)) slots)
closed_at true c d slots b is e = sym (left_out c d slots is)
closed_at false c d slots b is e = e ∙ sym (left_in c d slots is)

pub listening_is : (n c : ℕ) (notes : List Note) → is_listening n c notes ≡ list_any (λ d. d == c) (listeners n notes)
listening_is n c [] = refl
listening_is n c (Made m f p u body ∷ older) = made_at (n == m) c (listeners n older) (is_listening n c older) (listening_is n c older)
listening_is n c (Listens m d ∷ older) = listens_at (n == m) (c == d) c d (listeners n older) (is_listening n c older) refl (listening_is n c older)
listening_is n c (Closed d ∷ older) = closed_at (c == d) c d (listeners n older) (is_listening n c older) refl (listening_is n c older)
listening_is n c (note ∷ older) = listening_is n c older

some_heard : (c : ℕ) (slots : List ℕ) → stands_in c slots ≡ true → not (length slots == 0) ≡ true
some_heard c [] e = absurd cc
some_heard c (x ∷ slots) e = let long : (suc (length slots) == 0) ≡ false = grind (arith, nat_tests) in rw long refl

none_heard : (slots : ℕ) (found : List ℕ) → All (λ d. d < slots) found → ((d : ℕ) → d < slots → stands_in d found ≡ false) → not (length found == 0) ≡ false
none_heard slots [] below none = refl
none_heard slots (x ∷ found) below none =
    let lt : x < slots = below 0 0 (omega arith) in
    let here : (x == x) ≡ true = grind (arith, nat_tests) in
    let no : ((x == x) || stands_in x found) ≡ false = none x lt in
    let yes : ((x == x) || stands_in x found) ≡ true = rw here refl in
    absurd (let wrong : true ≡ false = sym yes ∙ no in cc)

-- who listens somewhere hears
pub heard_at : (n c : ℕ) (notes : List Note) → is_listening n c notes ≡ true → not (length (listeners n notes) == 0) ≡ true
heard_at n c notes e = some_heard c (listeners n notes) (sym (listening_is n c notes) ∙ e)

pub heard_nowhere : (slots n : ℕ) (notes : List Note) → All (λ d. d < slots) (listeners n notes) → ((d : ℕ) → d < slots → is_listening n d notes ≡ false)
    → not (length (listeners n notes) == 0) ≡ false
heard_nowhere slots n notes below none = none_heard slots (listeners n notes) below (λ d lt. sym (listening_is n d notes) ∙ none d lt)
