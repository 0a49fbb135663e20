-- The first word of a line, by the positions at which gaps end and begin.
use Rattle.std.proofs.Common.{◌≡◌, ℕ, suc, ◌+◌, ◌<◌, ◌≤◌, Bool, true, false, cond, ltb, not, List, [], ◌∷◌, length, take, drop, Some}
use Rattle.std.proofs.Common.{None, refl, sym, ap, subst, ◌∙◌, arith, position, unwrap_or}
use Rattle.std.specs.Prelude.{if◌then◌else◌}
use Rattle.std.specs.List.{position_or_len}
use Rattle.std.proofs.Math.Numerals.{one-add}
use Rattle.std.proofs.lemmas.List.{length-drop}
use Rattle.std.proofs.lemmas.List.Sums.{prefix_len-le-length}
use Rattle.std.proofs.lemmas.Bool.Decides.{nat_tests}
use Rattle.gm_admin.specs.Commands.{is_gap, with_head, words_with, words_of}

-- how many gaps come first
abbrev pub gaps : List ℕ → ℕ
gaps bytes = position_or_len (λ b. not (is_gap b)) bytes

-- how many bytes come before the first gap
abbrev pub run : List ℕ → ℕ
run bytes = position_or_len is_gap bytes

-- ---- one byte more in front

gaps_more : (b : ℕ) (bytes : List ℕ) → is_gap b ≡ true → gaps (b ∷ bytes) ≡ suc (gaps bytes)
gaps_more b bytes is = ap (λ t. cond (not (not t)) (1 + gaps bytes) 0) is ∙ one-add (gaps bytes)

gaps_none : (b : ℕ) (bytes : List ℕ) → is_gap b ≡ false → gaps (b ∷ bytes) ≡ 0
gaps_none b bytes is = ap (λ t. cond (not (not t)) (1 + gaps bytes) 0) is

run_more : (b : ℕ) (bytes : List ℕ) → is_gap b ≡ false → run (b ∷ bytes) ≡ suc (run bytes)
run_more b bytes is = ap (λ t. cond (not t) (1 + run bytes) 0) is ∙ one-add (run bytes)

run_none : (b : ℕ) (bytes : List ℕ) → is_gap b ≡ true → run (b ∷ bytes) ≡ 0
run_none b bytes is = ap (λ t. cond (not t) (1 + run bytes) 0) is

words_gap : (b : ℕ) (bytes : List ℕ) → is_gap b ≡ true → words_of (b ∷ bytes) ≡ words_of bytes
words_gap b bytes is = ap (λ t. if t then words_of bytes else words_with b bytes (words_of bytes)) is

words_run : (b : ℕ) (bytes : List ℕ) → is_gap b ≡ false → words_of (b ∷ bytes) ≡ words_with b bytes (words_of bytes)
words_run b bytes is = ap (λ t. if t then words_of bytes else words_with b bytes (words_of bytes)) is

joined_gap : (b c : ℕ) (bytes : List ℕ) (words : List (List ℕ)) → is_gap c ≡ true → words_with b (c ∷ bytes) words ≡ (b ∷ []) ∷ words
joined_gap b c bytes words is = ap (λ t. if t then (b ∷ []) ∷ words else with_head b words) is

joined_run : (b c : ℕ) (bytes : List ℕ) (words : List (List ℕ)) → is_gap c ≡ false → words_with b (c ∷ bytes) words ≡ with_head b words
joined_run b c bytes words is = ap (λ t. if t then (b ∷ []) ∷ words else with_head b words) is

-- ---- a word at the head

-- the first n bytes are the first word
abbrev Cut : ℕ → List ℕ → Type 0
Cut n bytes = words_of bytes ≡ take n bytes ∷ words_of (drop n bytes)

cut_more : (t : Bool) (b c : ℕ) (bytes : List ℕ) → is_gap c ≡ t → (t ≡ false → Cut (run (c ∷ bytes)) (c ∷ bytes)) → is_gap b ≡ false → Cut (run (b ∷ c ∷ bytes)) (b ∷ c ∷ bytes)
cut_more true b c bytes gap rest is =
    subst (λ (n : ℕ). Cut n (b ∷ c ∷ bytes)) (sym (run_more b (c ∷ bytes) is ∙ ap suc (run_none c bytes gap)))
    (words_run b (c ∷ bytes) is ∙ joined_gap b c bytes (words_of (c ∷ bytes)) gap)
cut_more false b c bytes gap rest is =
    subst (λ (n : ℕ). Cut n (b ∷ c ∷ bytes)) (sym (run_more b (c ∷ bytes) is))
    (words_run b (c ∷ bytes) is ∙ joined_run b c bytes (words_of (c ∷ bytes)) gap ∙ ap (with_head b) (rest refl))

cut_at_run : (b : ℕ) (bytes : List ℕ) → is_gap b ≡ false → Cut (run (b ∷ bytes)) (b ∷ bytes)
cut_at_run b [] is = subst (λ (n : ℕ). Cut n (b ∷ [])) (sym (run_more b [] is)) (words_run b [] is)
cut_at_run b (c ∷ bytes) is = cut_more (is_gap c) b c bytes refl (cut_at_run c bytes) is

-- ---- a word after gaps

-- the first word begins at n
abbrev First : ℕ → List ℕ → Type 0
First n bytes = words_of bytes ≡ take (run (drop n bytes)) (drop n bytes) ∷ words_of (drop (run (drop n bytes)) (drop n bytes))

first_more : (t : Bool) (b : ℕ) (bytes : List ℕ) → is_gap b ≡ t → (gaps bytes < length bytes → First (gaps bytes) bytes) → gaps (b ∷ bytes) < suc (length bytes) → First (gaps (b ∷ bytes)) (b ∷ bytes)
first_more true b bytes is rest lt =
    let more = gaps_more b bytes is in
    subst (λ (n : ℕ). First n (b ∷ bytes)) (sym more) (words_gap b bytes is ∙ rest (omega (arith, more, lt)))
first_more false b bytes is rest lt = subst (λ (n : ℕ). First n (b ∷ bytes)) (sym (gaps_none b bytes is)) (cut_at_run b bytes is)

first_word : (bytes : List ℕ) → gaps bytes < length bytes → First (gaps bytes) bytes
first_word [] lt = absurd (omega arith)
first_word (b ∷ bytes) lt = first_more (is_gap b) b bytes refl (first_word bytes) lt

none_more : (t : Bool) (b : ℕ) (bytes : List ℕ) → is_gap b ≡ t → (length bytes ≤ gaps bytes → words_of bytes ≡ []) → suc (length bytes) ≤ gaps (b ∷ bytes) → words_of (b ∷ bytes) ≡ []
none_more true b bytes is rest le = words_gap b bytes is ∙ rest (omega (arith, gaps_more b bytes is, le))
none_more false b bytes is rest le = absurd (omega (arith, gaps_none b bytes is, le))

no_word : (bytes : List ℕ) → length bytes ≤ gaps bytes → words_of bytes ≡ []
no_word [] le = refl
no_word (b ∷ bytes) le = none_more (is_gap b) b bytes refl (no_word bytes) le

-- ---- as the code finds them

position_or_len_is : (t : Bool) (n len : ℕ) → ltb n len ≡ t → n ≤ len → unwrap_or (cond t (Some n) None) len ≡ n
position_or_len_is true n len is le = refl
position_or_len_is false n len is le = let most : len ≤ n = grind (arith, nat_tests) in omega arith

-- the position that a search finds, or the length
pub position_or : (p : ℕ → Bool) (bytes : List ℕ) → unwrap_or (position p bytes) (length bytes) ≡ position_or_len p bytes
position_or p bytes = position_or_len_is (ltb (position_or_len p bytes) (length bytes)) (position_or_len p bytes) (length bytes) refl (prefix_len-le-length (λ x. not (p x)) bytes)

-- nothing follows the gaps
pub none_after : (bytes : List ℕ) (n : ℕ) → n ≡ gaps bytes → length (drop n bytes) ≡ 0 → words_of bytes ≡ []
none_after bytes n is empty = no_word bytes (omega (arith, length-drop n bytes))

-- the word after the gaps, and what follows it
pub word_after : (bytes : List ℕ) (n m : ℕ) → n ≡ gaps bytes → 0 < length (drop n bytes) → m ≡ run (drop n bytes) → words_of bytes ≡ take m (drop n bytes) ∷ words_of (drop m (drop n bytes))
word_after bytes n m n_is some m_is =
    subst (λ (k : ℕ). words_of bytes ≡ take k (drop n bytes) ∷ words_of (drop k (drop n bytes))) (sym m_is)
    (subst (λ (k : ℕ). First k bytes) (sym n_is) (first_word bytes (omega (arith, length-drop n bytes))))
