-- Arguments joined by NULs, as the writer goes over them.
use Rattle.std.proofs.Common.{◌≡◌, ℕ, zero, suc, ◌+◌, ◌-◌, ◌≤◌, ◌<◌, Bool, true, false, not, List, [], ◌∷◌, ◌++◌, length, take, drop}
use Rattle.std.proofs.Common.{get_or, map, refl, sym, ap, ◌∙◌, arith, append_assoc}
use Rattle.std.specs.Prelude.{IsTrue, ◌↔◌}
use Rattle.std.specs.List.{list_any, flat_map, join_with_byte}
use Rattle.std.proofs.Math.Seq.{drop-cons}
use Rattle.std.proofs.Math.Numerals.{add-one, one-add}
use Rattle.std.proofs.lemmas.List.{take_rest, append-nil, length-append}
use Rattle.std.specs.Borrow.{Bor}
use Rattle.std.specs.Int.{w32, to_be_bytes}
use Rattle.gm_packet.specs.Packets.{has_nul, LackNul}

-- an argument behind its NUL
abbrev pub behind : Bor (List ℕ) → List ℕ
behind text = 0 ∷ text.now

-- the arguments without where they lie
abbrev pub texts_of : List (Bor (List ℕ)) → List (List ℕ)
texts_of texts = map (λ text. text.now) texts

pub join_is : (first : Bor (List ℕ)) (rest : List (Bor (List ℕ))) → join_with_byte 0 (texts_of (first ∷ rest)) ≡ first.now ++ flat_map behind rest
join_is first [] = sym (append-nil first.now)
join_is first (second ∷ rest) = ap (λ (x : List ℕ). first.now ++ 0 ∷ x) (join_is second rest)

pub list_any-take : (n : ℕ) (texts : List (Bor (List ℕ))) → list_any has_nul (take n (texts_of texts)) ≡ list_any (λ text. has_nul text.now) (take n texts)
list_any-take zero texts = refl
list_any-take (suc n) [] = refl
list_any-take (suc n) (text ∷ texts) = rw (list_any-take n texts) refl

-- all of a list that isn't empty, as a pattern takes it apart
pub whole_is : (texts : List (Bor (List ℕ))) (d : Bor (List ℕ)) → 1 ≤ length texts → join_with_byte 0 (texts_of texts) ≡ (get_or texts 0 d).now ++ flat_map behind (take (length texts - 1) (drop 1 texts))
whole_is [] d some = absurd (omega arith)
whole_is (first ∷ rest) d some = join_is first rest ∙ ap (λ x. first.now ++ flat_map behind x) (sym (take_rest (first ∷ rest) 1))

-- room for one argument more
pub room_more : (rest : List (Bor (List ℕ))) (i : ℕ) (d : Bor (List ℕ)) → i < length rest → length (flat_map behind (drop i rest)) ≡ 1 + length (get_or rest i d).now + length (flat_map behind (drop (i + 1) rest))
room_more rest i d lt =
    ap (λ x. length (flat_map behind x)) (drop-cons rest i d lt) ∙ length-append (behind (get_or rest i d)) (flat_map behind (drop (suc i) rest))
    ∙ rw (add-one, one-add) refl

-- an element past the end
abbrev pub no_text : Bor (List ℕ)
no_text = record { ref_ptr = (0, 0); now = [] }

pub whole_len : (texts : List (Bor (List ℕ))) (d : Bor (List ℕ)) → 1 ≤ length texts → length (join_with_byte 0 (texts_of texts)) ≡ length (get_or texts 0 d).now + length (flat_map behind (take (length texts - 1) (drop 1 texts)))
whole_len texts d some = ap length (whole_is texts d some) ∙ length-append (get_or texts 0 d).now (flat_map behind (take (length texts - 1) (drop 1 texts)))

-- the test whether all arguments but the last lack NUL
pub lacks_exactly : (n : ℕ) (texts : List (Bor (List ℕ))) (r : Bool) → r ≡ list_any (λ text. has_nul text.now) (take n texts) → IsTrue (not r) ↔ LackNul n (texts_of texts)
lacks_exactly n texts true e = ((λ h. absurd cc), (λ h. let f : list_any has_nul (take n (texts_of texts)) ≡ true = list_any-take n texts ∙ sym e in absurd cc))
lacks_exactly n texts false e = ((λ h. list_any-take n texts ∙ sym e), (λ h. refl))

-- a header and what follows it
pub header_and_data : (old a b c h m k s d : List ℕ) → a ≡ old → b ≡ a ++ h → h ≡ m ++ k ++ s → c ≡ b ++ d → c ≡ old ++ (m ++ k ++ s ++ d)
header_and_data old a b c h m k s d pa pb ph pc = rw (pc, pb, ph, pa) (simp append_assoc)

-- four bytes, one by one, before others
four_bytes : (xs ys : List ℕ) → length xs ≡ 4 → get_or xs 0 0 ∷ get_or xs 1 0 ∷ get_or xs 2 0 ∷ get_or xs 3 0 ∷ ys ≡ xs ++ ys
four_bytes [] ys four = absurd (omega arith)
four_bytes (a ∷ []) ys four = absurd (omega arith)
four_bytes (a ∷ b ∷ []) ys four = absurd (omega arith)
four_bytes (a ∷ b ∷ c ∷ []) ys four = absurd (omega arith)
four_bytes (a ∷ b ∷ c ∷ d ∷ []) ys four = refl
four_bytes (a ∷ b ∷ c ∷ d ∷ e ∷ xs) ys four = absurd (omega arith)

-- a header, byte by byte
pub twelve_bytes : (m k s : List ℕ) (kind size : ℕ) → length m ≡ 4 → k ≡ to_be_bytes w32 kind → s ≡ to_be_bytes w32 size → get_or m 0 0 ∷ get_or m 1 0 ∷ get_or m 2 0 ∷ get_or m 3 0 ∷ get_or k 0 0 ∷ get_or k 1 0 ∷ get_or k 2 0 ∷ get_or k 3 0 ∷ get_or s 0 0 ∷ get_or s 1 0 ∷ get_or s 2 0 ∷ get_or s 3 0 ∷ [] ≡ m ++ to_be_bytes w32 kind ++ to_be_bytes w32 size
twelve_bytes m k s kind size four_long is_kind is_size =
    four_bytes m _ four_long
    ∙ ap (λ (x : List ℕ). m ++ x) (four_bytes k _ (ap length is_kind) ∙ ap (λ (x : List ℕ). k ++ x) (four_bytes s [] (ap length is_size) ∙ append-nil s))
    ∙ sym (append_assoc m k s)
    ∙ ap (λ (x : List ℕ). m ++ x ++ s) is_kind ∙ ap (λ (x : List ℕ). m ++ to_be_bytes w32 kind ++ x) is_size

-- two parts that make a whole
pub two_parts : (old a b x y whole : List ℕ) → a ≡ old ++ x → b ≡ a ++ y → whole ≡ x ++ y → b ≡ old ++ whole
two_parts old a b x y whole pa pb w = rw (pb, pa, w) (append_assoc old x y)
