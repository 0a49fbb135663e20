-- Packets as lists of bytes.
use Rattle.std.proofs.Common.{◌≡◌, ℕ, ◌+◌, ◌<◌, ◌^◌, List, [], ◌∷◌, ◌++◌, length, refl, sym, ap, ◌∙◌, arith, append_assoc}
use Rattle.std.specs.Int.{w32, to_be_bytes, from_be_bytes}
use Rattle.std.proofs.lemmas.List.{length-append}
use Rattle.std.proofs.lemmas.Nat.{from_be_bytes-to_be_bytes_4}
use Rattle.gm_packet.specs.Packets.{packet}

pub length-packet : (magic : List ℕ) (kind : ℕ) (bytes : List ℕ) → length magic ≡ 4 → length (packet magic kind bytes) ≡ 12 + length bytes
unfolding packet
length-packet magic kind bytes four_bytes = simp length-append (omega (arith, four_bytes))

-- two prefixes of one length, of the same bytes
pub same_prefixes : (a b x y : List ℕ) → length a ≡ length b → a ++ x ≡ b ++ y → (a ≡ b) × (x ≡ y)
same_prefixes [] [] x y len e = (refl, e)
same_prefixes [] (d ∷ b) x y len e = absurd (omega arith)
same_prefixes (c ∷ a) [] x y len e = absurd (omega arith)
same_prefixes (c ∷ a) (d ∷ b) x y len e =
    let rest : a ++ x ≡ b ++ y = cc in
    let first : c ≡ d = cc in
    let r = same_prefixes a b x y (omega arith) rest in
    (ap (λ (h : ℕ). h ∷ a) first ∙ ap (λ (t : List ℕ). d ∷ t) r.0, r.1)

-- four bytes tell a number below 2 ^ 32
pub same_number : (j k : ℕ) → to_be_bytes w32 j ≡ to_be_bytes w32 k → j < 2 ^ 32 → k < 2 ^ 32 → j ≡ k
same_number j k e lj lk = sym (from_be_bytes-to_be_bytes_4 j lj) ∙ ap (from_be_bytes w32) e ∙ from_be_bytes-to_be_bytes_4 k lk

four : (j k : ℕ) → length (to_be_bytes w32 j) ≡ length (to_be_bytes w32 k)
four j k = refl

-- the parts of two packets with anything behind them
pub record SameParts (m n : List ℕ) (j k : ℕ) (a b x y : List ℕ) : Type 0 where
  pub magics : m ≡ n
  pub types : to_be_bytes w32 j ≡ to_be_bytes w32 k
  pub bytes : a ≡ b
  pub rests : x ≡ y

same_parts : (m n : List ℕ) (j k : ℕ) (a b x y : List ℕ) → length m ≡ length n → length a < 2 ^ 32 → length b < 2 ^ 32 → m ++ (to_be_bytes w32 j ++ (to_be_bytes w32 (length a) ++ (a ++ x))) ≡ n ++ (to_be_bytes w32 k ++ (to_be_bytes w32 (length b) ++ (b ++ y))) → SameParts m n j k a b x y
same_parts m n j k a b x y len la lb e =
    let magic = same_prefixes m n _ _ len e in
    let type = same_prefixes (to_be_bytes w32 j) (to_be_bytes w32 k) _ _ (four j k) magic.1 in
    let size = same_prefixes (to_be_bytes w32 (length a)) (to_be_bytes w32 (length b)) (a ++ x) (b ++ y) (four (length a) (length b)) type.1 in
    let all = same_prefixes a b x y (same_number (length a) (length b) size.0 la lb) size.1 in
    record { magics = magic.0; types = type.0; bytes = all.0; rests = all.1 }

regroup : (m j s a x : List ℕ) → (m ++ j ++ s ++ a) ++ x ≡ m ++ (j ++ (s ++ (a ++ x)))
regroup m j s a x = simp append_assoc

same_packet : (m n : List ℕ) (j k : ℕ) (a b : List ℕ) → m ≡ n → to_be_bytes w32 j ≡ to_be_bytes w32 k → a ≡ b → packet m j a ≡ packet n k b
unfolding packet
same_packet m n j k a b magics types bytes = rw (magics, types, bytes) refl

pub no_packet_begins_another : (m n : List ℕ) (j k : ℕ) (a b x y : List ℕ) → length m ≡ 4 → length n ≡ 4 → length a < 2 ^ 32 → length b < 2 ^ 32 → packet m j a ++ x ≡ packet n k b ++ y → (packet m j a ≡ packet n k b) × (m ≡ n) × (j < 2 ^ 32 → k < 2 ^ 32 → j ≡ k) × (a ≡ b) × (x ≡ y)
unfolding packet
no_packet_begins_another m n j k a b x y lm ln la lb e =
    let s = same_parts m n j k a b x y (lm ∙ sym ln) la lb (sym (regroup m (to_be_bytes w32 j) (to_be_bytes w32 (length a)) a x) ∙ e ∙ regroup n (to_be_bytes w32 k) (to_be_bytes w32 (length b)) b y) in
    (same_packet m n j k a b s.magics s.types s.bytes, s.magics, same_number j k s.types, s.bytes, s.rests)
