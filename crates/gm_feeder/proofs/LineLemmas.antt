-- Newlines: where a line ends, and where none can.
use Rattle.std.proofs.Common.{◌≡◌, ◌≢◌, ℕ, ◌+◌, ◌-◌, ◌<◌, ◌≤◌, Bool, true, ◌&&◌, nat_lt, List, [], ◌∷◌, ◌++◌, length, get_or, take, drop}
use Rattle.std.proofs.Common.{slice_index, slice_range, refl, sym, ap, ap₂, subst, ◌∙◌, arith, ⊎_elim, append_assoc, append-nil}
use Rattle.std.proofs.Common.{length-append, length-take, length-drop, le_refl}
use Rattle.std.specs.List.{All}
use Rattle.std.specs.Io.BufRead.{ends_with_byte, strip_last}
use Rattle.std.proofs.lemmas.Bool.{cases_lt, eq-eqb, eqb-true}
use Rattle.std.proofs.lemmas.List.{take-append-drop, take_more, get_or-take, get_or-drop}
use Rattle.std.proofs.lemmas.List.Elements.{All-from_get_or}
use Rattle.std.proofs.Math.ListN.{get_or-append}
use Rattle.std.proofs.Math.Seq.{get_or-append_seam, take-append_seam}
use Rattle.std.proofs.lemmas.Bool.Decides.{nat_tests}
use Rattle.memchr.specs.Find.{Nowhere, Passes, is_byte}
use Rattle.gm_packet.proofs.Packets.{same_prefixes}
use Rattle.gm_feeder.specs.declared.units.Limits.{Limits}
use Rattle.gm_feeder.specs.Units.{APacket, ALine, IsLine, IsUnitThen, BeginsNoUnit, BeginsWithNul, IsHopeless, Waits, without_return}
use Rattle.gm_feeder.specs.Heads.{IsScanned, text_of}
use Rattle.gm_feeder.proofs.UnitLemmas.{nul_longer, nul_first, packet_nul}

-- ---- the position of a newline

-- a line's newline stands past the bytes that hold none
ends_past : (before after bytes more : List ℕ) (n : ℕ) → before ++ 10 ∷ after ≡ bytes ++ more → n ≤ length bytes
    → ((k : ℕ) → k < n → slice_index bytes k ≢ 10) → n ≤ length before
ends_past before after bytes more n joined within none =
    let at = length before in
    let is : at < n → slice_index bytes at ≡ 10 =
    λ low. sym (get_or-append bytes more 0 at (omega arith))
    ∙ (ap (λ (l : List ℕ). get_or l at 0) (sym joined) ∙ get_or-append_seam before 10 after 0)
    in
    ⊎_elim (λ low. absurd (none at low (is low))) (λ enough. enough) (cases_lt at n)

-- the byte at a position of a part
part_at : (bytes : List ℕ) (from end j : ℕ) → from + j < end → slice_index (slice_range bytes from end) j ≡ slice_index bytes (from + j)
part_at bytes from end j low = get_or-take (end - from) (drop from bytes) j 0 (omega arith) ∙ get_or-drop from bytes j 0

pub length-slice : (bytes : List ℕ) (from end : ℕ) → from ≤ end → end ≤ length bytes → length (slice_range bytes from end) ≡ end - from
length-slice bytes from end ordered within = omega (arith, length-take (end - from) (drop from bytes), length-drop from bytes)

-- what a search through a part found is a newline
pub newline_at : (bytes : List ℕ) (from end j : ℕ) → from + j < end → Passes (is_byte 10) (slice_range bytes from end) j → slice_index bytes (from + j) ≡ 10
newline_at bytes from end j low found = sym (part_at bytes from end j low) ∙ eqb-true (slice_index (slice_range bytes from end) j) 10 found

-- where the bytes were looked through so far, and a search through the next found no newline, there is none in both
pub none_further : (limits : Limits) (bytes : List ℕ) (from end n : ℕ) → IsScanned limits bytes from → from + n ≤ end
    → Nowhere (Passes (is_byte 10) (slice_range bytes from end)) 0 n → (k : ℕ) → k < from + n → slice_index bytes k ≢ 10
none_further limits bytes from end n scanned within nowhere k low bad =
    ⊎_elim
    (λ before. scanned.no_newline k before bad)
    (λ after.
    let place : from + (k - from) ≡ k = omega arith in
    let is : slice_index (slice_range bytes from end) (k - from) ≡ 10 = part_at bytes from end (k - from) (omega arith) ∙ (ap (slice_index bytes) place ∙ bad) in
    nowhere (k - from) (omega arith) (omega arith) (eq-eqb (slice_index (slice_range bytes from end) (k - from)) 10 is))
    (cases_lt k from)

-- the same of a search that came to its end
pub none_below : (limits : Limits) (bytes : List ℕ) (from end : ℕ) → IsScanned limits bytes from → from ≤ end → end ≤ length bytes
    → Nowhere (Passes (is_byte 10) (slice_range bytes from end)) 0 (length (slice_range bytes from end)) → (k : ℕ) → k < end → slice_index bytes k ≢ 10
none_below limits bytes from end scanned ordered within nowhere k low =
    let long = length-slice bytes from end ordered within in
    none_further limits bytes from end (end - from) scanned (omega arith) (λ j from_zero high. nowhere j from_zero (omega (arith, long))) k (omega arith)

-- bytes without newline, before a newline, are told by what they begin
pub same_before : (a b x y : List ℕ) → All (λ c. c ≢ 10) a → All (λ c. c ≢ 10) b → a ++ 10 ∷ x ≡ b ++ 10 ∷ y → a ≡ b
same_before a b x y no_a no_b joined =
    let up = ends_past a x b (10 ∷ y) (length b) joined (le_refl (length b)) (λ k low. no_b k 0 low) in
    let down = ends_past b y a (10 ∷ x) (length a) (sym joined) (le_refl (length a)) (λ k low. no_a k 0 low) in
    (same_prefixes a b (10 ∷ x) (10 ∷ y) (omega (arith, up, down)) joined).0

-- where the bytes begin with a line, a newline follows its text
pub line_is : (limits : Limits) (bytes text after : List ℕ) (u : IsUnitThen limits bytes (ALine text) after) → bytes ≡ u.unit.before ++ 10 ∷ after
line_is limits bytes text after u =
    u.joined ∙ (ap (λ (l : List ℕ). l ++ after) u.unit.spelled ∙ append_assoc u.unit.before (10 ∷ []) after)

-- and no NUL stands there
pub line_not_nul : (limits : Limits) (bytes text after : List ℕ) → IsUnitThen limits bytes (ALine text) after → BeginsWithNul bytes → ⊥
line_not_nul limits bytes text after u nul =
    u.unit.no_packet (nul_first u.whole after (omega (arith, ap length u.unit.spelled, length-append u.unit.before (10 ∷ []))) (nul.0, sym u.joined ∙ nul.1))

-- ---- the head of bytes that don't begin with NUL

strip_last-push : (xs : List ℕ) (byte : ℕ) → strip_last byte (xs ++ byte ∷ []) ≡ xs
strip_last-push xs byte =
    let all = xs ++ byte ∷ [] in
    let last : length all - 1 ≡ length xs = omega (arith, length-append xs (byte ∷ [])) in
    let some : nat_lt 0 (length all) ≡ true = let long = length-append xs (byte ∷ []) in grind (arith, nat_tests) in
    let is : slice_index all (length all - 1) ≡ byte = ap (slice_index all) last ∙ get_or-append_seam xs byte [] 0 in
    let ends : ends_with_byte byte all ≡ true = ap₂ (λ (a b : Bool). a && b) some (eq-eqb (slice_index all (length all - 1)) byte is) in
    rw ends (ap (λ (n : ℕ). take n all) last ∙ take-append_seam xs (byte ∷ []))

-- a newline after bytes that hold none ends a line
pub line_found : (limits : Limits) (bytes : List ℕ) (len : ℕ) → (BeginsWithNul bytes → ⊥) → len < length bytes → len ≤ limits.max_line
    → slice_index bytes len ≡ 10 → ((k : ℕ) → k < len → slice_index bytes k ≢ 10)
    → IsLine limits (take (len + 1) bytes) (text_of (take (len + 1) bytes))
line_found limits bytes len no_nul within small is none =
    record {
      before = take len bytes;
      spelled = spelled;
      one_line =
          All-from_get_or (λ b. b ≢ 10) (take len bytes) 0
          (λ i low. let inside : i < len = omega (arith, length-take len bytes) in λ bad. none i inside (sym (get_or-take len bytes i 0 inside) ∙ bad));
      no_packet = λ nul. no_nul (subst BeginsWithNul (take-append-drop (len + 1) bytes) (nul_longer (take (len + 1) bytes) (drop (len + 1) bytes) nul));
      within_limit = omega (arith, length-take len bytes);
      said = ap without_return (ap (strip_last 10) spelled ∙ strip_last-push (take len bytes) 10);
    }
  where
    spelled : take (len + 1) bytes ≡ take len bytes ++ 10 ∷ []
    spelled = take_more bytes len 0 within ∙ ap (λ (b : ℕ). take len bytes ++ b ∷ []) is

-- over the limit of bytes without newline begin no line, whatever comes
pub hopeless-long : (limits : Limits) (bytes : List ℕ) → (BeginsWithNul bytes → ⊥) → limits.max_line < length bytes
    → ((k : ℕ) → k < limits.max_line + 1 → slice_index bytes k ≢ 10) → IsHopeless limits bytes
hopeless-long limits bytes no_nul long none more (APacket kind text) after u =
    no_nul (nul_first bytes more (omega arith) (packet_nul limits (bytes ++ more) kind text after u))
hopeless-long limits bytes no_nul long none more (ALine text) after u =
    let past = ends_past u.unit.before after bytes more (limits.max_line + 1) (sym (line_is limits (bytes ++ more) text after u)) (omega arith) none in
    let small = u.unit.within_limit in
    absurd (omega (arith, past, small))

-- bytes that hold no newline begin no unit
no_unit-open : (limits : Limits) (bytes : List ℕ) → (BeginsWithNul bytes → ⊥) → ((k : ℕ) → k < length bytes → slice_index bytes k ≢ 10) → BeginsNoUnit limits bytes
no_unit-open limits bytes no_nul none (APacket kind text) after u = no_nul (packet_nul limits bytes kind text after u)
no_unit-open limits bytes no_nul none (ALine text) after u =
    let is = line_is limits bytes text after u in
    let past = ends_past u.unit.before after bytes [] (length bytes) (sym is ∙ sym (append-nil bytes)) (le_refl (length bytes)) none in
    absurd (omega (arith, past, ap length is, length-append u.unit.before (10 ∷ after)))

-- and a newline makes a line of them, within the limit
pub waits-open : (limits : Limits) (bytes : List ℕ) → (BeginsWithNul bytes → ⊥) → length bytes ≤ limits.max_line
    → ((k : ℕ) → k < length bytes → slice_index bytes k ≢ 10) → Waits limits bytes
waits-open limits bytes no_nul small none =
    record {
      no_unit = no_unit-open limits bytes no_nul none;
      goes_on = (
        10 ∷ [],
        ALine (without_return bytes),
        [],
        record {
          whole = bytes ++ 10 ∷ [];
          unit = record {
            before = bytes;
            spelled = refl;
            one_line = All-from_get_or (λ b. b ≢ 10) bytes 0 none;
            no_packet = never bytes no_nul;
            within_limit = small;
            said = refl;
          };
          joined = sym (append-nil (bytes ++ 10 ∷ []));
        },
      );
    }
  where
    never : (l : List ℕ) → (BeginsWithNul l → ⊥) → BeginsWithNul (l ++ 10 ∷ []) → ⊥
    never [] none_there nul = absurd (let joined = nul.1 in let zero : (let newline : ℕ = 10 in newline) ≡ 0 = cc in omega (arith, zero))
    never (b ∷ l) none_there nul = none_there (nul_first (b ∷ l) (10 ∷ []) (omega arith) nul)
