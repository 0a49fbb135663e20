-- What a header, filled up where it is short, says of the bytes that wait.
use Rattle.std.proofs.Common.{◌≡◌, ℕ, zero, suc, ◌+◌, ◌-◌, ◌^◌, ◌<◌, ◌≤◌, List, [], ◌∷◌, ◌++◌, length, take, drop, get_or, replicate}
use Rattle.std.proofs.Common.{refl, sym, ap, ap₂, subst₂, ◌∙◌, arith, append_assoc, append-nil, length-append, length-drop, le_refl}
use Rattle.std.proofs.Common.{zero-le, lit<}
use Rattle.std.specs.Int.{w32, to_be_bytes, from_be_bytes, byte_at}
use Rattle.std.proofs.lemmas.Nat.{from_be_bytes-to_be_bytes_4}
use Rattle.std.proofs.lemmas.List.{drop_all, length-replicate, length-take-le}
use Rattle.std.proofs.Math.Seq.{take-add}
use Rattle.gm_packet.specs.Packets.{request_magic, packet}
use Rattle.gm_feeder.specs.declared.units.Limits.{Limits}
use Rattle.gm_feeder.specs.Units.{APacket, ALine, IsPacket, BeginsNoUnit, BeginsWithNul, CanGoOn, IsHopeless, AgreesWithMagic}
use Rattle.gm_feeder.specs.Heads.{empty_header, filled_header}
use Rattle.gm_feeder.proofs.UnitLemmas.{header, packet_is, same_size, unit_is, nul_longer}
use Rattle.gm_feeder.proofs.LineLemmas.{line_not_nul}

pub take_nil : (n : ℕ) → take n (let l : List ℕ = [] in l) ≡ []
take_nil zero = refl
take_nil (suc n) = refl

drop_nil : (n : ℕ) → drop n (let l : List ℕ = [] in l) ≡ []
drop_nil zero = refl
drop_nil (suc n) = refl

-- ---- the magic

pub agrees-filled : (bytes : List ℕ) → AgreesWithMagic bytes → take 4 (filled_header bytes) ≡ request_magic
agrees-filled [] h = refl
agrees-filled (a ∷ []) h = cc
agrees-filled (a ∷ b ∷ []) h = cc
agrees-filled (a ∷ b ∷ c ∷ []) h = cc
agrees-filled (a ∷ b ∷ c ∷ d ∷ rest) h = let none = take_nil (length rest) in cc

pub filled-agrees : (bytes : List ℕ) → take 4 (filled_header bytes) ≡ request_magic → AgreesWithMagic bytes
filled-agrees [] h = refl
filled-agrees (a ∷ []) h = cc
filled-agrees (a ∷ b ∷ []) h = cc
filled-agrees (a ∷ b ∷ c ∷ []) h = cc
filled-agrees (a ∷ b ∷ c ∷ d ∷ rest) h = let none = take_nil (length rest) in cc

agrees-shorter_magic : (bytes more : List ℕ) → take 4 (bytes ++ more) ≡ request_magic → AgreesWithMagic bytes
agrees-shorter_magic [] more h = refl
agrees-shorter_magic (a ∷ []) more h = cc
agrees-shorter_magic (a ∷ b ∷ []) more h = cc
agrees-shorter_magic (a ∷ b ∷ c ∷ []) more h = cc
agrees-shorter_magic (a ∷ b ∷ c ∷ d ∷ rest) more h = let none = take_nil (length rest) in cc

-- ---- bytes that stand in for others

filled-long : (bytes : List ℕ) → 12 ≤ length bytes → filled_header bytes ≡ take 12 bytes
filled-long bytes h =
    ap (λ (l : List ℕ). take 12 bytes ++ l) (drop_all (length bytes) empty_header h) ∙ append-nil (take 12 bytes)

-- zeros that stand in for bytes are no greater than what may come
fill-below : (bs ts more : List ℕ) (i : ℕ) → get_or ts i 0 ≡ 0
    → get_or (take (length ts) bs ++ drop (length bs) ts) i 0 ≤ get_or (bs ++ more) i 0
fill-below [] ts more i h = rw take_nil (omega (arith, h))
fill-below (b ∷ bs) [] more i h = zero-le
fill-below (b ∷ bs) (t ∷ ts) more zero h = le_refl b
fill-below (b ∷ bs) (t ∷ ts) more (suc i) h = fill-below bs ts more i h

fill-drop : (bs ts : List ℕ) → (take (length ts) bs ++ drop (length bs) ts) ++ drop (length ts) bs ≡ bs ++ drop (length bs) ts
fill-drop [] ts = rw (take_nil, drop_nil) (append-nil ts)
fill-drop (b ∷ bs) [] = sym (append-nil (b ∷ bs))
fill-drop (b ∷ bs) (t ∷ ts) = ap (λ (l : List ℕ). b ∷ l) (fill-drop bs ts)

number-below : (a b c d a' b' c' d' : ℕ) → a ≤ a' → b ≤ b' → c ≤ c' → d ≤ d'
    → from_be_bytes w32 (a ∷ b ∷ c ∷ d ∷ []) ≤ from_be_bytes w32 (a' ∷ b' ∷ c' ∷ d' ∷ [])
number-below a b c d a' b' c' d' ha hb hc hd = omega arith

-- the size that the bytes there say is no greater than that of any packet that they begin
size-below : (bytes more rest : List ℕ) (kind size k n : ℕ) → size < 2 ^ 32 → n < 2 ^ 32
    → filled_header bytes ≡ header kind size → bytes ++ more ≡ header k n ++ rest → size ≤ n
size-below bytes more rest kind size k n hs hn filled is =
    let at : (i : ℕ) → get_or empty_header i 0 ≡ 0 → get_or (header kind size) i 0 ≤ get_or (header k n ++ rest) i 0 =
    λ i zero_there. subst₂ (λ (a b : List ℕ). get_or a i 0 ≤ get_or b i 0) filled is (fill-below bytes empty_header more i zero_there)
    in
    let below : from_be_bytes w32 (to_be_bytes w32 size) ≤ from_be_bytes w32 (to_be_bytes w32 n) =
    number-below (byte_at 3 size) (byte_at 2 size) (byte_at 1 size) (byte_at 0 size) (byte_at 3 n) (byte_at 2 n) (byte_at 1 n) (byte_at 0 n) (at 8 refl) (at 9 refl) (at 10 refl) (at 11 refl)
    in
    subst₂ (λ (a b : ℕ). a ≤ b) (from_be_bytes-to_be_bytes_4 size hs) (from_be_bytes-to_be_bytes_4 n hn) below

-- ---- the head of bytes that begin with NUL

-- no packet begins with another magic
pub hopeless-wrong_magic : (limits : Limits) (bytes : List ℕ) → BeginsWithNul bytes → (AgreesWithMagic bytes → ⊥) → IsHopeless limits bytes
hopeless-wrong_magic limits bytes nul never more (APacket kind text) after u =
    never (agrees-shorter_magic bytes more (ap (take 4) (unit_is limits (bytes ++ more) kind text after u)))
hopeless-wrong_magic limits bytes nul never more (ALine text) after u =
    absurd (line_not_nul limits (bytes ++ more) text after u (nul_longer bytes more nul))

pub hopeless-large : (limits : Limits) (bytes : List ℕ) (kind size : ℕ) → BeginsWithNul bytes → size < 2 ^ 32 → limits.max_bytes < size
    → filled_header bytes ≡ header kind size → IsHopeless limits bytes
hopeless-large limits bytes kind size nul fits large filled more (ALine text) after u =
    absurd (line_not_nul limits (bytes ++ more) text after u (nul_longer bytes more nul))
hopeless-large limits bytes kind size nul fits large filled more (APacket k text) after u =
    let packet_here = u.unit in
    let small = size-below bytes more (text ++ after) kind size k (length text) fits packet_here.size_fits filled (unit_is limits (bytes ++ more) k text after u) in
    absurd (omega (arith, packet_here.within_limit))

-- fewer bytes than the header says begin with no unit
pub no_unit-short : (limits : Limits) (bytes : List ℕ) (kind size : ℕ) → BeginsWithNul bytes → size < 2 ^ 32 → length bytes < 12 + size
    → filled_header bytes ≡ header kind size → BeginsNoUnit limits bytes
no_unit-short limits bytes kind size nul fits short filled (ALine text) after u = absurd (line_not_nul limits bytes text after u nul)
no_unit-short limits bytes kind size nul fits short filled (APacket k text) after u =
    let packet_here = u.unit in
    let is = unit_is limits bytes k text after u in
    let long : 12 + length text ≤ length bytes = omega (arith, ap length is, length-append text after) in
    let whole : header kind size ≡ header k (length text) =
    sym filled ∙ (filled-long bytes (omega arith) ∙ ap (take 12) is)
    in
    let same = same_size kind k size (length text) fits packet_here.size_fits whole in
    absurd (omega arith)

-- and zeros in place of what is to come make a packet
pub can_go_on : (limits : Limits) (bytes : List ℕ) (kind size : ℕ) → kind < 2 ^ 32 → size < 2 ^ 32 → size ≤ limits.max_bytes
    → length bytes < 12 + size → filled_header bytes ≡ header kind size → CanGoOn limits bytes
can_go_on limits bytes kind size kind_fits size_fits within short filled =
    let extra : List ℕ = replicate (size - (length bytes - 12)) 0 in
    let text = drop 12 bytes ++ extra in
    let more = drop (length bytes) empty_header ++ extra in
    let long : length text ≡ size =
    length-append (drop 12 bytes) extra ∙ omega (arith, length-drop 12 bytes, length-replicate (size - (length bytes - 12)) (let zero_byte : ℕ = 0 in zero_byte))
    in
    let whole = packet request_magic kind text in
    let spelled : bytes ++ more ≡ whole ++ [] =
    sym (append_assoc bytes (drop (length bytes) empty_header) extra)
    ∙ (ap (λ (l : List ℕ). l ++ extra) (sym (fill-drop bytes empty_header))
    ∙ (append_assoc (filled_header bytes) (drop 12 bytes) extra
    ∙ (ap (λ (l : List ℕ). l ++ text) (filled ∙ ap (header kind) (sym long))
    ∙ (sym (packet_is kind text) ∙ sym (append-nil whole)))))
    in (
      more,
      APacket kind text,
      [],
      record {
        whole = whole;
        unit = record { spelled = refl; kind_fits = kind_fits; size_fits = rw long size_fits; within_limit = rw long within };
        joined = spelled;
      },
    )

-- as many bytes as the header says are a packet
pub packet-long : (limits : Limits) (bytes : List ℕ) (kind size : ℕ) → kind < 2 ^ 32 → size < 2 ^ 32 → size ≤ limits.max_bytes
    → 12 + size ≤ length bytes → filled_header bytes ≡ header kind size
    → IsPacket limits (take (12 + size) bytes) kind (drop 12 (take (12 + size) bytes))
packet-long limits bytes kind size kind_fits size_fits within enough filled =
    let text = drop 12 (take (12 + size) bytes) in
    let whole_is : take (12 + size) bytes ≡ header kind size ++ take size (drop 12 bytes) =
    take-add 12 size bytes ∙ ap (λ (l : List ℕ). l ++ take size (drop 12 bytes)) (sym (filled-long bytes (omega arith)) ∙ filled)
    in
    let text_is : text ≡ take size (drop 12 bytes) = ap (drop 12) whole_is in
    let long : length text ≡ size =
    ap length text_is ∙ length-take-le size (drop 12 bytes) (omega (arith, length-drop 12 bytes))
    in
    let spelled : take (12 + size) bytes ≡ packet request_magic kind text =
    whole_is
    ∙ (ap₂ (λ (n : ℕ) (l : List ℕ). header kind n ++ l) (sym long) (sym text_is)
    ∙ sym (packet_is kind text))
    in
    record { spelled = spelled; kind_fits = kind_fits; size_fits = rw long size_fits; within_limit = rw long within }

-- what an empty packet completes begins a packet, within every limit
pub empty_goes_on : (limits : Limits) (bytes : List ℕ) → length bytes ≤ 4 → filled_header bytes ≡ empty_header → CanGoOn limits bytes
empty_goes_on limits bytes short filled =
    can_go_on limits bytes 0 0 (lit< tt) (lit< tt) zero-le (omega arith) filled
