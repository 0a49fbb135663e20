-- Parts of a buffer.
use Rattle.std.proofs.Common.{◌≡◌, ◌≤◌, ◌+◌, ◌-◌, ℕ, List, ◌++◌, length, take, drop, length-append, length-take-le, arith, sym, ap, ap₂, ◌∙◌}
use Rattle.std.specs.Prelude.{slice_range}
use Rattle.gm_feeder.specs.declared.units.Limits.{Limits}
use Rattle.gm_feeder.specs.Heads.{IsScanned}
use Rattle.std.proofs.Math.ListN.{get_or-append}
use Rattle.std.proofs.Math.Seq.{take-add}
use Rattle.std.proofs.lemmas.List.{take_all, take_at, take-take, drop_at, drop-drop, drop-take}

part_is : (xs : List ℕ) (start end : ℕ) → start ≤ end → slice_range xs start end ≡ drop start (take end xs)
part_is xs start end le =
    let sum : start + (end - start) ≡ end = omega (arith, le) in
    sym (ap (λ (n : ℕ). drop start (take n xs)) (sym sum) ∙ drop-take start (end - start) xs)

-- a part lies in the bytes before its end
pub part_same : (xs ys : List ℕ) (start end : ℕ) → start ≤ end → take end ys ≡ take end xs → slice_range ys start end ≡ slice_range xs start end
part_same xs ys start end le same = part_is ys start end le ∙ (ap (drop start) same ∙ sym (part_is xs start end le))

-- a count of bytes more
pub part_more : (xs ys : List ℕ) (start end more : ℕ) → start ≤ end → take end ys ≡ take end xs
    → slice_range ys start (end + more) ≡ slice_range xs start end ++ take more (drop end ys)
part_more xs ys start end more le same =
    let longer : (end + more) - start ≡ (end - start) + more = omega (arith, le) in
    let sum : start + (end - start) ≡ end = omega (arith, le) in
    ap (λ (n : ℕ). take n (drop start ys)) longer
    ∙ (take-add (end - start) more (drop start ys)
    ∙ ap₂ (λ (front back : List ℕ). front ++ take more back) (part_same xs ys start end le same) (drop-drop (end - start) start ys ∙ ap (λ (n : ℕ). drop n ys) sum))

-- the first bytes of a part
pub part_first : (xs : List ℕ) (start end len : ℕ) → len ≤ end - start → slice_range xs start (start + len) ≡ take len (slice_range xs start end)
part_first xs start end len le =
    let so : (start + len) - start ≡ len = omega arith in
    ap (λ (n : ℕ). take n (drop start xs)) so ∙ sym (take-take len (end - start) (drop start xs) le)

-- what is behind them
pub part_rest : (xs : List ℕ) (start end len : ℕ) → len ≤ end - start → slice_range xs (start + len) end ≡ drop len (slice_range xs start end)
part_rest xs start end len le =
    let so : len + (end - (start + len)) ≡ end - start = omega (arith, le) in
    ap (take (end - (start + len))) (sym (drop-drop len start xs))
    ∙ (sym (drop-take len (end - (start + len)) (drop start xs)) ∙ ap (λ (n : ℕ). drop len (take n (drop start xs))) so)

-- the first bytes of a part, without those that are skipped
pub part_inner : (xs : List ℕ) (start end skip len : ℕ) → skip ≤ len → len ≤ end - start
    → drop (start + skip) (take (start + len) xs) ≡ drop skip (take len (slice_range xs start end))
part_inner xs start end skip len short le =
    let so : skip ≤ (start + len) - start = omega (arith, short) in
    sym (part_is xs (start + skip) (start + len) (omega (arith, short)))
    ∙ (part_rest xs start (start + len) skip so ∙ ap (drop skip) (part_first xs start end len le))

-- the bytes from the end on are cut off, and a piece comes there
pub part_joined : (xs piece : List ℕ) (start end : ℕ) → start ≤ end → end ≤ length xs
    → slice_range (take end xs ++ piece) start (end + length piece) ≡ slice_range xs start end ++ piece
part_joined xs piece start end le within =
    let len : length (take end xs) ≡ end = length-take-le end xs within in
    part_more xs (take end xs ++ piece) start end (length piece) le (take_at (take end xs) piece end len)
    ∙ ap (λ (l : List ℕ). slice_range xs start end ++ l)
    (ap (take (length piece)) (drop_at (take end xs) piece end len) ∙ take_all (length piece) piece (omega arith))

-- what was searched stays searched
pub scanned_more : (limits : Limits) (bytes more : List ℕ) (scanned : ℕ) → IsScanned limits bytes scanned → IsScanned limits (bytes ++ more) scanned
scanned_more limits bytes more scanned was = record {
  within = omega (arith, was.within, length-append bytes more);
  within_limit = was.within_limit;
  no_newline = λ k lt same. was.no_newline k lt (sym (get_or-append bytes more 0 k (omega (arith, lt, was.within))) ∙ same);
}
