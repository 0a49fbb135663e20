-- Copied bytes, and shared ones where they come.
use Rattle.std.proofs.Common.{◌≡◌, ℕ, ◌+◌, ◌-◌, ◌<◌, ◌≤◌, List, [], ◌∷◌, ◌++◌, length, take, drop, min, subst, refl, sym, ap, ap₂, ◌∙◌, arith, length-append, take_all}
use Rattle.std.proofs.lemmas.List.{append-nil, append_assoc, take-append-le, drop-append-le, drop_all, drop-take, drop-drop, length-take, length-drop}
use Rattle.std.proofs.Math.Seq.{drop-append-add}
use Rattle.std.specs.List.{All}
use Rattle.gm_bytes.specs.declared.run.Run.{Run}
use Rattle.gm_bytes.specs.Queues.{with_shared, before_last, first_len}

-- bytes more behind all
pub joined-put : (runs : List Run) (xs ys : List ℕ) → before_last runs ≤ length xs → with_shared runs (xs ++ ys) ≡ with_shared runs xs ++ ys
joined-put [] xs ys within = refl
joined-put (run ∷ runs) xs ys within =
    ap₂ (λ l r. (l ++ run.bytes) ++ with_shared runs r) (take-append-le run.before xs ys (omega (arith, within))) (drop-append-le run.before xs ys (omega (arith, within)))
    ∙ (ap (λ l. (take run.before xs ++ run.bytes) ++ l) (joined-put runs (drop run.before xs) ys (omega (arith, within, length-drop run.before xs)))
    ∙ sym (append_assoc (take run.before xs ++ run.bytes) (with_shared runs (drop run.before xs)) ys))

-- a run more behind all
pub joined-run : (runs : List Run) (run : Run) (xs : List ℕ) → before_last runs + run.before ≡ length xs → with_shared (runs ++ run ∷ []) xs ≡ with_shared runs xs ++ run.bytes
joined-run [] run xs all =
    ap₂ (λ l r. (l ++ run.bytes) ++ r) (take_all run.before xs (omega (arith, all))) (drop_all run.before xs (omega (arith, all)))
    ∙ append-nil (xs ++ run.bytes)
joined-run (first ∷ runs) run xs all =
    ap (λ l. (take first.before xs ++ first.bytes) ++ l) (joined-run runs run (drop first.before xs) (omega (arith, all, length-drop first.before xs)))
    ∙ sym (append_assoc (take first.before xs ++ first.bytes) (with_shared runs (drop first.before xs)) run.bytes)

pub before_last-more : (runs : List Run) (run : Run) → before_last (runs ++ run ∷ []) ≡ before_last runs + run.before
before_last-more [] run = omega arith
before_last-more (first ∷ runs) run = omega (arith, before_last-more runs run)

-- the first run is a part of all
pub first_within : (runs : List Run) (xs : List ℕ) (behind : ℕ) → before_last runs ≤ length xs → before_last runs + behind ≡ length xs → first_len runs behind ≤ length (with_shared runs xs)
first_within [] xs behind within all = omega (arith, all)
first_within (run ∷ runs) xs behind within all =
    omega (arith, within, length-append (take run.before xs ++ run.bytes) (with_shared runs (drop run.before xs)), length-append (take run.before xs) run.bytes, length-take run.before xs)

-- there is a byte in the first run
pub first_some : (runs : List Run) (behind : ℕ) → All (λ (run : Run). 0 < length run.bytes) runs → min 1 (length runs) ≤ first_len runs behind
first_some [] behind all = omega arith
first_some (run ∷ runs) behind all = omega (arith, all 0 run (omega arith))

module _ (runs rest : List Run) (run : Run) (copied : List ℕ) (passed : ℕ) (is : runs ≡ run ∷ rest) (enough : before_last runs ≤ length copied) (inside : passed < run.before + length run.bytes) where
  abbrev pub first : List ℕ
  first = take run.before copied ++ run.bytes

  first_is : length first ≡ run.before + length run.bytes
  first_is = omega (arith, length-append (take run.before copied) run.bytes, length-take run.before copied, subst (λ (l : List Run). before_last l ≤ length copied) is enough)

  -- what isn't gone begins with what isn't gone of the first run
  pub begins : drop passed (with_shared runs copied) ≡ drop passed first ++ with_shared rest (drop run.before copied)
  begins = ap (λ l. drop passed (with_shared l copied)) is ∙ drop-append-le passed first (with_shared rest (drop run.before copied)) (omega (arith, inside, first_is))

  -- where all of the first run is gone, the next are in front
  pub passes : (count : ℕ) → (run.before + length run.bytes) - passed ≤ count
      → drop count (drop passed (with_shared runs copied)) ≡ drop (count - ((run.before + length run.bytes) - passed)) (with_shared rest (drop run.before copied))
  passes count more =
      let count_is : count ≡ length (drop passed first) + (count - ((run.before + length run.bytes) - passed)) = omega (arith, length-drop passed first, first_is, more) in
      (λ j. drop (count_is j) (begins j)) ∙ drop-append-add (drop passed first) (with_shared rest (drop run.before copied)) (count - ((run.before + length run.bytes) - passed))

  pub passes_within : (count : ℕ) → count ≤ length (drop passed (with_shared runs copied)) → count - ((run.before + length run.bytes) - passed) ≤ length (with_shared rest (drop run.before copied))
  passes_within count within_all =
      omega (arith, within_all, ap length begins ∙ length-append (drop passed first) (with_shared rest (drop run.before copied)), length-drop passed first, first_is)

-- bytes more behind all, where some of the first are gone
module _ (runs : List Run) (copied : List ℕ) (start passed behind : ℕ) (all : start + before_last runs + behind ≡ length copied) (within : passed + min 1 (length runs) ≤ first_len runs behind) where
  enough : before_last runs ≤ length (drop start copied)
  enough = omega (arith, all, length-drop start copied)

  pub passed_within : passed ≤ length (with_shared runs (drop start copied))
  passed_within = omega (arith, within, all, first_within runs (drop start copied) behind enough (omega (arith, all, length-drop start copied)))

  pub put-behind : (bytes : List ℕ) → drop passed (with_shared runs (drop start (copied ++ bytes))) ≡ drop passed (with_shared runs (drop start copied)) ++ bytes
  put-behind bytes =
      ap (λ l. drop passed (with_shared runs l)) (drop-append-le start copied bytes (omega (arith, all)))
      ∙ (ap (drop passed) (joined-put runs (drop start copied) bytes enough) ∙ drop-append-le passed (with_shared runs (drop start copied)) bytes passed_within)

  pub run-behind : (run : Run) → run.before ≡ behind → drop passed (with_shared (runs ++ run ∷ []) (drop start copied)) ≡ drop passed (with_shared runs (drop start copied)) ++ run.bytes
  run-behind run at =
      ap (drop passed) (joined-run runs run (drop start copied) (omega (arith, all, at, length-drop start copied)))
      ∙ drop-append-le passed (with_shared runs (drop start copied)) run.bytes passed_within

-- what is in front, where the bytes right before the first run are gone
pub front-run : (before passed : ℕ) (copied bytes others : List ℕ) → before ≤ length copied → before ≤ passed → passed ≤ before + length bytes
    → drop passed (take before copied ++ bytes) ++ others ≡ take (length bytes - (passed - before)) (drop (passed - before) bytes) ++ others
front-run before passed copied bytes others inside gone within =
    ap (λ l. l ++ others)
    (ap (λ n. drop n (take before copied ++ bytes)) {x = passed} {y = length (take before copied) + (passed - before)} (omega (arith, length-take before copied, inside, gone))
    ∙ (drop-append-add (take before copied) bytes (passed - before)
    ∙ sym (take_all (length bytes - (passed - before)) (drop (passed - before) bytes) (omega (arith, length-drop (passed - before) bytes)))))

-- what is in front, where some of the bytes right before the first run are there
pub front-before : (start before passed : ℕ) (copied bytes others : List ℕ) → start + before ≤ length copied → passed ≤ before
    → drop passed (take before (drop start copied) ++ bytes) ++ others
    ≡ take ((start + before) - (start + passed)) (drop (start + passed) copied) ++ (bytes ++ others)
front-before start before passed copied bytes others inside there =
    let same : before - passed ≡ (start + before) - (start + passed) = omega arith in
    ap (λ l. l ++ others) (drop-append-le passed (take before (drop start copied)) bytes (omega (arith, length-take before (drop start copied), length-drop start copied, inside, there)))
    ∙ (append_assoc (drop passed (take before (drop start copied))) bytes others
    ∙ ap (λ l. l ++ (bytes ++ others)) (ap (λ n. drop passed (take n (drop start copied))) {x = before} {y = passed + (before - passed)} (omega (arith, there))
    ∙ (drop-take passed (before - passed) (drop start copied)
    ∙ (λ j. take (same j) (drop-drop passed start copied j)))))

-- the first run, and the bytes right before it, are among what is there
pub parts : (runs rest : List Run) (run : Run) (copied : List ℕ) (start passed behind : ℕ) → runs ≡ run ∷ rest
    → start + before_last runs + behind ≡ length copied → passed + min 1 (length runs) ≤ first_len runs behind
    → (before_last runs ≤ length (drop start copied)) × ((start + run.before) + before_last rest + behind ≡ length copied) × (passed < run.before + length run.bytes)
parts runs rest run copied start passed behind is all within =
    let all_is = subst (λ (l : List Run). start + before_last l + behind ≡ length copied) is all in
    let within_is = subst (λ (l : List Run). passed + min 1 (length l) ≤ first_len l behind) is within in
    (omega (arith, all, length-drop start copied), omega (arith, all_is), omega (arith, within_is))

-- a run more behind all leaves what is gone where it is
pub first_more : (runs : List Run) (run : Run) (passed : ℕ) → passed + min 1 (length runs) ≤ first_len runs run.before → 0 < length run.bytes
    → passed + min 1 (length (runs ++ run ∷ [])) ≤ first_len (runs ++ run ∷ []) 0
first_more [] run passed within some = omega (arith, within, some)
first_more (first ∷ runs) run passed within some = omega (arith, within)

-- the copied bytes behind the last run are copied behind the others
pub all_copied : (runs : List Run) (copied old new : List ℕ) (start from at : ℕ) → length runs ≤ at
    → old ++ with_shared (drop at runs) (drop from copied) ≡ with_shared runs (drop start copied) → new ≡ old ++ take (length copied - from) (drop from copied)
    → new ≡ with_shared runs (drop start copied)
all_copied runs copied old new start from at last now is =
    is
    ∙ (ap (λ l. old ++ l) (take_all (length copied - from) (drop from copied) (omega (arith, length-drop from copied)))
    ∙ (ap (λ (l : List Run). old ++ with_shared l (drop from copied)) (sym (drop_all at runs last)) ∙ now))
