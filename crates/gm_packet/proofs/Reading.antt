-- What the walk over the data finds is what the data spell, and what they spell it finds.
use Rattle.std.proofs.Common.{◌≡◌, ℕ, zero, suc, Bool, true, false, cond, List, [], ◌∷◌, ◌++◌, length, take, Option, Some, None, refl}
use Rattle.std.proofs.Common.{sym, ap, subst, ◌∙◌, arith}
use Rattle.std.specs.Prelude.{◌==◌}
use Rattle.std.specs.List.{list_any, join_with_byte}
use Rattle.std.specs.Option.{option_map, option_and_then}
use Rattle.std.proofs.lemmas.Bool.{or_parts, or_from}
use Rattle.std.proofs.lemmas.Bool.Decides.{nat_tests}
use Rattle.std.proofs.lemmas.Option.{some_pair_parts, same_Some}
use Rattle.gm_packet.specs.Packets.{has_nul, LackNul}
use Rattle.gm_packet.specs.Requests.{cut, parts}

-- ---- the cut

abbrev Cuts : List ℕ → List ℕ → List ℕ → Type 0
Cuts bytes a b = (bytes ≡ a ++ 0 ∷ b) × (has_nul a ≡ false)

cut_later : (c : ℕ) (bytes a b : List ℕ) (o : Option (List ℕ × List ℕ)) → (c == 0) ≡ false → ((x y : List ℕ) → o ≡ Some (x, y) → Cuts bytes x y) → option_map {U = List ℕ × List ℕ} (λ (h : List ℕ × List ℕ). (c ∷ h.0, h.1)) o ≡ Some (a, b) → Cuts (c ∷ bytes) a b
cut_later c bytes a b None other rest e = absurd cc
cut_later c bytes a b (Some h) other rest e =
    let p = some_pair_parts (c ∷ h.0) a h.1 b e in
    let r = rest h.0 h.1 refl in
    subst (λ (x : List ℕ). Cuts (c ∷ bytes) x b) p.0 (subst (λ (y : List ℕ). Cuts (c ∷ bytes) (c ∷ h.0) y) p.1 (ap (λ (x : List ℕ). c ∷ x) r.0, or_from (c == 0) (has_nul h.0) other r.1))

cut_head : (t : Bool) (c : ℕ) (bytes a b : List ℕ) → (c == 0) ≡ t → ((x y : List ℕ) → cut bytes ≡ Some (x, y) → Cuts bytes x y) → cond {A = Option (List ℕ × List ℕ)} t (Some ([], bytes)) (option_map (λ (h : List ℕ × List ℕ). (c ∷ h.0, h.1)) (cut bytes)) ≡ Some (a, b) → Cuts (c ∷ bytes) a b
cut_head true c bytes a b is rest e =
    let p = some_pair_parts [] a bytes b e in
    let nul : c ≡ 0 = grind (arith, nat_tests) in
    subst (λ (x : List ℕ). Cuts (c ∷ bytes) x b) p.0 (subst (λ (y : List ℕ). Cuts (c ∷ bytes) [] y) p.1 (ap (λ n. n ∷ bytes) nul, refl))
cut_head false c bytes a b is rest e = cut_later c bytes a b (cut bytes) is rest e

pub cut_some : (bytes a b : List ℕ) → cut bytes ≡ Some (a, b) → Cuts bytes a b
cut_some [] a b e = absurd cc
cut_some (c ∷ bytes) a b e = cut_head (c == 0) c bytes a b refl (cut_some bytes) e

pub cut_again : (a b : List ℕ) → has_nul a ≡ false → cut (a ++ 0 ∷ b) ≡ Some (a, b)
cut_again [] b lacks = refl
cut_again (c ∷ a) b lacks =
    let p = or_parts (c == 0) (has_nul a) lacks in
    rw (p.0, cut_again a b p.1) refl

-- ---- the arguments

-- n arguments without NUL, and one more that the test lets through
abbrev pub Accepted : (List ℕ → Bool) → ℕ → List (List ℕ) → Type 0
Accepted refuses zero [] = ⊥
Accepted refuses zero (t ∷ []) = refuses t ≡ false
Accepted refuses zero (t ∷ u ∷ texts) = ⊥
Accepted refuses (suc n) [] = ⊥
Accepted refuses (suc n) (t ∷ texts) = (has_nul t ≡ false) × Accepted refuses n texts

abbrev Parted : (List ℕ → Bool) → ℕ → List ℕ → List (List ℕ) → Type 0
Parted refuses n bytes texts = Accepted refuses n texts × (bytes ≡ join_with_byte 0 texts)

-- one argument more in front
join_more : (n : ℕ) (refuses : List ℕ → Bool) (t : List ℕ) (texts : List (List ℕ)) → Accepted refuses n texts → join_with_byte 0 (t ∷ texts) ≡ t ++ 0 ∷ join_with_byte 0 texts
join_more zero refuses t [] h = absurd h
join_more zero refuses t (u ∷ []) h = refl
join_more zero refuses t (u ∷ v ∷ texts) h = absurd h
join_more (suc n) refuses t [] h = absurd h
join_more (suc n) refuses t (u ∷ texts) h = refl

parts_last : (refuses : List ℕ → Bool) (t : Bool) (bytes : List ℕ) (texts : List (List ℕ)) → refuses bytes ≡ t → cond t None (Some (bytes ∷ [])) ≡ Some texts → Parted refuses zero bytes texts
parts_last refuses true bytes texts is e = absurd cc
parts_last refuses false bytes texts is e = subst (λ (x : List (List ℕ)). Parted refuses zero bytes x) (same_Some (bytes ∷ []) texts e) (is, refl)

parts_later : (refuses : List ℕ → Bool) (n : ℕ) (bytes a b : List ℕ) (texts : List (List ℕ)) (o : Option (List (List ℕ))) → Cuts bytes a b → ((x : List (List ℕ)) → o ≡ Some x → Parted refuses n b x) → option_map (λ (later : List (List ℕ)). a ∷ later) o ≡ Some texts → Parted refuses (suc n) bytes texts
parts_later refuses n bytes a b texts None cuts rest e = absurd cc
parts_later refuses n bytes a b texts (Some later) cuts rest e =
    let r = rest later refl in
    subst (λ (x : List (List ℕ)). Parted refuses (suc n) bytes x) (same_Some (a ∷ later) texts e)
    ((cuts.1, r.0), cuts.0 ∙ ap (λ (x : List ℕ). a ++ 0 ∷ x) r.1 ∙ sym (join_more n refuses a later r.0))

parts_first : (refuses : List ℕ → Bool) (n : ℕ) (bytes : List ℕ) (texts : List (List ℕ)) (o : Option (List ℕ × List ℕ)) → cut bytes ≡ o → ((b : List ℕ) (x : List (List ℕ)) → parts refuses n b ≡ Some x → Parted refuses n b x) → option_and_then (λ (h : List ℕ × List ℕ). option_map (λ later. h.0 ∷ later) (parts refuses n h.1)) o ≡ Some texts → Parted refuses (suc n) bytes texts
parts_first refuses n bytes texts None is rest e = absurd cc
parts_first refuses n bytes texts (Some h) is rest e = parts_later refuses n bytes h.0 h.1 texts (parts refuses n h.1) (cut_some bytes h.0 h.1 is) (rest h.1) e

pub parts_some : (refuses : List ℕ → Bool) (n : ℕ) (bytes : List ℕ) (texts : List (List ℕ)) → parts refuses n bytes ≡ Some texts → Parted refuses n bytes texts
parts_some refuses zero bytes texts e = parts_last refuses (refuses bytes) bytes texts refl e
parts_some refuses (suc n) bytes texts e = parts_first refuses n bytes texts (cut bytes) refl (parts_some refuses n) e

pub parts_again : (refuses : List ℕ → Bool) (n : ℕ) (texts : List (List ℕ)) → Accepted refuses n texts → parts refuses n (join_with_byte 0 texts) ≡ Some texts
parts_again refuses zero [] h = absurd h
parts_again refuses zero (t ∷ []) h = rw h refl
parts_again refuses zero (t ∷ u ∷ texts) h = absurd h
parts_again refuses (suc n) [] h = absurd h
parts_again refuses (suc n) (t ∷ texts) h =
    rw (join_more n refuses t texts h.1, cut_again t (join_with_byte 0 texts) h.0, parts_again refuses n texts h.1) refl

-- ---- the same in the words of the relation

pub opaque_spelled : (n : ℕ) (texts : List (List ℕ)) → Accepted (λ _. false) n texts → (length texts ≡ suc n) × LackNul n texts
opaque_spelled zero [] h = absurd h
opaque_spelled zero (t ∷ []) h = (refl, refl)
opaque_spelled zero (t ∷ u ∷ texts) h = absurd h
opaque_spelled (suc n) [] h = absurd h
opaque_spelled (suc n) (t ∷ texts) h =
    let r = opaque_spelled n texts h.1 in
    (ap suc r.0, or_from (has_nul t) (list_any has_nul (take n texts)) h.0 r.1)

pub plain_spelled : (n : ℕ) (texts : List (List ℕ)) → Accepted has_nul n texts → (length texts ≡ suc n) × LackNul (suc n) texts
plain_spelled zero [] h = absurd h
plain_spelled zero (t ∷ []) h = (refl, or_from (has_nul t) false h refl)
plain_spelled zero (t ∷ u ∷ texts) h = absurd h
plain_spelled (suc n) [] h = absurd h
plain_spelled (suc n) (t ∷ texts) h =
    let r = plain_spelled n texts h.1 in
    (ap suc r.0, or_from (has_nul t) (list_any has_nul (take (suc n) texts)) h.0 r.1)

pub opaque_accepted : (n : ℕ) (texts : List (List ℕ)) → length texts ≡ suc n → LackNul n texts → Accepted (λ _. false) n texts
opaque_accepted zero [] len lacks = absurd cc
opaque_accepted zero (t ∷ []) len lacks = refl
opaque_accepted zero (t ∷ u ∷ texts) len lacks = absurd cc
opaque_accepted (suc n) [] len lacks = absurd cc
opaque_accepted (suc n) (t ∷ texts) len lacks =
    let p = or_parts (has_nul t) (list_any has_nul (take n texts)) lacks in
    (p.0, opaque_accepted n texts (omega (arith, len)) p.1)

pub plain_accepted : (n : ℕ) (texts : List (List ℕ)) → length texts ≡ suc n → LackNul (suc n) texts → Accepted has_nul n texts
plain_accepted zero [] len lacks = absurd cc
plain_accepted zero (t ∷ []) len lacks = (or_parts (has_nul t) false lacks).0
plain_accepted zero (t ∷ u ∷ texts) len lacks = absurd cc
plain_accepted (suc n) [] len lacks = absurd cc
plain_accepted (suc n) (t ∷ texts) len lacks =
    let p = or_parts (has_nul t) (list_any has_nul (take (suc n) texts)) lacks in
    (p.0, plain_accepted n texts (omega (arith, len)) p.1)
