use Rattle.std.proofs.Common.{◌≡◌, ◌<◌, ◌≤◌, List, [], ◌∷◌, Some, length, map, take, slice_get, refl, ap, arith}
use Rattle.gm_packet.proofs.texts.Texts.of.Goals as goal

-- up to five items, each found at its index
found : {X : Type 0} (items : List X) (a b c d e : X) → length items ≤ 5 → (0 < length items → slice_get items 0 ≡ Some a) → (1 < length items → slice_get items 1 ≡ Some b)
    → (2 < length items → slice_get items 2 ≡ Some c) → (3 < length items → slice_get items 3 ≡ Some d) → (4 < length items → slice_get items 4 ≡ Some e)
    → take (length items) (a ∷ b ∷ c ∷ d ∷ e ∷ []) ≡ items
found [] a b c d e few ha hb hc hd he = refl
found (v ∷ []) a b c d e few ha hb hc hd he = cc (ha (omega arith))
found (v ∷ w ∷ []) a b c d e few ha hb hc hd he = cc (ha (omega arith), hb (omega arith))
found (v ∷ w ∷ x ∷ []) a b c d e few ha hb hc hd he = cc (ha (omega arith), hb (omega arith), hc (omega arith))
found (v ∷ w ∷ x ∷ y ∷ []) a b c d e few ha hb hc hd he = cc (ha (omega arith), hb (omega arith), hc (omega arith), hd (omega arith))
found (v ∷ w ∷ x ∷ y ∷ z ∷ []) a b c d e few ha hb hc hd he = cc (ha (omega arith), hb (omega arith), hc (omega arith), hd (omega arith), he (omega arith))
found (v ∷ w ∷ x ∷ y ∷ z ∷ o ∷ items) a b c d e few ha hb hc hd he = absurd (omega arith)

pub returns : goal.returns
returns c = ap (map (λ text. text.now)) (found c.args.texts.now _ _ _ _ _ c.requires c.text_at.ensures c.text_at-2.ensures c.text_at-3.ensures c.text_at-4.ensures c.text_at-5.ensures)
