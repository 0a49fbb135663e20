use Rattle.std.proofs.Common.{◌≡◌, ◌++◌, [], ◌∷◌, refl, ap, ◌∙◌, arith}
use Rattle.gm_packet.specs.Packets.{has_nul}
use Rattle.gm_notes.proofs.NameLemmas.{decimal_plain, joined_plain, joined_short}
use Rattle.gm_actions.proofs.handles.handle.Goals as goal
use Rattle.gm_actions.proofs.handles.handle.Goals.{In_ok-extend_from_slice-4}

parts : (c : In_ok-extend_from_slice-4) → c.extend_from_slice-4.new.self.items ≡ (((72 ∷ 58 ∷ []) ++ c.name.result.now) ++ 58 ∷ []) ++ c.format.result.now
parts c =
    c.in_ok-extend_from_slice-4.ensures.items
    ∙ ap (λ l. l ++ c.as_bytes.result.now) (c.in_ok-extend_from_slice-3.ensures.items ∙ ap (λ l. l ++ 58 ∷ []) (c.in_ok-extend_from_slice-2.ensures.items ∙ ap (λ l. l ++ c.name.result.now) (c.in_ok-extend_from_slice.ensures.items ∙ ap (λ l. l ++ 72 ∷ 58 ∷ []) c.in_ok-text.ensures.items)))
    ∙ ap (λ l. (((72 ∷ 58 ∷ []) ++ c.name.result.now) ++ 58 ∷ []) ++ l) c.as_bytes.ensures.value

pub returns-clause-plain : goal.returns-clause-plain
returns-clause-plain c =
    joined_plain (72 ∷ 58 ∷ []) c.name.result.now (58 ∷ []) c.format.result.now _ refl c.name.ensures.plain refl
    (ap has_nul c.format.ensures.text ∙ decimal_plain c.args.job (omega (arith, c.ranges.job)))
    (parts c)

pub returns-clause-short : goal.returns-clause-short
returns-clause-short c =
    joined_short (72 ∷ 58 ∷ []) c.name.result.now (58 ∷ []) c.format.result.now _ (omega arith) c.name.ensures.short (omega arith) c.format.ensures.fits (parts c)
