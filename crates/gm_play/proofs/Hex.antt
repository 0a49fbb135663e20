-- Bytes that are read from pairs of digits.
use Rattle.std.proofs.Common.{◌≡◌, ◌<◌, ℕ, arith, List, [], ◌∷◌, ◌++◌, length, Option, Some, None, refl, sym, ap, ◌∙◌, append_assoc}
use Rattle.std.specs.Option.{option_map}
use Rattle.gm_play.specs.Scripts.{hex_byte, hex_bytes, before}

-- these bytes were read, and the rest is still to be
pub record Reading (text out rest : List ℕ) : Type 0 where
  pub reads : hex_bytes text ≡ option_map (λ (more : List ℕ). out ++ more) (hex_bytes rest)

nothing_more : (m : Option (List ℕ)) → m ≡ option_map (λ (more : List ℕ). [] ++ more) m
nothing_more None = refl
nothing_more (Some more) = refl

pub begins : (text : List ℕ) → Reading text [] text
begins text = record { reads = nothing_more (hex_bytes text) }

one_more : (out : List ℕ) (byte : ℕ) (m : Option (List ℕ)) → option_map (λ (more : List ℕ). out ++ more) (before (Some byte) m) ≡ option_map (λ (more : List ℕ). (out ++ byte ∷ []) ++ more) m
one_more out byte None = refl
one_more out byte (Some more) = ap Some (sym (append_assoc out (byte ∷ []) more))

pub goes_on : (text out rest after : List ℕ) (high low byte : ℕ) → Reading text out rest → rest ≡ high ∷ low ∷ after → Some byte ≡ hex_byte high low → Reading text (out ++ byte ∷ []) after
goes_on text out rest after high low byte r e b =
    record {
      reads =
          r.reads
          ∙ (ap (λ (l : List ℕ). option_map (λ (more : List ℕ). out ++ more) (hex_bytes l)) e
          ∙ (ap (λ (m : Option ℕ). option_map (λ (more : List ℕ). out ++ more) (before m (hex_bytes after))) (sym b) ∙ one_more out byte (hex_bytes after)));
    }

pub fails : (text out rest after : List ℕ) (high low : ℕ) → Reading text out rest → rest ≡ high ∷ low ∷ after → None ≡ hex_byte high low → None ≡ hex_bytes text
fails text out rest after high low r e b =
    sym
    (r.reads
    ∙ (ap (λ (l : List ℕ). option_map (λ (more : List ℕ). out ++ more) (hex_bytes l)) e
    ∙ ap (λ (m : Option ℕ). option_map (λ (more : List ℕ). out ++ more) (before m (hex_bytes after))) (sym b)))

append_none : (out : List ℕ) → out ++ [] ≡ out
append_none [] = refl
append_none (b ∷ out) = ap (λ (l : List ℕ). b ∷ l) (append_none out)

pub ends : (text out : List ℕ) → Reading text out [] → Some out ≡ hex_bytes text
ends text out r = sym (r.reads ∙ ap Some (append_none out))

pub ends_odd : (text out rest : List ℕ) → Reading text out rest → length rest < 2 → (length rest ≡ 0 → ⊥) → None ≡ hex_bytes text
ends_odd text out [] r short some = absurd (some refl)
ends_odd text out (high ∷ []) r short some = sym r.reads
ends_odd text out (high ∷ low ∷ rest) r short some = absurd (omega arith)
