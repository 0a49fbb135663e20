-- When limits are the same.
use Rattle.std.proofs.Common.{◌≡◌, ℕ, ◌≤◌, Bool, true, false, nat_eq, sym, ap, subst, ◌∙◌, eq-eqb}
use Rattle.std.specs.Prelude.{◌&&◌, MatchBool}
use Rattle.std.proofs.lemmas.Bool.{eqb-true}
use Rattle.std.proofs.Math.Bridge.{le_prop}
use Rattle.gm_feeder.specs.declared.units.Limits.{Limits}
use Rattle.std.proofs.lemmas.Bool.{and_parts}

same_limits : (a b : Limits) → a.max_bytes ≡ b.max_bytes → a.max_line ≡ b.max_line → a ≡ b
same_limits a b bytes line =
    subst (λ (z : ℕ × ℕ). (within : z.0 ≤ 1073741824) → a ≡ record { max_bytes = z.0; max_line = z.1; bounded = within }) (λ i. (bytes i, line i))
    (λ within i. record { max_bytes = a.max_bytes; max_line = a.max_line; bounded = le_prop a.bounded within i }) b.bounded

pub same_if : (a b : Limits) (result : Bool) → result ≡ (nat_eq a.max_bytes b.max_bytes && nat_eq a.max_line b.max_line) → MatchBool result (a ≡ b) (a ≡ b → ⊥)
same_if a b true is =
    let fields = and_parts (nat_eq a.max_bytes b.max_bytes) (nat_eq a.max_line b.max_line) (sym is) in
    same_limits a b (eqb-true a.max_bytes b.max_bytes fields.0) (eqb-true a.max_line b.max_line fields.1)
same_if a b false is = λ same.
    let bytes = eq-eqb a.max_bytes b.max_bytes (ap (λ (l : Limits). l.max_bytes) same) in
    let line = eq-eqb a.max_line b.max_line (ap (λ (l : Limits). l.max_line) same) in
    let bad : false ≡ true = is ∙ (λ i. bytes i && line i) in
    absurd cc
