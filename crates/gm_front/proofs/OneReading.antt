-- Inputs spell one reading.
use Rattle.std.proofs.Common.{◌≡◌, ℕ, arith, List, [], ◌∷◌, ◌++◌, length, Option, Some, None, refl, sym, ap, ap₂, subst, ◌∙◌}
use Rattle.gm_feeder.specs.declared.units.Limits.{Limits}
use Rattle.gm_feeder.specs.Units.{Item}
use Rattle.gm_feeder.proofs.StreamLemmas.{one_after, one_spelling, one_fault, waits-no_fault}
use Rattle.gm_notes.specs.declared.event.ApplyError.{ApplyError}
use Rattle.gm_notes.specs.declared.event.UnitFault.{UnitFault}
use Rattle.gm_notes.specs.Settings.{Settings}
use Rattle.gm_front.specs.Units.{unit_fault, Stands, BeginsWith}
use Rattle.gm_front.specs.Inputs.{Input, Opens, Gives, Cuts, Closes, Ticks, Takes, Withdraws, Drains, Reading, with_units}
use Rattle.gm_front.specs.Inputs.{given, with_closed, GivesPiece, CutsPiece, Adds, AddsUnless, refusal_of, ReadsOn, Reads}

pub one_standing : (limits : Limits) (rest : List ℕ) (fault other : Option UnitFault) → Stands limits rest fault → Stands limits rest other → fault ≡ other
one_standing limits rest None None s t = refl
one_standing limits rest None (Some fault) s t = absurd (waits-no_fault limits rest t.fed s t.stands)
one_standing limits rest (Some fault) None s t = absurd (waits-no_fault limits rest s.fed t s.stands)
one_standing limits rest (Some fault) (Some other) s t =
    sym s.named ∙ (ap unit_fault (one_fault limits rest s.fed t.fed s.stands t.stands) ∙ t.named)

one_piece : (k : Settings) (limits : Limits) (c : ℕ) (piece : List ℕ) (old a b : Reading) → GivesPiece k limits c piece old a → GivesPiece k limits c piece old b → a ≡ b
one_piece k limits c piece old a b g h =
    let same = one_spelling limits (old.rests c ++ piece) g.items h.items g.rest h.rest g.spelled h.spelled in
    let fault : g.fault ≡ h.fault = one_standing limits h.rest g.fault h.fault (subst (λ (l : List ℕ). Stands limits l g.fault) same.1 g.standing) h.standing in
    g.adds
    ∙ (ap₂ (λ (items : List Item) (rest : List ℕ). given k c items rest g.fault old) same.0 same.1
    ∙ (ap (λ (f : Option UnitFault). given k c h.items h.rest f old) fault ∙ sym h.adds))

-- as many units at the head of the bytes are the same
one_head : (limits : Limits) (bytes : List ℕ) (items others : List Item) (rest other : List ℕ) → length items ≡ length others → BeginsWith limits bytes items rest → BeginsWith limits bytes others other → items ≡ others
one_head limits bytes [] [] rest other e b d = refl
one_head limits bytes [] (another ∷ others) rest other e b d = absurd (omega arith)
one_head limits bytes (item ∷ items) [] rest other e b d = absurd (omega arith)
one_head limits bytes (item ∷ items) (another ∷ others) rest other e b d =
    let same = one_after limits bytes item another b.0 d.0 b.1 d.1 in
    ap₂ (λ (i : Item) (l : List Item). i ∷ l) same.0
    (one_head limits b.0 items others rest other (omega arith) b.2 (subst (λ (l : List ℕ). BeginsWith limits l others other) (sym same.1) d.2))

one_cut : (k : Settings) (limits : Limits) (c : ℕ) (piece : List ℕ) (units : ℕ) (old a b : Reading) → CutsPiece k limits c piece units old a → CutsPiece k limits c piece units old b → a ≡ b
one_cut k limits c piece units old a b g h =
    let same = one_head limits (old.rests c ++ piece) g.items h.items g.rest h.rest (g.count ∙ sym h.count) g.begins h.begins in
    g.adds ∙ (ap (λ (items : List Item). with_closed c (with_units k c items old.steps) old.rests) same ∙ sym h.adds)

pub one_adding : (k : Settings) (limits : Limits) (input : Input) (old a b : Reading) → Adds k limits input old a → Adds k limits input old b → a ≡ b
one_adding k limits (Opens addr) old a b g h = g ∙ sym h
one_adding k limits (Gives c piece) old a b g h = one_piece k limits c piece old a b g h
one_adding k limits (Cuts c piece units) old a b g h = one_cut k limits c piece units old a b g h
one_adding k limits (Closes c) old a b g h = g ∙ sym h
one_adding k limits (Ticks now) old a b g h = g ∙ sym h
one_adding k limits (Takes c) old a b g h = g ∙ sym h
one_adding k limits (Withdraws c) old a b g h = g ∙ sym h
one_adding k limits (Drains c) old a b g h = g ∙ sym h

one_unless : (r : Option ApplyError) (k : Settings) (limits : Limits) (input : Input) (old a b : Reading) → AddsUnless r k limits input old a → AddsUnless r k limits input old b → a ≡ b
one_unless None k limits input old a b g h = one_adding k limits input old a b g h
one_unless (Some refused) k limits input old a b g h = g ∙ sym h

pub one_leading : (k : Settings) (limits : Limits) (input : Input) (old a b : Reading) → ReadsOn k limits input old a → ReadsOn k limits input old b → a ≡ b
one_leading k limits input old a b g h = one_unless (refusal_of k input old) k limits input old a b g h

pub one_reading : (k : Settings) (limits : Limits) (inputs : List Input) (a b : Reading) → Reads k limits inputs a → Reads k limits inputs b → a ≡ b
one_reading k limits [] a b g h = g ∙ sym h
one_reading k limits (input ∷ older) a b g h =
    let same = one_reading k limits older g.0 h.0 g.1 h.1 in
    one_leading k limits input h.0 a b (subst (λ (r : Reading). ReadsOn k limits input r a) same g.2) h.2

-- a refused input adds nothing
pub refused_step : (k : Settings) (limits : Limits) (input : Input) (old new : Reading) (refused : ApplyError) → refusal_of k input old ≡ Some refused → ReadsOn k limits input old new → new ≡ old
refused_step k limits input old new refused e l = let h : new ≡ old = subst (λ (r : Option ApplyError). AddsUnless r k limits input old new) e l in h
