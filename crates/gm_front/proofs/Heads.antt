-- Units that stand at the head of bytes.
use Rattle.std.proofs.Common.{◌≡◌, ◌<◌, ℕ, arith, List, [], ◌∷◌, ◌++◌, length, refl, sym, ap, subst, length-append}
use Rattle.gm_feeder.specs.declared.units.Limits.{Limits}
use Rattle.gm_feeder.specs.Units.{Item, IsUnitThen, Spells, BeginsNoUnit}
use Rattle.gm_feeder.specs.Streams.{Stream, GivesUnit}
use Rattle.gm_feeder.proofs.StreamLemmas.{unit_not_empty, unit_stays}
use Rattle.gm_front.specs.Units.{BeginsWith}

-- units, and then more of them
pub begins_then : (limits : Limits) (a b c : List ℕ) (items more : List Item) → BeginsWith limits a items b → BeginsWith limits b more c → BeginsWith limits a (items ++ more) c
begins_then limits a b c [] more f s = subst (λ bytes. BeginsWith limits bytes more c) (sym f) s
begins_then limits a b c (item ∷ items) more f s = (f.0, f.1, begins_then limits f.0 b c items more f.2 s)

-- they stay when more bytes come
pub begins_stay : (limits : Limits) (bytes rest more : List ℕ) (items : List Item) → BeginsWith limits bytes items rest → BeginsWith limits (bytes ++ more) items (rest ++ more)
begins_stay limits bytes rest more [] b = ap (λ xs. xs ++ more) b
begins_stay limits bytes rest more (item ∷ items) b = (b.0 ++ more, unit_stays limits bytes more item b.0 b.1, begins_stay limits b.0 rest more items b.2)

-- where no unit comes after them, they are all that the bytes spell
pub begins_spells : (limits : Limits) (bytes : List ℕ) (items : List Item) (rest : List ℕ) → BeginsWith limits bytes items rest → BeginsNoUnit limits rest → Spells limits bytes items rest
begins_spells limits bytes [] rest b none = (b, none)
begins_spells limits bytes (item ∷ items) rest b none = (b.0, b.1, begins_spells limits b.0 items rest b.2 none)

pub spells_begins : (limits : Limits) (bytes : List ℕ) (items : List Item) (rest : List ℕ) → Spells limits bytes items rest → BeginsWith limits bytes items rest
spells_begins limits bytes [] rest s = s.0
spells_begins limits bytes (item ∷ items) rest s = (s.0, s.1, spells_begins limits s.0 items rest s.2)

-- one unit more, which the feeder gave
pub begins_more : (limits : Limits) (bytes : List ℕ) (items : List Item) (item : Item) (mid new : Stream) → mid.limits ≡ limits → BeginsWith limits bytes items mid.pending → GivesUnit mid item new
    → BeginsWith limits bytes (items ++ item ∷ []) new.pending
begins_more limits bytes items item mid new limited b g =
    let unit : IsUnitThen limits mid.pending item new.pending = subst (λ (l : Limits). IsUnitThen l mid.pending item new.pending) limited g.unit in
    begins_then limits bytes mid.pending new.pending items (item ∷ []) b (new.pending, unit, refl)

-- each unit has bytes
pub falls : (old new : Stream) (item : Item) → GivesUnit old item new → length new.pending < length old.pending
falls old new item g =
    let some = unit_not_empty old.limits g.unit.whole item g.unit.unit in
    omega (arith, some, ap length g.unit.joined, length-append g.unit.whole new.pending)
