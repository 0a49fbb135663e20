-- Places, one of which is written.
use Rattle.std.proofs.Common.{◌≡◌, ◌<◌, ◌≤◌, ℕ, zero, suc, arith, false, List, [], ◌∷◌, ◌++◌, length, get_or, set}
use Rattle.std.proofs.Common.{Option, Some, None, refl, sym, ◌∙◌}
use Rattle.std.specs.Prelude.{◌==◌}
use Rattle.gm_feeder.specs.declared.units.Limits.{Limits}
use Rattle.gm_notes.specs.declared.note.Note.{Note}
use Rattle.gm_notes.specs.Notes.{is_open, is_shut}
use Rattle.gm_feeder.specs.Streams.{Stream}
use Rattle.gm_front.specs.Inputs.{with_rest}
use Rattle.gm_front.specs.Fronts.{FeedsIfOpen, Holds}
use Rattle.gm_front.proofs.Steps.{OnlyShuts}
use Rattle.gm_notes.proofs.Numbers.{same_number}

-- what holds of each feeder holds still once one is written, of which it holds
pub each_set : (P : ℕ → Option Stream → Type 0) (feeders : List (Option Stream)) (i : ℕ) (p : Option Stream) → i < length feeders
    → ((d : ℕ) → (d ≡ i → ⊥) → P d (get_or feeders d None)) → P i p → (d : ℕ) → P d (get_or (set feeders i p) d None)
each_set P [] i p lt h g d = absurd (omega arith)
each_set P (x ∷ feeders) zero p lt h g zero = g
each_set P (x ∷ feeders) zero p lt h g (suc d) = h (suc d) (λ e. absurd (omega (arith, e)))
each_set P (x ∷ feeders) (suc i) p lt h g zero = h zero (λ e. absurd (omega (arith, e)))
each_set P (x ∷ feeders) (suc i) p lt h g (suc d) =
    each_set (λ e. P (suc e)) feeders i p (omega arith) (λ e differs. h (suc e) (λ same. differs (omega (arith, same)))) g d

-- feeders of which none is taken, and one more
pub none_more : (feeders : List (Option Stream)) → ((c : ℕ) → get_or feeders c None ≡ None) → (c : ℕ) → get_or (feeders ++ None ∷ []) c None ≡ None
none_more [] h zero = refl
none_more [] h (suc c) = refl
none_more (x ∷ feeders) h zero = h zero
none_more (x ∷ feeders) h (suc c) = none_more feeders (λ d. h (suc d)) c

-- past the last feeder there is none
pub past_end : (feeders : List (Option Stream)) (c : ℕ) → length feeders ≤ c → get_or feeders c None ≡ None
past_end [] c le = refl
past_end (x ∷ feeders) zero le = absurd (omega arith)
past_end (x ∷ feeders) (suc c) le = past_end feeders c (omega arith)

-- the feeder that was read
pub at_feeder : (feeders : List (Option Stream)) (c : ℕ) (feeder : Option Stream) → c < length feeders → feeder ≡ get_or feeders c feeder → get_or feeders c None ≡ feeder
at_feeder [] c feeder lt e = absurd (omega arith)
at_feeder (x ∷ feeders) zero feeder lt e = sym e
at_feeder (x ∷ feeders) (suc c) feeder lt e = at_feeder feeders c feeder (omega arith) e

-- nothing is there
pub not_some : {A : Type 0} (found : Option A) → ((value : A) → found ≡ Some value → ⊥) → found ≡ None
not_some None h = refl
not_some (Some value) h = absurd (h value refl)

-- ---- a feeder while notes change

-- a feeder stays as it was where its slot stays open, and its rest stays
pub feeder_stays : (limits : Limits) (d : ℕ) (old new : List Note) (rest rest' : List ℕ) (feeder : Option Stream) → is_open d new ≡ is_open d old
    → (is_shut d new ≡ false → is_shut d old ≡ false) → rest' ≡ rest → FeedsIfOpen limits d old rest feeder → FeedsIfOpen limits d new rest' feeder
feeder_stays limits d old new rest rest' None opens shuts same p = (opens ∙ p.0, same ∙ p.1)
feeder_stays limits d old new rest rest' (Some feeder) opens shuts same p =
    record {
      opened = opens ∙ p.opened;
      limited = p.limited;
      fed = λ e. let was = p.fed (shuts e) in (was.0 ∙ sym same, was.1);
    }

-- the rest of another slot
pub other_rest : (c d : ℕ) (rest : List ℕ) (rests : ℕ → List ℕ) → (d == c) ≡ false → with_rest c rest rests d ≡ rests d
other_rest c d rest rests other = rw other refl

pub this_rest : (c : ℕ) (rest : List ℕ) (rests : ℕ → List ℕ) → with_rest c rest rests c ≡ rest
this_rest c rest rests = rw (same_number c) refl

-- all feeders stay where nothing is opened or closed
pub holds_on : (limits : Limits) (old new : List Note) (rests : ℕ → List ℕ) (feeders : List (Option Stream)) → OnlyShuts old new → Holds limits old rests feeders → Holds limits new rests feeders
holds_on limits old new rests feeders only h =
    λ d. feeder_stays limits d old new (rests d) (rests d) (get_or feeders d None) (only.opens d) (only.shuts d) refl (h d)
