-- A script prints one text.
use Rattle.std.proofs.Common.{◌≡◌, ℕ, List, [], ◌∷◌, ◌++◌, Option, Some, None, sym, ap, ap₂, subst, ◌∙◌}
use Rattle.gm_feeder.specs.declared.units.Limits.{Limits}
use Rattle.gm_notes.specs.declared.event.ApplyError.{ApplyError}
use Rattle.gm_notes.specs.Settings.{Settings}
use Rattle.gm_notes.specs.Steps.{run}
use Rattle.gm_front.specs.Inputs.{Input, Reading, nothing_read, refusal_of, opened_by}
use Rattle.gm_front.proofs.OneReading.{one_adding}
use Rattle.gm_play.specs.Scripts.{Order, Skip, Bad, Hands, order_of, lines_of}
use Rattle.gm_play.specs.Prints.{Settles, Handing, Tells, Prints, IsTextOf, told, drained, said_of}

one_settling : (k : Settings) (old mid mid' : Reading) (said a b : List ℕ) (x y : Reading) → mid ≡ mid' → Settles k old mid said a x → Settles k old mid' said b y → (a ≡ b) × (x ≡ y)
one_settling k old mid mid' said a b x y same s t = (
  s.printed ∙ (ap (λ (m : Reading). said ++ told k (run k old.steps) 0 k.slots m.steps) same ∙ sym t.printed),
  s.taken ∙ (ap (λ (m : Reading). record m { steps = drained k 0 k.slots m.steps }) same ∙ sym t.taken),
)

one_handing : (k : Settings) (limits : Limits) (input : Input) (r : Option ApplyError) (old : Reading) (a b : List ℕ) (x y : Reading) → Handing k limits input r old a x → Handing k limits input r old b y → (a ≡ b) × (x ≡ y)
one_handing k limits input (Some refused) old a b x y s t = (s.printed ∙ sym t.printed, s.kept ∙ sym t.kept)
one_handing k limits input None old a b x y s t =
    one_settling k old s.0 t.0 (said_of (opened_by k input old)) a b x y (one_adding k limits input old s.0 t.0 s.1 t.1) s.2 t.2

one_telling : (k : Settings) (limits : Limits) (old : Reading) (order : Order) (a b : List ℕ) (x y : Reading) → Tells k limits old order a x → Tells k limits old order b y → (a ≡ b) × (x ≡ y)
one_telling k limits old Skip a b x y s t = (s.printed ∙ sym t.printed, s.kept ∙ sym t.kept)
one_telling k limits old Bad a b x y s t = (s.printed ∙ sym t.printed, s.kept ∙ sym t.kept)
one_telling k limits old (Hands input) a b x y s t = one_handing k limits input (refusal_of k input old) old a b x y s t

one_print : (k : Settings) (limits : Limits) (reading : Reading) (lines : List (List ℕ)) (a b : List ℕ) → Prints k limits reading lines a → Prints k limits reading lines b → a ≡ b
one_print k limits reading [] a b p q = p ∙ sym q
one_print k limits reading (line ∷ lines) a b p q =
    let same = one_telling k limits reading (order_of line) p.0 q.0 p.1 q.1 p.3 q.3 in
    let more = one_print k limits p.1 lines p.2 q.2 p.4 (subst (λ (r : Reading). Prints k limits r lines q.2) (sym same.1) q.4) in
    p.5 ∙ (ap₂ (λ (l m : List ℕ). l ++ m) same.0 more ∙ sym q.5)

pub one_text : (k : Settings) (limits : Limits) (script a b : List ℕ) → IsTextOf k limits script a → IsTextOf k limits script b → a ≡ b
one_text k limits script a b p q = one_print k limits nothing_read (lines_of script) a b p q
