-- A step is refused exactly where something bars it.
use Rattle.std.proofs.Common.{◌≡◌, ◌⊎◌, inl, inr, ℕ, ◌<◌, Bool, true, false, cond, ◌&&◌, Option, Some, None, List, ◌∷◌, refl, sym, ap, ◌∙◌, arith}
use Rattle.std.proofs.lemmas.Option.{same_Some}
use Rattle.gm_notes.specs.declared.states.Mode.{Mode}
use Rattle.gm_notes.specs.declared.states.Mode.TheVariants.{Running, Graceful, Stopped}
use Rattle.gm_notes.specs.declared.event.ApplyError.{ApplyError}
use Rattle.gm_notes.specs.declared.event.ApplyError.TheVariants.{NotOpen, NoSlot, NotOwed, Refusing}
use Rattle.gm_notes.specs.Settings.{Settings}
use Rattle.gm_notes.specs.Notes.{is_open, takes_units, mode, phase, is_owed}
use Rattle.gm_notes.specs.Past.{Past}
use Rattle.gm_notes.specs.Steps.{Step, Open, Packet, Line, Fault, Close, Tick, Took, Withdrew, Drain, free_slot, if_free, if_accepted, unless_not_open}
use Rattle.gm_notes.specs.Steps.{unless, refusal, add, run}
use Rattle.gm_notes.proofs.FreeSlots.{free_is}
use Rattle.gm_laws.specs.Barred.{IsBarred, OnlyTheBarredIsRefused}
use Rattle.gm_laws.proofs.Modes.{free_found}
use Rattle.gm_laws.proofs.Moving.{both_not}

-- ---- whether a slot takes it

shut_refused : (t : Bool) (error : ApplyError) → (error ≡ NotOpen) × (t ≡ false) → unless_not_open t ≡ Some error
shut_refused true error b = absurd (let x = b.1 in cc)
shut_refused false error b = ap Some (sym b.0)

refused_shut : (t : Bool) (error : ApplyError) → unless_not_open t ≡ Some error → (error ≡ NotOpen) × (t ≡ false)
refused_shut true error e = absurd cc
refused_shut false error e = (sym (same_Some NotOpen error e), refl)

module _ (k : Settings) (start : Past) where
  -- ---- a NOOP

  abbrev owed_to : Bool → Bool → Option ApplyError
  owed_to opened owed = cond opened (cond owed None (Some NotOwed)) (Some NotOpen)

  abbrev NoneOwed : Bool → Bool → ApplyError → Type 0
  NoneOwed opened owed error = ((error ≡ NotOpen) × (opened ≡ false)) ⊎ ((error ≡ NotOwed) × (opened ≡ true) × ((opened && owed) ≡ false))

  none_refused : (t u : Bool) (error : ApplyError) → NoneOwed t u error → owed_to t u ≡ Some error
  none_refused true true error (inl b) = absurd (let x = b.1 in cc)
  none_refused true true error (inr b) = absurd (let x = b.2 in cc)
  none_refused true false error (inl b) = absurd (let x = b.1 in cc)
  none_refused true false error (inr b) = ap Some (sym b.0)
  none_refused false u error (inl b) = ap Some (sym b.0)
  none_refused false u error (inr b) = absurd (let x = b.1 in cc)

  refused_none : (t u : Bool) (error : ApplyError) → owed_to t u ≡ Some error → NoneOwed t u error
  refused_none true true error e = absurd cc
  refused_none true false error e = inr (sym (same_Some NotOwed error e), refl, refl)
  refused_none false u error e = inl (sym (same_Some NotOpen error e), refl)

  -- ---- an opening

  none_free : ((c : ℕ) → c < k.slots → is_open c start.notes ≡ true) → free_slot k start ≡ None
  none_free all = by (free_slot k start) refl
    where
      by : (o : Option ℕ) → free_slot k start ≡ o → o ≡ None
      by None is = refl
      by (Some c) is = let f = free_is 0 k.slots start.notes c is in absurd (both_not (is_open c start.notes) (all c (omega (arith, f.0))) f.1)

  free_none : free_slot k start ≡ None → (c : ℕ) → c < k.slots → is_open c start.notes ≡ true
  free_none none c low = by (is_open c start.notes) refl
    where
      by : (t : Bool) → is_open c start.notes ≡ t → t ≡ true
      by true is = refl
      by false is =
          let found = free_found c 0 k.slots start.notes (omega arith) (omega arith) is in
          let bad : None ≡ Some found.0 = sym none ∙ found.1 in let worse : ⊥ = cc in absurd worse

  abbrev Barred : Mode → ApplyError → Type 0
  Barred m error = ((error ≡ Refusing) × (m ≡ Running → ⊥)) ⊎ ((error ≡ NoSlot) × (m ≡ Running) × ((c : ℕ) → c < k.slots → is_open c start.notes ≡ true))

  barred_refused : (m : Mode) (error : ApplyError) → Barred m error → if_accepted m (free_slot k start) ≡ Some error
  barred_refused Running error (inl b) = absurd (b.1 refl)
  barred_refused Running error (inr b) = ap if_free (none_free b.2) ∙ ap Some (sym b.0)
  barred_refused Graceful error (inl b) = ap Some (sym b.0)
  barred_refused Graceful error (inr b) = absurd (let x = b.1 in cc)
  barred_refused Stopped error (inl b) = ap Some (sym b.0)
  barred_refused Stopped error (inr b) = absurd (let x = b.1 in cc)

  refused_barred : (m : Mode) (error : ApplyError) → if_accepted m (free_slot k start) ≡ Some error → Barred m error
  refused_barred Running error e = by (free_slot k start) refl e
    where
      by : (o : Option ℕ) → free_slot k start ≡ o → if_free o ≡ Some error → Barred Running error
      by None is e = inr (sym (same_Some NoSlot error e), refl, free_none is)
      by (Some c) is e = absurd cc
  refused_barred Graceful error e = inl (sym (same_Some Refusing error e), λ m. let bad : ⊥ = cc in bad)
  refused_barred Stopped error e = inl (sym (same_Some Refusing error e), λ m. let bad : ⊥ = cc in bad)

  -- ---- steps

  refuses : (s : Step) (error : ApplyError) → IsBarred k s start error → refusal k s start ≡ Some error
  refuses (Open addr) error b = barred_refused (mode start.notes) error b
  refuses (Packet c number bytes) error b = shut_refused (takes_units c start.notes) error b
  refuses (Line c bytes) error b = shut_refused (takes_units c start.notes) error b
  refuses (Fault c fault) error b = shut_refused (takes_units c start.notes) error b
  refuses (Close c) error b = shut_refused (is_open c start.notes) error b
  refuses (Took c) error b = none_refused (is_open c start.notes) (is_owed (phase c start.notes)) error b
  refuses (Withdrew c) error b = none_refused (is_open c start.notes) (is_owed (phase c start.notes)) error b
  refuses (Tick now) error b = absurd b
  refuses (Drain c) error b = absurd b

  bars : (s : Step) (error : ApplyError) → refusal k s start ≡ Some error → IsBarred k s start error
  bars (Open addr) error e = refused_barred (mode start.notes) error e
  bars (Packet c number bytes) error e = refused_shut (takes_units c start.notes) error e
  bars (Line c bytes) error e = refused_shut (takes_units c start.notes) error e
  bars (Fault c fault) error e = refused_shut (takes_units c start.notes) error e
  bars (Close c) error e = refused_shut (is_open c start.notes) error e
  bars (Took c) error e = refused_none (is_open c start.notes) (is_owed (phase c start.notes)) error e
  bars (Withdrew c) error e = refused_none (is_open c start.notes) (is_owed (phase c start.notes)) error e
  bars (Tick now) error e = absurd cc
  bars (Drain c) error e = absurd cc

pub barred : (k : Settings) (steps : List Step) (s : Step) → OnlyTheBarredIsRefused k (run k steps) s (run k (s ∷ steps))
barred k steps s error =
    let start = run k steps in (
      refuses k start s error,
      λ e. (bars k start s error e, ap (λ o. unless o (add k s start) start) e),
    )
