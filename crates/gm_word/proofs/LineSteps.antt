-- Each step leaves the word, the line and the takes of its slot in agreement.
use Rattle.std.proofs.Common.{◌≡◌, ℕ, ◌+◌, refl, sym, ap, ◌∙◌, subst, inl, inr, ⊎_elim, arith, lit<}
use mathlib.Core.Logic.{dite}
use native.Mathlib.Decide.{ℕ_discrete}
use Rattle.gm_word.specs.declared.phase.Phase.{Phase}
use Rattle.gm_word.specs.declared.phase.Phase.TheVariants.{Awake, Asleep, Owed}
use Rattle.gm_word.specs.declared.view.Line.{Line}
use Rattle.gm_word.specs.Lines.{number, owing, cleared, fresh_line, Agrees, Kind, sleep, wake, stir, withdraw, look, phase_for, Finds}
use Rattle.gm_word.specs.Lines.{word_after, line_after}
use Rattle.gm_word.proofs.Totals.{if_other}

-- the phase whose word is 2
pub owed_by_number : (phase : Phase) → 2 ≡ number phase → phase ≡ Owed
owed_by_number Awake is = absurd (omega arith)
owed_by_number Asleep is = absurd (omega arith)
owed_by_number Owed is = refl

-- what a step finds, by the phase
pub finds : (kind : Kind) (word : ℕ) (line : Line) (takes : ℕ) → Agrees word line takes → line.phase ≡ phase_for kind → Finds kind word
finds sleep word line takes a at = ⊎_elim (λ is. is ∙ ap number at) (λ x. absurd (cc)) a.phase
finds wake word line takes a at = ⊎_elim (λ is. is ∙ ap number at) (λ x. absurd (cc)) a.phase
finds stir word line takes a at = ⊎_elim (λ is. is ∙ ap number at) (λ x. absurd (cc)) a.phase
finds withdraw word line takes a at = ⊎_elim (λ is. inl (is ∙ ap number at)) (λ x. inr x.1) a.phase
finds look word line takes a at = ⊎_elim (λ is. inl (is ∙ ap number at)) (λ x. inr x.1) a.phase

pub step_agrees : (kind : Kind) (word : ℕ) (line : Line) (takes : ℕ) → Agrees word line takes → line.phase ≡ phase_for kind → Finds kind word
    → Agrees (word_after kind word) (line_after kind word line) takes
step_agrees sleep word line takes a at found =
    let w = ap owing found in
    let n = ap (λ (p : Phase). owing (number p)) at in
    let one = a.woken in
    let two = a.told in
    record { small = lit< tt; phase = inl refl; woken = omega arith; told = omega arith }
step_agrees wake word line takes a at found =
    let w = ap owing found in
    let n = ap (λ (p : Phase). owing (number p)) at in
    let one = a.woken in
    let two = a.told in
    record { small = lit< tt; phase = inl refl; woken = omega arith; told = omega arith }
step_agrees stir word line takes a at found =
    let w = ap owing found in
    let n = ap (λ (p : Phase). owing (number p)) at in
    let one = a.woken in
    let two = a.told in
    record { small = lit< tt; phase = inl refl; woken = omega arith; told = omega arith }
step_agrees withdraw word line takes a at found =
    let n = ap (λ (p : Phase). owing (number p)) at in
    let one = a.woken in
    let two = a.told in
    ⊎_elim
    (λ (is : word ≡ 2).
    let w = ap owing is in
    subst (λ (x : ℕ). Agrees (cleared x) (line_after withdraw x line) takes) (sym is) record { small = lit< tt; phase = inl refl; woken = omega arith; told = omega arith })
    (λ (is : word ≡ 0).
    let w = ap owing is in
    subst (λ (x : ℕ). Agrees (cleared x) (line_after withdraw x line) takes) (sym is) record { small = lit< tt; phase = inl refl; woken = omega arith; told = omega arith })
    found
step_agrees look word line takes a at found =
    let n = ap (λ (p : Phase). owing (number p)) at in
    let one = a.woken in
    let two = a.told in
    ⊎_elim
    (λ (is : word ≡ 2).
    let w = ap owing is in
    subst (λ (x : ℕ). Agrees x (line_after look x line) takes) (sym is) record { small = lit< tt; phase = inl (ap number (sym at)); woken = omega arith; told = omega arith })
    (λ (is : word ≡ 0).
    let w = ap owing is in
    subst (λ (x : ℕ). Agrees x (line_after look x line) takes) (sym is) record { small = lit< tt; phase = inl refl; woken = omega arith; told = omega arith })
    found

-- one try of the pen
pub taken : (word : ℕ) (line : Line) (takes : ℕ) → Agrees word line takes → Agrees (cleared word) line (takes + owing word)
taken word line takes a =
    dite (ℕ_discrete word 2)
    (λ is.
    let w = ap owing is in
    let one = a.woken in
    let owed : line.phase ≡ Owed = ⊎_elim (λ same. owed_by_number line.phase (sym is ∙ same)) (λ x. x.0) a.phase in
    subst (λ (x : ℕ). Agrees (cleared x) line (takes + owing x)) (sym is) record { small = lit< tt; phase = inr (owed, refl); woken = omega arith; told = a.told })
    (λ other.
    let same : cleared word ≡ word = if_other word 2 0 word other in
    let none : owing word ≡ 0 = if_other word 2 1 0 other in
    let one = a.woken in
    rw same record { small = a.small; phase = a.phase; woken = omega arith; told = a.told })

-- a slot at which no step was made
pub fresh_agrees : Agrees 0 fresh_line 0
fresh_agrees = record { small = lit< tt; phase = inl refl; woken = refl; told = refl }
