-- Notes that came are taken back.
use Rattle.std.proofs.Common.{◌≡◌, ℕ, ◌+◌, ◌≤◌, List, [], ◌∷◌, ◌++◌, length, take, drop, reverse, sym, ap, ◌∙◌, arith}
use Rattle.std.proofs.lemmas.List.{take-append-le, take_all, take-append-drop, append_assoc, reverse-append, reverse-reverse, length-reverse}
use Rattle.gm_notes.specs.declared.note.Note.{Note}
use Rattle.gm_plain.specs.Logs.{paid, oldest}
use Rattle.gm_plain.specs.Holds.{Contents, Grows}

paid-append : (newer older : List Note) → paid (newer ++ older) ≡ paid newer + paid older
paid-append [] older = let same : paid older ≡ 0 + paid older = omega arith in same
paid-append (note ∷ newer) older = let rest = paid-append newer older in omega (arith, rest)

-- fewer notes were paid for by less
pub paid_less : (count : ℕ) (notes : List Note) → paid (reverse (take count notes)) ≤ paid (reverse notes)
paid_less count notes =
    let split : reverse notes ≡ reverse (drop count notes) ++ reverse (take count notes) =
    ap reverse (sym (take-append-drop count notes)) ∙ reverse-append (take count notes) (drop count notes) in
    let sum = ap paid split ∙ paid-append (reverse (drop count notes)) (reverse (take count notes)) in
    omega (arith, sum)

-- of notes and those before, those before are the oldest
pub oldest_are : (newer older : List Note) → oldest (length older) (newer ++ older) ≡ older
oldest_are newer older =
    let long : length older ≡ length (reverse older) = sym (length-reverse older) in
    ap (λ (l : List Note). reverse (take (length older) l)) (reverse-append newer older)
    ∙ (ap reverse (ap (λ (n : ℕ). take n (reverse older ++ reverse newer)) long
    ∙ (take-append-le (length (reverse older)) (reverse older) (reverse newer) (omega arith) ∙ take_all (length (reverse older)) (reverse older) (omega arith)))
    ∙ reverse-reverse older)

-- ---- servers whose notes grew

pub grows_then : {a b c : Contents} → Grows a b → Grows b c → Grows a c
grows_then {a} {b} {c} first second =
    let f = first.notes in
    let s = second.notes in
    record { config = second.config ∙ first.config; notes = (s.0 ++ f.0, s.1 ∙ (ap (λ (l : List Note). s.0 ++ l) f.1 ∙ sym (append_assoc s.0 f.0 a.notes))) }

pub grows_same : {a b : Contents} → b.config ≡ a.config → b.notes ≡ a.notes → Grows a b
grows_same {a} {b} config notes = record { config = config; notes = ([], notes) }

pub grows_by : {a b : Contents} (note : Note) → b.config ≡ a.config → b.notes ≡ note ∷ a.notes → Grows a b
grows_by {a} {b} note config notes = record { config = config; notes = (note ∷ [], notes) }
