-- What is queued to a slot.
use Rattle.std.proofs.Common.{◌≡◌, ℕ, zero, suc, ◌+◌, Bool, true, false, cond, List, [], ◌∷◌, ◌++◌, length, filter, replicate}
use Rattle.std.proofs.Common.{refl, sym, ap, ◌∙◌, append_assoc}
use Rattle.std.specs.Prelude.{◌==◌}
use Rattle.std.specs.List.{concat}
use Rattle.std.specs.Str.{bytes_eq}
use Rattle.std.proofs.lemmas.List.{append-nil, length-append}
use Rattle.std.proofs.lemmas.List.Elements.{filter-append}
use Rattle.std.proofs.lemmas.List.Folds.{concat-append}
use Rattle.std.proofs.lemmas.Slice.Eq.{bytes_eq-Decides}
use Rattle.gm_packet.specs.Answers.{Answer, answer_packet}
use Rattle.gm_notes.specs.Flow.{Flow, Began, Queued, Drained, Emptied, sent}
use Rattle.gm_notes.specs.Past.{Past, give, tell_all}
use Rattle.gm_laws.specs.Listeners.{outputs, Queues, copies}

-- ---- joined

joined_began : (t : Bool) (bytes : List ℕ) (queued : List (List ℕ)) → bytes ≡ concat queued → cond t [] bytes ≡ concat (cond t [] queued)
joined_began true bytes queued e = refl
joined_began false bytes queued e = e

joined_more : (t : Bool) (bytes more : List ℕ) (queued : List (List ℕ)) → bytes ≡ concat queued → cond t (bytes ++ more) bytes ≡ concat (cond t (queued ++ more ∷ []) queued)
joined_more true bytes more queued e = ap (λ l. l ++ more) e ∙ (ap (λ l. concat queued ++ l) (sym (append-nil more)) ∙ sym (concat-append queued (more ∷ [])))
joined_more false bytes more queued e = e

pub joined : (flow : List Flow) (c : ℕ) → sent c flow ≡ concat (outputs c flow)
joined [] c = refl
joined (Began d ∷ older) c = joined_began (c == d) (sent c older) (outputs c older) (joined older c)
joined (Queued d bytes ∷ older) c = joined_more (c == d) (sent c older) bytes (outputs c older) (joined older c)
joined (Drained d ∷ older) c = joined older c
joined (Emptied d ∷ older) c = joined older c

-- ---- told to all

module _ (c : ℕ) (answer : Answer) where
  told_at : (t : Bool) (d : ℕ) (queued : List (List ℕ)) (rest : List ℕ)
      → cond t (queued ++ answer_packet answer ∷ []) queued ++ replicate (length rest) (answer_packet answer) ≡ queued ++ replicate (length (cond t (d ∷ rest) rest)) (answer_packet answer)
  told_at true d queued rest = append_assoc queued (answer_packet answer ∷ []) (replicate (length rest) (answer_packet answer))
  told_at false d queued rest = refl

  -- the answer is queued to slot c once for each time that the slot stands there
  pub told : (slots : List ℕ) (past : Past) → Queues c (replicate (length (filter (λ d. c == d) slots)) (answer_packet answer)) past (tell_all answer slots past)
  told [] past = sym (append-nil (outputs c past.flow))
  told (d ∷ slots) past = told slots (give d answer past) ∙ told_at (c == d) d (outputs c past.flow) (filter (λ e. c == e) slots)

-- ---- copies

pub copies_append : (bytes : List ℕ) (a b : List (List ℕ)) → copies bytes (a ++ b) ≡ copies bytes a + copies bytes b
copies_append bytes a b = ap length (filter-append (bytes_eq bytes) a b) ∙ length-append (filter (bytes_eq bytes) a) (filter (bytes_eq bytes) b)

same_at : (t : Bool) (bytes : List ℕ) (rest : List (List ℕ)) → t ≡ true → length (cond t (bytes ∷ rest) rest) ≡ suc (length rest)
same_at true bytes rest is = refl
same_at false bytes rest is = absurd cc

pub copies_same : (bytes : List ℕ) (m : ℕ) → copies bytes (replicate m bytes) ≡ m
copies_same bytes zero = refl
copies_same bytes (suc m) =
    same_at (bytes_eq bytes bytes) bytes (filter (bytes_eq bytes) (replicate m bytes)) ((bytes_eq-Decides bytes bytes).1 refl) ∙ ap suc (copies_same bytes m)

other_at : (t : Bool) (bytes other : List ℕ) (rest : List (List ℕ)) → bytes_eq bytes other ≡ t → (bytes ≡ other → ⊥) → length (cond t (other ∷ rest) rest) ≡ length rest
other_at true bytes other rest is differ = absurd (differ ((bytes_eq-Decides bytes other).0 is))
other_at false bytes other rest is differ = refl

pub copies_other : (bytes other : List ℕ) (m : ℕ) → (bytes ≡ other → ⊥) → copies bytes (replicate m other) ≡ 0
copies_other bytes other zero differ = refl
copies_other bytes other (suc m) differ =
    other_at (bytes_eq bytes other) bytes other (filter (bytes_eq bytes) (replicate m other)) refl differ ∙ copies_other bytes other m differ
