-- What was sent to a slot is what was drained and what waits.
use Rattle.std.proofs.Common.{◌≡◌, ℕ, Bool, true, false, cond, List, [], ◌∷◌, ◌++◌, Some, None, refl, sym, ap, subst, ◌∙◌}
use Rattle.std.proofs.Common.{arith, append_assoc}
use Rattle.std.specs.Prelude.{◌==◌, unwrap_or}
use Rattle.std.proofs.lemmas.List.{append-nil}
use Rattle.std.proofs.lemmas.Bool.Decides.{nat_tests}
use Rattle.gm_notes.specs.declared.note.Note.{Note}
use Rattle.gm_notes.specs.declared.note.Note.TheVariants as notes
use Rattle.gm_notes.specs.Settings.{Settings}
use Rattle.gm_notes.specs.Notes.{is_open}
use Rattle.gm_notes.specs.Flow.{Flow, Began, Queued, Drained, Emptied, waiting}
use Rattle.gm_notes.specs.Past.{Past}
use Rattle.gm_notes.specs.Closings.{discard_each, disconnect, rising, close}
use Rattle.gm_notes.specs.Steps.{Step, Close, step, run}
use Rattle.gm_history.specs.History.{History}
use Rattle.gm_history.specs.Laws.{drained, SentSo}
use Rattle.gm_history.proofs.Keeping.{is_inner, Keeps}
use Rattle.gm_history.proofs.StepsKeep.{gone_keeps, discard_each_keeps, give_back_each_keeps, step_keeps, run_history}
use Rattle.gm_notes.proofs.Numbers.{same_number}

-- a note that is no opening and no closing leaves open what was
pub inner_open : (note : Note) (older : List Note) (c : ℕ) → is_inner note ≡ true → is_open c (note ∷ older) ≡ is_open c older
inner_open (notes.Opened d addr) older c inner = absurd cc
inner_open (notes.Closed d) older c inner = absurd cc
inner_open note older c inner = refl

-- whoever is closed isn't open
module _ (k : Settings) (c : ℕ) (past : Past) where
  stays_closed : Keeps k past.notes (Close c) (λ p. is_open c p.notes ≡ false)
  stays_closed = record {
    by_note = λ note p inner allowed caused h i. inner_open note p.notes c inner ∙ i;
    by_opening = λ d addr p allowed caused h i. absurd cc;
    by_closing = λ d p opened caused h i. by (c == d) (is_open c p.notes) i;
    by_saying = λ d bytes p opened may h i. i;
  }
    where
      by : (t older : Bool) → older ≡ false → unwrap_or (cond t (Some false) None) older ≡ false
      by true older i = refl
      by false older i = i

  anything : Keeps k past.notes (Close c) (λ p. Unit {0})
  anything = record { by_note = λ note p i a w h u. tt; by_opening = λ d addr p a w h u. tt; by_closing = λ d p o w h u. tt; by_saying = λ d bytes p o m h u. tt }

  pub close_closes : History k past.notes → is_open c past.notes ≡ true → is_open c (close k c past).notes ≡ false
  close_closes h opened =
      let now : is_open c (disconnect c past).notes ≡ false = rw (same_number c) refl in
      (give_back_each_keeps stays_closed (rising past) (discard_each (rising past) (disconnect c past))
      (discard_each_keeps stays_closed (rising past) (disconnect c past) ((gone_keeps anything past opened (h, tt)).0, now))).1

-- ---- what was sent

pub began : (c d : ℕ) (flow : List Flow) (older t : Bool) → (c == d) ≡ t → SentSo older c flow → SentSo (unwrap_or (cond t (Some true) None) older) c (Began d ∷ flow)
began c d flow older true is i = rw is refl
began c d flow true false is i = rw is i
began c d flow false false is i = (rw is i.0, (i.1.0, rw is i.1.1))

pub emptied : (c d : ℕ) (flow : List Flow) (older t : Bool) → (c == d) ≡ t → SentSo older c flow → (t ≡ true → older ≡ true) → SentSo (unwrap_or (cond t (Some false) None) older) c (Emptied d ∷ flow)
emptied c d flow true true is i opened = (rw is refl, (waiting c flow, i))
emptied c d flow false true is i opened = absurd (let e = opened refl in cc)
emptied c d flow true false is i opened = rw is i
emptied c d flow false false is i opened = (rw is i.0, i.1)

pub queued : (c d : ℕ) (bytes : List ℕ) (flow : List Flow) (older t : Bool) → (c == d) ≡ t → SentSo older c flow → (t ≡ true → older ≡ true) → SentSo older c (Queued d bytes ∷ flow)
queued c d bytes flow true true is i opened = rw is (ap (λ l. l ++ bytes) i ∙ append_assoc (drained c flow) (waiting c flow) bytes)
queued c d bytes flow false true is i opened = absurd (let e = opened refl in cc)
queued c d bytes flow true false is i opened = rw is i
queued c d bytes flow false false is i opened = (rw is i.0, (i.1.0, rw is i.1.1))

pub taken : (c d : ℕ) (flow : List Flow) (older t : Bool) → (c == d) ≡ t → SentSo older c flow → SentSo older c (Drained d ∷ flow)
taken c d flow true true is i = rw is (i ∙ sym (append-nil (drained c flow ++ waiting c flow)))
taken c d flow false true is i =
    (rw is refl, (i.1.0, rw is (i.1.1 ∙ ap (λ l. l ++ i.1.0) (sym (append-nil (drained c flow)) ∙ ap (λ l. drained c flow ++ l) (sym i.0)))))
taken c d flow true false is i = rw is i
taken c d flow false false is i = (rw is i.0, (i.1.0, rw is i.1.1))

pub same_slot : (c d : ℕ) (notes : List Note) → is_open d notes ≡ true → (c == d) ≡ true → is_open c notes ≡ true
same_slot c d notes opened e = let same : d ≡ c = grind (arith, nat_tests) in subst (λ x. is_open x notes ≡ true) same opened

abbrev pub AllSent : Past → Type 0
AllSent past = (c : ℕ) → SentSo (is_open c past.notes) c past.flow

pub noted_sent : (note : Note) (past : Past) → is_inner note ≡ true → AllSent past → (c : ℕ) → SentSo (is_open c (note ∷ past.notes)) c past.flow
noted_sent note past inner i c = subst (λ t. SentSo t c past.flow) (sym (inner_open note past.notes c inner)) (i c)

step_sent : (k : Settings) (s : Step) (start : Past) → History k start.notes → AllSent start → AllSent (step k s start)
step_sent k s start history all =
    (step_keeps {k = k} {I = AllSent} start s
    (record {
      by_note = λ note past inner allowed cause h i. noted_sent note past inner i;
      by_opening = λ d addr past allowed cause h i c. began c d past.flow (is_open c past.notes) (c == d) refl (i c);
      by_closing = λ d past opened cause h i c. emptied c d past.flow (is_open c past.notes) (c == d) refl (i c) (same_slot c d past.notes opened);
      by_saying = λ d bytes past opened may h i c. queued c d bytes past.flow (is_open c past.notes) (c == d) refl (i c) (same_slot c d past.notes opened);
    })
    (λ d e h i c. taken c d start.flow (is_open c start.notes) (c == d) refl (i c))
    (history, all)).1

pub run_sent : (k : Settings) (steps : List Step) (c : ℕ) → SentSo (is_open c (run k steps).notes) c (run k steps).flow
run_sent k [] c = (refl, ([], refl))
run_sent k (s ∷ steps) c = step_sent k s (run k steps) (run_history k steps) (run_sent k steps) c
