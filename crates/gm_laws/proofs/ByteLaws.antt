-- The laws about bytes that need more than a history.
use Rattle.std.proofs.Common.{◌≡◌, ℕ, Bool, true, false, List, [], ◌∷◌, ◌++◌, refl, sym, ap, subst, ◌∙◌}
use Rattle.std.proofs.Common.{arith, append_assoc}
use Rattle.std.specs.Prelude.{◌==◌}
use Rattle.std.proofs.lemmas.List.{append-nil}
use Rattle.std.proofs.lemmas.Bool.Decides.{nat_tests}
use Rattle.gm_notes.specs.Settings.{Settings}
use Rattle.gm_notes.specs.Notes.{is_open}
use Rattle.gm_notes.specs.Flow.{Flow, Began, Queued, Drained, Emptied, waiting}
use Rattle.gm_notes.specs.Past.{Past}
use Rattle.gm_notes.specs.Steps.{Step, Drain, step}
use Rattle.gm_history.specs.History.{History}
use Rattle.gm_history.specs.Laws.{drained, IsPrefix, SentSo}
use Rattle.gm_laws.specs.Laws.{takes_from, OnlyDrainsTake}
use Rattle.gm_history.proofs.StepsKeep.{step_keeps}
use Rattle.gm_history.proofs.Bytes.{began, emptied, queued, taken, same_slot, AllSent, noted_sent}
use Rattle.gm_notes.proofs.Numbers.{same_number}

-- ---- what is taken

module _ (c : ℕ) (before : List ℕ) where
  prefix_began : (d : ℕ) (flow : List Flow) (t : Bool) → (c == d) ≡ t → (t ≡ true → waiting c flow ≡ []) → IsPrefix before (waiting c flow) → IsPrefix before (waiting c (Began d ∷ flow))
  prefix_began d flow true is none f = (f.0, rw is (sym (none refl) ∙ f.1))
  prefix_began d flow false is none f = (f.0, rw is f.1)

  prefix_emptied : (d : ℕ) (flow : List Flow) (t : Bool) → (c == d) ≡ t → t ≡ false → IsPrefix before (waiting c flow) → IsPrefix before (waiting c (Emptied d ∷ flow))
  prefix_emptied d flow true is other f = absurd cc
  prefix_emptied d flow false is other f = (f.0, rw is f.1)

  prefix_drained : (d : ℕ) (flow : List Flow) (t : Bool) → (c == d) ≡ t → t ≡ false → IsPrefix before (waiting c flow) → IsPrefix before (waiting c (Drained d ∷ flow))
  prefix_drained d flow true is other f = absurd cc
  prefix_drained d flow false is other f = (f.0, rw is f.1)

  prefix_queued : (d : ℕ) (bytes : List ℕ) (flow : List Flow) (t : Bool) → (c == d) ≡ t → IsPrefix before (waiting c flow) → IsPrefix before (waiting c (Queued d bytes ∷ flow))
  prefix_queued d bytes flow true is f = (f.0 ++ bytes, rw is (ap (λ l. l ++ bytes) f.1 ∙ append_assoc before f.0 bytes))
  prefix_queued d bytes flow false is f = (f.0, rw is f.1)

-- nothing waits where the slot isn't open
none_waits : (c d : ℕ) (past : Past) → AllSent past → is_open d past.notes ≡ false → (c == d) ≡ true → waiting c past.flow ≡ []
none_waits c d past i closed e =
    let same : d ≡ c = grind (arith, nat_tests) in
    let here : SentSo false c past.flow = subst (λ t. SentSo t c past.flow) (subst (λ x. is_open x past.notes ≡ false) same closed) (i c) in
    here.0

module _ (k : Settings) (s : Step) (start : Past) where
  abbrev Prefixes : Past → Type 0
  Prefixes past = AllSent past × ((c : ℕ) → takes_from c s ≡ false → IsPrefix (waiting c start.flow) (waiting c past.flow))

  keeps_others : History k start.notes → AllSent start → (c : ℕ) → takes_from c s ≡ false → IsPrefix (waiting c start.flow) (waiting c (step k s start).flow)
  keeps_others history all =
      (step_keeps {k = k} {I = Prefixes} start s
      (record {
        by_note = λ note past inner allowed cause h i. (noted_sent note past inner i.0, i.1);
        by_opening = λ d addr past allowed cause h i. (
          (λ c. began c d past.flow (is_open c past.notes) (c == d) refl (i.0 c)),
          λ c other. prefix_began c (waiting c start.flow) d past.flow (c == d) refl (none_waits c d past i.0 allowed.0) (i.1 c other),
        );
        by_closing = λ d past opened cause h i. (
          (λ c. emptied c d past.flow (is_open c past.notes) (c == d) refl (i.0 c) (same_slot c d past.notes opened)),
          λ c other. prefix_emptied c (waiting c start.flow) d past.flow (c == d) refl (subst (λ x. takes_from c x ≡ false) cause other) (i.1 c other),
        );
        by_saying = λ d bytes past opened may h i. (
          (λ c. queued c d bytes past.flow (is_open c past.notes) (c == d) refl (i.0 c) (same_slot c d past.notes opened)),
          λ c other. prefix_queued c (waiting c start.flow) d bytes past.flow (c == d) refl (i.1 c other),
        );
      })
      (λ d e h i. (
        (λ c. taken c d start.flow (is_open c start.notes) (c == d) refl (i.0 c)),
        λ c other. prefix_drained c (waiting c start.flow) d start.flow (c == d) refl (subst (λ x. takes_from c x ≡ false) e other) (i.1 c other),
      ))
      (history, (all, λ c other. ([], sym (append-nil (waiting c start.flow)))))).1.1

  -- a drain takes all
  abbrev TakesAll : ℕ → Past → Type 0
  TakesAll c after = (waiting c after.flow ≡ []) × (drained c after.flow ≡ drained c start.flow ++ waiting c start.flow)

  drains_all : (c : ℕ) → s ≡ Drain c → TakesAll c (step k s start)
  drains_all c is = subst (λ x. TakesAll c (step k x start)) (sym is) (rw (same_number c) refl, rw (same_number c) refl)

  pub only_drains : History k start.notes → AllSent start → OnlyDrainsTake k start s (step k s start)
  only_drains history all = (keeps_others history all, drains_all)
