-- Each call makes a step of its kind, and no other: what the table asks before it.
use Rattle.std.proofs.Common.{◌≡◌, ◌≢◌, ℕ, ◌-◌, ◌<◌, max, List, [], ◌∷◌, ◌++◌, set, refl, sym, ap, subst}
use Rattle.std.specs.Prelude.{slice_index, slice_set}
use Rattle.atomic_table.specs.Table.{State, Me, keeps, Allows, Enters, Arrives}
use Rattle.gm_lane_word.specs.declared.view.Hold.TheVariants.{Free, Claims, Attempts}
use Rattle.gm_lane_word.specs.declared.view.LaneView.{LaneView}
use Rattle.gm_lane_word.specs.Lane.{entered, touched, taken_over, attempted, finished, after_finish, handed_over, touches_of, answers_of}
use Rattle.gm_lane_word.specs.Steps.{Step, enters, touches, takes_over, attempts, finishes, hands_over, Reached, steps, IsLane}
use Rattle.gm_lane_word.proofs.Keeping.{reached_keeps}

abbrev pub Sat : Type 0
Sat = Me (Unit {0}) LaneView

abbrev pub IsReached : State (Unit {0}) LaneView → Type 0
IsReached s = IsLane s.words s.views

-- the word that a step finds
found_is : (words : List ℕ) (views : List LaneView) (lane : IsLane words views) → slice_index words 0 ≡ lane.word
found_is words views lane = ap (λ (w : List ℕ). slice_index w 0) lane.one

-- a step of one of the kinds
moved : (words : List ℕ) (views : List LaneView) (next : ℕ → ℕ) (after : ℕ → List LaneView) → IsLane words views → ((word : ℕ) → Step word views (next word) (after word))
    → IsLane (slice_set words 0 (next (slice_index words 0))) (after (slice_index words 0))
moved words views next after lane step =
    let word : ℕ = slice_index words 0 in
    record {
      word = next word;
      one = ap (λ (w : List ℕ). slice_set w 0 (next word)) lane.one;
      reached = subst (λ (n : ℕ). Reached (next n) (after n)) (sym (found_is words views lane)) (steps lane.word views _ _ lane.reached (step lane.word));
    }

pub enter_moves : (slots : ℕ) → Enters IsReached slots 0 (λ found view. ◌≡◌ {A = Sat} (view, []) (entered found, []))
enter_moves slots s lane _ _ =
    let found : ℕ = slice_index s.words 0 in (
      entered found,
      record {
        word = lane.word;
        one = lane.one;
        reached = subst (λ (n : ℕ). Reached lane.word (s.views ++ entered n ∷ [])) (sym (found_is s.words s.views lane)) (steps lane.word s.views _ _ lane.reached enters);
      },
      refl,
    )

pub touch_moves : (slots id : ℕ) (me : Sat) → Allows IsReached slots id me 0 (λ n. max n 2) (λ found after. after ≡ (touched found me.0, me.1))
touch_moves slots id me s lane _ at _ = (
  touched (slice_index s.words 0) me.0,
  keeps,
  tt,
  moved s.words s.views (λ n. max n 2) (λ n. set s.views id (touched n me.0)) lane (λ word. touches id me.0 at),
  refl,
)

pub take_over_moves : (slots : ℕ) → Arrives IsReached slots 0 (λ _. 2) (λ found after. (found < 4) × (after ≡ (taken_over found, [])))
take_over_moves slots s lane _ _ = (
  taken_over (slice_index s.words 0),
  keeps,
  tt,
  moved s.words s.views (λ _. 2) (λ n. s.views ++ taken_over n ∷ []) lane (λ word. takes_over),
  ((let k = reached_keeps lane.word s.views lane.reached in subst (λ (n : ℕ). n < 4) (sym (found_is s.words s.views lane)) k.small), refl),
)

pub attempt_moves : (slots id : ℕ) (me : Sat) → me.0.hold ≡ Claims
    → Allows IsReached slots id me 0 (λ _. 1) (λ found after. (unanswered : ℕ) × (after ≡ (attempted unanswered me.0, me.1)))
attempt_moves slots id me hold s lane _ at _ =
    let unanswered : ℕ = touches_of s.views - answers_of s.views in (
      attempted unanswered me.0,
      keeps,
      tt,
      moved s.words s.views (λ _. 1) (λ _. set s.views id (attempted unanswered me.0)) lane (λ word. attempts id me.0 at hold),
      (unanswered, refl),
    )

pub finish_moves : (slots id : ℕ) (me : Sat) → me.0.hold ≡ Attempts
    → Allows IsReached slots id me 0 finished (λ found after. after ≡ (after_finish found me.0, me.1))
finish_moves slots id me hold s lane _ at _ = (
  after_finish (slice_index s.words 0) me.0,
  keeps,
  tt,
  moved s.words s.views finished (λ n. set s.views id (after_finish n me.0)) lane (λ word. finishes id me.0 at hold),
  refl,
)

pub hand_over_moves : (slots id : ℕ) (me : Sat) → me.0.hold ≢ Free → Allows IsReached slots id me 0 (λ _. 3) (λ found after. after ≡ (handed_over me.0, me.1))
hand_over_moves slots id me hold s lane _ at _ = (
  handed_over me.0,
  keeps,
  tt,
  moved s.words s.views (λ _. 3) (λ _. set s.views id (handed_over me.0)) lane (λ word. hands_over id me.0 at hold),
  refl,
)
