-- A lane's word, and what a seat knows before and after each step. The word is 0 idle, 1 busy, 2 claimed, 3 left.
use Rattle.std.specs.Prelude.{ℕ, zero, suc, ◌+◌, ◌==◌, if◌then◌else◌, List, [], ◌∷◌}
use Rattle.gm_lane_word.specs.declared.view.Hold.{Hold}
use Rattle.gm_lane_word.specs.declared.view.Hold.TheVariants.{Free, Claims, Attempts}
use Rattle.gm_lane_word.specs.declared.view.LaneView.{LaneView}

-- a seat that has done nothing
abbrev pub fresh_view : LaneView
fresh_view = record { touches = 0; take_overs = 0; attempts = 0; hand_overs = 0; answers = 0; found = 0; hold = Free }

-- one touch more, which found this word
abbrev pub with_touch : ℕ → Hold → LaneView → LaneView
with_touch word hold view = record view { touches = view.touches + 1; found = word; hold = hold }

-- A new seat, by the word that it found: if an attempt is owed anyway, it has touched the lane, and needs no step
-- more.
abbrev pub entered : ℕ → LaneView
entered zero = fresh_view
entered (suc zero) = record fresh_view { found = 1 }
entered (suc (suc word)) = with_touch (suc (suc word)) Free fresh_view

-- a thread that touches an idle lane has it
abbrev pub hold_touched : ℕ → Hold → Hold
hold_touched zero hold = Claims
hold_touched (suc word) hold = hold

abbrev pub touched : ℕ → LaneView → LaneView
touched word view = with_touch word (hold_touched word view.hold) view

-- a new seat, which touches and takes over: it has a lane that was idle or left
abbrev pub hold_taken_over : ℕ → Hold
hold_taken_over zero = Claims
hold_taken_over (suc zero) = Free
hold_taken_over (suc (suc zero)) = Free
hold_taken_over (suc (suc (suc word))) = Claims

abbrev pub taken_over : ℕ → LaneView
taken_over word = with_touch word (hold_taken_over word) record fresh_view { take_overs = 1 }

-- an attempt begins, the first to follow this number of touches
abbrev pub attempted : ℕ → LaneView → LaneView
attempted unanswered view = record view { attempts = view.attempts + 1; answers = view.answers + unanswered; hold = Attempts }

-- a thread that ends an attempt gives up a busy lane, and owes another attempt if it was touched since
abbrev pub finished : ℕ → ℕ
finished word = if word == 1 then 0 else word

abbrev pub after_finish : ℕ → LaneView → LaneView
after_finish word view = record view { hold = if word == 1 then Free else Claims }

-- a thread that hands the lane over doesn't have it any more
abbrev pub handed_over : LaneView → LaneView
handed_over view = record view { hand_overs = view.hand_overs + 1; hold = Free }

-- 1 if a seat has the lane, and 0 otherwise
abbrev pub has : Hold → ℕ
has Free = 0
has Claims = 1
has Attempts = 1

-- 1 if it has the lane and is yet to begin an attempt
abbrev pub owes : Hold → ℕ
owes Free = 0
owes Claims = 1
owes Attempts = 0

-- 1 if the word says that a thread has the lane
abbrev pub taken : ℕ → ℕ
taken zero = 0
taken (suc zero) = 1
taken (suc (suc zero)) = 1
taken (suc (suc (suc word))) = 0

-- f of each view, added up
abbrev pub total : (LaneView → ℕ) → List LaneView → ℕ
total f [] = 0
total f (view ∷ views) = f view + total f views

-- how often the lane was touched, and how many of these touches an attempt has followed
abbrev pub touches_of : List LaneView → ℕ
touches_of views = total (λ view. view.touches) views

abbrev pub answers_of : List LaneView → ℕ
answers_of views = total (λ view. view.answers) views

-- how many attempts were begun
abbrev pub attempts_of : List LaneView → ℕ
attempts_of views = total (λ view. view.attempts) views

-- how many seats have the lane, and how many of these are yet to begin an attempt
abbrev pub owners_of : List LaneView → ℕ
owners_of views = total (λ view. has view.hold) views

abbrev pub owing_of : List LaneView → ℕ
owing_of views = total (λ view. owes view.hold) views
