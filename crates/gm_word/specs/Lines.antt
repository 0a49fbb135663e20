-- A slot: its word, what the book knows of it, and what the book's steps make of both.
use Rattle.std.specs.Prelude.{◌≡◌, ◌⊎◌, ℕ, ◌+◌, ◌<◌, ◌==◌, if◌then◌else◌}
use Rattle.gm_word.specs.declared.phase.Phase.{Phase}
use Rattle.gm_word.specs.declared.phase.Phase.TheVariants.{Awake, Asleep, Owed}
use Rattle.gm_word.specs.declared.view.Line.{Line}

-- the word of a phase
abbrev pub number : Phase → ℕ
number Awake = 0
number Asleep = 1
number Owed = 2

-- 1 if the word says that a NOOP is owed, and 0 otherwise
abbrev pub owing : ℕ → ℕ
owing word = if word == 2 then 1 else 0

-- the line of a slot at which no step was made
abbrev pub fresh_line : Line
fresh_line = record { phase = Awake; wakes = 0; entered = 0; withdrawals = 0; looks = 0 }

-- A slot's word, the book's line and the takes of its pen agree. Each wake became one take, or one withdrawal, or is
-- still owed, and the book has entered each of these except a take that it hasn't looked for yet.
pub record Agrees (word : ℕ) (line : Line) (takes : ℕ) : Type 0 where
  pub small : word < 3
  pub phase : (word ≡ number line.phase) ⊎ ((line.phase ≡ Owed) × (word ≡ 0))
  pub woken : line.wakes ≡ takes + line.withdrawals + owing word
  pub told : line.wakes ≡ line.entered + line.withdrawals + owing (number line.phase)

-- the five kinds of step that the book makes at a slot
pub data Kind : Type 0 where
  sleep : Kind
  wake : Kind
  stir : Kind
  withdraw : Kind
  look : Kind

-- the phase at which a step of the kind is made
abbrev pub phase_for : Kind → Phase
phase_for sleep = Awake
phase_for wake = Asleep
phase_for stir = Asleep
phase_for withdraw = Owed
phase_for look = Owed

-- the words that it may find: if the NOOP is owed, the pen may have taken it
abbrev pub Finds : Kind → ℕ → Type 0
Finds sleep found = found ≡ 0
Finds wake found = found ≡ 1
Finds stir found = found ≡ 1
Finds withdraw found = (found ≡ 2) ⊎ (found ≡ 0)
Finds look found = (found ≡ 2) ⊎ (found ≡ 0)

-- one try to turn 2 into 0
abbrev pub cleared : ℕ → ℕ
cleared found = if found == 2 then 0 else found

-- the word that it leaves
abbrev pub word_after : Kind → ℕ → ℕ
word_after sleep found = 1
word_after wake found = 2
word_after stir found = 0
word_after withdraw found = cleared found
word_after look found = found

-- the line after each of these kinds
abbrev pub with_sleep : Line → Line
with_sleep line = record line { phase = Asleep }

abbrev pub with_wake : Line → Line
with_wake line = record line { phase = Owed; wakes = line.wakes + 1 }

abbrev pub with_stir : Line → Line
with_stir line = record line { phase = Awake }

-- the word was asked, and said that the NOOP is still owed
abbrev pub with_look : Line → Line
with_look line = record line { looks = line.looks + 1 }

-- it was asked, and the NOOP withdrawn
abbrev pub with_withdrawal : Line → Line
with_withdrawal line = record line { phase = Awake; withdrawals = line.withdrawals + 1; looks = line.looks + 1 }

-- it was asked, and the NOOP found taken
abbrev pub with_take_found : Line → Line
with_take_found line = record line { phase = Awake; entered = line.entered + 1; looks = line.looks + 1 }

-- the book's knowledge of the slot then
abbrev pub line_after : Kind → ℕ → Line → Line
line_after sleep found line = with_sleep line
line_after wake found line = with_wake line
line_after stir found line = with_stir line
line_after withdraw found line = if found == 2 then with_withdrawal line else with_take_found line
line_after look found line = if found == 2 then with_look line else with_take_found line

-- ---- the three kinds that write the word of a phase, by that phase

abbrev pub kind_to : Phase → Kind
kind_to Asleep = sleep
kind_to Owed = wake
kind_to Awake = stir

abbrev pub line_to : Phase → Line → Line
line_to Asleep = with_sleep
line_to Owed = with_wake
line_to Awake = with_stir
