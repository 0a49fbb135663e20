-- How often a slot was opened.
use Rattle.std.specs.Prelude.{◌≡◌, ℕ, ◌+◌, ◌-◌, ◌^◌, min, ◌==◌, if◌then◌else◌, List, [], ◌∷◌, Option, Some, None, length, get_or, set}
use Rattle.std.specs.List.{sum}
use Rattle.gm_shared.specs.declared.tape.TapeStep.{TapeStep}
use Rattle.gm_shared.specs.declared.tape.TapeStep.TheVariants as tape
use Rattle.gm_shared.specs.declared.tape.Answer.{Answer}
use Rattle.gm_shared.specs.declared.tape.Answer.TheVariants as answers
use Rattle.gm_shared.specs.declared.tape.Entry.{Entry}

-- how often slot c was opened, by a history whose newest entry is the first
abbrev pub if_one_more : ℕ → Option ℕ → ℕ → ℕ
if_one_more c None n = n
if_one_more c (Some d) n = if c == d then n + 1 else n

abbrev pub opened_by : ℕ → TapeStep → Answer → ℕ → ℕ
opened_by c (tape.Open addr) (answers.Done done) n = if_one_more c done.opened n
opened_by c step answer n = n

abbrev pub openings : ℕ → List Entry → ℕ
openings c [] = 0
openings c (e ∷ older) = opened_by c e.step e.answer (openings c older)

-- the greatest count of openings, at which a counter of 64 bits stays
abbrev pub most_openings : ℕ
most_openings = 2 ^ 64 - 1

-- the value of a counter of 64 bits
abbrev pub counted : ℕ → ℕ
counted n = min n most_openings

-- ---- the counters

abbrev pub count_at : ℕ → List ℕ → ℕ
count_at c counts = get_or counts c 0

-- the slot that was opened, if one was, counts one more
abbrev pub counted_up : Option ℕ → List ℕ → List ℕ
counted_up None counts = counts
counted_up (Some c) counts = set counts c (counted (count_at c counts + 1))

-- the sum of all of them
abbrev pub total_of : List ℕ → ℕ
total_of counts = counted (sum counts)

-- There is a counter for each slot, and it says how often the slot was opened.
pub record Counts (slots : ℕ) (counts : List ℕ) (log : List Entry) : Type 0 where
  pub size : length counts ≡ slots
  pub each : (c : ℕ) → count_at c counts ≡ counted (openings c log)
