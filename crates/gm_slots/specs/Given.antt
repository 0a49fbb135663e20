-- The bytes that a slot's pen got, which are those that the abstract server sends.
use Rattle.std.specs.Prelude.{◌≡◌, ℕ, ◌==◌, if◌then◌else◌, Bool, true, false, List, [], ◌∷◌, ◌++◌, Option, Some, None}
use Rattle.gm_notes.specs.Flow.{Flow, sent, waiting}
use Rattle.gm_history.specs.Laws.{IsPrefix}
use Rattle.gm_shared.specs.declared.tape.TapeStep.{TapeStep}
use Rattle.gm_shared.specs.declared.tape.TapeStep.TheVariants as tape
use Rattle.gm_shared.specs.declared.tape.Answer.{Answer}
use Rattle.gm_shared.specs.declared.tape.Answer.TheVariants as answers
use Rattle.gm_shared.specs.declared.tape.Entry.{Entry}

-- a slot's connection was opened there
abbrev pub if_opened : ℕ → Option ℕ → List ℕ → List ℕ
if_opened c None bytes = bytes
if_opened c (Some d) bytes = if c == d then [] else bytes

-- all bytes that drains of slot c gave since it was opened
abbrev pub given_by : ℕ → TapeStep → Answer → List ℕ → List ℕ
given_by c (tape.Open addr) (answers.Done done) bytes = if_opened c done.opened bytes
given_by c (tape.Drain d) (answers.Drained more) bytes = if c == d then bytes ++ more else bytes
given_by c step answer bytes = bytes

abbrev pub given : ℕ → List Entry → List ℕ
given c [] = []
given c (e ∷ older) = given_by c e.step e.answer (given c older)

-- Of an open slot, what its pen was given since the opening, followed by what waits still, is what the abstract server
-- sends. For a slot that isn't open nothing waits, and what its pen was given is a prefix of that.
abbrev pub GivenSo : Bool → List ℕ → ℕ → List Flow → Type 0
GivenSo true gave c flow = sent c flow ≡ gave ++ waiting c flow
GivenSo false gave c flow = (waiting c flow ≡ []) × IsPrefix gave (sent c flow)
