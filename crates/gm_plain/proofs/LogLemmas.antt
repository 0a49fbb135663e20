-- What the notes name, and what there is room for.
use Rattle.std.proofs.Common.{◌≡◌, ℕ, ◌<◌, Bool, true, false, cond, List, [], ◌∷◌, ◌++◌, Option, Some, None, refl, sym, subst, arith, codes}
use Rattle.std.specs.Prelude.{not, ◌==◌, unwrap_or, IfSome}
use Rattle.std.specs.List.{All}
use Rattle.std.specs.Option.{option_map}
use Rattle.std.proofs.lemmas.Bool.Decides.{nat_tests}
use Rattle.std.proofs.lemmas.List.Elements.{All-append, All-cons, All-filter}
use Rattle.gm_notes.specs.declared.note.Note.{Note}
use Rattle.gm_notes.specs.declared.note.Note.TheVariants.{Opened, Closed, Made, Listens, Report}
use Rattle.gm_notes.specs.Notes.{is_open}
use Rattle.gm_notes.specs.Jobs.{Job, job, report, listeners}
use Rattle.gm_actions.specs.declared.answers.JobRef.{JobRef}
use Rattle.gm_actions.specs.Actions.{job_of}
use Rattle.gm_plain.specs.Searches.{listeners_after}
use Rattle.gm_plain.specs.Logs.{AllFit}
use Rattle.gm_actions.specs.Carried.{AreNumbers, IsCarried}

-- ---- slots

below_if : (t : Bool) (c d slots : ℕ) (older : List Note) → (c == d) ≡ t → d < slots → (is_open c older ≡ true → c < slots)
    → unwrap_or (cond t (Some true) None) (is_open c older) ≡ true → c < slots
below_if true c d slots older is lt rest e = grind (arith, nat_tests)
below_if false c d slots older is lt rest e = rest e

closed_if : (t : Bool) (c slots : ℕ) (older : List Note) → (is_open c older ≡ true → c < slots)
    → unwrap_or (cond t (Some false) None) (is_open c older) ≡ true → c < slots
closed_if true c slots older rest e = absurd cc
closed_if false c slots older rest e = rest e

-- an open slot is one of those that there are
pub open_below : (slots c : ℕ) (notes : List Note) → AllFit slots notes → is_open c notes ≡ true → c < slots
open_below slots c [] fit e = absurd cc
open_below slots c (Opened d addr ∷ older) fit e = below_if (c == d) c d slots older refl fit.0 (open_below slots c older fit.1) e
open_below slots c (Closed d ∷ older) fit e = closed_if (c == d) c slots older (open_below slots c older fit.1) e
open_below slots c (note ∷ older) fit e = open_below slots c older fit.1 e

-- and so is who listens
listening : (t : Bool) (n c slots : ℕ) (older : List Note) → c < slots → All (λ d. d < slots) (listeners n older)
    → All (λ d. d < slots) (cond t (listeners n older ++ c ∷ []) (listeners n older))
listening true n c slots older lt rest = All-append (λ d. d < slots) (listeners n older) (c ∷ []) rest (All-cons (λ d. d < slots) c [] lt (λ k d e. absurd (omega (arith, e))))
listening false n c slots older lt rest = rest

made_if : (t : Bool) (n slots : ℕ) (older : List Note) → All (λ d. d < slots) (listeners n older) → All (λ d. d < slots) (cond t [] (listeners n older))
made_if true n slots older rest = λ k d e. absurd (omega (arith, e))
made_if false n slots older rest = rest

pub listeners_below : (slots n : ℕ) (notes : List Note) → AllFit slots notes → All (λ c. c < slots) (listeners n notes)
listeners_below slots n [] fit = λ k d e. absurd (omega (arith, e))
listeners_below slots n (Made m f p u body ∷ older) fit = made_if (n == m) n slots older (listeners_below slots n older fit.1)
listeners_below slots n (Listens m c ∷ older) fit = listening (n == m) n c slots older fit.0 (listeners_below slots n older fit.1)
listeners_below slots n (Closed c ∷ older) fit = All-filter (λ d. not (d == c)) (λ d. d < slots) (listeners n older) (listeners_below slots n older fit.1)
listeners_below slots n (note ∷ older) fit = listeners_below slots n older fit.1

-- ---- jobs

abbrev pub JobFits : Option Job → Type 0
JobFits None = Unit {0}
JobFits (Some job) = IsCarried job.function job.unique job.body

job_if : (t : Bool) (job : Job) (other : Option Job) → IsCarried job.function job.unique job.body → JobFits other → JobFits (unwrap_or (cond t (Some (Some job)) None) other)
job_if true job other here rest = here
job_if false job other here rest = rest

-- what a job is came in a packet
pub job_carried : (slots n : ℕ) (notes : List Note) → AllFit slots notes → JobFits (job n notes)
job_carried slots n [] fit = tt
job_carried slots n (Made m f p u body ∷ older) fit = job_if (n == m) (record { function = f; priority = p; unique = u; body = body }) (job n older) fit.0.0 (job_carried slots n older fit.1)
job_carried slots n (note ∷ older) fit = job_carried slots n older fit.1

pub found_carried : (found : Option JobRef) (job : Option Job) → option_map job_of found ≡ job → JobFits job
    → IfSome found (λ f. IsCarried f.function.now f.unique.now f.body.now)
found_carried None job is fits = tt
found_carried (Some f) job is fits = subst JobFits (sym is) fits

-- what a note changes of who hears of a job
pub listeners_next : (n : ℕ) (note : Note) (older : List Note) → listeners n (note ∷ older) ≡ listeners_after n note (listeners n older)
listeners_next n (Made m f p u body) older = refl
listeners_next n (Listens m c) older = refl
listeners_next n (Closed c) older = refl
listeners_next n note older = refl

-- ---- reports

zero_numbers : AreNumbers (codes "0") (codes "0")
zero_numbers = record { separable = refl; sized = omega arith }

reported_if : (t : Bool) (numbers other : List ℕ × List ℕ) → AreNumbers numbers.0 numbers.1 → AreNumbers other.0 other.1
    → AreNumbers (unwrap_or (cond t (Some numbers) None) other).0 (unwrap_or (cond t (Some numbers) None) other).1
reported_if true numbers other here rest = here
reported_if false numbers other here rest = rest

-- what was reported of a job came in a packet
pub report_carried : (slots n : ℕ) (notes : List Note) → AllFit slots notes → AreNumbers (report n notes).0 (report n notes).1
report_carried slots n [] fit = zero_numbers
report_carried slots n (Made m f p u body ∷ older) fit = reported_if (n == m) (codes "0", codes "0") (report n older) zero_numbers (report_carried slots n older fit.1)
report_carried slots n (Report m a b ∷ older) fit = reported_if (n == m) (a, b) (report n older) fit.0 (report_carried slots n older fit.1)
report_carried slots n (note ∷ older) fit = report_carried slots n older fit.1
