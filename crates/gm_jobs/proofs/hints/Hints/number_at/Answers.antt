use Rattle.std.proofs.Common.{◌≡◌, ℕ, Bool, Option, Some, None, slice_get, if◌then◌else◌, sym, ap, ◌∙◌}
use Rattle.std.specs.Option.{option_map}
use Rattle.std.specs.Map.{keys_of}
use Rattle.std.proofs.lemmas.Option.{slice_get-map}
use Rattle.gm_jobs.specs.Live.{Live}
use Rattle.gm_jobs.specs.Hints.{HintList, numbers_in}
use Rattle.gm_jobs.proofs.hints.Hints.number_at.Goals as goal
use Rattle.gm_jobs.proofs.hints.Hints.number_at.Goals.{After-at}

all : (c : After-at) (o : Option (ℕ × Live)) → o ≡ slice_get c.args.jobs.now.entries c.args.i → option_map (λ (p : ℕ × Live). p.0) o ≡ slice_get (numbers_in c.args.self.now c.args.jobs.now.entries) c.args.i
all c o is =
    ap (option_map (λ (p : ℕ × Live). p.0)) is ∙ sym (slice_get-map (λ (p : ℕ × Live). p.0) c.args.jobs.now.entries c.args.i)
    ∙ ap (λ (whole : Bool). slice_get (if whole then c.args.self.now.numbers else keys_of c.args.jobs.now.entries) c.args.i) (sym (ap (λ (h : HintList). h.whole) (sym c.self.view_is) ∙ c.if-self.false))

pub returns-clause-number : goal.returns-clause-number
returns-clause-number c = all (goal.at.returns-clause-number c).After-at (Some (c.in_ok-number.number, c.in_ok-number._job.now)) c.in_ok-number.ensures.entry

pub returns-in_err-number-clause-number : goal.returns-in_err-number-clause-number
returns-in_err-number-clause-number c = c.from_residual.ensures ∙ all (goal.at.returns-in_err-number-clause-number c).After-at None c.in_err-number.ensures.entry
