use Rattle.std.proofs.Common.{◌≡◌, ℕ, true, false, find, sym, ◌∙◌, arith}
use Rattle.std.specs.Prelude.{◌==◌}
use Rattle.std.proofs.lemmas.Bool.Decides.{nat_tests}
use Rattle.std.proofs.lemmas.Grind.{common_steps}
use Rattle.gm_notes.specs.Jobs.{made}
use Rattle.gm_actions.proofs.HandleTexts.{none_found, one_found}
use Rattle.gm_plain.proofs.HandleTexts.{all_small, the_number}
use Rattle.gm_plain.proofs.Passing.{found_one, found_none, found_not}
use Rattle.gm_plain.proofs.jobs.job_of_handle.Goals as goal
use Rattle.gm_plain.proofs.jobs.job_of_handle.Goals.{in-Made+then-job-number, in-Made+else-job-number, in_default-note}

pub returns-in_default : goal.returns-in_default
returns-in_default c =
    let jobs = made c.args.log.now.notes in
    sym (none_found c.args.config.now c.args.text.now jobs (all_small c.args.log.now.slots c.args.log.now.notes c.notes-notes.ensures.fit) c.in_default.ensures.value)

pub loop-note-preserved : goal.loop-note-preserved
loop-note-preserved c =
    let P = λ (m : ℕ). m == c.in-Some.number in
    let i = c.loop-note.note-index in
    let notes = c.notes-notes.result.now in
    elim c.match-note.branch [
      | in-Made+then-job-number w ↦
          let yes : (w.in-Made.job == c.in-Some.number) ≡ true = grind (arith, nat_tests) in
          found_one P notes i c.note-item.result c.loop-note-test.true c.note-item.is w.in-Made.job w.in-Made.function w.in-Made.priority w.in-Made.unique w.in-Made.body w.in-Made.is
          c.match-note.found yes w.found-is
      | in-Made+else-job-number w ↦
          let no : (w.in-Made.job == c.in-Some.number) ≡ false = grind (arith, nat_tests) in
          found_none P notes i c.note-item.result c.loop-note-test.true c.note-item.is w.in-Made.job w.in-Made.function w.in-Made.priority w.in-Made.unique w.in-Made.body w.in-Made.is
          c.loop-note.found c.match-note.found no w.found-is c.loop-note.invariant
      | in_default-note w ↦ found_not P notes i c.note-item.result c.loop-note-test.true c.note-item.is w.in_default-note.not-Made c.loop-note.found c.match-note.found w.found-is c.loop-note.invariant
    ]

pub returns : goal.returns
returns c =
    let jobs = made c.args.log.now.notes in
    let n = c.in-Some.number in
    let found : c.loop-note.found ≡ find (λ m. m == n) jobs = grind (arith, common_steps) in
    found
    ∙ (the_number n jobs
    ∙ sym (one_found c.args.config.now c.args.text.now n jobs (all_small c.args.log.now.slots c.args.log.now.notes c.notes-notes.ensures.fit) c.in-Some.ensures.small c.in-Some.ensures.value))
