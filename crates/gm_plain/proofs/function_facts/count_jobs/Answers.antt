use Rattle.std.proofs.Common.{sym, ◌∙◌}
use Rattle.gm_plain.specs.Searches.{is_counted}
use Rattle.gm_plain.proofs.Passing.{counted_one, counted_none, counted_not}
use Rattle.gm_plain.proofs.function_facts.count_jobs.Goals as goal
use Rattle.gm_plain.proofs.function_facts.count_jobs.Goals.{in-Made+then-is_counted, in-Made+else-is_counted, in_default}

pub loop-note-preserved : goal.loop-note-preserved
loop-note-preserved c =
    let P = is_counted c.args.only_running c.args.function.now c.args.log.now.notes in
    let i = c.loop-note.note-index in
    let notes = c.notes-notes.result.now in
    elim c.match-note.branch [
      | in-Made+then-is_counted w ↦
          counted_one P notes i c.note-item.result c.loop-note-test.true c.note-item.is w.in-Made.job w.in-Made.function w.in-Made.priority w.in-Made.unique w.in-Made.body w.in-Made.is
          c.loop-note.count c.match-note.count (sym w.is_counted.ensures ∙ w.if-is_counted.true) w.count-is c.loop-note.invariant
      | in-Made+else-is_counted w ↦
          counted_none P notes i c.note-item.result c.loop-note-test.true c.note-item.is w.in-Made.job w.in-Made.function w.in-Made.priority w.in-Made.unique w.in-Made.body w.in-Made.is
          c.loop-note.count c.match-note.count (sym w.is_counted.ensures ∙ w.if-is_counted.false) w.count-is c.loop-note.invariant
      | in_default w ↦ counted_not P notes i c.note-item.result c.loop-note-test.true c.note-item.is w.in_default.not-Made c.loop-note.count c.match-note.count w.count-is c.loop-note.invariant
    ]
