use Rattle.std.proofs.Common.{sym, ◌∙◌}
use Rattle.gm_notes.specs.Jobs.{is_live_named}
use Rattle.gm_plain.proofs.Passing.{found_one, found_none, found_not}
use Rattle.gm_plain.proofs.jobs.joined.Goals as goal
use Rattle.gm_plain.proofs.jobs.joined.Goals.{in-Made+then-is_live_named, in-Made+else-is_live_named, in_default}

pub loop-note-preserved : goal.loop-note-preserved
loop-note-preserved c =
    let P = is_live_named c.args.function.now c.args.unique.now c.args.log.now.notes in
    let i = c.loop-note.note-index in
    let notes = c.notes-notes.result.now in
    elim c.match-note.branch [
      | in-Made+then-is_live_named w ↦
          found_one P notes i c.note-item.result c.loop-note-test.true c.note-item.is w.in-Made.job w.in-Made.function w.in-Made.priority w.in-Made.unique w.in-Made.body w.in-Made.is
          c.match-note.found (sym w.is_live_named.ensures ∙ w.if-is_live_named.true) w.found-is
      | in-Made+else-is_live_named w ↦
          found_none P notes i c.note-item.result c.loop-note-test.true c.note-item.is w.in-Made.job w.in-Made.function w.in-Made.priority w.in-Made.unique w.in-Made.body w.in-Made.is
          c.loop-note.found c.match-note.found (sym w.is_live_named.ensures ∙ w.if-is_live_named.false) w.found-is c.loop-note.invariant
      | in_default w ↦ found_not P notes i c.note-item.result c.loop-note-test.true c.note-item.is w.in_default.not-Made c.loop-note.found c.match-note.found w.found-is c.loop-note.invariant
    ]
