-- The effect of a line that was read.
use Rattle.std.specs.Prelude.{◌≡◌, ℕ, false, Result, Ok, Err}
use Rattle.gm_admin.specs.declared.command.Command.{Command}
use Rattle.gm_admin.specs.declared.command.Command.TheVariants.{MaxQueue}
use Rattle.gm_admin.specs.declared.fault.AdminError.{AdminError}
use Rattle.gm_admin.specs.Views.{commanded_of}
use Rattle.gm_notes.specs.Settings.{Settings}
use Rattle.gm_notes.specs.Past.{Past}
use Rattle.gm_notes.specs.Lines.{command, refuse_line, is_bad_word}

-- a command of slot c is done, or the line is refused
abbrev pub obeyed : Settings → ℕ → Result Command AdminError → Past → Past
obeyed k c (Ok asked) past = command k c (Ok (commanded_of asked)) past
obeyed k c (Err error) past = refuse_line c error past

-- a function that it names can be one
abbrev pub NamesFunction : Command → Type 0
NamesFunction (MaxQueue name size) = is_bad_word name.now ≡ false
NamesFunction command = Unit {0}
