-- The contents of a plain server, by the definitions.
use Rattle.std.specs.Prelude.{◌≡◌, ℕ, ◌&&◌, List, [], ◌++◌, Option, Some, None, Result}
use Rattle.std.specs.List.{slice_index_or}
use Rattle.gm_packet.specs.Answers.{work_fail}
use Rattle.gm_notes.specs.declared.note.Note.{Note}
use Rattle.gm_plain.specs.declared.server.PlainServer.{PlainServer}
use Rattle.gm_notes.specs.Settings.{Settings}
use Rattle.gm_notes.specs.Flow.{waiting}
use Rattle.gm_notes.specs.Jobs.{Job, handle, listeners}
use Rattle.gm_notes.specs.Past.{Past, tell_all, wake_one}
use Rattle.gm_notes.specs.Steps.{Step}
use Rattle.gm_notes.specs.Workers.{Work, hearers, tell_others}
use Rattle.gm_actions.specs.Effects.{Changes, Agrees, if_done}

-- these notes, and these bytes for each slot, are what has happened
pub record Holds (notes : List Note) (outboxes : List (List ℕ)) (past : Past) : Type 0 where
  pub notes_are : notes ≡ past.notes
  pub waiting_are : (c : ℕ) → slice_index_or outboxes c [] ≡ waiting c past.flow

-- a server, as contracts see it
pub record Contents : Type 0 where
  pub config : Settings
  pub notes : List Note
  pub outboxes : List (List ℕ)

abbrev pub contents_of : PlainServer → Contents
contents_of server = record { config = server.config; notes = server.log.notes; outboxes = server.outboxes }

abbrev pub config_of : Contents → Settings
config_of contents = contents.config

abbrev pub HeldIn : Contents → Past → Type 0
HeldIn contents past = Holds contents.notes contents.outboxes past

-- the server keeps what has happened
abbrev pub Keeps : PlainServer → Past → Type 0
Keeps server past = HeldIn (contents_of server) past

-- ---- what a call does

-- a call promises nothing else
abbrev pub NothingElse : Contents → Contents → Type 0
NothingElse old new = Unit {0}

abbrev pub Becomes : Contents → Contents → (Past → Past) → Type 0
Becomes old new change = Changes config_of HeldIn NothingElse old new change

-- the past changes so, whatever it is, and the settings stay
abbrev pub Goes : PlainServer → PlainServer → (Past → Past) → Type 0
Goes old new change = Becomes (contents_of old) (contents_of new) change

-- so it does, unless the call is out of memory: then the past stays
abbrev pub Does : {E : Type 0} → PlainServer → Result (Unit {0}) E → PlainServer → (Past → Past) → Type 0
Does old result new change = Goes old new (if_done result change)

-- no note was taken back
pub record Grows (old new : Contents) : Type 0 where
  pub config : new.config ≡ old.config
  pub notes : (newer : List Note) × (new.notes ≡ newer ++ old.notes)

abbrev pub Grew : PlainServer → PlainServer → Type 0
Grew old new = Grows (contents_of old) (contents_of new)

-- the server holds what these steps give under these settings
abbrev pub PlainAgrees : PlainServer → Settings → List Step → Type 0
PlainAgrees server k steps = Agrees config_of HeldIn (contents_of server) k steps

-- ---- what is handed on

-- a worker says something of job n to its listeners
abbrev pub tell_listeners : Settings → Work → ℕ → Past → Past
tell_listeners k w n past =
    tell_others (w.exceptions_only && w.ends) (work_fail (handle k n)) (listeners n past.notes) past.notes
    (tell_all w.answer (hearers w.exceptions_only (listeners n past.notes) past.notes) past)

-- the worker in slot c is owed a NOOP if it sleeps and can do such a job
abbrev pub wake_one_for : Option Job → ℕ → Past → Past
wake_one_for None c past = past
wake_one_for (Some job) c past = wake_one job.function c past
