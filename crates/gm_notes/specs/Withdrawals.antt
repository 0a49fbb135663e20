-- When a NOOP that is owed is withdrawn: a connection that grabs a job, or closes, needs it no more.
use Rattle.std.specs.Prelude.{Bool, true, false, not, ◌&&◌, Result, Ok, Err}
use Rattle.gm_packet.specs.Requests.{Asked, request_of}
use Rattle.gm_packet.specs.declared.kind.Kind.{Kind}
use Rattle.gm_packet.specs.declared.kind.Kind.TheVariants.{GrabJob, GrabJobUniq}
use Rattle.gm_packet.specs.declared.request.RequestFault.{RequestFault}
use Rattle.gm_notes.specs.Past.{Past}
use Rattle.gm_notes.specs.Steps.{Step, Packet, Close}
use Rattle.gm_notes.specs.Servers.{is_closing}

abbrev pub is_grab : Kind → Bool
is_grab GrabJob = true
is_grab GrabJobUniq = true
is_grab kind = false

-- the request asks for a job
abbrev pub asks_a_job : Result Asked RequestFault → Bool
asks_a_job (Ok asked) = is_grab asked.kind
asks_a_job (Err fault) = false

-- The event withdraws the NOOP that its slot is still owed: it is a closing, or reads as GRAB_JOB or GRAB_JOB_UNIQ, at
-- a slot that isn't shut.
abbrev pub withdraws_noop : Step → Past → Bool
withdraws_noop (Packet c kind bytes) past = asks_a_job (request_of kind bytes) && not (is_closing c past)
withdraws_noop (Close c) past = true
withdraws_noop other past = false
