-- How a server reads packets: as this server's documents say, or, with `as_gearmand`, as gearmand's applications mean
-- them. Their meaning is given as a packet that this server reads alike.
use Rattle.std.specs.Prelude.{ℕ, ◌+◌, ◌/◌, max, Bool, not, ◌&&◌, ◌||◌, ◌==◌, nat_le, if◌then◌else◌, List, [], ◌∷◌, ◌++◌, length, map, codes, decimal}
use Rattle.std.specs.Prelude.{Option, Some, None}
use Rattle.std.specs.Char.{to_ascii_lowercase}
use Rattle.std.specs.Str.{bytes_eq}
use Rattle.std.specs.Io.BufRead.{strip_last}
use Rattle.gm_packet.specs.Packets.{has_nul}
use Rattle.gm_packet.specs.Requests.{cut, seconds_of}
use Rattle.gm_notes.specs.Submissions.{is_bad_name}
use Rattle.gm_notes.specs.Steps.{Step, Open, Packet, Line, Fault, Close, Tick, Took, Withdrew, Drain}

-- a packet's type and data
abbrev pub Parts : Type 0
Parts = ℕ × List ℕ

-- WORK_COMPLETE (13) with a handle alone, without NUL, has an empty result; a handle has at most 64 bytes
abbrev pub result_meant : List ℕ → Parts
result_meant bytes = if not (has_nul bytes) && nat_le (length bytes) 64 then (13, bytes ++ 0 ∷ []) else (13, bytes)

-- a time limit is in milliseconds, and less than 1,000 counts as 1,000; it is rounded up to seconds, with one more for
-- the second that the clock is in
abbrev pub seconds_meant : ℕ → ℕ
seconds_meant milliseconds = (max milliseconds 1000 + 999) / 1000 + 1

-- CAN_DO_TIMEOUT (23) of function f with this number of milliseconds, if it is one; 0 is no limit, as in CAN_DO (1)
abbrev pub limit_meant : List ℕ → Option ℕ → List ℕ → Parts
limit_meant f None bytes = (23, bytes)
limit_meant f (Some milliseconds) bytes =
    if milliseconds == 0 || is_bad_name f then (1, f) else (23, f ++ 0 ∷ decimal (seconds_meant milliseconds))

-- CAN_DO_TIMEOUT of a function with this text as its time limit; -1 is no limit, as in CAN_DO
abbrev pub ability_meant : Option (List ℕ × List ℕ) → List ℕ → Parts
ability_meant None bytes = (23, bytes)
ability_meant (Some halves) bytes = if bytes_eq halves.1 (codes "-1") then (1, halves.0) else limit_meant halves.0 (seconds_of halves.1) bytes

-- OPTION_REQ (26) names `exceptions` in any case of letters
abbrev pub option_meant : List ℕ → Parts
option_meant bytes = if bytes_eq (map to_ascii_lowercase (strip_last 0 bytes)) (codes "exceptions") then (26, codes "exceptions") else (26, bytes)

-- the packet that gearmand's applications mean; GRAB_JOB_ALL (39) is GRAB_JOB_UNIQ (30)
abbrev pub packet_meant : ℕ → List ℕ → Parts
packet_meant kind bytes =
    if kind == 39 then (30, bytes)
    else (if kind == 13 then result_meant bytes
    else (if kind == 23 then ability_meant (cut (strip_last 0 bytes)) bytes
    else (if kind == 26 then option_meant bytes
    else (kind, bytes))))

-- a packet as the server reads it
abbrev pub packet_read : Bool → ℕ → List ℕ → Parts
packet_read as_gearmand kind bytes = if as_gearmand then packet_meant kind bytes else (kind, bytes)

-- a step as the server reads it: only packets are read in two ways
abbrev pub step_read : Bool → Step → Step
step_read as_gearmand (Packet c kind bytes) = Packet c (packet_read as_gearmand kind bytes).0 (packet_read as_gearmand kind bytes).1
step_read as_gearmand (Open addr) = Open addr
step_read as_gearmand (Line c bytes) = Line c bytes
step_read as_gearmand (Fault c fault) = Fault c fault
step_read as_gearmand (Close c) = Close c
step_read as_gearmand (Tick now) = Tick now
step_read as_gearmand (Took c) = Took c
step_read as_gearmand (Withdrew c) = Withdrew c
step_read as_gearmand (Drain c) = Drain c
