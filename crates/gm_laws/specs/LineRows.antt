-- Worked rows of text lines, faults, plain answers and settings.
use Rattle.std.specs.Prelude.{◌≡◌, ℕ, true, false, List, [], ◌∷◌, ◌++◌, map, replicate, codes, Some, None}
use Rattle.gm_notes.specs.Steps.{Line, Fault, Close}
use Rattle.gm_notes.specs.declared.event.ApplyError.TheVariants.{Memory, NotOpen, NoSlot, NotOwed, Refusing}
use Rattle.gm_notes.specs.declared.event.UnitFault.TheVariants.{BadMagic, PacketTooLarge, LineTooLong}
use Rattle.gm_notes.specs.declared.config.ConfigError.TheVariants.{BadName, BadNumber, BadSlots, BadFunctions}
use Rattle.gm_notes.specs.declared.states.Mode.TheVariants as modes
use Rattle.gm_notes.specs.Numbers.{apply_error_number, unit_fault_number}
use Rattle.gm_notes.specs.Settings.{config_fault, config_error_number, Settings}
use Rattle.gm_packet.specs.Answers.{echo_res}
use Rattle.gm_laws.specs.RowWords.{AreShut, GoesOn, settings, defaults, four_slots, connect_from, connect, says, sends, can_do}
use Rattle.gm_laws.specs.RowWords.{cant_do, reset_abilities, submit_job, grab_job, work_complete, echo_req, submit_job_bg}
use Rattle.gm_laws.specs.RowWords.{set_client_id, all_yours, to, line, page, counts, created, assigned, completed, status}
use Rattle.gm_laws.specs.RowWords.{echoed, error, Plays, Refuses, Takes}

-- with this name
abbrev pub named : List ℕ → Settings
named name = record (settings 1 4 9) { name = name }

-- requests without a job: an echo, nothing, an unknown type, malformed data
abbrev pub PlainAnswers : Type 0
PlainAnswers =
    Plays four_slots (
    connect ∷ echo_req 0 "hi" ∷ sends 0 16 (codes "a" ∷ [] ∷ []) ∷ all_yours 0 ∷ sends 0 36 [] ∷ sends 0 5 []
    ∷ sends 0 24 (codes "x" ∷ []) ∷ sends 0 9 (codes "x" ∷ []) ∷ sends 0 7 (codes "f" ∷ codes "a" ∷ []) ∷ []) (
    echoed 0 "hi" ∷ to 0 (echo_res (97 ∷ 0 ∷ [])) ∷ error 0 "unknown_command" "unknown command"
    ∷ error 0 "unknown_command" "unknown command" ∷ error 0 "bad_arguments" "bad arguments"
    ∷ error 0 "bad_arguments" "bad arguments" ∷ error 0 "bad_arguments" "bad arguments" ∷ [])

-- one NUL at the end is dropped, and a second is refused
abbrev pub TrailingNul : Type 0
TrailingNul =
    Plays defaults (
    connect ∷ connect ∷ submit_job_bg 0 "f" "a" "1" ∷ sends 0 15 (codes "H:gmd:1" ∷ [] ∷ [])
    ∷ sends 1 1 (codes "f" ∷ [] ∷ []) ∷ grab_job 1 ∷ says 0 "STATUS" ∷ sends 0 15 (codes "a" ∷ codes "b" ∷ [])
    ∷ sends 0 15 (codes "a" ∷ [] ∷ [] ∷ []) ∷ []) (
    created 0 "H:gmd:1" ∷ status 0 "H:gmd:1" true false "0" "0" ∷ assigned 1 "H:gmd:1" "f" "1"
    ∷ counts 0 (("f", "1", "1", "1") ∷ []) ∷ error 0 "bad_arguments" "bad arguments"
    ∷ error 0 "bad_arguments" "bad arguments" ∷ [])

-- A fault is answered, and shuts its connection, which stays open
abbrev pub Faults : Type 0
Faults =
    let steps =
    connect ∷ connect ∷ connect ∷ connect ∷ Fault 0 BadMagic ∷ Fault 1 PacketTooLarge ∷ Fault 2 LineTooLong ∷ [] in
    Plays four_slots steps (
    error 0 "bad_magic" "bad magic" ∷ error 1 "packet_too_large" "packet too large" ∷ line 2 "ERR line_too_long" ∷ [])
    × Refuses four_slots steps (echo_req 0 "x") NotOpen
    × Refuses four_slots steps (says 1 "version") NotOpen
    × Refuses four_slots steps (Fault 2 LineTooLong) NotOpen
    × Takes four_slots steps (echo_req 3 "x")
    × Takes four_slots steps (Close 2)
    × Refuses four_slots steps (connect) NoSlot

-- the answer to `workers`; adding a function again doesn't move it
abbrev pub WorkersText : Type 0
WorkersText =
    Plays defaults (
    connect ∷ connect_from "10.0.0.2" ∷ set_client_id 1 "w 1" ∷ can_do 1 "b" ∷ can_do 1 "a" ∷ can_do 1 "b"
    ∷ says 0 "workers" ∷ cant_do 1 "b" ∷ says 0 "workers" ∷ reset_abilities 1 ∷ says 0 "workers" ∷ []) (
    page 0 ("0 127.0.0.1 - :" ∷ "1 10.0.0.2 w?1 : b a" ∷ "." ∷ [])
    ∷ page 0 ("0 127.0.0.1 - :" ∷ "1 10.0.0.2 w?1 : a" ∷ "." ∷ [])
    ∷ page 0 ("0 127.0.0.1 - :" ∷ "1 10.0.0.2 w?1 :" ∷ "." ∷ []) ∷ [])

-- `workers` lists the open connections by slot, shut ones too
abbrev pub OpenConnections : Type 0
OpenConnections =
    Plays four_slots (
    connect_from "a" ∷ connect_from "b" ∷ connect_from "c" ∷ Close 1 ∷ Fault 2 BadMagic ∷ says 0 "workers" ∷ []) (
    error 2 "bad_magic" "bad magic" ∷ page 0 ("0 a - :" ∷ "2 c - :" ∷ "." ∷ []) ∷ [])

-- `status` lists functions in order of mention, with jobs, running jobs and workers
abbrev pub StatusText : Type 0
StatusText =
    Plays four_slots (
    connect ∷ connect ∷ connect ∷ can_do 1 "g" ∷ submit_job 0 "f" "a" "1" ∷ submit_job 0 "f" "b" "2" ∷ submit_job 0 "g" "c" "3"
    ∷ can_do 2 "g" ∷ can_do 2 "f" ∷ cant_do 0 "h" ∷ grab_job 2 ∷ says 0 "status" ∷ work_complete 2 "H:gmd:3" "x" ∷ Close 1
    ∷ says 0 "status" ∷ says 0 "maxqueue k 3" ∷ says 0 "status" ∷ []) (
    created 0 "H:gmd:1" ∷ created 0 "H:gmd:2" ∷ created 0 "H:gmd:3" ∷ assigned 2 "H:gmd:3" "g" "3"
    ∷ counts 0 (("g", "1", "1", "2") ∷ ("f", "2", "0", "1") ∷ []) ∷ completed 0 "H:gmd:3" "x"
    ∷ counts 0 (("g", "0", "0", "1") ∷ ("f", "2", "0", "1") ∷ []) ∷ line 0 "OK"
    ∷ counts 0 (("g", "0", "0", "1") ∷ ("f", "2", "0", "1") ∷ ("k", "0", "0", "0") ∷ []) ∷ [])

-- invalid lines get an ERR line each
abbrev pub AdminLines : Type 0
AdminLines =
    Plays defaults (
    connect ∷ says 0 "foo" ∷ says 0 "" ∷ says 0 "maxqueue" ∷ says 0 "maxqueue f 1x" ∷ says 0 "maxqueue f 1 2 3"
    ∷ says 0 "shutdown now" ∷ says 0 "version" ∷ says 0 "status" ∷ []) (
    line 0 "ERR unknown_command" ∷ line 0 "ERR unknown_command" ∷ line 0 "ERR missing_name" ∷ line 0 "ERR bad_size"
    ∷ line 0 "ERR bad_size" ∷ line 0 "ERR unknown_command" ∷ line 0 "OK 1.0.0" ∷ line 0 "." ∷ [])

-- `maxqueue` takes names of up to 512 bytes without NUL; a negative size is no limit
abbrev pub LimitLines : Type 0
LimitLines =
    Plays four_slots (
    connect ∷ Line 0 (codes "maxqueue " ++ replicate 513 97) ∷ Line 0 (codes "maxqueue " ++ replicate 512 97)
    ∷ Line 0 (codes "maxqueue a" ++ 0 ∷ []) ∷ says 0 "maxqueue f 1" ∷ submit_job 0 "f" "a" "1" ∷ submit_job 0 "f" "b" "2"
    ∷ says 0 "maxqueue f -1" ∷ submit_job 0 "f" "b" "2" ∷ says 0 "maxqueue f 2" ∷ says 0 "maxqueue f" ∷ submit_job 0 "f" "c" "3"
    ∷ []) (
    line 0 "ERR bad_function" ∷ line 0 "OK" ∷ line 0 "ERR bad_function" ∷ line 0 "OK" ∷ created 0 "H:gmd:1"
    ∷ error 0 "queue_full" "queue full" ∷ line 0 "OK" ∷ created 0 "H:gmd:2" ∷ line 0 "OK" ∷ line 0 "OK" ∷ created 0 "H:gmd:3"
    ∷ [])

-- `shutdown` and `shutdown graceful` are answered; connections go on after a graceful one
abbrev pub ShutdownLines : Type 0
ShutdownLines =
    Plays four_slots (
    connect ∷ connect ∷ says 0 "shutdown graceful" ∷ echo_req 1 "x" ∷ says 1 "Shutdown Graceful" ∷ says 1 "shutdown"
    ∷ says 0 "version" ∷ []) (
    line 0 "OK" ∷ echoed 1 "x" ∷ line 1 "OK" ∷ line 1 "OK" ∷ [])

-- after `shutdown graceful` no connection is accepted, and open ones go on
abbrev pub Shutdowns : Type 0
Shutdowns =
    let steps =
    connect ∷ connect ∷ says 0 "shutdown graceful" ∷ [] in
    Refuses defaults steps (connect) Refusing
    × Takes defaults steps (echo_req 1 "x")
    × Takes defaults steps (says 1 "shutdown")

-- after `shutdown` no slot takes units, and closings are taken
abbrev pub ShutDown : Type 0
ShutDown =
    let steps =
    connect ∷ connect ∷ says 0 "shutdown" ∷ [] in
    Refuses defaults steps (echo_req 1 "x") NotOpen
    × Refuses defaults steps (says 0 "version") NotOpen
    × Takes defaults steps (Close 1)
    × Refuses defaults steps (connect) Refusing

-- the mode is Running, Graceful or Stopped; a refused line doesn't change it
abbrev pub Modes : Type 0
Modes =
    GoesOn four_slots (connect ∷ connect ∷ says 0 "shutdown now" ∷ []) modes.Running
    × GoesOn four_slots (connect ∷ connect ∷ says 0 "shutdown graceful" ∷ []) modes.Graceful
    × GoesOn four_slots (connect ∷ connect ∷ says 0 "shutdown graceful" ∷ says 1 "shutdown" ∷ []) modes.Stopped
    × GoesOn four_slots (connect ∷ connect ∷ says 1 "shutdown" ∷ says 0 "shutdown graceful" ∷ []) modes.Stopped

-- a slot is shut after a fault or `shutdown`, until it is closed
abbrev pub ShutSlots : Type 0
ShutSlots =
    let steps = connect ∷ connect ∷ connect ∷ Fault 1 BadMagic ∷ [] in
    AreShut four_slots steps (1 ∷ [])
    × AreShut four_slots (steps ++ Close 1 ∷ []) []
    × AreShut four_slots (steps ++ Close 1 ∷ connect ∷ []) []
    × AreShut four_slots (steps ++ says 0 "shutdown" ∷ []) (0 ∷ 1 ∷ 2 ∷ [])

-- the numbers of refusals and of faults
abbrev pub RefusalNumbers : Type 0
RefusalNumbers =
    (map apply_error_number (Memory ∷ NotOpen ∷ NoSlot ∷ NotOwed ∷ Refusing ∷ []) ≡ 6 ∷ 10 ∷ 11 ∷ 12 ∷ 13 ∷ [])
    × (map unit_fault_number (BadMagic ∷ PacketTooLarge ∷ LineTooLong ∷ []) ≡ 3 ∷ 4 ∷ 5 ∷ [])
    × (map config_error_number (BadName ∷ BadNumber ∷ BadSlots ∷ BadFunctions ∷ []) ≡ 17 ∷ 18 ∷ 19 ∷ 20 ∷ [])

-- valid settings: names of 1 to 40 letters, digits, dots and hyphens; first numbers from 1; 1 to 1,024 slots; 1 to
-- 65,536 functions
abbrev pub SettingsInRange : Type 0
SettingsInRange =
    (config_fault (settings 1 1024 65536) ≡ None)
    × (config_fault (named (replicate 40 122)) ≡ None)
    × (config_fault (named (replicate 41 122)) ≡ Some BadName)
    × (config_fault (named []) ≡ Some BadName)
    × (config_fault (named (codes "a_b")) ≡ Some BadName)
    × (config_fault (named (codes "aZ9.-")) ≡ None)
    × (config_fault (settings 0 0 0) ≡ Some BadNumber)
    × (config_fault (settings 1 0 0) ≡ Some BadSlots)
    × (config_fault (settings 1 1025 1) ≡ Some BadSlots)
    × (config_fault (settings 1 1 0) ≡ Some BadFunctions)
    × (config_fault (settings 1 1 65537) ≡ Some BadFunctions)
