-- Worked rows of connections: openings, closings, and what of a connection the next one in its slot hasn't.
use Rattle.std.specs.Prelude.{true, false, [], ◌∷◌, ◌++◌}
use Rattle.gm_notes.specs.Steps.{Fault, Close, Tick, Took, Drain}
use Rattle.gm_notes.specs.declared.states.Place.TheVariants as places
use Rattle.gm_notes.specs.declared.event.ApplyError.TheVariants.{NotOpen, NoSlot, NotOwed}
use Rattle.gm_notes.specs.declared.event.UnitFault.TheVariants.{BadMagic}
use Rattle.gm_laws.specs.RowWords.{defaults, given_to, two_slots, four_slots, connect_from, connect, says, can_do, pre_sleep, submit_job}
use Rattle.gm_laws.specs.RowWords.{grab_job, work_complete, work_fail, get_status, echo_req, submit_job_bg, submit_job_high}
use Rattle.gm_laws.specs.RowWords.{set_client_id, work_exception, option_req, work_data, submit_job_high_bg, line, page, counts, created, no_job}
use Rattle.gm_laws.specs.RowWords.{assigned, completed, failed, data_was, status, echoed, option_set, error, Plays, Owes, Waits, IsSent}
use Rattle.gm_laws.specs.RowWords.{IsDone, opened, made, nothing_made, JobIsAt, Refuses, Takes}

-- an opening gets the least slot that isn't open
abbrev pub LeastSlot : Type 0
LeastSlot =
    IsDone four_slots (
    connect ∷ connect ∷ connect ∷ Close 1 ∷ Close 0 ∷ []) (connect) (opened 0)
    × IsDone four_slots (
    connect ∷ connect ∷ connect ∷ Close 1 ∷ Close 0 ∷ connect ∷ []) (connect) (opened 1)
    × IsDone four_slots (
    connect ∷ connect ∷ connect ∷ Close 1 ∷ Close 0 ∷ connect ∷ connect ∷ []) (connect) (opened 3)

-- a submission's receipt names the job that it made, if it made one
abbrev pub MadeJobs : Type 0
MadeJobs =
    IsDone four_slots (
    connect ∷ []) (submit_job 0 "f" "a" "1") (made 1)
    × IsDone four_slots (
    connect ∷ submit_job 0 "f" "a" "1" ∷ []) (submit_job 0 "f" "a" "2") nothing_made
    × IsDone four_slots (
    connect ∷ submit_job 0 "f" "a" "1" ∷ []) (submit_job 0 "" "b" "2") nothing_made
    × IsDone four_slots (
    connect ∷ submit_job 0 "f" "a" "1" ∷ []) (submit_job_bg 0 "f" "" "2") (made 2)

-- when every slot is open, another opening is refused
abbrev pub SlotsSpent : Type 0
SlotsSpent =
    let steps =
    connect ∷ connect ∷ [] in
    Refuses two_slots steps (connect) NoSlot
    × Refuses two_slots steps (Close 5) NotOpen
    × Refuses two_slots steps (Took 1) NotOwed

-- steps at a slot that isn't open are refused, but for drains; ticks are taken
abbrev pub ClosedSlots : Type 0
ClosedSlots =
    let steps =
    connect ∷ [] in
    Refuses four_slots steps (echo_req 1 "x") NotOpen
    × Refuses four_slots steps (says 1 "version") NotOpen
    × Refuses four_slots steps (Fault 1 BadMagic) NotOpen
    × Refuses four_slots steps (Close 1) NotOpen
    × Takes four_slots steps (Drain 1)
    × Takes four_slots steps (Tick 0)

-- a slot's next connection has its own address, no id and no functions
abbrev pub NothingInherited : Type 0
NothingInherited =
    Plays four_slots (
    connect ∷ connect_from "10.0.0.1" ∷ set_client_id 1 "x" ∷ set_client_id 1 "y" ∷ can_do 1 "f" ∷ says 0 "workers" ∷ Close 1
    ∷ says 0 "workers" ∷ connect_from "10.0.0.2" ∷ says 0 "workers" ∷ submit_job 0 "f" "a" "1" ∷ grab_job 1 ∷ []) (
    page 0 ("0 127.0.0.1 - :" ∷ "1 10.0.0.1 y : f" ∷ "." ∷ []) ∷ page 0 ("0 127.0.0.1 - :" ∷ "." ∷ [])
    ∷ page 0 ("0 127.0.0.1 - :" ∷ "1 10.0.0.2 - :" ∷ "." ∷ []) ∷ created 0 "H:gmd:1" ∷ no_job 1 ∷ [])

-- a slot's next connection doesn't have the exceptions option
abbrev pub OptionNotInherited : Type 0
OptionNotInherited =
    Plays four_slots (
    connect ∷ connect ∷ connect ∷ option_req 1 "exceptions" ∷ Close 1 ∷ connect ∷ submit_job 1 "f" "a" "1" ∷ can_do 2 "f"
    ∷ grab_job 2 ∷ work_exception 2 "H:gmd:1" "boom" ∷ work_fail 2 "H:gmd:1" ∷ []) (
    option_set 1 "exceptions" ∷ created 1 "H:gmd:1" ∷ assigned 2 "H:gmd:1" "f" "1" ∷ failed 1 "H:gmd:1" ∷ [])

-- a slot's next connection is awake and owed no NOOP
abbrev pub SleepNotInherited : Type 0
SleepNotInherited =
    let steps =
    connect ∷ connect ∷ can_do 1 "f" ∷ pre_sleep 1 ∷ Close 1 ∷ connect ∷ can_do 1 "f" ∷ submit_job_bg 0 "f" "a" "1" ∷ [] in
    Owes four_slots steps []
    × Owes four_slots (steps ++ pre_sleep 1 ∷ []) (1 ∷ [])
    × Owes four_slots (steps ++ pre_sleep 1 ∷ Close 1 ∷ connect ∷ []) []

-- a slot's next connection isn't shut
abbrev pub ShutNotInherited : Type 0
ShutNotInherited =
    let steps =
    connect ∷ connect ∷ Fault 1 BadMagic ∷ [] in
    let later =
    steps ++
    Close 1 ∷ connect ∷ [] in
    Refuses four_slots steps (echo_req 1 "x") NotOpen
    × Refuses four_slots steps (says 1 "version") NotOpen
    × Refuses four_slots steps (Fault 1 BadMagic) NotOpen
    × Takes four_slots steps (echo_req 0 "x")
    × Takes four_slots later (echo_req 1 "x")
    × Takes four_slots later (says 1 "version")
    × Takes four_slots later (Fault 1 BadMagic)

-- a slot's next connection gets no results of the last one's jobs
abbrev pub ListenerNotInherited : Type 0
ListenerNotInherited =
    Plays four_slots (
    connect ∷ connect ∷ connect ∷ submit_job 1 "f" "a" "1" ∷ submit_job 0 "f" "a" "1" ∷ Close 1 ∷ connect ∷ can_do 2 "f"
    ∷ grab_job 2 ∷ work_complete 2 "H:gmd:1" "x" ∷ []) (
    created 1 "H:gmd:1" ∷ created 0 "H:gmd:1" ∷ assigned 2 "H:gmd:1" "f" "1" ∷ completed 0 "H:gmd:1" "x" ∷ [])

-- a slot's next connection doesn't run the last one's jobs, or get its bytes
abbrev pub WorkNotInherited : Type 0
WorkNotInherited =
    let steps =
    connect ∷ connect ∷ submit_job 0 "f" "a" "1" ∷ can_do 1 "f" ∷ grab_job 1 ∷ Close 1 ∷ connect ∷ work_fail 1 "H:gmd:1" ∷ [] in
    Plays four_slots steps (
    created 0 "H:gmd:1" ∷ assigned 1 "H:gmd:1" "f" "1" ∷ error 1 "job_not_found" "job not found" ∷ [])
    × Waits four_slots steps 1 ((error 1 "job_not_found" "job not found").1)

-- the waiting bytes are those that were queued since the last drain; a closing drops them
abbrev pub BytesWait : Type 0
BytesWait =
    let steps =
    connect ∷ connect ∷ says 1 "version" ∷ echo_req 0 "x" ∷ [] in
    Waits four_slots steps 1 ((line 1 "OK 1.0.0").1)
    × Waits four_slots (steps ++ says 1 "foo" ∷ []) 1 ((line 1 "OK 1.0.0").1 ++ (line 1 "ERR unknown_command").1)
    × Waits four_slots (steps ++ Drain 0 ∷ []) 1 ((line 1 "OK 1.0.0").1)
    × Waits four_slots (steps ++ Drain 1 ∷ []) 1 []
    × Waits four_slots (steps ++ Drain 1 ∷ says 1 "foo" ∷ []) 1 ((line 1 "ERR unknown_command").1)
    × Waits four_slots (steps ++ Close 1 ∷ []) 1 []
    × Waits four_slots (steps ++ Close 1 ∷ []) 0 ((echoed 0 "x").1)

-- the bytes sent to a connection are all that were queued since its opening, drained or not
abbrev pub BytesSent : Type 0
BytesSent =
    IsSent four_slots (
    connect ∷ connect ∷ says 1 "foo" ∷ Close 1 ∷ connect ∷ says 1 "version" ∷ Drain 1 ∷ echo_req 0 "x" ∷ echo_req 1 "x" ∷ []) 1 ((line 1 "OK 1.0.0").1 ++ (echoed 1 "x").1)

-- A job that only the closed connection wanted is gone
abbrev pub TwoSlots : Type 0
TwoSlots =
    Plays two_slots (
    connect ∷ connect ∷ submit_job 0 "f" "a" "1" ∷ can_do 0 "f" ∷ grab_job 0 ∷ Close 0 ∷ get_status 1 "H:gmd:1"
    ∷ can_do 1 "f" ∷ grab_job 1 ∷ []) (
    created 0 "H:gmd:1" ∷ assigned 0 "H:gmd:1" "f" "1" ∷ status 1 "H:gmd:1" false false "0" "0" ∷ no_job 1 ∷ [])

-- A job whose worker disconnects waits again, after the others
abbrev pub ReturnedJob : Type 0
ReturnedJob =
    Plays defaults (
    connect ∷ connect ∷ submit_job 0 "f" "a" "1" ∷ submit_job 0 "f" "b" "2" ∷ can_do 1 "f" ∷ grab_job 1 ∷ grab_job 1
    ∷ submit_job 0 "f" "c" "3" ∷ Close 1 ∷ connect ∷ can_do 1 "f" ∷ grab_job 1 ∷ grab_job 1 ∷ grab_job 1 ∷ []) (
    created 0 "H:gmd:1" ∷ created 0 "H:gmd:2" ∷ assigned 1 "H:gmd:1" "f" "1" ∷ assigned 1 "H:gmd:2" "f" "2"
    ∷ created 0 "H:gmd:3" ∷ assigned 1 "H:gmd:3" "f" "3" ∷ assigned 1 "H:gmd:1" "f" "1" ∷ assigned 1 "H:gmd:2" "f" "2" ∷ [])

-- A job whose last allowed worker disconnects fails in the next tick
abbrev pub JobRetries : Type 0
JobRetries =
    let lost =
    connect ∷ connect ∷ submit_job 0 "f" "a" "1" ∷ can_do 1 "f" ∷ grab_job 1 ∷ Close 1 ∷ connect ∷ can_do 1 "f" ∷ grab_job 1
    ∷ work_data 1 "H:gmd:1" "z" ∷ Close 1 ∷ [] in
    let failed_job =
    lost ++ get_status 0 "H:gmd:1" ∷ says 0 "status" ∷ connect ∷ can_do 1 "f" ∷ grab_job 1 ∷ work_complete 1 "H:gmd:1" "x" ∷ Tick 0
    ∷ get_status 0 "H:gmd:1" ∷ [] in
    Plays (given_to 2) failed_job (
    created 0 "H:gmd:1" ∷ assigned 1 "H:gmd:1" "f" "1" ∷ assigned 1 "H:gmd:1" "f" "1" ∷ data_was 0 "H:gmd:1" "z"
    ∷ status 0 "H:gmd:1" true true "0" "0" ∷ counts 0 (("f", "1", "1", "0") ∷ []) ∷ no_job 1
    ∷ error 1 "job_not_found" "job not found" ∷ failed 0 "H:gmd:1" ∷ status 0 "H:gmd:1" false false "0" "0" ∷ [])
    × JobIsAt (given_to 2) lost 1 places.Lost
    × JobIsAt (given_to 2) failed_job 1 places.Gone
    × JobIsAt (given_to 3) lost 1 places.Waiting
    × JobIsAt defaults lost 1 places.Waiting

-- A lost job can be joined, stays when a listener leaves, and fails in the next tick
abbrev pub LostJob : Type 0
LostJob =
    let lost =
    connect ∷ connect ∷ connect ∷ submit_job 0 "f" "x" "1" ∷ can_do 1 "f" ∷ grab_job 1 ∷ Close 1 ∷ submit_job 2 "f" "x" "2"
    ∷ Close 0 ∷ [] in
    let told =
    created 0 "H:gmd:1" ∷ assigned 1 "H:gmd:1" "f" "1" ∷ created 2 "H:gmd:1" ∷ [] in
    Plays (given_to 1) (lost ++ Tick 5 ∷ []) (told ++ failed 2 "H:gmd:1" ∷ [])
    × Plays (given_to 1) (lost ++ Close 2 ∷ connect ∷ get_status 0 "H:gmd:1" ∷ Tick 5 ∷ submit_job 0 "f" "x" "3" ∷ []) (
    told ++ status 0 "H:gmd:1" true true "0" "0" ∷ created 0 "H:gmd:2" ∷ [])
    × JobIsAt (given_to 1) (lost ++ Close 2 ∷ []) 1 places.Lost
    × JobIsAt (given_to 1) (lost ++ Close 2 ∷ Tick 5 ∷ []) 1 places.Gone

-- a disconnected worker's jobs wait again, and wake only sleeping workers that can do them
abbrev pub WokenByReturn : Type 0
WokenByReturn =
    let steps =
    connect ∷ connect ∷ connect ∷ connect ∷ submit_job 0 "f" "a" "1" ∷ can_do 1 "f" ∷ grab_job 1 ∷ can_do 2 "f" ∷ pre_sleep 2
    ∷ can_do 3 "g" ∷ pre_sleep 3 ∷ [] in
    Owes four_slots steps []
    × Owes four_slots (steps ++ Close 1 ∷ []) (2 ∷ [])

-- a worker that disconnects isn't woken for its own job, nor is its slot's next connection
abbrev pub NotItself : Type 0
NotItself =
    let steps =
    connect ∷ connect ∷ submit_job 0 "f" "a" "1" ∷ can_do 1 "f" ∷ grab_job 1 ∷ pre_sleep 1 ∷ Close 1 ∷ [] in
    Owes four_slots steps []
    × Owes four_slots (steps ++ connect ∷ []) []

-- A job that nobody wants is discarded
abbrev pub OrphanedJob : Type 0
OrphanedJob =
    Plays defaults (
    connect ∷ connect ∷ submit_job 0 "f" "x" "a" ∷ Close 0 ∷ can_do 1 "f" ∷ grab_job 1 ∷ []) (
    created 0 "H:gmd:1" ∷ no_job 1 ∷ [])

-- A background submission keeps the job that it joins
abbrev pub KeptJob : Type 0
KeptJob =
    Plays defaults (
    connect ∷ connect ∷ connect ∷ submit_job 0 "f" "x" "a" ∷ submit_job_bg 1 "f" "x" "b" ∷ Close 0 ∷ can_do 2 "f"
    ∷ grab_job 2 ∷ []) (
    created 0 "H:gmd:1" ∷ created 1 "H:gmd:1" ∷ assigned 2 "H:gmd:1" "f" "a" ∷ [])

-- a closing discards exactly the waiting jobs that are unwanted after it
abbrev pub OnlyUnwanted : Type 0
OnlyUnwanted =
    Plays four_slots (
    connect ∷ connect ∷ connect ∷ submit_job 0 "f" "a" "1" ∷ submit_job 0 "f" "b" "2" ∷ submit_job 1 "f" "b" "3"
    ∷ submit_job_bg 0 "f" "c" "4" ∷ submit_job 1 "f" "d" "5" ∷ Close 0 ∷ can_do 2 "f" ∷ grab_job 2 ∷ grab_job 2 ∷ grab_job 2
    ∷ grab_job 2 ∷ []) (
    created 0 "H:gmd:1" ∷ created 0 "H:gmd:2" ∷ created 1 "H:gmd:2" ∷ created 0 "H:gmd:3" ∷ created 1 "H:gmd:4"
    ∷ assigned 2 "H:gmd:2" "f" "2" ∷ assigned 2 "H:gmd:3" "f" "4" ∷ assigned 2 "H:gmd:4" "f" "5" ∷ no_job 2 ∷ [])

-- without listeners a running job goes on, and is discarded when its worker disconnects too
abbrev pub RunsOn : Type 0
RunsOn =
    Plays four_slots (
    connect ∷ connect ∷ connect ∷ submit_job 0 "f" "a" "1" ∷ submit_job 0 "f" "b" "2" ∷ can_do 1 "f" ∷ grab_job 1 ∷ grab_job 1
    ∷ Close 0 ∷ get_status 2 "H:gmd:1" ∷ work_complete 1 "H:gmd:1" "x" ∷ get_status 2 "H:gmd:1" ∷ get_status 2 "H:gmd:2"
    ∷ Close 1 ∷ get_status 2 "H:gmd:2" ∷ can_do 2 "f" ∷ grab_job 2 ∷ []) (
    created 0 "H:gmd:1" ∷ created 0 "H:gmd:2" ∷ assigned 1 "H:gmd:1" "f" "1" ∷ assigned 1 "H:gmd:2" "f" "2"
    ∷ status 2 "H:gmd:1" true true "0" "0" ∷ status 2 "H:gmd:1" false false "0" "0" ∷ status 2 "H:gmd:2" true true "0" "0"
    ∷ status 2 "H:gmd:2" false false "0" "0" ∷ no_job 2 ∷ [])

-- only the disconnected worker's jobs stop running; a kept one waits again, before lower priorities
abbrev pub OnlyItsJobs : Type 0
OnlyItsJobs =
    Plays four_slots (
    connect ∷ connect ∷ connect ∷ submit_job_high 0 "f" "a" "1" ∷ submit_job_high_bg 0 "f" "b" "2" ∷ submit_job 0 "f" "c" "3"
    ∷ can_do 1 "f" ∷ can_do 2 "f" ∷ grab_job 2 ∷ grab_job 1 ∷ Close 1 ∷ get_status 0 "H:gmd:1" ∷ get_status 0 "H:gmd:2"
    ∷ grab_job 2 ∷ grab_job 2 ∷ []) (
    created 0 "H:gmd:1" ∷ created 0 "H:gmd:2" ∷ created 0 "H:gmd:3" ∷ assigned 2 "H:gmd:1" "f" "1" ∷ assigned 1 "H:gmd:2" "f" "2"
    ∷ status 0 "H:gmd:1" true true "0" "0" ∷ status 0 "H:gmd:2" true false "0" "0" ∷ assigned 2 "H:gmd:2" "f" "2"
    ∷ assigned 2 "H:gmd:3" "f" "3" ∷ [])
