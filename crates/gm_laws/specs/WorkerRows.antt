-- Worked rows of workers: what they can do, their sleep, and their time.
use Rattle.std.specs.Prelude.{true, false, [], ◌∷◌, ◌++◌}
use Rattle.gm_notes.specs.Steps.{Close, Tick, Took, Withdrew}
use Rattle.gm_notes.specs.declared.event.ApplyError.TheVariants.{NotOpen, NotOwed}
use Rattle.gm_laws.specs.RowWords.{defaults, in_turn, for_gearmand, four_slots, connect, says, can_do, cant_do, reset_abilities, pre_sleep}
use Rattle.gm_laws.specs.RowWords.{submit_job, grab_job, work_complete, get_status, submit_job_bg, submit_job_high, submit_job_low}
use Rattle.gm_laws.specs.RowWords.{can_do_timeout, grab_job_uniq, line, created, no_job, assigned, assigned_uniq, completed}
use Rattle.gm_laws.specs.RowWords.{failed, status, error, Plays, Owes, Refuses}

-- a grab tries functions in the order in which they were added; adding one again doesn't move it
abbrev pub AbilityOrder : Type 0
AbilityOrder =
    Plays defaults (
    connect ∷ connect ∷ submit_job 0 "f" "a" "1" ∷ submit_job 0 "g" "b" "2" ∷ submit_job 0 "f" "c" "3" ∷ submit_job 0 "g" "d" "4"
    ∷ can_do 1 "g" ∷ can_do 1 "f" ∷ can_do 1 "g" ∷ grab_job 1 ∷ cant_do 1 "g" ∷ can_do 1 "g" ∷ grab_job 1 ∷ grab_job 1
    ∷ grab_job 1 ∷ []) (
    created 0 "H:gmd:1" ∷ created 0 "H:gmd:2" ∷ created 0 "H:gmd:3" ∷ created 0 "H:gmd:4" ∷ assigned 1 "H:gmd:2" "g" "2"
    ∷ assigned 1 "H:gmd:1" "f" "1" ∷ assigned 1 "H:gmd:3" "f" "3" ∷ assigned 1 "H:gmd:4" "g" "4" ∷ [])

-- with `--round-robin` a worker's functions take turns
abbrev pub RoundRobin : Type 0
RoundRobin =
    let steps =
    connect ∷ connect ∷ submit_job_bg 0 "a" "-" "1" ∷ submit_job_bg 0 "a" "-" "2" ∷ submit_job_bg 0 "b" "-" "3" ∷ can_do 1 "a"
    ∷ can_do 1 "b" ∷ grab_job 1 ∷ grab_job 1 ∷ grab_job 1 ∷ [] in
    let accepted =
    created 0 "H:gmd:1" ∷ created 0 "H:gmd:2" ∷ created 0 "H:gmd:3" ∷ [] in
    Plays in_turn steps (accepted ++ assigned 1 "H:gmd:1" "a" "1" ∷ assigned 1 "H:gmd:3" "b" "3" ∷ assigned 1 "H:gmd:2" "a" "2" ∷ [])
    × Plays defaults steps (accepted ++ assigned 1 "H:gmd:1" "a" "1" ∷ assigned 1 "H:gmd:2" "a" "2" ∷ assigned 1 "H:gmd:3" "b" "3" ∷ [])

-- with `--as-gearmand` high priority goes before normal, and normal before low, whatever the functions are
abbrev pub PriorityFirst : Type 0
PriorityFirst =
    let steps =
    connect ∷ connect ∷ submit_job_low 0 "f" "a" "1" ∷ submit_job 0 "f" "b" "2" ∷ submit_job_high 0 "g" "c" "3"
    ∷ submit_job 0 "g" "d" "4" ∷ can_do 1 "f" ∷ can_do 1 "g" ∷ grab_job 1 ∷ grab_job 1 ∷ grab_job 1 ∷ grab_job 1 ∷ grab_job 1
    ∷ [] in
    let accepted =
    created 0 "H:gmd:1" ∷ created 0 "H:gmd:2" ∷ created 0 "H:gmd:3" ∷ created 0 "H:gmd:4" ∷ [] in
    Plays for_gearmand steps (
    accepted ++ assigned 1 "H:gmd:3" "g" "3" ∷ assigned 1 "H:gmd:2" "f" "2" ∷ assigned 1 "H:gmd:4" "g" "4"
    ∷ assigned 1 "H:gmd:1" "f" "1" ∷ no_job 1 ∷ [])
    × Plays defaults steps (
    accepted ++ assigned 1 "H:gmd:2" "f" "2" ∷ assigned 1 "H:gmd:1" "f" "1" ∷ assigned 1 "H:gmd:3" "g" "3"
    ∷ assigned 1 "H:gmd:4" "g" "4" ∷ no_job 1 ∷ [])

-- a new connection begins with its first function, whatever its slot did before
abbrev pub RoundRobinAnew : Type 0
RoundRobinAnew =
    Plays in_turn (
    connect ∷ connect ∷ submit_job_bg 0 "a" "-" "1" ∷ submit_job_bg 0 "b" "-" "2" ∷ submit_job_bg 0 "a" "-" "3" ∷ can_do 1 "a"
    ∷ can_do 1 "b" ∷ grab_job 1 ∷ work_complete 1 "H:gmd:1" "x" ∷ Close 1 ∷ connect ∷ can_do 1 "a" ∷ can_do 1 "b" ∷ grab_job 1
    ∷ []) (
    created 0 "H:gmd:1" ∷ created 0 "H:gmd:2" ∷ created 0 "H:gmd:3" ∷ assigned 1 "H:gmd:1" "a" "1"
    ∷ assigned 1 "H:gmd:3" "a" "3" ∷ [])

-- a grab gets only jobs of functions that the worker can do now
abbrev pub OnlyItsFunctions : Type 0
OnlyItsFunctions =
    Plays defaults (
    connect ∷ connect ∷ connect ∷ submit_job 0 "f" "a" "1" ∷ can_do 2 "f" ∷ can_do 1 "g" ∷ grab_job 1 ∷ can_do 1 "f"
    ∷ cant_do 1 "f" ∷ grab_job 1 ∷ can_do 1 "f" ∷ reset_abilities 1 ∷ grab_job 1 ∷ grab_job 2 ∷ []) (
    created 0 "H:gmd:1" ∷ no_job 1 ∷ no_job 1 ∷ no_job 1 ∷ assigned 2 "H:gmd:1" "f" "1" ∷ [])

-- jobs of one function and priority are given out in the order in which they came
abbrev pub QueueOrder : Type 0
QueueOrder =
    Plays defaults (
    connect ∷ connect ∷ submit_job 0 "f" "a" "1" ∷ submit_job_bg 0 "f" "b" "2" ∷ submit_job 0 "f" "c" "3" ∷ can_do 1 "f"
    ∷ grab_job 1 ∷ grab_job_uniq 1 ∷ grab_job 1 ∷ grab_job_uniq 1 ∷ []) (
    created 0 "H:gmd:1" ∷ created 0 "H:gmd:2" ∷ created 0 "H:gmd:3" ∷ assigned 1 "H:gmd:1" "f" "1"
    ∷ assigned_uniq 1 "H:gmd:2" "f" "b" "2" ∷ assigned 1 "H:gmd:3" "f" "3" ∷ no_job 1 ∷ [])

-- A worker is woken once
abbrev pub OneWake : Type 0
OneWake =
    let steps =
    connect ∷ connect ∷ can_do 1 "f" ∷ pre_sleep 1 ∷ submit_job_bg 0 "f" "a" "1" ∷ [] in
    Plays defaults steps (created 0 "H:gmd:1" ∷ [])
    × Owes defaults steps (1 ∷ [])

-- a worker that was woken isn't woken again while it is awake
abbrev pub OneWakeThen : Type 0
OneWakeThen =
    let steps =
    connect ∷ connect ∷ can_do 1 "f" ∷ pre_sleep 1 ∷ submit_job_bg 0 "f" "a" "1" ∷ Took 1 ∷ submit_job_bg 0 "f" "b" "2" ∷ [] in
    Plays defaults steps (
    created 0 "H:gmd:1" ∷ created 0 "H:gmd:2" ∷ [])
    × Owes defaults steps []

-- every sleeping worker that can do the function is woken
abbrev pub AllWake : Type 0
AllWake =
    Owes defaults (
    connect ∷ connect ∷ connect ∷ connect ∷ can_do 1 "f" ∷ pre_sleep 1 ∷ can_do 2 "g" ∷ pre_sleep 2 ∷ can_do 3 "f"
    ∷ pre_sleep 3 ∷ submit_job_bg 0 "f" "a" "1" ∷ []) (1 ∷ 3 ∷ [])

-- a worker that can no longer do the function isn't woken; a submitter that can is
abbrev pub OnlyAbleWake : Type 0
OnlyAbleWake =
    Owes four_slots (
    connect ∷ connect ∷ connect ∷ can_do 1 "f" ∷ pre_sleep 1 ∷ cant_do 1 "f" ∷ can_do 2 "f" ∷ pre_sleep 2 ∷ reset_abilities 2
    ∷ can_do 0 "f" ∷ pre_sleep 0 ∷ submit_job 0 "f" "a" "1" ∷ []) (0 ∷ [])

-- A worker that goes to sleep while a job waits that it can do is woken at once
abbrev pub WorkBeforeSleep : Type 0
WorkBeforeSleep =
    let steps =
    connect ∷ connect ∷ submit_job_bg 0 "f" "a" "1" ∷ can_do 1 "f" ∷ pre_sleep 1 ∷ [] in
    Plays defaults steps (created 0 "H:gmd:1" ∷ [])
    × Owes defaults steps (1 ∷ [])

-- A sleeping worker that adds a function with a waiting job is woken
abbrev pub WorkBeforeAbility : Type 0
WorkBeforeAbility =
    let steps =
    connect ∷ connect ∷ connect ∷ submit_job_bg 0 "f" "a" "1" ∷ pre_sleep 2 ∷ can_do 2 "f" ∷ [] in
    Plays defaults steps (created 0 "H:gmd:1" ∷ [])
    × Owes defaults steps (2 ∷ [])

-- a new ability wakes only a sleeping worker, and only if a job waits for it
abbrev pub OnlyItsWork : Type 0
OnlyItsWork =
    let steps =
    connect ∷ connect ∷ connect ∷ submit_job_bg 0 "f" "a" "1" ∷ pre_sleep 1 ∷ can_do 1 "g" ∷ can_do 2 "f" ∷ [] in
    Owes four_slots steps []
    × Owes four_slots (steps ++ can_do 1 "f" ∷ []) (1 ∷ [])

-- A grab by a worker that is owed a NOOP leaves it owed
abbrev pub WorkBeforeGrab : Type 0
WorkBeforeGrab =
    let steps =
    connect ∷ connect ∷ submit_job_bg 0 "f" "a" "1" ∷ can_do 1 "f" ∷ pre_sleep 1 ∷ grab_job 1 ∷ [] in
    Plays defaults steps (
    created 0 "H:gmd:1" ∷ assigned 1 "H:gmd:1" "f" "1" ∷ [])
    × Owes defaults steps (1 ∷ [])

-- a sleeping worker that grabs is awake, and the next job doesn't wake it
abbrev pub GrabStirs : Type 0
GrabStirs =
    let steps =
    connect ∷ connect ∷ can_do 1 "f" ∷ pre_sleep 1 ∷ grab_job 1 ∷ submit_job_bg 0 "f" "a" "1" ∷ [] in
    Plays four_slots steps (
    no_job 1 ∷ created 0 "H:gmd:1" ∷ [])
    × Owes four_slots steps []

-- A worker whose job another took sleeps again, and the next job wakes it
abbrev pub StaleNoop : Type 0
StaleNoop =
    let steps =
    connect ∷ connect ∷ connect ∷ can_do 1 "f" ∷ pre_sleep 1 ∷ submit_job_bg 0 "f" "a" "1" ∷ Took 1 ∷ can_do 2 "f"
    ∷ grab_job 2 ∷ pre_sleep 1 ∷ submit_job_bg 0 "f" "b" "2" ∷ [] in
    Plays defaults steps (
    created 0 "H:gmd:1" ∷ assigned 2 "H:gmd:1" "f" "1" ∷ created 0 "H:gmd:2" ∷ [])
    × Owes defaults steps (1 ∷ [])

-- an owed NOOP stays owed, even if no job waits any more and the worker goes to sleep again
abbrev pub StillOwed : Type 0
StillOwed =
    Owes four_slots (
    connect ∷ connect ∷ connect ∷ can_do 1 "f" ∷ pre_sleep 1 ∷ can_do 2 "f" ∷ submit_job_bg 0 "f" "a" "1" ∷ grab_job 2
    ∷ pre_sleep 1 ∷ []) (1 ∷ [])

-- after its NOOP is withdrawn a worker is awake and owed none, until it goes to sleep while a job waits
abbrev pub WithdrawnNoop : Type 0
WithdrawnNoop =
    let steps =
    connect ∷ connect ∷ can_do 1 "f" ∷ pre_sleep 1 ∷ submit_job_bg 0 "f" "a" "1" ∷ Withdrew 1 ∷ submit_job_bg 0 "f" "b" "2" ∷ [] in
    Owes four_slots steps []
    × Refuses four_slots steps (Took 1) NotOwed
    × Refuses four_slots steps (Withdrew 1) NotOwed
    × Owes four_slots (steps ++ pre_sleep 1 ∷ []) (1 ∷ [])

-- a NOOP is taken once; no sleeping worker is owed one, and no slot that isn't open
abbrev pub TakenNoop : Type 0
TakenNoop =
    let steps =
    connect ∷ connect ∷ connect ∷ can_do 1 "f" ∷ pre_sleep 1 ∷ submit_job_bg 0 "f" "a" "1" ∷ Took 1 ∷ can_do 2 "g" ∷ pre_sleep 2
    ∷ [] in
    Refuses four_slots steps (Took 1) NotOwed
    × Refuses four_slots steps (Took 2) NotOwed
    × Refuses four_slots steps (Withdrew 2) NotOwed
    × Refuses four_slots steps (Took 3) NotOpen
    × Refuses four_slots steps (Withdrew 3) NotOpen

-- A job fails in the tick that reaches its deadline, and its worker gets nothing
abbrev pub Deadline : Type 0
Deadline =
    Plays defaults (
    connect ∷ connect ∷ Tick 10 ∷ submit_job 0 "f" "a" "1" ∷ can_do_timeout 1 "f" "5" ∷ grab_job 1 ∷ Tick 14 ∷ Tick 15
    ∷ work_complete 1 "H:gmd:1" "x" ∷ get_status 0 "H:gmd:1" ∷ []) (
    created 0 "H:gmd:1" ∷ assigned 1 "H:gmd:1" "f" "1" ∷ failed 0 "H:gmd:1" ∷ error 1 "job_not_found" "job not found"
    ∷ status 0 "H:gmd:1" false false "0" "0" ∷ [])

-- A job without a time limit outlives every tick
abbrev pub NoDeadline : Type 0
NoDeadline =
    Plays defaults (
    connect ∷ connect ∷ Tick 5 ∷ submit_job 0 "f" "a" "1" ∷ can_do 1 "f" ∷ grab_job 1 ∷ Tick 6 ∷ Tick 18446744073709551615
    ∷ work_complete 1 "H:gmd:1" "x" ∷ []) (
    created 0 "H:gmd:1" ∷ assigned 1 "H:gmd:1" "f" "1" ∷ completed 0 "H:gmd:1" "x" ∷ [])

-- each function has its own time limit, the last one set; CAN_DO removes it
abbrev pub TimeLimits : Type 0
TimeLimits =
    Plays defaults (
    connect ∷ connect ∷ can_do_timeout 1 "f" "5" ∷ can_do 1 "g" ∷ can_do 1 "f" ∷ can_do_timeout 1 "g" "7"
    ∷ submit_job 0 "f" "a" "1" ∷ submit_job 0 "g" "b" "2" ∷ grab_job 1 ∷ grab_job 1 ∷ Tick 6 ∷ Tick 7 ∷ Tick 1000
    ∷ work_complete 1 "H:gmd:1" "x" ∷ []) (
    created 0 "H:gmd:1" ∷ created 0 "H:gmd:2" ∷ assigned 1 "H:gmd:1" "f" "1" ∷ assigned 1 "H:gmd:2" "g" "2" ∷ failed 0 "H:gmd:2"
    ∷ completed 0 "H:gmd:1" "x" ∷ [])

-- the clock never goes back
abbrev pub TimeStands : Type 0
TimeStands =
    Plays defaults (
    connect ∷ connect ∷ Tick 10 ∷ Tick 4 ∷ can_do_timeout 1 "f" "5" ∷ submit_job 0 "f" "a" "1" ∷ grab_job 1 ∷ Tick 9 ∷ Tick 14
    ∷ says 1 "version" ∷ Tick 15 ∷ []) (
    created 0 "H:gmd:1" ∷ assigned 1 "H:gmd:1" "f" "1" ∷ line 1 "OK 1.0.0" ∷ failed 0 "H:gmd:1" ∷ [])

-- the clock begins at 0; a deadline is below 2^64, and the tick that reaches it fails the job
abbrev pub EdgesOfTime : Type 0
EdgesOfTime =
    Plays defaults (
    connect ∷ connect ∷ can_do_timeout 1 "f" "5" ∷ submit_job 0 "f" "a" "1" ∷ grab_job 1 ∷ Tick 4 ∷ says 1 "version" ∷ Tick 5
    ∷ submit_job 0 "f" "b" "2" ∷ Tick 18446744073709551615 ∷ grab_job 1 ∷ says 1 "version" ∷ Tick 0 ∷ []) (
    created 0 "H:gmd:1" ∷ assigned 1 "H:gmd:1" "f" "1" ∷ line 1 "OK 1.0.0" ∷ failed 0 "H:gmd:1" ∷ created 0 "H:gmd:2"
    ∷ assigned 1 "H:gmd:2" "f" "2" ∷ line 1 "OK 1.0.0" ∷ failed 0 "H:gmd:2" ∷ [])

-- A tick fails every job whose deadline is reached, in number order, and each listener gets WORK_FAIL
abbrev pub ExpiredTogether : Type 0
ExpiredTogether =
    Plays defaults (
    connect ∷ connect ∷ connect ∷ can_do_timeout 1 "f" "5" ∷ submit_job 0 "f" "a" "1" ∷ submit_job_high 2 "f" "b" "2"
    ∷ submit_job 2 "f" "a" "3" ∷ submit_job 0 "f" "c" "4" ∷ grab_job 1 ∷ grab_job 1 ∷ Tick 5 ∷ get_status 0 "H:gmd:1"
    ∷ get_status 0 "H:gmd:2" ∷ get_status 0 "H:gmd:3" ∷ grab_job 1 ∷ []) (
    created 0 "H:gmd:1" ∷ created 2 "H:gmd:2" ∷ created 2 "H:gmd:1" ∷ created 0 "H:gmd:3" ∷ assigned 1 "H:gmd:2" "f" "2"
    ∷ assigned 1 "H:gmd:1" "f" "1" ∷ failed 0 "H:gmd:1" ∷ failed 2 "H:gmd:1" ∷ failed 2 "H:gmd:2"
    ∷ status 0 "H:gmd:1" false false "0" "0" ∷ status 0 "H:gmd:2" false false "0" "0" ∷ status 0 "H:gmd:3" true false "0" "0"
    ∷ assigned 1 "H:gmd:3" "f" "4" ∷ [])

-- a job that waits again has no deadline, and its next worker doesn't inherit one
abbrev pub DeadlineForgotten : Type 0
DeadlineForgotten =
    Plays defaults (
    connect ∷ connect ∷ connect ∷ can_do_timeout 1 "f" "5" ∷ submit_job 0 "f" "a" "1" ∷ grab_job 1 ∷ Close 1 ∷ Tick 100
    ∷ can_do 2 "f" ∷ grab_job 2 ∷ Tick 200 ∷ get_status 0 "H:gmd:1" ∷ []) (
    created 0 "H:gmd:1" ∷ assigned 1 "H:gmd:1" "f" "1" ∷ assigned 2 "H:gmd:1" "f" "1" ∷ status 0 "H:gmd:1" true true "0" "0" ∷ [])
