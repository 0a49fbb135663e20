-- Worked rows of jobs: what the definitions give for whole runs. Each is a statement, which a function of the same name
-- in src/job_rows.rt proves.
use Rattle.std.specs.Prelude.{true, false, [], ◌∷◌, ◌++◌, replicate, codes}
use Rattle.gm_notes.specs.Steps.{Close}
use Rattle.gm_packet.specs.Answers.{job_assign_uniq}
use Rattle.gm_notes.specs.declared.states.Place.TheVariants as places
use Rattle.gm_laws.specs.RowWords.{settings, defaults, for_gearmand, from_the_last, one_function, four_slots, connect, says, sends, can_do}
use Rattle.gm_laws.specs.RowWords.{cant_do, pre_sleep, submit_job, grab_job, work_status, work_complete, work_fail, get_status}
use Rattle.gm_laws.specs.RowWords.{submit_job_bg, submit_job_high, can_do_timeout, all_yours, work_exception, option_req}
use Rattle.gm_laws.specs.RowWords.{work_data, work_warning, grab_job_uniq, submit_job_high_bg, submit_job_low}
use Rattle.gm_laws.specs.RowWords.{submit_job_low_bg, to, line, counts, created, no_job, assigned, assigned_uniq, status_was}
use Rattle.gm_laws.specs.RowWords.{completed, failed, raised, data_was, warned, status, option_set, error, Plays, Owes, JobIsAt}

-- high priority goes before normal, and normal before low
abbrev pub Priorities : Type 0
Priorities =
    Plays defaults (
    connect ∷ connect ∷ submit_job_low 0 "f" "a" "l" ∷ submit_job 0 "f" "b" "n" ∷ submit_job_high 0 "f" "c" "h"
    ∷ can_do 1 "f" ∷ grab_job 1 ∷ grab_job 1 ∷ grab_job 1 ∷ grab_job 1 ∷ []) (
    created 0 "H:gmd:1" ∷ created 0 "H:gmd:2" ∷ created 0 "H:gmd:3" ∷ assigned 1 "H:gmd:3" "f" "h"
    ∷ assigned 1 "H:gmd:2" "f" "n" ∷ assigned 1 "H:gmd:1" "f" "l" ∷ no_job 1 ∷ [])

-- in the background too, high goes before normal before low
abbrev pub SixPriorities : Type 0
SixPriorities =
    Plays defaults (
    connect ∷ connect ∷ submit_job_low_bg 0 "f" "1" "lb" ∷ submit_job_bg 0 "f" "2" "nb" ∷ submit_job_high_bg 0 "f" "3" "hb"
    ∷ submit_job_low 0 "f" "4" "l" ∷ submit_job 0 "f" "5" "n" ∷ submit_job_high 0 "f" "6" "h" ∷ can_do 1 "f" ∷ grab_job 1
    ∷ grab_job 1 ∷ grab_job 1 ∷ grab_job 1 ∷ grab_job 1 ∷ grab_job 1 ∷ grab_job 1 ∷ []) (
    created 0 "H:gmd:1" ∷ created 0 "H:gmd:2" ∷ created 0 "H:gmd:3" ∷ created 0 "H:gmd:4" ∷ created 0 "H:gmd:5"
    ∷ created 0 "H:gmd:6" ∷ assigned 1 "H:gmd:3" "f" "hb" ∷ assigned 1 "H:gmd:6" "f" "h" ∷ assigned 1 "H:gmd:2" "f" "nb"
    ∷ assigned 1 "H:gmd:5" "f" "n" ∷ assigned 1 "H:gmd:1" "f" "lb" ∷ assigned 1 "H:gmd:4" "f" "l" ∷ no_job 1 ∷ [])

-- only background jobs stay when their client disconnects, at each priority
abbrev pub SixKeepings : Type 0
SixKeepings =
    Plays defaults (
    connect ∷ connect ∷ submit_job_low_bg 0 "f" "1" "lb" ∷ submit_job_bg 0 "f" "2" "nb" ∷ submit_job_high_bg 0 "f" "3" "hb"
    ∷ submit_job_low 0 "f" "4" "l" ∷ submit_job 0 "f" "5" "n" ∷ submit_job_high 0 "f" "6" "h" ∷ Close 0 ∷ can_do 1 "f"
    ∷ grab_job 1 ∷ grab_job 1 ∷ grab_job 1 ∷ grab_job 1 ∷ []) (
    created 0 "H:gmd:1" ∷ created 0 "H:gmd:2" ∷ created 0 "H:gmd:3" ∷ created 0 "H:gmd:4" ∷ created 0 "H:gmd:5"
    ∷ created 0 "H:gmd:6" ∷ assigned 1 "H:gmd:3" "f" "hb" ∷ assigned 1 "H:gmd:2" "f" "nb" ∷ assigned 1 "H:gmd:1" "f" "lb"
    ∷ no_job 1 ∷ [])

-- at each priority a foreground client gets the outcome, a background client doesn't
abbrev pub SixHearings : Type 0
SixHearings =
    Plays defaults (
    connect ∷ connect ∷ submit_job_low_bg 0 "f" "1" "" ∷ submit_job_bg 0 "f" "2" "" ∷ submit_job_high_bg 0 "f" "3" ""
    ∷ submit_job_low 0 "f" "4" "" ∷ submit_job 0 "f" "5" "" ∷ submit_job_high 0 "f" "6" "" ∷ can_do 1 "f" ∷ grab_job 1
    ∷ grab_job 1 ∷ grab_job 1 ∷ grab_job 1 ∷ grab_job 1 ∷ grab_job 1 ∷ work_fail 1 "H:gmd:1" ∷ work_fail 1 "H:gmd:2"
    ∷ work_fail 1 "H:gmd:3" ∷ work_fail 1 "H:gmd:4" ∷ work_fail 1 "H:gmd:5" ∷ work_fail 1 "H:gmd:6" ∷ []) (
    created 0 "H:gmd:1" ∷ created 0 "H:gmd:2" ∷ created 0 "H:gmd:3" ∷ created 0 "H:gmd:4" ∷ created 0 "H:gmd:5"
    ∷ created 0 "H:gmd:6" ∷ assigned 1 "H:gmd:3" "f" "" ∷ assigned 1 "H:gmd:6" "f" "" ∷ assigned 1 "H:gmd:2" "f" ""
    ∷ assigned 1 "H:gmd:5" "f" "" ∷ assigned 1 "H:gmd:1" "f" "" ∷ assigned 1 "H:gmd:4" "f" "" ∷ failed 0 "H:gmd:4"
    ∷ failed 0 "H:gmd:5" ∷ failed 0 "H:gmd:6" ∷ [])

-- A client that submits a job twice gets its answers twice
abbrev pub JoinedListeners : Type 0
JoinedListeners =
    Plays defaults (
    connect ∷ connect ∷ submit_job 0 "f" "x" "a" ∷ submit_job 0 "f" "x" "b" ∷ can_do 1 "f" ∷ grab_job 1
    ∷ work_complete 1 "H:gmd:1" "ok" ∷ []) (
    created 0 "H:gmd:1" ∷ created 0 "H:gmd:1" ∷ assigned 1 "H:gmd:1" "f" "a" ∷ completed 0 "H:gmd:1" "ok"
    ∷ completed 0 "H:gmd:1" "ok" ∷ [])

-- joining keeps the job as made; only a foreground submission adds a listener
abbrev pub JoinedJob : Type 0
JoinedJob =
    Plays defaults (
    connect ∷ connect ∷ submit_job_low 0 "f" "a" "1" ∷ submit_job_high 0 "f" "a" "2" ∷ submit_job 0 "f" "b" "3"
    ∷ submit_job_bg 1 "f" "b" "4" ∷ can_do 1 "f" ∷ grab_job 1 ∷ grab_job_uniq 1 ∷ work_complete 1 "H:gmd:2" "x" ∷ []) (
    created 0 "H:gmd:1" ∷ created 0 "H:gmd:1" ∷ created 0 "H:gmd:2" ∷ created 1 "H:gmd:2" ∷ assigned 1 "H:gmd:2" "f" "3"
    ∷ assigned_uniq 1 "H:gmd:1" "f" "a" "1" ∷ completed 0 "H:gmd:2" "x" ∷ [])

-- the id `-`, an empty id, and another function join nothing
abbrev pub JoiningKeys : Type 0
JoiningKeys =
    Plays defaults (
    connect ∷ submit_job 0 "f" "-" "a" ∷ submit_job 0 "f" "-" "b" ∷ submit_job 0 "f" "" "c" ∷ submit_job 0 "f" "x" "d"
    ∷ submit_job 0 "g" "x" "e" ∷ []) (
    created 0 "H:gmd:1" ∷ created 0 "H:gmd:2" ∷ created 0 "H:gmd:3" ∷ created 0 "H:gmd:4" ∷ created 0 "H:gmd:5" ∷ [])

-- a running job can be joined, which wakes no worker
abbrev pub JoinsRunning : Type 0
JoinsRunning =
    let steps =
    connect ∷ connect ∷ connect ∷ connect ∷ submit_job 0 "f" "a" "1" ∷ can_do 1 "f" ∷ grab_job 1 ∷ can_do 2 "f" ∷ pre_sleep 2
    ∷ submit_job 3 "f" "a" "2" ∷ work_complete 1 "H:gmd:1" "x" ∷ [] in
    Plays four_slots steps (
    created 0 "H:gmd:1" ∷ assigned 1 "H:gmd:1" "f" "1" ∷ created 3 "H:gmd:1" ∷ completed 0 "H:gmd:1" "x"
    ∷ completed 3 "H:gmd:1" "x" ∷ [])
    × Owes four_slots steps []

-- WORK_COMPLETE and WORK_FAIL end a job once; then it is unknown, and can't be joined
abbrev pub EndedJobs : Type 0
EndedJobs =
    Plays defaults (
    connect ∷ connect ∷ submit_job 0 "f" "a" "1" ∷ submit_job 0 "f" "b" "2" ∷ can_do 1 "f" ∷ grab_job 1 ∷ grab_job 1
    ∷ work_complete 1 "H:gmd:1" "x" ∷ work_complete 1 "H:gmd:1" "x" ∷ get_status 0 "H:gmd:1" ∷ work_fail 1 "H:gmd:2"
    ∷ work_fail 1 "H:gmd:2" ∷ get_status 0 "H:gmd:2" ∷ submit_job 0 "f" "a" "3" ∷ get_status 0 "H:gmd:3" ∷ grab_job 1
    ∷ grab_job 1 ∷ []) (
    created 0 "H:gmd:1" ∷ created 0 "H:gmd:2" ∷ assigned 1 "H:gmd:1" "f" "1" ∷ assigned 1 "H:gmd:2" "f" "2"
    ∷ completed 0 "H:gmd:1" "x" ∷ error 1 "job_not_found" "job not found" ∷ status 0 "H:gmd:1" false false "0" "0"
    ∷ failed 0 "H:gmd:2" ∷ error 1 "job_not_found" "job not found" ∷ status 0 "H:gmd:2" false false "0" "0" ∷ created 0 "H:gmd:3"
    ∷ status 0 "H:gmd:3" true false "0" "0" ∷ assigned 1 "H:gmd:3" "f" "3" ∷ no_job 1 ∷ [])

-- reports by another worker, on a waiting job, or with a handle never printed are refused
abbrev pub OnlyItsWorker : Type 0
OnlyItsWorker =
    Plays defaults (
    connect ∷ connect ∷ connect ∷ submit_job 0 "f" "a" "1" ∷ can_do 1 "f" ∷ can_do 2 "f" ∷ work_fail 1 "H:gmd:1" ∷ grab_job 1
    ∷ work_status 2 "H:gmd:1" "1" "2" ∷ work_data 2 "H:gmd:1" "x" ∷ work_warning 2 "H:gmd:1" "x" ∷ work_exception 2 "H:gmd:1" "x"
    ∷ work_complete 2 "H:gmd:1" "x" ∷ work_fail 2 "H:gmd:1" ∷ work_fail 1 "H:gmd:01" ∷ work_fail 1 "H:gmd:2"
    ∷ work_fail 1 "H:gm:1" ∷ get_status 0 "H:gmd:01" ∷ get_status 0 "H:gmd:1" ∷ []) (
    created 0 "H:gmd:1" ∷ error 1 "job_not_found" "job not found" ∷ assigned 1 "H:gmd:1" "f" "1"
    ∷ error 2 "job_not_found" "job not found" ∷ error 2 "job_not_found" "job not found" ∷ error 2 "job_not_found" "job not found"
    ∷ error 2 "job_not_found" "job not found" ∷ error 2 "job_not_found" "job not found" ∷ error 2 "job_not_found" "job not found"
    ∷ error 1 "job_not_found" "job not found" ∷ error 1 "job_not_found" "job not found" ∷ error 1 "job_not_found" "job not found"
    ∷ status 0 "H:gmd:01" false false "0" "0" ∷ status 0 "H:gmd:1" true true "0" "0" ∷ [])

-- A worker's reports go to the listeners, and GET_STATUS has the last numbers
abbrev pub Progress : Type 0
Progress =
    Plays defaults (
    connect ∷ connect ∷ submit_job 0 "f" "a" "1" ∷ can_do 1 "f" ∷ grab_job 1 ∷ work_status 1 "H:gmd:1" "03" "100"
    ∷ get_status 0 "H:gmd:1" ∷ work_data 0 "H:gmd:1" "z" ∷ work_data 1 "H:gmd:1" "z" ∷ work_warning 1 "H:gmd:1" "" ∷ []) (
    created 0 "H:gmd:1" ∷ assigned 1 "H:gmd:1" "f" "1" ∷ status_was 0 "H:gmd:1" "03" "100"
    ∷ status 0 "H:gmd:1" true true "03" "100" ∷ error 0 "job_not_found" "job not found" ∷ data_was 0 "H:gmd:1" "z"
    ∷ warned 0 "H:gmd:1" "" ∷ [])

-- a job's last WORK_STATUS numbers stay while it waits again
abbrev pub ReportKept : Type 0
ReportKept =
    Plays defaults (
    connect ∷ connect ∷ connect ∷ submit_job 0 "f" "a" "1" ∷ can_do 1 "f" ∷ grab_job 1 ∷ work_status 1 "H:gmd:1" "1" "2"
    ∷ Close 1 ∷ get_status 0 "H:gmd:1" ∷ can_do 2 "f" ∷ grab_job 2 ∷ get_status 0 "H:gmd:1" ∷ work_status 2 "H:gmd:1" "3" "4"
    ∷ get_status 0 "H:gmd:1" ∷ submit_job 0 "f" "b" "2" ∷ get_status 0 "H:gmd:2" ∷ []) (
    created 0 "H:gmd:1" ∷ assigned 1 "H:gmd:1" "f" "1" ∷ status_was 0 "H:gmd:1" "1" "2" ∷ status 0 "H:gmd:1" true false "1" "2"
    ∷ assigned 2 "H:gmd:1" "f" "1" ∷ status 0 "H:gmd:1" true true "1" "2" ∷ status_was 0 "H:gmd:1" "3" "4"
    ∷ status 0 "H:gmd:1" true true "3" "4" ∷ created 0 "H:gmd:2" ∷ status 0 "H:gmd:2" true false "0" "0" ∷ [])

-- exceptions go to the listeners with that option, and end no job
abbrev pub ExceptionsOption : Type 0
ExceptionsOption =
    Plays defaults (
    connect ∷ connect ∷ connect ∷ option_req 0 "exceptions" ∷ option_req 0 "foo" ∷ submit_job 0 "f" "x" "1"
    ∷ submit_job 2 "f" "x" "2" ∷ can_do 1 "f" ∷ grab_job 1 ∷ work_exception 1 "H:gmd:1" "boom" ∷ work_fail 1 "H:gmd:1" ∷ []) (
    option_set 0 "exceptions" ∷ error 0 "unknown_option" "unknown option" ∷ created 0 "H:gmd:1"
    ∷ created 2 "H:gmd:1" ∷ assigned 1 "H:gmd:1" "f" "1" ∷ raised 0 "H:gmd:1" "boom" ∷ failed 0 "H:gmd:1"
    ∷ failed 2 "H:gmd:1" ∷ [])

-- with `--as-gearmand` an exception ends its job: the listeners with that option get it, and the others WORK_FAIL
abbrev pub ExceptionEnds : Type 0
ExceptionEnds =
    Plays for_gearmand (
    connect ∷ connect ∷ connect ∷ option_req 0 "exceptions" ∷ submit_job 0 "f" "x" "1" ∷ submit_job 2 "f" "x" "2" ∷ can_do 1 "f"
    ∷ grab_job 1 ∷ work_exception 1 "H:gmd:1" "boom" ∷ work_fail 1 "H:gmd:1" ∷ get_status 0 "H:gmd:1" ∷ []) (
    option_set 0 "exceptions" ∷ created 0 "H:gmd:1" ∷ created 2 "H:gmd:1" ∷ assigned 1 "H:gmd:1" "f" "1"
    ∷ raised 0 "H:gmd:1" "boom" ∷ failed 2 "H:gmd:1" ∷ error 1 "job_not_found" "job not found"
    ∷ status 0 "H:gmd:1" false false "0" "0" ∷ [])

-- A body may hold NUL
abbrev pub DataWithNul : Type 0
DataWithNul =
    Plays defaults (
    connect ∷ connect ∷ sends 0 7 (codes "f" ∷ codes "u" ∷ codes "a" ∷ codes "b" ∷ []) ∷ can_do 1 "f"
    ∷ grab_job_uniq 1 ∷ []) (
    created 0 "H:gmd:1" ∷ to 1 (job_assign_uniq (codes "H:gmd:1") (codes "f") (codes "u") (97 ∷ 0 ∷ 98 ∷ []))
    ∷ [])

-- `maxqueue` refuses new jobs and lets submissions join
abbrev pub QueueLimit : Type 0
QueueLimit =
    Plays defaults (
    connect ∷ says 0 "maxqueue f 1" ∷ submit_job 0 "f" "a" "1" ∷ submit_job 0 "f" "b" "2" ∷ submit_job 0 "f" "a" "3"
    ∷ says 0 "maxqueue f 0" ∷ submit_job 0 "f" "b" "4" ∷ says 0 "status" ∷ []) (
    line 0 "OK" ∷ created 0 "H:gmd:1" ∷ error 0 "queue_full" "queue full" ∷ created 0 "H:gmd:1" ∷ line 0 "OK"
    ∷ created 0 "H:gmd:2" ∷ counts 0 (("f", "2", "0", "0") ∷ []) ∷ [])

-- `maxqueue` counts a function's jobs that wait or run; the last limit holds
abbrev pub LimitCounts : Type 0
LimitCounts =
    Plays defaults (
    connect ∷ connect ∷ says 0 "maxqueue f 2" ∷ says 0 "maxqueue f 1" ∷ submit_job 0 "f" "a" "1" ∷ can_do 1 "f" ∷ grab_job 1
    ∷ submit_job 0 "f" "b" "2" ∷ submit_job 0 "g" "b" "3" ∷ submit_job 0 "g" "c" "3" ∷ work_complete 1 "H:gmd:1" "x" ∷ submit_job 0 "f" "b" "4"
    ∷ says 0 "maxqueue f 2" ∷ submit_job 0 "f" "c" "5" ∷ submit_job 0 "f" "d" "6" ∷ []) (
    line 0 "OK" ∷ line 0 "OK" ∷ created 0 "H:gmd:1" ∷ assigned 1 "H:gmd:1" "f" "1" ∷ error 0 "queue_full" "queue full"
    ∷ created 0 "H:gmd:2" ∷ created 0 "H:gmd:3" ∷ completed 0 "H:gmd:1" "x" ∷ created 0 "H:gmd:4" ∷ line 0 "OK"
    ∷ created 0 "H:gmd:5" ∷ error 0 "queue_full" "queue full" ∷ [])

-- functions over the limit are refused, and bad names before that
abbrev pub FunctionLimit : Type 0
FunctionLimit =
    Plays one_function (
    connect ∷ can_do 0 "f" ∷ can_do 0 "g" ∷ submit_job 0 "g" "a" "1" ∷ says 0 "maxqueue g 1" ∷ sends 0 1 []
    ∷ can_do_timeout 0 "f" "x" ∷ all_yours 0 ∷ []) (
    error 0 "too_many_functions" "too many functions" ∷ error 0 "too_many_functions" "too many functions"
    ∷ line 0 "ERR too_many_functions" ∷ error 0 "bad_function" "bad function" ∷ error 0 "bad_arguments" "bad arguments" ∷ [])

-- after the last job number a submission can only join
abbrev pub LastNumber : Type 0
LastNumber =
    Plays from_the_last (
    connect ∷ submit_job 0 "f" "a" "1" ∷ submit_job 0 "f" "b" "2" ∷ submit_job 0 "f" "a" "3" ∷ []) (
    created 0 "H:gmd:18446744073709551615" ∷ error 0 "no_numbers" "no numbers" ∷ created 0 "H:gmd:18446744073709551615" ∷ [])

-- a submission is refused for its function's name, then the number of functions, the limit, and job numbers
abbrev pub RefusalOrder : Type 0
RefusalOrder =
    Plays (settings 18446744073709551615 4 1) (
    connect ∷ submit_job 0 "f" "a" "1" ∷ says 0 "maxqueue f 1" ∷ submit_job 0 "" "b" "2" ∷ submit_job 0 "g" "b" "2"
    ∷ submit_job 0 "f" "b" "2" ∷ says 0 "maxqueue f 0" ∷ submit_job 0 "f" "b" "2" ∷ submit_job 0 "f" "a" "2" ∷ []) (
    created 0 "H:gmd:18446744073709551615" ∷ line 0 "OK" ∷ error 0 "bad_function" "bad function"
    ∷ error 0 "too_many_functions" "too many functions" ∷ error 0 "queue_full" "queue full" ∷ line 0 "OK"
    ∷ error 0 "no_numbers" "no numbers" ∷ created 0 "H:gmd:18446744073709551615" ∷ [])

-- A function's name has 1 to 512 bytes
abbrev pub FunctionNames : Type 0
FunctionNames =
    Plays defaults (
    connect ∷ sends 0 1 (replicate 513 97 ∷ []) ∷ sends 0 2 (replicate 513 97 ∷ []) ∷ cant_do 0 ""
    ∷ sends 0 23 (replicate 513 97 ∷ codes "5" ∷ []) ∷ sends 0 7 (replicate 513 97 ∷ [] ∷ [] ∷ []) ∷ says 0 "status"
    ∷ sends 0 1 (replicate 512 97 ∷ []) ∷ sends 0 2 (replicate 512 97 ∷ []) ∷ sends 0 7 (replicate 512 97 ∷ [] ∷ [] ∷ []) ∷ []) (
    error 0 "bad_function" "bad function" ∷ error 0 "bad_function" "bad function" ∷ error 0 "bad_function" "bad function"
    ∷ error 0 "bad_function" "bad function" ∷ error 0 "bad_function" "bad function" ∷ line 0 "." ∷ created 0 "H:gmd:1" ∷ [])

-- A handle has the server's name and the job's number
abbrev pub Handles : Type 0
Handles =
    Plays (record (settings 41 4 9) { name = codes "a.b-1" }) (
    connect ∷ submit_job 0 "f" "a" "1" ∷ submit_job 0 "f" "b" "2" ∷ get_status 0 "H:a.b-1:42" ∷ get_status 0 "H:a.b-1:40" ∷ []) (
    created 0 "H:a.b-1:41" ∷ created 0 "H:a.b-1:42" ∷ status 0 "H:a.b-1:42" true false "0" "0"
    ∷ status 0 "H:a.b-1:40" false false "0" "0" ∷ [])

-- where a job is, from its making to its end
abbrev pub Places : Type 0
Places =
    let submitted = connect ∷ connect ∷ connect ∷ submit_job 0 "f" "a" "1" ∷ [] in
    let given = submitted ++ can_do 1 "f" ∷ grab_job 1 ∷ [] in
    let back = given ++ Close 1 ∷ [] in
    let again = back ++ can_do 2 "f" ∷ grab_job 2 ∷ [] in
    JobIsAt four_slots [] 1 places.Unmade
    × JobIsAt four_slots submitted 1 places.Waiting
    × JobIsAt four_slots given 1 (places.Running 1)
    × JobIsAt four_slots back 1 places.Waiting
    × JobIsAt four_slots again 1 (places.Running 2)
    × JobIsAt four_slots (again ++ work_complete 2 "H:gmd:1" "x" ∷ []) 1 places.Gone
    × JobIsAt four_slots (submitted ++ Close 0 ∷ []) 1 places.Gone
