-- The options of `gmd`: what clap gets to know of them, and what is read of the words of a call. The first word is
-- the program's name.
use Rattle.std.specs.Prelude.{◌≡◌, ◌||◌, ℕ, min, true, List, Some, codes, pos, unwrap_or}
use Rattle.clap.specs.Words.{App, Row, Text, fault_of, first_of, matches_of, new_app, one_of, with_rule, Kinds}
use Rattle.gm_options.specs.Options.{number_rule, text_rule, flag_rule, with_server_rules, ReadsNumber, is_given}
use Rattle.gm_options.specs.declared.gmd.Args.{Args}

-- ---- options

abbrev pub with_address_rules : App → App
with_address_rules app = with_rule (with_rule app (record (number_rule (codes "port") (pos 1) (pos 65535) (codes "4730")) { short = Some 112 }))
    (record (text_rule (codes "listen") (codes "0.0.0.0")) { short = Some 76 })

abbrev pub with_name_rule : App → App
with_name_rule app = with_rule app (text_rule (codes "name") (codes "gmd"))

abbrev pub with_timeout_rule : App → App
with_timeout_rule app = with_rule app (number_rule (codes "peer-timeout") (pos 0) (pos 32767) (codes "120"))

abbrev pub with_threads_rule : App → App
with_threads_rule app = with_rule app (number_rule (codes "io-threads") (pos 0) (pos 64) (codes "0"))

abbrev pub with_flag_rules : App → App
with_flag_rules app = with_rule (with_rule app (flag_rule (codes "tape"))) (flag_rule (codes "check"))

-- a command that has a version
abbrev pub with_version : App → App
with_version app = record app { top = record app.top { has_version = true } }

-- all of them
abbrev pub gmd_app : App
gmd_app = with_flag_rules (with_threads_rule (with_timeout_rule (with_server_rules (with_name_rule (with_address_rules (with_version (new_app (codes "gmd"))))))))

-- ---- words

-- the kind of the error that these words get; empty if they are valid
abbrev pub fault_in : List Text → Kinds
fault_in words = fault_of gmd_app words

-- clap's matches for the options in these words
abbrev pub found_in : List Text → List Row
found_in words = matches_of gmd_app words

-- These words ask for this. An option that isn't given has its default.
pub record Reads (words : List Text) (args : Args) : Type 0 where
  pub port : ReadsNumber 16 (one_of (codes "port") (found_in words)) 4730 args.port
  pub listen : args.listen.now ≡ unwrap_or (first_of (codes "listen") (found_in words)) (codes "0.0.0.0")
  pub has_address : args.has_address ≡ (is_given (codes "port") (found_in words) || is_given (codes "listen") (found_in words))
  pub name : args.name.now ≡ unwrap_or (first_of (codes "name") (found_in words)) (codes "gmd")
  pub slots : ReadsNumber 32 (one_of (codes "slots") (found_in words)) 64 args.server.slots
  pub max_data : (max : ℕ) × ReadsNumber 32 (one_of (codes "max-data") (found_in words)) 67108864 max × (args.server.limits.max_bytes ≡ min max 1073741824)
  pub max_line : args.server.limits.max_line ≡ 1024
  pub round_robin : args.server.round_robin ≡ is_given (codes "round-robin") (found_in words)
  pub job_retries : ReadsNumber 32 (one_of (codes "job-retries") (found_in words)) 0 args.server.job_retries
  pub as_gearmand : args.server.as_gearmand ≡ is_given (codes "as-gearmand") (found_in words)
  pub peer_timeout : ReadsNumber 16 (one_of (codes "peer-timeout") (found_in words)) 120 args.peer_timeout
  pub has_peer_timeout : args.has_peer_timeout ≡ is_given (codes "peer-timeout") (found_in words)
  pub io_threads : ReadsNumber 16 (one_of (codes "io-threads") (found_in words)) 0 args.io_threads
  pub has_io_threads : args.has_io_threads ≡ is_given (codes "io-threads") (found_in words)
  pub check : args.check ≡ is_given (codes "check") (found_in words)
  pub tape : args.tape ≡ is_given (codes "tape") (found_in words)

-- both ask for the same
pub record AreSame (args others : Args) : Type 0 where
  pub port : args.port ≡ others.port
  pub listen : args.listen.now ≡ others.listen.now
  pub has_address : args.has_address ≡ others.has_address
  pub name : args.name.now ≡ others.name.now
  pub slots : args.server.slots ≡ others.server.slots
  pub max_data : args.server.limits.max_bytes ≡ others.server.limits.max_bytes
  pub max_line : args.server.limits.max_line ≡ others.server.limits.max_line
  pub round_robin : args.server.round_robin ≡ others.server.round_robin
  pub job_retries : args.server.job_retries ≡ others.server.job_retries
  pub as_gearmand : args.server.as_gearmand ≡ others.server.as_gearmand
  pub peer_timeout : args.peer_timeout ≡ others.peer_timeout
  pub has_peer_timeout : args.has_peer_timeout ≡ others.has_peer_timeout
  pub io_threads : args.io_threads ≡ others.io_threads
  pub has_io_threads : args.has_io_threads ≡ others.has_io_threads
  pub check : args.check ≡ others.check
  pub tape : args.tape ≡ others.tape

-- two readings of the same words ask for the same
abbrev pub WordsAreReadAlike : Type 0
WordsAreReadAlike = (words : List Text) (args others : Args) → Reads words args → Reads words others → AreSame args others
