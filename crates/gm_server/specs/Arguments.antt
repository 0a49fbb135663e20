-- The values of arguments.
use Rattle.gm_notes.specs.Settings.{Settings}
use Rattle.gm_options.specs.declared.gmd.Args.{Args}

-- the book's settings
abbrev pub asked_settings : Args → Settings
asked_settings args = record {
  name = args.name.now;
  first_job = 1;
  slots = args.server.slots;
  max_functions = 65536;
  round_robin = args.server.round_robin;
  retries = args.server.job_retries;
  as_gearmand = args.server.as_gearmand;
}
