-- The meaning of a `Config`.
use Rattle.std.specs.Prelude.{◌≡◌, None}
use Rattle.gm_notes.specs.declared.config.Config.TheInside.{Inside}
use Rattle.gm_notes.specs.Settings.{Settings, config_fault}

abbrev pub settings_of : Inside → Settings
settings_of c =
    record {
      name = c.name;
      first_job = c.first_job;
      slots = c.slots;
      max_functions = c.max_functions;
      round_robin = c.round_robin;
      retries = c.retries;
      as_gearmand = c.as_gearmand;
    }

-- nothing is wrong with it
abbrev pub IsValid : Inside → Type 0
IsValid c = config_fault (settings_of c) ≡ None
