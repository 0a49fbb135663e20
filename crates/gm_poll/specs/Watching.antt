-- The events that a connection is watched for.
use Rattle.std.specs.Prelude.{true}
use Rattle.mio.specs.declared.interest.Interest.{Interest}

-- that bytes come, that it takes bytes again, and urgent data
abbrev pub watched : Interest
watched = record { readable = true; writable = true; priority = true }
