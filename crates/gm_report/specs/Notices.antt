-- When a trouble is said: once, and again only after it was well in between.
use Rattle.std.specs.Prelude.{ℕ, Bool, true, false, ◌==◌, Option}
use Rattle.std.specs.declared.net.SocketAddr.{SocketAddr}
use Rattle.gm_report.specs.declared.notices.Notice.{Notice}
use Rattle.gm_report.specs.declared.notices.Notice.TheVariants.{Well, Due, Said}

abbrev pub is_well : Notice → Bool
is_well Well = true
is_well Due = false
is_well Said = false

-- it is met
abbrev pub met : Notice → Notice
met Well = Due
met Due = Due
met Said = Said

-- it is over
abbrev pub cleared : Notice → Notice
cleared Well = Well
cleared Due = Due
cleared Said = Well

-- a notice that is due is written
abbrev pub spoken : Notice → Notice
spoken Well = Well
spoken Due = Said
spoken Said = Said

-- a type of packet, with the peer that sent the first
abbrev pub is_of_type : ℕ → ℕ × Option SocketAddr → Bool
is_of_type kind one = one.0 == kind
