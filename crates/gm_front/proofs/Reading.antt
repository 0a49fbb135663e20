-- How packets are read.
use Rattle.std.proofs.Common.{◌≡◌, ℕ, ◌+◌, ◌*◌, ◌<◌, ◌≤◌, ◌/◌, arith, Bool, true, false, List, refl, ap}
use Rattle.std.specs.Prelude.{max}
use Rattle.gm_feeder.specs.Units.{Item, APacket, ALine}
use Rattle.gm_notes.specs.Settings.{Settings}
use Rattle.gm_notes.specs.Steps.{Step, Packet}
use Rattle.gm_front.specs.Readings.{packet_read, step_read, seconds_meant}
use Rattle.gm_front.specs.Units.{step_said, step_of_unit}

-- the step of a packet that is read so
abbrev read_so : ℕ → ℕ → List ℕ → Bool → Step
read_so c kind bytes as_gearmand = Packet c (packet_read as_gearmand kind bytes).0 (packet_read as_gearmand kind bytes).1

-- what a unit says is read as its step
pub unit_read : (k : Settings) (c : ℕ) (item : Item) → step_read k.as_gearmand (step_said c item) ≡ step_of_unit k c item
unit_read k c (APacket kind bytes) = refl
unit_read k c (ALine bytes) = refl

pub as_it_came : (k : Settings) (c : ℕ) (item : Item) → k.as_gearmand ≡ false → step_of_unit k c item ≡ step_said c item
as_it_came k c (APacket kind bytes) is = ap (read_so c kind bytes) is
as_it_came k c (ALine bytes) is = refl

pub alike : (k : Settings) (c : ℕ) (bytes : List ℕ) → k.as_gearmand ≡ true → step_of_unit k c (APacket 39 bytes) ≡ step_of_unit k c (APacket 30 bytes)
alike k c bytes is = rw is refl

pub not_early : (milliseconds : ℕ) → max milliseconds 1000 + 1000 ≤ 1000 * seconds_meant milliseconds
not_early milliseconds = omega arith

pub not_late : (milliseconds : ℕ) → 1000 * seconds_meant milliseconds < max milliseconds 1000 + 2000
not_late milliseconds = omega arith
