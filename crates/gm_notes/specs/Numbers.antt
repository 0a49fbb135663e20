-- The numbers of refusals.
use Rattle.std.specs.Prelude.{ℕ}
use Rattle.gm_notes.specs.declared.event.UnitFault.{UnitFault}
use Rattle.gm_notes.specs.declared.event.UnitFault.TheVariants as faults
use Rattle.gm_notes.specs.declared.event.ApplyError.{ApplyError}
use Rattle.gm_notes.specs.declared.event.ApplyError.TheVariants as errors

abbrev pub unit_fault_number : UnitFault → ℕ
unit_fault_number faults.BadMagic = 3
unit_fault_number faults.PacketTooLarge = 4
unit_fault_number faults.LineTooLong = 5

abbrev pub apply_error_number : ApplyError → ℕ
apply_error_number errors.Memory = 6
apply_error_number errors.NotOpen = 10
apply_error_number errors.NoSlot = 11
apply_error_number errors.NotOwed = 12
apply_error_number errors.Refusing = 13
