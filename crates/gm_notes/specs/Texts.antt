-- The words that refusals print.
use Rattle.std.specs.Prelude.{ℕ, ◌==◌, if◌then◌else◌, List, map, codes}
use Rattle.gm_packet.specs.Answers.{Answer, answer_packet, error}
use Rattle.gm_admin.specs.Answers.{error_text}
use Rattle.gm_admin.specs.declared.fault.AdminError.TheVariants as lines
use Rattle.gm_notes.specs.declared.event.UnitFault.{UnitFault}
use Rattle.gm_notes.specs.declared.event.UnitFault.TheVariants.{BadMagic, PacketTooLarge, LineTooLong}

-- a code with a space (32) for each underscore (95)
abbrev pub spaced : List ℕ → List ℕ
spaced code = map (λ b. if b == 95 then 32 else b) code

-- the ERROR packet with this code
abbrev pub error_of : List ℕ → Answer
error_of code = error code (spaced code)

-- the text of a fault
abbrev pub fault_text : UnitFault → List ℕ
fault_text BadMagic = answer_packet (error_of (codes "bad_magic"))
fault_text PacketTooLarge = answer_packet (error_of (codes "packet_too_large"))
fault_text LineTooLong = error_text lines.LineTooLong
