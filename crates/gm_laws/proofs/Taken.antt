-- What a slot that takes units asks or commands is done.
use Rattle.std.proofs.Common.{◌≡◌, ℕ, true, false, List, Ok, sym, ap, subst, ◌∙◌}
use Rattle.gm_packet.specs.Kinds.{kind_of}
use Rattle.gm_packet.specs.Requests.{Asked}
use Rattle.gm_admin.specs.Commands.{Commanded, command_of}
use Rattle.gm_notes.specs.Settings.{Settings}
use Rattle.gm_notes.specs.Notes.{takes_units}
use Rattle.gm_notes.specs.Past.{Past}
use Rattle.gm_notes.specs.Requests.{request, packet_of}
use Rattle.gm_notes.specs.Lines.{command}
use Rattle.gm_notes.specs.Steps.{Step, Packet, Line, unless, unless_not_open, step}
use Rattle.gm_history.specs.Causes.{PacketAsks, Commands}
use Rattle.gm_history.proofs.Asking.{packet_does}
use Rattle.gm_laws.proofs.StepLaws.{taken_is}

pub request_does : (k : Settings) (s : Step) (start : Past) (c : ℕ) (asked : Asked) → takes_units c start.notes ≡ true → PacketAsks c s asked
    → step k s start ≡ request k c asked.kind asked.arguments asked.timeout start
request_does k (Packet d number bytes) start c asked takes a =
    ap (λ x. step k (Packet x number bytes) start) (sym a.0)
    ∙ (taken_is (takes_units c start.notes) (packet_of k c (kind_of number) bytes start) start takes ∙ packet_does bytes asked k c start (kind_of number) a.1)
request_does k other start c asked takes a = absurd a

-- a slot that takes none asks for nothing
pub request_shut : (k : Settings) (s : Step) (start : Past) (c : ℕ) (asked : Asked) → takes_units c start.notes ≡ false → PacketAsks c s asked → step k s start ≡ start
request_shut k (Packet d number bytes) start c asked shut a =
    ap (λ x. step k (Packet x number bytes) start) (sym a.0) ∙ ap (λ t. unless (unless_not_open t) (packet_of k c (kind_of number) bytes start) start) shut
request_shut k other start c asked shut a = absurd a

pub line_does : (k : Settings) (s : Step) (start : Past) (c : ℕ) (line : List ℕ) (asked : Commanded) → s ≡ Line c line → Commands s asked → takes_units c start.notes ≡ true
    → step k s start ≡ command k c (Ok asked) start
line_does k s start c line asked is asks takes =
    let reads : command_of line ≡ Ok asked = subst (λ x. Commands x asked) is asks in
    ap (λ x. step k x start) is
    ∙ (taken_is (takes_units c start.notes) (command k c (command_of line) start) start takes ∙ ap (λ r. command k c r start) reads)
