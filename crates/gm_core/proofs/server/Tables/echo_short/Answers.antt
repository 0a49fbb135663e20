use Rattle.std.proofs.Common.{◌+◌, ◌++◌, ℕ, List, length, ap, ◌∙◌}
use Rattle.gm_packet.specs.Answers.{echo_res}
use Rattle.gm_notes.specs.Past.{give, with_output}
use Rattle.gm_core.proofs.ConnLemmas.{queued_both}
use Rattle.gm_core.proofs.CoreLemmas.{goes_as, goes_queued}
use Rattle.gm_core.proofs.WritingLemmas.{echoed}
use Rattle.gm_core.proofs.server.Tables.echo_short.Goals as goal

pub returns : goal.returns
returns c =
    let core = c.args.self.now in
    let slot = c.args.slot in
    let bytes = c.args.bytes.now in
    let header = c.echo_header-header.result in
    goes_as (give slot (echo_res bytes))
    (goes_queued core c.reserve_out.new.self c.put_out-2.new.self core.text slot (12 + length bytes) (length header + length bytes) (header ++ bytes) c.in_ok-reserve_out.ensures.ok
    (queued_both slot header bytes (length header) (length bytes) c.put_out.ensures c.put_out-2.ensures))
    (λ p keeps. ap (λ (t : List ℕ). with_output slot t p) (ap (λ (h : List ℕ). h ++ bytes) c.echo_header-header.ensures ∙ echoed bytes))
