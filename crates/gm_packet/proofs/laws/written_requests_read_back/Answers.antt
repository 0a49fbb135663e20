use Rattle.gm_packet.proofs.ReadBack.{written_requests_read_back}
use Rattle.gm_packet.proofs.laws.written_requests_read_back.Goals as goal

pub returns : goal.returns
returns c = written_requests_read_back
