use Rattle.gm_packet.proofs.Outcomes.{found_asks, unknown_exactly, bad_exactly}
use Rattle.gm_packet.proofs.request.Request.read.Goals as goal

pub returns-clause-found : goal.returns-clause-found
returns-clause-found c = found_asks c.args.kind c.args.bytes.now c.read_exactly.result c.read_exactly.ensures

pub returns-clause-unknown : goal.returns-clause-unknown
returns-clause-unknown c = unknown_exactly c.args.kind c.args.bytes.now c.read_exactly.result c.read_exactly.ensures

pub returns-clause-bad : goal.returns-clause-bad
returns-clause-bad c = bad_exactly c.args.kind c.args.bytes.now c.read_exactly.result c.read_exactly.ensures
