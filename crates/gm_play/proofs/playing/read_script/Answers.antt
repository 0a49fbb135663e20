use Rattle.std.proofs.Common.{ap, arith}
use Rattle.gm_play.proofs.Scripts.{all_read, read_from}
use Rattle.gm_play.proofs.playing.read_script.Goals as goal

pub returns-clause-all : goal.returns-clause-all
returns-clause-all g c =
    all_read 16777217 (g.R.Read.remaining c.args.reader.now) c.read_to_end.new.buf.items
    (read_from c.take-bounded.result.limit 16777217 (g.R.Read.remaining c.take-bounded.result.inner.now) (g.R.Read.remaining c.args.reader.now) c.new-script.result.items c.read_to_end.new.buf.items c.take-bounded.ensures.limit (ap (λ (r : _). g.R.Read.remaining r.now) c.take-bounded.ensures.inner) c.new-script.ensures.items c.in-Ok.ensures.bytes)
    (omega (arith, c.read_to_end.new.buf.ok.0))
