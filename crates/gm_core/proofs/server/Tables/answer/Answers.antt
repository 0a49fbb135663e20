use Rattle.std.proofs.Common.{List, ℕ, ap}
use Rattle.gm_packet.specs.Answers.{answer_of}
use Rattle.gm_notes.specs.Past.{give, with_output}
use Rattle.gm_core.proofs.CoreLemmas.{goes_as, goes_queued}
use Rattle.gm_core.proofs.server.Tables.answer.Goals as goal

pub returns-clause-does : goal.returns-clause-does
returns-clause-does c =
    goes_as (give c.args.slot (answer_of c.args.response.now))
    (goes_queued c.args.self.now c.prepare.new.conns c.put.new.conns c.put.new.self c.args.slot c.prepare.new.text.cost c.prepare.new.text.cost c.prepare.new.text.bytes c.in_ok-prepare.ensures.conns c.put.ensures.conns)
    (λ p keeps. ap (λ (t : List ℕ). with_output c.args.slot t p) c.in_ok-prepare.ensures.text)
