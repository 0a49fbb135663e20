use Rattle.std.proofs.Common.{◌≡◌, ℕ, Option, None, sym, subst}
use Rattle.gm_notes.specs.Jobs.{made, job_of_handle}
use Rattle.gm_notes.specs.Steps.{made_since}
use Rattle.gm_notes.specs.Workers.{work}
use Rattle.gm_actions.specs.declared.actions.Action.{Action}
use Rattle.gm_actions.specs.Actions.{act, work_of}
use Rattle.gm_core.proofs.PacketLemmas.{none_by, work_on_made}
use Rattle.gm_core.proofs.server.Tables.act.Goals as goal

pub returns-in_ok-work-in-Work-clause-made : goal.returns-in_ok-work-in-Work-clause-made
returns-in_ok-work-in-Work-clause-made c past keeps =
    let k = c.args.self.now.config in
    let slot = c.args.slot in
    let packet = c.in-Work.packet in
    let none : Option ℕ = None in
    subst (λ (action : Action). none ≡ made_since (made past.notes) (made (act k slot action past).notes)) (sym c.in-Work.is)
    (none_by past (work k slot packet.handle.now (work_of k packet) past) (work_on_made k slot (work_of k packet) (job_of_handle k packet.handle.now past.notes) past))
