use Rattle.std.proofs.Common.{◌≡◌, true, sym, subst}
use Rattle.gm_notes.specs.Servers.{step_of}
use Rattle.gm_session.specs.Owners.{is_said_by}
use Rattle.gm_session.proofs.Owning.{own_event}
use Rattle.gm_session.proofs.own_desk.OwnDesk.apply.Goals as goal

pub invariant_of-self : goal.invariant_of-self
invariant_of-self g c =
    let own = subst (λ event. is_said_by c.args.self.now.desk.number (step_of event) ≡ true) (sym c.new.ensures.event) c.requires.own in
    record { own = own_event _ _ _ _ _ _ c.hand_in.ensures.number own c.hand_in.ensures.hands c.args.self.now.own }
