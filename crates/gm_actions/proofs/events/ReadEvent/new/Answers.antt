use Rattle.std.proofs.Common.{◌≡◌, ℕ, Result, refl, sym, subst}
use Rattle.gm_bytes.specs.declared.data.Data.{Data}
use Rattle.gm_notes.specs.declared.event.Event.{Event}
use Rattle.gm_notes.specs.declared.event.Event.TheVariants as events
use Rattle.gm_actions.specs.declared.actions.Action.{Action}
use Rattle.gm_actions.specs.declared.refusal.Refusal.{Refusal}
use Rattle.gm_actions.specs.ReadEvents.{ReadsEvent}
use Rattle.gm_actions.proofs.events.ReadEvent.new.Goals as goal
use Rattle.gm_actions.proofs.events.ReadEvent.new.Goals.{in-Packet, in_default}

-- of an event without a packet nothing is known
reads_other : (e : Event) (action : Result Action Refusal) → ((slot kind : ℕ) (bytes : Data) → e ≡ events.Packet slot kind bytes → ⊥) → ReadsEvent e action
reads_other (events.Packet slot kind bytes) action other = absurd (other slot kind bytes refl)
reads_other (events.Open addr) action other = tt
reads_other (events.Line slot bytes) action other = tt
reads_other (events.Fault slot fault) action other = tt
reads_other (events.Close slot) action other = tt
reads_other (events.Tick now) action other = tt

pub returns-clause-reads : goal.returns-clause-reads
returns-clause-reads c = elim c.match-event.branch [
  | in-Packet w ↦
      let read = w.read-action.ensures in
      subst (ReadsEvent c.args.event) (sym w.action-is)
      (subst (λ (e : Event). ReadsEvent e w.read-action.result) (sym w.in-Packet.is)
      (record { does = read.does; named = read.named; told = read.told; memory = read.memory; grab = read.grab }))
  | in_default w ↦ reads_other c.args.event c.match-event.action w.in_default.not-Packet
]
