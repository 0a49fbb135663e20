use Rattle.std.proofs.Common.{◌≡◌, List, reverse, take, sym, ap, subst, arith}
use Rattle.std.proofs.lemmas.List.{reverse-reverse}
use Rattle.gm_notes.specs.declared.note.Note.{Note}
use Rattle.gm_plain.specs.Logs.{Logged, IsPaid, oldest}
use Rattle.gm_plain.proofs.TakingBack.{paid_less}
use Rattle.gm_plain.proofs.log.Log.truncate.Goals as goal

pub invariant_of-self : goal.invariant_of-self
invariant_of-self c =
    let items = c.self.inside.notes.items in
    let kept : reverse c.truncate.new.self.items ≡ reverse (take c.args.count items) = ap reverse c.truncate.ensures.items in
    let same : oldest c.args.count (reverse items) ≡ reverse (take c.args.count items) = ap (λ (l : List Note). reverse (take c.args.count l)) (reverse-reverse items) in
    let stood : IsPaid c.self.inside.slots c.self.inside.first (oldest c.args.count (reverse items)) =
    subst (λ (l : Logged). IsPaid l.slots l.first (oldest c.args.count l.notes)) (sym c.self.view_is) c.requires in
    let less = paid_less c.args.count items in
    rw kept (subst (IsPaid c.self.inside.slots c.self.inside.first) same stood, omega (arith, less, c.truncate.ensures.capacity, c.self.invariant.1))
