use Rattle.std.proofs.Common.{◌≡◌, ◌+◌, ◌≤◌, [], ◌∷◌, reverse, sym, ap, subst, arith, ◌∙◌}
use Rattle.std.proofs.lemmas.List.{reverse-append, length-reverse}
use Rattle.std.specs.Vec.{vec_capacity}
use Rattle.gm_plain.specs.Logs.{Logged, NoteFits, MayCome, weight, paid}
use Rattle.gm_plain.proofs.Dues.{paid_next, room_for}
use Rattle.gm_plain.proofs.log.Log.note.Goals as goal
use Rattle.gm_plain.proofs.log.Log.note.Goals.{After-push_reserved-arg-1}

stands : (c : After-push_reserved-arg-1) → MayCome c.self.inside.slots c.self.inside.first c.args.note (reverse c.self.inside.notes.items)
stands c = subst (λ (l : Logged). MayCome l.slots l.first c.args.note l.notes) (sym c.self.view_is) c.requires.may_come

room : (c : After-push_reserved-arg-1) → paid (reverse c.self.inside.notes.items) + weight c.args.note ≤ vec_capacity c.self.inside.notes
room c =
    let free = ap (λ (l : Logged). l.free) c.self.view_is in
    omega (arith, c.requires.room, free, c.self.invariant.1)

pub push_reserved-requires : goal.push_reserved-requires
push_reserved-requires c =
    let o = (goal.at-push_reserved-requires c).After-push_reserved-arg-1 in
    let fits = room_for c.self.inside.slots c.self.inside.first (vec_capacity c.self.inside.notes) c.args.note (reverse c.self.inside.notes.items) (stands o) c.self.invariant.0 (room o) in
    let long = length-reverse c.self.inside.notes.items in
    let len = c.self.inside.notes.ok.0 in
    omega (arith, fits, long, len)

pub invariant_of-self : goal.invariant_of-self
invariant_of-self c =
    let o = (goal.at-invariant_of-self c).After-push_reserved-arg-1 in
    let items : reverse c.push_reserved.new.self.items ≡ c.args.note ∷ reverse c.self.inside.notes.items =
    ap reverse c.push_reserved.ensures.items ∙ reverse-append c.self.inside.notes.items (c.args.note ∷ []) in
    let fits : NoteFits c.self.inside.slots c.args.note = subst (λ (l : Logged). NoteFits l.slots c.args.note) (sym c.self.view_is) c.requires.fits in
    rw items (
      paid_next c.self.inside.slots c.self.inside.first c.args.note (reverse c.self.inside.notes.items) (stands o) fits c.self.invariant.0,
      let r = room o in omega (arith, r, c.push_reserved.ensures.capacity),
    )
