use Rattle.std.proofs.Common.{◌≡◌, ◌+◌, ◌-◌, ◌<◌, ◌≤◌, [], ◌∷◌, ◌++◌, ℕ, List, Option, Some, None, is_some, IsTrue, true, length, refl, sym, subst, ap, ◌∙◌, arith, append-nil, length-append, vec_len}
use Rattle.std.specs.Option.{unwrap_or}
use Rattle.gm_conns.specs.Connections.{with_bytes}
use Rattle.gm_conns.specs.ConnTables.{Table, Changes}
use Rattle.gm_core.specs.Writing.{Text, CanBePut, shared_room}
use Rattle.gm_core.proofs.written.Written.put.Goals as goal
use Rattle.gm_core.proofs.written.Written.put.Goals.{in-Some, in-None}

-- without owners it isn't shared
not_shared : (body : Option (List ℕ)) (owners : ℕ) → (IsTrue (is_some body) → 1 ≤ owners) → owners ≡ 0 → body ≡ None
not_shared None owners owned none = refl
not_shared (Some body) owners owned none = absurd (omega (arith, owned refl, none))

pub returns-clause-conns : goal.returns-clause-conns
returns-clause-conns c =
    let copied = c.self.inside.copied.items in
    let old = c.args.conns.now in
    let slot = c.args.slot in
    elim c.match-pop.branch [
      | in-Some w ↦
          let owners = c.self.inside.owners in
          let there : 0 < length c.self.inside.owners.items = omega (arith, ap length w.in-Some.ensures.items, length-append c.pop.new.self.items (w.in-Some.owner ∷ [])) in
          let body : c.self.inside.body ≡ Some w.in-Some.owner =
          c.self.invariant (vec_len owners - 1) w.in-Some.owner (omega (arith, there, owners.ok.0)) ∙ (sym (c.pop.ensures.value w.in-Some.owner (omega (arith, there, owners.ok.0))) ∙ w.in-Some.is) in
          subst (λ (t : Text). Changes slot (with_bytes t.bytes t.cost) true old c.match-pop.conns) c.self.view_is
          (subst (λ (b : Option (List ℕ)). Changes slot (with_bytes (copied ++ unwrap_or b []) (length copied + shared_room b)) true old c.match-pop.conns) (sym body)
          (subst (λ (conns : Table). Changes slot (with_bytes (copied ++ w.in-Some.owner) (length copied + 512)) true old conns) (sym w.conns-is)
          (subst (λ (l : List ℕ). Changes slot (with_bytes (l ++ w.in-Some.owner) (length l + 512)) true old w.put_shared.new.self) w.as_slice.ensures.value w.put_shared.ensures)))
      | in-None w ↦
          let owned = subst (λ (t : Text). CanBePut 1 t) (sym c.self.view_is) c.requires.owned in
          let body : c.self.inside.body ≡ None = not_shared c.self.inside.body (length c.self.inside.owners.items) owned (omega (arith, c.self.inside.owners.ok.0, w.in-None.ensures.cases.0)) in
          subst (λ (t : Text). Changes slot (with_bytes t.bytes t.cost) true old c.match-pop.conns) c.self.view_is
          (subst (λ (b : Option (List ℕ)). Changes slot (with_bytes (copied ++ unwrap_or b []) (length copied + shared_room b)) true old c.match-pop.conns) (sym body)
          (subst (λ (conns : Table). Changes slot (with_bytes (copied ++ []) (length copied + 0)) true old conns) (sym w.conns-is)
          (subst (λ (l : List ℕ). Changes slot (with_bytes l (length copied + 0)) true old w.put_out.new.self) (sym (append-nil copied))
          (subst (λ (n : ℕ). Changes slot (with_bytes copied n) true old w.put_out.new.self) {x = length copied} {y = length copied + 0} (omega arith)
          (subst (λ (l : List ℕ). Changes slot (with_bytes l (length l)) true old w.put_out.new.self) w.as_slice-in-None.ensures.value w.put_out.ensures)))))
    ]
