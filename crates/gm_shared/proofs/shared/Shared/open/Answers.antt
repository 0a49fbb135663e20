use Rattle.std.proofs.Common.{ap, ◌∙◌, subst}
use Rattle.atomic_table.specs.Seated.{TableId}
use Rattle.gm_notes.specs.Settings.{Settings}
use Rattle.gm_shared.specs.Shared.{IsGuarded}
use Rattle.gm_shared.proofs.Entries.{opens_guarded}
use Rattle.gm_shared.proofs.shared.Shared.open.Goals as goal

pub new-requires-clause-guarded : goal.new-requires-clause-guarded
new-requires-clause-guarded g c =
    subst (λ (z : TableId × Settings). IsGuarded z.0 z.1 g.K.BookName.taped c.blank.inside.booked c.new_witness.new.self.log)
    (λ i. ((ap (λ b. b.table) c.blank.view_is ∙ c.requires.table) i, (ap (λ b. b.settings) c.blank.view_is ∙ c.requires.settings) i))
    (opens_guarded _ _ _ _ _ g.K.BookName.taped _ c.blank.invariant.0 (ap (λ k. k.log) c.new_witness.ensures.keeper ∙ c.in_ok-desks.ensures.keeper.empty) (ap (λ b. b.taped) c.blank.view_is ∙ c.requires.taped))
