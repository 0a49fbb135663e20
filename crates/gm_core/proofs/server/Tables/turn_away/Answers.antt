use Rattle.std.proofs.Common.{refl, sym, ap, ◌∙◌}
use Rattle.gm_notes.specs.declared.states.Mode.TheVariants.{Graceful}
use Rattle.gm_notes.specs.Notes.{mode, accepts_connections}
use Rattle.gm_notes.specs.Lines.{go_graceful}
use Rattle.gm_core.proofs.CoreLemmas.{goes_as, goes_nothing}
use Rattle.gm_core.proofs.CommandLemmas.{goes_went, turned, not_turned}
use Rattle.gm_core.proofs.server.Tables.turn_away.Goals as goal

pub returns-then-accepts_connections : goal.returns-then-accepts_connections
returns-then-accepts_connections c =
    goes_as (λ past. go_graceful (mode past.notes) past) (goes_went c.args.self.now _ Graceful (record { config = refl; conns = refl; functions = refl; jobs = refl; moment = refl }) refl)
    (λ p keeps. turned (mode p.notes) p (ap accepts_connections (sym keeps.mode) ∙ (sym c.accepts_connections.ensures ∙ c.if-accepts_connections.true)))

pub returns-else-accepts_connections : goal.returns-else-accepts_connections
returns-else-accepts_connections c =
    goes_as (λ past. go_graceful (mode past.notes) past) (goes_nothing refl refl refl refl refl refl)
    (λ p keeps. not_turned (mode p.notes) p (ap accepts_connections (sym keeps.mode) ∙ (sym c.accepts_connections.ensures ∙ c.if-accepts_connections.false)))
