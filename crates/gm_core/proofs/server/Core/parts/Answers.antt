use Rattle.std.proofs.Common.{sym, subst}
use Rattle.gm_notes.specs.Settings.{Settings}
use Rattle.gm_notes.specs.Steps.{run}
use Rattle.gm_core.specs.declared.server.Tables.{Tables}
use Rattle.gm_core.specs.Holds.{Holds, CoreAgrees}
use Rattle.gm_core.proofs.server.Core.parts.Goals as goal

pub returns-clause-held : goal.returns-clause-held
returns-clause-held c k steps agrees =
    let tables = c.self.inside.tables in
    subst (λ (t : Tables). Holds k tables.conns tables.functions tables.jobs t.moment t.mode (run k steps)) c.self.view_is
    (let held = subst (λ (t : Tables). CoreAgrees t k steps) (sym c.self.view_is) agrees in
    subst (λ (x : Settings). Holds x tables.conns tables.functions tables.jobs tables.moment tables.mode (run k steps)) held.settings held.past)
