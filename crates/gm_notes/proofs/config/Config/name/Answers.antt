use Rattle.std.proofs.Common.{◌≤◌, length, List, ℕ, sym, ap, subst, ◌∙◌}
use Rattle.gm_packet.specs.Packets.{has_nul}
use Rattle.gm_notes.specs.Configs.{settings_of}
use Rattle.gm_notes.proofs.NameLemmas.{name_plain, name_short}
use Rattle.gm_notes.proofs.config.Config.name.Goals as goal

pub returns-clause-plain : goal.returns-clause-plain
returns-clause-plain c =
    ap has_nul c.as_slice.ensures ∙ name_plain (settings_of c.self.inside) c.self.invariant

pub returns-clause-short : goal.returns-clause-short
returns-clause-short c =
    subst (λ (l : List ℕ). length l ≤ 40) (sym c.as_slice.ensures)
    (name_short (settings_of c.self.inside) c.self.invariant)
