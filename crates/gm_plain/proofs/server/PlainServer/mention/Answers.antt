use Rattle.std.proofs.Common.{◌≡◌, false, refl, sym, ap₂, ◌∙◌}
use Rattle.gm_notes.specs.Jobs.{is_mentioned}
use Rattle.gm_plain.proofs.ServerLemmas.{goes_as}
use Rattle.gm_plain.proofs.server.PlainServer.mention.Goals as goal

pub returns-then-not-is_mentioned-clause-goes : goal.returns-then-not-is_mentioned-clause-goes
returns-then-not-is_mentioned-clause-goes c =
    goes_as c.note.ensures.goes
    (λ p keeps.
    let unknown : is_mentioned c.args.function p.notes ≡ false =
    ap₂ is_mentioned (sym c.as_slice.ensures) (sym keeps.notes_are) ∙ (sym c.is_mentioned.ensures ∙ c.if-not-is_mentioned.true) in
    rw unknown refl)
