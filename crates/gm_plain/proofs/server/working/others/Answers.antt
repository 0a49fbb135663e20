use Rattle.std.proofs.Common.{◌<◌, Bool, rules, ℕ, List, sym, ap, subst, ◌∙◌}
use Rattle.std.specs.Prelude.{not, filter}
use Rattle.std.specs.List.{All}
use Rattle.std.proofs.lemmas.Fn.{filter_same}
use Rattle.std.proofs.lemmas.List.Elements.{All-filter}
use Rattle.gm_notes.specs.declared.note.Note.{Note}
use Rattle.gm_notes.specs.Workers.{wants_exceptions}
use Rattle.gm_plain.proofs.server.working.others.Goals as goal

abbrev deaf : List Note → ℕ → Bool
deaf notes d = not (wants_exceptions d notes)

pub returns-clause-value : goal.returns-clause-value
returns-clause-value c =
    filter_same _ (deaf c.args.log.now.notes) _ (λ x b f' k. search rules) _ _ c.retain.ensures.filtered
    ∙ ap (filter (deaf c.args.log.now.notes)) c.in_ok-slots.ensures.value

pub returns-clause-below : goal.returns-clause-below
returns-clause-below c =
    let kept = filter_same _ (deaf c.args.log.now.notes) _ (λ x b f' k. search rules) _ _ c.retain.ensures.filtered in
    subst (λ (l : List ℕ). All (λ d. d < c.args.log.now.slots) l) (sym kept)
    (All-filter (deaf c.args.log.now.notes) (λ d. d < c.args.log.now.slots) c.in_ok-slots.slots.items c.in_ok-slots.ensures.below)
