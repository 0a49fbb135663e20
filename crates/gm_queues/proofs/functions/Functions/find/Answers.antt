use Rattle.std.proofs.Common.{sym, ap, ◌∙◌}
use Rattle.std.specs.Str.{bytes_eq}
use Rattle.gm_queues.specs.FunctionTables.{number_of}
use Rattle.gm_queues.proofs.PositionLemmas.{position-map}
use Rattle.gm_queues.proofs.functions.Functions.find.Goals as goal

pub returns-in-Some-clause-value : goal.returns-in-Some-clause-value
returns-in-Some-clause-value c =
    c.in-Some.ensures.index ∙ sym (position-map (bytes_eq c.args.name.now) (λ v. v.items) c.self.inside.names.keys)
    ∙ ap (number_of c.args.name.now) c.self.view_is

pub returns-in-None-clause-value : goal.returns-in-None-clause-value
returns-in-None-clause-value c =
    c.in-None.ensures.index ∙ sym (position-map (bytes_eq c.args.name.now) (λ v. v.items) c.self.inside.names.keys)
    ∙ ap (number_of c.args.name.now) c.self.view_is
