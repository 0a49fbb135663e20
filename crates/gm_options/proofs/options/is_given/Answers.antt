use Rattle.std.proofs.Common.{◌∙◌, ap, sym, Some}
use Rattle.clap.specs.Words.{found_of}
use Rattle.gm_options.specs.Options.{is_of_words}
use Rattle.gm_options.proofs.Given.{source_in_rows}
use Rattle.gm_options.proofs.options.is_given.Goals as goal

pub returns-in-Some-CommandLine : goal.returns-in-Some-CommandLine
returns-in-Some-CommandLine c = ap is_of_words (ap Some (sym c.in-Some-CommandLine.field-0-is) ∙ (sym c.in-Some-CommandLine.is ∙ (c.value_source.ensures ∙ source_in_rows (found_of c.args.matches.now) c.args.name.now)))

pub returns-in-Some-DefaultValue : goal.returns-in-Some-DefaultValue
returns-in-Some-DefaultValue c = ap is_of_words (ap Some (sym c.in-Some-DefaultValue.field-0-is) ∙ (sym c.in-Some-DefaultValue.is ∙ (c.value_source.ensures ∙ source_in_rows (found_of c.args.matches.now) c.args.name.now)))

pub returns-in-None : goal.returns-in-None
returns-in-None c = ap is_of_words (sym c.in-None.is ∙ (c.value_source.ensures ∙ source_in_rows (found_of c.args.matches.now) c.args.name.now))
