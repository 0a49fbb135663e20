-- What clap says of a value's source, by the rows of the matches.
use Rattle.std.proofs.Common.{◌≡◌, ◌∙◌, Option, Some, None, refl, sym, ap}
use Rattle.std.specs.Option.{option_map}
use Rattle.std.specs.Prelude.{find, option_and_then}
use Rattle.std.specs.Str.{bytes_eq}
use Rattle.clap.specs.Words.{Row, Text, matched_of, rows_of}
use Rattle.clap.specs.Walk.{row_of}
use Rattle.clap.specs.Facts.{Entry}
use Rattle.clap.specs.declared.parser.matches.Found.{Found}
use Rattle.clap.specs.declared.parser.matches.MatchedArg.{MatchedArg}
use Rattle.clap.proofs.WalkLemmas.{find_row}

pub source_in_rows : (f : Found) (name : Text)
    → option_and_then (λ (a : MatchedArg). a.source) (matched_of f name) ≡ option_and_then (λ (r : Row). r.source) (find (λ (r : Row). bytes_eq r.id name) (rows_of f))
source_in_rows f name = by (find (λ (e : Entry). bytes_eq e.0.now name) f.entries.items) ∙ ap (option_and_then (λ (r : Row). r.source)) (sym (find_row f.entries.items name))
  where
    by : (o : Option Entry) → option_and_then (λ (a : MatchedArg). a.source) (option_map (λ (e : Entry). e.1) o) ≡ option_and_then (λ (r : Row). r.source) (option_map row_of o)
    by None = refl
    by (Some e) = refl
