-- The options, as clap gets to know them, and the values read from its matches.
use Rattle.std.specs.Prelude.{◌≡◌, ◌^◌, ◌<◌, ℕ, ℤ, Bool, true, false, List, [], ◌∷◌, Option, Some, None, codes, find, option_and_then, pos}
use Rattle.std.specs.Str.{bytes_eq}
use Rattle.std.specs.Int.{int_max, int_min}
use Rattle.std.specs.Str.Parse.{IsNumeral, digits_value, without_leading_plus}
use Rattle.clap.specs.Words.{App, Row, Rule, Text, new_rule, with_rule, signed_between}
use Rattle.clap.specs.declared.parser.matches.ValueSource.{ValueSource}
use Rattle.clap.specs.declared.parser.matches.ValueSource.TheVariants.{CommandLine}
use Rattle.clap.specs.declared.builder.action.ArgAction.TheVariants.{SetTrue}

-- ---- options

-- an option that takes a number of 32 bits in these bounds, and this one if it isn't given
abbrev pub number_rule : Text → ℤ → ℤ → Text → Rule
number_rule name least most default = record (new_rule name) {
  long = Some name;
  value_names = 1;
  parser = Some (signed_between (int_max (pos 0) least) (int_min (pos 4294967295) most));
  defaults = default ∷ [];
}

-- an option that takes a text, and this one if it isn't given
abbrev pub text_rule : Text → Text → Rule
text_rule name default = record (new_rule name) { long = Some name; value_names = 1; defaults = default ∷ [] }

-- an option that takes nothing
abbrev pub flag_rule : Text → Rule
flag_rule name = record (new_rule name) { long = Some name; action = Some SetTrue }

-- the options of every job server
abbrev pub slots_rule : Rule
slots_rule = number_rule (codes "slots") (pos 1) (pos 1024) (codes "64")

abbrev pub max_data_rule : Rule
max_data_rule = number_rule (codes "max-data") (pos 0) (pos 1073741824) (codes "67108864")

abbrev pub round_robin_rule : Rule
round_robin_rule = flag_rule (codes "round-robin")

abbrev pub job_retries_rule : Rule
job_retries_rule = number_rule (codes "job-retries") (pos 0) (pos 4294967295) (codes "0")

abbrev pub as_gearmand_rule : Rule
as_gearmand_rule = flag_rule (codes "as-gearmand")

-- a command with them, after the options that it has
abbrev pub with_server_rules : App → App
with_server_rules app =
    with_rule (with_rule (with_rule (with_rule (with_rule app slots_rule) max_data_rule) round_robin_rule) job_retries_rule) as_gearmand_rule

-- ---- what is read

-- the number that a text is, and whether it is one of this many bits
abbrev pub number_in : Text → ℕ
number_in text = digits_value 10 (without_leading_plus text)

abbrev pub IsNumber : ℕ → Text → Type 0
IsNumber bits text = IsNumeral 10 (without_leading_plus text) × (number_in text < 2 ^ bits)

-- the number of this many bits that an option's text is, and this one if there is no text or it is no such number
abbrev pub ReadsNumber : ℕ → Option Text → ℕ → ℕ → Type 0
ReadsNumber bits None default value = value ≡ default
ReadsNumber bits (Some text) default value = (IsNumber bits text → value ≡ number_in text) × ((IsNumber bits text → ⊥) → value ≡ default)

-- whether it is the words from which a value comes, and not a default
abbrev pub is_of_words : Option ValueSource → Bool
is_of_words (Some CommandLine) = true
is_of_words source = false

-- whether the option of this name was given
abbrev pub is_given : Text → List Row → Bool
is_given name rows = is_of_words (option_and_then (λ (row : Row). row.source) (find (λ (row : Row). bytes_eq row.id name) rows))
