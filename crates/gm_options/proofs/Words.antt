-- The command of `gmd` is one of which clap says how it fails, and what it reads.
use Rattle.std.proofs.Common.{◌≡◌, ◌∙◌, ◌==◌, ℕ, Bool, true, false, refl, List, Option, Some, None, Result, Ok, Err, Bor, ap, sym, subst, codes, min, unwrap_or, option_map, eqb-true}
use Rattle.std.proofs.lemmas.Bool.{eqb-false}
use Rattle.std.specs.Prelude.{IsErrAnd}
use Rattle.clap.specs.Words.{App, Text, first_of, first_value, found_of, matches_of, one_of, one_text, rows_of, is_simple, is_simple_and_free, HasMatchesOf, FailsBy, HasKind, Kinds}
use Rattle.clap.specs.declared.error.Error.{Error}
use Rattle.clap.specs.declared.parser.matches.ArgMatches.{ArgMatches}
use Rattle.clap.proofs.WalkLemmas.{first_value-rows, one_text-rows}
use Rattle.gm_options.specs.Options.{IsNumber, ReadsNumber}
use Rattle.gm_options.specs.Words.{gmd_app, WordsAreReadAlike}

is_free : is_simple_and_free gmd_app ≡ true
is_free = refl

simple : is_simple gmd_app ≡ true
simple = refl

-- what clap says of a simple command without rules between options holds of this one
pub known : (P : App → Type 0) (app : App) → app ≡ gmd_app → (is_simple_and_free app ≡ true → P app) → P gmd_app
known P app same says = subst (λ a. (is_simple_and_free a ≡ true → P a)) same says is_free

-- the matches are those of these words
pub rows : (app : App) (words : List Text) (m : ArgMatches) → app ≡ gmd_app → HasMatchesOf app words m → rows_of (found_of m) ≡ matches_of gmd_app words
rows app words m same has = (subst (λ a. HasMatchesOf a words m) same has simple).0

pub text_of : (words : List Text) (m : ArgMatches) → rows_of (found_of m) ≡ matches_of gmd_app words → (id : Text) → one_text (found_of m) id ≡ one_of id (matches_of gmd_app words)
text_of words m same id = one_text-rows (found_of m) id ∙ ap (one_of id) same

pub first_text_of : (words : List Text) (m : ArgMatches) → rows_of (found_of m) ≡ matches_of gmd_app words → (id : Text) → first_value (found_of m) id ≡ first_of id (matches_of gmd_app words)
first_text_of words m same id = first_value-rows (found_of m) id ∙ ap (first_of id) same

-- numbers that can't differ are the same
stable : (a b : ℕ) → ((a ≡ b → ⊥) → ⊥) → a ≡ b
stable a b never = by (a == b) refl
  where
    by : (t : Bool) → (a == b) ≡ t → a ≡ b
    by true is = eqb-true a b is
    by false is = absurd (never (eqb-false a b is))

same_number : (bits : ℕ) (text : Option Text) (default a b : ℕ) → ReadsNumber bits text default a → ReadsNumber bits text default b → a ≡ b
same_number bits None default a b one other = one ∙ sym other
same_number bits (Some text) default a b one other =
    stable a b (λ differ. let none : IsNumber bits text → ⊥ = (λ is. differ (one.0 is ∙ sym (other.0 is))) in differ (one.1 none ∙ sym (other.1 none)))

pub read_alike : WordsAreReadAlike
read_alike words args others one other = record {
  port = same_number 16 _ 4730 args.port others.port one.port other.port;
  listen = one.listen ∙ sym other.listen;
  has_address = one.has_address ∙ sym other.has_address;
  name = one.name ∙ sym other.name;
  slots = same_number 32 _ 64 args.server.slots others.server.slots one.slots other.slots;
  max_data = one.max_data.2 ∙ (ap (λ n. min n 1073741824) (same_number 32 _ 67108864 one.max_data.0 other.max_data.0 one.max_data.1 other.max_data.1) ∙ sym other.max_data.2);
  max_line = one.max_line ∙ sym other.max_line;
  round_robin = one.round_robin ∙ sym other.round_robin;
  job_retries = same_number 32 _ 0 args.server.job_retries others.server.job_retries one.job_retries other.job_retries;
  as_gearmand = one.as_gearmand ∙ sym other.as_gearmand;
  peer_timeout = same_number 16 _ 120 args.peer_timeout others.peer_timeout one.peer_timeout other.peer_timeout;
  has_peer_timeout = one.has_peer_timeout ∙ sym other.has_peer_timeout;
  io_threads = same_number 16 _ 0 args.io_threads others.io_threads one.io_threads other.io_threads;
  has_io_threads = one.has_io_threads ∙ sym other.has_io_threads;
  check = one.check ∙ sym other.check;
  tape = one.tape ∙ sym other.tape;
}

-- an error that is handed on
pub failing : {T : Type 0} → (kinds : Kinds) (outcome : Result T Error) (P : Error → Type 0) → ((e : Error) → P e → HasKind kinds e) → IsErrAnd outcome P → FailsBy kinds outcome
failing kinds (Ok value) P has err = absurd err
failing kinds (Err e) P has err = has e err

pub text_or : (found : Option (Bor Text)) (default text : Bor Text) → text ≡ unwrap_or found default → text.now ≡ unwrap_or (option_map (λ t. t.now) found) default.now
text_or None default text is = ap (λ t. t.now) is
text_or (Some found) default text is = ap (λ t. t.now) is
