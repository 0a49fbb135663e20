-- Each answer's packet has just these bytes.
use Rattle.std.proofs.Common.{◌≡◌, ℕ, suc, Bool, true, false, List, [], ◌∷◌, ◌++◌, length, refl, ap, ap₂, ◌∙◌, arith, append_assoc, decimal}
use Rattle.std.specs.Prelude.{◌==◌}
use Rattle.std.specs.List.{flat_map}
use Rattle.std.proofs.lemmas.Bool.Decides.{nat_tests}
use Rattle.gm_packet.specs.Packets.{packet}
use Rattle.gm_packet.specs.Answers.{answer_packet, status_res}
use Rattle.gm_admin.specs.Answers.{StatusLine, WorkerLine, shown_byte, shown, shown_or_dash, status_line, dot, status_text, worker_line, workers_text}
use Rattle.gm_laws.specs.Spelled.{answered, digit, AnswersAreSpelled, printed, printed_or_dash, listed, LinesAreSpelled}

told : (handle : List ℕ) (known running : Bool) (numerator denominator : List ℕ) →
    answer_packet (status_res handle known running numerator denominator)
    ≡ answered 20 (handle ++ 0 ∷ digit known ∷ 0 ∷ digit running ∷ 0 ∷ (numerator ++ 0 ∷ denominator))
unfolding packet
told handle true true numerator denominator = refl
told handle true false numerator denominator = refl
told handle false true numerator denominator = refl
told handle false false numerator denominator = refl

pub spelled : AnswersAreSpelled
unfolding packet
spelled = record {
  noops = refl;
  created = λ handle. refl;
  none = refl;
  assigned = λ handle function body. refl;
  reported = λ handle numerator denominator. refl;
  completed = λ handle body. refl;
  failed = λ handle. refl;
  echoed = λ body. refl;
  refused = λ code text. refl;
  told = told;
  excepted = λ handle body. refl;
  set = λ name. refl;
  sent = λ handle body. refl;
  warned = λ handle body. refl;
  assigned_uniquely = λ handle function unique body. refl;
}

-- ---- text lines

printed_is : (text : List ℕ) → shown text ≡ printed text
printed_is [] = refl
printed_is (b ∷ text) = ap (λ (l : List ℕ). shown_byte b ∷ l) (printed_is text)

dash_is : (text : List ℕ) → shown_or_dash text ≡ printed_or_dash text
dash_is [] = refl
dash_is (b ∷ text) = let some : (suc (length text) == 0) ≡ false = grind (arith, nat_tests) in rw some (printed_is (b ∷ text))

listed_is : (names : List (List ℕ)) → flat_map (λ name. 32 ∷ shown name) names ≡ listed names
listed_is [] = refl
listed_is (name ∷ names) = ap₂ (λ (a b : List ℕ). 32 ∷ a ++ b) (printed_is name) (listed_is names)

status_is : (row : StatusLine) (rows : List StatusLine) → status_text (row ∷ rows)
    ≡ (printed row.name ++ 9 ∷ decimal row.total ++ 9 ∷ decimal row.running ++ 9 ∷ decimal row.workers ++ 10 ∷ []) ++ status_text rows
status_is row rows =
    append_assoc (status_line row) (flat_map status_line rows) dot
    ∙ ap (λ (x : List ℕ). (x ++ 9 ∷ decimal row.total ++ 9 ∷ decimal row.running ++ 9 ∷ decimal row.workers ++ 10 ∷ []) ++ status_text rows) (printed_is row.name)

workers_is : (row : WorkerLine) (rows : List WorkerLine) → workers_text (row ∷ rows)
    ≡ (decimal row.slot ++ 32 ∷ printed_or_dash row.addr ++ 32 ∷ printed_or_dash row.id ++ 32 ∷ 58 ∷ listed row.functions ++ 10 ∷ []) ++ workers_text rows
workers_is row rows =
    append_assoc (worker_line row) (flat_map worker_line rows) dot
    ∙ (ap₂ (λ (x y : List ℕ). (decimal row.slot ++ 32 ∷ x ++ 32 ∷ y ++ 32 ∷ 58 ∷ flat_map (λ name. 32 ∷ shown name) row.functions ++ 10 ∷ []) ++ workers_text rows) (dash_is row.addr) (dash_is row.id)
    ∙ ap (λ (x : List ℕ). (decimal row.slot ++ 32 ∷ printed_or_dash row.addr ++ 32 ∷ printed_or_dash row.id ++ 32 ∷ 58 ∷ x ++ 10 ∷ []) ++ workers_text rows) (listed_is row.functions))

pub lines_spelled : LinesAreSpelled
lines_spelled = record {
  ok = refl;
  version = refl;
  unknown_command = refl;
  missing_name = refl;
  bad_size = refl;
  bad_function = refl;
  too_many_functions = refl;
  line_too_long = refl;
  status_line = status_is;
  status_end = refl;
  worker_line = workers_is;
  workers_end = refl;
  handles = λ k n. append_assoc (72 ∷ 58 ∷ k.name) (58 ∷ []) (decimal n);
}
