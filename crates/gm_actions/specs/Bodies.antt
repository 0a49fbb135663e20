-- Where the bodies of requests and of answers lie.
use Rattle.std.specs.Prelude.{◌≡◌, List, [], ◌∷◌, ℕ, Option, Some, None}
use Rattle.gm_packet.specs.Kinds.{shape}
use Rattle.gm_packet.specs.Requests.{Asked, Spells}
use Rattle.gm_packet.specs.Answers.{Answer}

-- these data spell what is asked
abbrev pub IsSpelledBy : Asked → List ℕ → Type 0
IsSpelledBy asked bytes = Spells (shape asked.kind) asked.arguments asked.timeout bytes

-- the last argument
abbrev pub last_text : List (List ℕ) → Option (List ℕ)
last_text [] = None
last_text (only ∷ []) = Some only
last_text (first ∷ next ∷ texts) = last_text (next ∷ texts)

-- the answer's last argument is this text
abbrev pub EndsWith : List ℕ → Answer → Type 0
EndsWith text answer = last_text answer.arguments ≡ Some text
