-- Texts that are to be queued, and packets whose last argument is put after the rest.
use Rattle.std.specs.Prelude.{◌≡◌, ℕ, ◌≤◌, Bool, false, IsTrue, List, [], ◌∷◌, length, Option, Some, None}
use Rattle.gm_packet.specs.Answers.{Answer}

-- the text, how much of a queue's room it takes, and whether its body is shared, with how many owners for the queues
pub record Text : Type 0 where
  pub bytes : List ℕ
  pub cost : ℕ
  pub is_shared : Bool
  pub owners : ℕ

-- a text that is copied
abbrev pub copied_text : List ℕ → Text
copied_text bytes = record { bytes = bytes; cost = length bytes; is_shared = false; owners = 0 }

-- It has no body, and is short.
pub record IsLight (text : Text) : Type 0 where
  pub unshared : text.is_shared ≡ false
  pub unowned : text.owners ≡ 0
  pub short : length text.bytes ≤ 65536

-- it can be put to this number of queues
abbrev pub CanBePut : ℕ → Text → Type 0
CanBePut count text = IsTrue text.is_shared → count ≤ text.owners

-- how much of a queue's room the body takes
abbrev pub shared_room : Option (List ℕ) → ℕ
shared_room None = 0
shared_room (Some body) = 512

-- the arguments with an empty last one
abbrev pub bare : List (List ℕ) → List (List ℕ)
bare [] = []
bare (only ∷ []) = [] ∷ []
bare (first ∷ next ∷ texts) = first ∷ bare (next ∷ texts)

-- the same packet with an empty last argument
abbrev pub bare_answer : Answer → Answer
bare_answer answer = record { kind = answer.kind; arguments = bare answer.arguments }
