-- The command of a text line's words.
use Rattle.std.specs.Prelude.{◌≡◌, ◌⊎◌, ℕ, Bool, true, false, ◌||◌, ◌==◌, List, [], ◌∷◌, ◌++◌, codes, Ok, Err}
use Rattle.std.specs.List.{list_any, list_all}
use Rattle.gm_admin.specs.declared.fault.AdminFault.TheVariants.{UnknownCommand, MissingName, BadSize}
use Rattle.gm_admin.specs.Commands.{Commanded, Status, Workers, MaxQueue, Version, Shutdown, command_of}
use Rattle.gm_laws.specs.Written.{IsNumber}

-- ---- words

-- a space (32) or a tab (9)
abbrev pub is_space : ℕ → Bool
is_space b = b == 32 || b == 9

abbrev pub IsWord : List ℕ → Type 0
IsWord word = (word ≡ [] → ⊥) × (list_any is_space word ≡ false)

-- here a word has ended
abbrev pub ends_word : List ℕ → Bool
ends_word [] = true
ends_word (b ∷ bytes) = is_space b

-- the line is these words, with spaces and tabs before, between and after them
abbrev pub AreWords : List ℕ → List (List ℕ) → Type 0
AreWords line [] = list_all is_space line ≡ true
AreWords line (word ∷ words) =
    (gap rest : List ℕ) × (line ≡ gap ++ (word ++ rest)) × (list_all is_space gap ≡ true) × IsWord word × (ends_word rest ≡ true) × AreWords rest words

-- the word is the one text or the other, letter by letter
abbrev pub IsEither : List ℕ → List ℕ → List ℕ → Type 0
IsEither [] [] [] = Unit {0}
IsEither (b ∷ word) (x ∷ small) (y ∷ large) = ((b ≡ x) ⊎ (b ≡ y)) × IsEither word small large
IsEither word small large = ⊥

-- ---- commands

-- a size is a number, and no limit if it is after a minus (45)
abbrev pub IsSize : List ℕ → ℕ → Type 0
IsSize text size = IsNumber text size ⊎ ((digits : List ℕ) × (n : ℕ) × (text ≡ 45 ∷ digits) × IsNumber digits n × (size ≡ 0))

-- the words are this command, in any case of letters; what follows `status`, `workers` and `version` says nothing, and
-- without a size there is no limit
abbrev pub IsCommand : List (List ℕ) → Commanded → Type 0
IsCommand (word ∷ words) Status = IsEither word (codes "status") (codes "STATUS")
IsCommand (word ∷ words) Workers = IsEither word (codes "workers") (codes "WORKERS")
IsCommand (word ∷ words) Version = IsEither word (codes "version") (codes "VERSION")
IsCommand (word ∷ name ∷ []) (MaxQueue f size) = IsEither word (codes "maxqueue") (codes "MAXQUEUE") × (name ≡ f) × (size ≡ 0)
IsCommand (word ∷ name ∷ text ∷ []) (MaxQueue f size) = IsEither word (codes "maxqueue") (codes "MAXQUEUE") × (name ≡ f) × IsSize text size
IsCommand (word ∷ []) (Shutdown false) = IsEither word (codes "shutdown") (codes "SHUTDOWN")
IsCommand (word ∷ how ∷ []) (Shutdown true) = IsEither word (codes "shutdown") (codes "SHUTDOWN") × IsEither how (codes "graceful") (codes "GRACEFUL")
IsCommand words command = ⊥

-- `maxqueue` with no name, and with a name and more words, which say no size
abbrev pub LacksName : List (List ℕ) → Type 0
LacksName (word ∷ []) = IsEither word (codes "maxqueue") (codes "MAXQUEUE")
LacksName words = ⊥

abbrev pub LacksSize : List (List ℕ) → Type 0
LacksSize (word ∷ name ∷ text ∷ []) = IsEither word (codes "maxqueue") (codes "MAXQUEUE") × ((size : ℕ) → IsSize text size → ⊥)
LacksSize (word ∷ name ∷ text ∷ more ∷ words) = IsEither word (codes "maxqueue") (codes "MAXQUEUE")
LacksSize words = ⊥

pub record CommandsAreRead : Type 0 where
  -- each line is some words
  pub worded : (line : List ℕ) → (words : List (List ℕ)) × AreWords line words
  -- and is read as a command exactly if they are that
  pub read : (line : List ℕ) (words : List (List ℕ)) (command : Commanded) → AreWords line words → IsCommand words command → command_of line ≡ Ok command
  pub meant : (line : List ℕ) (words : List (List ℕ)) (command : Commanded) → AreWords line words → command_of line ≡ Ok command → IsCommand words command
  -- otherwise it lacks a name or a size, or is no command
  pub no_name : (line : List ℕ) (words : List (List ℕ)) → AreWords line words → LacksName words → command_of line ≡ Err MissingName
  pub no_size : (line : List ℕ) (words : List (List ℕ)) → AreWords line words → LacksSize words → command_of line ≡ Err BadSize
  pub unknown : (line : List ℕ) (words : List (List ℕ)) → AreWords line words → (LacksName words ⊎ LacksSize words → ⊥) →
      ((command : Commanded) → IsCommand words command → ⊥) → command_of line ≡ Err UnknownCommand
