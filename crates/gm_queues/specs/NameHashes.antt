-- The hash of a function's name.
use Rattle.std.specs.Prelude.{ℕ, ◌*◌, ◌%◌, ◌^◌, List, [], ◌∷◌, if◌then◌else◌, nat_lt, bit_or}
use Rattle.std.specs.List.{fold}
use Rattle.std.specs.Hash as fed
use Rattle.std.specs.Hash.DefaultHasher.{write, finish}
use Rattle.std.specs.RandomState.{initial_hasher}
use Rattle.std.specs.declared.hash.RandomState.{RandomState}
use Rattle.gm_queues.specs.declared.name_hash.NameHasher.{NameHasher}

-- no bytes so far
abbrev pub new_hasher : RandomState → NameHasher
new_hasher seed = record { words = initial_hasher seed; tail = 1 }

-- the tail, and after it a byte
abbrev pub longer : ℕ → ℕ → ℕ
longer tail byte = bit_or ((tail * 2 ^ 8) % 2 ^ 64) byte

-- a byte more: seven bytes after a one are a word
abbrev pub with_byte : NameHasher → ℕ → NameHasher
with_byte hasher byte =
    if nat_lt (longer hasher.tail byte) 0x0100_0000_0000_0000
    then record hasher { tail = longer hasher.tail byte }
    else record { words = fold write hasher.words (fed.u64 (longer hasher.tail byte)); tail = 1 }

-- bytes that come at once, among others a name's length, are written at once
abbrev pub with_bytes : NameHasher → List ℕ → NameHasher
with_bytes hasher [] = record hasher { words = write hasher.words [] }
with_bytes hasher (byte ∷ []) = with_byte hasher byte
with_bytes hasher (first ∷ second ∷ more) = record hasher { words = write hasher.words (first ∷ second ∷ more) }

abbrev pub hash_of : NameHasher → ℕ
hash_of hasher = finish (fold write hasher.words (fed.u64 hasher.tail))
