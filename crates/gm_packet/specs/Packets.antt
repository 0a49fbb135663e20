-- Packets, byte by byte; the arguments that one can carry; and the meaning of appending one.
use Rattle.std.specs.Prelude.{◌≡◌, ℕ, ◌+◌, ◌-◌, ◌<◌, ◌^◌, ◌==◌, Bool, false, List, ◌∷◌, ◌++◌, length, take, codes}
use Rattle.std.specs.Prelude.{Result, OnOk, OnErr, vec_len, vec_capacity}
use Rattle.std.specs.Global.{Vec}
use Rattle.std.specs.Int.{w32, to_be_bytes}
use Rattle.std.specs.List.{list_any, join_with_byte}
use Rattle.std.specs.declared.alloc.AllocError.{AllocError}

-- NUL and REQ, before what goes to the server
abbrev pub request_magic : List ℕ
request_magic = 0 ∷ codes "REQ"

-- NUL and RES, before what comes from it
abbrev pub response_magic : List ℕ
response_magic = 0 ∷ codes "RES"

-- a whole packet: the magic, the type, the size and the data
unfoldable pub packet : List ℕ → ℕ → List ℕ → List ℕ
packet magic kind bytes = magic ++ to_be_bytes w32 kind ++ to_be_bytes w32 (length bytes) ++ bytes

-- the argument holds NUL
abbrev pub has_nul : List ℕ → Bool
has_nul text = list_any (λ b. b == 0) text

-- no one of the first n arguments holds NUL
abbrev pub LackNul : ℕ → List (List ℕ) → Type 0
LackNul n arguments = list_any has_nul (take n arguments) ≡ false

-- A packet can carry these arguments: no argument but the last holds NUL, and the data's length fits 32 bits.
pub record Fits (texts : List (List ℕ)) : Type 0 where
  pub separable : LackNul (length texts - 1) texts
  pub sized : length (join_with_byte 0 texts) < 2 ^ 32

-- The packet of this type with these arguments was appended. Or nothing was, and then there was no room for all of it.
pub record AppendsPacket (magic : List ℕ) (kind : ℕ) (texts : List (List ℕ)) (result : Result (Unit {0}) AllocError) (old new : Vec ℕ) : Type 0 where
  pub ok : OnOk result (new.items ≡ old.items ++ packet magic kind (join_with_byte 0 texts))
  pub err : OnErr result (new.items ≡ old.items)
  pub full : OnErr result (vec_capacity old < vec_len old + length (packet magic kind (join_with_byte 0 texts)))
