-- The meaning of the bytes that come in.
use Rattle.std.specs.Prelude.{◌≡◌, ℕ, ◌<◌, ◌≤◌, ◌^◌, false, ◌||◌, ◌==◌, List, ◌∷◌, ◌++◌, length}
use Rattle.std.specs.Int.{w32, to_be_bytes}
use Rattle.std.specs.List.{list_any}
use Rattle.gm_feeder.specs.declared.units.Limits.{Limits}
use Rattle.gm_feeder.specs.declared.units.FeedFault.TheVariants.{BadMagic, PacketTooLarge, LineTooLong}
use Rattle.gm_feeder.specs.Units.{APacket, ALine, IsUnitThen, IsFaultOf}
use Rattle.gm_laws.specs.Written.{RequestsAreRead}
use Rattle.gm_laws.specs.Commanding.{CommandsAreRead}

-- ---- packets

-- a packet to the server: NUL and REQ, the type and the size in four bytes each, and the data
abbrev pub requested : ℕ → List ℕ → List ℕ
requested number bytes = 0 ∷ 82 ∷ 69 ∷ 81 ∷ to_be_bytes w32 number ++ to_be_bytes w32 (length bytes) ++ bytes

-- with no more data than the limit says it is one unit, whatever follows
abbrev pub PacketsAreTaken : Type 0
PacketsAreTaken = (limits : Limits) (number : ℕ) (bytes after : List ℕ) → number < 2 ^ 32 → length bytes < 2 ^ 32 → length bytes ≤ limits.max_bytes →
    IsUnitThen limits (requested number bytes ++ after) (APacket number bytes) after

-- with more it is too large
abbrev pub MoreDataIsTooLarge : Type 0
MoreDataIsTooLarge = (limits : Limits) (number : ℕ) (bytes after : List ℕ) → length bytes < 2 ^ 32 → limits.max_bytes < length bytes →
    IsFaultOf limits (requested number bytes ++ after) PacketTooLarge

-- with other bytes after the NUL it is none
abbrev pub OtherMagicIsBad : Type 0
OtherMagicIsBad = (limits : Limits) (a b c : ℕ) (after : List ℕ) → (a ≡ 82 → b ≡ 69 → c ≡ 81 → ⊥) → IsFaultOf limits (0 ∷ a ∷ b ∷ c ∷ after) BadMagic

-- ---- text lines

-- neither `\n` nor `\r` is in the line
abbrev pub LacksEnds : List ℕ → Type 0
LacksEnds line = list_any (λ b. b == 10 || b == 13) line ≡ false

abbrev pub BeginsOtherwise : List ℕ → Type 0
BeginsOtherwise line = (rest : List ℕ) → line ≡ 0 ∷ rest → ⊥

-- a line ends with `\n` or with `\r\n`, and is one unit, whatever follows
abbrev pub LinesAreTaken : Type 0
LinesAreTaken = (limits : Limits) (line after : List ℕ) → LacksEnds line → BeginsOtherwise line → length line < limits.max_line →
    IsUnitThen limits (line ++ 10 ∷ after) (ALine line) after × IsUnitThen limits (line ++ 13 ∷ 10 ∷ after) (ALine line) after

-- one that is longer than the limit says is too long, whatever follows
abbrev pub LongLinesAreTooLong : Type 0
LongLinesAreTooLong = (limits : Limits) (line after : List ℕ) → LacksEnds line → BeginsOtherwise line → limits.max_line < length line →
    IsFaultOf limits (line ++ after) LineTooLong

-- ---- all of them

pub record WhatIsSpelledIsRead : Type 0 where
  pub packets : PacketsAreTaken
  pub large : MoreDataIsTooLarge
  pub other : OtherMagicIsBad
  pub requests : RequestsAreRead
  pub lines : LinesAreTaken
  pub long : LongLinesAreTooLong
  pub commands : CommandsAreRead
