-- The bytes that come in are read as what they spell.
use Rattle.std.proofs.Common.{◌≡◌, ◌≢◌, ℕ, false, ◌||◌, List, [], ◌∷◌, ◌++◌, length, take, refl, sym, ap, ◌∙◌, arith, length-append, append_assoc}
use Rattle.std.specs.Prelude.{◌==◌}
use Rattle.std.specs.Int.{w32, to_be_bytes}
use Rattle.std.specs.List.{All, list_any}
use Rattle.std.proofs.lemmas.Bool.{both_ways, eq-eqb, or_parts, or_from}
use Rattle.std.proofs.lemmas.List.Elements.{All-nil, All-cons, All-append}
use Rattle.gm_packet.specs.Packets.{request_magic, packet}
use Rattle.gm_packet.proofs.Packets.{no_packet_begins_another}
use Rattle.gm_feeder.specs.declared.units.FeedFault.TheVariants.{LineTooLong}
use Rattle.gm_feeder.specs.Units.{APacket, ALine, BeginsWithNul, AgreesWithMagic, IsHopeless, IsFaultOf}
use Rattle.gm_feeder.proofs.HeadLemmas.{take_nil, hopeless-wrong_magic}
use Rattle.gm_feeder.proofs.LineLemmas.{line_not_nul, hopeless-long}
use Rattle.gm_feeder.proofs.StreamLemmas.{fault_stays}
use Rattle.gm_feeder.proofs.UnitLemmas.{nul_longer}
use Rattle.gm_laws.specs.Reading.{requested, PacketsAreTaken, MoreDataIsTooLarge, OtherMagicIsBad, LacksEnds, BeginsOtherwise, LinesAreTaken, LongLinesAreTooLong}
use Rattle.gm_laws.specs.Reading.{WhatIsSpelledIsRead}
use Rattle.gm_laws.proofs.Written.{ends_lacking, stays, goes, requests_read}
use Rattle.gm_laws.proofs.Commanding.{commands_read}

-- ---- whole packets

requested_is : (kind : ℕ) (bytes : List ℕ) → requested kind bytes ≡ packet request_magic kind bytes
unfolding packet
requested_is kind bytes = refl

taken : PacketsAreTaken
taken limits kind bytes after small fits within = record {
  whole = requested kind bytes;
  unit = record { spelled = requested_is kind bytes; kind_fits = small; size_fits = fits; within_limit = within };
  joined = refl;
}

large : MoreDataIsTooLarge
large limits kind bytes after fits more = (record { nul = nul; hopeless = hopeless }, agrees)
  where
    all : List ℕ
    all = requested kind bytes ++ after

    nul : BeginsWithNul all
    nul = (82 ∷ 69 ∷ 81 ∷ (to_be_bytes w32 kind ++ to_be_bytes w32 (length bytes) ++ bytes) ++ after, refl)

    hopeless : IsHopeless limits all
    hopeless extra (ALine text) rest u = absurd (line_not_nul limits (all ++ extra) text rest u (nul_longer all extra nul))
    hopeless extra (APacket other text) rest u =
        let one = u.unit in
        let is : packet request_magic kind bytes ++ (after ++ extra) ≡ packet request_magic other text ++ rest =
        ap (λ l. l ++ (after ++ extra)) (sym (requested_is kind bytes)) ∙ (sym (append_assoc (requested kind bytes) after extra) ∙ (u.joined ∙ ap (λ l. l ++ rest) one.spelled))
        in
        let same = ap length (no_packet_begins_another request_magic request_magic kind other bytes text (after ++ extra) rest refl refl fits one.size_fits is).3 in
        let within = one.within_limit in
        absurd (omega (arith, same, within))

    agrees : take 4 all ≡ take (length all) request_magic
    agrees = let none = take_nil (length ((to_be_bytes w32 kind ++ to_be_bytes w32 (length bytes) ++ bytes) ++ after)) in cc

other : OtherMagicIsBad
other limits a b c after differ = (record { nul = nul; hopeless = hopeless-wrong_magic limits (0 ∷ a ∷ b ∷ c ∷ after) nul never }, never)
  where
    nul : BeginsWithNul (0 ∷ a ∷ b ∷ c ∷ after)
    nul = (a ∷ b ∷ c ∷ after, refl)

    never : AgreesWithMagic (0 ∷ a ∷ b ∷ c ∷ after) → ⊥
    never e = let none = take_nil (length after) in
        let first : a ≡ 82 = cc in
        let second : b ≡ 69 = cc in
        let third : c ≡ 81 = cc in
        differ first second third

-- ---- whole lines

no_ten : (line : List ℕ) → LacksEnds line → All (λ b. b ≢ 10) line
no_ten [] lacks = All-nil (λ b. b ≢ 10)
no_ten (b ∷ line) lacks =
    let parts = or_parts (b == 10 || b == 13) (list_any (λ c. c == 10 || c == 13) line) lacks in
    let apart = or_parts (b == 10) (b == 13) parts.0 in
    All-cons (λ c. c ≢ 10) b line (λ e. both_ways (b == 10) apart.0 (eq-eqb b 10 e)) (no_ten line parts.1)

no_thirteen : (line : List ℕ) → LacksEnds line → list_any (λ b. b == 13) line ≡ false
no_thirteen [] lacks = refl
no_thirteen (b ∷ line) lacks =
    let parts = or_parts (b == 10 || b == 13) (list_any (λ c. c == 10 || c == 13) line) lacks in
    or_from (b == 13) (list_any (λ c. c == 13) line) (or_parts (b == 10) (b == 13) parts.0).1 (no_thirteen line parts.1)

otherwise : (line more : List ℕ) (b : ℕ) → BeginsOtherwise line → (b ≡ 0 → ⊥) → BeginsWithNul (line ++ b ∷ more) → ⊥
otherwise [] more b other some nul = some (let is = nul.1 in cc)
otherwise (c ∷ line) more b other some nul = other line (ap (λ x. x ∷ line) (let is = nul.1 in cc))

lines_taken : LinesAreTaken
lines_taken limits line after lacks other short = (
  record {
    whole = line ++ 10 ∷ [];
    unit = record {
      before = line;
      spelled = refl;
      one_line = no_ten line lacks;
      no_packet = otherwise line [] 10 other (λ e. let bad : ⊥ = cc in bad);
      within_limit = omega arith;
      said = sym (stays 13 line (ends_lacking 13 line (no_thirteen line lacks)));
    };
    joined = sym (append_assoc line (10 ∷ []) after);
  },
  record {
    whole = (line ++ 13 ∷ []) ++ 10 ∷ [];
    unit = record {
      before = line ++ 13 ∷ [];
      spelled = refl;
      one_line = All-append (λ b. b ≢ 10) line (13 ∷ []) (no_ten line lacks) (All-cons (λ b. b ≢ 10) 13 [] (λ e. let bad : ⊥ = cc in bad) (All-nil (λ b. b ≢ 10)));
      no_packet = λ nul. otherwise line (10 ∷ []) 13 other (λ e. let bad : ⊥ = cc in bad) (nul.0, sym (append_assoc line (13 ∷ []) (10 ∷ [])) ∙ nul.1);
      within_limit = omega (arith, length-append line (13 ∷ []));
      said = sym (goes 13 line);
    };
    joined = sym (append_assoc (line ++ 13 ∷ []) (10 ∷ []) after ∙ append_assoc line (13 ∷ []) (10 ∷ after));
  },
)

long : LongLinesAreTooLong
long limits line after lacks other more = fault_stays limits line after LineTooLong alone
  where
    alone : IsFaultOf limits line LineTooLong
    alone = record {
      no_nul = λ nul. other nul.0 nul.1;
      hopeless = hopeless-long limits line (λ nul. other nul.0 nul.1) more (λ at low. no_ten line lacks at 0 (omega arith));
    }

pub spelled_read : WhatIsSpelledIsRead
spelled_read = record { packets = taken; large = large; other = other; requests = requests_read; lines = lines_taken; long = long; commands = commands_read }
