use Rattle.std.proofs.Common.{arith, rules, ap, ◌∙◌, ◌≡◌, ◌++◌, length}
use Rattle.std.specs.Prelude.{Result, Ok, Err, OnErr}
use Rattle.std.specs.Int.{w32, to_be_bytes}
use Rattle.std.specs.List.{join_with_byte}
use Rattle.gm_packet.specs.Packets.{packet}
use Rattle.gm_packet.proofs.Joins.{header_and_data, texts_of}
use Rattle.gm_packet.proofs.Packets.{length-packet}
use Rattle.gm_packet.proofs.writing.put_packet.Goals as goal

pub returns : goal.returns
unfolding packet
returns c =
    let exact : c.data_len-size.result ≡ length (join_with_byte 0 (texts_of c.args.texts.now)) = omega (arith, c.data_len-size.ensures, c.requires) in
    record {
      ok =
          header_and_data _ _ _ _ _ c.args.magic.now (to_be_bytes w32 c.args.kind) (to_be_bytes w32 (length (join_with_byte 0 (texts_of c.args.texts.now)))) _
          c.in_ok-reserve.ensures.items c.put.ensures.items
          (c.header.ensures ∙ ap (λ n. c.args.magic.now ++ to_be_bytes w32 c.args.kind ++ to_be_bytes w32 n) exact)
          c.put_data.ensures.items;
      err = tt;
      full = tt;
    }

-- a fact that holds anyway
on_err : {T E : Type 0} (r : Result T E) (P : Type 0) → P → OnErr r P
on_err (Ok x) P h = tt
on_err (Err e) P h = h

pub returns-in_err-reserve : goal.returns-in_err-reserve
returns-in_err-reserve c =
    let whole = length-packet c.args.magic.now c.args.kind (join_with_byte 0 (texts_of c.args.texts.now)) c.told-magic in
    record {
      ok = search rules;
      err = search rules;
      full = on_err c.from_residual.result _ (omega (arith, whole, c.in_err-reserve.ensures.full, c.data_len-size.ensures, c.requires));
    }
