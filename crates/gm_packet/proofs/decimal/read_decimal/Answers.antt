use Rattle.std.proofs.Common.{◌∙◌, sym, rules}
use Rattle.gm_packet.proofs.Decimals.{digits_are_text, text_read, decimal_parsed}
use Rattle.gm_packet.proofs.decimal.read_decimal.Goals as goal

pub returns-in_err-text : goal.returns-in_err-text
returns-in_err-text c =
    absurd (digits_are_text c.args.digits.now _ _ c.from_utf8.result (search rules) c.from_utf8.ensures.cases (sym c.in_err-text.ensures.value))

pub returns : goal.returns
returns c =
    let read = text_read _ _ c.from_utf8.result c.in_ok-text.text c.from_utf8.ensures.cases c.in_ok-text.ensures.value in
    c.ok-2.ensures.value
    ∙ decimal_parsed c.args.most_digits c.args.digits.now c.in_ok-text.text.now c.parse.result c.if-digits-most_digits.false (search rules) read.0 c.parse.ensures.value.0
