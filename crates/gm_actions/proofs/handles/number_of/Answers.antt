use Rattle.std.proofs.Common.{◌≡◌, true, false, ap, sym, ◌∙◌, decimal, Ok}
use Rattle.std.proofs.lemmas.Slice.Eq.{bytes_eq-Decides}
use Rattle.gm_actions.proofs.HandleTexts.{not_utf8, read_back, not_read}
use Rattle.gm_actions.proofs.handles.number_of.Goals as goal

pub returns-in_default : goal.returns-in_default
returns-in_default c n lt e = not_utf8 c.args.digits.now c.in_default.ensures.cases.0 n lt e

pub returns-in_default-parse : goal.returns-in_default-parse
returns-in_default-parse c n lt e =
    not_read c.args.digits.now c.in-Ok.text.now c.in_default-parse.field-0 n lt e c.in-Ok.ensures.cases.0 (rw c.in_default-parse.is at c.parse.ensures.value.0)

pub returns-else-eq : goal.returns-else-eq
returns-else-eq c n lt e =
    let read : c.parse.result ≡ Ok n = read_back c.args.digits.now c.in-Ok.text.now n n c.parse.result lt e c.in-Ok.ensures.cases.0 c.parse.ensures.value.0 in
    let number : c.in-Ok-parse.number ≡ n = let both = sym c.in-Ok-parse.is ∙ read in cc in
    let text : c.as_bytes.result.now ≡ c.args.digits.now = c.as_bytes.ensures.value ∙ (c.format.ensures.text ∙ (ap decimal number ∙ sym e)) in
    let same : c.eq.result ≡ true = c.eq.ensures ∙ (bytes_eq-Decides c.as_bytes.result.now c.args.digits.now).1 text in
    let wrong : true ≡ false = sym same ∙ c.if-eq.false in
    absurd cc
