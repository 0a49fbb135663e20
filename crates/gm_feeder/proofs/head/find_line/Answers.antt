use Rattle.std.proofs.Common.{arith, ◌+◌, ◌<◌, ◌≤◌}
use Rattle.gm_feeder.proofs.LineLemmas.{length-slice, newline_at, none_further, none_below, line_found, hopeless-long, waits-open}
use Rattle.gm_feeder.proofs.head.find_line.Goals as goal

pub returns-in-Some : goal.returns-in-Some
returns-in-Some c =
    let bytes = c.args.bytes.now in
    let from = c.args.scanned in
    let end = c.min-end.result in
    let at = from + c.in-Some.more in
    let first = c.in-Some.ensures.0 in
    let scanned = c.requires.scanned in
    let ordered : from ≤ end = omega (arith, scanned.within, scanned.within_limit, c.min-end.ensures) in
    let within : at < end = omega (arith, first.high, length-slice bytes from end ordered (omega (arith, c.min-end.ensures))) in
    let is = newline_at bytes from end c.in-Some.more within c.in-Some.ensures.1 in
    let none = none_further c.args.limits bytes from end c.in-Some.more scanned (omega arith) first.before in (
      omega (arith, c.min-end.ensures),
      line_found c.args.limits bytes at c.requires.text (omega (arith, c.min-end.ensures)) (omega (arith, c.min-end.ensures)) is none,
    )

pub returns-then-end-most : goal.returns-then-end-most
returns-then-end-most c =
    let bytes = c.args.bytes.now in
    let scanned = c.requires.scanned in
    let ordered : c.args.scanned ≤ c.min-end.result = omega (arith, scanned.within, scanned.within_limit, c.min-end.ensures) in
    let none = none_below c.args.limits bytes c.args.scanned c.min-end.result scanned ordered (omega (arith, c.min-end.ensures)) c.in_default.ensures in
    record {
      no_nul = c.requires.text;
      hopeless = hopeless-long c.args.limits bytes c.requires.text (omega (arith, c.min-end.ensures)) (λ k low. none k (omega (arith, c.min-end.ensures)));
    }

pub returns : goal.returns
returns c =
    let bytes = c.args.bytes.now in
    let scanned = c.requires.scanned in
    let ordered : c.args.scanned ≤ c.min-end.result = omega (arith, scanned.within, scanned.within_limit, c.min-end.ensures) in
    let none = none_below c.args.limits bytes c.args.scanned c.min-end.result scanned ordered (omega (arith, c.min-end.ensures)) c.in_default.ensures in (
      waits-open c.args.limits bytes c.requires.text (omega (arith, c.min-end.ensures)) (λ k low. none k (omega (arith, c.min-end.ensures))),
      record { within = omega (arith, c.min-end.ensures); within_limit = omega arith; no_newline = none },
    )
