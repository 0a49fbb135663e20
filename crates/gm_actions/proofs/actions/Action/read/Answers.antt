use Rattle.std.proofs.Common.{◌≤◌, ℕ, List, length, sym, ap, subst, ◌∙◌}
use Rattle.gm_packet.specs.Kinds.{kind_of}
use Rattle.gm_packet.specs.Requests.{request_of}
use Rattle.gm_packet.specs.Views.{asked_of}
use Rattle.gm_notes.specs.Past.{refuse}
use Rattle.gm_notes.specs.Requests.{packet_of}
use Rattle.gm_notes.specs.Withdrawals.{asks_a_job}
use Rattle.gm_actions.specs.Refusals.{code_of}
use Rattle.gm_actions.proofs.ReadingLemmas.{read_taken, read_refused}
use Rattle.gm_actions.proofs.actions.Action.read.Goals as goal

pub returns-in-Ok-clause-does : goal.returns-in-Ok-clause-does
returns-in-Ok-clause-does c k slot p =
    c.read_request.ensures.does k slot p
    ∙ (read_taken k slot (kind_of c.args.kind) c.as_slice.result.now (asked_of c.in-Ok.request) p c.in-Ok.ensures.exact
    ∙ ap (λ (bytes : List ℕ). packet_of k slot (kind_of c.args.kind) bytes p) c.as_slice.ensures)

pub returns-in-Err-clause-does : goal.returns-in-Err-clause-does
returns-in-Err-clause-does c k slot p =
    ap (λ r. refuse slot (code_of r) p) c.find_fault.ensures
    ∙ (read_refused k slot (kind_of c.args.kind) c.as_slice.result.now c.in-Err.field-0 p c.in-Err.ensures.exact
    ∙ ap (λ (bytes : List ℕ). packet_of k slot (kind_of c.args.kind) bytes p) c.as_slice.ensures)

pub returns-in-Ok-clause-told : goal.returns-in-Ok-clause-told
returns-in-Ok-clause-told c sized =
    let short = subst (λ (bytes : List ℕ). length bytes ≤ 1073741824) (sym c.as_slice.ensures) sized in
    c.read_request.ensures.told (record { bytes = c.as_slice.result.now; spelled = c.in-Ok.ensures.found.1; sized = short })

pub returns-in-Ok-clause-grab : goal.returns-in-Ok-clause-grab
returns-in-Ok-clause-grab c =
    c.read_request.ensures.grab
    ∙ (ap asks_a_job c.in-Ok.ensures.exact ∙ ap (λ (bytes : List ℕ). asks_a_job (request_of c.args.kind bytes)) c.as_slice.ensures)

pub returns-in-Err-clause-grab : goal.returns-in-Err-clause-grab
returns-in-Err-clause-grab c = ap asks_a_job c.in-Err.ensures.exact ∙ ap (λ (bytes : List ℕ). asks_a_job (request_of c.args.kind bytes)) c.as_slice.ensures
