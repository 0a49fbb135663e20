use Rattle.std.proofs.Common.{◌≡◌, ◌<◌, ℕ, List, true, Option, Some, None, sym, ap, subst, ◌∙◌, arith}
use Rattle.gm_notes.specs.declared.note.Note.TheVariants.{Opened}
use Rattle.gm_notes.specs.Settings.{Settings}
use Rattle.gm_notes.specs.Flow.{Began}
use Rattle.gm_notes.specs.Notes.{mode, accepts_connections}
use Rattle.gm_notes.specs.Jobs.{made}
use Rattle.gm_notes.specs.Past.{Past, with_note, with_flow}
use Rattle.gm_notes.specs.Steps.{Open, free_from, free_slot, opening, made_since, if_accepted}
use Rattle.gm_notes.specs.Steps.{run}
use Rattle.gm_notes.proofs.FreeSlots.{free_is}
use Rattle.gm_actions.proofs.Changing.{agrees_next, agrees_refused}
use Rattle.gm_plain.proofs.ServerLemmas.{goes_then, accepted}
use Rattle.gm_actions.proofs.JobsMade.{none_made}
use Rattle.gm_plain.proofs.server.PlainServer.open.Goals as goal
use Rattle.gm_plain.proofs.server.PlainServer.open.Goals.{In-Some}

below : (c : In-Some) → c.in-Some.slot < c.args.self.now.config.slots
below c =
    let lt = (free_is 0 c.args.self.now.log.slots c.args.self.now.log.notes c.in-Some.slot (sym c.in-Some.ensures)).0 in
    omega (arith, lt, c.args.self.now.slots)

pub note-requires-clause-fits : goal.note-requires-clause-fits
note-requires-clause-fits c =
    subst (λ (k : Settings). c.in-Some.slot < k.slots) (sym c.make_room.ensures.goes.config) (below (goal.at-note-requires-clause-fits c).In-Some)

pub empty-requires : goal.empty-requires
empty-requires c =
    subst (λ (k : Settings). c.in-Some.slot < k.slots) (sym (c.note.ensures.goes.config ∙ c.make_room.ensures.goes.config)) (below (goal.at-empty-requires c).In-Some)

free : (c : In-Some) (k : Settings) (past : Past) → c.args.self.now.config ≡ k → c.args.self.now.log.notes ≡ past.notes → free_slot k past ≡ Some c.in-Some.slot
free c k past settings notes =
    ap (free_from 0 k.slots) (sym notes) ∙ (ap (λ n. free_from 0 n c.args.self.now.log.notes) (ap (λ (x : Settings). x.slots) (sym settings) ∙ sym c.args.self.now.slots) ∙ sym c.in-Some.ensures)

goes : (c : In-Some) (past : Past) → c.args.self.now.log.notes ≡ past.notes → accepts_connections (mode past.notes) ≡ true
goes c past notes = ap (λ l. accepts_connections (mode l)) (sym notes) ∙ (ap accepts_connections (sym c.mode.ensures) ∙ (sym c.accepts_connections.ensures ∙ c.if-not-accepts_connections.false))

pub returns-in_err-make_room : goal.returns-in_err-make_room
returns-in_err-make_room c k steps agrees =
    let o = (goal.at-returns-in_err-make_room c).In-Some in
    let past = run k steps in
    let taken : if_accepted (mode past.notes) (free_slot k past) ≡ None =
    accepted (mode past.notes) (free_slot k past) c.in-Some.slot (goes o past agrees.past.notes_are) (free o k past agrees.settings agrees.past.notes_are) in
    agrees_refused k steps (Open c.args.addr.now) c.from_residual-in_err-make_room.result c.from_residual-in_err-make_room.ensures taken agrees c.make_room.ensures.goes

pub returns : goal.returns
returns c k steps agrees =
    let o = (goal.at-returns c).In-Some in
    let past = run k steps in
    let found = free o k past agrees.settings agrees.past.notes_are in
    let taken : if_accepted (mode past.notes) (free_slot k past) ≡ None =
    accepted (mode past.notes) (free_slot k past) c.in-Some.slot (goes o past agrees.past.notes_are) found in
    let none : made_since (made past.notes) (made (opening (free_slot k past) c.args.addr.now past).notes) ≡ None =
    ap (λ f. made_since (made past.notes) (made (opening f c.args.addr.now past).notes)) found ∙ none_made (made past.notes) in (
      (taken, ap (λ (f : Option ℕ). record { opened = f; created = None }) (sym found) ∙ ap (λ (n : Option ℕ). record { opened = free_slot k past; created = n }) (sym none)),
      agrees_next k steps (Open c.args.addr.now) _ agrees (goes_then (goes_then c.make_room.ensures.goes c.note.ensures.goes) c.empty.ensures.began) taken
          (ap (λ (a : List ℕ). with_flow (Began c.in-Some.slot) (with_note (Opened c.in-Some.slot a) past)) c.in_ok-addr.ensures ∙ ap (λ f. opening f c.args.addr.now past) (sym found)),
    )
