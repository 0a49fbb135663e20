use Rattle.std.proofs.Common.{◌≡◌, ℕ, Option, None, sym, ap, ◌∙◌}
use Rattle.gm_packet.specs.Kinds.{kind_of}
use Rattle.gm_notes.specs.Settings.{Settings}
use Rattle.gm_notes.specs.Jobs.{made}
use Rattle.gm_notes.specs.Past.{Past}
use Rattle.gm_notes.specs.Requests.{packet_of}
use Rattle.gm_notes.specs.Steps.{Packet, made_since, refusal, run, unless_not_open}
use Rattle.gm_actions.proofs.Changing.{agrees_next, agrees_refused}
use Rattle.gm_core.proofs.CoreLemmas.{goes_as}
use Rattle.gm_core.proofs.server.Tables.packet.Goals as goal

pub returns-in_err-created-clause-answers : goal.returns-in_err-created-clause-answers
returns-in_err-created-clause-answers c kind bytes reads k steps agrees =
    let taken : refusal k (Packet c.args.slot kind bytes) (run k steps) ≡ None =
    ap unless_not_open (sym (c.can_take_units.ensures.value (run k steps) agrees.past) ∙ c.if-not-can_take_units.false) in
    agrees_refused k steps (Packet c.args.slot kind bytes) c.from_residual.result c.from_residual.ensures taken agrees c.in_err-created.ensures.does

pub returns-clause-answers : goal.returns-clause-answers
returns-clause-answers c kind bytes reads k steps agrees =
    let past = run k steps in
    let old = c.args.self.now in
    let change : Settings → Past → Past = λ x. packet_of x c.args.slot (kind_of kind) bytes in
    let does = goes_as (change old.config) c.in_ok-created.ensures.does (λ p keeps. reads.does old.config c.args.slot p) in
    let taken : refusal k (Packet c.args.slot kind bytes) past ≡ None =
    ap unless_not_open (sym (c.can_take_units.ensures.value past agrees.past) ∙ c.if-not-can_take_units.false) in
    let is = reads.does old.config c.args.slot past ∙ ap (λ (x : Settings). change x past) agrees.settings in
    let created = c.in_ok-created.ensures.made past agrees.past ∙ ap (λ (q : Past). made_since (made past.notes) (made q.notes)) is in (
      (taken, ap (λ (o : Option ℕ). record { opened = None; created = o }) created),
      agrees_next k steps (Packet c.args.slot kind bytes) (change old.config) agrees does taken (ap (λ (x : Settings). change x past) agrees.settings),
    )
