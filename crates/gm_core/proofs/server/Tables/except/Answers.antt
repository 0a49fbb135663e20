use Rattle.std.proofs.Common.{◌≡◌, ◌+◌, ◌≤◌, ℕ, Bool, true, false, not, filter, List, refl, sym, ap, subst, ◌∙◌, arith}
use Rattle.gm_packet.specs.Answers.{answer_of, work_fail}
use Rattle.gm_notes.specs.Jobs.{handle, listeners}
use Rattle.gm_notes.specs.Past.{Past, tell_all}
use Rattle.gm_notes.specs.Workers.{hearers, tell_others, tell_work}
use Rattle.gm_conns.specs.ConnTables as conns
use Rattle.gm_jobs.specs.Tables.{job, listeners_of}
use Rattle.gm_actions.specs.Actions.{option_report, work_of}
use Rattle.gm_core.specs.declared.server.Tables.{Tables}
use Rattle.gm_core.specs.Holds.{Goes}
use Rattle.gm_core.specs.Telling.{hears, needed}
use Rattle.gm_core.specs.Writing.{Text}
use Rattle.gm_core.proofs.CoreLemmas.{goes_as, goes_then, kept_then}
use Rattle.gm_core.proofs.OnceLemmas.{filter_alike}
use Rattle.gm_core.proofs.TellLemmas.{hears_roomed, roomed_then}
use Rattle.gm_core.proofs.WorkLemmas.{excepted, goes_with_room, room_left, told_each, told_others}
use Rattle.gm_core.proofs.server.Tables.except.Goals as goal
use Rattle.gm_core.proofs.server.Tables.except.Goals.{After-put_each-2}

-- what both kinds of listeners are told
abbrev telling : After-put_each-2 → Past → Past
telling c past =
    let told = tell_all (answer_of c.args.packet.now.response) (hearers true (listeners c.args.job past.notes) past.notes) past in
    tell_others true (work_fail (handle c.args.self.now.config c.args.job)) (listeners c.args.job told.notes) told.notes told

told : (c : After-put_each-2) → Goes c.args.self.now (record c.args.self.now { conns = c.put_each-2.new.conns; text = c.put_each.new.text }) (telling c)
told c =
    let old = c.args.self.now in
    let n = c.args.job in
    let slots = c.listeners-slots.result.now in
    let ready : Tables = record old { conns = c.reserve_each.new.conns; text = c.prepare_each.new.text } in
    let heard : Tables = record ready { conns = c.put_each.new.conns; text = c.put_each.new.text } in
    let roomed = roomed_then old.conns c.prepare_each.new.conns ready.conns c.in_ok-prepare_each.ensures.roomed c.in_ok-reserve_each.ensures.roomed in
    let others : c.deref-2.result.now ≡ filter (λ d. not (hears heard.conns true d)) (listeners_of (job old.jobs n)) =
    c.deref-2.ensures.value
    ∙ (c.in_ok-others.ensures
    ∙ (filter_alike (λ d. not (hears old.conns true d)) (λ d. not (hears heard.conns true d)) slots
    (λ d. ap not (sym (c.put_each.ensures.poured.hear true d ∙ hears_roomed old.conns ready.conns true roomed d)))
    ∙ ap (filter (λ d. not (hears heard.conns true d))) c.listeners-slots.ensures)) in
    goes_then
    (goes_then
    (goes_with_room {old = old} {new = ready} (record { config = refl; functions = refl; jobs = refl; moment = refl; mode = refl }) roomed)
    (told_each ready heard.conns heard.text n true slots c.requires.runs c.listeners-slots.ensures c.put_each.ensures.poured.touched c.put_each.ensures.holds
    (answer_of c.args.packet.now.response) c.in_ok-prepare_each.ensures.text))
    (told_others heard c.put_each-2.new.conns n c.of-failure.result.bytes c.deref-2.result.now c.requires.runs others c.put_each-2.ensures.poured.touched c.put_each-2.ensures.holds
    (work_fail (handle old.config n)) (ap (λ (t : Text). t.bytes) c.of-failure.ensures ∙ c.in_ok-failure.ensures))

pub put_each-requires-2-clause-room : goal.put_each-requires-2-clause-room
put_each-requires-2-clause-room c =
    let first = c.prepare_each.new.conns in
    let second = c.reserve_each.new.conns in
    let slots = c.listeners-slots.result.now in
    let cost = c.prepare_each.new.text.cost in
    let fits = subst (λ (t : Bool). (d : ℕ) → needed cost d (filter (hears first t) slots) ≤ (conns.conn first d).room) c.requires.only c.in_ok-prepare_each.ensures.room in
    let costs = ap (λ (t : Text). t.cost) c.of-failure.ensures in
    let length : c.len.result ≡ c.of-failure.result.cost = omega (arith, c.len.ensures, c.in_ok-failure.failure.ok.0, costs) in
    let beside = subst (λ (count : ℕ). (d : ℕ) → (conns.conn first d).room + needed count d (filter (hears first false) c.deref.result.now) ≤ (conns.conn second d).room) length c.in_ok-reserve_each.ensures.room in
    room_left first second c.in_ok-reserve_each.ensures.roomed slots cost fits c.deref-2.result.now c.of-failure.result.cost
    (subst (λ (l : List ℕ). (d : ℕ) → (conns.conn first d).room + needed c.of-failure.result.cost d (filter (hears first false) l) ≤ (conns.conn second d).room)
    (c.deref.ensures.value ∙ sym c.deref-2.ensures.value) beside)
    c.put_each.new.conns c.put_each.ensures.poured

pub end_if-requires-clause-kept : goal.end_if-requires-clause-kept
end_if-requires-clause-kept c = kept_then (told (goal.at.end_if-requires-clause-kept c).After-put_each-2) c.requires.kept

pub returns-clause-does : goal.returns-clause-does
returns-clause-does c =
    let k = c.args.self.now.config in
    let n = c.args.job in
    let w = work_of k c.args.packet.now in
    goes_as (tell_work k w n)
    (goes_then (told (goal.at.returns-clause-does c).After-put_each-2) c.end_if.ensures.goes)
    (λ p keeps. excepted k w n p c.requires.only c.requires.ends (ap option_report (c.args.packet.now.told_to_all c.requires.only)))
