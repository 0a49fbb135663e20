use Rattle.std.proofs.Common.{◌≡◌, ◌∙◌, ◌<◌, List, All, length, ap, sym, subst, get_or}
use Rattle.gm_shared.specs.Openings.{Counts}
use Rattle.gm_shared.specs.Tapes.{AddUp, steps_of}
use Rattle.gm_shared.specs.Books.{takings}
use Rattle.gm_shared.specs.Shared.{everybody, TookThose}
use Rattle.gm_core.specs.Holds.{CoreAgrees}
use Rattle.gm_slots.specs.Owners.{AreOwn}
use Rattle.gm_slots.specs.declared.account.Account.{Account}
use Rattle.gm_slots.specs.Accounts.{AreCounted}
use Rattle.gm_slots.specs.Served.{HasEverybody, AllClosed, IsWhole, SettledSo}
use Rattle.gm_slots.proofs.Owning.{ended_own, each_mapped}
use Rattle.gm_slots.proofs.Numbering.{as_many}
use Rattle.gm_slots.proofs.Accounted.{accounted, took_entered}
use Rattle.gm_slots.proofs.Ended.{not_settled, whole_of}
use Rattle.gm_slots.proofs.ending.settle_slots.Goals as goal
use Rattle.gm_slots.proofs.ending.settle_slots.Goals.{in-Ok, in-Err}

pub with_everybody-book-requires : goal.with_everybody-book-requires
with_everybody-book-requires g c =
    ap length c.as_slice-in-Ok.ensures.value ∙ (c.in_ok-desks.ensures.all ∙ as_many (λ slot. slot.lane.slot) c.args.slots.items c.args.slot_count c.requires.numbered)

pub returns : goal.returns
returns g c = elim c.match-settle.branch [
  | in-Ok w ↦
      let k = g.K.BookName.settings in
      let settled = w.in-Ok.ensures.settled in
      let ended = settled.ended in
      let desks = c.in_ok-desks.field-0.desks.items in
      let pens = c.in_ok-desks.field-0.pens.items in
      let all = c.in_ok-desks.ensures in
      let own : HasEverybody k w.in-Ok.settled → AreOwn ended.log = λ same. ended_own (λ desk. desk.number) (λ desk. desk.share.items) (λ desk. desk.witness) (λ pen. pen.slot) (λ pen. pen.share.items) (λ pen. pen.witness) k.slots ended.log
      desks pens w.in-Ok.settled.shares.items ended.whose ended.shares_are ended.seen
      (λ i none lt. let desk = get_or desks i none in (desk.witnessed.1, all.own i none lt))
      (λ i none lt. let pen = get_or pens i none in (pen.witnessed.1, pen.own)) same in
      let took : AllClosed k (steps_of w.in-Ok.settled.history.log) → All (λ pen. pen.slot < k.slots → pen.seat.takes ≡ takings pen.slot (steps_of ended.log)) pens = λ closed i none lt less.
      let pen = get_or pens i none in
      took_entered k ended.log pen.slot pen.seat.slot pen.seat.takes pen.sits (subst (λ l. AllClosed k (steps_of l)) ended.log_is closed pen.slot less)
      (each_mapped (TookThose k (steps_of ended.log)) (λ pen. pen.seat) pens settled.takes i none lt) in
      let told = subst (λ (l : List Account). (HasEverybody k w.in-Ok.settled → AllClosed k (steps_of w.in-Ok.settled.history.log) → AreCounted c.args.limits w.in-Ok.settled.history.log l
      → IsWhole k g.K.BookName.taped c.args.limits g.K.BookName.history w.in-Ok.settled l) → SettledSo k g.K.BookName.taped c.args.limits g.K.BookName.history w.with_everybody-book.result l) w.as_slice-in-Ok.ensures.value
      (w.with_everybody-book.ensures k g.K.BookName.taped g.K.BookName.history (w.as_slice.ensures.value ∙ (c.in_ok-actors.ensures ∙ ap everybody c.requires.sized))
      (sym c.requires.sized) (subst (λ l. CoreAgrees w.in-Ok.settled.core k (steps_of l)) (sym ended.log_is) ended.agrees)
      (subst (λ l. Counts k.slots w.in-Ok.settled.openings l) (sym ended.log_is) ended.counts)) in
      rw w.book-is (told
      (λ same closed counted. whole_of k g.K.BookName.taped c.args.limits g.K.BookName.history w.in-Ok.settled _ ended.log ended.log_is w.in-Ok.ensures.history ended.legal ended.agrees (own same) ended.tape
      (subst (AddUp w.in-Ok.settled.tape.items) (sym ended.shares_are) settled.up) same closed ended.counts
      (accounted (λ desk. desk.number) (λ desk. desk.share.items) (λ desk. desk.witness) (λ pen. pen.slot) (λ pen. pen.share.items) (λ pen. pen.witness) (λ pen. pen.seat.takes) k c.args.limits ended.log ended.legal (own same)
      desks pens w.in-Ok.settled.shares.items c.in_ok-desks.field-0.accounts.items ended.shares_are ended.seen
      (λ i none lt. (get_or desks i none).witnessed.1) (λ i none lt. (get_or pens i none).witnessed.1) (took closed) same all.accounts
      (all.all ∙ (as_many (λ slot. slot.lane.slot) c.args.slots.items c.args.slot_count c.requires.numbered ∙ c.requires.sized)) (subst (λ l. AreCounted c.args.limits l c.in_ok-desks.field-0.accounts.items) ended.log_is counted))))
  | in-Err w ↦ rw w.book-is (not_settled g.K.BookName.settings g.K.BookName.taped c.args.limits g.K.BookName.history _ w.in-Err.error _ _ w.in-Err.ensures.unsettled)
]
