use Rattle.std.proofs.Common.{[], ◌∷◌, ◌++◌, Err, refl, sym, ap, subst, ◌≡◌, ◌∙◌}
use Rattle.std.proofs.lemmas.List.{append_assoc}
use Rattle.std.proofs.lemmas.Result.{err_from_is_err_and}
use Rattle.gm_notes.specs.Notes.{phase}
use Rattle.gm_notes.specs.declared.states.Phase.TheVariants.{Owed}
use Rattle.gm_notes.specs.Steps.{Step, Close, run}
use Rattle.gm_notes.specs.Servers.{step_of}
use Rattle.gm_shared.specs.Events.{slot_of, MayFind, entered}
use Rattle.gm_shared.specs.Books.{asked, AreSlots}
use Rattle.gm_shared.specs.Tapes.{AreCopies, tape_step, noop_entries, event_entry, told_of}
use Rattle.gm_shared.proofs.Taping.{grows_none, grows_same, grows_twice, place_after, tape_same, tape_after, noop_tape, event_tape}
use Rattle.gm_shared.proofs.Keeping.{held_so}
use Rattle.gm_shared.proofs.Noops.{asks_still}
use Rattle.gm_shared.proofs.Applying.{closes_calm, asked_before, agrees_after, touches, renews, keeps_added}
use Rattle.gm_shared.proofs.book.Booked.hold.Goals as goal

pub returns-in_err-done-clause-holding : goal.returns-in_err-done-clause-holding
returns-in_err-done-clause-holding c = λ k steps h.
    let event = c.args.call.read.now.event in
    let desk = c.args.call.desk in
    let noop = c.resolve_noop-noop.result in
    let old = c.args.self.now.tape in
    let mid = c.resolve_noop-noop.new.self.tape in
    let found = c.resolve_noop-noop.ensures.found k steps (record { core = h.holds.core; slots = h.holds.slots; words = h.holds.words }) in
    let before = entered noop steps in
    let answer = c.in_err-done.ensures.answers k before found.1.core in
    let room = grows_none old mid (ap (λ t. t.on) c.resolve_noop-noop.ensures.tape ∙ c.room_for.ensures.on) (ap (λ t. t.entries.items) c.resolve_noop-noop.ensures.tape ∙ c.room_for.ensures.entries) in
    let first = c.enter_noop.ensures.grows in
    let kept_before = noop_tape k (step_of event) steps desk noop found.0 mid.on mid.entries.items (tape_after k steps [] old mid _ room (tape_same k steps old.on old.entries.items h.tape)) in
    let refused = err_from_is_err_and c.from_residual-in_err-done.result c.from_residual-in_err-done.ensures.1 in (
      told_of mid (noop_entries desk noop),
      first.1 ∙ ap (λ ts. ts ++ told_of mid (noop_entries desk noop)) c.room_for.ensures.share,
      held_so (refused.1 ∙ ap (λ e. Err e) refused.2)
          (asked (record {
            asks = c.resolve_noop-noop.ensures.asks k steps (record { core = h.holds.core; slots = h.holds.slots; words = h.holds.words });
            found = found.0;
            event = (
              answer.0,
              record {
                holds = record { core = answer.1; slots = found.1.slots; words = found.1.words };
                tape = tape_after k before _ mid c.enter_noop.new.self _ first.0 kept_before;
              },
            );
            tape = grows_twice [] (noop_entries desk noop) old mid c.enter_noop.new.self [] _ room first.0;
            place = tt;
          })),
    )

pub returns-clause-holding : goal.returns-clause-holding
returns-clause-holding c = λ k steps h.
    let event = c.args.call.read.now.event in
    let desk = c.args.call.desk in
    let noop = c.resolve_noop-noop.result in
    let old = c.args.self.now.tape in
    let mid = c.resolve_noop-noop.new.self.tape in
    let then_ = c.enter_noop.new.self in
    let new = c.follow.new.self.tape in
    let found = c.resolve_noop-noop.ensures.found k steps (record { core = h.holds.core; slots = h.holds.slots; words = h.holds.words }) in
    let before = entered noop steps in
    let answer = c.in_ok-done.ensures.answers k before found.1.core in
    let calm = λ (d : _) (is : step_of event ≡ Close d) (owed : phase d (run k before).notes ≡ Owed).
    closes_calm k d steps noop (subst (λ (s : Step). MayFind noop s (run k steps)) is found.0) owed in
    let room = grows_none old mid (ap (λ t. t.on) c.resolve_noop-noop.ensures.tape ∙ c.room_for.ensures.on) (ap (λ t. t.entries.items) c.resolve_noop-noop.ensures.tape ∙ c.room_for.ensures.entries) in
    let first = c.enter_noop.ensures.grows in
    let done = c.in_ok-done.done in
    let copies = subst (λ on. AreCopies on (tape_step (step_of event)) c.in_ok-copies.copies) (sym (ap (λ t. t.on) c.resolve_noop-noop.ensures.tape) ∙ sym first.0.on) c.in_ok-copies.ensures.copies in
    let second = c.enter_event-at.ensures.grows (tape_step (step_of event)) copies in
    let last = grows_same _ then_ c.enter_event-at.new.self new _ second.0 c.follow.ensures.tape in
    let noop_all = grows_twice [] (noop_entries desk noop) old mid then_ [] _ room first.0 in
    let told = told_of mid (noop_entries desk noop) ++ told_of then_ (event_entry desk (tape_step (step_of event)) done ∷ []) in
    let begun = tape_after k steps [] old mid _ room (tape_same k steps old.on old.entries.items h.tape) in
    let noop_kept = tape_after k before _ mid then_ _ first.0 (noop_tape k (step_of event) steps desk noop found.0 mid.on mid.entries.items begun) in
    let all_kept = tape_after k (step_of event ∷ before) _ then_ new _ last (event_tape k event before desk done answer.0.0 answer.0.1 then_.on then_.entries.items noop_kept) in (
      told,
      second.1 ∙ (ap (λ ts. ts ++ told_of then_ (event_entry desk (tape_step (step_of event)) done ∷ [])) (first.1 ∙ ap (λ ts. ts ++ told_of mid (noop_entries desk noop)) c.room_for.ensures.share) ∙ append_assoc c.args.share.now.items _ _),
      asked (record {
        asks = asks_still (slot_of (step_of event)) k steps c.args.self.now.seat.lines c.resolve_noop-noop.new.self.seat.lines c.follow.new.self.seat.lines
            (c.resolve_noop-noop.ensures.asks k steps (record { core = h.holds.core; slots = h.holds.slots; words = h.holds.words }))
            (asked_before k event before c.resolve_noop-noop.new.self _ c.follow.new.self _ _ found.1 refl refl answer.1 c.in_ok-done.ensures.touched c.follow.ensures.follows calm);
        found = found.0;
        event = record {
          taken = answer.0.0;
          done_is = answer.0.1;
          mode_is = c.mode.ensures k _ (c.follow.ensures.follows.touched.follows.agrees k _ answer.1);
          agrees = record {
            holds = agrees_after k event before c.resolve_noop-noop.new.self _ c.follow.new.self _ _ found.1 refl refl answer.1 c.in_ok-done.ensures.touched c.follow.ensures.follows calm;
            tape = all_kept;
          };
          touches = touches k event before c.resolve_noop-noop.new.self _ c.follow.new.self _ _ found.1 refl refl answer.1 c.in_ok-done.ensures.touched c.follow.ensures.follows calm c.args.self.now steps noop refl h.holds.core c.resolve_noop-noop.ensures.touched;
          renews = renews k event before c.resolve_noop-noop.new.self _ c.follow.new.self _ _ found.1 refl refl answer.1 c.in_ok-done.ensures.touched c.follow.ensures.follows calm;
        };
        tape = grows_twice (noop_entries desk noop) _ old then_ new _ _ noop_all last;
        place = c.enter_event-at.ensures.place (tape_step (step_of event)) copies ∙ place_after _ old then_ _ noop_all;
      }),
    )

pub returns-clause-kept : goal.returns-clause-kept
returns-clause-kept c = keeps_added c.follow.ensures.follows.touched.these _ _ c.follow.ensures.follows.touched.adds

pub returns-clause-within : goal.returns-clause-within
returns-clause-within c =
    subst (λ slots. AreSlots slots c.args.touched.now → AreSlots slots c.follow.new.touched) c.resolve_noop-noop.ensures.slots c.follow.ensures.within
