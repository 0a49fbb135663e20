-- What a critical section does to the history.
use Rattle.std.proofs.Common.{◌≡◌, ℕ, ◌+◌, ◌*◌, Bool, true, false, if◌then◌else◌, List, [], ◌∷◌, ◌++◌, length, reverse, replicate, IfOk, Some, None, Result, Ok, Err, refl, sym, ap, ap₂, subst, ◌∙◌, arith}
use Rattle.std.proofs.lemmas.List.{reverse-append, reverse-reverse, length-append, length-reverse}
use Rattle.atomic_table.specs.Seated.{TableId}
use Rattle.gm_notes.specs.declared.event.Event.{Event}
use Rattle.gm_notes.specs.declared.event.ApplyError.{ApplyError}
use Rattle.gm_notes.specs.Settings.{Settings}
use Rattle.gm_notes.specs.Notes.{mode}
use Rattle.gm_notes.specs.Steps.{Step, refusal, done, run}
use Rattle.gm_notes.specs.Servers.{step_of, IsRefusal}
use Rattle.gm_core.specs.Holds.{config_of}
use Rattle.gm_word.specs.Seats.{PenState, fresh_pens}
use Rattle.gm_shared.specs.declared.book.Booked.{Booked}
use Rattle.gm_shared.specs.declared.events.Noop.{Noop}
use Rattle.gm_shared.specs.declared.events.Noop.TheVariants.{Left, Taken, Withdrawn}
use Rattle.gm_shared.specs.declared.receipt.Receipt.{Receipt}
use Rattle.gm_shared.specs.declared.receipt.Drained.{Drained}
use Rattle.gm_shared.specs.declared.tape.Actor.{Actor}
use Rattle.gm_shared.specs.declared.tape.Actor.TheVariants as actors
use Rattle.gm_shared.specs.declared.tape.Answer.TheVariants as answers
use Rattle.gm_shared.specs.declared.tape.Entry.{Entry}
use Rattle.gm_shared.specs.declared.tape.Told.{Told}
use Rattle.gm_shared.specs.declared.tape.Tape.{Tape}
use Rattle.gm_shared.specs.Events.{MayFind, entered}
use Rattle.gm_shared.specs.Tapes.{actor_code, share_of, steps_of, Legal, TapeIs, noop_entries, event_entry, holding_entries, tape_step, told_from, Grows, place_behind}
use Rattle.gm_shared.specs.Books.{BookedAgrees, AreTouched, Held, asked, unasked, Drains, IsDrainRefusal}
use Rattle.gm_shared.specs.Histories.{Knows, AreOf, AreBelow}
use Rattle.gm_shared.specs.Calls.{added, drained_entries, Calls, asks, lacks, Gives}
use Rattle.gm_shared.specs.Shared.{IsBlank, IsGuarded, actor_count}
use Rattle.gm_shared.specs.Openings.{count_at, Counts}
use Rattle.gm_shared.proofs.Opening.{Opened, held_counts, drained_counts, none_opened}
use Rattle.gm_shared.proofs.Shares.{share_grows}
use Rattle.gm_shared.proofs.Taping.{longer, noop_tape, event_tape}

-- ---- the history as a tape

-- a history, as a tape of which the oldest is the first
as_tape : (k : Settings) (log : List Entry) → Legal k log → TapeIs true (reverse log) k (steps_of log)
as_tape k log legal = subst (λ l. (steps_of log ≡ steps_of l) × Legal k l) (sym (reverse-reverse log)) (refl, legal)

-- and back, where these stand at the tape's end
as_log : (k : Settings) (log more : List Entry) (steps : List Step) → TapeIs true (reverse log ++ more) k steps → (steps ≡ steps_of (reverse more ++ log)) × Legal k (reverse more ++ log)
as_log k log more steps h = subst (λ l. (steps ≡ steps_of l) × Legal k l) (reverse-append (reverse log) more ∙ ap (λ l. reverse more ++ l) (reverse-reverse log)) h

noop_back : (desk : ℕ) (noop : Noop) → reverse (noop_entries desk noop) ≡ noop_entries desk noop
noop_back desk Left = refl
noop_back desk (Taken c) = refl
noop_back desk (Withdrawn c) = refl

noop_log : (k : Settings) (s : Step) (desk : ℕ) (noop : Noop) (log : List Entry) → MayFind noop s (run k (steps_of log)) → Legal k log
    → (entered noop (steps_of log) ≡ steps_of (noop_entries desk noop ++ log)) × Legal k (noop_entries desk noop ++ log)
noop_log k s desk noop log may legal =
    subst (λ l. (entered noop (steps_of log) ≡ steps_of (l ++ log)) × Legal k (l ++ log)) (noop_back desk noop)
    (as_log k log (noop_entries desk noop) (entered noop (steps_of log)) (noop_tape k s (steps_of log) desk noop may true (reverse log) (as_tape k log legal)))

-- what is entered on a tape, the oldest first, is what is added to the history
added_back : (desk : ℕ) (s : Step) (result : Result Receipt ApplyError) (noop : Noop) → reverse (added desk s result noop) ≡ holding_entries desk noop s result
added_back desk s (Ok receipt) Left = refl
added_back desk s (Ok receipt) (Taken c) = refl
added_back desk s (Ok receipt) (Withdrawn c) = refl
added_back desk s (Err refused) noop = noop_back desk noop

drained_back : (pen slot : ℕ) (result : Result Drained ApplyError) → reverse (drained_entries pen slot result) ≡ drained_entries pen slot result
drained_back pen slot (Ok drained) = refl
drained_back pen slot (Err refused) = refl

pub own_added : (desk : ℕ) (s : Step) (result : Result Receipt ApplyError) (noop : Noop) → AreOf (2 * desk) (added desk s result noop)
own_added desk s (Ok receipt) Left = (refl, tt)
own_added desk s (Ok receipt) (Taken c) = (refl, (refl, tt))
own_added desk s (Ok receipt) (Withdrawn c) = (refl, (refl, tt))
own_added desk s (Err refused) Left = tt
own_added desk s (Err refused) (Taken c) = (refl, tt)
own_added desk s (Err refused) (Withdrawn c) = (refl, tt)

pub own_drained : (pen slot : ℕ) (result : Result Drained ApplyError) → AreOf (2 * pen + 1) (drained_entries pen slot result)
own_drained pen slot (Ok drained) = (refl, tt)
own_drained pen slot (Err refused) = tt

-- ---- a tape that is the history

module _ (taped : Bool) (log more back : List Entry) (old new : Tape) (told : List Told) (on : old.on ≡ taped) (recorded : old.entries.items ≡ (if taped then reverse log else [])) (g : Grows back old new told) (is : reverse more ≡ back) where
  -- it is the longer one then
  pub recorded_after : new.entries.items ≡ (if taped then reverse (more ++ log) else [])
  recorded_after = by taped old.on on recorded g.entries
    where
      by : (t u : Bool) → u ≡ t → old.entries.items ≡ (if t then reverse log else []) → new.entries.items ≡ longer u old.entries.items back → new.entries.items ≡ (if t then reverse (more ++ log) else [])
      by true true same was now = now ∙ (ap₂ (λ xs ys. xs ++ ys) was (sym is) ∙ sym (reverse-append more log))
      by false false same was now = now ∙ was
      by true false same was now = absurd cc
      by false true same was now = absurd cc

  -- and its actor's share is what the actor has seen then
  pub shared_after : (a : Actor) (seen : List Entry) → AreOf (actor_code a) more → Knows log (actor_code a) seen → (share after : List Told) → share ≡ share_of taped a seen → after ≡ share ++ told
      → after ≡ share_of taped a (more ++ log)
  shared_after a seen are knows share after held e = by taped old.on on recorded g.told_is held
    where
      by : (t u : Bool) → u ≡ t → old.entries.items ≡ (if t then reverse log else []) → told ≡ (if u then told_from (length old.entries.items) back else []) → share ≡ share_of t a seen
          → after ≡ share_of t a (more ++ log)
      by true true same was now held =
          let entered : told ≡ told_from (length log) (reverse more) = now ∙ ap₂ told_from (ap length was ∙ length-reverse log) (sym is) in
          e ∙ (ap₂ (λ xs ys. xs ++ ys) held entered ∙ sym (share_grows a more log seen are knows))
      by false false same was now held = e ∙ ap₂ (λ xs ys. xs ++ ys) held now
      by true false same was now held = absurd cc
      by false true same was now held = absurd cc

-- the place behind what was entered
place_is : (taped : Bool) (log more : List Entry) (tape : Tape) → tape.on ≡ taped → tape.entries.items ≡ (if taped then reverse log else []) → place_behind more tape ≡ (if taped then Some (length (more ++ log)) else None)
place_is taped log more tape on recorded = by taped tape.on on recorded
  where
    by : (t u : Bool) → u ≡ t → tape.entries.items ≡ (if t then reverse log else []) → (if u then Some (length (tape.entries.items ++ more)) else None) ≡ (if t then Some (length (more ++ log)) else None)
    by true true same was =
        let sum : length (tape.entries.items ++ more) ≡ length (more ++ log) = omega (arith, length-append tape.entries.items more, length-append more log, ap length was, length-reverse log) in
        ap (λ (n : ℕ). Some n) sum
    by false false same was = refl
    by true false same was = absurd cc
    by false true same was = absurd cc

-- ---- a desk's call

module _ (k : Settings) (e : Event) (desk : ℕ) (noop : Noop) (touched : List ℕ) (old new : Booked) (told : List Told) (log : List Entry) (legal : Legal k log) where
  event_log : (receipt : Receipt) → MayFind noop (step_of e) (run k (steps_of log)) → refusal k (step_of e) (run k (entered noop (steps_of log))) ≡ None
      → receipt.done ≡ done k (step_of e) (run k (entered noop (steps_of log)))
      → (step_of e ∷ entered noop (steps_of log) ≡ steps_of (added desk (step_of e) (Ok receipt) noop ++ log)) × Legal k (added desk (step_of e) (Ok receipt) noop ++ log)
  event_log receipt may taken is =
      let first = noop_log k (step_of e) desk noop log may legal in
      let before = noop_entries desk noop ++ log in
      as_log k before (event_entry desk (tape_step (step_of e)) receipt.done ∷ []) (step_of e ∷ entered noop (steps_of log))
      (event_tape k e (entered noop (steps_of log)) desk receipt.done taken is true (reverse before) (subst (λ steps. TapeIs true (reverse before) k steps) (sym first.0) (as_tape k before first.1)))

  -- it leaves the book as the longer history says, which is legal
  pub held_log : (result : Result Receipt ApplyError) → Held k (steps_of log) (step_of e) desk noop result touched old new told
      → BookedAgrees new k (steps_of (added desk (step_of e) result noop ++ log)) × Legal k (added desk (step_of e) result noop ++ log)
  held_log (Ok receipt) (asked h) =
      let both = event_log receipt h.found h.event.taken h.event.done_is in
      (subst (BookedAgrees new k) both.0 h.event.agrees, both.1)
  held_log (Err refused) (asked h) =
      let first = noop_log k (step_of e) desk noop log h.found legal in
      (subst (BookedAgrees new k) first.0 h.event.1, first.1)
  held_log (Ok receipt) (unasked is h) = let bad : Ok receipt ≡ Err _ = h.wanting in absurd cc
  held_log (Err refused) (unasked is h) =
      subst (λ n. BookedAgrees new k (steps_of (noop_entries desk n ++ log)) × Legal k (noop_entries desk n ++ log)) (sym is) (h.agrees, legal)

  held_grows : (result : Result Receipt ApplyError) → Held k (steps_of log) (step_of e) desk noop result touched old new told
      → Grows (holding_entries desk noop (step_of e) result) old.tape new.tape told
  held_grows result (asked h) = h.tape
  held_grows (Ok receipt) (unasked is h) = let bad : Ok receipt ≡ Err _ = h.wanting in absurd cc
  held_grows (Err refused) (unasked is h) = subst (λ n. Grows (noop_entries desk n) old.tape new.tape told) (sym is) h.tape

  module _ (taped : Bool) (on : old.tape.on ≡ taped) (recorded : old.tape.entries.items ≡ (if taped then reverse log else [])) (result : Result Receipt ApplyError)
      (held : Held k (steps_of log) (step_of e) desk noop result touched old new told) where
    pub held_guarded : (table : TableId) → new.seat.table ≡ table → Opened result old.openings new.openings → Counts k.slots old.openings log → AreBelow (actor_count k.slots) (added desk (step_of e) result noop ++ log) → IsGuarded table k taped new (added desk (step_of e) result noop ++ log)
    held_guarded table same opened counts whose =
        let both = held_log result held in
        let grows = held_grows result held in
        record {
          agrees = both.0;
          legal = both.1;
          recorded = recorded_after taped log (added desk (step_of e) result noop) _ old.tape new.tape told on recorded grows (added_back desk (step_of e) result noop);
          whose = whose;
          table_is = same;
          on = grows.on ∙ on;
          counts = held_counts k (step_of e) desk noop result touched old new told log held opened counts;
        }

    pub held_shares : (seen : List Entry) → Knows log (2 * desk) seen → (share after : List Told) → share ≡ share_of taped (actors.Desk desk) seen → after ≡ share ++ told
        → after ≡ share_of taped (actors.Desk desk) (added desk (step_of e) result noop ++ log)
    held_shares seen knows =
        shared_after taped log (added desk (step_of e) result noop) _ old.tape new.tape told on recorded (held_grows result held) (added_back desk (step_of e) result noop)
        (actors.Desk desk) seen (own_added desk (step_of e) result noop) knows

  -- and is this of the history
  pub held_calls : (taped : Bool) → old.tape.on ≡ taped → old.tape.entries.items ≡ (if taped then reverse log else []) → (result : Result Receipt ApplyError)
      → Held k (steps_of log) (step_of e) desk noop result touched old new told → Calls k taped (step_of e) desk noop result touched log (added desk (step_of e) result noop ++ log)
  held_calls taped on recorded (Ok receipt) (asked h) =
      let first = noop_log k (step_of e) desk noop log h.found legal in
      let all = event_log receipt h.found h.event.taken h.event.done_is in
      asks (record {
        found = h.found;
        after_is = refl;
        answers = record {
          taken = subst (λ steps. refusal k (step_of e) (run k steps) ≡ None) first.0 h.event.taken;
          done_is = subst (λ steps. receipt.done ≡ done k (step_of e) (run k steps)) first.0 h.event.done_is;
          mode_is = subst (λ steps. receipt.mode ≡ mode (run k steps).notes) all.0 h.event.mode_is;
          touches = subst (λ steps. AreTouched k (steps_of log) steps touched) all.0 h.event.touches;
          renews = subst (λ (z : List Step × List Step). AreTouched k z.0 z.1 touched) (λ j. (first.0 j, all.0 j)) h.event.renews;
          at_is = h.place ∙ place_is taped log (noop_entries desk noop) old.tape on recorded;
        };
      })
  held_calls taped on recorded (Err refused) (asked h) =
      asks (record {
        found = h.found;
        after_is = refl;
        answers = subst (λ steps. IsRefusal refused (refusal k (step_of e) (run k steps))) (noop_log k (step_of e) desk noop log h.found legal).0 h.event.0;
      })
  held_calls taped on recorded (Ok receipt) (unasked is h) = let bad : Ok receipt ≡ Err _ = h.wanting in absurd cc
  held_calls taped on recorded (Err refused) (unasked is h) =
      lacks (record { on = sym on ∙ h.on; none = is; result_is = h.wanting; after_is = ap (λ n. noop_entries desk n ++ log) is })

-- ---- a pen's call

module _ (k : Settings) (pen slot : ℕ) (old new : Booked) (told : List Told) (log : List Entry) (legal : Legal k log) where
  pub drained_log : (result : Result Drained ApplyError) → Drains k (steps_of log) pen slot result old new told
      → BookedAgrees new k (steps_of (drained_entries pen slot result ++ log)) × Legal k (drained_entries pen slot result ++ log)
  drained_log (Ok drained) h = (h.agrees, (refl, ap (λ b. answers.Drained b) h.bytes_are, legal))
  drained_log (Err refused) h = (h.1, legal)

  drained_grows : (result : Result Drained ApplyError) → Drains k (steps_of log) pen slot result old new told → Grows (drained_entries pen slot result) old.tape new.tape told
  drained_grows (Ok drained) h = h.tape
  drained_grows (Err refused) h = h.2

  pub drained_gives : (taped : Bool) → old.tape.on ≡ taped → Counts k.slots old.openings log → (result : Result Drained ApplyError) → IfOk result (λ drained. drained.opening ≡ count_at slot old.openings) → Drains k (steps_of log) pen slot result old new told → Gives k taped slot result log
  drained_gives taped on counts (Ok drained) opening h = record { opened = h.opened; bytes_are = h.bytes_are; shut_is = h.shut_is; opening_is = opening ∙ counts.each slot }
  drained_gives taped on counts (Err refused) opening h = subst (IsDrainRefusal refused slot (run k (steps_of log))) on h.0

  module _ (taped : Bool) (on : old.tape.on ≡ taped) (recorded : old.tape.entries.items ≡ (if taped then reverse log else [])) (result : Result Drained ApplyError)
      (drains : Drains k (steps_of log) pen slot result old new told) where
    pub drained_guarded : (table : TableId) → new.seat.table ≡ table → new.openings ≡ old.openings → Counts k.slots old.openings log → AreBelow (actor_count k.slots) (drained_entries pen slot result ++ log) → IsGuarded table k taped new (drained_entries pen slot result ++ log)
    drained_guarded table same kept counts whose =
        let both = drained_log result drains in
        let grows = drained_grows result drains in
        record {
          agrees = both.0;
          legal = both.1;
          recorded = recorded_after taped log (drained_entries pen slot result) _ old.tape new.tape told on recorded grows (drained_back pen slot result);
          whose = whose;
          table_is = same;
          on = grows.on ∙ on;
          counts = subst (λ c. Counts k.slots c (drained_entries pen slot result ++ log)) (sym kept) (drained_counts k.slots pen slot result log old.openings counts);
        }

    pub drained_shares : (seen : List Entry) → Knows log (2 * pen + 1) seen → (share after : List Told) → share ≡ share_of taped (actors.Pen pen) seen → after ≡ share ++ told
        → after ≡ share_of taped (actors.Pen pen) (drained_entries pen slot result ++ log)
    drained_shares seen knows =
        shared_after taped log (drained_entries pen slot result) _ old.tape new.tape told on recorded (drained_grows result drains) (drained_back pen slot result)
        (actors.Pen pen) seen (own_drained pen slot result) knows

-- ---- a book that is opened

pub blank_is : (table : TableId) (booked : Booked) (k : Settings) (slots : ℕ) (seats : List PenState) → BookedAgrees booked k [] → booked.seat.table ≡ table → seats ≡ fresh_pens table k.slots → slots ≡ k.slots → booked.openings ≡ replicate k.slots 0
    → IsBlank table (config_of booked.core) slots booked seats
blank_is table booked k slots seats agrees same are count unopened =
    let is : config_of booked.core ≡ k = agrees.holds.core.settings in
    record {
      agrees = subst (λ (x : Settings). BookedAgrees booked x []) (sym is) agrees;
      slots_are = ap (λ (x : Settings). x.slots) is ∙ sym count;
      table_is = same;
      seats_are = are ∙ ap (fresh_pens table) (sym count);
      unopened = unopened ∙ ap (λ n. replicate n 0) (sym count);
    }

none_there : (es : List Entry) → [] ≡ steps_of es → es ≡ []
none_there [] h = refl
none_there (e ∷ es) h = absurd cc

begun : (es : List Entry) → [] ≡ steps_of (reverse es) → es ≡ []
begun es h = sym (reverse-reverse es) ∙ ap reverse (none_there (reverse es) h)

pub opens_guarded : (table : TableId) (k : Settings) (slots : ℕ) (booked : Booked) (seats : List PenState) (taped : Bool) (log : List Entry) → IsBlank table k slots booked seats → log ≡ []
    → booked.tape.on ≡ taped → IsGuarded table k taped booked log
opens_guarded table k slots booked seats taped log blank empty on =
    subst (IsGuarded table k taped booked) (sym empty)
    (record {
      agrees = blank.agrees;
      legal = tt;
      recorded = none taped booked.tape.on on blank.agrees.tape;
      whose = tt;
      table_is = blank.table_is;
      on = on;
      counts = subst (λ c. Counts k.slots c []) (ap (λ n. replicate n 0) blank.slots_are ∙ sym blank.unopened) (none_opened k.slots);
    })
  where
    none : (t u : Bool) → u ≡ t → TapeIs u booked.tape.entries.items k [] → booked.tape.entries.items ≡ (if t then [] else [])
    none true true same h = begun booked.tape.entries.items h.0
    none false false same h = h
    none true false same h = absurd cc
    none false true same h = absurd cc
