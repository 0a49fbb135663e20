-- Deliveries, added up.
use Rattle.std.proofs.Common.{◌≡◌, ℕ, ℤ, ◌+◌, ◌-◌, ◌*◌, ◌==◌, ◌<◌, ◌≤◌, Bool, true, false, List, [], ◌∷◌, ◌++◌, length, Option, Some, None, Result, Ok, Err, refl, sym, ap, ap₂, subst, ◌∙◌, arith, append_assoc, eq-eqb, ne_eqb}
use Rattle.std.proofs.lemmas.Bool.{eqb-true, ltb-true, ltb-false}
use Rattle.std.specs.Prelude.{◌&&◌, not, if◌then◌else◌, MatchBool, map}
use Rattle.std.proofs.lemmas.List.{append-nil}
use Rattle.gm_notes.specs.Settings.{Settings}
use Rattle.gm_notes.specs.declared.event.ApplyError.{ApplyError}
use Rattle.gm_shared.specs.declared.tape.Entry.{Entry}
use Rattle.gm_shared.specs.declared.receipt.Drained.{Drained}
use Rattle.gm_shared.specs.Tapes.{actor_code, drain_entry}
use Rattle.gm_shared.specs.Histories.{calls_by}
use Rattle.gm_shared.specs.Openings.{openings, most_openings, counted}
use Rattle.gm_shared.specs.Calls.{PenCalled}
use Rattle.gm_shared.specs.Pairings.{SideState, passed_with}
use Rattle.gm_delivery.specs.Messages.{message_of}
use Rattle.gm_delivery.specs.declared.account.Sendings.{Sendings}
use Rattle.gm_delivery.specs.declared.account.Past.{Past}
use Rattle.gm_delivery.specs.Accounts.{DrainedMessage, bytes_in, drains_at, sent_by, drains_in, takes_in, IsWritten, IsPrefixWritten, WrittenTo, ArePast, AreOver, WentThrough, closed}
use Rattle.gm_delivery.specs.declared.life.Deed.{Deed}
use Rattle.gm_delivery.specs.declared.life.Deed.TheVariants.{Serve, Send, Linger, HangUp, LetGo}
use Rattle.gm_delivery.specs.declared.life.OutboundState.{OutboundState}
use Rattle.gm_delivery.specs.declared.life.OutboundState.TheVariants.{Open, Finished, Cut}
use Rattle.gm_delivery.specs.Sendings.{Outbound, SenderState, present, IsOutboundSo, IsOutbound, began, GoesThrough, IsSender, cut, can_send, is_open, is_clear, SendsPart, Sends, SendsTo, SendsLeft, whole_in, can_begin, Looked, LookedAt, next_by, Decides}
use Rattle.gm_delivery.specs.Lives.{deed_of, cut_state, state_if, state_by}

-- ---- what a pen was given

-- entries of others give nothing
pub none_drained : (n c : ℕ) (newer seen : List Entry) → calls_by (2 * c + 1) newer ≡ [] → drains_at n c (newer ++ seen) ≡ drains_at n c seen
none_drained n c [] seen none = refl
none_drained n c (e ∷ newer) seen none = by (2 * c + 1 == actor_code e.actor) (none_drained n c newer seen) none
  where
    by : (own : Bool) → (calls_by (2 * c + 1) newer ≡ [] → drains_at n c (newer ++ seen) ≡ drains_at n c seen) → (if own then e ∷ calls_by (2 * c + 1) newer else calls_by (2 * c + 1) newer) ≡ []
        → (if own && (openings c (newer ++ seen) == n) then bytes_in e.answer ∷ drains_at n c (newer ++ seen) else drains_at n c (newer ++ seen)) ≡ drains_at n c seen
    by true rest bad = absurd cc
    by false rest none = rest none

module _ (k : Settings) (taped : Bool) (slot : ℕ) (drained : Drained) (seen after : List Entry) (called : PenCalled k taped slot slot (Ok drained) seen after) where
  abbrev grown : List Entry
  grown = called.knows.newer ++ seen

  after_is : after ≡ drain_entry slot slot drained.bytes.bytes ∷ grown
  after_is = called.after_is ∙ ap (λ l. drain_entry slot slot drained.bytes.bytes ∷ l) called.knows.goes_on

  told_is : drained.opening ≡ counted (openings slot grown)
  told_is = called.gives.opening_is ∙ ap (λ l. counted (openings slot l)) called.knows.goes_on

  -- a drain is of the present opening
  of_present : (n : ℕ) (now : Bool) → (openings slot grown == n) ≡ now
      → drains_at n slot after ≡ (if now then drained.bytes.bytes ∷ drains_at n slot seen else drains_at n slot seen)
  of_present n now is =
      ap (drains_at n slot) after_is
      ∙ (ap (λ (own : Bool). if own && (openings slot grown == n) then drained.bytes.bytes ∷ drains_at n slot grown else drains_at n slot grown) (eq-eqb (2 * slot + 1) (2 * slot + 1) refl)
      ∙ ap₂ (λ (now : Bool) (rest : List (List ℕ)). if now then drained.bytes.bytes ∷ rest else rest) is (none_drained n slot called.knows.newer seen called.knows.others))

  drains_here : (n : ℕ) → drained.opening ≡ n → n < most_openings → drains_at n slot after ≡ drained.bytes.bytes ∷ drains_at n slot seen
  drains_here n is below = let told = told_is in of_present n true (eq-eqb (openings slot grown) n (omega arith))

  drains_elsewhere : (n : ℕ) → (drained.opening ≡ n → ⊥) → n < most_openings → drains_at n slot after ≡ drains_at n slot seen
  drains_elsewhere n isnt below = of_present n false (ne_eqb (openings slot grown) n (λ now. isnt (told_is ∙ (let t = now in omega arith))))

-- whether this was drained at the n-th opening
abbrev is_at : Result Drained ApplyError → ℕ → Bool
is_at (Ok drained) n = drained.opening == n
is_at (Err error) n = false

-- at another opening the pen was given nothing more
drains_still : (k : Settings) (taped : Bool) (slot : ℕ) (result : Result Drained ApplyError) (seen after : List Entry) → PenCalled k taped slot slot result seen after
    → (n : ℕ) → is_at result n ≡ false → n < most_openings → drains_at n slot after ≡ drains_at n slot seen
drains_still k taped slot (Ok drained) seen after called n other below = drains_elsewhere k taped slot drained seen after called n (λ is. let bad = sym (eq-eqb drained.opening n is) ∙ other in absurd cc) below
drains_still k taped slot (Err error) seen after called n other below =
    ap (drains_at n slot) (called.after_is ∙ called.knows.goes_on) ∙ none_drained n slot called.knows.newer seen called.knows.others

goes_on : (k : Settings) (taped : Bool) (slot : ℕ) (result : Result Drained ApplyError) (seen after : List Entry) → PenCalled k taped slot slot result seen after → (newer : List Entry) × (after ≡ newer ++ seen)
goes_on k taped slot (Ok drained) seen after called = (drain_entry slot slot drained.bytes.bytes ∷ called.knows.newer, after_is k taped slot drained seen after called)
goes_on k taped slot (Err error) seen after called = (called.knows.newer, called.after_is ∙ called.knows.goes_on)

over_more : (c : ℕ) (past : List Past) (seen after : List Entry) → ((n : ℕ) → n < length past + 1 → drains_at n c after ≡ drains_at n c seen) → AreOver c past seen → AreOver c past after
over_more c [] seen after same over = tt
over_more c (p ∷ older) seen after same over = (same (length older + 1) (omega arith) ∙ over.0, over_more c older seen after (λ n less. same n (omega (arith, less))) over.1)

-- ---- where the connection can be sent to

-- whichever connection is there, it goes through the same socket
through_same : (outbound now : Outbound) (past : List Past) (passed : List (ℤ × Bool)) → now.socket ≡ outbound.socket → GoesThrough (Some outbound) past passed → GoesThrough (Some now) past passed
through_same outbound now past passed same g = (g.0, g.1, subst (λ (z : ℤ). passed ≡ (z, g.0) ∷ g.1) (sym same) g.2, g.3)

record IsSending (s : SenderState) (outbound : Outbound) : Type 0 where
  pub past : ArePast s.slot s.sendings.past s.sendings.since s.sendings.takes
  pub over : AreOver s.slot s.sendings.past s.seen
  pub unused : (n : ℕ) → s.openings < n → n < most_openings → drains_at n s.slot s.seen ≡ []
  pub written : IsWritten (present s) s.slot s.sendings.since s.sendings.takes s.seen s.takes 0 outbound.log s.left
  pub at : s.openings ≡ present s
  pub below : s.openings < most_openings
  pub through : GoesThrough (Some outbound) s.sendings.past s.side.passed

sending : (s : SenderState) (outbound : Outbound) → s.outbound ≡ Some outbound → outbound.state ≡ Open → IsSender s → IsSending s outbound
sending s outbound there state is =
    let so = subst (λ (at : OutboundState). IsOutboundSo s outbound.log at) state (subst (λ (o : Option Outbound). IsOutbound s o) there is.outbound) in
    record {
      past = is.past;
      over = (is.counted so.2).1;
      unused = is.unused;
      written = so.0;
      at = so.1;
      below = so.2;
      through = subst (λ (o : Option Outbound). GoesThrough o s.sendings.past s.side.passed) there is.side;
    }

-- what is written, and then what is left, is the same
moved : (n c : ℕ) (since : List Entry) (takes : ℕ) (until : List Entry) (takes_after lost : ℕ) (log left more rest : List ℕ) → log ++ left ≡ more ++ rest
    → IsWritten n c since takes until takes_after lost log left → IsWritten n c since takes until takes_after lost more rest
moved n c since takes until takes_after lost log left more rest same w = record { messages = w.messages; are = w.are; whole = w.whole ∙ same }

module _ (s : SenderState) (outbound : Outbound) (is : IsSending s outbound) where
  sends_on : (now : Outbound) (rest : List ℕ) → now.state ≡ Open → now.socket ≡ outbound.socket → outbound.log ++ s.left ≡ now.log ++ rest → IsSender (record s { left = rest; outbound = Some now })
  sends_on now rest opened socket same = record {
    past = is.past;
    counted = λ below. (is.at, is.over);
    unused = is.unused;
    outbound = subst (λ (at : OutboundState). IsOutboundSo (record s { left = rest; outbound = Some now }) now.log at) (sym opened)
        (moved (present s) s.slot s.sendings.since s.sendings.takes s.seen s.takes 0 outbound.log s.left now.log rest same is.written, is.at, is.below);
    side = through_same outbound now s.sendings.past s.side.passed socket is.through;
  }

  breaks_off : (now : Outbound) (rest : List ℕ) → now.state ≡ Cut → now.socket ≡ outbound.socket → outbound.log ++ s.left ≡ now.log ++ rest → IsSender (record s { left = []; outbound = Some now })
  breaks_off now rest broken socket same = record {
    past = is.past;
    counted = λ below. (is.at, is.over);
    unused = is.unused;
    outbound = subst (λ (at : OutboundState). IsOutboundSo (record s { left = []; outbound = Some now }) now.log at) (sym broken)
        ((rest, 0, moved (present s) s.slot s.sendings.since s.sendings.takes s.seen s.takes 0 outbound.log s.left now.log rest same is.written), refl);
    side = through_same outbound now s.sendings.past s.side.passed socket is.through;
  }

  -- ---- what the pen gives

  module _ (none : s.left ≡ []) (k : Settings) (taped took : Bool) (result : Result Drained ApplyError) (seen : List Entry) (takes tries : ℕ)
      (asked : MatchBool took (takes ≡ s.takes + 1) (takes ≡ s.takes)) (called : PenCalled k taped s.slot s.slot result s.seen seen) where
    abbrev n : ℕ
    n = present s

    under : n < most_openings
    under = subst (λ (m : ℕ). m < most_openings) is.at is.below

    lost : (took : Bool) → MatchBool took (takes ≡ s.takes + 1) (takes ≡ s.takes) → takes ≡ s.takes + (if took then 1 else 0)
    lost true so = so
    lost false so = omega (arith, so)

    abbrev asked_of : SenderState
    asked_of = record s { seen = seen; takes = takes; tries = tries }

    -- at the openings of those that are gone it gave nothing
    still_over : ((m : ℕ) → m < n → is_at result m ≡ false) → AreOver s.slot s.sendings.past seen
    still_over other = over_more s.slot s.sendings.past s.seen seen (λ m less. drains_still k taped s.slot result s.seen seen called m (other m less) (omega (arith, less, under))) is.over

    still_unused : ((m : ℕ) → s.openings < m → is_at result m ≡ false) → (m : ℕ) → s.openings < m → m < most_openings → drains_at m s.slot seen ≡ []
    still_unused other m later below = drains_still k taped s.slot result s.seen seen called m (other m later) below ∙ is.unused m later below

    -- nothing for this connection: a NOOP may be lost
    gives_none : is_at result n ≡ false → IsPrefixWritten n s.slot s.sendings.since s.sendings.takes seen takes outbound.log
    gives_none other =
        let went = goes_on k taped s.slot result s.seen seen called in
        let w = is.written in
        let before = w.are.taken in
        let asks = lost took asked in (
          [],
          if took then 1 else 0,
          record {
            messages = w.messages;
            are = record {
              newer = went.0 ++ w.are.newer;
              goes_on = went.1 ∙ (ap (λ l. went.0 ++ l) w.are.goes_on ∙ sym (append_assoc went.0 w.are.newer s.sendings.since));
              drained = drains_still k taped s.slot result s.seen seen called n other under ∙ w.are.drained;
              taken = omega arith;
            };
            whole = w.whole ∙ ap (λ l. outbound.log ++ l) none;
          },
        )

  module _ (none : s.left ≡ []) (k : Settings) (taped took : Bool) (drained : Drained) (seen : List Entry) (takes tries : ℕ)
      (asked : MatchBool took (takes ≡ s.takes + 1) (takes ≡ s.takes)) (called : PenCalled k taped s.slot s.slot (Ok drained) s.seen seen) where
    abbrev asked_for : SenderState
    asked_for = asked_of none k taped took (Ok drained) seen takes tries asked called

    -- what it gave for the connection is left
    gives : drained.opening ≡ s.openings → IsSender (record asked_for { left = message_of took drained.bytes.bytes; outbound = Some record outbound { state = Open } })
    gives here =
        let w = is.written in
        let before = w.are.taken in
        let at = is.at in
        let asks = lost none k taped took (Ok drained) seen takes tries asked called took asked in
        let other : (m : ℕ) → (m ≡ s.openings → ⊥) → (drained.opening == m) ≡ false = λ m apart. ne_eqb drained.opening m (λ now. apart (sym now ∙ here)) in
        record {
          past = is.past;
          counted = λ below. (at, still_over none k taped took (Ok drained) seen takes tries asked called (λ m less. other m (λ now. absurd (omega (arith, now, less, at)))));
          unused = still_unused none k taped took (Ok drained) seen takes tries asked called (λ m later. other m (λ now. absurd (omega (arith, now, later))));
          outbound = (
            record {
              messages = record { took = took; gave = drained.bytes.bytes } ∷ w.messages;
              are = record {
                newer = drain_entry s.slot s.slot drained.bytes.bytes ∷ called.knows.newer ++ w.are.newer;
                goes_on = after_is k taped s.slot drained s.seen seen called
                    ∙ ap (λ l. drain_entry s.slot s.slot drained.bytes.bytes ∷ l) (ap (λ l. called.knows.newer ++ l) w.are.goes_on ∙ sym (append_assoc called.knows.newer w.are.newer s.sendings.since));
                drained = drains_here k taped s.slot drained s.seen seen called (present s) (here ∙ at) (under none k taped took (Ok drained) seen takes tries asked called)
                    ∙ ap (λ l. drained.bytes.bytes ∷ l) w.are.drained;
                taken = omega arith;
              };
              whole = ap (λ l. l ++ message_of took drained.bytes.bytes) (w.whole ∙ (ap (λ l. outbound.log ++ l) none ∙ append-nil outbound.log));
            },
            at,
            is.below,
          );
          side = is.through;
        }

    -- what it gave was for another
    gives_elsewhere : (drained.opening ≡ s.openings → ⊥) → IsSender (record asked_for { openings = most_openings; outbound = Some record outbound { state = Cut } })
    gives_elsewhere other = record {
      past = is.past;
      counted = λ below. absurd (omega (arith, below));
      unused = λ m later below. absurd (omega (arith, later, below));
      outbound = (gives_none none k taped took (Ok drained) seen takes tries asked called (ne_eqb drained.opening (present s) (λ now. other (now ∙ sym is.at))), none);
      side = is.through;
    }

  gives_nothing : s.left ≡ [] → (k : Settings) (taped took : Bool) (error : ApplyError) (seen : List Entry) (takes tries : ℕ) → MatchBool took (takes ≡ s.takes + 1) (takes ≡ s.takes)
      → PenCalled k taped s.slot s.slot (Err error) s.seen seen → IsSender (record s { seen = seen; takes = takes; tries = tries; outbound = Some record outbound { state = Cut } })
  gives_nothing none k taped took error seen takes tries asked called = record {
    past = is.past;
    counted = λ below. (is.at, still_over none k taped took (Err error) seen takes tries asked called (λ m less. refl));
    unused = still_unused none k taped took (Err error) seen takes tries asked called (λ m later. refl);
    outbound = (gives_none none k taped took (Err error) seen takes tries asked called refl, none);
    side = is.through;
  }

-- the connection can be sent to, and nothing is left for it
clear_open : (s : SenderState) (outbound : Outbound) → s.outbound ≡ Some outbound → is_clear s ≡ true → outbound.state ≡ Open
clear_open s outbound there clear = by outbound.state (and_first (can_send outbound.state) (length s.left == 0) (ap (λ (o : Option Outbound). is_open o && (length s.left == 0)) (sym there) ∙ clear))
  where
    and_first : (a b : Bool) → (a && b) ≡ true → a ≡ true
    and_first true b is = refl
    and_first false b is = is

    by : (state : OutboundState) → can_send state ≡ true → state ≡ Open
    by Open is = refl
    by Finished bad = absurd cc
    by Cut bad = absurd cc

clear_none : (s : SenderState) → is_clear s ≡ true → s.left ≡ []
clear_none s clear = none s.left (and_second (is_open s.outbound) (length s.left == 0) clear)
  where
    and_second : (a b : Bool) → (a && b) ≡ true → b ≡ true
    and_second true b is = is
    and_second false b bad = absurd cc

    none : (l : List ℕ) → (length l == 0) ≡ true → l ≡ []
    none [] is = refl
    none (x ∷ l) bad = let same = eqb-true (length (x ∷ l)) 0 bad in absurd cc

-- the same, said of what the code has in its hands: the pen before it was asked, between and after
module _ {P : Type 0} (slot takes tries : P → ℕ) (seen : P → List Entry) (before asked after : P) (slot_is : slot asked ≡ slot before) (seen_is : seen asked ≡ seen before)
    (slot_kept : slot after ≡ slot asked) (takes_kept : takes after ≡ takes asked) (took : Bool) (takes_so : MatchBool took (takes asked ≡ takes before + 1) (takes asked ≡ takes before))
    (openings : ℕ) (left : List ℕ) (found : Option Outbound) (outbound : Outbound) (side : SideState) (sendings : Sendings) (there : found ≡ Some outbound) where
  abbrev was : SenderState
  was = record { slot = slot before; openings = openings; seen = seen before; takes = takes before; tries = tries before; left = left; outbound = found; side = side; sendings = sendings }

  takes_now : MatchBool took (takes after ≡ takes before + 1) (takes after ≡ takes before)
  takes_now = subst (λ (n : ℕ). MatchBool took (n ≡ takes before + 1) (n ≡ takes before)) (sym takes_kept) takes_so

  module _ (clear : is_clear was ≡ true) (is : IsSender was) (k : Settings) (taped : Bool) where
    so : IsSending was outbound
    so = sending was outbound there (clear_open was outbound there clear) is

    none_left : left ≡ []
    none_left = clear_none was clear

    called_so : (result : Result Drained ApplyError) → PenCalled k taped (slot asked) (slot asked) result (seen asked) (seen after) → PenCalled k taped (slot before) (slot before) result (seen before) (seen after)
    called_so result called = subst (λ (z : ℕ × List Entry). PenCalled k taped z.0 z.0 result z.1 (seen after)) (λ i. (slot_is i, seen_is i)) called

    now_at : (openings : ℕ) (left : List ℕ) (now : Outbound)
        → IsSender (record { slot = slot before; openings = openings; seen = seen after; takes = takes after; tries = tries after; left = left; outbound = Some now; side = side; sendings = sendings })
        → IsSender (record { slot = slot after; openings = openings; seen = seen after; takes = takes after; tries = tries after; left = left; outbound = Some now; side = side; sendings = sendings })
    now_at opened l now =
        subst (λ (c : ℕ). IsSender (record { slot = c; openings = opened; seen = seen after; takes = takes after; tries = tries after; left = l; outbound = Some now; side = side; sendings = sendings })) (sym (slot_kept ∙ slot_is))

    pub refill_gives : (drained : Drained) → drained.opening ≡ openings → PenCalled k taped (slot asked) (slot asked) (Ok drained) (seen asked) (seen after) → (due : List ℕ) → due ≡ message_of took drained.bytes.bytes
        → IsSender (record { slot = slot after; openings = openings; seen = seen after; takes = takes after; tries = tries after; left = due; outbound = Some outbound; side = side; sendings = sendings })
    refill_gives drained here called due dues =
        subst (λ (z : List ℕ × OutboundState). IsSender (record { slot = slot after; openings = openings; seen = seen after; takes = takes after; tries = tries after; left = z.0; outbound = Some record outbound { state = z.1 }; side = side; sendings = sendings }))
        (λ i. (sym dues i, sym (clear_open was outbound there clear) i))
        (now_at openings (message_of took drained.bytes.bytes) (record outbound { state = Open }) (gives was outbound so none_left k taped took drained (seen after) (takes after) (tries after) takes_now (called_so (Ok drained) called) here))

    pub refill_elsewhere : (drained : Drained) → (drained.opening ≡ openings → ⊥) → PenCalled k taped (slot asked) (slot asked) (Ok drained) (seen asked) (seen after) → (now : Outbound) → now ≡ record outbound { state = Cut }
        → IsSender (record { slot = slot after; openings = most_openings; seen = seen after; takes = takes after; tries = tries after; left = left; outbound = Some now; side = side; sendings = sendings })
    refill_elsewhere drained other called now now_is =
        subst (λ (o : Outbound). IsSender (record { slot = slot after; openings = most_openings; seen = seen after; takes = takes after; tries = tries after; left = left; outbound = Some o; side = side; sendings = sendings })) (sym now_is)
        (now_at most_openings left (record outbound { state = Cut }) (gives_elsewhere was outbound so none_left k taped took drained (seen after) (takes after) (tries after) takes_now (called_so (Ok drained) called) other))

    pub refill_none : (error : ApplyError) → PenCalled k taped (slot asked) (slot asked) (Err error) (seen asked) (seen after) → (now : Outbound) → now ≡ record outbound { state = Cut }
        → IsSender (record { slot = slot after; openings = openings; seen = seen after; takes = takes after; tries = tries after; left = left; outbound = Some now; side = side; sendings = sendings })
    refill_none error called now now_is =
        subst (λ (o : Outbound). IsSender (record { slot = slot after; openings = openings; seen = seen after; takes = takes after; tries = tries after; left = left; outbound = Some o; side = side; sendings = sendings })) (sym now_is)
        (now_at openings left (record outbound { state = Cut }) (gives_nothing was outbound so none_left k taped took error (seen after) (takes after) (tries after) takes_now (called_so (Err error) called)))

-- ---- what is sent

-- nothing is left to be sent
pub part_of_none : (outbound : Outbound) → outbound.state ≡ Open → SendsPart outbound [] outbound []
part_of_none outbound is = record {
  part = [];
  rest = [];
  whole = refl;
  breaks_off = false;
  some_left = λ bad. absurd cc;
  calls = [];
  why = tt;
  now_is = λ i. record { state = is i; socket = outbound.socket; log = sym (append-nil outbound.log) i; answers = outbound.answers; over = outbound.over };
  left_is = refl;
}

-- said of the connection's state
pub sends_from : (s t : SenderState) (outbound now : Outbound) (left_now : List ℕ) (result : Bool) → s ≡ t → s.outbound ≡ Some outbound
    → ((outbound.state ≡ Open → ⊥) → (now ≡ outbound) × (left_now ≡ s.left) × (result ≡ false)) → (outbound.state ≡ Open → SendsPart outbound s.left now left_now)
    → SendsLeft t (record s { left = left_now; outbound = Some now })
sends_from s t outbound now left_now result same there idle part =
    subst (λ (old : SenderState). SendsLeft old (record s { left = left_now; outbound = Some now })) same
    (subst (λ (o : Option Outbound). SendsTo o s (record s { left = left_now; outbound = Some now })) (sym there) (now, by outbound.state refl, refl))
  where
    by : (state : OutboundState) → outbound.state ≡ state → Sends state outbound s.left now left_now
    by Open at = part at
    by Finished at = let same = idle (λ opened. let bad = sym at ∙ opened in absurd cc) in (same.0, same.1)
    by Cut at = let same = idle (λ opened. let bad = sym at ∙ opened in absurd cc) in (same.0, same.1)

pub send_keeps : (s : SenderState) (outbound : Outbound) → s.outbound ≡ Some outbound → (now : Outbound) (left : List ℕ) → ((outbound.state ≡ Open → ⊥) → (now ≡ outbound) × (left ≡ s.left) × (Unit {0}))
    → (outbound.state ≡ Open → SendsPart outbound s.left now left) → IsSender s → IsSender (record s { left = left; outbound = Some now })
send_keeps s outbound there now left idle sends is = by outbound.state refl
  where
    same : (now ≡ outbound) × (left ≡ s.left) × (Unit {0}) → IsSender (record s { left = left; outbound = Some now })
    same eq = subst (λ (z : Outbound × List ℕ). IsSender (record s { left = z.1; outbound = Some z.0 })) (λ i. (sym eq.0 i, sym eq.1 i)) (subst (λ (o : Option Outbound). IsSender (record s { outbound = o })) there is)

    joined : (p : SendsPart outbound s.left now left) → outbound.log ++ s.left ≡ now.log ++ p.rest
    joined p = ap (λ l. outbound.log ++ l) p.whole ∙ (sym (append_assoc outbound.log p.part p.rest) ∙ ap (λ (o : Outbound). o.log ++ p.rest) (sym p.now_is))

    part : IsSending s outbound → (p : SendsPart outbound s.left now left) (breaks : Bool) → p.breaks_off ≡ breaks → left ≡ (if breaks then [] else p.rest) → IsSender (record s { left = left; outbound = Some now })
    part so p true broken lefts = subst (λ (l : List ℕ). IsSender (record s { left = l; outbound = Some now })) (sym lefts)
        (breaks_off s outbound so now p.rest (ap (λ (o : Outbound). o.state) p.now_is ∙ ap (λ (b : Bool). if b then Cut else Open) broken) (ap (λ (o : Outbound). o.socket) p.now_is) (joined p))
    part so p false broken lefts = subst (λ (l : List ℕ). IsSender (record s { left = l; outbound = Some now })) (sym lefts)
        (sends_on s outbound so now p.rest (ap (λ (o : Outbound). o.state) p.now_is ∙ ap (λ (b : Bool). if b then Cut else Open) broken) (ap (λ (o : Outbound). o.socket) p.now_is) (joined p))

    by : (state : OutboundState) → outbound.state ≡ state → IsSender (record s { left = left; outbound = Some now })
    by Open at = let p = sends at in part (sending s outbound there at is) p p.breaks_off refl p.left_is
    by Finished at = let eq = idle (λ opened. let bad = sym at ∙ opened in absurd cc) in same eq
    by Cut at = let eq = idle (λ opened. let bad = sym at ∙ opened in absurd cc) in same eq

-- ---- what the lock guards

-- a prefix, however far the sending is
part_of : (s : SenderState) (log : List ℕ) (state : OutboundState) → IsOutboundSo s log state → IsPrefixWritten (present s) s.slot s.sendings.since s.sendings.takes s.seen s.takes log
part_of s log Open so = (s.left, 0, so.0)
part_of s log Finished so = ([], 0, so.0)
part_of s log Cut so = so.0

cut_outbound : (s : SenderState) (o : Option Outbound) → IsOutbound s o → IsOutbound (record s { left = []; outbound = cut o }) (cut o)
cut_outbound s None so = (so.0, so.1, refl)
cut_outbound s (Some one) so = at one.state so
  where
    at : (state : OutboundState) → IsOutboundSo s one.log state → IsOutboundSo (record s { left = []; outbound = cut (Some one) }) one.log (cut_state state)
    at Open so = (part_of s one.log Open so, refl)
    at Finished so = (so.0, refl)
    at Cut so = (so.0, refl)

began_cut : (o : Option Outbound) (past : List Past) → began o past ≡ began (cut o) past
began_cut None past = refl
began_cut (Some one) past = refl

through_cut : (o : Option Outbound) (past : List Past) (passed : List (ℤ × Bool)) → GoesThrough o past passed → GoesThrough (cut o) past passed
through_cut None past passed g = g
through_cut (Some one) past passed g = g

pub cut_keeps : (s : SenderState) → IsSender s → IsSender (record s { left = []; outbound = cut s.outbound })
cut_keeps s is = record {
  past = is.past;
  counted = λ below. let so = is.counted below in (so.0 ∙ began_cut s.outbound s.sendings.past, so.1);
  unused = is.unused;
  outbound = cut_outbound s s.outbound is.outbound;
  side = through_cut s.outbound s.sendings.past s.side.passed is.side;
}

-- the time was looked at
pub look_keeps : (s : SenderState) (outbound : Outbound) (over : Bool) → s.outbound ≡ Some outbound → IsSender s → IsSender (record s { outbound = Some record outbound { over = over } })
look_keeps s outbound over there is = record {
  past = is.past;
  counted = λ below. let so = is.counted below in (so.0 ∙ ap (λ (o : Option Outbound). began o s.sendings.past) there, so.1);
  unused = is.unused;
  outbound = same_so outbound.state (subst (λ (o : Option Outbound). IsOutbound s o) there is.outbound);
  side = subst (λ (o : Option Outbound). GoesThrough o s.sendings.past s.side.passed) there is.side;
}
  where
    same_so : (state : OutboundState) → IsOutboundSo s outbound.log state → IsOutboundSo (record s { outbound = Some record outbound { over = over } }) outbound.log state
    same_so Open so = so
    same_so Finished so = so
    same_so Cut so = so

-- what is done for the connection next
abbrev pub left_by : Deed → List ℕ → List ℕ
left_by HangUp left = []
left_by deed left = left

module _ (s : SenderState) (outbound now : Outbound) (there : s.outbound ≡ Some outbound) where
  pub hang_up_keeps : IsSender s → now ≡ record outbound { state = cut_state outbound.state; over = now.over } → IsSender (record s { left = []; outbound = Some now })
  hang_up_keeps is now_is =
      subst (λ (o : Outbound). IsSender (record s { left = []; outbound = Some o })) (sym now_is)
      (cut_keeps (record s { outbound = Some record outbound { over = now.over } }) (look_keeps s outbound now.over there is))

  pub go_on_keeps : IsSender s → now ≡ record outbound { over = now.over } → IsSender (record s { outbound = Some now })
  go_on_keeps is now_is = subst (λ (o : Outbound). IsSender (record s { outbound = Some o })) (sym now_is) (look_keeps s outbound now.over there is)

  abbrev looked : SenderState
  looked = record s { outbound = Some record outbound { over = now.over } }

  clear_same : is_clear s ≡ is_clear looked
  clear_same = ap (λ (o : Option Outbound). is_open o && (length s.left == 0)) there

  next_is : (deed : Deed) → now ≡ record outbound { state = state_by deed outbound.state; over = now.over } → record s { left = left_by deed s.left; outbound = Some now } ≡ next_by deed looked
  next_is Serve is = λ i. record s { outbound = Some (is i) }
  next_is Send is = λ i. record s { outbound = Some (is i) }
  next_is Linger is = λ i. record s { outbound = Some (is i) }
  next_is HangUp is = λ i. record s { left = []; outbound = Some (is i) }
  next_is LetGo is = λ i. record s { outbound = Some (is i) }

  pub decides : (t : SenderState) → s ≡ t → (clear has_ended : Bool) → clear ≡ is_clear t → (deed : Deed) → Looked outbound now.over → deed ≡ deed_of outbound.state now.over (not clear) has_ended
      → now ≡ record outbound { state = state_by deed outbound.state; over = now.over } → Decides has_ended deed t (record s { left = left_by deed s.left; outbound = Some now })
  decides t same clear has_ended cleared deed looks is now_is =
      subst (λ (old : SenderState). Decides has_ended deed old (record s { left = left_by deed s.left; outbound = Some now })) same
      (record {
        looked = looked;
        looks = subst (λ (o : Option Outbound). LookedAt o looked.outbound) (sym there) (now.over, looks, refl);
        looked_is = refl;
        deed_is = is ∙ ap (λ (b : Bool). deed_of outbound.state now.over (not b) has_ended) (cleared ∙ (sym (ap is_clear same) ∙ clear_same));
        after = next_is deed now_is;
      })

-- all was sent, where the sending is finished, or goes on and nothing is left
none_if : (l : List ℕ) → (length l == 0) ≡ true → l ≡ []
none_if [] is = refl
none_if (x ∷ l) bad = let same = eqb-true (length (x ∷ l)) 0 bad in absurd cc

gone : (s : SenderState) (socket : ℤ) (log : List ℕ) (state : OutboundState) (is_whole : Bool) → IsOutboundSo s log state → is_whole ≡ whole_in state s.left
    → WrittenTo (present s) s.slot (record { since = s.sendings.since; takes = s.sendings.takes; until = s.seen; takes_after = s.takes; socket = socket; log = log; is_whole = is_whole })
gone s socket log Open is_whole so all = record { rest = s.left; lost = 0; is_written = so.0; whole = λ w. (none_if s.left (sym all ∙ w), refl) }
gone s socket log Finished is_whole so all = record { rest = []; lost = 0; is_written = so.0; whole = λ w. (refl, refl) }
gone s socket log Cut is_whole so all = record { rest = so.0.0; lost = so.0.1; is_written = so.0.2; whole = λ w. let bad : false ≡ true = sym all ∙ w in absurd cc }

went_through : (outbound : Outbound) (p : Past) (past : List Past) (passed : List (ℤ × Bool)) → p.socket ≡ outbound.socket → GoesThrough (Some outbound) past passed → WentThrough (p ∷ past) passed
went_through outbound p past passed same g = subst (λ (l : List (ℤ × Bool)). WentThrough (p ∷ past) l) (sym g.2) (same, g.3)

pub let_go_keeps : (s : SenderState) (outbound : Outbound) (is_whole : Bool) → s.outbound ≡ Some outbound → IsSender s → is_whole ≡ whole_in outbound.state s.left
    → IsSender (record s { left = []; outbound = None; sendings = closed s.seen s.takes outbound.socket outbound.log is_whole s.sendings })
let_go_keeps s outbound is_whole there is all =
    let p : Past = record { since = s.sendings.since; takes = s.sendings.takes; until = s.seen; takes_after = s.takes; socket = outbound.socket; log = outbound.log; is_whole = is_whole } in
    record {
      past = (refl, refl, gone s outbound.socket outbound.log outbound.state is_whole (subst (λ (o : Option Outbound). IsOutbound s o) there is.outbound) all, is.past);
      counted = λ below. let so = is.counted below in let count : s.openings ≡ length s.sendings.past + 1 = so.0 ∙ ap (λ o. began o s.sendings.past) there in (omega (arith, count), (refl, so.1));
      unused = is.unused;
      outbound = (refl, refl, refl);
      side = went_through outbound p s.sendings.past s.side.passed refl (subst (λ (o : Option Outbound). GoesThrough o s.sendings.past s.side.passed) there is.side);
    }

-- ---- a connection is taken

-- drains without NOOPs
abbrev without_noops : List (List ℕ) → List DrainedMessage
without_noops drains = map (λ gave. record { took = false; gave = gave }) drains

turned : (drains : List (List ℕ)) → drains ≡ drains_in (without_noops drains)
turned [] = refl
turned (gave ∷ drains) = ap (λ l. gave ∷ l) (turned drains)

no_noops : (drains : List (List ℕ)) → takes_in (without_noops drains) ≡ 0
no_noops [] = refl
no_noops (gave ∷ drains) = let rest = no_noops drains in omega arith

-- whether the next opening can be told
told_by : (openings : ℕ) (begins : Bool) → can_begin openings ≡ begins → MatchBool begins (openings + 1 < most_openings) (most_openings ≤ openings + 1)
told_by openings true is = let less = ltb-true openings (most_openings - 1) is in omega (arith, less)
told_by openings false is = let more = ltb-false openings (most_openings - 1) is in omega (arith, more)

pub begin_keeps : (s : SenderState) (after : ℕ) (side : SideState) (now : Outbound) (is_served : Bool) → s.outbound ≡ None → after ≡ (if can_begin s.openings then s.openings + 1 else most_openings)
    → side ≡ passed_with (Some (now.socket, is_served)) s.side → now.state ≡ state_if (can_begin s.openings) → now.log ≡ [] → IsSender s → IsSender (record s { openings = after; outbound = Some now; side = side })
begin_keeps s after side now is_served alone after_is sides states logs is = by (can_begin s.openings) refl
  where
    before : (s.seen ≡ s.sendings.since) × (s.takes ≡ s.sendings.takes) × (s.left ≡ [])
    before = subst (λ (o : Option Outbound). IsOutbound s o) alone is.outbound

    was : WentThrough s.sendings.past s.side.passed
    was = subst (λ (o : Option Outbound). GoesThrough o s.sendings.past s.side.passed) alone is.side

    side_now : GoesThrough (Some now) s.sendings.past side.passed
    side_now = subst (λ (z : SideState). GoesThrough (Some now) s.sendings.past z.passed) (sym sides) (is_served, s.side.passed, refl, was)

    by : (begins : Bool) → can_begin s.openings ≡ begins → IsSender (record s { openings = after; outbound = Some now; side = side })
    by true can =
        let under : s.openings + 1 < most_openings = told_by s.openings true can in
        let known : after ≡ s.openings + 1 = after_is ∙ ap (λ (b : Bool). if b then s.openings + 1 else most_openings) can in
        let so = is.counted (omega (arith, under)) in
        let count : s.openings ≡ length s.sendings.past = so.0 ∙ ap (λ o. began o s.sendings.past) alone in
        let at : s.openings + 1 ≡ length s.sendings.past + 1 = omega (arith, count) in
        record {
          past = is.past;
          counted = λ below. (known ∙ at, so.1);
          unused = λ n later below. is.unused n (omega (arith, later, known)) below;
          outbound =
              subst (λ (z : OutboundState × List ℕ). IsOutboundSo (record s { openings = after; outbound = Some now; side = side }) z.1 z.0) (λ i. (sym (states ∙ ap state_if can) i, sym logs i)) (
                record {
                  messages = [];
                  are = record {
                    newer = [];
                    goes_on = before.0;
                    drained = subst (λ (n : ℕ). drains_at n s.slot s.seen ≡ []) at (is.unused (s.openings + 1) (omega arith) under);
                    taken = (let t = before.1 in omega arith);
                  };
                  whole = sym before.2;
                },
                known ∙ at,
                subst (λ (n : ℕ). n < most_openings) (sym known) under,
              );
          side = side_now;
        }
    by false can =
        let known : after ≡ most_openings = after_is ∙ ap (λ (b : Bool). if b then s.openings + 1 else most_openings) can in
        let drains = drains_at (present s) s.slot s.seen in
        let messages = without_noops drains in
        record {
          past = is.past;
          counted = λ below. absurd (omega (arith, below, known));
          unused = λ m later below. absurd (omega (arith, later, below, known));
          outbound =
              subst (λ (z : OutboundState × List ℕ). IsOutboundSo (record s { openings = after; outbound = Some now; side = side }) z.1 z.0) (λ i. (sym (states ∙ ap state_if can) i, sym logs i)) (
                (
                  sent_by messages,
                  0,
                  record {
                    messages = messages;
                    are = record { newer = []; goes_on = before.0; drained = turned drains; taken = (let none = no_noops drains in let t = before.1 in omega arith) };
                    whole = refl;
                  },
                ),
                before.2,
              );
          side = side_now;
        }
