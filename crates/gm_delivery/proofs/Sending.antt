-- A message that is sent in several writes.
use Rattle.std.specs.Prelude.{if◌then◌else◌}
use Rattle.std.proofs.Common.{◌≡◌, ℕ, zero, suc, eq-eqb, ne_eqb, ◌+◌, ◌-◌, ◌<◌, ◌≤◌, Bool, true, false, List, [], ◌∷◌, ◌++◌, inl, inr, Option, Some, None, length, take, drop, refl, sym, ap, subst, ◌∙◌, arith, length-append, length-drop, drop-drop}
use Rattle.std.proofs.Math.ListN.{drop_of_length-le}
use Rattle.gm_packet.specs.Packets.{packet}
use Rattle.std.proofs.lemmas.List.{append_assoc, take-append-drop, take-append-le}
use Rattle.std.proofs.KnownBytes.{Appends-nil, Appends-trans}
use Rattle.std.specs.Io.KnownBytes.{Appends}
use Rattle.gm_delivery.specs.declared.writing.Sent.{Sent}
use Rattle.gm_delivery.specs.declared.writing.Sent.TheVariants as sent
use Rattle.gm_feeder.specs.declared.source.Answer.{Answer}
use Rattle.gm_feeder.specs.declared.source.Answer.TheVariants.{Moved}
use Rattle.gm_feeder.specs.Answers.{Answered}
use Rattle.gm_delivery.specs.Messages.{SendsPrefix, noop_if, Writes, sent_as, Calls, LastSays, WritesOnce, IsWhy, IsReason}

-- a prefix of what was due is sent, and this is left
pub record Sending (old now : Option (List ℕ)) (due left : List ℕ) : Type 0 where
  pub sent : List ℕ
  pub written : Appends old now sent
  pub whole : due ≡ sent ++ left

pub sending_none : (old : Option (List ℕ)) (due : List ℕ) → Sending old old due due
sending_none old due = record { sent = []; written = Appends-nil old; whole = refl }

-- some is left
pub sending_blocked : (old now : Option (List ℕ)) (due left : List ℕ) → Sending old now due left → (left ≡ [] → ⊥) → SendsPrefix sent.Some old now due left
sending_blocked old now due left so_far some = record { part = so_far.sent; written = so_far.written; whole = so_far.whole; all = λ is. absurd cc; unless_all = λ is. absurd (some is) }

module _ (old now new : Option (List ℕ)) (due left after : List ℕ) (so_far : Sending old now due left) where
  joined : (sent : List ℕ) → left ≡ sent ++ after → due ≡ (so_far.sent ++ sent) ++ after
  joined sent whole = so_far.whole ∙ (ap (λ l. so_far.sent ++ l) whole ∙ sym (append_assoc so_far.sent sent after))

  pub sending_more : (sent : List ℕ) → Appends now new sent → left ≡ sent ++ after → Sending old new due after
  sending_more sent written whole = record {
    sent = so_far.sent ++ sent;
    written = Appends-trans old now new so_far.sent sent so_far.written written;
    whole = joined sent whole;
  }

  -- the last write
  pub sending_last : (outcome : Sent) → SendsPrefix outcome now new left after → SendsPrefix outcome old new due after
  sending_last outcome last = record {
    part = so_far.sent ++ last.part;
    written = Appends-trans old now new so_far.sent last.part so_far.written last.written;
    whole = joined last.part last.whole;
    all = last.all;
    unless_all = last.unless_all;
  }

-- ---- one write of the bytes that lie in one place

module _ (old now new : Option (List ℕ)) (due bytes chunk rest moved noop : List ℕ) (count : ℕ) (outcome : Sent) (so_far : Sending old now due (bytes ++ noop))
    (first : bytes ≡ chunk ++ rest) (writes : Writes now new chunk count outcome) (after : moved ≡ drop count bytes) where
  taken : take count bytes ≡ take count chunk
  taken = ap (take count) first ∙ take-append-le count chunk rest writes.within

  pub chunk_sent : Sending old new due (moved ++ noop)
  chunk_sent =
      sending_more old now new due (bytes ++ noop) (moved ++ noop) so_far (take count chunk) writes.written
      (ap (λ l. l ++ noop) (sym (take-append-drop count bytes)) ∙ (append_assoc (take count bytes) (drop count bytes) noop ∙ (λ j. taken j ++ (sym after j ++ noop))))

  -- the peer takes no more
  pub chunk_stops : (stopped : Sent) → outcome ≡ stopped → (stopped ≡ sent.All → ⊥) → SendsPrefix stopped old new due (moved ++ noop)
  chunk_stops stopped is_stopped not_all = record {
    part = chunk_sent.sent;
    written = chunk_sent.written;
    whole = chunk_sent.whole;
    all = λ is. absurd (not_all is);
    unless_all = λ is. sym is_stopped ∙ writes.unless_all (omega (
      arith,
      writes.within,
      ap length is,
      length-append moved noop,
      ap length after,
      length-drop count bytes,
      ap length first ∙ length-append chunk rest,
    ));
  }

-- ---- a NOOP

noop_short : (took : Bool) → length (noop_if took) ≤ 12
unfolding packet
noop_short true = omega arith
noop_short false = omega arith

module _ (old new : Option (List ℕ)) (took : Bool) (sent count : ℕ) (outcome : Sent) (within : sent ≤ 12)
    (there : List ℕ) (there_is : there ≡ drop sent (noop_if took)) (wrote : Writes old new there count outcome) where
  abbrev pub noop_rest : List ℕ
  noop_rest = drop sent (noop_if took)

  writes : Writes old new noop_rest count outcome
  writes = subst (λ l. Writes old new l count outcome) there_is wrote

  left_is : length noop_rest ≡ length (noop_if took) - sent
  left_is = length-drop sent (noop_if took)

  pub noop_within : sent + count ≤ 12
  noop_within = let short = noop_short took in omega (arith, within, writes.within, left_is, short)

  moves : drop count noop_rest ≡ drop (sent + count) (noop_if took)
  moves = drop-drop count sent (noop_if took)

  none_left : drop (sent + count) (noop_if took) ≡ [] → count ≡ length noop_rest
  none_left is = omega (arith, writes.within, sym (ap length (moves ∙ is)) ∙ length-drop count noop_rest)

  pub noop_sent : (bytes : List ℕ) → bytes ≡ [] → SendsPrefix outcome old new (bytes ++ noop_rest) (bytes ++ drop (sent + count) (noop_if took))
  noop_sent _ none = rw none record {
    part = take count noop_rest;
    written = writes.written;
    whole = sym (take-append-drop count noop_rest) ∙ ap (λ l. take count noop_rest ++ l) moves;
    all = λ is. sym moves ∙ drop_of_length-le noop_rest (omega (arith, writes.all is));
    unless_all = λ is. writes.unless_all (none_left is);
  }

-- ---- what the writer's calls answered

pub calls_none : (a : Option (List Answer)) → Calls a a []
calls_none None = tt
calls_none (Some older) = refl

calls_more : (a b c : Option (List Answer)) (calls more : List Answer) → Calls a b calls → Calls b c more → Calls a c (more ++ calls)
calls_more None b c calls more f g = tt
calls_more (Some older) b c calls more f g = made (subst (λ (o : Option (List Answer)). Calls o c more) f g)
  where
    made : c ≡ Some (more ++ (calls ++ older)) → c ≡ Some ((more ++ calls) ++ older)
    made is = is ∙ ap (λ l. Some l) (sym (append_assoc more calls older))

-- the calls of the writes that were made, of eight at most
pub record Calling (a b : Option (List Answer)) (writes_left : ℕ) : Type 0 where
  pub calls : List Answer
  pub made : Calls a b calls
  pub count : length calls + writes_left ≡ 8

module _ (a b c : Option (List Answer)) (over : Bool) where
  by_answer : (outcome : Sent) (answer : Answer) (calls : List Answer) → sent_as answer ≡ outcome → IsWhy outcome over (answer ∷ calls)
  by_answer sent.All answer calls says = tt
  by_answer sent.Some answer calls says = inl says
  by_answer sent.Failed answer calls says = says

  -- what came of the last write
  pub reason_of : (outcome : Sent) (bytes : List ℕ) (calls : List Answer) → Calls a b calls → WritesOnce bytes over b c outcome → IsReason outcome over a c
  reason_of outcome [] calls made w = record { calls = calls; made = calls_more a b c calls [] made w.0; why = subst (λ (s : Sent). IsWhy s over calls) (sym w.1) tt }
  reason_of outcome (x ∷ bytes) calls made (inl w) = record { calls = calls; made = calls_more a b c calls [] made w.1; why = subst (λ (s : Sent). IsWhy s over calls) (sym w.2) (inr (inl w.0)) }
  reason_of outcome (x ∷ bytes) calls made (inr w) =
      record { calls = w.0 ∷ calls; made = calls_more a b c calls (w.0 ∷ []) made w.1; why = by_answer outcome w.0 calls w.2 }

  -- one write more took all
  pub calling_more : (writes_left : ℕ) (bytes : List ℕ) → 0 < length bytes → (writes_left ≡ 0 → ⊥) → Calling a b writes_left → WritesOnce bytes over b c sent.All → Calling a c (writes_left - 1)
  calling_more writes_left [] some more so_far w = absurd (omega (arith, some))
  calling_more writes_left (x ∷ bytes) some more so_far (inl w) = let bad = w.2 in absurd cc
  calling_more zero (x ∷ bytes) some more so_far (inr w) = absurd (more refl)
  calling_more (suc writes_left) (x ∷ bytes) some more so_far (inr w) = record {
    calls = w.0 ∷ so_far.calls;
    made = calls_more a b c so_far.calls (w.0 ∷ []) so_far.made w.1;
    count = let count = so_far.count in omega (arith, count);
  }

-- eight writes were made
pub reason_count : (a b : Option (List Answer)) (over : Bool) (writes_left : ℕ) → writes_left ≡ 0 → Calling a b writes_left → IsReason sent.Some over a b
reason_count a b over writes_left none so_far = record { calls = so_far.calls; made = so_far.made; why = inr (inr (let count = so_far.count in omega (arith, count, none))) }

-- ---- one write

answered_calls : (old new : Option (List Answer)) (answer : Answer) → Answered old new answer → Calls old new (answer ∷ [])
answered_calls None new answer is = tt
answered_calls (Some older) new answer is = is

pub once_of : (bytes : List ℕ) (over : Bool) (old new : Option (List Answer)) (answer : Answer) (outcome : Sent) → 0 < length bytes → Answered old new answer → sent_as answer ≡ outcome → WritesOnce bytes over old new outcome
once_of [] over old new answer outcome some answered says = absurd (omega (arith, some))
once_of (x ∷ bytes) over old new answer outcome some answered says = inr (answer, answered_calls old new answer answered, says)

pub said_all : (count size : ℕ) → 0 < size → count ≡ size → sent_as (Moved count size) ≡ sent.All
said_all zero size some is = absurd (omega (arith, some, is))
said_all (suc count) size some is = ap (λ (b : Bool). if b then sent.All else sent.Some) (eq-eqb (suc count) size is)

pub said_some : (count size : ℕ) → (count ≡ 0 → ⊥) → (count ≡ size → ⊥) → sent_as (Moved count size) ≡ sent.Some
said_some zero size some short = absurd (some refl)
said_some (suc count) size some short = ap (λ (b : Bool). if b then sent.All else sent.Some) (ne_eqb (suc count) size short)
