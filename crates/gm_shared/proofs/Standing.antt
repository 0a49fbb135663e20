-- In which order calls are in the one history.
use Rattle.std.proofs.Common.{◌≡◌, ◌⊎◌, ℕ, ◌+◌, ◌*◌, ◌==◌, Bool, true, if◌then◌else◌, eq-eqb, List, [], ◌∷◌, ◌++◌, Result, Ok, Err, refl, sym, ap, ap₂, ◌∙◌, inl, inr, append_assoc}
use Rattle.gm_notes.specs.declared.event.ApplyError.{ApplyError}
use Rattle.gm_notes.specs.Settings.{Settings}
use Rattle.gm_notes.specs.Steps.{Step}
use Rattle.gm_shared.specs.declared.events.Noop.{Noop}
use Rattle.gm_shared.specs.declared.tape.Entry.{Entry}
use Rattle.gm_shared.specs.declared.receipt.Receipt.{Receipt}
use Rattle.gm_shared.specs.Tapes.{actor_code, noop_entries}
use Rattle.gm_shared.specs.Histories.{entry_owner, Knows, AreOf, calls_by}
use Rattle.gm_shared.specs.Calls.{Calls, asks, lacks, added}
use Rattle.gm_shared.specs.Laws.{Begins, OneBeginsTheOther, SeenIsOlder, OwnAreWhole}
use Rattle.gm_ghost.proofs.Logs.{entries_more, entries_known}
use Rattle.gm_shared.proofs.Entries.{own_added, own_drained}

-- of two ends of one list the shorter ends the longer
one_begins : (a b mine yours : List Entry) → a ++ mine ≡ b ++ yours → Begins mine yours ⊎ Begins yours mine
one_begins [] b mine yours e = inr (b, e)
one_begins (x ∷ a) [] mine yours e = inl (x ∷ a, sym e)
one_begins (x ∷ a) (y ∷ b) mine yours e = one_begins a b mine yours cc

pub one_begins_the_other : OneBeginsTheOther
one_begins_the_other = λ log mine yours p q. one_begins p.0 q.0 mine yours (sym p.1 ∙ q.1)

begins_then : (xs ys zs : List Entry) → Begins xs ys → Begins ys zs → Begins xs zs
begins_then xs ys zs p q = (q.0 ++ p.0, q.1 ∙ (ap (λ l. q.0 ++ l) p.1 ∙ sym (append_assoc q.0 p.0 xs)))

calls_begin : (k : Settings) (taped : Bool) (s : Step) (desk : ℕ) (noop : Noop) (result : Result Receipt ApplyError) (touched : List ℕ) (before after : List Entry)
    → Calls k taped s desk noop result touched before after → Begins before after
calls_begin k taped s desk noop result touched before after (asks a) = (added desk s result noop, a.after_is)
calls_begin k taped s desk noop result touched before after (lacks l) = ([], l.after_is)

pub seen_is_older : SeenIsOlder
seen_is_older = record {
  desks = λ k taped s desk result touched seen after left call begins.
      (begins_then left seen call.before begins (call.knows.newer, call.knows.goes_on), calls_begin k taped s desk call.noop result touched call.before after call.calls);
  pens = λ k taped pen slot result seen after left call begins. (begins_then left seen call.before begins (call.knows.newer, call.knows.goes_on), (_, call.after_is));
}

-- ---- what one actor did

pub own_all : (who : ℕ) (es : List Entry) → AreOf who es → calls_by who es ≡ es
own_all who [] are = refl
own_all who (e ∷ es) are =
    let same : (who == actor_code e.actor) ≡ true = eq-eqb who (actor_code e.actor) (sym are.0) in
    ap₂ (λ (b : Bool) l. if b then e ∷ l else l) same (own_all who es are.1)

-- what the history has of an actor, once this is added to what goes on from what it had seen
pub own_more : (who : ℕ) (es before seen after : List Entry) → AreOf who es → Knows before who seen → after ≡ es ++ before → calls_by who after ≡ es ++ calls_by who seen
own_more who es before seen after are knows is =
    ap (calls_by who) is
    ∙ (entries_more entry_owner who es before
    ∙ ap₂ (λ xs ys. xs ++ ys) (own_all who es are) (entries_known entry_owner before who seen knows))

-- a call's entries, also where there was no room for any
pub calls_add : (k : Settings) (taped : Bool) (s : Step) (desk : ℕ) (noop : Noop) (result : Result Receipt ApplyError) (touched : List ℕ) (before after : List Entry)
    → Calls k taped s desk noop result touched before after → after ≡ added desk s result noop ++ before
calls_add k taped s desk noop result touched before after (asks a) = a.after_is
calls_add k taped s desk noop (Ok receipt) touched before after (lacks l) = let bad : Ok receipt ≡ Err _ = l.result_is in absurd cc
calls_add k taped s desk noop (Err refused) touched before after (lacks l) = l.after_is ∙ ap (λ n. noop_entries desk n ++ before) (sym l.none)

pub own_are_whole : OwnAreWhole
own_are_whole = record {
  desks = λ k taped s desk result touched seen after call.
      own_more (2 * desk) (added desk s result call.noop) call.before seen after (own_added desk s result call.noop) call.knows
      (calls_add k taped s desk call.noop result touched call.before after call.calls);
  pens = λ k taped pen slot result seen after call.
      own_more (2 * pen + 1) _ call.before seen after (own_drained pen slot result) call.knows call.after_is;
}
