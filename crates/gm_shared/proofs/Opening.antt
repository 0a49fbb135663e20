-- How often slots were opened, as the history grows.
use Rattle.std.proofs.Common.{◌≡◌, ℕ, zero, suc, ◌+◌, ◌<◌, ◌==◌, Bool, true, false, if◌then◌else◌, List, [], ◌∷◌, ◌++◌, length, replicate, Option, Some, None, Result, Ok, Err, refl, sym, ap, subst, ◌∙◌, arith, eqb-true, get_or, set}
use Rattle.std.proofs.lemmas.Bool.{eqb-false}
use Rattle.std.proofs.lemmas.List.{get_or-set_same, get_or-set_other, length-set}
use Rattle.std.specs.Prelude.{MatchResult}
use Rattle.gm_notes.specs.declared.event.Done.{Done}
use Rattle.gm_notes.specs.declared.event.ApplyError.{ApplyError}
use Rattle.gm_notes.specs.declared.note.Note.{Note}
use Rattle.gm_notes.specs.Settings.{Settings}
use Rattle.gm_notes.specs.Notes.{is_open}
use Rattle.gm_notes.specs.Past.{Past}
use Rattle.gm_notes.specs.Steps.{Step, Open, Packet, Line, Fault, Close, Tick, Took, Withdrew, Drain, free_from, given_slot, done, run}
use Rattle.gm_shared.specs.declared.book.Booked.{Booked}
use Rattle.gm_shared.specs.declared.events.Noop.{Noop}
use Rattle.gm_shared.specs.declared.events.Noop.TheVariants.{Left, Taken, Withdrawn}
use Rattle.gm_shared.specs.declared.receipt.Receipt.{Receipt}
use Rattle.gm_shared.specs.declared.receipt.Drained.{Drained}
use Rattle.gm_shared.specs.declared.tape.Entry.{Entry}
use Rattle.gm_shared.specs.declared.tape.Told.{Told}
use Rattle.gm_shared.specs.Events.{entered}
use Rattle.gm_shared.specs.Tapes.{steps_of, noop_entries, event_entry, tape_step}
use Rattle.gm_shared.specs.Books.{Held, asked, unasked}
use Rattle.gm_shared.specs.Calls.{added, drained_entries}
use Rattle.gm_shared.specs.Openings.{if_one_more, openings, counted, count_at, counted_up, Counts}

-- a slot that is opened is one of the settings'
free_below : (c n : ℕ) (notes : List Note) (d : ℕ) → free_from c n notes ≡ Some d → d < c + n
free_below c zero notes d is = absurd cc
free_below c (suc n) notes d is = by (is_open c notes) (λ h. free_below (suc c) n notes d h) is
  where
    by : (b : Bool) → (free_from (suc c) n notes ≡ Some d → d < suc c + n) → (if b then free_from (suc c) n notes else Some c) ≡ Some d → d < c + suc n
    by true further h = let less = further h in omega arith
    by false further h = let same : c ≡ d = cc in omega arith

opened_below : (k : Settings) (s : Step) (past : Past) (d : ℕ) → given_slot k s past ≡ Some d → d < k.slots
opened_below k (Open addr) past d is = let less = free_below 0 k.slots past.notes d is in omega arith
opened_below k (Packet c kind bytes) past d is = absurd cc
opened_below k (Line c bytes) past d is = absurd cc
opened_below k (Fault c fault) past d is = absurd cc
opened_below k (Close c) past d is = absurd cc
opened_below k (Tick now) past d is = absurd cc
opened_below k (Took c) past d is = absurd cc
opened_below k (Withdrew c) past d is = absurd cc
opened_below k (Drain c) past d is = absurd cc

-- ---- one opening more

counted_more : (n : ℕ) → counted (counted n + 1) ≡ counted (n + 1)
counted_more n = omega arith

module _ (slots : ℕ) (counts : List ℕ) (log : List Entry) (is : Counts slots counts log) where
  opens : (o : Option ℕ) → ((d : ℕ) → o ≡ Some d → d < slots) → (c : ℕ) → count_at c (counted_up o counts) ≡ counted (if_one_more c o (openings c log))
  opens None below c = is.each c
  opens (Some d) below c = by (c == d) refl
    where
      inside : d < length counts
      inside = let less = below d refl in omega (arith, less, is.size)

      by : (b : Bool) → (c == d) ≡ b → get_or (set counts d (counted (count_at d counts + 1))) c 0 ≡ counted (if b then openings c log + 1 else openings c log)
      by true same = let at : c ≡ d = eqb-true c d same in
          rw at (get_or-set_same counts d (counted (count_at d counts + 1)) 0 inside ∙ (ap (λ (n : ℕ). counted (n + 1)) (is.each d) ∙ counted_more (openings d log)))
      by false other = get_or-set_other counts d c (counted (count_at d counts + 1)) 0 (eqb-false c d other) ∙ is.each c

  size_up : (o : Option ℕ) → length (counted_up o counts) ≡ slots
  size_up None = is.size
  size_up (Some d) = length-set counts d (counted (count_at d counts + 1)) ∙ is.size

-- an event that was taken
event_counts : (k : Settings) (s : Step) (desk : ℕ) (made : Done) (past : Past) (log : List Entry) (counts : List ℕ) → made ≡ done k s past → Counts k.slots counts log
    → Counts k.slots (counted_up made.opened counts) (event_entry desk (tape_step s) made ∷ log)
event_counts k (Open addr) desk made past log counts is so = record {
  size = size_up k.slots counts log so made.opened;
  each = opens k.slots counts log so made.opened (λ d some. opened_below k (Open addr) past d (ap (λ m. m.opened) (sym is) ∙ some));
}
event_counts k (Packet c kind bytes) desk made past log counts is so = subst (λ (o : Option ℕ). Counts k.slots (counted_up o counts) (event_entry desk (tape_step (Packet c kind bytes)) made ∷ log)) (ap (λ m. m.opened) (sym is)) (record { size = so.size; each = so.each })
event_counts k (Line c bytes) desk made past log counts is so = subst (λ (o : Option ℕ). Counts k.slots (counted_up o counts) (event_entry desk (tape_step (Line c bytes)) made ∷ log)) (ap (λ m. m.opened) (sym is)) (record { size = so.size; each = so.each })
event_counts k (Fault c fault) desk made past log counts is so = subst (λ (o : Option ℕ). Counts k.slots (counted_up o counts) (event_entry desk (tape_step (Fault c fault)) made ∷ log)) (ap (λ m. m.opened) (sym is)) (record { size = so.size; each = so.each })
event_counts k (Close c) desk made past log counts is so = subst (λ (o : Option ℕ). Counts k.slots (counted_up o counts) (event_entry desk (tape_step (Close c)) made ∷ log)) (ap (λ m. m.opened) (sym is)) (record { size = so.size; each = so.each })
event_counts k (Tick now) desk made past log counts is so = subst (λ (o : Option ℕ). Counts k.slots (counted_up o counts) (event_entry desk (tape_step (Tick now)) made ∷ log)) (ap (λ m. m.opened) (sym is)) (record { size = so.size; each = so.each })
event_counts k (Took c) desk made past log counts is so = subst (λ (o : Option ℕ). Counts k.slots (counted_up o counts) (event_entry desk (tape_step (Took c)) made ∷ log)) (ap (λ m. m.opened) (sym is)) (record { size = so.size; each = so.each })
event_counts k (Withdrew c) desk made past log counts is so = subst (λ (o : Option ℕ). Counts k.slots (counted_up o counts) (event_entry desk (tape_step (Withdrew c)) made ∷ log)) (ap (λ m. m.opened) (sym is)) (record { size = so.size; each = so.each })
event_counts k (Drain c) desk made past log counts is so = subst (λ (o : Option ℕ). Counts k.slots (counted_up o counts) (event_entry desk (tape_step (Drain c)) made ∷ log)) (ap (λ m. m.opened) (sym is)) (record { size = so.size; each = so.each })

-- what was found of a NOOP, and a drain
noop_counts : (slots desk : ℕ) (noop : Noop) (log : List Entry) (counts : List ℕ) → Counts slots counts log → Counts slots counts (noop_entries desk noop ++ log)
noop_counts slots desk Left log counts is = is
noop_counts slots desk (Taken c) log counts is = record { size = is.size; each = is.each }
noop_counts slots desk (Withdrawn c) log counts is = record { size = is.size; each = is.each }

pub drained_counts : (slots pen slot : ℕ) (result : Result Drained ApplyError) (log : List Entry) (counts : List ℕ) → Counts slots counts log → Counts slots counts (drained_entries pen slot result ++ log)
drained_counts slots pen slot (Ok drained) log counts is = record { size = is.size; each = is.each }
drained_counts slots pen slot (Err refused) log counts is = is

-- a call
abbrev pub Opened : Result Receipt ApplyError → List ℕ → List ℕ → Type 0
Opened result old new = MatchResult result (λ receipt. new ≡ counted_up receipt.done.opened old) (λ _. new ≡ old)

pub held_counts : (k : Settings) (s : Step) (desk : ℕ) (noop : Noop) (result : Result Receipt ApplyError) (touched : List ℕ) (old new : Booked) (told : List Told) (log : List Entry)
    → Held k (steps_of log) s desk noop result touched old new told → Opened result old.openings new.openings → Counts k.slots old.openings log
    → Counts k.slots new.openings (added desk s result noop ++ log)
held_counts k s desk noop (Ok receipt) touched old new told log (asked h) opened is =
    subst (λ counts. Counts k.slots counts (event_entry desk (tape_step s) receipt.done ∷ (noop_entries desk noop ++ log))) (sym opened)
    (event_counts k s desk receipt.done (run k (entered noop (steps_of log))) (noop_entries desk noop ++ log) old.openings h.event.done_is (noop_counts k.slots desk noop log old.openings is))
held_counts k s desk noop (Err refused) touched old new told log held opened is = subst (λ counts. Counts k.slots counts (noop_entries desk noop ++ log)) (sym opened) (noop_counts k.slots desk noop log old.openings is)
held_counts k s desk noop (Ok receipt) touched old new told log (unasked none h) opened is = let bad : Ok receipt ≡ Err _ = h.wanting in absurd cc

-- at the start
zeros : (n c : ℕ) → ◌≡◌ {A = ℕ} (get_or (replicate n 0) c 0) 0
zeros zero c = refl
zeros (suc n) zero = refl
zeros (suc n) (suc c) = zeros n c

length_zeros : (n : ℕ) → length {A = ℕ} (replicate n 0) ≡ n
length_zeros zero = refl
length_zeros (suc n) = ap suc (length_zeros n)

pub none_opened : (slots : ℕ) → Counts slots (replicate slots 0) []
none_opened slots = record { size = length_zeros slots; each = zeros slots }
