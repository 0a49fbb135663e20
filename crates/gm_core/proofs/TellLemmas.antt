-- What is told to several connections.
use Rattle.std.proofs.Common.{◌≡◌, ℕ, ◌+◌, ◌-◌, ◌<◌, ◌≤◌, Bool, true, false, not, ◌&&◌, ◌||◌, ◌==◌, if◌then◌else◌, IsTrue, List, []}
use Rattle.std.proofs.Common.{◌∷◌, ◌++◌, length, take, drop, get_or, filter, refl, sym, ap, subst, ◌∙◌, arith}
use Rattle.std.proofs.lemmas.Bool.Decides.{nat_tests}
use Rattle.std.proofs.lemmas.List.{take_more, length-drop}
use Rattle.std.proofs.lemmas.List.Elements.{filter-append}
use Rattle.std.proofs.Math.Seq.{drop-cons}
use Rattle.std.proofs.Math.Numerals.{add-one}
use Rattle.gm_packet.specs.Answers.{Answer, answer_packet}
use Rattle.gm_notes.specs.Settings.{Settings}
use Rattle.gm_notes.specs.Flow.{waiting}
use Rattle.gm_notes.specs.Past.{Past, give, tell_all}
use Rattle.gm_conns.specs.Connections.{Connection, with_room, with_bytes}
use Rattle.gm_conns.specs.ConnTables.{Table, conn, Changes}
use Rattle.gm_core.specs.Facts.{ConnFacts}
use Rattle.gm_core.specs.Holds.{outbox, AllTouched, HoldsConns, NamesFunctions}
use Rattle.gm_core.proofs.ConnLemmas.{conn_changes, same_here}
use Rattle.gm_core.specs.Telling.{hears, poured, needed, Roomed}
use Rattle.gm_core.specs.Writing.{Text, CanBePut}

-- from some bytes that wait, telling the slots that are left leads where telling all led from the first
pub record Pouring (k : Settings) (table : Table) (names : List (List ℕ)) (facts : ConnFacts) (text all left : List ℕ) (bytes : ℕ → List ℕ) : Type 0 where
  pub now : ℕ → List ℕ
  pub holds : HoldsConns k table names facts now
  pub leads : poured text all bytes ≡ poured text left now

-- ---- what is told, in the past

pub poured_is : (answer : Answer) (slots : List ℕ) (past : Past) → poured (answer_packet answer) slots (λ d. waiting d past.flow) ≡ (λ d. waiting d (tell_all answer slots past).flow)
poured_is answer [] past = refl
poured_is answer (c ∷ slots) past = poured_is answer slots (give c answer past)

pub told_notes : (answer : Answer) (slots : List ℕ) (past : Past) → (tell_all answer slots past).notes ≡ past.notes
told_notes answer [] past = refl
told_notes answer (c ∷ slots) past = told_notes answer slots (give c answer past)

-- ---- room

pub roomed_nothing : (table : Table) → Roomed table table
roomed_nothing table = record { slots = refl; conns = λ c. refl; more = λ c. omega arith; touched = λ c. refl }

pub roomed_then : (a b c : Table) → Roomed a b → Roomed b c → Roomed a c
roomed_then a b c first second = record {
  slots = second.slots ∙ first.slots;
  conns = λ d. second.conns d ∙ ap (λ (x : Connection). record x { room = (conn c d).room }) (first.conns d);
  more = λ d. (let one = first.more d in let two = second.more d in omega (arith, one, two));
  touched = λ d. second.touched d ∙ first.touched d;
}

-- room that grows at one slot
pub roomed_one : (old new : Table) (c n : ℕ) → Changes c (with_room n) false old new → Roomed old new
roomed_one old new c n changes = record {
  slots = changes.slots;
  conns = λ d. here d (d == c) (changes.conns d);
  more = λ d. grown d (d == c) (ap (λ (x : Connection). x.room) (changes.conns d));
  touched = changes.touched;
}
  where
    here : (d : ℕ) (t : Bool) → conn new d ≡ (if t then with_room n (conn old d) else conn old d) → conn new d ≡ record (conn old d) { room = (conn new d).room }
    here d true e = e ∙ ap (λ (x : ℕ). record (conn old d) { room = x }) (sym (ap (λ (x : Connection). x.room) e))
    here d false e = e ∙ ap (λ (x : ℕ). record (conn old d) { room = x }) (sym (ap (λ (x : Connection). x.room) e))

    grown : (d : ℕ) (t : Bool) → (conn new d).room ≡ (if t then with_room n (conn old d) else conn old d).room → (conn old d).room ≤ (conn new d).room
    grown d true e = grind (arith, e)
    grown d false e = omega (arith, e)

-- room touches no slot
pub touched_roomed : {old new : Table} → Roomed old new → AllTouched old new
touched_roomed {old} {new} roomed = record { others = λ c untouched. (sym (roomed.touched c) ∙ untouched, ap outbox (roomed.conns c)) }

-- room is nothing that is seen
pub holds_roomed : {k : Settings} {old new : Table} {names : List (List ℕ)} {facts : ConnFacts} {w : ℕ → List ℕ} → Roomed old new → HoldsConns k old names facts w → HoldsConns k new names facts w
holds_roomed {k} {old} {new} {names} {facts} {w} roomed holds = record {
  slots = roomed.slots ∙ holds.slots;
  opens = λ c. ap (λ (x : Connection). x.is_open) (roomed.conns c) ∙ holds.opens c;
  seen = λ c opened. ap (λ (x : Connection). Rattle.gm_core.specs.Holds.shown names x) (roomed.conns c) ∙ holds.seen c opened;
  waiting = λ c. ap (λ (x : Connection). x.waiting) (roomed.conns c) ∙ holds.waiting c;
  able = λ c. subst (NamesFunctions names) (sym (roomed.conns c)) (holds.able c);
}

pub hears_roomed : (old new : Table) (e : Bool) → Roomed old new → (c : ℕ) → hears new e c ≡ hears old e c
hears_roomed old new e roomed c = ap (λ (x : Connection). x.is_open && (not e || x.has_option)) (roomed.conns c)

pub needed_last : (count c x : ℕ) (t : Bool) (xs : List ℕ) → needed count c (xs ++ (if t then x ∷ [] else [])) ≡ needed count c xs + needed count c (if t then x ∷ [] else [])
needed_last count c x true [] = omega arith
needed_last count c x false [] = omega arith
needed_last count c x t (y ∷ xs) = by (y == c) (needed_last count c x t xs)
  where
    by : (s : Bool) → needed count c (xs ++ (if t then x ∷ [] else [])) ≡ needed count c xs + needed count c (if t then x ∷ [] else [])
        → (if s then count + needed count c (xs ++ (if t then x ∷ [] else [])) else needed count c (xs ++ (if t then x ∷ [] else [])))
        ≡ (if s then count + needed count c xs else needed count c xs) + needed count c (if t then x ∷ [] else [])
    by true e = omega (arith, e)
    by false e = e

pub reserve_step : (first mid new : Table) (e : Bool) (count : ℕ) (slots : List ℕ) (i : ℕ) → i < length slots → Roomed first mid → Roomed mid new
    → (IsTrue (hears mid e (get_or slots i 0)) → (conn mid (get_or slots i 0)).room + count ≤ (conn new (get_or slots i 0)).room)
    → ((c : ℕ) → (conn first c).room + needed count c (filter (hears first e) (take i slots)) ≤ (conn mid c).room)
    → (d : ℕ) → (conn first d).room + needed count d (filter (hears first e) (take (i + 1) slots)) ≤ (conn new d).room
reserve_step first mid new e count slots i lt before step grows so_far d =
    subst (λ (l : List ℕ). base + needed count d (filter (hears first e) l) ≤ (conn new d).room) (sym (take_more slots i 0 lt))
    (subst (λ (l : List ℕ). base + needed count d l ≤ (conn new d).room) (sym (filter-append (hears first e) (take i slots) (get_or slots i 0 ∷ [])))
    (by (hears first e (get_or slots i 0)) refl))
  where
    base : ℕ
    base = (conn first d).room

    at : (t : Bool) → (get_or slots i 0 == d) ≡ t → (conn mid (get_or slots i 0)).room + count ≤ (conn new (get_or slots i 0)).room
        → base + (needed count d (filter (hears first e) (take i slots)) + (if t then count + 0 else 0)) ≤ (conn new d).room
    at true same more =
        let is : get_or slots i 0 ≡ d = grind (arith, nat_tests) in
        let here : (conn mid d).room + count ≤ (conn new d).room = subst (λ y. (conn mid y).room + count ≤ (conn new y).room) is more in
        let was = so_far d in
        omega (arith, here, was)
    at false other more = let was = so_far d in let grown = step.more d in omega (arith, was, grown)

    by : (t : Bool) → hears first e (get_or slots i 0) ≡ t
        → base + needed count d (filter (hears first e) (take i slots) ++ (if t then get_or slots i 0 ∷ [] else [])) ≤ (conn new d).room
    by true h =
        let heard : IsTrue (hears mid e (get_or slots i 0)) = hears_roomed first mid e before (get_or slots i 0) ∙ h in
        subst (λ y. base + y ≤ (conn new d).room) (sym (needed_last count d (get_or slots i 0) true (filter (hears first e) (take i slots)))) (at (get_or slots i 0 == d) refl (grows heard))
    by false h =
        let was = so_far d in
        let grown = step.more d in
        let same = needed_last count d (get_or slots i 0) false (filter (hears first e) (take i slots)) in
        omega (arith, was, grown, same)

-- ---- queueing

module _ {told : Bool} (old new : Table) (c : ℕ) (text : List ℕ) (cost : ℕ) (changes : Changes c (with_bytes text cost) told old new) where
  pub put_hears : (e : Bool) (d : ℕ) → hears new e d ≡ hears old e d
  put_hears e d = ap (λ (x : Connection). x.is_open && (not e || x.has_option)) (changes.conns d) ∙ by (d == c)
    where
      by : (t : Bool) → ((if t then with_bytes text cost (conn old d) else conn old d).is_open && (not e || (if t then with_bytes text cost (conn old d) else conn old d).has_option))
          ≡ ((conn old d).is_open && (not e || (conn old d).has_option))
      by true = refl
      by false = refl

  -- the room that is left serves those that are left
  pub put_room : (rest : List ℕ) → ((d : ℕ) → needed cost d (c ∷ rest) ≤ (conn old d).room) → (d : ℕ) → needed cost d rest ≤ (conn new d).room
  put_room rest room d = by (d == c) refl (room d) (ap (λ (x : Connection). x.room) (changes.conns d))
    where
      by : (t : Bool) → (d == c) ≡ t → (if c == d then cost + needed cost d rest else needed cost d rest) ≤ (conn old d).room
          → (conn new d).room ≡ (if t then with_bytes text cost (conn old d) else conn old d).room → needed cost d rest ≤ (conn new d).room
      by true e fits is =
          let turned : (c == d) ≡ true = grind (arith, nat_tests) in
          let more : cost + needed cost d rest ≤ (conn old d).room = rw turned at fits in
          omega (arith, more, is)
      by false e fits is =
          let turned : (c == d) ≡ false = grind (arith, nat_tests) in
          let same : needed cost d rest ≤ (conn old d).room = rw turned at fits in
          omega (arith, same, is)

  -- what is used of the room is what came
  pub put_left : (rest : List ℕ) (first all : ℕ → ℕ) → ((d : ℕ) → needed cost d (c ∷ rest) ≤ (conn old d).room)
      → ((d : ℕ) → first d + needed cost d (c ∷ rest) ≤ (conn old d).room + all d) → (d : ℕ) → first d + needed cost d rest ≤ (conn new d).room + all d
  put_left rest first all room left d = by (d == c) refl (room d) (left d) (ap (λ (x : Connection). x.room) (changes.conns d))
    where
      by : (t : Bool) → (d == c) ≡ t → (if c == d then cost + needed cost d rest else needed cost d rest) ≤ (conn old d).room
          → first d + (if c == d then cost + needed cost d rest else needed cost d rest) ≤ (conn old d).room + all d
          → (conn new d).room ≡ (if t then with_bytes text cost (conn old d) else conn old d).room → first d + needed cost d rest ≤ (conn new d).room + all d
      by true e fits was is =
          let turned : (c == d) ≡ true = grind (arith, nat_tests) in
          let more : cost + needed cost d rest ≤ (conn old d).room = rw turned at fits in
          let so : first d + (cost + needed cost d rest) ≤ (conn old d).room + all d = rw turned at was in
          omega (arith, more, so, is)
      by false e fits was is =
          let turned : (c == d) ≡ false = grind (arith, nat_tests) in
          let so : first d + needed cost d rest ≤ (conn old d).room + all d = rw turned at was in
          omega (arith, so, is)

  pub put_holds : {k : Settings} {names : List (List ℕ)} {facts : ConnFacts} {w : ℕ → List ℕ} → HoldsConns k old names facts w
      → HoldsConns k new names facts (λ d. if d == c then w d ++ text else w d)
  put_holds {k} {names} {facts} {w} holds =
      conn_changes c (with_bytes text cost) (λ s. s) (λ bytes. bytes ++ text) changes (λ x. refl) (λ x able. refl) (λ x. refl) (λ x able. able) (λ d. refl) (λ d. same_here (d == c) (facts.seen d)) (λ d. refl) holds

-- there is room for the first that hears
pub first_room : (count c : ℕ) (rest : List ℕ) (room : ℕ) → needed count c (c ∷ rest) ≤ room → count ≤ room
first_room count c rest room fits = let itself : (c == c) ≡ true = grind (arith, nat_tests) in let more : count + needed count c rest ≤ room = rw itself at fits in omega (arith, more)

-- ---- those that are left

pub heard_next : (P : ℕ → Bool) (slots : List ℕ) (i : ℕ) → i < length slots → P (get_or slots i 0) ≡ true → filter P (drop i slots) ≡ get_or slots i 0 ∷ filter P (drop (i + 1) slots)
heard_next P slots i lt hears =
    ap (filter P) (drop-cons slots i 0 lt)
    ∙ rw hears (ap (λ (j : ℕ). get_or slots i 0 ∷ filter P (drop j slots)) (sym (add-one i)))

pub unheard_next : (P : ℕ → Bool) (slots : List ℕ) (i : ℕ) → i < length slots → P (get_or slots i 0) ≡ false → filter P (drop i slots) ≡ filter P (drop (i + 1) slots)
unheard_next P slots i lt deaf =
    ap (filter P) (drop-cons slots i 0 lt)
    ∙ rw deaf (ap (λ (j : ℕ). filter P (drop j slots)) (sym (add-one i)))

-- ---- the text that is told

module _ (first now new : Text) (was : now ≡ record first { owners = now.owners }) (slots : List ℕ) (i : ℕ) (owned : CanBePut (length (drop i slots)) now) (lt : i < length slots) where
  -- it was put to a slot
  pub text_put : new ≡ record now { owners = now.owners - 1 } → new ≡ record first { owners = new.owners }
  text_put is = is ∙ (ap (λ (t : Text). record t { owners = now.owners - 1 }) was ∙ ap (λ (n : ℕ). record first { owners = n }) (sym (ap (λ (t : Text). t.owners) is)))

  pub owned_put : new ≡ record now { owners = now.owners - 1 } → CanBePut (length (drop (i + 1) slots)) new
  owned_put is shared =
      let enough = owned (sym (ap (λ (t : Text). t.is_shared) is) ∙ shared) in
      omega (arith, enough, length-drop i slots, length-drop (i + 1) slots, ap (λ (t : Text). t.owners) is, lt)

  -- it wasn't
  pub text_same : new ≡ now → new ≡ record first { owners = new.owners }
  text_same is = is ∙ (was ∙ ap (λ (n : ℕ). record first { owners = n }) (sym (ap (λ (t : Text). t.owners) is)))

  pub owned_same : new ≡ now → CanBePut (length (drop (i + 1) slots)) new
  owned_same is shared =
      let enough = owned (sym (ap (λ (t : Text). t.is_shared) is) ∙ shared) in
      omega (arith, enough, length-drop i slots, length-drop (i + 1) slots, ap (λ (t : Text). t.owners) is, lt)
