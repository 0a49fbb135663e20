-- Sleeping workers that are woken: the slots that are passed over, and those that are woken.
use Rattle.std.proofs.Common.{◌≡◌, ℕ, zero, suc, ◌+◌, ◌-◌, ◌<◌, ◌≤◌, Bool, true, false, ◌&&◌, ◌||◌, ◌==◌, nat_eq}
use Rattle.std.proofs.Common.{if◌then◌else◌, List, [], ◌∷◌, length, map, Some, refl, sym, ap, subst, ◌∙◌, arith}
use Rattle.std.specs.Prelude.{is_some}
use Rattle.std.specs.Map.{lookup}
use Rattle.std.specs.Str.{bytes_eq}
use Rattle.std.specs.List.{list_any}
use Rattle.std.proofs.lemmas.Bool.Decides.{nat_tests}
use Rattle.gm_notes.specs.declared.note.Note.TheVariants.{Woken}
use Rattle.gm_notes.specs.declared.states.Mode.{Mode}
use Rattle.gm_notes.specs.Settings.{Settings}
use Rattle.gm_notes.specs.Notes.{is_open, phase, is_asleep, slots_from}
use Rattle.gm_notes.specs.Jobs.{is_of, is_able}
use Rattle.gm_notes.specs.Past.{Past, with_note, wake_one, wake_each, wake}
use Rattle.gm_conns.specs.ConnTables.{conn, is_sleeper, IsOpen}
use Rattle.gm_conns.specs.ConnTables as tables
use Rattle.gm_queues.specs.FunctionTables as queues
use Rattle.gm_jobs.specs.Tables as jobs
use Rattle.gm_core.specs.declared.server.Tables.{Tables}
use Rattle.gm_core.specs.Facts.{Seen, FunctionFacts}
use Rattle.gm_core.specs.Holds.{name_at, ability_named, AreFunctions, HoldsFunctions, Holds, Keeps, Goes}
use Rattle.gm_core.proofs.FunctionLemmas.{apart}
use Rattle.gm_core.proofs.CoreLemmas.{open_is}
use Rattle.std.proofs.Math.Numerals.{add-one}

-- ---- slots

-- slots where nobody is woken are passed over
pub passed : (f : List ℕ) (count from total rest to : ℕ) (past : Past) → total ≡ count + rest → to ≡ from + count
    → ((c : ℕ) → from ≤ c → c < to → wake_one f c past ≡ past) → wake_each f (slots_from from total) past ≡ wake_each f (slots_from to rest) past
passed f zero from total rest to past all end none =
    let same : total ≡ rest = omega (arith, all) in
    let here : to ≡ from = omega (arith, end) in
    rw (same, here) refl
passed f (suc count) from total rest to past all end none =
    let more : total ≡ suc (count + rest) = omega (arith, all) in
    ap (λ n. wake_each f (slots_from from n) past) more
    ∙ (ap (wake_each f (slots_from (suc from) (count + rest))) (none from (omega arith) (omega (arith, end)))
    ∙ passed f count (suc from) (count + rest) rest to past refl (omega (arith, end)) (λ c low high. none c (omega (arith, low)) high))

-- ---- workers

module _ {k : Settings} {table : queues.Table} {facts : FunctionFacts} (holds : HoldsFunctions k table facts) (f : ℕ) (within : f < length table.names) where
  -- whether a worker can do a function
  pub able_is : (xs : List (ℕ × ℕ)) → AreFunctions table.names xs → list_any (is_of (name_at table.names f)) (map (ability_named table.names) xs) ≡ is_some (lookup (nat_eq f) xs)
  able_is [] all = refl
  able_is (x ∷ xs) all = by (nat_eq f x.0) refl (able_is xs all.1)
    where
      by : (t : Bool) → nat_eq f x.0 ≡ t → list_any (is_of (name_at table.names f)) (map (ability_named table.names) xs) ≡ is_some (lookup (nat_eq f) xs)
          → (bytes_eq (name_at table.names x.0) (name_at table.names f) || list_any (is_of (name_at table.names f)) (map (ability_named table.names) xs))
          ≡ is_some (if t then Some x.1 else lookup (nat_eq f) xs)
      by true e rest =
          let here : bytes_eq (name_at table.names x.0) (name_at table.names f) ≡ true = apart holds x.0 f all.0 within ∙ (let same : (x.0 == f) ≡ true = grind (arith, nat_tests) in same) in
          rw here refl
      by false e rest =
          let here : bytes_eq (name_at table.names x.0) (name_at table.names f) ≡ false = apart holds x.0 f all.0 within ∙ (let other : (x.0 == f) ≡ false = grind (arith, nat_tests) in other) in
          rw here rest

module _ {k : Settings} {connections : tables.Table} {mentioned : queues.Table} {live : jobs.Table} {now : ℕ} {goes : Mode} {p : Past} (holds : Holds k connections mentioned live now goes p)
    (f : ℕ) (within : f < length mentioned.names) (c : ℕ) where
  -- what the table says of a sleeper is what the past says
  sleeper_is : is_open c p.notes ≡ true → is_sleeper f (conn connections c) ≡ (is_asleep (phase c p.notes) && is_able c (name_at mentioned.names f) p.notes)
  sleeper_is opened =
      let x = conn connections c in
      let shows = holds.conns.seen c opened in
      ap (λ b. b && is_some (lookup (nat_eq f) x.abilities)) (ap (λ (s : Seen). is_asleep s.phase) shows)
      ∙ ap (λ b. is_asleep (phase c p.notes) && b)
      (sym (able_is holds.functions f within x.abilities (holds.conns.able c).0) ∙ ap (λ (s : Seen). list_any (is_of (name_at mentioned.names f)) s.abilities) shows)

  -- who sleeps not isn't woken
  pub wakes_not : is_sleeper f (conn connections c) ≡ false → wake_one (name_at mentioned.names f) c p ≡ p
  wakes_not idle = by (is_open c p.notes) refl
    where
      both : (t u v : Bool) → t ≡ true → (u && v) ≡ false → (t && u && v) ≡ false
      both true u v e f = f
      both false u v e f = refl

      by : (t : Bool) → is_open c p.notes ≡ t → wake_one (name_at mentioned.names f) c p ≡ p
      by true e =
          let test : (is_open c p.notes && is_asleep (phase c p.notes) && is_able c (name_at mentioned.names f) p.notes) ≡ false =
          both (is_open c p.notes) (is_asleep (phase c p.notes)) (is_able c (name_at mentioned.names f) p.notes) e (sym (sleeper_is e) ∙ idle) in
          ap (λ b. if b then with_note (Woken c) p else p) test
      by false e = rw e refl

  -- and who sleeps is
  pub wakes : is_open c p.notes ≡ true → is_sleeper f (conn connections c) ≡ true → wake_one (name_at mentioned.names f) c p ≡ with_note (Woken c) p
  wakes opened sleeps =
      let test : (is_open c p.notes && is_asleep (phase c p.notes) && is_able c (name_at mentioned.names f) p.notes) ≡ true =
      both (is_open c p.notes) (is_asleep (phase c p.notes)) (is_able c (name_at mentioned.names f) p.notes) opened (sym (sleeper_is opened) ∙ sleeps) in
      ap (λ b. if b then with_note (Woken c) p else p) test
    where
      both : (t u v : Bool) → t ≡ true → (u && v) ≡ true → (t && u && v) ≡ true
      both true u v e f = f
      both false u v e f = absurd cc

-- ---- the loop

-- the core keeps a past from which waking at the slots from this one on leads where waking at all led from the first
pub record Waking (core : Tables) (f : List ℕ) (from left : ℕ) (k : Settings) (past : Past) : Type 0 where
  pub now : Past
  pub keeps : Keeps core now
  pub leads : wake_each f (slots_from 0 k.slots) past ≡ wake_each f (slots_from from left) now

module _ (core self : Tables) (f from : ℕ) (config : self.config ≡ core.config) (functions : self.functions ≡ core.functions) (within : f < length core.functions.names) (past : Past)
    (t : Waking self (name_at core.functions.names f) from (core.config.slots - from) core.config past) where
  same_name : name_at self.functions.names f ≡ name_at core.functions.names f
  same_name = ap (λ (q : queues.Table). name_at q.names f) functions

  still_within : f < length self.functions.names
  still_within = subst (λ (q : queues.Table). f < length q.names) (sym functions) within

  idle_is : (c : ℕ) → is_sleeper f (conn self.conns c) ≡ false → wake_one (name_at core.functions.names f) c t.now ≡ t.now
  idle_is c idle = subst (λ (g : List ℕ). wake_one g c t.now ≡ t.now) same_name (wakes_not t.keeps f still_within c idle)

  -- the next sleeper is woken
  pub waking_on : (new : Tables) (slot : ℕ) → Goes self new (with_note (Woken slot)) → IsOpen self.conns slot → from ≤ slot → slot < length self.conns.conns
      → is_sleeper f (conn self.conns slot) ≡ true → ((c : ℕ) → from ≤ c → c < slot → is_sleeper f (conn self.conns c) ≡ false)
      → Waking new (name_at core.functions.names f) (slot + 1) (core.config.slots - (slot + 1)) core.config past
  waking_on new slot goes opened low high sleeps least =
      let name = name_at core.functions.names f in
      let rest = core.config.slots - (slot + 1) in
      let slots = t.keeps.conns.slots in
      let same : self.config.slots ≡ core.config.slots = ap (λ (k : Settings). k.slots) config in
      let woken : wake_one name slot t.now ≡ with_note (Woken slot) t.now =
      subst (λ (g : List ℕ). wake_one g slot t.now ≡ with_note (Woken slot) t.now) same_name (wakes t.keeps f still_within slot (open_is t.keeps slot opened) sleeps) in
      record {
        now = with_note (Woken slot) t.now;
        keeps = goes.past t.now t.keeps;
        leads = t.leads
            ∙ (passed name (slot - from) from (core.config.slots - from) (suc rest) slot t.now (omega (arith, low, high, slots, same)) (omega (arith, low)) (λ c at under. idle_is c (least c at under))
            ∙ (ap (wake_each name (slots_from (suc slot) rest)) woken
            ∙ ap (λ n. wake_each name (slots_from n rest) (with_note (Woken slot) t.now)) (sym (add-one slot))));
      }

  -- no sleeper is left
  pub waking_done : ((c : ℕ) → from ≤ c → is_sleeper f (conn self.conns c) ≡ false) → Keeps self (wake core.config (name_at core.functions.names f) past)
  waking_done none =
      let name = name_at core.functions.names f in
      let left = core.config.slots - from in
      let done : wake_each name (slots_from from left) t.now ≡ t.now = passed name left from left 0 (from + left) t.now (omega arith) refl (λ c at under. idle_is c (none c at)) in
      subst (Keeps self) (sym (t.leads ∙ done)) t.keeps
