-- How the table of connections holds the facts of connections, after a slot changes.
use Rattle.std.proofs.Common.{◌≡◌, ℕ, ◌+◌, ◌-◌, Bool, true, false, not, ◌&&◌, ◌||◌, ◌==◌, if◌then◌else◌, List, ◌++◌, append_assoc, filter, Some, None}
use Rattle.std.proofs.Common.{unwrap_or, refl, sym, ap, subst, ◌∙◌, arith}
use Rattle.std.proofs.lemmas.Bool.{false≢true}
use Rattle.std.proofs.lemmas.Bool.Decides.{nat_tests}
use Rattle.gm_notes.specs.declared.states.Phase.{Phase}
use Rattle.gm_notes.specs.Settings.{Settings}
use Rattle.gm_notes.specs.Jobs.{Ability, is_of, put}
use Rattle.gm_conns.specs.Connections.{Connection, with_bytes}
use Rattle.gm_conns.specs.ConnTables.{Table, conn, is_touched, Changes}
use Rattle.gm_core.specs.Facts.{Seen, ConnFacts}
use Rattle.gm_core.specs.Holds.{NamesFunctions, HoldsConns, shown, outbox, AllTouched}

-- what is so in the slot and elsewhere is so wherever
pub either : {A : Type 0} (f : Connection → A) (t : Bool) (now then_not : Connection) (x y : A) → (t ≡ true → f now ≡ x) → (t ≡ false → f then_not ≡ y)
    → f (if t then now else then_not) ≡ (if t then x else y)
either f true now then_not x y here there = here refl
either f false now then_not x y here there = there refl

same_slot : (d c : ℕ) → (d == c) ≡ true → c ≡ d
same_slot d c e = grind (arith, nat_tests)

-- A slot that stays open changes: what is seen of it changes so, and what waits for it.
pub conn_changes : {k : Settings} {old new : Table} {names : List (List ℕ)} {facts now : ConnFacts} {w v : ℕ → List ℕ} {told : Bool} (c : ℕ) (change : Connection → Connection)
    (effect : Seen → Seen) (pour : List ℕ → List ℕ) → Changes c change told old new
    → ((x : Connection) → (change x).is_open ≡ x.is_open)
    → ((x : Connection) → NamesFunctions names x → shown names (change x) ≡ effect (shown names x))
    → ((x : Connection) → (change x).waiting ≡ pour x.waiting)
    → ((x : Connection) → NamesFunctions names x → NamesFunctions names (change x))
    → ((d : ℕ) → facts.is_open d ≡ now.is_open d)
    → ((d : ℕ) → (if d == c then effect (facts.seen d) else facts.seen d) ≡ now.seen d)
    → ((d : ℕ) → (if d == c then pour (w d) else w d) ≡ v d)
    → HoldsConns k old names facts w → HoldsConns k new names now v
conn_changes {k} {old} {new} {names} {facts} {now} {w} {v} c change effect pour changes opens shows pours ables same sees flows holds = record {
  slots = changes.slots ∙ holds.slots;
  opens = λ d. ap (λ (x : Connection). x.is_open) (changes.conns d) ∙ (same_open d (d == c) ∙ (holds.opens d ∙ same d));
  seen = λ d e. ap (shown names) (changes.conns d) ∙ (same_seen d (d == c) (same d ∙ e) ∙ sees d);
  waiting = λ d. ap (λ (x : Connection). x.waiting) (changes.conns d) ∙ (same_waiting d (d == c) ∙ flows d);
  able = λ d. subst (NamesFunctions names) (sym (changes.conns d)) (same_able d (d == c));
}
  where
    same_open : (d : ℕ) (t : Bool) → (if t then change (conn old d) else conn old d).is_open ≡ (conn old d).is_open
    same_open d true = opens (conn old d)
    same_open d false = refl

    same_seen : (d : ℕ) (t : Bool) → facts.is_open d ≡ true → shown names (if t then change (conn old d) else conn old d) ≡ (if t then effect (facts.seen d) else facts.seen d)
    same_seen d true e = shows (conn old d) (holds.able d) ∙ ap effect (holds.seen d e)
    same_seen d false e = holds.seen d e

    same_waiting : (d : ℕ) (t : Bool) → (if t then change (conn old d) else conn old d).waiting ≡ (if t then pour (w d) else w d)
    same_waiting d true = pours (conn old d) ∙ ap pour (holds.waiting d)
    same_waiting d false = holds.waiting d

    same_able : (d : ℕ) (t : Bool) → NamesFunctions names (if t then change (conn old d) else conn old d)
    same_able d true = ables (conn old d) (holds.able d)
    same_able d false = holds.able d

-- ---- what single notes change of what is seen

pub same_here : {A : Type 0} (t : Bool) (x : A) → (if t then x else x) ≡ x
same_here true x = refl
same_here false x = refl

abbrev pub with_phase : Phase → Seen → Seen
with_phase p s = record s { phase = p }

pub phase_seen : (p : Phase) (t : Bool) (s : Seen) → (if t then with_phase p s else s) ≡ record s { phase = unwrap_or (if t then Some p else None) s.phase }
phase_seen p true s = refl
phase_seen p false s = refl

abbrev pub with_shut : Seen → Seen
with_shut s = record s { is_shut = true }

pub shut_seen : (t : Bool) (s : Seen) → (if t then with_shut s else s) ≡ record s { is_shut = unwrap_or (if t then Some true else None) s.is_shut }
shut_seen true s = refl
shut_seen false s = refl

abbrev pub with_option : Seen → Seen
with_option s = record s { has_option = true }

pub option_seen : (t : Bool) (s : Seen) → (if t then with_option s else s) ≡ record s { has_option = unwrap_or (if t then Some true else None) s.has_option }
option_seen true s = refl
option_seen false s = refl

abbrev pub with_id : List ℕ → Seen → Seen
with_id id s = record s { id = id }

pub id_seen : (id : List ℕ) (t : Bool) (s : Seen) → (if t then with_id id s else s) ≡ record s { id = unwrap_or (if t then Some id else None) s.id }
id_seen id true s = refl
id_seen id false s = refl

abbrev pub with_abilities : List Ability → Seen → Seen
with_abilities abilities s = record s { abilities = abilities }

abbrev pub without_ability : List ℕ → Seen → Seen
without_ability f s = with_abilities (filter (λ ability. not (is_of f ability)) s.abilities) s

pub cant_seen : (f : List ℕ) (t : Bool) (s : Seen) → (if t then without_ability f s else s) ≡ with_abilities (if t then filter (λ ability. not (is_of f ability)) s.abilities else s.abilities) s
cant_seen f true s = refl
cant_seen f false s = refl

abbrev pub with_ability : List ℕ → ℕ → Seen → Seen
with_ability f t s = with_abilities (put f t s.abilities) s

pub can_seen : (f : List ℕ) (timeout : ℕ) (t : Bool) (s : Seen) → (if t then with_ability f timeout s else s) ≡ with_abilities (if t then put f timeout s.abilities else s.abilities) s
can_seen f timeout true s = refl
can_seen f timeout false s = refl

abbrev pub with_last : List ℕ → Seen → Seen
with_last f s = record s { last = Some f }

pub last_seen : (f : List ℕ) (t : Bool) (s : Seen) → (if t then with_last f s else s) ≡ record s { last = if t then Some f else s.last }
last_seen f true s = refl
last_seen f false s = refl

-- where what is seen stays as it was
pub seen_same : {k : Settings} {table : Table} {names : List (List ℕ)} {facts now : ConnFacts} {w : ℕ → List ℕ} → HoldsConns k table names facts w
    → ((d : ℕ) → facts.is_open d ≡ now.is_open d) → ((d : ℕ) → facts.is_open d ≡ true → facts.seen d ≡ now.seen d) → HoldsConns k table names now w
seen_same {k} {table} {names} {facts} {now} {w} holds opens sees =
    record { slots = holds.slots; opens = λ d. holds.opens d ∙ opens d; seen = λ d e. holds.seen d (opens d ∙ e) ∙ sees d (opens d ∙ e); waiting = holds.waiting; able = holds.able }

-- ---- slots that are touched

pub touched_same : {old new : Table} → new ≡ old → AllTouched old new
touched_same {old} {new} same =
    record { others = λ c untouched. (ap (λ (t : Table). is_touched t c) (sym same) ∙ untouched, ap (λ (t : Table). outbox (conn t c)) same) }

pub touched_then : {a b c : Table} → AllTouched a b → AllTouched b c → AllTouched a c
touched_then {a} {b} {c} first second = record {
  others = λ d untouched.
      let later = second.others d untouched in
      let sooner = first.others d later.0 in
      (sooner.0, later.1 ∙ sooner.1);
}

-- a change that is told, or that leaves the outbox as it is
module _ {old new : Table} {change : Connection → Connection} (c : ℕ) where
  pub touched_told : Changes c change true old new → AllTouched old new
  touched_told changes = record { others = λ d untouched. by d (d == c) (sym (changes.touched d) ∙ untouched) (changes.conns d) }
    where
      by : (d : ℕ) (t : Bool) → (t || is_touched old d) ≡ false → conn new d ≡ (if t then change (conn old d) else conn old d) → (is_touched old d ≡ false) × (outbox (conn new d) ≡ outbox (conn old d))
      by d true e is = absurd (false≢true (sym e))
      by d false e is = (e, ap outbox is)

  pub touched_apart : {told : Bool} → ((x : Connection) → outbox (change x) ≡ outbox x) → Changes c change told old new → AllTouched old new
  touched_apart {told} same changes = record {
    others = λ d untouched. (or_false (told && (d == c)) (is_touched old d) (sym (changes.touched d) ∙ untouched), ap outbox (changes.conns d) ∙ by d (d == c));
  }
    where
      by : (d : ℕ) (t : Bool) → outbox (if t then change (conn old d) else conn old d) ≡ outbox (conn old d)
      by d true = same (conn old d)
      by d false = refl

      or_false : (a b : Bool) → (a || b) ≡ false → b ≡ false
      or_false true b e = absurd (false≢true (sym e))
      or_false false b e = e

-- bytes that are queued after others, to one slot, are queued together with them
pub queued_both : {old mid new : Table} (c : ℕ) (first second : List ℕ) (n m : ℕ) → Changes c (with_bytes first n) true old mid → Changes c (with_bytes second m) true mid new
    → Changes c (with_bytes (first ++ second) (n + m)) true old new
queued_both {old} {mid} {new} c first second n m one other = record {
  slots = other.slots ∙ one.slots;
  conns = λ d. other.conns d ∙ (ap (λ (x : Connection). if d == c then with_bytes second m x else x) (one.conns d) ∙ both (d == c) (conn old d));
  touched = λ d. other.touched d ∙ (ap (λ (t : Bool). (d == c) || t) (one.touched d) ∙ twice (d == c) (is_touched old d));
}
  where
    both : (t : Bool) (x : Connection) → (if t then with_bytes second m (if t then with_bytes first n x else x) else (if t then with_bytes first n x else x)) ≡ (if t then with_bytes (first ++ second) (n + m) x else x)
    both true x =
        let bytes = append_assoc x.waiting first second in
        let room : (x.room - n) - m ≡ x.room - (n + m) = omega arith in
        λ i. record x { waiting = bytes i; room = room i }
    both false x = refl

    twice : (t u : Bool) → (t || (t || u)) ≡ (t || u)
    twice true u = refl
    twice false u = refl
