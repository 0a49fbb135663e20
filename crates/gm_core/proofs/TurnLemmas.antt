-- The order in which the abilities of a slot are tried.
use Rattle.std.proofs.Common.{◌≡◌, ℕ, zero, suc, ◌<◌, Bool, true, false, ◌==◌, nat_eq, if◌then◌else◌, List, [], ◌∷◌, ◌++◌}
use Rattle.std.proofs.Common.{length, get_or, map, drop, take, ◌+◌, Option, Some, None, refl, sym, ap, subst, ◌∙◌, arith}
use Rattle.std.proofs.Math.Numerals.{add-one}
use Rattle.std.specs.Prelude.{slice_get}
use Rattle.std.specs.List.{list_any, position}
use Rattle.std.specs.Map.{keys_of}
use Rattle.std.specs.Option.{option_map, option_or}
use Rattle.std.specs.Str.{bytes_eq}
use Rattle.std.proofs.lemmas.Bool.{or_parts}
use Rattle.std.proofs.lemmas.Bool.Decides.{nat_tests}
use Rattle.std.proofs.Math.Seq.{take-length}
use Rattle.std.proofs.lemmas.List.{append-nil, map-append}
use Rattle.std.proofs.lemmas.List.Quantifiers.{position-Some}
use Rattle.gm_queues.proofs.PositionLemmas.{list_any-missed}
use Rattle.gm_queues.specs.FunctionTables.{Table}
use Rattle.gm_notes.specs.declared.note.Note.{Note}
use Rattle.gm_notes.specs.declared.states.Pick.{Pick}
use Rattle.gm_notes.specs.Settings.{Settings}
use Rattle.gm_notes.specs.Jobs.{Ability, first_of, pick_from, waiting_for, abilities, last_function, behind, up_to, rotated, scan}
use Rattle.gm_notes.specs.Past.{Past}
use Rattle.gm_conns.specs.ConnTables.{conn, IsOpen}
use Rattle.gm_core.specs.declared.server.Tables.{Tables}
use Rattle.gm_core.specs.Facts.{Seen, FunctionFacts}
use Rattle.gm_core.specs.Holds.{name_at, ability_named, AreFunctions, IsFunction, HoldsFunctions, Keeps}
use Rattle.gm_core.proofs.FunctionLemmas.{apart}
use Rattle.gm_core.proofs.CoreLemmas.{seen_is}

-- ---- parts of a list

pub get_taken : {A : Type 0} (xs : List A) (n i : ℕ) → i < n → slice_get (take n xs) i ≡ slice_get xs i
get_taken xs zero i h = absurd (omega (arith, h))
get_taken [] (suc n) i h = refl
get_taken (x ∷ xs) (suc n) zero h = refl
get_taken (x ∷ xs) (suc n) (suc i) h = get_taken xs n i (omega (arith, h))

pub able_taken : (names : List (List ℕ)) (n : ℕ) (xs : List (ℕ × ℕ)) → AreFunctions names xs → AreFunctions names (take n xs)
able_taken names zero xs all = tt
able_taken names (suc n) [] all = tt
able_taken names (suc n) (x ∷ xs) all = (all.0, able_taken names n xs all.1)

-- the pick from abilities and then others
pub pick_both : (xs ys : List Ability) (notes : List Note) → pick_from (xs ++ ys) notes ≡ option_or (pick_from xs notes) (pick_from ys notes)
pick_both [] ys notes = refl
pick_both (x ∷ xs) ys notes = by (waiting_for x.function notes) (pick_both xs ys notes)
  where
    by : (ns : List ℕ) → pick_from (xs ++ ys) notes ≡ option_or (pick_from xs notes) (pick_from ys notes)
        → first_of ns x.timeout (pick_from (xs ++ ys) notes) ≡ option_or (first_of ns x.timeout (pick_from xs notes)) (pick_from ys notes)
    by [] e = e
    by (n ∷ ns) e = refl

-- ---- abilities by number and by name

module _ {k : Settings} {table : Table} {facts : FunctionFacts} (holds : HoldsFunctions k table facts) where
  abbrev shows : List (ℕ × ℕ) → List Ability
  shows xs = map (ability_named table.names) xs

  same_as : (f g : ℕ) (t : Bool) → f < length table.names → g < length table.names → nat_eq g f ≡ t → bytes_eq (name_at table.names f) (name_at table.names g) ≡ t
  same_as f g t within within_too e = apart holds f g within within_too ∙ (let turn : (f == g) ≡ nat_eq g f = grind (arith, nat_tests) in turn ∙ e)

  parted : (g i : ℕ) (xs : List (ℕ × ℕ)) → AreFunctions table.names xs → g < length table.names → i < length (keys_of xs) → nat_eq g (get_or (keys_of xs) i 0) ≡ true
      → ((k : ℕ) → k < i → nat_eq g (get_or (keys_of xs) k 0) ≡ false)
      → (behind (name_at table.names g) (shows xs) ≡ shows (drop (suc i) xs)) × (up_to (name_at table.names g) (shows xs) ≡ shows (take (suc i) xs))
  parted g i [] all within less is before = absurd (omega (arith, less))
  parted g zero (x ∷ xs) all within less is before =
      let here = same_as x.0 g true all.0 within is in
      (rw here refl, rw here refl)
  parted g (suc i) (x ∷ xs) all within less is before =
      let here = same_as x.0 g false all.0 within (before 0 (omega arith)) in
      let rest = parted g i xs all.1 within (omega (arith, less)) is (λ k h. before (suc k) (omega (arith, h))) in
      (rw here rest.0, rw here (ap (λ (l : List Ability). ability_named table.names x ∷ l) rest.1))

  absent : (g : ℕ) (xs : List (ℕ × ℕ)) → AreFunctions table.names xs → g < length table.names → list_any (nat_eq g) (keys_of xs) ≡ false
      → (behind (name_at table.names g) (shows xs) ≡ []) × (up_to (name_at table.names g) (shows xs) ≡ shows xs)
  absent g [] all within none = (refl, refl)
  absent g (x ∷ xs) all within none =
      let parts = or_parts (nat_eq g x.0) (list_any (nat_eq g) (keys_of xs)) none in
      let here = same_as x.0 g false all.0 within parts.0 in
      let rest = absent g xs all.1 within parts.1 in
      (rw here rest.0, rw here (ap (λ (l : List Ability). ability_named table.names x ∷ l) rest.1))

  -- in turn: behind the ability for the function, and then up to it
  pub turned_at : (g i : ℕ) (xs : List (ℕ × ℕ)) → AreFunctions table.names xs → g < length table.names → position (nat_eq g) (keys_of xs) ≡ Some i
      → rotated (Some (name_at table.names g)) (shows xs) ≡ shows (drop (suc i) xs ++ take (suc i) xs)
  turned_at g i xs all within at =
      let found = position-Some (nat_eq g) (keys_of xs) i 0 at in
      let parts = parted g i xs all within found.0 found.1 found.2 in
      ap (λ (l : List Ability). l ++ up_to (name_at table.names g) (shows xs)) parts.0
      ∙ (ap (λ (l : List Ability). shows (drop (suc i) xs) ++ l) parts.1 ∙ sym (map-append (ability_named table.names) (drop (suc i) xs) (take (suc i) xs)))

  pub turned_nowhere : (g : ℕ) (xs : List (ℕ × ℕ)) → AreFunctions table.names xs → g < length table.names → position (nat_eq g) (keys_of xs) ≡ None
      → rotated (Some (name_at table.names g)) (shows xs) ≡ shows xs
  turned_nowhere g xs all within none =
      let parts = absent g xs all within (list_any-missed (nat_eq g) (keys_of xs) none) in
      ap (λ (l : List Ability). l ++ up_to (name_at table.names g) (shows xs)) parts.0 ∙ parts.1

-- ---- the scan of a slot

-- the abilities are tried in this order
abbrev pub Scans : Tables → Past → ℕ → List (ℕ × ℕ) → Type 0
Scans core past c xs = scan core.config c past.notes ≡ map (ability_named core.functions.names) xs

module _ (core : Tables) (past : Past) (c : ℕ) (keeps : Keeps core past) (opened : IsOpen core.conns c) where
  abbrev named : List (ℕ × ℕ) → List Ability
  named xs = map (ability_named core.functions.names) xs

  abbrev all : List (ℕ × ℕ)
  all = (conn core.conns c).abilities

  can : abilities c past.notes ≡ named all
  can = sym (ap (λ (s : Seen). s.abilities) (seen_is keeps c opened))

  last : last_function c past.notes ≡ option_map (name_at core.functions.names) (conn core.conns c).last
  last = sym (ap (λ (s : Seen). s.last) (seen_is keeps c opened))

  chosen : (robin : Bool) (turn straight : List Ability) → robin ≡ true → (if robin then turn else straight) ≡ turn
  chosen true turn straight e = refl
  chosen false turn straight e = absurd cc

  not_chosen : (robin : Bool) (turn straight : List Ability) → robin ≡ false → (if robin then turn else straight) ≡ straight
  not_chosen true turn straight e = absurd cc
  not_chosen false turn straight e = refl

  from_the_first : named all ≡ named (all ++ [])
  from_the_first = ap named (sym (append-nil all))

  pub scans_straight : core.config.round_robin ≡ false → Scans core past c (all ++ [])
  scans_straight e = not_chosen core.config.round_robin (rotated (last_function c past.notes) (abilities c past.notes)) (abilities c past.notes) e ∙ (can ∙ from_the_first)

  in_turn : (o : Option ℕ) → core.config.round_robin ≡ true → (conn core.conns c).last ≡ o
      → scan core.config c past.notes ≡ rotated (option_map (name_at core.functions.names) o) (named all)
  in_turn o e is =
      chosen core.config.round_robin (rotated (last_function c past.notes) (abilities c past.notes)) (abilities c past.notes) e
      ∙ (ap (λ (l : Option (List ℕ)). rotated l (abilities c past.notes)) (last ∙ ap (option_map (name_at core.functions.names)) is)
      ∙ ap (rotated (option_map (name_at core.functions.names) o)) can)

  pub scans_at_first : core.config.round_robin ≡ true → (conn core.conns c).last ≡ None → Scans core past c (all ++ [])
  scans_at_first e none = in_turn None e none ∙ from_the_first

  is_there : (g : ℕ) (o : Option ℕ) → IsFunction core.functions.names o → o ≡ Some g → g < length core.functions.names
  is_there g None there e = absurd cc
  is_there g (Some f) there e = let same : f ≡ g = cc in ap_less f g same there
    where
      ap_less : (f g : ℕ) → f ≡ g → f < length core.functions.names → g < length core.functions.names
      ap_less f g e h = omega (arith, e, h)

  pub scans_in_turn : (g i : ℕ) → core.config.round_robin ≡ true → (conn core.conns c).last ≡ Some g → position (nat_eq g) (keys_of all) ≡ Some i
      → Scans core past c (drop (suc i) all ++ take (suc i) all)
  scans_in_turn g i e is at =
      in_turn (Some g) e is ∙ turned_at keeps.functions g i all (keeps.conns.able c).0 (is_there g (conn core.conns c).last (keeps.conns.able c).1 is) at

  pub scans_without : (g : ℕ) → core.config.round_robin ≡ true → (conn core.conns c).last ≡ Some g → position (nat_eq g) (keys_of all) ≡ None → Scans core past c (all ++ [])
  scans_without g e is none =
      in_turn (Some g) e is
      ∙ (turned_nowhere keeps.functions g all (keeps.conns.able c).0 (is_there g (conn core.conns c).last (keeps.conns.able c).1 is) none ∙ from_the_first)

-- the same of the next number, as it is written
pub at_next : (core : Tables) (past : Past) (c i : ℕ) → Scans core past c (drop (suc i) (conn core.conns c).abilities ++ take (suc i) (conn core.conns c).abilities)
    → Scans core past c (drop (i + 1) (conn core.conns c).abilities ++ take (i + 1) (conn core.conns c).abilities)
at_next core past c i scans = subst (λ n. Scans core past c (drop n (conn core.conns c).abilities ++ take n (conn core.conns c).abilities)) (sym (add-one i)) scans

-- the pick from those that are tried first, and where there is none, from those that are tried last
pub pick_parts : (core : Tables) (past : Past) (c len last : ℕ) (first rest : Option Pick) → len ≡ length (conn core.conns c).abilities
    → Scans core past c (drop last (conn core.conns c).abilities ++ take last (conn core.conns c).abilities)
    → first ≡ pick_from (map (ability_named core.functions.names) (drop last (take len (conn core.conns c).abilities))) past.notes
    → rest ≡ pick_from (map (ability_named core.functions.names) (take last (conn core.conns c).abilities)) past.notes
    → option_or first rest ≡ pick_from (scan core.config c past.notes) past.notes
pick_parts core past c len last first rest all scans one two =
    let xs = (conn core.conns c).abilities in
    let shows = map (ability_named core.functions.names) in
    let whole : take len xs ≡ xs = ap (λ n. take n xs) all ∙ take-length xs in
    let before : first ≡ pick_from (shows (drop last xs)) past.notes = one ∙ ap (λ (l : List (ℕ × ℕ)). pick_from (shows (drop last l)) past.notes) whole in
    ap (λ (o : Option Pick). option_or o rest) before
    ∙ (ap (option_or (pick_from (shows (drop last xs)) past.notes)) two
    ∙ (sym (pick_both (shows (drop last xs)) (shows (take last xs)) past.notes)
    ∙ (ap (λ (l : List Ability). pick_from l past.notes) (sym (map-append (ability_named core.functions.names) (drop last xs) (take last xs)))
    ∙ ap (λ (l : List Ability). pick_from l past.notes) (sym scans))))
