-- Functions by number and by name.
use Rattle.std.proofs.Common.{◌≡◌, ◌≢◌, ℕ, zero, suc, ◌<◌, Bool, true, false, not, ◌&&◌, ◌||◌, ◌==◌, nat_eq, nat_le}
use Rattle.std.proofs.Common.{if◌then◌else◌, List, [], ◌∷◌, ◌++◌, length, map, filter, drop, Option, Some, None, refl}
use Rattle.std.proofs.Common.{sym, ap, subst, ◌∙◌, arith}
use Rattle.std.specs.Prelude.{slice_get, is_some, IsNone}
use Rattle.std.proofs.Math.Seq.{drop-nil}
use Rattle.std.specs.Str.{bytes_eq}
use Rattle.std.specs.List.{list_any}
use Rattle.std.proofs.lemmas.Bool.Decides.{nat_tests}
use Rattle.std.proofs.lemmas.Slice.Eq.{bytes_eq-Decides}
use Rattle.std.proofs.lemmas.List.Quantifiers.{position-Some}
use Rattle.indexmap.specs.IndexMap.{insert_entry}
use Rattle.gm_notes.specs.declared.note.Note.{Note}
use Rattle.gm_notes.specs.declared.states.Priority.{Priority}
use Rattle.gm_notes.specs.declared.states.Priority.TheVariants.{High, Normal, Low}
use Rattle.gm_notes.specs.Settings.{Settings}
use Rattle.gm_notes.specs.Jobs.{Ability, first_of, pick_from, queue, is_of, put, waiting_for, is_mentioned, is_empty, functions, limit}
use Rattle.gm_notes.specs.declared.states.Pick.{Pick}
use Rattle.gm_notes.specs.Submissions.{is_one_too_many, is_full}
use Rattle.gm_queues.proofs.NameLemmas.{bytes_eq-turned}
use Rattle.gm_queues.proofs.PositionLemmas.{list_any-missed, list_any-found}
use Rattle.gm_queues.specs.FunctionTables.{Table, number_of}
use Rattle.gm_queues.specs.FunctionTables as queues
use Rattle.gm_jobs.specs.Tables as jobs
use Rattle.gm_core.specs.Facts.{FunctionFacts, function_facts, job_facts}
use Rattle.gm_core.specs.Holds.{name_at, ability_named, AreFunctions, HoldsFunctions, HoldsJobs, jobs_named, limit_named}
use Rattle.std.proofs.lemmas.Option.{slice_get-get_or}

pub some_same : {A : Type 0} (x y : A) → (let o : Option A = Some x in o) ≡ Some y → x ≡ y
some_same x y e = cc

module _ {k : Settings} {table : Table} {facts : FunctionFacts} (holds : HoldsFunctions k table facts) where
  -- a function is found by its name
  pub named : (f : ℕ) → f < length table.names → number_of (name_at table.names f) table ≡ Some f
  named f within = holds.distinct f (name_at table.names f) (slice_get-get_or table.names f [] within)

  -- and no two have one
  pub apart : (f g : ℕ) → f < length table.names → g < length table.names → bytes_eq (name_at table.names f) (name_at table.names g) ≡ (f == g)
  apart f g within within_too = by (f == g) refl
    where
      by : (t : Bool) → (f == g) ≡ t → bytes_eq (name_at table.names f) (name_at table.names g) ≡ t
      by true e = (bytes_eq-Decides (name_at table.names f) (name_at table.names g)).1 (ap (name_at table.names) (let same : f ≡ g = grind (arith, nat_tests) in same))
      by false e = differs (bytes_eq (name_at table.names f) (name_at table.names g)) refl
        where
          differs : (t : Bool) → bytes_eq (name_at table.names f) (name_at table.names g) ≡ t → t ≡ false
          differs false h = refl
          differs true h =
              let one : Some f ≡ Some g = sym (named f within) ∙ (ap (λ name. number_of name table) ((bytes_eq-Decides (name_at table.names f) (name_at table.names g)).0 h) ∙ named g within_too) in
              let same : f ≡ g = some_same f g one in
              let other : f ≢ g = grind (arith, nat_tests) in
              absurd (other same)

  -- an unknown name is no function's
  pub unknown : (name : List ℕ) (f : ℕ) → number_of name table ≡ None → f < length table.names → bytes_eq (name_at table.names f) name ≡ false
  unknown name f none within = by (bytes_eq (name_at table.names f) name) refl
    where
      by : (t : Bool) → bytes_eq (name_at table.names f) name ≡ t → t ≡ false
      by false e = refl
      by true e =
          absurd (let wrong : Some f ≡ None = sym (named f within) ∙ (ap (λ n. number_of n table) ((bytes_eq-Decides (name_at table.names f) name).0 e) ∙ none) in cc)

  -- ---- abilities

  pub put_named : (f t : ℕ) (xs : List (ℕ × ℕ)) → AreFunctions table.names xs → f < length table.names
      → map (ability_named table.names) (insert_entry nat_eq xs f t) ≡ put (name_at table.names f) t (map (ability_named table.names) xs)
  put_named f t [] all within = refl
  put_named f t (x ∷ xs) all within = by (nat_eq f x.0) refl (put_named f t xs all.1 within)
    where
      turned : nat_eq f x.0 ≡ (x.0 == f)
      turned = grind (arith, nat_tests)

      by : (b : Bool) → nat_eq f x.0 ≡ b → map (ability_named table.names) (insert_entry nat_eq xs f t) ≡ put (name_at table.names f) t (map (ability_named table.names) xs)
          → map (ability_named table.names) (if b then (x.0, t) ∷ xs else x ∷ insert_entry nat_eq xs f t)
          ≡ (if bytes_eq (name_at table.names x.0) (name_at table.names f) then record { function = name_at table.names f; timeout = t } ∷ map (ability_named table.names) xs
          else ability_named table.names x ∷ put (name_at table.names f) t (map (ability_named table.names) xs))
      by true e rest =
          let here : bytes_eq (name_at table.names x.0) (name_at table.names f) ≡ true = apart x.0 f all.0 within ∙ (sym turned ∙ e) in
          let same : x.0 ≡ f = grind (arith, nat_tests) in
          rw here (ap (λ (g : ℕ). record { function = name_at table.names g; timeout = t } ∷ map (ability_named table.names) xs) same)
      by false e rest =
          let here : bytes_eq (name_at table.names x.0) (name_at table.names f) ≡ false = apart x.0 f all.0 within ∙ (sym turned ∙ e) in
          rw here (ap (λ (l : List Ability). ability_named table.names x ∷ l) rest)

  pub taken_out : (f : ℕ) (xs : List (ℕ × ℕ)) → AreFunctions table.names xs → f < length table.names
      → map (ability_named table.names) (filter (λ ability. not (ability.0 == f)) xs) ≡ filter (λ ability. not (is_of (name_at table.names f) ability)) (map (ability_named table.names) xs)
  taken_out f [] all within = refl
  taken_out f (x ∷ xs) all within = by (x.0 == f) (apart x.0 f all.0 within) (taken_out f xs all.1 within)
    where
      by : (b : Bool) → bytes_eq (name_at table.names x.0) (name_at table.names f) ≡ b
          → map (ability_named table.names) (filter (λ ability. not (ability.0 == f)) xs) ≡ filter (λ ability. not (is_of (name_at table.names f) ability)) (map (ability_named table.names) xs)
          → map (ability_named table.names) (if not b then x ∷ filter (λ ability. not (ability.0 == f)) xs else filter (λ ability. not (ability.0 == f)) xs)
          ≡ (if not (bytes_eq (name_at table.names x.0) (name_at table.names f)) then ability_named table.names x ∷ filter (λ ability. not (is_of (name_at table.names f) ability)) (map (ability_named table.names) xs)
          else filter (λ ability. not (is_of (name_at table.names f) ability)) (map (ability_named table.names) xs))
      by true e rest = rw e rest
      by false e rest = rw e (ap (λ (l : List Ability). ability_named table.names x ∷ l) rest)

  pub none_out : (name : List ℕ) (xs : List (ℕ × ℕ)) → number_of name table ≡ None → AreFunctions table.names xs
      → map (ability_named table.names) xs ≡ filter (λ ability. not (is_of name ability)) (map (ability_named table.names) xs)
  none_out name [] none all = refl
  none_out name (x ∷ xs) none all =
      let other = unknown name x.0 none all.0 in
      rw other (ap (λ (l : List Ability). ability_named table.names x ∷ l) (none_out name xs none all.1))

pub able_put : (names : List (List ℕ)) (f t : ℕ) (xs : List (ℕ × ℕ)) → AreFunctions names xs → f < length names → AreFunctions names (insert_entry nat_eq xs f t)
able_put names f t [] all within = (within, tt)
able_put names f t (x ∷ xs) all within = by (nat_eq f x.0) (able_put names f t xs all.1 within)
  where
    by : (b : Bool) → AreFunctions names (insert_entry nat_eq xs f t) → AreFunctions names (if b then (x.0, t) ∷ xs else x ∷ insert_entry nat_eq xs f t)
    by true rest = (all.0, all.1)
    by false rest = (all.0, rest)

pub able_out : (names : List (List ℕ)) (f : ℕ) (xs : List (ℕ × ℕ)) → AreFunctions names xs → AreFunctions names (filter (λ ability. not (ability.0 == f)) xs)
able_out names f [] all = tt
able_out names f (x ∷ xs) all = by (not (x.0 == f)) (able_out names f xs all.1)
  where
    by : (b : Bool) → AreFunctions names (filter (λ ability. not (ability.0 == f)) xs) → AreFunctions names (if b then x ∷ filter (λ ability. not (ability.0 == f)) xs else filter (λ ability. not (ability.0 == f)) xs)
    by true rest = (all.0, rest)
    by false rest = rest

pub able_at : (names : List (List ℕ)) (i f t : ℕ) (xs : List (ℕ × ℕ)) → AreFunctions names xs → slice_get xs i ≡ Some (f, t) → f < length names
able_at names i f t [] all e = absurd cc
able_at names zero f t (x ∷ xs) all e = subst (λ (g : ℕ). g < length names) (ap (λ (o : ℕ × ℕ). o.0) (some_same x (f, t) e)) all.0
able_at names (suc i) f t (x ∷ xs) all e = able_at names i f t xs all.1 e

-- ---- names

-- a name and the number under which it is found
pub number_is : (name : List ℕ) (table : Table) (f : ℕ) → number_of name table ≡ Some f → name_at table.names f ≡ name
number_is name table f e = sym ((bytes_eq-Decides name (name_at table.names f)).0 (position-Some (bytes_eq name) table.names f [] e).1)

any_turned : (name : List ℕ) (names : List (List ℕ)) → list_any (λ g. bytes_eq g name) names ≡ list_any (bytes_eq name) names
any_turned name [] = refl
any_turned name (x ∷ names) = rw (bytes_eq-turned x name) (ap (λ b. bytes_eq name x || b) (any_turned name names))

pub is_none_of : (o : Option ℕ) → o ≡ None → IsNone o
is_none_of None e = refl
is_none_of (Some n) e = absurd cc

pub none_of : (o : Option ℕ) → IsNone o → o ≡ None
none_of None e = refl
none_of (Some n) e = absurd cc

module _ (k : Settings) (table : Table) (notes : List Note) (holds : HoldsFunctions k table (function_facts notes)) (name : List ℕ) where
  pub known : (f : ℕ) → number_of name table ≡ Some f → is_mentioned name notes ≡ true
  known f e = ap (λ (l : List (List ℕ)). list_any (λ g. bytes_eq g name) l) (sym holds.names) ∙ (any_turned name table.names ∙ list_any-found (bytes_eq name) table.names f [] e)

  pub anew : number_of name table ≡ None → is_mentioned name notes ≡ false
  anew e = ap (λ (l : List (List ℕ)). list_any (λ g. bytes_eq g name) l) (sym holds.names) ∙ (any_turned name table.names ∙ list_any-missed (bytes_eq name) table.names e)

  pub not_too_many : (f : ℕ) → number_of name table ≡ Some f → is_one_too_many k name notes ≡ false
  not_too_many f e = let there = known f e in rw there refl

module _ (k : Settings) (table : Table) (notes : List Note) (holds : HoldsFunctions k table (function_facts notes)) (name : List ℕ) where
  full_is : length (functions notes) ≡ length table.names
  full_is = ap (λ (l : List (List ℕ)). length l) (sym holds.names)

  pub too_many : number_of name table ≡ None → length table.names ≡ table.most → is_one_too_many k name notes ≡ true
  too_many none full =
      let fresh = anew k table notes holds name none in
      let many : nat_le k.max_functions (length (functions notes)) ≡ true = (let e = full_is in let m = holds.most in grind (arith, nat_tests)) in
      rw (fresh, many) refl

  pub many_is : number_of name table ≡ None → nat_le k.max_functions (length table.names) ≡ is_one_too_many k name notes
  many_is none =
      let fresh = anew k table notes holds name none in
      rw fresh (ap (nat_le k.max_functions) (sym full_is))

  pub never_full : number_of name table ≡ None → is_full name notes ≡ false
  never_full none = let unlimited : limit name notes ≡ 0 = sym (holds.limits name) ∙ ap (λ o. limit_named o table) none in rw unlimited refl

  pub not_yet_many : length table.names ≢ table.most → is_one_too_many k name notes ≡ false
  not_yet_many room = by (not (is_mentioned name notes)) (let e = full_is in let m = holds.most in let few = holds.few in grind (arith, nat_tests))
    where
      by : (t : Bool) → nat_le k.max_functions (length (functions notes)) ≡ false → (t && nat_le k.max_functions (length (functions notes))) ≡ false
      by true e = e
      by false e = refl

  -- it is known, or there is room for it
  pub few_enough : (IsNone (number_of name table) → length table.names ≢ table.most) → is_one_too_many k name notes ≡ false
  few_enough room = by (number_of name table) refl
    where
      by : (o : Option ℕ) → number_of name table ≡ o → is_one_too_many k name notes ≡ false
      by (Some f) e = not_too_many k table notes holds name f e
      by None e = not_yet_many (room (is_none_of (number_of name table) e))

-- ---- queues

-- what waits for a function
pub waiting_is : {k : Settings} {table : Table} {live : jobs.Table} {facts : FunctionFacts} {is_open : ℕ → Bool} (notes : List Note) → HoldsFunctions k table facts
    → HoldsJobs k table live is_open (job_facts notes) → (f : ℕ) → f < length table.names → queues.waiting_for table f ≡ waiting_for (name_at table.names f) notes
waiting_is {k} {table} {live} {facts} {is_open} notes functions jobs f within =
    let name = name_at table.names f in
    let number = named functions f within in
    let at : (p : Priority) → (queues.queue table f p).jobs ≡ queue name p notes = λ p. sym (ap (λ (o : Option ℕ). jobs_named o p table) number) ∙ jobs.queues name p in
    ap (λ (l : List ℕ). l ++ (queues.queue table f Normal).jobs ++ (queues.queue table f Low).jobs) (at High)
    ∙ (ap (λ (l : List ℕ). queue name High notes ++ l ++ (queues.queue table f Low).jobs) (at Normal)
    ∙ ap (λ (l : List ℕ). queue name High notes ++ queue name Normal notes ++ l) (at Low))

pub not_some : {A : Type 0} (o : Option A) → ((x : A) → o ≡ Some x → ⊥) → o ≡ None
not_some None other = refl
not_some (Some x) other = absurd (other x refl)

-- whether there is a first
pub first_of_none : (l : List ℕ) → slice_get l 0 ≡ None → is_empty l ≡ true
first_of_none [] e = refl
first_of_none (x ∷ l) e = absurd cc

pub first_of_some : (l : List ℕ) (n : ℕ) → slice_get l 0 ≡ Some n → is_empty l ≡ false
first_of_some [] n e = absurd cc
first_of_some (x ∷ l) n e = refl

empty_is : (l : List ℕ) (o : Option ℕ) → o ≡ slice_get l 0 → is_empty l ≡ not (is_some o)
empty_is l None e = first_of_none l (sym e)
empty_is l (Some n) e = first_of_some l n (sym e)

-- whether a job waits for a function
pub waits_is : {k : Settings} {table : Table} {live : jobs.Table} {facts : FunctionFacts} {is_open : ℕ → Bool} (notes : List Note) → HoldsFunctions k table facts
    → HoldsJobs k table live is_open (job_facts notes) → (f : ℕ) → f < length table.names → (o : Option ℕ) → o ≡ slice_get (queues.waiting_for table f) 0
    → is_empty (waiting_for (name_at table.names f) notes) ≡ not (is_some o)
waits_is {k} {table} notes functions jobs f within o e =
    ap is_empty (sym (waiting_is notes functions jobs f within)) ∙ empty_is (queues.waiting_for table f) o e

-- nothing waits for a function that isn't known
pub nothing_waits : {k : Settings} {table : Table} {live : jobs.Table} {is_open : ℕ → Bool} (notes : List Note) (name : List ℕ) → number_of name table ≡ None
    → HoldsJobs k table live is_open (job_facts notes) → waiting_for name notes ≡ []
nothing_waits {k} {table} notes name none jobs =
    let at : (p : Priority) → queue name p notes ≡ [] = λ p. sym (jobs.queues name p) ∙ ap (λ (o : Option ℕ). jobs_named o p table) none in
    let high = at High in
    let normal = at Normal in
    let low = at Low in
    rw (high, normal, low) refl

-- ---- picks

pub next_ability : (abilities : List (ℕ × ℕ)) (i : ℕ) (ability : ℕ × ℕ) → slice_get abilities i ≡ Some ability → drop i abilities ≡ ability ∷ drop (suc i) abilities
next_ability [] i ability e = absurd cc
next_ability (x ∷ abilities) zero ability e = ap (λ (y : ℕ × ℕ). y ∷ abilities) (some_same x ability e)
next_ability (x ∷ abilities) (suc i) ability e = next_ability abilities i ability e

pub first_is : (l : List ℕ) (n timeout : ℕ) (otherwise : Option Pick) → slice_get l 0 ≡ Some n → first_of l timeout otherwise ≡ Some (record { job = n; timeout = timeout })
first_is [] n timeout otherwise e = absurd cc
first_is (x ∷ l) n timeout otherwise e = ap (λ (m : ℕ). Some (record { job = m; timeout = timeout })) (some_same x n e)

pub first_is_other : (l : List ℕ) (timeout : ℕ) (otherwise : Option Pick) → slice_get l 0 ≡ None → first_of l timeout otherwise ≡ otherwise
first_is_other [] timeout otherwise e = refl
first_is_other (x ∷ l) timeout otherwise e = absurd cc

-- what is picked, where the first ability's first job is this
abbrev pub pick_or : Option ℕ → ℕ → Option Pick → Option Pick
pick_or None timeout otherwise = otherwise
pick_or (Some n) timeout otherwise = Some (record { job = n; timeout = timeout })

pub picked : (l : List ℕ) (timeout : ℕ) (otherwise : Option Pick) (o : Option ℕ) → o ≡ slice_get l 0 → first_of l timeout otherwise ≡ pick_or o timeout otherwise
picked l timeout otherwise None e = first_is_other l timeout otherwise (sym e)
picked l timeout otherwise (Some n) e = first_is l n timeout otherwise (sym e)

pub pick_at : {k : Settings} {table : Table} {live : jobs.Table} {facts : FunctionFacts} {is_open : ℕ → Bool} (notes : List Note) → HoldsFunctions k table facts
    → HoldsJobs k table live is_open (job_facts notes) → (abilities : List (ℕ × ℕ)) → AreFunctions table.names abilities → (i f t : ℕ) → slice_get abilities i ≡ Some (f, t)
    → (o : Option ℕ) → o ≡ slice_get (queues.waiting_for table f) 0
    → pick_from (map (ability_named table.names) (drop i abilities)) notes ≡ pick_or o t (pick_from (map (ability_named table.names) (drop (suc i) abilities)) notes)
pick_at {k} {table} notes functions jobs abilities able i f t at o first =
    let within = able_at table.names i f t abilities able at in
    let rest = pick_from (map (ability_named table.names) (drop (suc i) abilities)) notes in
    ap (λ (l : List (ℕ × ℕ)). pick_from (map (ability_named table.names) l) notes) (next_ability abilities i (f, t) at)
    ∙ (ap (λ (l : List ℕ). first_of l t rest) (sym (waiting_is notes functions jobs f within)) ∙ picked (queues.waiting_for table f) t rest o first)

pub pick_past : (names : List (List ℕ)) (notes : List Note) (abilities : List (ℕ × ℕ)) (i : ℕ) → slice_get abilities i ≡ None
    → pick_from (map (ability_named names) (drop i abilities)) notes ≡ None
pick_past names notes [] i at = ap (λ (l : List (ℕ × ℕ)). pick_from (map (ability_named names) l) notes) (drop-nil i)
pick_past names notes (x ∷ abilities) zero at = absurd cc
pick_past names notes (x ∷ abilities) (suc i) at = pick_past names notes abilities i at
