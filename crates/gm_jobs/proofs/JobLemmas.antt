-- What is true of jobs, and of what is kept beside them.
use Rattle.std.proofs.Common.{◌≡◌, ◌≢◌, ℕ, ◌+◌, ◌^◌, ◌<◌, ◌≤◌, ◌⊎◌, inl, inr, Bool, true, false, ◌==◌}
use Rattle.std.proofs.Common.{◌&&◌, if◌then◌else◌, List, Option, Some, None, IsSome}
use Rattle.std.proofs.Common.{is_some, refl, sym, ap, subst, ◌∙◌, arith}
use Rattle.std.specs.Option.{option_map, unwrap_or, SomeIff}
use Rattle.gm_jobs.specs.declared.jobs.Jobs.TheInside.{Inside}
use Rattle.std.proofs.lemmas.Bool.{cases_lt, cases_eq, true≢false, false≢true}
use Rattle.std.proofs.lemmas.Bool.Decides.{nat_tests}
use Rattle.gm_notes.specs.Jobs.{joins}
use Rattle.gm_jobs.specs.declared.job.LivePlace.TheVariants.{Waiting}
use Rattle.gm_jobs.specs.Live.{Live, is_named, waits, lost, returned, is_last_try, given_back, without_listener, is_orphan, is_run_by}
use Rattle.gm_jobs.specs.Tables.{Room, find_job, passes}
use Rattle.gm_jobs.specs.Changes.{ChangesJob, LeavesEach}
use Rattle.gm_jobs.specs.Deadlines.{DeadlineTable, IsListed, AllListed}
use Rattle.gm_jobs.specs.declared.job.Query.{Query}
use Rattle.gm_jobs.specs.declared.job.Query.TheVariants.{Orphan, RunBy, HeardBy, Due, Started, Live as Lives}
use Rattle.gm_jobs.specs.Queries.{meets, is_heard_by}
use Rattle.gm_jobs.specs.Hints.{HintTable, IsHinted, hints_of, AllFound}
use Rattle.gm_jobs.proofs.HintLemmas.{passes_live}
use Rattle.std.specs.Str.{bytes_eq}
use Rattle.std.proofs.lemmas.Slice.Eq.{bytes_eq-Decides}
use Rattle.gm_jobs.specs.Uniques.{IdTable, LeadsTo, digest_of}
use Rattle.gm_jobs.proofs.UniqueLemmas.{leads_same}
use Rattle.gm_jobs.proofs.NumberLemmas.{not_some, number_same}
use Rattle.gm_jobs.specs.Kept.{Beside, IsInAllTables, IsReady, IsKept}
use Rattle.std.proofs.lemmas.Bool.{and_parts}

named_parts : (live other : Live) → is_named live.function live.unique other ≡ true → (other.function ≡ live.function) × (other.unique ≡ live.unique)
named_parts live other e =
    let parts = and_parts (other.function == live.function) (bytes_eq other.unique live.unique) e in
    (let f : (other.function == live.function) ≡ true = parts.0 in grind (arith, nat_tests), (bytes_eq-Decides other.unique live.unique).0 parts.1)

named_unique : (live other : Live) → is_named live.function live.unique other ≡ true → other.unique ≡ live.unique
named_unique live other e = (named_parts live other e).1

is_named_same : (live other : Live) → live.function ≡ other.function → live.unique ≡ other.unique → is_named other.function other.unique live ≡ true
is_named_same live other e h =
    let f : (live.function == other.function) ≡ true = grind (arith, nat_tests) in
    let u : bytes_eq live.unique other.unique ≡ true = (bytes_eq-Decides live.unique other.unique).1 h in
    (λ i. f i && u i)

named_flip : (live other : Live) → is_named live.function live.unique other ≡ true → is_named other.function other.unique live ≡ true
named_flip live other e = let parts = named_parts live other e in is_named_same live other (sym parts.0) (sym parts.1)

-- what a changed table has at a number
module _ (n : ℕ) (f : Live → Live) (old new : List (ℕ × Live)) (change : ChangesJob n f old new) where
  pub other_job : (m : ℕ) → m ≢ n → find_job new m ≡ find_job old m
  other_job m ne = change m ∙ at (n == m) (let ne : m ≢ n = ne in grind (arith, nat_tests))
    where
      at : (b : Bool) → b ≡ false → (if b then option_map f (find_job old m) else find_job old m) ≡ find_job old m
      at true e = absurd (true≢false e)
      at false e = refl

  pub this_job : find_job new n ≡ option_map f (find_job old n)
  this_job = change n ∙ at (n == n) (grind (arith, nat_tests))
    where
      at : (b : Bool) → b ≡ true → (if b then option_map f (find_job old n) else find_job old n) ≡ option_map f (find_job old n)
      at true e = refl
      at false e = absurd (false≢true e)

  pub mapped : (o : Option Live) (live : Live) → option_map f o ≡ Some live → (was : Live) × (o ≡ Some was) × (f was ≡ live)
  mapped None live e = cc
  mapped (Some was) live e = (was, refl, cc)

  -- a fact of each old job that the change keeps is one of each new job
  pub each_changed : (P Q : ℕ → Live → Type 0) → ((m : ℕ) (live : Live) → find_job old m ≡ Some live → P m live) → ((m : ℕ) (live : Live) → P m live → Q m live) → ((live : Live) → P n live → Q n (f live))
      → (m : ℕ) (live : Live) → find_job new m ≡ Some live → Q m live
  each_changed P Q all stays here m live found = by (cases_eq m n)
    where
      by : (m ≡ n) ⊎ (m ≡ n → ⊥) → Q m live
      by (inr ne) = stays m live (all m live (sym (other_job m ne) ∙ found))
      by (inl e) =
          let was = mapped (find_job old n) live (sym this_job ∙ ap (find_job new) (sym e) ∙ found) in
          subst (λ i. Q i live) (sym e) (subst (λ l. Q n l) was.2 (here was.0 (all n was.0 was.1)))

  -- what is listed of the others is still
  pub listed_others : (deadlines : DeadlineTable) → AllListed old deadlines → (m : ℕ) (live : Live) → m ≢ n → find_job new m ≡ Some live → IsListed deadlines m live
  listed_others deadlines listed m live ne found = listed m live (sym (other_job m ne) ∙ found)

-- the job was live before, with this function and unique id
pub record Was (jobs : List (ℕ × Live)) (n : ℕ) (live : Live) : Type 0 where
  pub old : Live
  pub found : find_job jobs n ≡ Some old
  pub function : old.function ≡ live.function
  pub unique : old.unique ≡ live.unique

abbrev pub SameNames : List (ℕ × Live) → List (ℕ × Live) → Type 0
SameNames old new = (n : ℕ) (live : Live) → find_job new n ≡ Some live → Was old n live

-- a change that leaves the function and the unique id
pub names_changed : (n : ℕ) (f : Live → Live) (old new : List (ℕ × Live)) → ChangesJob n f old new → ((l : Live) → (f l).function ≡ l.function) → ((l : Live) → (f l).unique ≡ l.unique) → SameNames old new
names_changed n f old new change function unique =
    each_changed n f old new change (λ m live. Was old m live) (λ m live. Was old m live)
    (λ m live e. record { old = live; found = e; function = refl; unique = refl }) (λ m live w. w)
    (λ live w. record { old = w.old; found = w.found; function = w.function ∙ sym (function live); unique = w.unique ∙ sym (unique live) })

module _ (b : Beside) (old : List (ℕ × Live)) where
  -- what is kept beside jobs with the same names
  pub kept_names : (new : List (ℕ × Live)) (uniques : IdTable) (index : HintTable) (deadlines : DeadlineTable) (room : Option Room) (spare spare' : ℕ)
      → IsKept b room spare old → SameNames old new → spare ≤ spare'
      → ((n : ℕ) → IsSome (find_job new n) → (d : ℕ) → LeadsTo b.uniques d n → LeadsTo uniques d n) → b.uniques.room ≤ uniques.room
      → AllFound new index → AllListed new deadlines
      → IsKept (record b { uniques = uniques; index = index; deadlines = deadlines }) room spare' new
  kept_names new uniques index deadlines room spare spare' k names more led ids found listed = record {
    known = λ n live e.
        let w = names n live e in
        let known = k.known n w.old w.found in
        record {
          made = known.made;
          spent = known.spent;
          led = λ good. led n (ap is_some e) _ (leads_same b.uniques b.seed w.old.function live.function n n w.old.unique live.unique w.function w.unique refl (known.led (ap joins w.unique ∙ good)));
          listed = listed n live e;
        };
    found = found;
    single = λ n m live other e e' good same.
        let w = names n live e in
        let v = names m other e' in
        k.single n m w.old v.old w.found v.found (ap joins w.unique ∙ good)
        ((λ i. (v.function i == w.function i) && bytes_eq (v.unique i) (w.unique i)) ∙ same);
    order = k.order;
    ready = λ r e. let y = k.ready r e in record {
      job = omega (arith, y.job);
      id = omega (arith, y.id);
      number = y.number;
    };
  }

  -- and where there is more room
  pub kept_room : (uniques : IdTable) (index : HintTable) (deadlines : DeadlineTable) (room : Option Room) (spare spare' : ℕ)
      → IsKept b room spare old → spare ≤ spare' → ((d n : ℕ) → LeadsTo b.uniques d n → LeadsTo uniques d n) → b.uniques.room ≤ uniques.room
      → AllFound old index → AllListed old deadlines
      → IsKept (record b { uniques = uniques; index = index; deadlines = deadlines }) room spare' old
  kept_room uniques index deadlines room spare spare' k more led ids found listed =
      kept_names old uniques index deadlines room spare spare' k
      (λ n live e. record { old = live; found = e; function = refl; unique = refl }) more
      (λ n some d l. led d n l) ids found listed

  pub kept_ready : (room room' : Option Room) (spare : ℕ) → IsKept b room spare old → IsReady b spare → IsKept b room' spare old
  kept_ready room room' spare k y = record { known = k.known; found = k.found; single = k.single; order = k.order; ready = λ r e. y }

  -- the next number is no live job's
  pub next_absent : (room : Option Room) (spare : ℕ) → IsKept b room spare old → find_job old b.next ≡ None
  next_absent room spare k = by (find_job old b.next) refl
    where
      by : (o : Option Live) → find_job old b.next ≡ o → o ≡ None
      by None e = refl
      by (Some live) e = absurd (let known = k.known b.next live e in omega (arith, known.spent))

  -- ---- a job is made
  module _ (made : Live) (new : List (ℕ × Live)) (adds : (m : ℕ) → find_job new m ≡ (if b.next == m then Some made else find_job old m)) where
    made_here : find_job new b.next ≡ Some made
    made_here = adds b.next ∙ at (b.next == b.next) (grind (arith, nat_tests))
      where
        at : (t : Bool) → t ≡ true → (if t then Some made else find_job old b.next) ≡ Some made
        at true e = refl
        at false e = absurd (false≢true e)

    made_other : (m : ℕ) → m ≢ b.next → find_job new m ≡ find_job old m
    made_other m ne = adds m ∙ at (b.next == m) (let ne : m ≢ b.next = ne in grind (arith, nat_tests))
      where
        at : (t : Bool) → t ≡ false → (if t then Some made else find_job old m) ≡ find_job old m
        at true e = absurd (true≢false e)
        at false e = refl

    some_same : (x y : Live) → Some x ≡ Some y → x ≡ y
    some_same x y e = cc

    pub kept_made : (left : Bool) (room : Option Room) (r : Room) (spare spare' : ℕ) (uniques : IdTable) (index : HintTable)
        → IsKept b room spare old → IsReady b spare
        → (joins made.unique ≡ true → LeadsTo uniques (digest_of b.seed made.function made.unique) b.next)
        → ((d n : ℕ) → LeadsTo b.uniques d n → LeadsTo uniques d n)
        → ((q : Query) (n : ℕ) → IsHinted (hints_of b.index q) n → IsHinted (hints_of index q) n) → ((q : Query) → meets q made ≡ true → IsHinted (hints_of index q) b.next)
        → made.live_place ≡ Waiting
        → ((m : ℕ) (live : Live) → joins made.unique ≡ true → find_job old m ≡ Some live → is_named made.function made.unique live ≡ true → ⊥)
        → IsKept (record b { next = b.next + 1; left = left; uniques = uniques; index = index }) None spare' new
    kept_made left room r spare spare' uniques index k y led kept more first waiting fresh = record {
      known = λ n live e. known n live e (cases_eq n b.next);
      found = λ q n h. let l = passes_live (meets q) (find_job new n) h in found q n l.0 l.1 l.2 (cases_eq n b.next);
      single = λ n m live other e e' good same. single n m live other e e' good same (cases_eq n b.next) (cases_eq m b.next);
      order = omega (arith, k.order);
      ready = λ q e. absurd (let no : ◌≡◌ {A = Option Room} None (Some q) = e in cc);
    }
      where
        found : (q : Query) (n : ℕ) (live : Live) → find_job new n ≡ Some live → meets q live ≡ true → (n ≡ b.next) ⊎ (n ≡ b.next → ⊥) → IsHinted (hints_of index q) n
        found q n live e met (inr ne) = more q n (k.found q n (ap (passes (meets q)) (sym (made_other n ne) ∙ e) ∙ met))
        found q n live e met (inl is) =
            let same : made ≡ live = some_same made live (sym made_here ∙ ap (find_job new) (sym is) ∙ e) in
            subst (λ i. IsHinted (hints_of index q) i) (sym is) (first q (ap (meets q) same ∙ met))

        known : (n : ℕ) (live : Live) → find_job new n ≡ Some live → (n ≡ b.next) ⊎ (n ≡ b.next → ⊥) → IsInAllTables (record b { next = b.next + 1; left = left; uniques = uniques; index = index }) n live
        known n live e (inr ne) =
            let was = k.known n live (sym (made_other n ne) ∙ e) in
            record {
              made = was.made;
              spent = omega (arith, was.spent);
              led = λ good. kept _ n (was.led good);
              listed = was.listed;
            }
        known n live e (inl is) =
            let same : made ≡ live = some_same made live (sym made_here ∙ ap (find_job new) (sym is) ∙ e) in
            record {
              made = omega (arith, k.order);
              spent = omega arith;
              led = λ good. subst (λ i. LeadsTo uniques (digest_of b.seed live.function live.unique) i) (sym is) (subst (λ (l : Live). LeadsTo uniques (digest_of b.seed l.function l.unique) b.next) same (led (ap (λ (l : Live). joins l.unique) same ∙ good)));
              listed = λ whole d runs until. absurd (true≢false (sym (ap waits waiting) ∙ ap (λ (l : Live). waits l.live_place) same ∙ runs));
            }

        single : (n m : ℕ) (live other : Live) → find_job new n ≡ Some live → find_job new m ≡ Some other → joins live.unique ≡ true → is_named live.function live.unique other ≡ true
            → (n ≡ b.next) ⊎ (n ≡ b.next → ⊥) → (m ≡ b.next) ⊎ (m ≡ b.next → ⊥) → n ≡ m
        single n m live other e e' good same (inl is) (inl is') = is ∙ sym is'
        single n m live other e e' good same (inr ne) (inr ne') = k.single n m live other (sym (made_other n ne) ∙ e) (sym (made_other m ne') ∙ e') good same
        single n m live other e e' good same (inl is) (inr ne') =
            let here : made ≡ live = some_same made live (sym made_here ∙ ap (find_job new) (sym is) ∙ e) in
            absurd (fresh m other (ap (λ (l : Live). joins l.unique) here ∙ good) (sym (made_other m ne') ∙ e') (ap (λ (l : Live). is_named l.function l.unique other) here ∙ same))
        single n m live other e e' good same (inr ne) (inl is') =
            let here : made ≡ other = some_same made other (sym made_here ∙ ap (find_job new) (sym is') ∙ e') in
            let flipped = named_flip live other same in
            absurd (fresh n live (ap (λ (l : Live). joins l.unique) here ∙ ap joins (named_unique live other same) ∙ good) (sym (made_other n ne) ∙ e) (ap (λ (l : Live). is_named l.function l.unique live) here ∙ flipped))

-- what stands beside the jobs of a table
abbrev pub beside : Inside → Beside
beside t = record { seed = t.seed; first = t.first; next = unwrap_or t.next (2 ^ 64); left = is_some t.next; uniques = t.uniques; index = t.index; deadlines = t.deadlines }

-- a change that gives no job a deadline leaves all listed
pub listed_changed : (n : ℕ) (f : Live → Live) (old new : List (ℕ × Live)) (deadlines : DeadlineTable) → ChangesJob n f old new → AllListed old deadlines → ((l : Live) → IsListed deadlines n l → IsListed deadlines n (f l)) → AllListed new deadlines
listed_changed n f old new deadlines change all here =
    each_changed n f old new change (λ m live. IsListed deadlines m live) (λ m live. IsListed deadlines m live) all (λ m live h. h) here

pub listed_of : (b : Beside) (jobs : List (ℕ × Live)) (room : Option Room) (spare : ℕ) → IsKept b room spare jobs → AllListed jobs b.deadlines
listed_of b jobs room spare k n live e = (k.known n live e).listed

-- what is kept beside the jobs, where one changed
pub kept_changed : (b : Beside) (n : ℕ) (f : Live → Live) (old new : List (ℕ × Live)) (index : HintTable) (deadlines : DeadlineTable) (room : Option Room) (spare spare' : ℕ)
    → IsKept b room spare old → ChangesJob n f old new → ((l : Live) → (f l).function ≡ l.function) → ((l : Live) → (f l).unique ≡ l.unique) → spare' ≡ spare
    → ((q : Query) (m : ℕ) → IsSome (find_job old m) → IsHinted (hints_of b.index q) m → IsHinted (hints_of index q) m)
    → ((q : Query) (l : Live) → find_job old n ≡ Some l → meets q (f l) ≡ true → (meets q l ≡ true) ⊎ IsHinted (hints_of index q) n)
    → AllListed new deadlines
    → IsKept (record b { index = index; deadlines = deadlines }) room spare' new
kept_changed b n f old new index deadlines room spare spare' k change function unique same more here all =
    kept_names b old new b.uniques index deadlines room spare spare' k (names_changed n f old new change function unique) (omega arith) (λ m some d l. l) (omega arith)
    (λ q m h. let l = passes_live (meets q) (find_job new m) h in found q m l.0 l.1 l.2 (cases_eq m n))
    all
  where
    stays : (q : Query) (m : ℕ) (live : Live) → find_job old m ≡ Some live → meets q live ≡ true → IsHinted (hints_of index q) m
    stays q m live e met = more q m (ap is_some e) (k.found q m (ap (passes (meets q)) e ∙ met))

    found : (q : Query) (m : ℕ) (live : Live) → find_job new m ≡ Some live → meets q live ≡ true → (m ≡ n) ⊎ (m ≡ n → ⊥) → IsHinted (hints_of index q) m
    found q m live e met (inr ne) = stays q m live (sym (other_job n f old new change m ne) ∙ e) met
    found q m live e met (inl is) =
        let was = mapped n f old new change (find_job old n) live (sym (this_job n f old new change) ∙ ap (find_job new) (sym is) ∙ e) in
        subst (λ i. IsHinted (hints_of index q) i) (sym is) (at (here q was.0 was.1 (ap (meets q) was.2 ∙ met)))
      where
        at : (meets q (mapped n f old new change (find_job old n) live (sym (this_job n f old new change) ∙ ap (find_job new) (sym is) ∙ e)).0 ≡ true) ⊎ IsHinted (hints_of index q) n → IsHinted (hints_of index q) n
        at (inr now) = now
        at (inl before) = let was = mapped n f old new change (find_job old n) live (sym (this_job n f old new change) ∙ ap (find_job new) (sym is) ∙ e) in stays q n was.0 was.1 before

-- ---- a job is given back

module _ (limit : ℕ) (l : Live) where
  -- whether it waits or is lost, this stays
  pub given_back_same : {A : Type 0} (part : Live → A) → part (lost l) ≡ part l → part (returned limit l) ≡ part l → part (given_back limit l) ≡ part l
  given_back_same part lost_same returned_same = by (is_last_try limit l)
    where
      by : (b : Bool) → part (if b then lost l else returned limit l) ≡ part l
      by true = lost_same
      by false = returned_same

  -- it runs nowhere, and the same slots listen
  pub given_back_found : (index : HintTable) (n : ℕ) → (is_orphan (given_back limit l) ≡ true → IsHinted index.orphans n) → (q : Query) → meets q (given_back limit l) ≡ true → (meets q l ≡ true) ⊎ IsHinted (hints_of index q) n
  given_back_found index n orphan Orphan h = inr (orphan h)
  given_back_found index n orphan (RunBy c) h = absurd (false≢true (sym (runs_nowhere (is_last_try limit l)) ∙ h))
    where
      runs_nowhere : (b : Bool) → is_run_by c (if b then lost l else returned limit l) ≡ false
      runs_nowhere true = refl
      runs_nowhere false = refl
  given_back_found index n orphan (HeardBy c) h = inl (sym (given_back_same (is_heard_by c) refl refl) ∙ h)
  given_back_found index n orphan (Due now) h = inr (λ e. absurd (false≢true e))
  given_back_found index n orphan Started h = inr (λ e. absurd (false≢true e))
  given_back_found index n orphan Lives h = inl refl

-- ---- a slot leaves

module _ (slot : ℕ) (old new : List (ℕ × Live)) (left : LeavesEach slot old new) where
  mapped_left : (o : Option Live) (live : Live) → option_map (without_listener slot) o ≡ Some live → (was : Live) × (o ≡ Some was) × (without_listener slot was ≡ live)
  mapped_left None live e = cc
  mapped_left (Some was) live e = (was, refl, cc)

  pub kept_left : (b : Beside) (index : HintTable) (room : Option Room) (spare spare' : ℕ) → IsKept b room spare old → spare' ≡ spare → AllFound new index
      → IsKept (record b { index = index }) room spare' new
  kept_left b index room spare spare' k same found =
      kept_names b old new b.uniques index b.deadlines room spare spare' k
      (λ n live e. let w = was_left n live e in record { old = w.0; found = w.1; function = ap (λ (l : Live). l.function) w.2; unique = ap (λ (l : Live). l.unique) w.2 })
      (omega arith) (λ n some d l. l) (omega arith) found
      (λ n live e. let w = was_left n live e in subst (λ (l : Live). IsListed b.deadlines n l) w.2 (k.known n w.0 w.1).listed)
    where
      was_left : (n : ℕ) (live : Live) → find_job new n ≡ Some live → (was : Live) × (find_job old n ≡ Some was) × (without_listener slot was ≡ live)
      was_left n live e = mapped_left (find_job old n) live (sym (left n) ∙ e)

-- ---- a job ends

pub removed : (n : ℕ) (old new : List (ℕ × Live)) → ((m : ℕ) → find_job new m ≡ (if n == m then None else find_job old m)) → (m : ℕ) (live : Live) → find_job new m ≡ Some live → find_job old m ≡ Some live
removed n old new gone m live e = at (n == m) (sym (gone m) ∙ e)
  where
    at : (b : Bool) → (if b then None else find_job old m) ≡ Some live → find_job old m ≡ Some live
    at true h = cc
    at false h = h

pub kept_deadlines : (b : Beside) (jobs : List (ℕ × Live)) (deadlines : DeadlineTable) (room : Option Room) (spare : ℕ) → IsKept b room spare jobs → AllListed jobs deadlines → IsKept (record b { deadlines = deadlines }) room spare jobs
kept_deadlines b jobs deadlines room spare k all =
    kept_room b jobs b.uniques b.index deadlines room spare spare k (omega arith) (λ d n l. l) (omega arith) k.found all

pub kept_index : (b : Beside) (jobs : List (ℕ × Live)) (index : HintTable) (room : Option Room) (spare : ℕ) → IsKept b room spare jobs → AllFound jobs index → IsKept (record b { index = index }) room spare jobs
kept_index b jobs index room spare k found =
    kept_room b jobs b.uniques index b.deadlines room spare spare k (omega arith) (λ d n l. l) (omega arith) found (listed_of b jobs room spare k)

-- where no hint at a live job is lost
pub kept_roomy : (b : Beside) (jobs : List (ℕ × Live)) (index : HintTable) (room : Option Room) (spare : ℕ) → IsKept b room spare jobs
    → ((q : Query) (n : ℕ) → IsSome (find_job jobs n) → IsHinted (hints_of b.index q) n → IsHinted (hints_of index q) n) → IsKept (record b { index = index }) room spare jobs
kept_roomy b jobs index room spare k more =
    kept_index b jobs index room spare k (λ q n met. let l = passes_live (meets q) (find_job jobs n) met in more q n (ap is_some l.1) (k.found q n met))

pub kept_ended : (b : Beside) (n : ℕ) (old new : List (ℕ × Live)) (uniques : IdTable) (room : Option Room) (spare spare' : ℕ) → IsKept b room spare old → ((m : ℕ) → find_job new m ≡ (if n == m then None else find_job old m))
    → spare ≤ spare' → ((d m : ℕ) → m ≢ n → LeadsTo b.uniques d m → LeadsTo uniques d m) → b.uniques.room ≤ uniques.room → IsKept (record b { uniques = uniques }) room spare' new
kept_ended b n old new uniques room spare spare' k gone more led ids =
    kept_names b old new uniques b.index b.deadlines room spare spare' k
    (λ m live e. record { old = live; found = was m live e; function = refl; unique = refl }) more
    (λ m some d l. led d m (λ same. not_some (find_job new m) (gone m ∙ ap (λ i. if n == i then None else find_job old i) same ∙ number_same n None (find_job old n)) some) l) ids
    (λ q m h. let l = passes_live (meets q) (find_job new m) h in k.found q m (ap (passes (meets q)) (was m l.0 l.1) ∙ l.2))
    (λ m live e. (k.known m live (was m live e)).listed)
  where
    was : (m : ℕ) (live : Live) → find_job new m ≡ Some live → find_job old m ≡ Some live
    was = removed n old new gone

-- ---- a job is found by its name

pub named_live : (f : ℕ) (unique : List ℕ) (o : Option Live) → passes (is_named f unique) o ≡ true → (live : Live) × (o ≡ Some live) × (live.function ≡ f) × (live.unique ≡ unique)
named_live f unique None e = absurd (false≢true e)
named_live f unique (Some live) e =
    let parts = and_parts (live.function == f) (bytes_eq live.unique unique) e in
    (live, refl, (let same : (live.function == f) ≡ true = parts.0 in grind (arith, nat_tests)), (bytes_eq-Decides live.unique unique).0 parts.1)

pub one_named : (b : Beside) (jobs : List (ℕ × Live)) (room : Option Room) (spare : ℕ) → IsKept b room spare jobs → (f : ℕ) (unique : List ℕ) (m n : ℕ) → joins unique ≡ true
    → passes (is_named f unique) (find_job jobs m) ≡ true → passes (is_named f unique) (find_job jobs n) ≡ true → m ≡ n
one_named b jobs room spare k f unique m n good one other =
    let x = named_live f unique (find_job jobs m) one in
    let y = named_live f unique (find_job jobs n) other in
    k.single m n x.0 y.0 x.1 y.1 (ap joins x.3 ∙ good) (is_named_same y.0 x.0 (y.2 ∙ sym x.2) (y.3 ∙ sym x.3))

-- ---- a job is made

-- the number after this one, or all are spent
pub next_is : (r : Option ℕ) (n : ℕ) → SomeIff r (n + 1 < 2 ^ 64) (n + 1) → n < 2 ^ 64 → unwrap_or r (2 ^ 64) ≡ n + 1
next_is None n h small = by (cases_lt (n + 1) (2 ^ 64))
  where
    by : (n + 1 < 2 ^ 64) ⊎ (2 ^ 64 ≤ n + 1) → 2 ^ 64 ≡ n + 1
    by (inl less) = absurd (h less)
    by (inr more) = omega arith
next_is (Some x) n h small = h.1
