-- What notes say of abilities and queues, note by note.
use Rattle.std.proofs.Common.{◌≡◌, ℕ, suc, ◌+◌, ◌<◌, ◌≤◌, Bool, true, false, cond, List, [], ◌∷◌, ◌++◌, length, map, drop, get_or, set}
use Rattle.std.proofs.Common.{filter, find, Option, Some, None, refl, sym, ap, ap₂, subst, ◌∙◌, arith}
use Rattle.std.specs.Prelude.{not, ◌&&◌, ◌||◌, ◌==◌, nat_lt, position, unwrap_or}
use Rattle.std.specs.List.{list_any, position_or_len}
use Rattle.std.specs.Option.{option_map}
use Rattle.std.specs.Str.{bytes_eq}
use Rattle.std.proofs.Math.Numerals.{add-one}
use Rattle.std.proofs.Math.Seq.{drop-cons}
use Rattle.std.proofs.lemmas.Bool.Decides.{nat_tests}
use borrow.Author.Tests.{ltb-true, ltb-false}
use Rattle.std.proofs.lemmas.Slice.Eq.{bytes_eq-Decides}
use Rattle.gm_notes.specs.declared.note.Note.{Note}
use Rattle.gm_notes.specs.Notes.{last_said}
use Rattle.gm_notes.specs.declared.note.Note.TheVariants.{Opened, Closed, Can, Cant, Reset, Made, Returned}
use Rattle.gm_notes.specs.declared.states.Pick.{Pick}
use Rattle.gm_notes.specs.declared.states.Priority.{Priority}
use Rattle.gm_notes.specs.declared.states.Priority.TheVariants.{High, Normal, Low}
use Rattle.gm_notes.specs.Jobs.{Ability, put, is_of, abilities, is_able, as_they_came, is_queued, queue, waiting_for, pick_from, pick_with}
use Rattle.gm_notes.specs.Jobs.{first_of}
use Rattle.gm_plain.specs.Searches.{says_able, abilities_after, order_after, head}

-- ---- whether a worker can do a function

wiped : (t : Bool) (f : List ℕ) (a : List Ability) → list_any (is_of f) (cond t [] a) ≡ unwrap_or (cond t (Some false) None) (list_any (is_of f) a)
wiped true f a = refl
wiped false f a = refl

said_over : (b x rest : Bool) → (x || unwrap_or (cond b (Some true) None) rest) ≡ unwrap_or (cond b (Some true) None) (x || rest)
said_over true true rest = refl
said_over true false rest = refl
said_over false x rest = refl

said_same : (b rest : Bool) → (b || rest) ≡ unwrap_or (cond b (Some true) None) (b || rest)
said_same true rest = refl
said_same false rest = refl

put_at : (f g : List ℕ) (t : ℕ) (x : Ability) (a : List Ability) (b : Bool) → bytes_eq x.function g ≡ b
    → list_any (is_of f) (put g t a) ≡ unwrap_or (cond (bytes_eq g f) (Some true) None) (list_any (is_of f) a)
    → list_any (is_of f) (cond b (record { function = g; timeout = t } ∷ a) (x ∷ put g t a))
    ≡ unwrap_or (cond (bytes_eq g f) (Some true) None) (bytes_eq x.function f || list_any (is_of f) a)
put_at f g t x a true e rest =
    let same : x.function ≡ g = (bytes_eq-Decides x.function g).0 e in
    subst (λ h. (bytes_eq g f || list_any (is_of f) a) ≡ unwrap_or (cond (bytes_eq g f) (Some true) None) (bytes_eq h f || list_any (is_of f) a)) (sym same) (said_same (bytes_eq g f) (list_any (is_of f) a))
put_at f g t x a false e rest = ap (λ b. bytes_eq x.function f || b) rest ∙ said_over (bytes_eq g f) (bytes_eq x.function f) (list_any (is_of f) a)

-- an ability that was added is there
any_put : (f g : List ℕ) (t : ℕ) (a : List Ability) → list_any (is_of f) (put g t a) ≡ unwrap_or (cond (bytes_eq g f) (Some true) None) (list_any (is_of f) a)
any_put f g t [] = said_same-nil (bytes_eq g f)
  where
    said_same-nil : (b : Bool) → (b || false) ≡ unwrap_or (cond b (Some true) None) false
    said_same-nil true = refl
    said_same-nil false = refl
any_put f g t (x ∷ a) = put_at f g t x a (bytes_eq x.function g) refl (any_put f g t a)

taken_out : (b rest : Bool) → unwrap_or (cond b (Some false) None) rest ≡ unwrap_or (cond b (Some false) None) (b || rest)
taken_out true rest = refl
taken_out false rest = refl

taken_over : (b x rest : Bool) → (b ≡ true → x ≡ false) → (x || unwrap_or (cond b (Some false) None) rest) ≡ unwrap_or (cond b (Some false) None) (x || rest)
taken_over true x rest h = rw (h refl) refl
taken_over false x rest h = refl

cant_at : (f g : List ℕ) (x : Ability) (a : List Ability) (b : Bool) → bytes_eq x.function g ≡ b
    → list_any (is_of f) (filter (λ ability. not (is_of g ability)) a) ≡ unwrap_or (cond (bytes_eq g f) (Some false) None) (list_any (is_of f) a)
    → list_any (is_of f) (cond (not b) (x ∷ filter (λ ability. not (is_of g ability)) a) (filter (λ ability. not (is_of g ability)) a))
    ≡ unwrap_or (cond (bytes_eq g f) (Some false) None) (bytes_eq x.function f || list_any (is_of f) a)
cant_at f g x a true e rest =
    let same : x.function ≡ g = (bytes_eq-Decides x.function g).0 e in
    rest
    ∙ subst (λ h. unwrap_or (cond (bytes_eq g f) (Some false) None) (list_any (is_of f) a) ≡ unwrap_or (cond (bytes_eq g f) (Some false) None) (bytes_eq h f || list_any (is_of f) a)) (sym same) (taken_out (bytes_eq g f) (list_any (is_of f) a))
cant_at f g x a false e rest =
    ap (λ b. bytes_eq x.function f || b) rest
    ∙ taken_over (bytes_eq g f) (bytes_eq x.function f) (list_any (is_of f) a) (λ (h : bytes_eq g f ≡ true). ap (bytes_eq x.function) (sym ((bytes_eq-Decides g f).0 h)) ∙ e)

-- one that was taken out isn't
any_cant : (f g : List ℕ) (a : List Ability)
    → list_any (is_of f) (filter (λ ability. not (is_of g ability)) a) ≡ unwrap_or (cond (bytes_eq g f) (Some false) None) (list_any (is_of f) a)
any_cant f g [] = none (bytes_eq g f)
  where
    none : (b : Bool) → false ≡ unwrap_or (cond b (Some false) None) false
    none true = refl
    none false = refl
any_cant f g (x ∷ a) = cant_at f g x a (bytes_eq x.function g) refl (any_cant f g a)

added : (t : Bool) (f g : List ℕ) (s : ℕ) (a : List Ability)
    → list_any (is_of f) (cond t (put g s a) a) ≡ unwrap_or (cond (t && bytes_eq g f) (Some true) None) (list_any (is_of f) a)
added true f g s a = any_put f g s a
added false f g s a = refl

removed : (t : Bool) (f g : List ℕ) (a : List Ability)
    → list_any (is_of f) (cond t (filter (λ ability. not (is_of g ability)) a) a) ≡ unwrap_or (cond (t && bytes_eq g f) (Some false) None) (list_any (is_of f) a)
removed true f g a = any_cant f g a
removed false f g a = refl

able_next : (c : ℕ) (f : List ℕ) (note : Note) (older : List Note) → is_able c f (note ∷ older) ≡ unwrap_or (says_able c f note) (is_able c f older)
able_next c f (Opened d addr) older = wiped (c == d) f (abilities c older)
able_next c f (Closed d) older = wiped (c == d) f (abilities c older)
able_next c f (Reset d) older = wiped (c == d) f (abilities c older)
able_next c f (Can d g t) older = added (c == d) f g t (abilities c older)
able_next c f (Cant d g) older = removed (c == d) f g (abilities c older)
able_next c f note older = refl

-- whether a worker can do a function is what the notes say last of it
pub able_said : (c : ℕ) (f : List ℕ) (notes : List Note) → is_able c f notes ≡ last_said (says_able c f) false notes
able_said c f [] = refl
able_said c f (note ∷ older) = able_next c f note older ∙ ap (unwrap_or (says_able c f note)) (able_said c f older)

pub abilities_next : (c : ℕ) (note : Note) (older : List Note) → abilities c (note ∷ older) ≡ abilities_after c note (abilities c older)
abilities_next c (Opened d addr) older = refl
abilities_next c (Closed d) older = refl
abilities_next c (Reset d) older = refl
abilities_next c (Can d g t) older = refl
abilities_next c (Cant d g) older = refl
abilities_next c note older = refl

-- ---- queues

pub order_next : (note : Note) (older : List Note) → as_they_came (note ∷ older) ≡ order_after note (as_they_came older)
order_next (Made n f p u body) older = refl
order_next (Returned n) older = refl
order_next note older = refl

-- the first of two lists, one after the other
abbrev pub or_head : Option ℕ → Option ℕ → Option ℕ
or_head None other = other
or_head (Some n) other = Some n

head_append : (xs ys : List ℕ) → head (xs ++ ys) ≡ or_head (head xs) (head ys)
head_append [] ys = refl
head_append (x ∷ xs) ys = refl

filter_at : (P : ℕ → Bool) (n : ℕ) (ns : List ℕ) (t : Bool) → head (filter P ns) ≡ find P ns
    → head (cond t (n ∷ filter P ns) (filter P ns)) ≡ cond t (Some n) (find P ns)
filter_at P n ns true rest = refl
filter_at P n ns false rest = rest

head_filter : (P : ℕ → Bool) (ns : List ℕ) → head (filter P ns) ≡ find P ns
head_filter P [] = refl
head_filter P (n ∷ ns) = filter_at P n ns (P n) (head_filter P ns)

-- the first job that is given out for a function: of the high ones, of the normal ones, of the low ones
first_waiting : (f : List ℕ) (notes : List Note) (jobs : List ℕ) → jobs ≡ as_they_came notes
    → head (waiting_for f notes)
    ≡ or_head (or_head (find (is_queued f High notes) jobs) (find (is_queued f Normal notes) jobs)) (find (is_queued f Low notes) jobs)
first_waiting f notes jobs is =
    let heads : head (waiting_for f notes)
    ≡ or_head (or_head (find (is_queued f High notes) (as_they_came notes)) (find (is_queued f Normal notes) (as_they_came notes))) (find (is_queued f Low notes) (as_they_came notes)) =
    head_append (queue f High notes ++ queue f Normal notes) (queue f Low notes)
    ∙ ap₂ or_head
    (head_append (queue f High notes) (queue f Normal notes)
    ∙ ap₂ or_head (head_filter (is_queued f High notes) (as_they_came notes)) (head_filter (is_queued f Normal notes) (as_they_came notes)))
    (head_filter (is_queued f Low notes) (as_they_came notes))
    in
    subst (λ l. head (waiting_for f notes) ≡ or_head (or_head (find (is_queued f High notes) l) (find (is_queued f Normal notes) l)) (find (is_queued f Low notes) l)) (sym is) heads

pub first_is_high : (f : List ℕ) (notes : List Note) (jobs : List ℕ) (n : ℕ) → jobs ≡ as_they_came notes → Some n ≡ find (is_queued f High notes) jobs
    → Some n ≡ head (waiting_for f notes)
first_is_high f notes jobs n is high =
    sym (first_waiting f notes jobs is ∙ ap (λ o. or_head (or_head o (find (is_queued f Normal notes) jobs)) (find (is_queued f Low notes) jobs)) (sym high))

pub first_is_normal : (f : List ℕ) (notes : List Note) (jobs : List ℕ) (n : ℕ) → jobs ≡ as_they_came notes → None ≡ find (is_queued f High notes) jobs
    → Some n ≡ find (is_queued f Normal notes) jobs → Some n ≡ head (waiting_for f notes)
first_is_normal f notes jobs n is high normal =
    sym (first_waiting f notes jobs is ∙ ap₂ (λ o p. or_head (or_head o p) (find (is_queued f Low notes) jobs)) (sym high) (sym normal))

pub first_is_low : (f : List ℕ) (notes : List Note) (jobs : List ℕ) → jobs ≡ as_they_came notes → None ≡ find (is_queued f High notes) jobs
    → None ≡ find (is_queued f Normal notes) jobs → find (is_queued f Low notes) jobs ≡ head (waiting_for f notes)
first_is_low f notes jobs is high normal =
    sym (first_waiting f notes jobs is ∙ ap₂ (λ o p. or_head (or_head o p) (find (is_queued f Low notes) jobs)) (sym high) (sym normal))

-- ---- picks

pub pick_here : (ability : Ability) (abilities : List Ability) (notes : List Note) (n : ℕ) → head (waiting_for ability.function notes) ≡ Some n
    → pick_from (ability ∷ abilities) notes ≡ Some (record { job = n; timeout = ability.timeout })
pick_here ability abilities notes n e = go (waiting_for ability.function notes) e
  where
    go : (ns : List ℕ) → head ns ≡ Some n → first_of ns ability.timeout (pick_from abilities notes) ≡ Some (record { job = n; timeout = ability.timeout })
    go [] h = absurd cc
    go (m ∷ ns) h = ap (λ (o : Option ℕ). option_map (λ (j : ℕ). record { job = j; timeout = ability.timeout }) o) h

-- ---- an ability in its place

-- how many abilities stand before the one for f
abbrev pub before : {V : Type 0} → (V → Ability) → List ℕ → List V → ℕ
before view f items = position_or_len (λ x. is_of f (view x)) items

position_at : (t : Bool) (n len i : ℕ) → nat_lt n len ≡ t → Some i ≡ cond t (Some n) None → (i ≡ n) × (n < len)
position_at true n len i lt is = (cc, ltb-true n len lt)
position_at false n len i lt is = absurd cc

position_none : (t : Bool) (n len : ℕ) → nat_lt n len ≡ t → (let o : Option ℕ = None in o) ≡ cond t (Some n) None → len ≤ n
position_none true n len lt is = absurd cc
position_none false n len lt is = ltb-false n len lt

-- a position is the number of those before it
pub there : {V : Type 0} (view : V → Ability) (f : List ℕ) (items : List V) (i : ℕ) → Some i ≡ position (λ x. is_of f (view x)) items
    → (i ≡ before view f items) × (before view f items < length items)
there view f items i is = position_at (nat_lt (before view f items) (length items)) (before view f items) (length items) i refl is

-- where there is none, all stand before it
pub nowhere : {V : Type 0} (view : V → Ability) (f : List ℕ) (items : List V) → (let o : Option ℕ = None in o) ≡ position (λ x. is_of f (view x)) items
    → length items ≤ before view f items
nowhere view f items is = position_none (nat_lt (before view f items) (length items)) (before view f items) (length items) refl is

set_next : (n : ℕ) (x new : Ability) (rest : List Ability) → set (x ∷ rest) (1 + n) new ≡ x ∷ set rest n new
set_next n x new rest = let e : 1 + n ≡ suc n = omega arith in rw e refl

put_there : {V : Type 0} (view : V → Ability) (f : List ℕ) (t : ℕ) (items : List V) → before view f items < length items
    → put f t (map view items) ≡ set (map view items) (before view f items) (record { function = f; timeout = t })
put_there view f t [] lt = absurd (omega (arith, lt))
put_there view f t (x ∷ items) lt = by (is_of f (view x)) (put_there view f t items) lt
  where
    by : (here : Bool) → (before view f items < length items → put f t (map view items) ≡ set (map view items) (before view f items) (record { function = f; timeout = t }))
        → cond (not here) (1 + before view f items) 0 < length (x ∷ items)
        → cond here (record { function = f; timeout = t } ∷ map view items) (view x ∷ put f t (map view items))
        ≡ set (view x ∷ map view items) (cond (not here) (1 + before view f items) 0) (record { function = f; timeout = t })
    by true rest below = refl
    by false rest below =
        ap (λ l. view x ∷ l) (rest (omega (arith, below)))
        ∙ sym (set_next (before view f items) (view x) (record { function = f; timeout = t }) (map view items))

put_last : {V : Type 0} (view : V → Ability) (f : List ℕ) (t : ℕ) (items : List V) → length items ≤ before view f items
    → put f t (map view items) ≡ map view items ++ record { function = f; timeout = t } ∷ []
put_last view f t [] le = refl
put_last view f t (x ∷ items) le = by (is_of f (view x)) (put_last view f t items) le
  where
    by : (here : Bool) → (length items ≤ before view f items → put f t (map view items) ≡ map view items ++ record { function = f; timeout = t } ∷ [])
        → length (x ∷ items) ≤ cond (not here) (1 + before view f items) 0
        → cond here (record { function = f; timeout = t } ∷ map view items) (view x ∷ put f t (map view items))
        ≡ view x ∷ (map view items ++ record { function = f; timeout = t } ∷ [])
    by true rest above = absurd (omega (arith, above))
    by false rest above = ap (λ l. view x ∷ l) (rest (omega (arith, above)))

-- an ability for a function that has one takes its place
pub put_at_position : {V : Type 0} (view : V → Ability) (f : List ℕ) (t : ℕ) (items : List V) (i : ℕ) → Some i ≡ position (λ x. is_of f (view x)) items
    → put f t (map view items) ≡ set (map view items) i (record { function = f; timeout = t })
put_at_position view f t items i is =
    let found = there view f items i is in
    put_there view f t items found.1 ∙ ap (λ n. set (map view items) n (record { function = f; timeout = t })) (sym found.0)

-- and any other goes to the end
pub put_at_end : {V : Type 0} (view : V → Ability) (f : List ℕ) (t : ℕ) (items : List V) → (let o : Option ℕ = None in o) ≡ position (λ x. is_of f (view x)) items
    → put f t (map view items) ≡ map view items ++ record { function = f; timeout = t } ∷ []
put_at_end view f t items is = put_last view f t items (nowhere view f items is)

kept_at : {V : Type 0} (f : V → Ability) (P : Ability → Bool) (x : V) (items : List V) (t : Bool) → map f (filter (λ y. P (f y)) items) ≡ filter P (map f items)
    → map f (cond t (x ∷ filter (λ y. P (f y)) items) (filter (λ y. P (f y)) items)) ≡ cond t (f x ∷ filter P (map f items)) (filter P (map f items))
kept_at f P x items true rest = ap (λ l. f x ∷ l) rest
kept_at f P x items false rest = rest

pub map_filter : {V : Type 0} (f : V → Ability) (P : Ability → Bool) (items : List V) → map f (filter (λ x. P (f x)) items) ≡ filter P (map f items)
map_filter f P [] = refl
map_filter f P (x ∷ items) = kept_at f P x items (P (f x)) (map_filter f P items)

pub cant_here : (c d : ℕ) (f : List ℕ) (note : Note) (a : List Ability) → note ≡ Cant d f → d ≡ c
    → filter (λ ability. not (is_of f ability)) a ≡ abilities_after c note a
cant_here c d f note a is same =
    let here : (c == d) ≡ true = grind (arith, nat_tests) in
    sym (ap (λ n. abilities_after c n a) is ∙ rw here refl)

pub pick_at : {V : Type 0} (f : V → Ability) (items : List V) (i : ℕ) (d : V) (notes : List Note) (n : ℕ) → i < length items
    → Some n ≡ head (waiting_for (f (get_or items i d)).function notes)
    → pick_from (map f (drop i items)) notes ≡ Some (record { job = n; timeout = (f (get_or items i d)).timeout })
pick_at f items i d notes n lt e =
    ap (λ l. pick_from (map f l) notes) (drop-cons items i d lt) ∙ pick_here (f (get_or items i d)) (map f (drop (suc i) items)) notes n (sym e)

-- the first of a queue is the first of all jobs that is in it
first_queued : (f : List ℕ) (p : Priority) (notes : List Note) (jobs : List ℕ) → jobs ≡ as_they_came notes → find (is_queued f p notes) jobs ≡ head (queue f p notes)
first_queued f p notes jobs is = ap (find (is_queued f p notes)) is ∙ sym (head_filter (is_queued f p notes) (as_they_came notes))

first_here : (ns : List ℕ) (n timeout : ℕ) (otherwise : Option Pick) → Some n ≡ head ns → first_of ns timeout otherwise ≡ Some (record { job = n; timeout = timeout })
first_here [] n timeout otherwise e = absurd cc
first_here (m ∷ ns) n timeout otherwise e = ap (λ (o : Option ℕ). option_map (λ (j : ℕ). record { job = j; timeout = timeout }) o) (sym e)

first_later : (ns : List ℕ) (timeout : ℕ) (otherwise : Option Pick) → (let o : Option ℕ = None in o) ≡ head ns → first_of ns timeout otherwise ≡ otherwise
first_later [] timeout otherwise e = refl
first_later (m ∷ ns) timeout otherwise e = absurd cc

-- the pick of a priority is for the ability at this place
pub pick_with_at : {V : Type 0} (f : V → Ability) (p : Priority) (items : List V) (i : ℕ) (d : V) (notes : List Note) (jobs : List ℕ) (n : ℕ) → i < length items
    → jobs ≡ as_they_came notes → Some n ≡ find (is_queued (f (get_or items i d)).function p notes) jobs
    → pick_with p (map f (drop i items)) notes ≡ Some (record { job = n; timeout = (f (get_or items i d)).timeout })
pick_with_at f p items i d notes jobs n lt is e =
    let ability = f (get_or items i d) in
    ap (λ l. pick_with p (map f l) notes) (drop-cons items i d lt)
    ∙ first_here (queue ability.function p notes) n ability.timeout (pick_with p (map f (drop (suc i) items)) notes) (e ∙ first_queued ability.function p notes jobs is)

-- or for one behind it
pub pick_with_past : {V : Type 0} (f : V → Ability) (p : Priority) (items : List V) (i : ℕ) (d : V) (notes : List Note) (jobs : List ℕ) → i < length items
    → jobs ≡ as_they_came notes → (let o : Option ℕ = None in o) ≡ find (is_queued (f (get_or items i d)).function p notes) jobs
    → pick_with p (map f (drop i items)) notes ≡ pick_with p (map f (drop (i + 1) items)) notes
pick_with_past f p items i d notes jobs lt is e =
    let ability = f (get_or items i d) in
    ap (λ l. pick_with p (map f l) notes) (drop-cons items i d lt)
    ∙ (first_later (queue ability.function p notes) ability.timeout (pick_with p (map f (drop (suc i) items)) notes) (e ∙ first_queued ability.function p notes jobs is)
    ∙ ap (λ n. pick_with p (map f (drop n items)) notes) (sym (add-one i)))
