-- Who listens to a job is open.
use Rattle.std.proofs.Common.{◌≡◌, ℕ, Bool, true, false, cond, not, List, [], ◌∷◌, ◌++◌, filter, Some, None, refl}
use Rattle.std.specs.Prelude.{◌==◌, unwrap_or}
use Rattle.std.proofs.lemmas.Bool.{and_parts}
use Rattle.gm_notes.specs.declared.note.Note.{Note}
use Rattle.gm_notes.specs.declared.note.Note.TheVariants.{Opened, Closed, Made, Listens}
use Rattle.gm_notes.specs.Settings.{Settings}
use Rattle.gm_notes.specs.Notes.{is_open, has_option}
use Rattle.gm_notes.specs.Jobs.{listeners}
use Rattle.gm_notes.specs.Workers.{wants_exceptions}
use Rattle.gm_history.specs.History.{History}
use Rattle.gm_history.specs.Hearing.{AllOpen}
use Rattle.std.proofs.lemmas.Bool.{not-true}

pub open_after : (slots : List ℕ) (a b : List Note) → ((c : ℕ) → is_open c a ≡ true → is_open c b ≡ true) → AllOpen slots a → AllOpen slots b
open_after [] a b more all = tt
open_after (c ∷ slots) a b more all = (more c all.0, open_after slots a b more all.1)

both_open : (slots more : List ℕ) (l : List Note) → AllOpen slots l → AllOpen more l → AllOpen (slots ++ more) l
both_open [] more l p q = q
both_open (c ∷ slots) more l p q = (p.0, both_open slots more l p.1 q)

-- some of the open slots are open
pub some_open : (test : ℕ → Bool) (slots : List ℕ) (l : List Note) → AllOpen slots l → AllOpen (filter test slots) l
some_open test [] l all = tt
some_open test (c ∷ slots) l all = by (test c) (some_open test slots l all.1)
  where
    by : (t : Bool) → AllOpen (filter test slots) l → AllOpen (cond t (c ∷ filter test slots) (filter test slots)) l
    by true rest = (all.0, rest)
    by false rest = rest

filtered_at : (c : ℕ) (rest : List ℕ) (l : List Note) (t : Bool) → wants_exceptions c l ≡ t → AllOpen rest l → AllOpen (cond t (c ∷ rest) rest) l
filtered_at c rest l true is all = ((and_parts (is_open c l) (has_option c l) is).0, all)
filtered_at c rest l false is all = all

pub filtered_open : (slots : List ℕ) (l : List Note) → AllOpen (filter (λ c. wants_exceptions c l) slots) l
filtered_open [] l = tt
filtered_open (c ∷ slots) l = filtered_at c _ l (wants_exceptions c l) refl (filtered_open slots l)

-- the others are open once slot d was closed
pub still_open : (older t : Bool) → t ≡ false → older ≡ true → unwrap_or (cond t (Some false) None) older ≡ true
still_open older true other opened = absurd cc
still_open older false other opened = opened

left_at : (c d : ℕ) (rest : List ℕ) (l : List Note) (t : Bool) → not (c == d) ≡ t → is_open c l ≡ true → AllOpen rest (Closed d ∷ l) → AllOpen (cond t (c ∷ rest) rest) (Closed d ∷ l)
left_at c d rest l true is opened all = (still_open (is_open c l) (c == d) (not-true (c == d) is) opened, all)
left_at c d rest l false is opened all = all

left_open : (d : ℕ) (slots : List ℕ) (l : List Note) → AllOpen slots l → AllOpen (filter (λ c. not (c == d)) slots) (Closed d ∷ l)
left_open d [] l all = tt
left_open d (c ∷ slots) l all = left_at c d _ l (not (c == d)) refl all.0 (left_open d slots l all.1)

pub opens : (c : ℕ) (older : Bool) (t : Bool) → older ≡ true → unwrap_or (cond t (Some true) None) older ≡ true
opens c older true e = refl
opens c older false e = e

made_open : (slots : List ℕ) (l : List Note) (t : Bool) → AllOpen slots l → AllOpen (cond t [] slots) l
made_open slots l true all = tt
made_open slots l false all = all

hears_open : (slots : List ℕ) (c : ℕ) (l : List Note) (t : Bool) → is_open c l ≡ true → AllOpen slots l → AllOpen (cond t (slots ++ c ∷ []) slots) l
hears_open slots c l true opened all = both_open slots (c ∷ []) l all (opened, tt)
hears_open slots c l false opened all = all

pub listeners_open : (k : Settings) (l : List Note) → History k l → (n : ℕ) → AllOpen (listeners n l) l
listeners_open k [] h n = tt
listeners_open k (Opened d addr ∷ older) h n = open_after (listeners n older) older (Opened d addr ∷ older) (λ c e. opens c (is_open c older) (c == d) e) (listeners_open k older h.1 n)
listeners_open k (Closed d ∷ older) h n = left_open d (listeners n older) older (listeners_open k older h.1 n)
listeners_open k (Made m f p u body ∷ older) h n =
    made_open (listeners n older) (Made m f p u body ∷ older) (n == m) (open_after (listeners n older) older (Made m f p u body ∷ older) (λ c e. e) (listeners_open k older h.1 n))
listeners_open k (Listens m c ∷ older) h n =
    hears_open (listeners n older) c (Listens m c ∷ older) (n == m) h.0.1 (open_after (listeners n older) older (Listens m c ∷ older) (λ c e. e) (listeners_open k older h.1 n))
listeners_open k (note ∷ older) h n = open_after (listeners n older) older (note ∷ older) (λ c e. e) (listeners_open k older h.1 n)
