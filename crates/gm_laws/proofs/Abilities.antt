-- What slots can do is what they asked for.
use Rattle.std.proofs.Common.{◌≡◌, ◌⊎◌, inl, inr, ℕ, Bool, true, false, cond, not, ◌&&◌, ◌||◌, List, [], ◌∷◌, filter, Some, None, refl, sym, ap, subst, ◌∙◌}
use Rattle.std.specs.Prelude.{◌==◌, codes, unwrap_or}
use Rattle.std.specs.List.{list_any}
use Rattle.std.specs.Str.{bytes_eq}
use Rattle.std.proofs.lemmas.Bool.{and_parts, and_from, or_left, or_right}
use Rattle.std.proofs.lemmas.Option.{same_Some}
use Rattle.std.proofs.lemmas.Slice.Eq.{bytes_eq-Decides}
use Rattle.gm_packet.specs.declared.kind.Kind.{Kind}
use Rattle.gm_packet.specs.declared.kind.Kind.TheVariants.{CanDo, CantDo, CanDoTimeout, ResetAbilities}
use Rattle.gm_packet.specs.Requests.{Asked}
use Rattle.gm_notes.specs.declared.note.Note.{Note}
use Rattle.gm_notes.specs.declared.note.Note.TheVariants as notes
use Rattle.gm_notes.specs.Settings.{Settings}
use Rattle.gm_notes.specs.Notes.{is_open, phase, is_asleep}
use Rattle.gm_notes.specs.Jobs.{Ability, abilities, is_able, is_of, put, is_empty, waiting_for}
use Rattle.gm_notes.specs.Past.{Past, with_note, with_mention, refuse}
use Rattle.gm_notes.specs.Submissions.{is_bad_name, is_one_too_many}
use Rattle.gm_notes.specs.Workers.{wake_if, add_ability, can_do, cant_do}
use Rattle.gm_notes.specs.Requests.{first, request}
use Rattle.gm_notes.specs.Steps.{Step, step, run}
use Rattle.gm_history.specs.History.{Allowed, History}
use Rattle.gm_history.specs.Causes.{Caused, PacketAsks, job_seconds, closes, is_enabling}
use Rattle.gm_history.specs.History.{is_able_within}
use Rattle.gm_laws.specs.Abilities.{Enables, Disables, IsRejected, AbilitiesCome, AbilitiesAreAsAsked}
use Rattle.gm_laws.specs.Refusals.{names_function}
use Rattle.gm_laws.proofs.Created.{bad_name, too_many}
use Rattle.gm_laws.proofs.Refusals.{named_badly}
use Rattle.gm_laws.proofs.Taken.{request_does}
use Rattle.gm_laws.proofs.Moving.{both_not}
use Rattle.gm_history.proofs.StepsKeep.{run_history}
use Rattle.gm_history.proofs.Caused.{note_law}
use Rattle.gm_notes.proofs.Numbers.{same_number}
use Rattle.std.proofs.lemmas.Bool.{eqb-true}

-- ---- abilities in lists

module _ (p : Ability → Bool) where
  -- one that is put in, or was there
  put_before : (f : List ℕ) (t : ℕ) (all : List Ability) → list_any p (put f t all) ≡ true → (p (record { function = f; timeout = t }) ≡ true) ⊎ (list_any p all ≡ true)
  put_before f t [] e = by (p (record { function = f; timeout = t })) e
    where
      by : (u : Bool) → (u || false) ≡ true → (u ≡ true) ⊎ (false ≡ true)
      by true e = inl refl
      by false e = inr e
  put_before f t (ability ∷ all) e = by (is_of f ability) (p (record { function = f; timeout = t })) (p ability) refl refl (put_before f t all) e
    where
      by : (u v w : Bool) → p (record { function = f; timeout = t }) ≡ v → p ability ≡ w → (list_any p (put f t all) ≡ true → (p (record { function = f; timeout = t }) ≡ true) ⊎ (list_any p all ≡ true))
          → list_any p (cond u (record { function = f; timeout = t } ∷ all) (ability ∷ put f t all)) ≡ true → (v ≡ true) ⊎ ((w || list_any p all) ≡ true)
      by true true w is was rest e = inl refl
      by true false w is was rest e = inr (or_right w (list_any p all) (ap (λ x. x || list_any p all) (sym is) ∙ e))
      by false v true is was rest e = inr refl
      by false v false is was rest e = there (rest (ap (λ x. x || list_any p (put f t all)) (sym was) ∙ e))
        where
          there : (p (record { function = f; timeout = t }) ≡ true) ⊎ (list_any p all ≡ true) → (v ≡ true) ⊎ (list_any p all ≡ true)
          there (inl h) = inl (sym is ∙ h)
          there (inr h) = inr h

  put_now : (f : List ℕ) (t : ℕ) (all : List Ability) → p (record { function = f; timeout = t }) ≡ true → list_any p (put f t all) ≡ true
  put_now f t [] e = or_left (p (record { function = f; timeout = t })) false e
  put_now f t (ability ∷ all) e = by (is_of f ability) (put_now f t all e)
    where
      by : (u : Bool) → list_any p (put f t all) ≡ true → list_any p (cond u (record { function = f; timeout = t } ∷ all) (ability ∷ put f t all)) ≡ true
      by true rest = or_left (p (record { function = f; timeout = t })) (list_any p all) e
      by false rest = or_right (p ability) (list_any p (put f t all)) rest

  -- what isn't for the function stays
  put_stays : (f : List ℕ) (t : ℕ) (all : List Ability) → ((ability : Ability) → p ability ≡ true → is_of f ability ≡ false) → list_any p all ≡ true → list_any p (put f t all) ≡ true
  put_stays f t [] other e = absurd cc
  put_stays f t (ability ∷ all) other e = by (is_of f ability) (p ability) refl refl (put_stays f t all other) e
    where
      by : (u v : Bool) → is_of f ability ≡ u → p ability ≡ v → (list_any p all ≡ true → list_any p (put f t all) ≡ true) → (v || list_any p all) ≡ true
          → list_any p (cond u (record { function = f; timeout = t } ∷ all) (ability ∷ put f t all)) ≡ true
      by true true is was rest e = absurd (both_not (is_of f ability) is (other ability was))
      by true false is was rest e = or_right (p (record { function = f; timeout = t })) (list_any p all) e
      by false true is was rest e = or_left (p ability) (list_any p (put f t all)) was
      by false false is was rest e = or_right (p ability) (list_any p (put f t all)) (rest e)

  kept_before : (keep : Ability → Bool) (all : List Ability) → list_any p (filter keep all) ≡ true → list_any p all ≡ true
  kept_before keep [] e = e
  kept_before keep (ability ∷ all) e = by (keep ability) (kept_before keep all) e
    where
      by : (u : Bool) → (list_any p (filter keep all) ≡ true → list_any p all ≡ true) → list_any p (cond u (ability ∷ filter keep all) (filter keep all)) ≡ true → (p ability || list_any p all) ≡ true
      by true rest e = more (p ability) e
        where
          more : (v : Bool) → (v || list_any p (filter keep all)) ≡ true → (v || list_any p all) ≡ true
          more true e = refl
          more false e = rest e
      by false rest e = or_right (p ability) (list_any p all) (rest e)

  kept_stays : (keep : Ability → Bool) (all : List Ability) → ((ability : Ability) → p ability ≡ true → keep ability ≡ true) → list_any p all ≡ true → list_any p (filter keep all) ≡ true
  kept_stays keep [] other e = e
  kept_stays keep (ability ∷ all) other e = by (keep ability) (p ability) refl refl (kept_stays keep all other) e
    where
      by : (u v : Bool) → keep ability ≡ u → p ability ≡ v → (list_any p all ≡ true → list_any p (filter keep all) ≡ true) → (v || list_any p all) ≡ true → list_any p (cond u (ability ∷ filter keep all) (filter keep all)) ≡ true
      by true true is was rest e = or_left (p ability) (list_any p (filter keep all)) was
      by true false is was rest e = or_right (p ability) (list_any p (filter keep all)) (rest e)
      by false true is was rest e = absurd (both_not (keep ability) (other ability was) is)
      by false false is was rest e = rest e

none_left : (f : List ℕ) (all : List Ability) → list_any (is_of f) (filter (λ ability. not (is_of f ability)) all) ≡ false
none_left f [] = refl
none_left f (ability ∷ all) = by (is_of f ability) refl (none_left f all)
  where
    by : (u : Bool) → is_of f ability ≡ u → list_any (is_of f) (filter (λ a. not (is_of f a)) all) ≡ false → list_any (is_of f) (cond (not u) (ability ∷ filter (λ a. not (is_of f a)) all) (filter (λ a. not (is_of f a)) all)) ≡ false
    by true is rest = rest
    by false is rest = ap (λ x. x || list_any (is_of f) (filter (λ a. not (is_of f a)) all)) is ∙ rest

-- of a slot that isn't open there are none
closed_none : (k : Settings) (c : ℕ) (l : List Note) → History k l → is_open c l ≡ false → abilities c l ≡ []
closed_none k c [] h e = refl
closed_none k c (notes.Opened d addr ∷ older) h e = by (c == d) (closed_none k c older h.1) e
  where
    by : (t : Bool) → (is_open c older ≡ false → abilities c older ≡ []) → unwrap_or (cond t (Some true) None) (is_open c older) ≡ false → cond t [] (abilities c older) ≡ []
    by true rest e = refl
    by false rest e = rest e
closed_none k c (notes.Closed d ∷ older) h e = by (c == d) (closed_none k c older h.1) e
  where
    by : (t : Bool) → (is_open c older ≡ false → abilities c older ≡ []) → unwrap_or (cond t (Some false) None) (is_open c older) ≡ false → cond t [] (abilities c older) ≡ []
    by true rest e = refl
    by false rest e = rest e
closed_none k c (notes.Reset d ∷ older) h e = by (c == d) (closed_none k c older h.1 e)
  where
    by : (t : Bool) → abilities c older ≡ [] → cond t [] (abilities c older) ≡ []
    by true rest = refl
    by false rest = rest
closed_none k c (notes.Cant d f ∷ older) h e = rw (closed_none k c older h.1 e) (by (c == d))
  where
    by : (t : Bool) → cond {A = List Ability} t [] [] ≡ []
    by true = refl
    by false = refl
closed_none k c (notes.Can d f t ∷ older) h e = by (c == d) refl (closed_none k c older h.1 e)
  where
    by : (u : Bool) → (c == d) ≡ u → abilities c older ≡ [] → cond u (put f t (abilities c older)) (abilities c older) ≡ []
    by true is rest = absurd (both_not (is_open d older) h.0.0 (ap (λ x. is_open x older) (sym (eqb-true c d is)) ∙ e))
    by false is rest = rest
closed_none k c (note ∷ older) h e = closed_none k c older h.1 e

-- ---- what each note does

module _ (k : Settings) (s : Step) (start : Past) (history : History k start.notes) (c : ℕ) (f : List ℕ) (seconds : ℕ) where
  -- an ability for the function with these seconds
  abbrev wanted : Ability → Bool
  wanted ability = is_of f ability && ability.timeout == seconds

  abbrev Came : List Note → Type 0
  Came l = is_able_within c f seconds l ≡ true → (is_able_within c f seconds start.notes ≡ true) ⊎ ((asked : Asked) × PacketAsks c s asked × Enables asked f seconds)

  none_or : (t : Bool) (all : List Ability) → list_any wanted (cond t [] all) ≡ true → list_any wanted all ≡ true
  none_or true all e = absurd cc
  none_or false all e = e

  came_more : (note : Note) (older : List Note) → Caused k start.notes s note older → Came older → Came (note ∷ older)
  came_more (notes.Opened d addr) older cause p e = p (none_or (c == d) (abilities c older) e)
  came_more (notes.Closed d) older cause p e = p (none_or (c == d) (abilities c older) e)
  came_more (notes.Reset d) older cause p e = p (none_or (c == d) (abilities c older) e)
  came_more (notes.Cant d g) older cause p e = p (by (c == d) e)
    where
      by : (t : Bool) → list_any wanted (cond t (filter (λ ability. not (is_of g ability)) (abilities c older)) (abilities c older)) ≡ true → list_any wanted (abilities c older) ≡ true
      by true e = kept_before wanted (λ ability. not (is_of g ability)) (abilities c older) e
      by false e = e
  came_more (notes.Can d g t) older cause p e = by (c == d) refl e
    where
      here : (c == d) ≡ true → (wanted (record { function = g; timeout = t }) ≡ true) ⊎ (list_any wanted (abilities c older) ≡ true)
          → (is_able_within c f seconds start.notes ≡ true) ⊎ ((asked : Asked) × PacketAsks c s asked × Enables asked f seconds)
      here is (inr was) = p was
      here is (inl new) =
          let parts = and_parts (bytes_eq g f) (t == seconds) new in
          let slot : d ≡ c = sym (eqb-true c d is) in
          inr (
            cause.0,
            subst (λ x. PacketAsks x s cause.0) slot cause.1,
            (cause.3 ∙ (bytes_eq-Decides g f).0 parts.0, cause.2 ∙ ap Some (eqb-true t seconds parts.1)),
          )

      by : (u : Bool) → (c == d) ≡ u → list_any wanted (cond u (put g t (abilities c older)) (abilities c older)) ≡ true
          → (is_able_within c f seconds start.notes ≡ true) ⊎ ((asked : Asked) × PacketAsks c s asked × Enables asked f seconds)
      by true is e = here is (put_before wanted g t (abilities c older) e)
      by false is e = p e
  came_more note older cause p e = p e

  abbrev Left : Type 0
  Left = (closes c s ≡ true) ⊎ ((asked : Asked) × PacketAsks c s asked × (Disables asked f ⊎ ((other : ℕ) × Enables asked f other)))

  abbrev Stays : List Note → Type 0
  Stays l = is_able_within c f seconds start.notes ≡ true → (is_able_within c f seconds l ≡ true) ⊎ Left

  -- what is wanted is for the function
  of_f : (g : List ℕ) → bytes_eq g f ≡ false → (ability : Ability) → wanted ability ≡ true → is_of g ability ≡ false
  of_f g other ability e = by (is_of g ability) refl
    where
      by : (t : Bool) → is_of g ability ≡ t → t ≡ false
      by true is =
          let for : ability.function ≡ f = (bytes_eq-Decides ability.function f).0 (and_parts (is_of f ability) (ability.timeout == seconds) e).0 in
          absurd (both_not (bytes_eq g f) ((bytes_eq-Decides g f).1 (sym ((bytes_eq-Decides ability.function g).0 is) ∙ for)) other)
      by false is = refl

  stays_more : (note : Note) (older : List Note) → Allowed k note older → Caused k start.notes s note older → History k older → Stays older → Stays (note ∷ older)
  stays_more (notes.Opened d addr) older allowed cause h p was = by (c == d) refl (p was)
    where
      by : (t : Bool) → (c == d) ≡ t → (list_any wanted (abilities c older) ≡ true) ⊎ Left → (list_any wanted (cond t [] (abilities c older)) ≡ true) ⊎ Left
      by t is (inr left) = inr left
      by true is (inl e) =
          let none : abilities c older ≡ [] = closed_none k c older h (ap (λ x. is_open x older) (eqb-true c d is) ∙ allowed.0) in
          absurd (let bad : false ≡ true = sym (ap (list_any wanted) none) ∙ e in cc)
      by false is (inl e) = inl e
  stays_more (notes.Closed d) older allowed cause h p was = by (c == d) refl (p was)
    where
      by : (t : Bool) → (c == d) ≡ t → (list_any wanted (abilities c older) ≡ true) ⊎ Left → (list_any wanted (cond t [] (abilities c older)) ≡ true) ⊎ Left
      by t is (inr left) = inr left
      by true is (inl e) = inr (inl (ap (closes c) cause ∙ is))
      by false is (inl e) = inl e
  stays_more (notes.Reset d) older allowed cause h p was = by (c == d) refl (p was)
    where
      by : (t : Bool) → (c == d) ≡ t → (list_any wanted (abilities c older) ≡ true) ⊎ Left → (list_any wanted (cond t [] (abilities c older)) ≡ true) ⊎ Left
      by t is (inr left) = inr left
      by true is (inl e) = inr (inr (cause.0, subst (λ x. PacketAsks x s cause.0) (sym (eqb-true c d is)) cause.1, inl (inr cause.2)))
      by false is (inl e) = inl e
  stays_more (notes.Cant d g) older allowed cause h p was = by (c == d) (bytes_eq g f) refl refl (p was)
    where
      by : (t u : Bool) → (c == d) ≡ t → bytes_eq g f ≡ u → (list_any wanted (abilities c older) ≡ true) ⊎ Left
          → (list_any wanted (cond t (filter (λ ability. not (is_of g ability)) (abilities c older)) (abilities c older)) ≡ true) ⊎ Left
      by t u is same (inr left) = inr left
      by false u is same (inl e) = inl e
      by true true is same (inl e) = inr (inr (cause.0, subst (λ x. PacketAsks x s cause.0) (sym (eqb-true c d is)) cause.1, inl (inl (cause.2, cause.3 ∙ (bytes_eq-Decides g f).0 same))))
      by true false is same (inl e) = inl (kept_stays wanted (λ ability. not (is_of g ability)) (abilities c older) (λ ability w. ap not (of_f g same ability w)) e)
  stays_more (notes.Can d g t) older allowed cause h p was = by (c == d) (bytes_eq g f) refl refl (p was)
    where
      by : (u v : Bool) → (c == d) ≡ u → bytes_eq g f ≡ v → (list_any wanted (abilities c older) ≡ true) ⊎ Left → (list_any wanted (cond u (put g t (abilities c older)) (abilities c older)) ≡ true) ⊎ Left
      by u v is same (inr left) = inr left
      by false v is same (inl e) = inl e
      by true true is same (inl e) =
          inr (inr (cause.0, subst (λ x. PacketAsks x s cause.0) (sym (eqb-true c d is)) cause.1, inr (t, (cause.3 ∙ (bytes_eq-Decides g f).0 same, cause.2))))
      by true false is same (inl e) = inl (put_stays wanted g t (abilities c older) (of_f g same) e)
  stays_more note older allowed cause h p was = p was

  comes : Came (step k s start).notes
  comes = note_law k s start history Came (λ note older allowed cause h p. came_more note older cause p) (λ e. inl e)

  stays : Stays (step k s start).notes
  stays = note_law k s start history Stays (λ note older allowed cause h p. stays_more note older allowed cause h p) (λ e. inl e)

-- ---- what is asked comes true

module _ (k : Settings) (c : ℕ) (start : Past) (a : List (List ℕ)) (timeout : ℕ) where
  abbrev asked : Kind → Asked
  asked kind = record { kind = kind; arguments = a; timeout = timeout }

  abbrev f : List ℕ
  f = first a

  badly : (kind : Kind) → names_function kind ≡ true → is_bad_name f ≡ true → IsRejected k c (asked kind) start (refuse c (codes "bad_function") start)
  badly kind names bad = (codes "bad_function", inl (refl, names, bad_name f bad), (refl, refl))

  can_now : (t : ℕ) (l : List Note) → is_able_within c f t (notes.Can c f t ∷ l) ≡ true
  can_now t l = rw (same_number c) (put_now (λ ability. is_of f ability && ability.timeout == t) f t (abilities c l) (and_from (bytes_eq f f) (t == t) ((bytes_eq-Decides f f).1 refl) (same_number t)))

  can_does : (kind : Kind) → is_enabling kind ≡ true → names_function kind ≡ true → (t : ℕ) → (is_able_within c f t (can_do k c f t start).notes ≡ true) ⊎ IsRejected k c (asked kind) start (can_do k c f t start)
  can_does kind enables names t = by (is_bad_name f) (is_one_too_many k f start.notes) refl refl
    where
      woken : (u : Bool) → is_able_within c f t (wake_if u c (with_note (notes.Can c f t) (with_mention f start))).notes ≡ true
      woken true = can_now t (with_mention f start).notes
      woken false = can_now t (with_mention f start).notes

      by : (u v : Bool) → is_bad_name f ≡ u → is_one_too_many k f start.notes ≡ v
          → (is_able_within c f t (cond u (refuse c (codes "bad_function") start) (cond v (refuse c (codes "too_many_functions") start) (add_ability c f t start))).notes ≡ true)
          ⊎ IsRejected k c (asked kind) start (cond u (refuse c (codes "bad_function") start) (cond v (refuse c (codes "too_many_functions") start) (add_ability c f t start)))
      by true v bad many = inr (badly kind names bad)
      by false true bad many =
          inr (codes "too_many_functions", inr (inl (refl, (λ b. both_not (is_bad_name f) (named_badly f b) bad), inl enables, too_many k f start.notes many)), (refl, refl))
      by false false bad many = inl (woken (is_asleep (phase c start.notes) && not (is_empty (waiting_for f start.notes))))

  cant_does : (is_able c f (cant_do c f start).notes ≡ false) ⊎ IsRejected k c (asked CantDo) start (cant_do c f start)
  cant_does = by (is_bad_name f) refl
    where
      cant_now : is_able c f (notes.Cant c f ∷ start.notes) ≡ false
      cant_now = rw (same_number c) (none_left f (abilities c start.notes))

      by : (u : Bool) → is_bad_name f ≡ u → (is_able c f (cond u (refuse c (codes "bad_function") start) (with_note (notes.Cant c f) start)).notes ≡ false)
          ⊎ IsRejected k c (asked CantDo) start (cond u (refuse c (codes "bad_function") start) (with_note (notes.Cant c f) start))
      by true bad = inr (badly CantDo refl bad)
      by false bad = inl cant_now

  enables_does : (kind : Kind) (seconds : ℕ) → job_seconds kind timeout ≡ Some seconds
      → (is_able_within c f seconds (request k c kind a timeout start).notes ≡ true) ⊎ IsRejected k c (asked kind) start (request k c kind a timeout start)
  enables_does CanDo seconds e =
      subst (λ t. (is_able_within c f t (can_do k c f 0 start).notes ≡ true) ⊎ IsRejected k c (asked CanDo) start (can_do k c f 0 start)) (same_Some 0 seconds e) (can_does CanDo refl refl 0)
  enables_does CanDoTimeout seconds e =
      subst (λ t. (is_able_within c f t (can_do k c f timeout start).notes ≡ true) ⊎ IsRejected k c (asked CanDoTimeout) start (can_do k c f timeout start)) (same_Some timeout seconds e) (can_does CanDoTimeout refl refl timeout)
  enables_does kind seconds e = absurd cc

  disables_does : (kind : Kind) (g : List ℕ) → ((kind ≡ CantDo) × (f ≡ g)) ⊎ (kind ≡ ResetAbilities)
      → (is_able c g (request k c kind a timeout start).notes ≡ false) ⊎ IsRejected k c (asked kind) start (request k c kind a timeout start)
  disables_does CantDo g (inl e) = subst (λ h. (is_able c h (cant_do c f start).notes ≡ false) ⊎ IsRejected k c (asked CantDo) start (cant_do c f start)) e.1 cant_does
  disables_does ResetAbilities g e = inl (ap (λ t. list_any (is_of g) (cond t [] (abilities c start.notes))) (same_number c))
  disables_does kind g (inl e) = let bad = e.0 in absurd cc
  disables_does kind g (inr e) = absurd cc

abilities_come : (k : Settings) (s : Step) (start : Past) → AbilitiesCome k start s (step k s start)
abilities_come k s start c asked g takes asks =
    let does : request k c asked.kind asked.arguments asked.timeout start ≡ step k s start = sym (request_does k s start c asked takes asks) in (
      (λ seconds e.
          subst (λ after. (is_able_within c g seconds after.notes ≡ true) ⊎ IsRejected k c asked start after) does
          (subst (λ h. (is_able_within c h seconds (request k c asked.kind asked.arguments asked.timeout start).notes ≡ true) ⊎ IsRejected k c asked start (request k c asked.kind asked.arguments asked.timeout start)) e.0
          (enables_does k c start asked.arguments asked.timeout asked.kind seconds e.1))),
      λ e. subst (λ after. (is_able c g after.notes ≡ false) ⊎ IsRejected k c asked start after) does (disables_does k c start asked.arguments asked.timeout asked.kind g e),
    )

pub abilities_asked : (k : Settings) (steps : List Step) (s : Step) → AbilitiesAreAsAsked k (run k steps) s (run k (s ∷ steps))
abilities_asked k steps s = (
  abilities_come k s (run k steps),
  λ c f seconds. (comes k s (run k steps) (run_history k steps) c f seconds, stays k s (run k steps) (run_history k steps) c f seconds),
)
