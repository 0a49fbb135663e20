-- The pick of one priority.
use Rattle.std.proofs.Common.{◌≡◌, ℕ, suc, ◌+◌, ◌<◌, List, [], ◌∷◌, ◌++◌, length, map, drop, take, Option, Some, refl, sym, ap, ◌∙◌}
use Rattle.std.specs.Prelude.{slice_get}
use Rattle.std.specs.Option.{option_or}
use Rattle.std.proofs.Math.Numerals.{add-one}
use Rattle.std.proofs.Math.Seq.{take-length}
use Rattle.std.proofs.lemmas.List.{map-append}
use Rattle.gm_notes.specs.declared.note.Note.{Note}
use Rattle.gm_notes.specs.declared.states.Pick.{Pick}
use Rattle.gm_notes.specs.declared.states.Priority.{Priority}
use Rattle.gm_notes.specs.Jobs.{Ability, first_of, queue, pick_with}
use Rattle.gm_notes.specs.Past.{Past}
use Rattle.gm_conns.specs.ConnTables.{conn}
use Rattle.gm_queues.specs.FunctionTables as queues
use Rattle.gm_core.specs.declared.server.Tables.{Tables}
use Rattle.gm_core.specs.Holds.{Keeps, name_at, ability_named, jobs_named}
use Rattle.gm_core.proofs.FunctionLemmas.{able_at, named, next_ability, pick_or, picked}
use Rattle.gm_core.proofs.TurnLemmas.{get_taken, able_taken}

-- the pick from abilities and then others
with_both : (p : Priority) (xs ys : List Ability) (notes : List Note) → pick_with p (xs ++ ys) notes ≡ option_or (pick_with p xs notes) (pick_with p ys notes)
with_both p [] ys notes = refl
with_both p (x ∷ xs) ys notes = by (queue x.function p notes) (with_both p xs ys notes)
  where
    by : (ns : List ℕ) → pick_with p (xs ++ ys) notes ≡ option_or (pick_with p xs notes) (pick_with p ys notes)
        → first_of ns x.timeout (pick_with p (xs ++ ys) notes) ≡ option_or (first_of ns x.timeout (pick_with p xs notes)) (pick_with p ys notes)
    by [] e = e
    by (n ∷ ns) e = refl

-- the pick of a priority from these abilities
abbrev pub with_of : Tables → Past → Priority → List (ℕ × ℕ) → Option Pick
with_of core past p abilities = pick_with p (map (ability_named core.functions.names) abilities) past.notes

module _ (core : Tables) (past : Past) (c : ℕ) (p : Priority) where
  abbrev all : List (ℕ × ℕ)
  all = (conn core.conns c).abilities

  -- what it goes on with after this ability
  pub with_at : (to i f t : ℕ) (o : Option ℕ) → i < to → Keeps core past → Some (f, t) ≡ slice_get all i → o ≡ slice_get (queues.queue core.functions f p).jobs 0
      → with_of core past p (drop i (take to all)) ≡ pick_or o t (with_of core past p (drop (i + 1) (take to all)))
  with_at to i f t o less keeps at first =
      let there : slice_get (take to all) i ≡ Some (f, t) = get_taken all to i less ∙ sym at in
      let within = able_at core.functions.names i f t (take to all) (able_taken core.functions.names to all (keeps.conns.able c).0) there in
      let jobs : queue (name_at core.functions.names f) p past.notes ≡ (queues.queue core.functions f p).jobs =
      sym (keeps.jobs.queues (name_at core.functions.names f) p) ∙ ap (λ (g : Option ℕ). jobs_named g p core.functions) (named keeps.functions f within) in
      let rest = with_of core past p (drop (suc i) (take to all)) in
      ap (with_of core past p) (next_ability (take to all) i (f, t) there)
      ∙ (ap (λ (l : List ℕ). first_of l t rest) jobs
      ∙ (picked (queues.queue core.functions f p).jobs t rest o first
      ∙ ap (λ (n : ℕ). pick_or o t (with_of core past p (drop n (take to all)))) (sym (add-one i))))

  -- the pick from those that are tried first, and where there is none, from those that are tried last
  pub with_parts : (len last : ℕ) (first rest : Option Pick) → len ≡ length all
      → first ≡ with_of core past p (drop last (take len all)) → rest ≡ with_of core past p (take last all) → option_or first rest ≡ with_of core past p (drop last all ++ take last all)
  with_parts len last first rest whole one two =
      let before : first ≡ with_of core past p (drop last all) = one ∙ ap (λ (l : List (ℕ × ℕ)). with_of core past p (drop last l)) (ap (λ n. take n all) whole ∙ take-length all) in
      ap (λ (o : Option Pick). option_or o rest) before
      ∙ (ap (option_or (with_of core past p (drop last all))) two
      ∙ (sym (with_both p (map (ability_named core.functions.names) (drop last all)) (map (ability_named core.functions.names) (take last all)) past.notes)
      ∙ ap (λ (l : List Ability). pick_with p l past.notes) (sym (map-append (ability_named core.functions.names) (drop last all) (take last all)))))
