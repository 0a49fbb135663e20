-- What the three steps of an entry come to.
use Rattle.std.proofs.Common.{◌≡◌, ℕ, List, [], ◌∷◌, ◌++◌, refl, sym, ap, ◌∙◌}
use Rattle.std.specs.Prelude.{Some, None}
use Rattle.atomic_table.specs.Seated.{TableId}
use Rattle.gm_ghost.specs.declared.view.Note.{Note}
use Rattle.gm_ghost.specs.declared.view.KeeperPage.{KeeperPage}
use Rattle.gm_ghost.specs.declared.view.ListView.{ListView}
use Rattle.gm_ghost.specs.declared.view.ListView.TheVariants.{Keeper, Witness}
use Rattle.gm_ghost.specs.Lists.{Knows, AreBelow, with_held, holding, let_go, given, entered, Enters}
use Rattle.gm_ghost.specs.Owners.{KeeperState, keeper_state, kept_more, WitnessState, witness_state, sees}
use Rattle.gm_ghost.proofs.Moves.{Sat}

module _ {E : Type 0} (owner : E → ℕ) where
  pub only_view : (views : List (ListView E)) (v : ListView E) (note : Note E) → views ≡ Witness note ∷ [] → views ≡ v ∷ [] → v ≡ Witness note
  only_view views v note is same = let both : v ∷ [] ≡ Witness note ∷ [] = sym same ∙ is in cc

  pub joined_is : (page : KeeperPage E) (note : Note E) (me you joined : Sat E) → me ≡ (Keeper page, []) → you.0 ≡ Witness note → joined ≡ (holding me.0 you.0, me.1)
      → joined ≡ (Keeper (with_held (Some note) page), [])
  joined_is page note me you joined knows known is = is ∙ (λ i. (holding (knows i).0 (known i), (knows i).1))

  pub loaded_is : (es : List E) (page : KeeperPage E) (note : Note E) (joined loaded : Sat E) → joined ≡ (Keeper (with_held (Some note) page), []) → Enters owner es joined loaded
      → (loaded ≡ (Keeper (entered es (with_held (Some note) page) note), [])) × Knows owner page.log note.who note.seen × AreBelow owner page.made (es ++ page.log)
  loaded_is es page note joined loaded is enters =
      let told = enters (with_held (Some note) page) note (ap (λ (m : Sat E). m.0) is) refl in
      (told.0 ∙ ap (λ (m : Sat E). (Keeper (entered es (with_held (Some note) page) note), m.1)) is, told.1, told.2)

  pub record Walked (es : List E) (page : KeeperPage E) (note : Note E) (after out : Sat E) : Type 0 where
    pub knows : Knows owner page.log note.who note.seen
    pub keeper : after ≡ (Keeper record { log = es ++ page.log; made = page.made; held = None }, [])
    pub witness : out ≡ (Witness record { who = note.who; seen = es ++ page.log }, [])

  pub walked : (es : List E) (page : KeeperPage E) (note : Note E) (me you joined loaded after out : Sat E) → me ≡ (Keeper page, []) → you.0 ≡ Witness note → joined ≡ (holding me.0 you.0, me.1)
      → Enters owner es joined loaded → after ≡ (let_go loaded.0, loaded.1) → out ≡ (given loaded.0, []) → Walked es page note after out
  walked es page note me you joined loaded after out knows known held enters free gave =
      let j = joined_is page note me you joined knows known held in
      let l = loaded_is es page note joined loaded j enters in
      record {
        knows = l.1;
        keeper = free ∙ ap (λ (m : Sat E). (let_go m.0, m.1)) l.0;
        witness = gave ∙ ap (λ (m : Sat E). (given m.0, [])) l.0;
      }

  -- what contracts see of it
  pub keeper_sees : (es entries : List E) (page : KeeperPage E) (old new : TableId) (me after : Sat E) (was : KeeperState E) → keeper_state old me.0 ≡ was → new ≡ old → es ≡ entries
      → me ≡ (Keeper page, []) → after ≡ (Keeper record { log = es ++ page.log; made = page.made; held = None }, []) → keeper_state new after.0 ≡ kept_more entries was
  keeper_sees es entries page old new me after was saw table are knows is =
      let now : keeper_state new after.0 ≡ record { table = new; log = es ++ page.log; made = page.made } = ap (λ (m : Sat E). keeper_state new m.0) is in
      let then_ : record { table = old; log = page.log; made = page.made } ≡ was = sym (ap (λ (m : Sat E). keeper_state old m.0) knows) ∙ saw in
      now ∙ ((λ i. record { table = table i; log = are i ++ page.log; made = page.made }) ∙ ap (kept_more entries) then_)

  pub witness_sees : (es entries : List E) (page : KeeperPage E) (note : Note E) (old new table : TableId) (before views : List (ListView E)) (me out : Sat E) (was : WitnessState E) (keeper : KeeperState E)
      → witness_state old before ≡ was → keeper_state table me.0 ≡ keeper → new ≡ old → es ≡ entries → before ≡ Witness note ∷ [] → me ≡ (Keeper page, []) → views ≡ out.0 ∷ []
      → out ≡ (Witness record { who = note.who; seen = es ++ page.log }, []) → witness_state new views ≡ sees (entries ++ keeper.log) was
  witness_sees es entries page note old new table before views me out was keeper saw kept same are is knows has gave =
      let log : page.log ≡ keeper.log = sym (ap (λ (m : Sat E). (keeper_state table m.0).log) knows) ∙ ap (λ (k : KeeperState E). k.log) kept in
      let now : witness_state new views ≡ record { table = new; who = note.who; seen = es ++ page.log } =
      ap (witness_state new) (has ∙ ap (λ (m : Sat E). m.0 ∷ []) gave) in
      let then_ : record { table = old; who = note.who; seen = note.seen } ≡ was = sym (ap (witness_state old) is) ∙ saw in
      now ∙ ((λ i. record { table = same i; who = note.who; seen = are i ++ log i }) ∙ ap (sees (entries ++ keeper.log)) then_)
