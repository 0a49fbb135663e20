-- Inputs that are handed in.
use Rattle.std.proofs.Common.{◌≡◌, ℕ, zero, suc, Bool, false, List, [], ◌++◌, length, get_or, replicate, Option, Some, refl, sym, ap, subst, ◌∙◌, append_assoc, append-nil}
use Rattle.std.proofs.lemmas.List.{length-replicate}
use Rattle.gm_feeder.specs.declared.units.Limits.{Limits}
use Rattle.gm_notes.specs.declared.event.ApplyError.{ApplyError}
use Rattle.gm_notes.specs.declared.event.ApplyError.TheVariants.{Memory, NotOpen, NoSlot, NotOwed, Refusing}
use Rattle.gm_notes.specs.declared.event.Done.{Done}
use Rattle.gm_notes.specs.Settings.{Settings}
use Rattle.gm_notes.specs.Past.{Past}
use Rattle.gm_notes.specs.Steps.{Step}
use Rattle.gm_notes.specs.Steps.{run}
use Rattle.gm_notes.specs.Servers.{IsRefusal}
use Rattle.gm_front.specs.declared.front.Front.{Front}
use Rattle.gm_front.specs.declared.input.Stepped.{Stepped}
use Rattle.gm_front.specs.Inputs.{Input, Opens, Gives, Cuts, Closes, Ticks, Takes, Withdraws, Drains, Reading, nothing_read, refusal_of, opened_by}
use Rattle.gm_front.specs.Fronts.{IsHeld, Agrees, IsTaken, IsRefused, Refuses}
use Rattle.gm_play.specs.Scripts.{Skip, Hands}
use Rattle.gm_play.specs.Prints.{refused_text, said_of, told, drained, Handing}
use Rattle.gm_play.specs.Players.{IsHeldSince, IsReady, TellsAll, Plays}

joined : (out said more out' out'' : List ℕ) → out' ≡ out ++ said → out'' ≡ out' ++ more → out'' ≡ out ++ (said ++ more)
joined out said more out' out'' a b = b ∙ (ap (λ (l : List ℕ). l ++ more) a ∙ append_assoc out said more)

-- an input that is taken: the slot that was given is printed, and then each slot is told of
pub hands : {S : Type 0} (agrees : S → Settings → List Step → Type 0) (k : Settings) (limits : Limits) (reading : Reading) (input : Input) (out out' out'' : List ℕ) (stepped : Stepped) (front mid front' : Front S) (slots slots' : List Bool)
    → IsReady agrees k limits reading front slots → IsTaken agrees k limits input reading stepped mid → out' ≡ out ++ said_of stepped.done.opened
    → ((before : Past) (r : Reading) → IsHeldSince agrees k limits before r mid slots → TellsAll agrees k limits before r out' front' slots' out'')
    → Plays agrees k limits reading (Hands input) out front' slots' out''
hands agrees k limits reading input out out' out'' stepped front mid front' slots slots' h t said tells =
    let before : Past = run k reading.steps in
    let all = tells before t.new (record { held = t.held; count = h.count; told_so = h.told_so }) in
    let first : List ℕ = said_of (opened_by k input reading) in
    let more : List ℕ = told k before 0 k.slots t.new.steps in
    let new : Reading = record t.new { steps = drained k 0 k.slots t.new.steps } in
    record {
      text = first ++ more;
      new = new;
      tells = subst (λ (r : Option ApplyError). Handing k limits input r reading (first ++ more) new) (sym t.stands) (t.new, t.adds, record { printed = refl; taken = refl });
      printed = joined out first more out' out'' (said ∙ ap (λ (d : Done). out ++ said_of d.opened) t.done) all.printed;
      ready = all.ready;
    }

-- a refusal that isn't for memory is the one that stands
is_so : (refused : ApplyError) (stands : Option ApplyError) → (refused ≡ Memory → ⊥) → IsRefusal refused stands → stands ≡ Some refused
is_so Memory stands never e = absurd (never refl)
is_so NotOpen stands never e = e
is_so NoSlot stands never e = e
is_so NotOwed stands never e = e
is_so Refusing stands never e = e

refused_so : (input : Input) (refused : ApplyError) (stands : Option ApplyError) → (refused ≡ Memory → ⊥) → Refuses input refused stands → stands ≡ Some refused
refused_so (Opens addr) refused stands never e = is_so refused stands never e
refused_so (Gives c piece) refused stands never e = e
refused_so (Cuts c piece units) refused stands never e = e
refused_so (Closes c) refused stands never e = e
refused_so (Ticks now) refused stands never e = is_so refused stands never e
refused_so (Takes c) refused stands never e = e
refused_so (Withdraws c) refused stands never e = e
refused_so (Drains c) refused stands never e = e

pub refuses : {S : Type 0} (agrees : S → Settings → List Step → Type 0) (k : Settings) (limits : Limits) (reading : Reading) (input : Input) (refused : ApplyError) (out out' : List ℕ) (front front' : Front S) (slots : List Bool)
    → IsReady agrees k limits reading front slots → IsRefused agrees k limits input reading refused front' → (refused ≡ Memory → ⊥) → out' ≡ out ++ refused_text refused
    → Plays agrees k limits reading (Hands input) out front' slots out'
refuses agrees k limits reading input refused out out' front front' slots h r never said =
    record {
      text = refused_text refused;
      new = reading;
      tells =
          subst (λ (q : Option ApplyError). Handing k limits input q reading (refused_text refused) reading) (sym (refused_so input refused (refusal_of k input reading) never r.stands))
          (record { printed = refl; kept = refl });
      printed = said;
      ready = record { held = r.held; count = h.count; told_so = h.told_so };
    }

-- ---- neither

pub plays_skip : {S : Type 0} (agrees : S → Settings → List Step → Type 0) (k : Settings) (limits : Limits) (reading : Reading) (out : List ℕ) (front : Front S) (slots : List Bool)
    → IsReady agrees k limits reading front slots → Plays agrees k limits reading Skip out front slots out
plays_skip agrees k limits reading out front slots h =
    record { text = []; new = reading; tells = record { printed = refl; kept = refl }; printed = sym (append-nil out); ready = h }

-- ---- the beginning

none_shut : (n c : ℕ) → get_or (replicate n false) c false ≡ false
none_shut zero c = refl
none_shut (suc n) zero = refl
none_shut (suc n) (suc c) = none_shut n c

pub ready : {S : Type 0} (agrees : S → Settings → List Step → Type 0) (k : Settings) (limits : Limits) (front : Front S) (slots : List Bool) (n : ℕ) → Agrees agrees k limits [] front → slots ≡ replicate n false → n ≡ k.slots
    → IsReady agrees k limits nothing_read front slots
ready agrees k limits front slots n a all count =
    record {
      held = subst (λ (r : Reading). IsHeld agrees k limits r front) a.reads a.held;
      count = ap length all ∙ (length-replicate n false ∙ count);
      told_so = λ c near. ap (λ (l : List Bool). get_or l c false) all ∙ none_shut n c;
    }
