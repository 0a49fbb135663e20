-- Facts about outcomes that follow from others.
use Rattle.std.proofs.Common.{◌≡◌, Option, Some, None, refl}
use Rattle.std.specs.Prelude.{Result, Ok, Err, OnOk, IfSome}

pub on_ok : {T E : Type 0} (result : Result T E) (P Q : Type 0) → (P → Q) → OnOk result P → OnOk result Q
on_ok (Ok value) P Q f h = f h
on_ok (Err e) P Q f h = tt

pub if_some : {T : Type 0} (found : Option T) (P Q : T → Type 0) → ((value : T) → P value → Q value) → IfSome found P → IfSome found Q
if_some None P Q f h = tt
if_some (Some value) P Q f h = f value h

-- nothing is there
pub not_some : {A : Type 0} (found : Option A) → ((value : A) → found ≡ Some value → ⊥) → found ≡ None
not_some None h = refl
not_some (Some value) h = absurd (h value refl)
