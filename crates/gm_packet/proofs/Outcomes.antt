-- The outcomes of reading a request, each exactly where it comes.
use Rattle.std.proofs.Common.{◌≡◌, ℕ, List, Option, Some, None, Result, Ok, Err, refl, sym, ap, ◌∙◌}
use Rattle.std.specs.Prelude.{◌↔◌, IfOk, IsErrOf}
use Rattle.std.specs.Option.{ok_or}
use Rattle.gm_packet.specs.declared.kind.Kind.{Kind}
use Rattle.gm_packet.specs.declared.request.Request.{Request}
use Rattle.gm_packet.specs.declared.request.RequestFault.{RequestFault}
use Rattle.gm_packet.specs.declared.request.RequestFault.TheVariants.{UnknownCommand, BadArguments}
use Rattle.gm_packet.specs.Kinds.{kind_of}
use Rattle.gm_packet.specs.Requests.{Asked, Asks, IsKnown, IsSpelled, read_as, read_kind, request_of}
use Rattle.gm_packet.specs.Views.{asked_of, asked_result}
use Rattle.gm_packet.proofs.Requests.{number_of_found, kind_of_number, asks, found}

-- what is found is asked
pub found_asks : (kind : ℕ) (bytes : List ℕ) (r : Result Request RequestFault) → asked_result r ≡ request_of kind bytes → IfOk r (λ request. Asks kind bytes (asked_of request))
found_asks kind bytes (Ok request) e = asks kind bytes (asked_of request) (sym e)
found_asks kind bytes (Err fault) e = tt

-- a refusal is answered as it is
refused_is : (r : Result Request RequestFault) (fault : RequestFault) → asked_result r ≡ Err fault → r ≡ Err fault
refused_is (Ok request) fault e = absurd cc
refused_is (Err other) fault e = cc

-- a known kind is never unknown
known_is : (o : Option Asked) → ok_or o BadArguments ≡ Err UnknownCommand → ⊥
known_is None e = cc
known_is (Some asked) e = cc

none_known : (kind : ℕ) (bytes : List ℕ) (o : Option Kind) → kind_of kind ≡ o → (IsKnown kind → ⊥) → read_kind o bytes ≡ Err UnknownCommand
none_known kind bytes None is none = refl
none_known kind bytes (Some k) is none = absurd (none (k, number_of_found kind k is))

pub unknown_exactly : (kind : ℕ) (bytes : List ℕ) (r : Result Request RequestFault) → asked_result r ≡ request_of kind bytes → IsErrOf r UnknownCommand ↔ (IsKnown kind → ⊥)
unknown_exactly kind bytes r e = (
  (λ was known. known_is (read_as known.0 bytes)
      (ap (λ o. read_kind o bytes) (sym (kind_of_number known.0)) ∙ ap (λ k. request_of k bytes) known.1 ∙ sym e ∙ ap asked_result was)),
  (λ none. refused_is r UnknownCommand (e ∙ none_known kind bytes (kind_of kind) refl none)),
)

bad_known : (kind : ℕ) (bytes : List ℕ) (o : Option Kind) → kind_of kind ≡ o → read_kind o bytes ≡ Err BadArguments → IsKnown kind
bad_known kind bytes None is e = absurd cc
bad_known kind bytes (Some k) is e = (k, number_of_found kind k is)

none_spelled : (bytes : List ℕ) (o : Option Asked) → ((asked : Asked) → o ≡ Some asked → ⊥) → ok_or o BadArguments ≡ Err BadArguments
none_spelled bytes None none = refl
none_spelled bytes (Some asked) none = absurd (none asked refl)

pub bad_exactly : (kind : ℕ) (bytes : List ℕ) (r : Result Request RequestFault) → asked_result r ≡ request_of kind bytes → IsErrOf r BadArguments ↔ (IsKnown kind × (IsSpelled kind bytes → ⊥))
bad_exactly kind bytes r e = (
  (λ was. (bad_known kind bytes (kind_of kind) refl (sym e ∙ ap asked_result was), λ spelled. let f = found kind bytes spelled.0 spelled.1 in let g = sym e ∙ ap asked_result was in let bad : ⊥ = cc in bad)),
  (λ h. refused_is r BadArguments (e ∙ known_bad kind bytes h.0 h.1)),
)
  where
    known_bad : (kind : ℕ) (bytes : List ℕ) (known : IsKnown kind) → (IsSpelled kind bytes → ⊥) → request_of kind bytes ≡ Err BadArguments
    known_bad kind bytes known none =
        ap (λ k. request_of k bytes) (sym known.1) ∙ ap (λ o. read_kind o bytes) (kind_of_number known.0)
        ∙ none_spelled bytes (read_as known.0 bytes) (λ asked is. none (asked, asks kind bytes asked (ap (λ k. request_of k bytes) (sym known.1) ∙ ap (λ o. read_kind o bytes) (kind_of_number known.0) ∙ ap (λ o. ok_or o BadArguments) is)))
