-- An event withdraws a NOOP exactly where its slot needs none any more.
use Rattle.std.proofs.Common.{◌≡◌, ◌⊎◌, inl, inr, ℕ, Bool, true, false, not, ◌&&◌, List, Result, Ok, Err, refl, sym, subst}
use Rattle.std.proofs.lemmas.Bool.{and_parts}
use Rattle.gm_packet.specs.declared.kind.Kind.{Kind}
use Rattle.gm_packet.specs.declared.kind.Kind.TheVariants.{GrabJob, GrabJobUniq}
use Rattle.gm_packet.specs.declared.request.RequestFault.{RequestFault}
use Rattle.gm_packet.specs.Requests.{Asked, request_of}
use Rattle.gm_notes.specs.Past.{Past}
use Rattle.gm_notes.specs.Steps.{Step, Open, Packet, Line, Fault, Close, Tick, Took, Withdrew, Drain}
use Rattle.gm_notes.specs.Servers.{is_closing}
use Rattle.gm_notes.specs.Withdrawals.{withdraws_noop, asks_a_job, is_grab}
use Rattle.gm_laws.specs.Withdrawing.{NeedsNoNoop, WithdrawnForAReason}

abbrev Grabs : ℕ → List ℕ → Type 0
Grabs number bytes = (asked : Asked) × (request_of number bytes ≡ Ok asked) × ((asked.kind ≡ GrabJob) ⊎ (asked.kind ≡ GrabJobUniq))

grabbing : (kind : Kind) → is_grab kind ≡ true → (kind ≡ GrabJob) ⊎ (kind ≡ GrabJobUniq)
grabbing GrabJob e = inl refl
grabbing GrabJobUniq e = inr refl
grabbing other e = absurd cc

grabs_so : (number : ℕ) (bytes : List ℕ) (r : Result Asked RequestFault) → request_of number bytes ≡ r → asks_a_job r ≡ true → Grabs number bytes
grabs_so number bytes (Ok asked) is e = (asked, is, grabbing asked.kind e)
grabs_so number bytes (Err fault) is e = absurd cc

asks_so : (kind : Kind) → (kind ≡ GrabJob) ⊎ (kind ≡ GrabJobUniq) → is_grab kind ≡ true
asks_so kind (inl e) = rw e refl
asks_so kind (inr e) = rw e refl

both : (t u : Bool) → t ≡ true → u ≡ false → (t && not u) ≡ true
both t u e d = rw (e, d) refl

turned : (t : Bool) → not t ≡ true → t ≡ false
turned true e = absurd cc
turned false e = refl

withdraws : (s : Step) (past : Past) → withdraws_noop s past ≡ true → NeedsNoNoop s past
withdraws (Packet c number bytes) past e =
    let p = and_parts (asks_a_job (request_of number bytes)) (not (is_closing c past)) e in
    (grabs_so number bytes (request_of number bytes) refl p.0, turned (is_closing c past) p.1)
withdraws (Close c) past e = tt
withdraws (Open addr) past e = absurd cc
withdraws (Line c bytes) past e = absurd cc
withdraws (Fault c fault) past e = absurd cc
withdraws (Tick now) past e = absurd cc
withdraws (Took c) past e = absurd cc
withdraws (Withdrew c) past e = absurd cc
withdraws (Drain c) past e = absurd cc

needed : (s : Step) (past : Past) → NeedsNoNoop s past → withdraws_noop s past ≡ true
needed (Packet c number bytes) past e =
    both (asks_a_job (request_of number bytes)) (is_closing c past) (subst (λ r. asks_a_job r ≡ true) (sym e.0.1) (asks_so e.0.0.kind e.0.2)) e.1
needed (Close c) past e = refl
needed other past e = absurd e

pub for_a_reason : WithdrawnForAReason
for_a_reason s past = (withdraws s past, needed s past)
