-- The laws of units, spellings and faults.
use Rattle.std.proofs.Common.{◌≡◌, ◌<◌, ℕ, arith, List, Option, None, Some, IfSome, [], ◌∷◌, ◌++◌, length, take, drop, refl, sym, ap, ap₂, subst, ◌∙◌, ◌⊎◌, inl}
use Rattle.std.proofs.Common.{inr, take-append-drop, ⊎_elim, append_assoc, append-nil, length-append, zero-le, lit≤}
use Rattle.std.proofs.lemmas.Bool.{cases_eq, cases_Bool, false≢true}
use Rattle.std.proofs.lemmas.Slice.Eq.{bytes_eq-Decides}
use Rattle.std.specs.Str.{bytes_eq}
use Rattle.std.proofs.lemmas.List.{append_cancel_left}
use Rattle.gm_feeder.specs.declared.units.Limits.{Limits}
use Rattle.gm_feeder.specs.declared.units.FeedFault.{FeedFault}
use Rattle.gm_feeder.specs.declared.units.FeedFault.TheVariants.{BadMagic, PacketTooLarge, LineTooLong, Memory}
use Rattle.gm_packet.specs.Packets.{request_magic}
use Rattle.gm_packet.proofs.Packets.{same_prefixes}
use Rattle.gm_feeder.specs.Units.{Item, APacket, ALine, IsUnit, IsUnitThen, BeginsNoUnit, Spells, CanGoOn, IsHopeless, IsHopelessPacket}
use Rattle.gm_feeder.specs.Units.{IsHopelessLine, AgreesWithMagic, IsFaultOf, Waits, without_return}
use Rattle.gm_feeder.specs.declared.units.OwnedPacket.{OwnedPacket}
use Rattle.gm_feeder.specs.Heads.{data_of}
use Rattle.gm_feeder.specs.Streams.{Stream, Event, Fed, Gave, item_in, with_bytes, without_first, GivesUnit, Runs, all_fed, all_given}
use Rattle.gm_feeder.proofs.UnitLemmas.{header, packet_is, same_kind, same_size, nul_longer, nul_first, packet_nul}
use Rattle.gm_feeder.proofs.LineLemmas.{same_before, line_is, line_not_nul}
use Rattle.gm_feeder.proofs.HeadLemmas.{empty_goes_on, take_nil}

-- no bytes begin with a packet and with a line
not_both : (limits : Limits) (whole other x y : List ℕ) (kind : ℕ) (text said : List ℕ) → IsUnit limits whole (APacket kind text) → IsUnit limits other (ALine said)
    → whole ++ x ≡ other ++ y → ⊥
not_both limits whole other x y kind text said u v joined =
    line_not_nul limits (whole ++ x) said y (record { whole = other; unit = v; joined = joined })
    (packet_nul limits (whole ++ x) kind text x (record { whole = whole; unit = u; joined = refl }))

-- two units that begin the same bytes are one
pub one_unit : (limits : Limits) (whole other x y : List ℕ) (item another : Item) → IsUnit limits whole item → IsUnit limits other another
    → whole ++ x ≡ other ++ y → (whole ≡ other) × (item ≡ another)
one_unit limits whole other x y (APacket j text) (APacket k words) u v joined =
    let m = length text in
    let n = length words in
    let left : whole ≡ header j m ++ text = u.spelled ∙ packet_is j text in
    let right : other ≡ header k n ++ words = v.spelled ∙ packet_is k words in
    let all : header j m ++ (text ++ x) ≡ header k n ++ (words ++ y) =
    sym (append_assoc (header j m) text x)
    ∙ (ap (λ (l : List ℕ). l ++ x) (sym left) ∙ (joined ∙ (ap (λ (l : List ℕ). l ++ y) right ∙ append_assoc (header k n) words y)))
    in
    let headers : header j m ≡ header k n = ap (take 12) all in
    let kinds : j ≡ k = same_kind j k m n u.kind_fits v.kind_fits headers in
    let sizes : m ≡ n = same_size j k m n u.size_fits v.size_fits headers in
    let texts : text ≡ words = (same_prefixes text words x y sizes (ap (drop 12) all)).0 in
    (left ∙ (ap₂ (λ (h t : List ℕ). h ++ t) headers texts ∙ sym right), ap₂ APacket kinds texts)
one_unit limits whole other x y (APacket kind text) (ALine said) u v joined = absurd (not_both limits whole other x y kind text said u v joined)
one_unit limits whole other x y (ALine said) (APacket kind text) u v joined = absurd (not_both limits other whole y x kind text said v u (sym joined))
one_unit limits whole other x y (ALine said) (ALine words) u v joined =
    let left = line_is limits (whole ++ x) said x (record { whole = whole; unit = u; joined = refl }) in
    let right = line_is limits (other ++ y) words y (record { whole = other; unit = v; joined = refl }) in
    let same : u.before ≡ v.before = same_before u.before v.before x y u.one_line v.one_line (sym left ∙ (joined ∙ right)) in
    (u.spelled ∙ (ap (λ (l : List ℕ). l ++ 10 ∷ []) same ∙ sym v.spelled), ap ALine (u.said ∙ (ap without_return same ∙ sym v.said)))

pub unit_not_empty : (limits : Limits) (whole : List ℕ) (item : Item) → IsUnit limits whole item → 0 < length whole
unit_not_empty limits whole (APacket kind text) u =
    let long = ap length (u.spelled ∙ packet_is kind text) in
    omega (arith, long, length-append (header kind (length text)) text)
unit_not_empty limits whole (ALine said) u = omega (arith, ap length u.spelled, length-append u.before (10 ∷ []))

-- and what comes after them is one
pub one_after : (limits : Limits) (bytes : List ℕ) (item another : Item) (after other : List ℕ) → IsUnitThen limits bytes item after
    → IsUnitThen limits bytes another other → (item ≡ another) × (after ≡ other)
one_after limits bytes item another after other u v =
    let same = one_unit limits u.whole v.whole after other item another u.unit v.unit (sym u.joined ∙ v.joined) in (
      same.1,
      append_cancel_left u.whole after other (sym u.joined ∙ (v.joined ∙ ap (λ (l : List ℕ). l ++ other) (sym same.0))),
    )

pub one_spelling : (limits : Limits) (stream : List ℕ) (items others : List Item) (rest other : List ℕ)
    → Spells limits stream items rest → Spells limits stream others other → (items ≡ others) × (rest ≡ other)
one_spelling limits stream [] [] rest other s t = (refl, sym s.0 ∙ t.0)
one_spelling limits stream [] (item ∷ items) rest other s t =
    absurd (s.1 item t.0 (subst (λ (l : List ℕ). IsUnitThen limits l item t.0) s.0 t.1))
one_spelling limits stream (item ∷ items) [] rest other s t =
    absurd (t.1 item s.0 (subst (λ (l : List ℕ). IsUnitThen limits l item s.0) t.0 s.1))
one_spelling limits stream (item ∷ items) (another ∷ others) rest other s t =
    let same = one_after limits stream item another s.0 t.0 s.1 t.1 in
    let more = one_spelling limits s.0 items others rest other s.2 (subst (λ (l : List ℕ). Spells limits l others other) (sym same.1) t.2) in
    (ap₂ (λ (i : Item) (l : List Item). i ∷ l) same.0 more.0, more.1)

-- a unit stays at the head when more comes
pub unit_stays : (limits : Limits) (bytes more : List ℕ) (item : Item) (after : List ℕ) → IsUnitThen limits bytes item after
    → IsUnitThen limits (bytes ++ more) item (after ++ more)
unit_stays limits bytes more item after u =
    record { whole = u.whole; unit = u.unit; joined = ap (λ (l : List ℕ). l ++ more) u.joined ∙ append_assoc u.whole after more }

pub any_cut : (limits : Limits) (first second : List ℕ) (items more : List Item) (rest end : List ℕ) → Spells limits first items rest
    → Spells limits (rest ++ second) more end → Spells limits (first ++ second) (items ++ more) end
any_cut limits first second [] more rest end s t =
    subst (λ (l : List ℕ). Spells limits (l ++ second) more end) (sym s.0) t
any_cut limits first second (item ∷ items) more rest end s t =
    (s.0 ++ second, unit_stays limits first second item s.0 s.1, any_cut limits s.0 second items more rest end s.2 t)

-- ---- faults

pub one_fault : (limits : Limits) (rest : List ℕ) (fault other : FeedFault) → IsFaultOf limits rest fault → IsFaultOf limits rest other → fault ≡ other
one_fault limits rest BadMagic BadMagic f g = refl
one_fault limits rest BadMagic PacketTooLarge f g = absurd (f.1 g.1)
one_fault limits rest BadMagic LineTooLong f g = absurd (g.no_nul f.0.nul)
one_fault limits rest BadMagic Memory f g = absurd g
one_fault limits rest PacketTooLarge BadMagic f g = absurd (g.1 f.1)
one_fault limits rest PacketTooLarge PacketTooLarge f g = refl
one_fault limits rest PacketTooLarge LineTooLong f g = absurd (g.no_nul f.0.nul)
one_fault limits rest PacketTooLarge Memory f g = absurd g
one_fault limits rest LineTooLong BadMagic f g = absurd (f.no_nul g.0.nul)
one_fault limits rest LineTooLong PacketTooLarge f g = absurd (f.no_nul g.0.nul)
one_fault limits rest LineTooLong LineTooLong f g = refl
one_fault limits rest LineTooLong Memory f g = absurd g
one_fault limits rest Memory other f g = absurd f

pub fault-hopeless : (limits : Limits) (rest : List ℕ) (fault : FeedFault) → IsFaultOf limits rest fault → IsHopeless limits rest
fault-hopeless limits rest BadMagic f = f.0.hopeless
fault-hopeless limits rest PacketTooLarge f = f.0.hopeless
fault-hopeless limits rest LineTooLong f = f.hopeless
fault-hopeless limits rest Memory f = absurd f

hopeless-begins_no_unit : (limits : Limits) (rest : List ℕ) → IsHopeless limits rest → BeginsNoUnit limits rest
hopeless-begins_no_unit limits rest h = subst (BeginsNoUnit limits) (append-nil rest) (h [])

pub fault-begins_no_unit : (limits : Limits) (rest : List ℕ) (fault : FeedFault) → IsFaultOf limits rest fault → BeginsNoUnit limits rest
fault-begins_no_unit limits rest fault f = hopeless-begins_no_unit limits rest (fault-hopeless limits rest fault f)

hopeless-ends : (limits : Limits) (rest : List ℕ) → IsHopeless limits rest → CanGoOn limits rest → ⊥
hopeless-ends limits rest h on = h on.0 on.1 on.2 on.3

pub waits-no_fault : (limits : Limits) (rest : List ℕ) (fault : FeedFault) → Waits limits rest → IsFaultOf limits rest fault → ⊥
waits-no_fault limits rest fault w f = hopeless-ends limits rest (fault-hopeless limits rest fault f) w.goes_on

pub waits-goes_on : (limits : Limits) (rest : List ℕ) → Waits limits rest → CanGoOn limits rest
waits-goes_on limits rest w = w.goes_on

-- which fault stands at a hopeless rest is told by its first four bytes
pub hopeless-fault : (limits : Limits) (rest : List ℕ) → IsHopeless limits rest → (fault : FeedFault) × IsFaultOf limits rest fault
hopeless-fault limits [] h = absurd (hopeless-ends limits [] h (empty_goes_on limits [] zero-le refl))
hopeless-fault limits (b ∷ bytes) h = ⊎_elim begun other (cases_eq b 0)
  where
    rest : List ℕ
    rest = b ∷ bytes

    decided : AgreesWithMagic rest ⊎ (AgreesWithMagic rest → ⊥)
    decided =
        let told = bytes_eq-Decides (take 4 rest) (take (length rest) request_magic) in
        ⊎_elim (λ yes. inl (told.0 yes)) (λ no. inr (λ agrees. false≢true (sym no ∙ told.1 agrees))) (cases_Bool (bytes_eq (take 4 rest) (take (length rest) request_magic)))

    begun : b ≡ 0 → (fault : FeedFault) × IsFaultOf limits rest fault
    begun zero =
        let here : IsHopelessPacket limits rest = record { nul = (bytes, ap (λ (c : ℕ). c ∷ bytes) zero); hopeless = h } in
        ⊎_elim (λ agrees. (PacketTooLarge, (here, agrees))) (λ differs. (BadMagic, (here, differs))) decided

    other : (b ≡ 0 → ⊥) → (fault : FeedFault) × IsFaultOf limits rest fault
    other some = (LineTooLong, record { no_nul = λ nul. some (let joined = nul.1 in cc); hopeless = h })

hopeless-stays : (limits : Limits) (rest more : List ℕ) → IsHopeless limits rest → IsHopeless limits (rest ++ more)
hopeless-stays limits rest more h extra item after u =
    h (more ++ extra) item after (subst (λ (l : List ℕ). IsUnitThen limits l item after) (append_assoc rest more extra) u)

packet-stays : (limits : Limits) (rest more : List ℕ) → IsHopelessPacket limits rest → IsHopelessPacket limits (rest ++ more)
packet-stays limits rest more p =
    record { nul = nul_longer rest more p.nul; hopeless = hopeless-stays limits rest more p.hopeless }

-- anything begins a rest of no bytes
line-stays : (limits : Limits) (rest more : List ℕ) → IsHopelessLine limits rest → IsHopelessLine limits (rest ++ more)
line-stays limits [] more p = absurd (hopeless-ends limits [] p.hopeless (empty_goes_on limits [] zero-le refl))
line-stays limits (b ∷ bytes) more p =
    record { no_nul = λ nul. p.no_nul (nul_first (b ∷ bytes) more (omega arith) nul); hopeless = hopeless-stays limits (b ∷ bytes) more p.hopeless }

-- what is wrong with the magic stays wrong
agrees-shorter : (rest more : List ℕ) → AgreesWithMagic (rest ++ more) → AgreesWithMagic rest
agrees-shorter [] more h = refl
agrees-shorter (a ∷ []) more h = cc
agrees-shorter (a ∷ b ∷ []) more h = cc
agrees-shorter (a ∷ b ∷ c ∷ []) more h = cc
agrees-shorter (a ∷ b ∷ c ∷ d ∷ rest) more h =
    let none = take_nil (length rest) in
    let none_more = take_nil (length (rest ++ more)) in cc

-- the magic alone begins a packet, so a packet that is too large shows more than the magic
agrees-longer : (limits : Limits) (rest more : List ℕ) → IsHopeless limits rest → AgreesWithMagic rest → AgreesWithMagic (rest ++ more)
agrees-longer limits [] more h agrees = absurd (hopeless-ends limits [] h (empty_goes_on limits [] zero-le refl))
agrees-longer limits (a ∷ []) more h agrees = absurd (hopeless-ends limits (a ∷ []) h (empty_goes_on limits (a ∷ []) (lit≤ tt) cc))
agrees-longer limits (a ∷ b ∷ []) more h agrees = absurd (hopeless-ends limits (a ∷ b ∷ []) h (empty_goes_on limits (a ∷ b ∷ []) (lit≤ tt) cc))
agrees-longer limits (a ∷ b ∷ c ∷ []) more h agrees = absurd (hopeless-ends limits (a ∷ b ∷ c ∷ []) h (empty_goes_on limits (a ∷ b ∷ c ∷ []) (lit≤ tt) cc))
agrees-longer limits (a ∷ b ∷ c ∷ d ∷ rest) more h agrees =
    let none = take_nil (length rest) in
    let none_more = take_nil (length (rest ++ more)) in cc

pub fault_stays : (limits : Limits) (rest more : List ℕ) (fault : FeedFault) → IsFaultOf limits rest fault → IsFaultOf limits (rest ++ more) fault
fault_stays limits rest more BadMagic f = (packet-stays limits rest more f.0, λ agrees. f.1 (agrees-shorter rest more agrees))
fault_stays limits rest more PacketTooLarge f = (packet-stays limits rest more f.0, agrees-longer limits rest more f.0.hopeless f.1)
fault_stays limits rest more LineTooLong f = line-stays limits rest more f
fault_stays limits rest more Memory f = f

-- ---- whole runs

pub runs_spell : (old new : Stream) (events : List Event) → Runs old events new → BeginsNoUnit new.limits new.pending
    → Spells old.limits (old.pending ++ all_fed events) (all_given events) new.pending
runs_spell old new [] run none = (
  append-nil old.pending ∙ ap (λ (s : Stream). s.pending) (sym run),
  subst (λ (s : Stream). BeginsNoUnit s.limits new.pending) run none,
)
runs_spell old new (Fed piece ∷ events) run none =
    subst (λ (l : List ℕ). Spells old.limits l (all_given events) new.pending) (append_assoc old.pending piece (all_fed events)) (runs_spell (with_bytes old piece) new events run none)
runs_spell old new (Gave item ∷ events) run none =
    let mid = run.0 in
    let gives = run.1 in
    let after : List ℕ = mid.pending ++ all_fed events in
    let limits_kept : mid.limits ≡ old.limits = ap (λ (s : Stream). s.limits) gives.kept in (
      after,
      unit_stays old.limits old.pending (all_fed events) item mid.pending gives.unit,
      subst (λ (l : Limits). Spells l after (all_given events) new.pending) limits_kept (runs_spell mid new events run.2 none),
    )

pub runs_spell-only : (old new : Stream) (events : List Event) (items : List Item) (rest : List ℕ) → Runs old events new → BeginsNoUnit new.limits new.pending
    → Spells old.limits (old.pending ++ all_fed events) items rest → (all_given events ≡ items) × (new.pending ≡ rest)
runs_spell-only old new events items rest run none other =
    one_spelling old.limits (old.pending ++ all_fed events) (all_given events) items new.pending rest (runs_spell old new events run none) other

-- ---- giving

-- so many bytes, which are a unit, are let go of
pub gives_first : (old mid new : Stream) (item : Item) (len : ℕ) → old.fault ≡ None → mid ≡ old → new ≡ without_first len mid
    → IsUnit old.limits (take len old.pending) item → GivesUnit old item new
gives_first old mid new item len running same is unit =
    let left : new ≡ without_first len old = is ∙ ap (without_first len) same in
    let pending : new.pending ≡ drop len old.pending = ap (λ (s : Stream). s.pending) left in
    record {
      running = running;
      unit = record {
        whole = take len old.pending;
        unit = unit;
        joined = sym (ap (λ (l : List ℕ). take len old.pending ++ l) pending ∙ take-append-drop len old.pending);
      };
      kept = left ∙ ap (λ (l : List ℕ). record old { pending = l }) (sym pending);
    }

-- a packet that was given out with its memory was the first unit
pub gives_packet : (old mid new : Stream) (kind len : ℕ) (found : Option OwnedPacket) → old.fault ≡ None → mid ≡ old
    → IsUnit old.limits (take len old.pending) (APacket kind (data_of (take len old.pending)))
    → IfSome found (λ packet. item_in packet ≡ APacket kind (data_of (take len mid.pending)))
    → IfSome found (λ packet. new ≡ without_first len mid) → IfSome found (λ packet. GivesUnit old (item_in packet) new)
gives_packet old mid new kind len None running same unit says left = tt
gives_packet old mid new kind len (Some packet) running same unit says left =
    let item : item_in packet ≡ APacket kind (data_of (take len old.pending)) = says ∙ ap (λ (s : Stream). APacket kind (data_of (take len s.pending))) same in
    gives_first old mid new (item_in packet) len running same left (subst (IsUnit old.limits (take len old.pending)) (sym item) unit)
