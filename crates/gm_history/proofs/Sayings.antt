-- What isn't NO_JOB, tells of no job's end, and hands out no job.
use Rattle.std.proofs.Common.{◌≡◌, ◌≢◌, ◌⊎◌, inl, inr, ◌∙◌, ℕ, zero, suc, ◌+◌, ◌/◌, ◌%◌, Bool, true, false, cond, ◌||◌, List, [], ◌∷◌, ◌++◌}
use Rattle.std.proofs.Common.{get_or, refl, sym, ap, subst, arith}
use Rattle.std.specs.Prelude.{◌==◌, nat_le, nat_lt, codes, decimal}
use Rattle.std.specs.List.{flat_map, join_with_byte}
use Rattle.std.proofs.lemmas.Bool.Decides.{nat_tests}
use Rattle.gm_packet.specs.Packets.{packet, response_magic}
use Rattle.gm_packet.specs.Answers.{Answer, answer_packet, no_job, job_created, error, work_fail, work_status, work_complete}
use Rattle.gm_packet.specs.Answers.{work_data, work_warning, work_exception, status_res, echo_res, option_res}
use Rattle.gm_admin.specs.Answers.{StatusLine, WorkerLine, shown, shown_byte, shown_or_dash, worker_line, status_text}
use Rattle.gm_admin.specs.Answers.{workers_text, ok_text, version_text, error_text, dot}
use Rattle.gm_admin.specs.declared.fault.AdminError.{AdminError}
use Rattle.gm_admin.specs.declared.fault.AdminError.TheVariants.{UnknownCommand, MissingName, BadSize, BadFunction}
use Rattle.gm_admin.specs.declared.fault.AdminError.TheVariants.{TooManyFunctions, LineTooLong}
use Rattle.gm_notes.specs.declared.event.UnitFault.{UnitFault}
use Rattle.gm_notes.specs.declared.event.UnitFault.TheVariants as faults
use Rattle.gm_notes.specs.Settings.{Settings}
use Rattle.gm_notes.specs.Texts.{fault_text, spaced}
use Rattle.gm_notes.specs.Jobs.{Job}
use Rattle.gm_notes.specs.Workers.{assignment}
use Rattle.std.specs.Fmt.{digits, digits_onto, digit_glyph}
use Rattle.gm_history.specs.Causes.{IsOfEnd, IsAssignment}

-- no NO_JOB
abbrev pub Another : List ℕ → Type 0
Another bytes = bytes ≡ answer_packet no_job → ⊥

-- no packet that tells of an end
abbrev pub EndsNone : List ℕ → Type 0
EndsNone bytes = (k : Settings) (answer : Answer) → IsOfEnd k answer → bytes ≡ answer_packet answer → ⊥

-- no packet that hands out a job
abbrev pub GivesNone : List ℕ → Type 0
GivesNone bytes = (answer : Answer) → IsAssignment answer → bytes ≡ answer_packet answer → ⊥

-- none of these
abbrev pub Other : List ℕ → Type 0
Other bytes = Another bytes × EndsNone bytes × GivesNone bytes

apart : (m n : ℕ) → (m == n) ≡ false → m ≡ n → ⊥
apart m n other e = let same : (m == n) ≡ true = grind (arith, nat_tests) in let bad : ⊥ = cc in bad

-- ---- packets of another type

-- the byte of the type
type_byte : (answer : Answer) (m : ℕ) → answer.kind ≡ m → get_or (answer_packet answer) 7 0 ≡ get_or (packet response_magic m (join_with_byte 0 answer.arguments)) 7 0
type_byte answer m is = ap (λ (kind : ℕ). get_or (packet response_magic kind (join_with_byte 0 answer.arguments)) 7 0) is

-- the type byte is one of an end
abbrev IsEndByte : Settings → ℕ → Type 0
IsEndByte k x = (x ≡ 13) ⊎ ((x ≡ 14) ⊎ ((k.as_gearmand ≡ true) × (x ≡ 25)))

end_byte : (k : Settings) (answer : Answer) → IsOfEnd k answer → IsEndByte k (get_or (answer_packet answer) 7 0)
unfolding packet
end_byte k answer (inl is) = inl (type_byte answer 13 is)
end_byte k answer (inr (inl is)) = inr (inl (type_byte answer 14 is))
end_byte k answer (inr (inr (set, is))) = inr (inr (set, type_byte answer 25 is))

assignment_byte : (answer : Answer) → IsAssignment answer → (get_or (answer_packet answer) 7 0 ≡ 11) ⊎ (get_or (answer_packet answer) 7 0 ≡ 31)
unfolding packet
assignment_byte answer (inl is) = inl (type_byte answer 11 is)
assignment_byte answer (inr is) = inr (type_byte answer 31 is)

-- what has another type byte
untold : (m : ℕ) (bytes : List ℕ) → get_or bytes 7 0 ≡ m → (m == 10) ≡ false → (m == 13) ≡ false → (m == 14) ≡ false → (m == 25) ≡ false → Another bytes × EndsNone bytes
unfolding packet
untold m bytes is job complete fail exception = (
  (λ e. apart m 10 job (sym is ∙ ap (λ (l : List ℕ). get_or l 7 0) e)),
  λ k answer ends e. by k (end_byte k answer ends) (sym is ∙ ap (λ (l : List ℕ). get_or l 7 0) e),
)
  where
    by : (k : Settings) {x : ℕ} → IsEndByte k x → m ≡ x → ⊥
    by k (inl a) e = apart m 13 complete (e ∙ a)
    by k (inr (inl a)) e = apart m 14 fail (e ∙ a)
    by k (inr (inr (set, a))) e = apart m 25 exception (e ∙ a)

ungiven : (m : ℕ) (bytes : List ℕ) → get_or bytes 7 0 ≡ m → (m == 11) ≡ false → (m == 31) ≡ false → GivesNone bytes
ungiven m bytes is plain uniq answer gives e = by (assignment_byte answer gives) (sym is ∙ ap (λ (l : List ℕ). get_or l 7 0) e)
  where
    by : {x : ℕ} → (x ≡ 11) ⊎ (x ≡ 31) → m ≡ x → ⊥
    by (inl a) e = apart m 11 plain (e ∙ a)
    by (inr a) e = apart m 31 uniq (e ∙ a)

typed : (m : ℕ) (bytes : List ℕ) → get_or bytes 7 0 ≡ m → (m == 10) ≡ false → (m == 13) ≡ false → (m == 14) ≡ false → (m == 25) ≡ false → (m == 11) ≡ false → (m == 31) ≡ false → Other bytes
typed m bytes is job complete fail exception plain uniq = let u = untold m bytes is job complete fail exception in (u.0, u.1, ungiven m bytes is plain uniq)

pub created_other : (h : List ℕ) → Other (answer_packet (job_created h))
unfolding packet
created_other h = typed 8 _ refl refl refl refl refl refl refl

pub error_other : (code text : List ℕ) → Other (answer_packet (error code text))
unfolding packet
error_other code text = typed 19 _ refl refl refl refl refl refl refl

pub fail_another : (h : List ℕ) → Another (answer_packet (work_fail h)) × GivesNone (answer_packet (work_fail h))
unfolding packet
fail_another h = ((λ e. apart 14 10 refl (ap (λ (l : List ℕ). get_or l 7 0) e)), ungiven 14 _ refl refl refl)

pub complete_another : (h b : List ℕ) → Another (answer_packet (work_complete h b)) × GivesNone (answer_packet (work_complete h b))
unfolding packet
complete_another h b = ((λ e. apart 13 10 refl (ap (λ (l : List ℕ). get_or l 7 0) e)), ungiven 13 _ refl refl refl)

-- NO_JOB tells of no end, and hands out nothing
pub no_job_other : EndsNone (answer_packet no_job) × GivesNone (answer_packet no_job)
unfolding packet
no_job_other = ((λ k answer ends e. by k (end_byte k answer ends) (ap (λ (l : List ℕ). get_or l 7 0) e)), ungiven 10 _ refl refl refl)
  where
    by : (k : Settings) {x : ℕ} → IsEndByte k x → 10 ≡ x → ⊥
    by k (inl a) e = apart 10 13 refl (e ∙ a)
    by k (inr (inl a)) e = apart 10 14 refl (e ∙ a)
    by k (inr (inr (set, a))) e = apart 10 25 refl (e ∙ a)

pub status_other : (h a b : List ℕ) → Other (answer_packet (work_status h a b))
unfolding packet
status_other h a b = typed 12 _ refl refl refl refl refl refl refl

pub data_other : (h b : List ℕ) → Other (answer_packet (work_data h b))
unfolding packet
data_other h b = typed 28 _ refl refl refl refl refl refl refl

pub warning_other : (h b : List ℕ) → Other (answer_packet (work_warning h b))
unfolding packet
warning_other h b = typed 29 _ refl refl refl refl refl refl refl

pub exception_another : (h b : List ℕ) → Another (answer_packet (work_exception h b)) × GivesNone (answer_packet (work_exception h b))
unfolding packet
exception_another h b = ((λ e. apart 25 10 refl (ap (λ (l : List ℕ). get_or l 7 0) e)), ungiven 25 _ refl refl refl)

-- an exception tells of an end only to gearmand's applications
pub exception_ends : (h b : List ℕ) (k : Settings) (answer : Answer) → IsOfEnd k answer → answer_packet (work_exception h b) ≡ answer_packet answer → k.as_gearmand ≡ true
unfolding packet
exception_ends h b k answer ends e = by (end_byte k answer ends) (ap (λ (l : List ℕ). get_or l 7 0) e)
  where
    by : {x : ℕ} → IsEndByte k x → 25 ≡ x → k.as_gearmand ≡ true
    by (inl a) e = absurd (apart 25 13 refl (e ∙ a))
    by (inr (inl a)) e = absurd (apart 25 14 refl (e ∙ a))
    by (inr (inr (set, a))) e = set

pub echo_other : (b : List ℕ) → Other (answer_packet (echo_res b))
unfolding packet
echo_other b = typed 17 _ refl refl refl refl refl refl refl

pub option_other : (b : List ℕ) → Other (answer_packet (option_res b))
unfolding packet
option_other b = typed 27 _ refl refl refl refl refl refl refl

pub known_other : (h : List ℕ) (known running : Bool) (a b : List ℕ) → Other (answer_packet (status_res h known running a b))
unfolding packet
known_other h known running a b = typed 20 _ refl refl refl refl refl refl refl

pub assigned_other : (k : Settings) (uniq : Bool) (n : ℕ) (job : Job) → Another (answer_packet (assignment k uniq n job)) × EndsNone (answer_packet (assignment k uniq n job))
unfolding packet
assigned_other k true n job = untold 31 _ refl refl refl refl refl
assigned_other k false n job = untold 11 _ refl refl refl refl refl

-- ---- texts

-- no packet begins so
pub head_other : (b : ℕ) (bytes : List ℕ) → b ≢ 0 → Other (b ∷ bytes)
unfolding packet
head_other b bytes other = (
  (λ e. other (ap (λ (l : List ℕ). get_or l 0 0) e)),
  (λ k answer ends e. other (ap (λ (l : List ℕ). get_or l 0 0) e)),
  λ answer gives e. other (ap (λ (l : List ℕ). get_or l 0 0) e),
)

pub ok_other : Other ok_text
ok_other = head_other 79 _ (omega arith)

pub version_other : Other version_text
version_other = head_other 79 _ (omega arith)

pub refusal_other : (error : AdminError) → Other (error_text error)
refusal_other UnknownCommand = head_other 69 _ (omega arith)
refusal_other MissingName = head_other 69 _ (omega arith)
refusal_other BadSize = head_other 69 _ (omega arith)
refusal_other BadFunction = head_other 69 _ (omega arith)
refusal_other TooManyFunctions = head_other 69 _ (omega arith)
refusal_other LineTooLong = head_other 69 _ (omega arith)

pub fault_other : (fault : UnitFault) → Other (fault_text fault)
fault_other faults.BadMagic = error_other (codes "bad_magic") (spaced (codes "bad_magic"))
fault_other faults.PacketTooLarge = error_other (codes "packet_too_large") (spaced (codes "packet_too_large"))
fault_other faults.LineTooLong = refusal_other LineTooLong

shown_at : (b : ℕ) (t : Bool) → (nat_le b 32 || b == 127) ≡ t → cond t 63 b ≢ 0
shown_at b true is e = absurd cc
shown_at zero false is e = absurd cc
shown_at (suc b) false is e = absurd cc

list_row : (name : List ℕ) (t r w : ℕ) (rows : List StatusLine) → Other (status_text (record { name = name; total = t; running = r; workers = w } ∷ rows))
list_row [] t r w rows = head_other 9 _ (omega arith)
list_row (b ∷ name) t r w rows = head_other (shown_byte b) _ (shown_at b (nat_le b 32 || b == 127) refl)

pub list_other : (rows : List StatusLine) → Other (status_text rows)
list_other [] = head_other 46 _ (omega arith)
list_other (row ∷ rows) = list_row row.name row.total row.running row.workers rows

-- a text that begins with no NUL
record Begins (text : List ℕ) : Type 0 where
  first : ℕ
  rest : List ℕ
  is : text ≡ first ∷ rest
  other : first ≢ 0

glyph_at : (d : ℕ) (t : Bool) → cond t (48 + d) (87 + d) ≢ 0
glyph_at d true e = absurd (omega arith)
glyph_at d false e = absurd (omega arith)

onto_at : (k n : ℕ) (acc : List ℕ) (t : Bool) → Begins (digits_onto k 10 false (n / 10) (digit_glyph false (n % 10) ∷ acc)) → Begins (cond t (digit_glyph false (n % 10) ∷ acc) (digits_onto k 10 false (n / 10) (digit_glyph false (n % 10) ∷ acc)))
onto_at k n acc true more = record { first = digit_glyph false (n % 10); rest = acc; is = refl; other = glyph_at (n % 10) (nat_lt (n % 10) 10) }
onto_at k n acc false more = more

onto_begins : (k n b : ℕ) (acc : List ℕ) → b ≢ 0 → Begins (digits_onto k 10 false n (b ∷ acc))
onto_begins zero n b acc other = record { first = b; rest = acc; is = refl; other = other }
onto_begins (suc k) n b acc other = onto_at k n (b ∷ acc) (n / 10 == 0) (onto_begins k (n / 10) (digit_glyph false (n % 10)) (b ∷ acc) (glyph_at (n % 10) (nat_lt (n % 10) 10)))

decimal_begins : (n : ℕ) → Begins (decimal n)
unfolding digits
decimal_begins n = onto_at 63 n [] (n / 10 == 0) (onto_begins 63 (n / 10) (digit_glyph false (n % 10)) [] (glyph_at (n % 10) (nat_lt (n % 10) 10)))

-- a row of `workers` whose slot prints so
abbrev line_with : List ℕ → WorkerLine → List ℕ
line_with slot row = slot ++ 32 ∷ shown_or_dash row.addr ++ 32 ∷ shown_or_dash row.id ++ 32 ∷ 58 ∷ flat_map (λ name. 32 ∷ shown name) row.functions ++ 10 ∷ []

pub rows_other : (rows : List WorkerLine) → Other (workers_text rows)
rows_other [] = head_other 46 _ (omega arith)
rows_other (row ∷ rows) =
    let b = decimal_begins row.slot in
    subst (λ l. Other ((line_with l row ++ flat_map worker_line rows) ++ dot)) (sym b.is) (head_other b.first _ b.other)
