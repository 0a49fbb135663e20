-- Lines that are played one after another.
use Rattle.std.proofs.Common.{◌≡◌, ◌<◌, ℕ, arith, Bool, true, false, if◌then◌else◌, List, [], ◌∷◌, ◌++◌, length, Option, Some, None, refl, sym, ap, subst, ◌∙◌, append_assoc, append-nil}
use Rattle.std.specs.Prelude.{◌==◌}
use Rattle.std.specs.Option.{option_map}
use Rattle.std.specs.Io.KnownBytes.{Appends}
use Rattle.gm_feeder.specs.declared.units.Limits.{Limits}
use Rattle.gm_notes.specs.Settings.{Settings}
use Rattle.gm_notes.specs.Steps.{Step}
use Rattle.gm_front.specs.declared.front.Front.{Front}
use Rattle.gm_front.specs.Inputs.{Reading}
use Rattle.gm_play.specs.Scripts.{cuts, order_of}
use Rattle.gm_play.specs.Orders.{cut}
use Rattle.gm_play.specs.Prints.{Prints}
use Rattle.gm_play.specs.Players.{IsReady, Writes}
use Rattle.gm_play.proofs.Pieces.{pieces_by}

-- ---- the lines

-- the second half, or these bytes
abbrev second : List ℕ → Option (List ℕ × List ℕ) → List ℕ
second bytes None = bytes
second bytes (Some halves) = halves.1

shorter : (t : Bool) (at b : ℕ) (bytes : List ℕ) (halves : List ℕ × List ℕ) (later : Option (List ℕ × List ℕ)) → (if t then Some ([], bytes) else option_map (λ (h : List ℕ × List ℕ). (b ∷ h.0, h.1)) later) ≡ Some halves
    → ((inner : List ℕ × List ℕ) → later ≡ Some inner → length inner.1 < length bytes) → length halves.1 < length (b ∷ bytes)
shorter true at b bytes halves later e ih =
    let same : bytes ≡ halves.1 = ap (λ (m : Option (List ℕ × List ℕ)). second bytes m) e in
    omega (arith, ap length same)
shorter false at b bytes halves None e ih = absurd cc
shorter false at b bytes halves (Some inner) e ih =
    let same : inner.1 ≡ halves.1 = ap (λ (m : Option (List ℕ × List ℕ)). second bytes m) e in
    omega (arith, ih inner refl, ap length same)

-- what comes after a cut is shorter
pub cut_shorter : (at : ℕ) (bytes : List ℕ) (halves : List ℕ × List ℕ) → cut at bytes ≡ Some halves → length halves.1 < length bytes
cut_shorter at [] halves e = absurd cc
cut_shorter at (b ∷ bytes) halves e = shorter (b == at) at b bytes halves (cut at bytes) e (cut_shorter at bytes)

-- ---- what is written

pub appends_nothing : (written : Option (List ℕ)) → Appends written written []
appends_nothing None = tt
appends_nothing (Some bytes) = sym (append-nil bytes)

pub appends_more : (old mid new : Option (List ℕ)) (first second : List ℕ) → Appends old mid first → Appends mid new second → Appends old new (first ++ second)
appends_more None mid new first second a b = tt
appends_more (Some old) None new first second a b = absurd a
appends_more (Some old) (Some mid) None first second a b = absurd b
appends_more (Some old) (Some mid) (Some new) first second a b = b ∙ (ap (λ (l : List ℕ). l ++ second) a ∙ append_assoc old first second)

-- ---- the loop

-- The lines up to the rest were played from this front on; what the rest prints completes the text.
pub record Playing {S : Type 0} (agrees : S → Settings → List Step → Type 0) (k : Settings) (limits : Limits) (reading : Reading) (script : List ℕ) (written : Option (List ℕ)) (rest : List ℕ) (front : Front S) (told : List Bool) (now_written : Option (List ℕ)) : Type 0 where
  pub now : Reading
  pub text : List ℕ
  pub ready : IsReady agrees k limits now front told
  pub printed : Appends written now_written text
  pub prints : (more : List ℕ) → Prints k limits now (cuts 10 rest) more → Prints k limits reading (cuts 10 script) (text ++ more)

pub begins : {S : Type 0} (agrees : S → Settings → List Step → Type 0) (k : Settings) (limits : Limits) (reading : Reading) (script : List ℕ) (written : Option (List ℕ)) (front : Front S) (told : List Bool)
    → IsReady agrees k limits reading front told → Playing agrees k limits reading script written script front told written
begins agrees k limits reading script written front told h =
    record { now = reading; text = []; ready = h; printed = appends_nothing written; prints = λ more p. p }

pub goes_on : {S : Type 0} (agrees : S → Settings → List Step → Type 0) (k : Settings) (limits : Limits) (reading : Reading) (script : List ℕ) (written : Option (List ℕ)) (rest line after : List ℕ) (front front' : Front S) (told told' : List Bool) (mid_written new_written : Option (List ℕ))
    (p : Playing agrees k limits reading script written rest front told mid_written) → Some (line, after) ≡ cut 10 rest → Writes agrees k limits p.now (order_of line) mid_written front' told' new_written
    → Playing agrees k limits reading script written after front' told' new_written
goes_on agrees k limits reading script written rest line after front front' told told' mid_written new_written p e w =
    record {
      now = w.new;
      text = p.text ++ w.text;
      ready = w.ready;
      printed = appends_more written mid_written new_written p.text w.text p.printed w.printed;
      prints = λ more q.
          subst (λ (l : List ℕ). Prints k limits reading (cuts 10 script) l) (sym (append_assoc p.text w.text more))
          (p.prints (w.text ++ more) (subst (λ (lines : List (List ℕ)). Prints k limits p.now lines (w.text ++ more)) (sym (pieces_by 10 rest (Some (line, after)) e)) (w.text, w.new, more, w.tells, q, refl)));
    }

pub ends : {S : Type 0} (agrees : S → Settings → List Step → Type 0) (k : Settings) (limits : Limits) (reading : Reading) (script : List ℕ) (written : Option (List ℕ)) (rest : List ℕ) (front front' : Front S) (told told' : List Bool) (mid_written new_written : Option (List ℕ))
    (p : Playing agrees k limits reading script written rest front told mid_written) → None ≡ cut 10 rest → Writes agrees k limits p.now (order_of rest) mid_written front' told' new_written
    → (text : List ℕ) × Prints k limits reading (cuts 10 script) text × Appends written new_written text
ends agrees k limits reading script written rest front front' told told' mid_written new_written p e w = (
  p.text ++ w.text,
  p.prints w.text
      (subst (λ (lines : List (List ℕ)). Prints k limits p.now lines w.text) (sym (pieces_by 10 rest None e)) (w.text, w.new, [], w.tells, refl, sym (append-nil w.text))),
  appends_more written mid_written new_written p.text w.text p.printed w.printed,
)
