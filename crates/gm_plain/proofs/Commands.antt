-- What text lines do, part by part.
use Rattle.std.proofs.Common.{◌≡◌, ℕ, Bool, true, false, List, refl}
use Rattle.std.specs.Prelude.{if◌then◌else◌}
use Rattle.gm_notes.specs.declared.note.Note.TheVariants.{Limit, Went, Mention}
use Rattle.gm_notes.specs.declared.states.Mode.{Mode}
use Rattle.gm_notes.specs.declared.states.Mode.TheVariants.{Running, Graceful}
use Rattle.gm_notes.specs.Notes.{accepts_connections}
use Rattle.gm_notes.specs.Jobs.{is_mentioned}
use Rattle.gm_notes.specs.Past.{Past, with_note, with_output, with_mention}
use Rattle.gm_notes.specs.Lines.{go_graceful}

-- it doesn't matter that the answer is queued first
pub limit_told : (c : ℕ) (text f : List ℕ) (size : ℕ) (past : Past) → with_note (Limit f size) (with_mention f (with_output c text past)) ≡ with_output c text (with_note (Limit f size) (with_mention f past))
limit_told c text f size past = go (is_mentioned f past.notes)
  where
    go : (t : Bool) → with_note (Limit f size) (if t then with_output c text past else with_note (Mention f) (with_output c text past)) ≡ with_output c text (with_note (Limit f size) (if t then past else with_note (Mention f) past))
    go true = refl
    go false = refl

pub graceful_told : (c : ℕ) (text : List ℕ) (m : Mode) (past : Past) → accepts_connections m ≡ true → with_note (Went Graceful) (with_output c text past) ≡ with_output c text (go_graceful m past)
graceful_told c text Running past e = refl
graceful_told c text m past e = absurd cc

pub graceful_kept : (c : ℕ) (text : List ℕ) (m : Mode) (past : Past) → accepts_connections m ≡ false → with_output c text past ≡ with_output c text (go_graceful m past)
graceful_kept c text Running past e = absurd cc
graceful_kept c text m past e = refl
