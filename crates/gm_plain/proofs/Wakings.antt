-- Workers that are woken for a job.
use Rattle.std.proofs.Common.{◌≡◌, ℕ, true, List, Option, Some, None, refl}
use Rattle.std.specs.Prelude.{◌&&◌}
use Rattle.std.proofs.lemmas.Bool.{and_parts}
use Rattle.gm_notes.specs.declared.note.Note.{Note}
use Rattle.gm_notes.specs.declared.note.Note.TheVariants.{Woken}
use Rattle.gm_notes.specs.Notes.{is_open, phase, is_asleep}
use Rattle.gm_notes.specs.Jobs.{Job, is_able}
use Rattle.gm_notes.specs.Past.{Past, with_note}
use Rattle.gm_plain.specs.Searches.{wakes_for}
use Rattle.gm_plain.specs.Holds.{wake_one_for}

-- who is woken sleeps
pub woken_sleeps : (c : ℕ) (o : Option Job) (notes : List Note) → wakes_for c o notes ≡ true → is_asleep (phase c notes) ≡ true
woken_sleeps c None notes e = absurd cc
woken_sleeps c (Some job) notes e =
    (and_parts (is_open c notes) (is_asleep (phase c notes)) (and_parts (is_open c notes && is_asleep (phase c notes)) (is_able c job.function notes) e).0).1

pub woken_is : (c : ℕ) (o : Option Job) (past : Past) → wakes_for c o past.notes ≡ true → with_note (Woken c) past ≡ wake_one_for o c past
woken_is c None past e = absurd cc
woken_is c (Some job) past e = rw e refl
