-- Loops of the plain server that go over slots or jobs.
use Rattle.std.proofs.Common.{◌≡◌, ℕ, zero, suc, ◌+◌, ◌≤◌, List, [], ◌∷◌, length, drop, reverse, Some, sym, ap, subst, ◌∙◌, arith}
use Rattle.std.specs.Prelude.{slice_get}
use Rattle.std.proofs.lemmas.List.{length-reverse}
use Rattle.std.proofs.Math.ListN.{drop_of_length-le}
use Rattle.std.proofs.Math.Numerals.{add-one}
use Rattle.gm_notes.specs.declared.note.Note.{Note}
use Rattle.gm_notes.specs.Settings.{Settings}
use Rattle.gm_notes.specs.Notes.{slots_from}
use Rattle.gm_notes.specs.Jobs.{job, made}
use Rattle.gm_notes.specs.Past.{Past}
use Rattle.gm_notes.specs.Closings.{rising}
use Rattle.gm_plain.specs.declared.server.PlainServer.{PlainServer}
use Rattle.gm_plain.specs.Holds.{Keeps, Goes}
use Rattle.gm_plain.proofs.ServerLemmas.{wake_each_for}

-- the server keeps a past from which waking at these slots leads where waking at all led from the first
pub record Waking (server : PlainServer) (n slot left : ℕ) (k : Settings) (past : Past) : Type 0 where
  pub now : Past
  pub keeps : Keeps server now
  pub same : job n now.notes ≡ job n past.notes
  pub leads : wake_each_for (job n past.notes) (slots_from 0 k.slots) past ≡ wake_each_for (job n past.notes) (slots_from slot left) now

-- the server keeps a past from which doing this to the jobs that are left leads where doing it to all led from the
-- first
pub record Folding (server : PlainServer) (fold : List ℕ → Past → Past) (left all : List ℕ) (past : Past) : Type 0 where
  pub now : Past
  pub keeps : Keeps server now
  pub leads : fold all past ≡ fold left now

-- ---- jobs, one after another

job_next : (all : List ℕ) (i n : ℕ) → slice_get all i ≡ Some n → drop i all ≡ n ∷ drop (suc i) all
job_next [] i n e = absurd cc
job_next (x ∷ all) zero n e = let same : x ≡ n = cc in ap (λ y. y ∷ all) same
job_next (x ∷ all) (suc i) n e = job_next all i n e

-- from the first server to this one, the jobs made that stand before index i were gone over
pub record OverJobs (first server : PlainServer) (fold : Settings → List ℕ → Past → Past) (i : ℕ) : Type 0 where
  pub config : server.config ≡ first.config
  pub jobs : made server.log.notes ≡ made first.log.notes
  pub past : (past : Past) → Keeps first past → Folding server (fold first.config) (drop i (reverse (made first.log.notes))) (reverse (made first.log.notes)) past

module _ (fold : Settings → List ℕ → Past → Past) (one : Settings → ℕ → Past → Past)
    (goes_on : (k : Settings) (n : ℕ) (jobs : List ℕ) (past : Past) → fold k (n ∷ jobs) past ≡ fold k jobs (one k n past))
    (ends : (k : Settings) (past : Past) → fold k [] past ≡ past) (first : PlainServer) where
  pub next_job : (old new : PlainServer) (i n : ℕ) → slice_get (reverse (made old.log.notes)) i ≡ Some n → Goes old new (one old.config n) → made new.log.notes ≡ made old.log.notes
      → OverJobs first old fold i → OverJobs first new fold (i + 1)
  next_job old new i n at goes same so_far =
      let k = first.config in
      let all = reverse (made first.log.notes) in
      let here : slice_get all i ≡ Some n = ap (λ (l : List ℕ). slice_get (reverse l) i) (sym so_far.jobs) ∙ at in
      record {
        config = goes.config ∙ so_far.config;
        jobs = same ∙ so_far.jobs;
        past = λ past keeps.
            let s = so_far.past past keeps in
            record {
              now = one k n s.now;
              keeps = subst (λ (x : Settings). Keeps new (one x n s.now)) so_far.config (goes.past s.now s.keeps);
              leads = s.leads ∙ (ap (λ (l : List ℕ). fold k l s.now) (job_next all i n here) ∙ (goes_on k n (drop (suc i) all) s.now ∙ ap (λ (j : ℕ). fold k (drop j all) (one k n s.now)) (sym (add-one i))));
            };
      }

  pub all_jobs : (server : PlainServer) (i : ℕ) → length (made first.log.notes) ≤ i → OverJobs first server fold i → Goes first server (λ past. fold first.config (rising past) past)
  all_jobs server i le so_far =
      let k = first.config in
      let all = reverse (made first.log.notes) in
      let long : length all ≡ length (made first.log.notes) = length-reverse (made first.log.notes) in
      record {
        others = tt;
        config = so_far.config;
        past = λ past keeps.
            let s = so_far.past past keeps in
            let jobs : all ≡ rising past = ap (λ (l : List Note). reverse (made l)) keeps.notes_are in
            let none : drop i all ≡ [] = drop_of_length-le all (omega (arith, long, le)) in
            subst (λ (l : List ℕ). Keeps server (fold k l past)) jobs (subst (Keeps server) (sym (s.leads ∙ (ap (λ (l : List ℕ). fold k l s.now) none ∙ ends k s.now))) s.keeps);
      }
