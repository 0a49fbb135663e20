use Rattle.std.proofs.Common.{rules, ◌≡◌, [], ◌∷◌, ◌+◌, ◌-◌, ◌<◌, ◌≤◌, ℕ, List, length, drop, min, subst, sym, ap, ◌∙◌, arith}
use Rattle.std.proofs.lemmas.List.{length-drop, drop-drop}
use Rattle.std.proofs.lemmas.List.Elements.{All-drop}
use Rattle.std.proofs.Math.Seq.{drop-cons}
use Rattle.std.specs.List.{All}
use Rattle.gm_bytes.specs.declared.run.Run.{Run}
use Rattle.gm_bytes.specs.Queues.{with_shared, before_last, first_len}
use Rattle.gm_bytes.proofs.QueueLemmas.{first_some, parts, passes, passes_within}
use Rattle.gm_bytes.proofs.byte_queue.ByteQueue.advance.Goals as goal

pub loop-run-preserved-else-left-first_len : goal.loop-run-preserved-else-left-first_len
loop-run-preserved-else-left-first_len c =
    let kept = c.loop-run.invariant in
    let q = c.loop-run.self-inside in
    let runs = q.runs.items in
    let run = c.in-Some.run'.now in
    let rest = c.pop_front-gone.new.self.items in
    let copied = drop q.start q.copied.items in
    let is : runs ≡ run ∷ rest
    = drop-cons runs 0 run (c.in-Some.ensures.item.3.0) ∙ (λ j. sym c.in-Some.ensures.lookup j ∷ sym c.pop_front-gone.ensures.rest j) in
    let p = parts runs rest run q.copied.items q.start q.passed q.behind is kept.all kept.within in
    let run_len : length c.as_slice.result.now ≡ length run.bytes = ap length c.as_slice.ensures in
    let all = subst (λ (l : List Run). All (λ (run : Run). 0 < length run.bytes) l) (sym c.pop_front-gone.ensures.rest) (All-drop (λ (run : Run). 0 < length run.bytes) 1 runs kept.some) in
    let at : drop run.before copied ≡ drop (q.start + run.before) q.copied.items = drop-drop run.before q.start q.copied.items in
    record {
      all = p.1;
      some = all;
      within = omega (arith, first_some rest q.behind all);
      fits = kept.fits;
      places = omega (arith, kept.places, c.pop_front-gone.ensures.len, c.pop_front-gone.ensures.capacity);
      room_is = kept.room_is;
      left =
          subst (λ (l : List ℕ). c.loop-run.left - ((run.before + length c.as_slice.result.now) - q.passed) ≤ length (with_shared rest l)) at
          (subst (λ n. c.loop-run.left - ((run.before + n) - q.passed) ≤ length (with_shared rest (drop run.before copied))) (sym run_len)
          (passes_within runs rest run copied q.passed is p.0 p.2 c.loop-run.left kept.left));
      rest =
          (λ j. drop (c.loop-run.left - ((run.before + run_len j) - q.passed)) (with_shared rest (sym at j)))
          ∙ (sym (passes runs rest run copied q.passed is p.0 p.2 c.loop-run.left (omega (arith, run_len, c.if-left-first_len.false))) ∙ kept.rest);
    }

pub invariant_of-self : goal.invariant_of-self
invariant_of-self c =
    let kept = c.loop-run.invariant in
    let q = c.loop-run.self-inside in
    let runs = q.runs.items in
    let run = c.in-Some.run'.now in
    let is : runs ≡ run ∷ drop 1 runs = drop-cons runs 0 run (c.in-Some.ensures.item.3.0) ∙ (λ j. sym c.in-Some.ensures.lookup j ∷ drop 1 runs) in
    let run_len : length c.as_slice.result.now ≡ length run.bytes = ap length c.as_slice.ensures in (
      kept.all,
      kept.some,
      subst (λ (l : List Run). (q.passed + c.loop-run.left) + min 1 (length l) ≤ first_len l q.behind) (sym is) (omega (arith, run_len, c.if-left-first_len.true)),
      kept.fits,
      kept.places,
    )

pub returns-then-left-first_len-clause-room : goal.returns-then-left-first_len-clause-room
returns-then-left-first_len-clause-room c = c.loop-run.invariant.room_is

pub invariant_of-self-2 : goal.invariant_of-self-2
invariant_of-self-2 c =
    let kept = c.loop-run.invariant in
    let q = c.loop-run.self-inside in
    let none : q.runs.items ≡ [] = search rules in
    let left = subst (λ (l : List Run). c.loop-run.left ≤ length (drop q.passed (with_shared l (drop q.start q.copied.items)))) none kept.left in
    let all = subst (λ (l : List Run). q.start + before_last l + q.behind ≡ length q.copied.items) none kept.all in
    let within = subst (λ (l : List Run). q.passed + min 1 (length l) ≤ first_len l q.behind) none kept.within in (
      kept.all,
      kept.some,
      subst (λ (l : List Run). (q.passed + c.loop-run.left) + min 1 (length l) ≤ first_len l q.behind) (sym none)
          (omega (arith, left, all, within, length-drop q.passed (drop q.start q.copied.items), length-drop q.start q.copied.items)),
      kept.fits,
      kept.places,
    )

pub returns-clause-room : goal.returns-clause-room
returns-clause-room c = c.loop-run.invariant.room_is
