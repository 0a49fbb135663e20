use Rattle.std.proofs.Common.{◌≡◌, ℕ, ◌+◌, ◌*◌, ◌≤◌, max, ◌<◌, List, [], ◌∷◌, ◌++◌, length, get_or, sym, subst, arith, below_more}
use Rattle.std.proofs.lemmas.List.{get_or_append_left, get_or_push, length-append}
use Rattle.std.specs.Int.{div_ceil}
use Rattle.gm_poll.specs.declared.hub.Mailbox.{Mailbox}
use Rattle.gm_poll.specs.Pollers.{PollerState, IsNew}
use Rattle.gm_poll.proofs.hub.Hub.new.Goals as goal

-- what holds at each index holds there with one more behind, for which it holds too
each_more : {X : Type 0} (P : ℕ → X → Type 0) (xs : List X) (x : X) (n : ℕ) → length xs ≡ n → ((at : ℕ) (d : X) → at < n → P at (get_or xs at d)) → P n x → (at : ℕ) (d : X) → at < n + 1 → P at (get_or (xs ++ x ∷ []) at d)
each_more P xs x n long each last at d = below_more (λ at. P at (get_or (xs ++ x ∷ []) at d)) n (λ at lt. subst (P at) (sym (get_or_append_left xs (x ∷ []) d at (omega arith))) (each at d lt)) (subst (P n) (sym (get_or_push xs x d n long)) last) at

one_more : {X : Type 0} (xs : List X) (x : X) (n : ℕ) → length xs ≡ n → length (xs ++ x ∷ []) ≡ n + 1
one_more xs x n long = omega (arith, length-append xs (x ∷ []))

pub loop-thread-preserved : goal.loop-thread-preserved
loop-thread-preserved g c =
    let i = c.loop-thread.invariant in
    let n = c.loop-thread.thread in
    let slots = c.args.slots in
    let count = c.args.count in
    let mailboxes = c.loop-thread.mailboxes.items in
    let mailbox = c.in_ok-new.field-0 in
    let wide : div_ceil slots count ≤ length mailbox.marks.items * 64 = omega (arith, c.in_ok-new.ensures, c.div_ceil.ensures) in
    rw (c.in_ok-push.ensures.items, c.in_ok-push-2.ensures.items) (record {
      mailboxes = one_more mailboxes mailbox n i.mailboxes;
      marks = λ k other lt. each_more (λ at (m : Mailbox). div_ceil slots count ≤ length m.marks.items * 64) mailboxes mailbox n i.mailboxes
          (λ at d lt. i.marks at d (omega (arith, i.mailboxes))) wide k other (omega (arith, one_more mailboxes mailbox n i.mailboxes));
      all = one_more c.loop-thread.pollers.items c.in_ok-new-2.field-0 n i.all;
      each = each_more (λ at (p : PollerState). IsNew at (max count 1) slots p) c.loop-thread.pollers.items c.in_ok-new-2.field-0 n i.all i.each c.in_ok-new-2.ensures;
    })
