use Rattle.std.proofs.Common.{◌≡◌, ℕ, List, length, ◌⊎◌, inl, inr, ap, ◌∙◌, arith}
use Rattle.std.specs.Int.{div_ceil}
use Rattle.mio.specs.declared.event.event.Event.{Event}
use Rattle.gm_poll.specs.Pollers.{PollerState, Wakes, heard, all_marked, looked_at}
use Rattle.gm_poll.proofs.HeedLemmas.{heeds_heard, heeds_wakes, all_heard, report, report_heard, report_all_marked, report_looked}
use Rattle.gm_poll.proofs.poller.Poller.wait.Goals as goal

looked_report : (old new : PollerState) → (new ≡ old) ⊎ (new ≡ looked_at old.again old) → report new ≡ report old
looked_report old new (inl same) = ap report same
looked_report old new (inr looked) = ap report looked ∙ report_looked old.again old

-- a poller that asked, heard, took marks and looked again reports what it asked and heard of
same_report : (asked told woken new : PollerState) (words : List ℕ) → told ≡ heard asked.events asked → woken ≡ all_marked words told → (new ≡ woken) ⊎ (new ≡ looked_at woken.again woken) → report new ≡ report asked
same_report asked told woken new words f g looked = looked_report woken new looked ∙ ap report g ∙ report_all_marked words told ∙ ap report f ∙ report_heard asked.events asked

wakes : (old asked told woken new : PollerState) (time : ℕ) (words : List ℕ) → asked ≡ record old { time = time; events = asked.events } → told ≡ heard asked.events asked → length words ≡ div_ceil (length told.calls) 64
    → woken ≡ all_marked words told → (new ≡ woken) ⊎ (new ≡ looked_at woken.again woken) → Wakes old new
wakes old asked told woken new time words e f all g looked =
    let same = same_report asked told woken new words f g looked in
    let events : new.events ≡ asked.events = ap (λ (r : ℕ × List Event). r.1) same in
    let waited : new.time ≡ time = ap (λ (r : ℕ × List Event). r.0) same ∙ ap (λ p. p.time) e in
    let slots = (heeds_heard asked.events asked).slots in
    let slots' = ap (λ p. length p.calls) f in
    let slots'' = ap (λ p. length p.calls) e in
    record {
      words = words;
      all = all ∙ ap (λ n. div_ceil n 64) (omega arith);
      woken = woken;
      marked = rw (events, waited) (g ∙ ap (all_marked words) (f ∙ ap (heard asked.events) e));
      looked = looked;
    }

pub returns-clause-time : goal.returns-clause-time
returns-clause-time g c =
    let same = same_report c.poll.new.self c.hear.new.self c.take_marks.new.self c.look_again.new.self c.take_marks.ensures.0 c.hear.ensures c.take_marks.ensures.2 c.look_again.ensures in
    ap (λ (r : ℕ × List Event). r.0) same ∙ ap (λ p. p.time) c.poll.ensures ∙ c.longest_wait-time.ensures

pub returns-clause-wakes : goal.returns-clause-wakes
returns-clause-wakes g c =
    wakes c.args.self.now c.poll.new.self c.hear.new.self c.take_marks.new.self c.look_again.new.self c.longest_wait-time.result c.take_marks.ensures.0 c.poll.ensures c.hear.ensures c.take_marks.ensures.1 c.take_marks.ensures.2 c.look_again.ensures

pub returns-clause-heeds : goal.returns-clause-heeds
returns-clause-heeds g c = heeds_wakes c.args.self.now c.look_again.new.self (returns-clause-wakes g c)

pub returns-clause-heard : goal.returns-clause-heard
returns-clause-heard g c = all_heard c.args.self.now c.look_again.new.self (returns-clause-wakes g c)
