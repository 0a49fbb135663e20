use Rattle.std.proofs.Common.{◌≤◌, sym, subst, lit<}
use Rattle.gm_lane_word.proofs.Keeping.{reached_keeps, followed_or_owed, followed_by_attempts, taken-le}
use Rattle.gm_lane_word.proofs.laws.no_touch_is_forgotten.Goals as goal

pub returns-clause-followed : goal.returns-clause-followed
returns-clause-followed c = λ word views reached. followed_or_owed word views (reached_keeps word views reached)

pub returns-clause-idle : goal.returns-clause-idle
returns-clause-idle c = λ views reached. let k = reached_keeps 0 views reached in (k.all_answered (lit< tt), k.owner)

pub returns-clause-by_attempts : goal.returns-clause-by_attempts
returns-clause-by_attempts c = λ word next views after reached step. followed_by_attempts word views next after (reached_keeps word views reached) step

pub returns-clause-one_owner : goal.returns-clause-one_owner
returns-clause-one_owner c = λ word views reached. let k = reached_keeps word views reached in subst (λ n. n ≤ 1) (sym k.owner) (taken-le word)
