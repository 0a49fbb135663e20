use Rattle.gm_promise.proofs.Promised.{in_order}
use Rattle.gm_promise.proofs.laws.sessions_are_in_the_history.Goals as goal

pub returns : goal.returns
returns c = λ k desk slot limits bytes rest fault seen after newer h. (h.items, h.begins, in_order k desk slot limits bytes rest fault seen after newer h)
