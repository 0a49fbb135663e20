use Rattle.gm_laws.proofs.Shut.{who_isnt_shut_is_heard}
use Rattle.gm_laws.proofs.laws.who_isnt_shut_is_heard.Goals as goal

pub returns : goal.returns
returns c = who_isnt_shut_is_heard
