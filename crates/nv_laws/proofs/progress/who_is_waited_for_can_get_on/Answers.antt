use Rattle.nv_laws.proofs.Stuck.{full_unread, waited_for, lead_there, lowest_gets_on}
use Rattle.nv_laws.proofs.progress.who_is_waited_for_can_get_on.Goals as goal

pub returns-clause-place : goal.returns-clause-place
returns-clause-place g c = λ p s r all is t ne near full. waited_for _ _ p s r all is t ne near full

pub returns-clause-lead : goal.returns-clause-lead
returns-clause-lead g c = λ p s r is. lead_there _ _ p s r is

pub returns-clause-lower : goal.returns-clause-lower
returns-clause-lower g c = λ p s r all is t low. lowest_gets_on _ _ p s r all is t low

pub returns-clause-looked : goal.returns-clause-looked
returns-clause-looked g c = full_unread
