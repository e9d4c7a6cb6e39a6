use Rattle.std.proofs.Common.{sym, subst}
use Rattle.nv_calls.specs.Calls.{request}
use Rattle.nv_calls.proofs.ShapeLaws.{shaped-few}
use Rattle.nv_kernel.specs.Reserved.{state_of}
use Rattle.nv_kernel.specs.Standing.{StandsAt}
use Rattle.nv_kernel.proofs.Standings.{at_log}
use Rattle.nv_kernel.proofs.Wholes.{whole_on}
use Rattle.nv_kernel.proofs.replying.DevicesAnswers.reserve.Goals as goal

pub reserve-requires-clause-few : goal.reserve-requires-clause-few
reserve-requires-clause-few c = shaped-few (request c.args.call.now) c.requires.shaped

pub returns-clause-stands : goal.returns-clause-stands
returns-clause-stands c =
    whole_on (at_log (state_of c.args.self.now)) (at_log (state_of c.reserve.new.self)) c.args.self.now.files.gone c.reserve.new.self.files.gone c.reserve.ensures.gone
    (λ setup log. subst (StandsAt setup log) (sym c.reserve.ensures.state))
