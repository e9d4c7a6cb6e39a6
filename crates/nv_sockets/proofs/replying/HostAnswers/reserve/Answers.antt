use Rattle.nv_calls.specs.Calls.{request}
use Rattle.nv_calls.proofs.ShapeLaws.{shaped-few}
use Rattle.nv_sockets.proofs.Standings.{host_goes_on}
use Rattle.nv_sockets.proofs.replying.HostAnswers.reserve.Goals as goal

pub reserve-requires-clause-few : goal.reserve-requires-clause-few
reserve-requires-clause-few c = shaped-few (request c.args.call.now) c.requires.shaped

pub returns-clause-stands : goal.returns-clause-stands
returns-clause-stands c = host_goes_on c.args.self.now c.reserve.new.self c.reserve.ensures.state c.reserve.ensures.whole c.reserve.ensures.gone
