use Rattle.std.proofs.Common.{◌∙◌, sym, ap, not, arith}
use Rattle.nv_calls.specs.Calls.{request}
use Rattle.nv_arriving.specs.Arrivals.{ends}
use Rattle.nv_arriving.specs.Views.{standing_of}
use Rattle.nv_arriving.proofs.Steps.{until_at, until_all, any_at, any_all}
use Rattle.nv_arriving.proofs.guests.GuestSide.intake.Goals as goal

pub returns-in-Some-clause-count : goal.returns-in-Some-clause-count
returns-in-Some-clause-count c =
    let h = until_at (ends (standing_of c.args.self.now) (request c.args.call.now) c.args.want) c.args.arrivals.now 0 c.in-Some.place (sym c.first_end.ensures.is ∙ c.in-Some.is) in
    omega (arith, h)

pub returns-in-Some-clause-vain : goal.returns-in-Some-clause-vain
returns-in-Some-clause-vain c =
    sym (ap not (any_at (ends (standing_of c.args.self.now) (request c.args.call.now) c.args.want) c.args.arrivals.now 0 c.in-Some.place (sym c.first_end.ensures.is ∙ c.in-Some.is)))

pub returns-in-None-clause-count : goal.returns-in-None-clause-count
returns-in-None-clause-count c = sym (until_all (ends (standing_of c.args.self.now) (request c.args.call.now) c.args.want) c.args.arrivals.now 0 (sym c.first_end.ensures.is ∙ c.in-None.is))

pub returns-in-None-clause-vain : goal.returns-in-None-clause-vain
returns-in-None-clause-vain c = sym (ap not (any_all (ends (standing_of c.args.self.now) (request c.args.call.now) c.args.want) c.args.arrivals.now 0 (sym c.first_end.ensures.is ∙ c.in-None.is)))
