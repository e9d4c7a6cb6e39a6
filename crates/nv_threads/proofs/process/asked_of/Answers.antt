use Rattle.std.proofs.Common.{◌≡◌, ◌∙◌, ap, subst, sym}
use Rattle.nv_calls.specs.Profiles.{in_profile}
use Rattle.nv_calls.specs.Shapes.{IsShaped}
use Rattle.nv_calls.proofs.ProfileLaws.{in_profile-shaped}
use Rattle.nv_threads.proofs.process.asked_of.Goals as goal

pub returns-clause-call : goal.returns-clause-call
returns-clause-call c = c.limit.ensures.call ∙ ap (in_profile c.args.polls) c.call_of-asked.ensures.call

pub returns-clause-shaped : goal.returns-clause-shaped
returns-clause-shaped c h = subst IsShaped (sym c.limit.ensures.call) (in_profile-shaped c.args.polls _ (c.call_of-asked.ensures.shaped h))
