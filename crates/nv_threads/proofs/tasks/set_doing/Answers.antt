use Rattle.std.proofs.Common.{◌∙◌, ap, set, get_or}
use Rattle.nv_threads.specs.declared.tasks.Doing.TheVariants as doing
use Rattle.nv_threads.proofs.Places.{place_inside, set_place}
use Rattle.nv_threads.proofs.tasks.set_doing.Goals as goal

pub returns : goal.returns
returns c =
    ap (λ i. set c.args.tasks.now i (record { tid = (get_or c.args.tasks.now i (record { tid = 0; doing = doing.Runs })).tid; doing = c.args.doing })) c.place-place.ensures.place
    ∙ set_place c.args.tasks.now c.args.tid (record { tid = 0; doing = doing.Runs }) c.args.doing (place_inside c.args.tasks.now c.args.tid c.requires)
