use Rattle.nv_cli.proofs.top.varan.Goals as goal

pub returns : goal.returns
returns g c = record { answers = c.varan_over-status.ensures.answers.answers; completes = c.varan_over-status.ensures.completes; rejects = c.varan_over-status.ensures.rejects }
