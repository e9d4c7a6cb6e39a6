use Rattle.std.proofs.Common.{◌∙◌, ap}
use Rattle.nv_fs.specs.Starts.{first_state}
use Rattle.nv_kernel.proofs.Files.{same_files}
use Rattle.nv_kernel.proofs.devices.Devices.make.Goals as goal

pub returns-clause-state : goal.returns-clause-state
returns-clause-state c =
    let files = c.in_ok-files.ensures.state ∙ ap (first_state c.args.script.now.polls c.args.script.now.input.items) (same_files c.args.script.now.files.items) in
    λ i. record { files = files i; crew = c.first.ensures i; served = 0; start = c.start_of.ensures i; step = c.args.script.now.step; random = c.from.ensures i }
