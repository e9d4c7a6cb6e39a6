use Rattle.std.proofs.Common.{rules, ◌≡◌, ◌∙◌, sym, ap, ℕ, ◌-◌, true, length, arith}
use Rattle.nv_fs.specs.States.{least_free, is_pipe}
use Rattle.nv_fs.specs.Ends.{free_pipe}
use Rattle.nv_fs.proofs.Lengths.{pipes_length as length_of}
use Rattle.nv_fs.proofs.Least.{least_step}
use Rattle.nv_fs.proofs.disk.FileSystem.free_pipe.Goals as goal

pub loop-k-init : goal.loop-k-init
unfolding free_pipe
loop-k-init c =
    let n : length c.as_slice-k-end.result.now - 0 ≡ length c.args.self.now.state.pipes =
    (let e = ap length (c.as_slice-k-end.ensures.value) in let f : length c.self.inside.pipes.items ≡ length c.args.self.now.state.pipes = length_of c.self.inside c.args.self.now c.self.view_is in omega arith) in
    ap (λ (z : ℕ). least_free (is_pipe c.args.self.now.state) z 0) n

pub loop-k-preserved : goal.loop-k-preserved
loop-k-preserved c =
    let used : is_pipe c.args.self.now.state c.loop-k.k ≡ true = search rules in
    sym (least_step (is_pipe c.args.self.now.state) (length c.as_slice-k-end.result.now) c.loop-k.k (omega arith) used) ∙ c.loop-k.invariant
