use Rattle.std.proofs.Common.{◌∙◌, ap, ◌<◌, length, drop, arith}
use Rattle.nv_fs.proofs.Places.{pipe_is, pipe_changed}
use Rattle.nv_fs.proofs.disk.FileSystem.drop_from_pipe.Goals as goal

pub returns-then-k-as_slice-clause-state : goal.returns-then-k-as_slice-clause-state
returns-then-k-as_slice-clause-state c =
    let inside : c.args.k < length c.self.inside.pipes.items = (let e = ap length c.as_slice.ensures.value in omega arith) in
    let held = pipe_is c.self.inside c.args.self.now c.args.k c.index_mut.result.now c.self.view_is inside c.index_mut.ensures.value in
    pipe_changed c.self.inside c.args.self.now c.args.k c.drop_prefix.new.held _ c.self.view_is (c.drop_prefix.ensures ∙ ap (drop c.args.n) held)
