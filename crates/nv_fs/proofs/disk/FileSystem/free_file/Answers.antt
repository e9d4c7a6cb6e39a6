use Rattle.std.proofs.Common.{rules, ◌≡◌, ◌∙◌, sym, ap, ℕ, ◌-◌, true, length, arith}
use Rattle.nv_fs.specs.States.{least_free, is_kept}
use Rattle.nv_fs.specs.Opened.{free_file}
use Rattle.nv_fs.proofs.Lengths.{files_length as length_of}
use Rattle.nv_fs.proofs.Least.{least_step}
use Rattle.nv_fs.proofs.disk.FileSystem.free_file.Goals as goal

pub loop-i-init : goal.loop-i-init
unfolding free_file
loop-i-init c =
    let n : length c.as_slice-i-end.result.now - 0 ≡ length c.args.self.now.state.files =
    (let e = ap length (c.as_slice-i-end.ensures.value) in let f : length c.self.inside.files.items ≡ length c.args.self.now.state.files = length_of c.self.inside c.args.self.now c.self.view_is in omega arith) in
    ap (λ (z : ℕ). least_free (is_kept c.args.self.now.state) z 0) n

pub loop-i-preserved : goal.loop-i-preserved
loop-i-preserved c =
    let used : is_kept c.args.self.now.state c.loop-i.i ≡ true = search rules in
    sym (least_step (is_kept c.args.self.now.state) (length c.as_slice-i-end.result.now) c.loop-i.i (omega arith) used) ∙ c.loop-i.invariant
