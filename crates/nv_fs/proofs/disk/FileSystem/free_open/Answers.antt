use Rattle.std.proofs.Common.{rules, ◌≡◌, ◌∙◌, sym, ap, ℕ, ◌-◌, true, length, arith}
use Rattle.nv_fs.specs.States.{least_free, is_shared, free_open}
use Rattle.nv_fs.proofs.Least.{least_step}
use Rattle.nv_fs.proofs.disk.FileSystem.free_open.Goals as goal

pub loop-i-init : goal.loop-i-init
unfolding free_open
loop-i-init c =
    let n : length c.as_slice-i-end.result.now - 0 ≡ length c.args.self.now.state.opens =
    (let e = ap length (c.as_slice-i-end.ensures.value) in let f : length c.self.inside.opens.items ≡ length c.args.self.now.state.opens = ap (λ z. length z.state.opens) c.self.view_is in omega arith) in
    ap (λ (z : ℕ). least_free (is_shared c.args.self.now.state) z 0) n

pub loop-i-preserved : goal.loop-i-preserved
loop-i-preserved c =
    let used : is_shared c.args.self.now.state c.loop-i.i ≡ true = search rules in
    sym (least_step (is_shared c.args.self.now.state) (length c.as_slice-i-end.result.now) c.loop-i.i (omega arith) used) ∙ c.loop-i.invariant
