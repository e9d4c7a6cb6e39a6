use Rattle.std.proofs.Common.{◌∙◌, ap, ℕ, ◌<◌, ◌≤◌, length, arith, subst}
use Rattle.std.specs.Prelude.{map, set, vec_capacity, slice_index}
use Rattle.nv_fs.specs.Views.{capacity_of}
use Rattle.std.proofs.lemmas.Result.{on_ok_weaker}
use Rattle.nv_fs.proofs.Places.{pipe_is, pipe_changed, pipe_same, pipe_reserved}
use Rattle.nv_fs.proofs.disk.FileSystem.reserve_buffer.Goals as goal

pub returns-then-k-as_slice-clause-state : goal.returns-then-k-as_slice-clause-state
returns-then-k-as_slice-clause-state c =
    let inside : c.args.k < length c.self.inside.pipes.items = (let e = ap length c.as_slice.ensures.value in omega arith) in
    let held = pipe_is c.self.inside c.args.self.now c.args.k c.index_mut.result.now c.self.view_is inside c.index_mut.ensures.value in
    pipe_changed c.self.inside c.args.self.now c.args.k c.reserve_to.new.held _ c.self.view_is (c.reserve_to.ensures.items ∙ held) ∙ pipe_same c.args.self.now.state c.args.k

pub returns-then-k-as_slice-clause-ok : goal.returns-then-k-as_slice-clause-ok
returns-then-k-as_slice-clause-ok c =
    let inside : c.args.k < length c.self.inside.pipes.items = (let e = ap length c.as_slice.ensures.value in omega arith) in
    on_ok_weaker {P = c.args.most ≤ vec_capacity c.reserve_to.new.held} {Q = c.args.k < length c.args.self.now.state.pipes → c.args.most ≤ slice_index (map capacity_of (set c.self.inside.pipes.items c.args.k c.reserve_to.new.held)) c.args.k} _ (λ p _. subst (λ (n : ℕ). c.args.most ≤ n) (pipe_reserved c.self.inside.pipes.items c.args.k c.reserve_to.new.held inside) p) c.reserve_to.ensures.ok
