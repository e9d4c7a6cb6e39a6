use Rattle.std.proofs.Common.{◌∙◌, ap, ◌<◌, Bool, List, length, arith, subst}
use Rattle.std.proofs.lemmas.Result.{on_ok_weaker}
use Rattle.nv_fs.specs.Contents.{HoldsRange}
use Rattle.nv_fs.proofs.Others.{beside}
use Rattle.nv_fs.proofs.Places.{file_is, content_changed, content_same, held_is}
use Rattle.nv_fs.proofs.disk.FileSystem.reserve_content.Goals as goal

pub returns-then-i-as_slice-clause-state : goal.returns-then-i-as_slice-clause-state
returns-then-i-as_slice-clause-state c =
    let inside : c.args.i < length c.self.inside.files.items = (let e = ap length c.as_slice.ensures.value in omega arith) in
    let held = file_is c.self.inside c.args.self.now c.args.i c.index_mut.result.now c.self.view_is inside c.index_mut.ensures.value in
    content_changed c.self.inside c.args.self.now c.args.i c.index_mut.result.now c.reserve.new.self _ c.self.view_is inside c.index_mut.ensures.value (c.reserve.ensures.bytes ∙ ap (λ f. f.bytes) held) ∙ content_same c.args.self.now.state c.args.i

pub returns-then-i-as_slice-clause-ok : goal.returns-then-i-as_slice-clause-ok
returns-then-i-as_slice-clause-ok c =
    let inside : c.args.i < length c.self.inside.files.items = (let e = ap length c.as_slice.ensures.value in omega arith) in
    on_ok_weaker {P = HoldsRange c.reserve.new.self.held c.args.place c.args.n} _
    (λ p _. subst (λ (h : List Bool). HoldsRange h c.args.place c.args.n) (held_is c.self.inside.files.items c.args.i record { name = c.index_mut.result.now.name; bytes = c.reserve.new.self } inside) p) c.reserve.ensures.ok

pub returns-then-i-as_slice-clause-others : goal.returns-then-i-as_slice-clause-others
returns-then-i-as_slice-clause-others c =
    let inside : c.args.i < length c.self.inside.files.items = (let e = ap length c.as_slice.ensures.value in omega arith) in
    beside c.self.inside c.args.self.now c.args.i c.args.place c.args.n c.index_mut.result.now c.reserve.new.self c.self.view_is inside c.index_mut.ensures.value c.reserve.ensures.others
