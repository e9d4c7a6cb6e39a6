use Rattle.std.proofs.Common.{◌∙◌, sym, ap, ◌<◌, [], map, length, set, arith}
use Rattle.std.proofs.lemmas.Bool.{cond-true, lt-ltb}
use Rattle.nv_fs.specs.Views.{items_of}
use Rattle.nv_fs.proofs.Places.{map_with_at}
use Rattle.nv_fs.proofs.ends.put_empty.Goals as goal

pub returns-then-k-as_slice : goal.returns-then-k-as_slice
returns-then-k-as_slice c =
    let xs = c.args.pipes.now.items in
    let inside : c.args.k < length xs = (let e = ap length c.as_slice.ensures.value in omega arith) in
    ap (map items_of) (sym (cond-true _ (set xs c.args.k c.clear.new.self) _ (lt-ltb c.args.k (length xs) inside))) ∙ map_with_at items_of xs c.args.k c.clear.new.self [] c.clear.ensures.items
