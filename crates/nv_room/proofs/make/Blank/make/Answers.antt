use Rattle.std.proofs.Common.{arith, ap, sym, subst, ◌∙◌, ℕ, ◌*◌, List, ◌<◌, length, set, replicate}
use Rattle.std.proofs.Math.ListN.{length-replicate}
use Rattle.nv_room.proofs.Placement.{header_inside}
use Rattle.nv_room.proofs.make.Blank.make.Goals as goal

pub index_mut-requires : goal.index_mut-requires
index_mut-requires g c =
    let a : 0 < length c.in_ok-words.words.items =
    subst (λ (z : ℕ). 0 < z) (sym (ap length (c.in_ok-words.ensures.items_if_clones_equal (λ y e. e)) ∙ length-replicate {A = ℕ} c.words_of.result 0 ∙ c.words_of.ensures)) (header_inside _ _ 0 (omega arith)) in
    omega arith

pub returns-clause-words : goal.returns-clause-words
returns-clause-words g c =
    ap (λ (z : List ℕ). set z 0 (c.args.versions * 64)) (c.in_ok-words.ensures.items_if_clones_equal (λ y e. e) ∙ ap (λ (n : ℕ). replicate {A = ℕ} n 0) c.words_of.ensures)
