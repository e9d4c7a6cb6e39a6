-- A source that tells all moments at which it was read.
use Rattle.std.proofs.Common.{◌≡◌, ◌∙◌, ℕ, ◌≤◌, List, [], ◌++◌, Some, length, map, take, sym, ap, subst, arith}
use Rattle.std.specs.List.{All}
use Rattle.std.proofs.lemmas.Grind.{common_steps}
use Rattle.nv_live.specs.Source.{Moment, Asked}

-- where it had none, they are all of its own
pub all_asked : (before after : List Moment) (stands : Moment → Type 0) → before ≡ [] → Asked (Some before) (Some after) stands → All stands after
all_asked before after stands none p = subst (All stands) (sym (p.gave ∙ ap (λ b. b ++ p.moments) none)) p.each

-- and as many were seen as were told
pub as_many : {X Y Z : Type 0} (all : List Y) (f : X → Z) (seen : List X) (next : ℕ) → next ≤ length seen → length (take next all) ≤ length (map f seen)
as_many all f seen next enough = grind (arith, common_steps)
