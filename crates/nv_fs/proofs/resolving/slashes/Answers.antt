use Rattle.std.proofs.Common.{◌==◌, ◌≤◌, not, ℕ, sym, subst, ap, ◌∙◌, length, rules, tests, unwrap_or}
use Rattle.std.proofs.lemmas.Iterator.{YieldsList-from_slice}
use Rattle.std.proofs.lemmas.Iterator.Search.{position_from_yields_List}
use Rattle.std.proofs.lemmas.List.Sums.{prefix_len-le-length}
use Rattle.nv_fs.proofs.Firsts.{unwrap_or-place}
use Rattle.nv_fs.proofs.resolving.slashes.Goals as goal

pub returns-clause-is : goal.returns-clause-is
returns-clause-is c =
    let text = c.args.path.now in
    c.unwrap_or.ensures ∙ ap (λ o. unwrap_or o (length text)) (position_from_yields_List (λ b. not (b == 47)) _ _ _ c.position.ensures.ran (YieldsList-from_slice text cc) (λ x b q k. search (rules, tests)))
    ∙ unwrap_or-place _ (length text) (prefix_len-le-length _ text)

pub returns-clause-inside : goal.returns-clause-inside
returns-clause-inside c = let P : ℕ → Type 0 = λ n. n ≤ length c.args.path.now in subst P (sym (returns-clause-is c)) (prefix_len-le-length _ c.args.path.now)
