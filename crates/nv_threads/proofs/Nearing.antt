-- Each turn step is nearer to the end than the one before.
use Rattle.std.proofs.Common.{◌≡◌, sym, subst, refl, ℕ, suc, ◌+◌, ◌*◌, ◌<◌, ◌≤◌, ⊎_elim, Bool, true, false, cond, ◌==◌, ◌||◌, ◌&&◌, not, nat_lt, List, [], ◌∷◌, length, Option, Some, None, arith}
use Rattle.std.specs.Prelude.{Contains}
use Rattle.std.specs.List.{list_any}
use Rattle.std.proofs.lemmas.List.{length-map}
use Rattle.std.proofs.lemmas.Bool.Decides.{nat_tests}
use Rattle.nv_threads.specs.Threads.{Proc, TaskState, Runs, Asks, Waits, Task, task_tid, task_tids, state_at, is_asking, turn_length, turn_passed, wanted, moves, moves_task, most_passes}
use Rattle.nv_threads.specs.inner.Process.{are_apart}
use Rattle.nv_threads.specs.Going.{above, aim, turn_stays, passes}
use Rattle.nv_threads.specs.declared.turns.Want.{Want}
use Rattle.nv_threads.specs.declared.turns.Want.TheVariants.{Any, Only}
use Rattle.nv_threads.proofs.Orders.{at_prefix, after, either, above_few, above_less, Next, Higher, Lowest, next_is}

-- ---- the thread that can bring the process on

abbrev moves_at : Want → Option TaskState → Bool
moves_at w None = false
moves_at w (Some s) = moves w s

or_parts : (a b : Bool) → (a || b) ≡ true → a ≡ false → b ≡ true
or_parts true b h k = cc
or_parts false b h k = h

and_both : (a b : Bool) → (a && b) ≡ true → (a ≡ true) × (b ≡ true)
and_both true b h = (refl, h)
and_both false b h = cc

not_true : (b : Bool) → not b ≡ true → b ≡ false
not_true true h = cc
not_true false h = refl

absent : (t r : ℕ) (ts : List ℕ) → list_any (λ u. u == t) ts ≡ false → Contains ts r → (t == r) ≡ false
absent t r [] h (k, i, e) = absurd (omega arith)
absent t r (x ∷ xs) h c = ⊎_elim
    (λ (e : x ≡ r). by (x == t) refl h e)
    (λ (c : Contains xs r). absent t r xs (by_rest (x == t) h) c) (either x xs r c)
  where
    by_rest : (b : Bool) → (b || list_any (λ u. u == t) xs) ≡ false → list_any (λ u. u == t) xs ≡ false
    by_rest true h = cc
    by_rest false h = h

    by : (b : Bool) → (x == t) ≡ b → (b || list_any (λ u. u == t) xs) ≡ false → x ≡ r → (t == r) ≡ false
    by true f h e = cc
    by false f h e = grind (arith, nat_tests)

pub record Aim (w : Want) (ts : List Task) : Type 0 where
  pub lives : Contains (task_tids ts) (aim w ts)
  pub moves : moves_at w (state_at ts (aim w ts)) ≡ true

aim_by : (w : Want) (t : Task) (ts : List Task) (b : Bool) → moves w t.state ≡ b → (b || list_any (moves_task w) ts) ≡ true → are_apart (task_tids (t ∷ ts)) ≡ true
    → (list_any (moves_task w) ts ≡ true → are_apart (task_tids ts) ≡ true → Aim w ts)
    → Contains (task_tids (t ∷ ts)) (cond b t.tid (aim w ts)) × (moves_at w (state_at (t ∷ ts) (cond b t.tid (aim w ts))) ≡ true)
aim_by w t ts true e h a go = (at_prefix t.tid (task_tids ts), (let z : (t.tid == t.tid) ≡ true = grind (arith, nat_tests) in rw z e))
aim_by w t ts false e h a go =
    let p = and_both (not (list_any (λ u. u == t.tid) (task_tids ts))) (are_apart (task_tids ts)) a in
    let i = go h p.1 in
    let z : (t.tid == aim w ts) ≡ false = absent t.tid (aim w ts) (task_tids ts) (not_true _ p.0) i.lives in
    (after t.tid (task_tids ts) (aim w ts) i.lives, rw z i.moves)

pub aim_is : (w : Want) (ts : List Task) → list_any (moves_task w) ts ≡ true → are_apart (task_tids ts) ≡ true → Aim w ts
aim_is w [] h a = cc
aim_is w (t ∷ ts) h a = let r = aim_by w t ts (moves w t.state) refl h a (aim_is w ts) in record { lives = r.0; moves = r.1 }

-- ---- passing the turn

stays_there : (w : Want) (p : Proc) (s : Option TaskState) → state_at p.tasks p.turn ≡ s → moves_at w s ≡ true → (p.slice == 0) ≡ false → turn_stays w p ≡ true
stays_there w p None e h n = cc
stays_there w p (Some Runs) e h n = rw (e, n) (or_true (is_asking (state_at p.tasks (wanted w p))))
  where
    or_true : (b : Bool) → (b || true) ≡ true
    or_true true = refl
    or_true false = refl
stays_there Any p (Some (Asks call)) e h n = rw e refl
stays_there (Only t) p (Some (Asks call)) e h n = cc
stays_there w p (Some (Waits address)) e h n = cc

fresh_turn : (turn_length == 0) ≡ false
unfolding turn_length
fresh_turn = refl

stays_at_aim : (w : Want) (p : Proc) → Aim w p.tasks → (turn_passed p).turn ≡ aim w p.tasks → turn_stays w (turn_passed p) ≡ true
stays_at_aim w p a e = stays_there w (turn_passed p) (state_at p.tasks (turn_passed p).turn) refl (subst (λ (x : ℕ). moves_at w (state_at p.tasks x) ≡ true) (sym e) a.moves) fresh_turn

abbrev turns_left : ℕ → List ℕ → ℕ → ℕ → ℕ
turns_left turn live r n = suc (above turn live + cond (nat_lt turn r) 0 (suc n))

module _ (live : List ℕ) (r n x y : ℕ) (c : Contains live r) (few : length live ≤ n) where
  below : (b d : Bool) → nat_lt x r ≡ b → nat_lt y r ≡ d → Next x live y → (y ≡ r → ⊥) → suc (above y live + cond d 0 (suc n)) < suc (above x live + cond b 0 (suc n))
  below true true e f (Higher up inside all) o = let g = above_less x y live up inside in omega (arith, g)
  below false false e f (Higher up inside all) o = let g = above_less x y live up inside in omega (arith, g)
  below false true e f (Higher up inside all) o = let g = above_less x y live up inside in omega (arith, g)
  below true false e f (Higher up inside all) o =
      let p : x < r = grind (arith, nat_tests) in
      let q : r ≤ y = grind (arith, nat_tests) in
      let z = all r c p in
      let s : y ≡ r = omega arith in
      absurd (o s)
  below true d e f (Lowest all inside low) o = absurd (let p : x < r = grind (arith, nat_tests) in let z = all r c in omega arith)
  below false true e f (Lowest all inside low) o = let g = above_few y live in omega (arith, g)
  below false false e f (Lowest all inside low) o =
      let q : r ≤ y = grind (arith, nat_tests) in
      let z = low r c in
      let s : y ≡ r = omega arith in
      absurd (o s)

length_tids : (ts : List Task) → length (task_tids ts) ≡ length ts
length_tids ts = length-map ts task_tid

passes_by : (w : Want) (p : Proc) (b : Bool) → turn_stays w (turn_passed p) ≡ b → turn_stays w p ≡ false → Aim w p.tasks
    → cond b 0 (turns_left (turn_passed p).turn (task_tids p.tasks) (aim w p.tasks) (length p.tasks)) < passes w p
passes_by w p true e h a = rw h (omega arith)
passes_by w p false e h a =
    let n = length_tids p.tasks in
    rw h (below (task_tids p.tasks) (aim w p.tasks) (length p.tasks) p.turn (turn_passed p).turn a.lives (omega arith) (nat_lt p.turn (aim w p.tasks)) (nat_lt (turn_passed p).turn (aim w p.tasks)) refl refl
    (next_is p.turn (task_tids p.tasks) (aim w p.tasks) a.lives) (λ s. (let t = stays_at_aim w p a s in cc)))

pub passes_fall : (w : Want) (p : Proc) → turn_stays w p ≡ false → Aim w p.tasks → passes w (turn_passed p) < passes w p
passes_fall w p h a = passes_by w p (turn_stays w (turn_passed p)) refl h a

few_by : (b d : Bool) (a n : ℕ) → a ≤ n → cond b 0 (suc (a + cond d 0 (suc n))) < suc (suc (suc (2 * n)))
few_by true d a n h = omega arith
few_by false true a n h = omega arith
few_by false false a n h = omega arith

pub passes_few : (w : Want) (p : Proc) → passes w p < most_passes p.tasks
passes_few w p =
    let n = length_tids p.tasks in
    let f = above_few p.turn (task_tids p.tasks) in
    few_by (turn_stays w p) (nat_lt p.turn (aim w p.tasks)) (above p.turn (task_tids p.tasks)) (length p.tasks) (omega arith)
