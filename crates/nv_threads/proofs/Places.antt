-- One thread in the table.
use Rattle.std.proofs.Common.{◌≡◌, ◌∙◌, sym, ap, refl, ℕ, zero, suc, ◌<◌, ◌≤◌, ◌==◌, Bool, true, false, cond, List, [], ◌∷◌, ◌++◌, length, take, get_or, set, drop, arith}
use Rattle.std.specs.Prelude.{Contains}
use Rattle.std.specs.List.{refill}
use Rattle.std.proofs.lemmas.Bool.Decides.{nat_tests}
use Rattle.nv_threads.specs.inner.Tasks.{task_numbers, task_place, with_doing}
use Rattle.nv_threads.specs.declared.tasks.Doing.{Doing}
use Rattle.nv_threads.specs.declared.tasks.Task.{Task}

same : (a b : ℕ) → a ≡ b → (a == b) ≡ true
same a b h = grind (arith, nat_tests)

module _ (t : Task) (ts : List Task) (tid : ℕ) where
  abbrev place_by : Bool → ℕ
  place_by b = cond b 0 (suc (task_place ts tid))

  inside_by : (b : Bool) → task_place ts tid < length ts → place_by b < suc (length ts)
  inside_by true h = omega arith
  inside_by false h = omega arith

  set_by : (b : Bool) (d : Task) (x : Doing) → place_by b < suc (length ts)
      → (task_place ts tid < length ts → set ts (task_place ts tid) (record { tid = (get_or ts (task_place ts tid) d).tid; doing = x }) ≡ with_doing ts tid x)
      → set (t ∷ ts) (place_by b) (record { tid = (get_or (t ∷ ts) (place_by b) d).tid; doing = x }) ≡ cond b (record t { doing = x } ∷ ts) (t ∷ with_doing ts tid x)
  set_by true d x h go = refl
  set_by false d x h go = ap (λ rest. t ∷ rest) (go (omega arith))

inside_at : (ts : List Task) (tid k : ℕ) → k < length (task_numbers ts) → get_or (task_numbers ts) k tid ≡ tid → task_place ts tid < length ts
inside_at [] tid k h e = absurd (omega arith)
inside_at (t ∷ ts) tid zero h e = rw (same t.tid tid e) (omega arith)
inside_at (t ∷ ts) tid (suc k) h e = inside_by t ts tid (t.tid == tid) (inside_at ts tid k (omega arith) e)

-- a thread that lives has a place
pub place_inside : (ts : List Task) (tid : ℕ) → Contains (task_numbers ts) tid → task_place ts tid < length ts
place_inside ts tid (k, h, e) = inside_at ts tid k h e

pub set_place : (ts : List Task) (tid : ℕ) (d : Task) (x : Doing) → task_place ts tid < length ts
    → set ts (task_place ts tid) (record { tid = (get_or ts (task_place ts tid) d).tid; doing = x }) ≡ with_doing ts tid x
set_place [] tid d x h = absurd (omega arith)
set_place (t ∷ ts) tid d x h = set_by t ts tid (t.tid == tid) d x h (set_place ts tid d x)

pub place_none : (ts : List Task) (tid i : ℕ) → length ts ≤ i → task_place (drop i ts) tid ≡ 0
place_none [] tid zero h = refl
place_none [] tid (suc i) h = refl
place_none (t ∷ ts) tid zero h = absurd (omega arith)
place_none (t ∷ ts) tid (suc i) h = place_none ts tid i (omega arith)

-- ---- a write through the table's slice

prefix : {A : Type 0} (ws ys : List A) → take (length ws) (ws ++ ys) ≡ ws
prefix [] ys = refl
prefix (w ∷ ws) ys = ap (λ rest. w ∷ rest) (prefix ws ys)

pub refilled : {A : Type 0} (xs ws : List A) → length ws ≡ length xs → refill (length xs) xs ws ≡ ws
refilled xs ws h = ap (λ n. refill n xs ws) (sym h) ∙ prefix ws (drop (length ws) xs)

pub length_doing : (ts : List Task) (tid : ℕ) (x : Doing) → length (with_doing ts tid x) ≡ length ts
length_doing [] tid x = refl
length_doing (t ∷ ts) tid x = by (t.tid == tid) (length_doing ts tid x)
  where
    by : (b : Bool) → length (with_doing ts tid x) ≡ length ts → length (cond b (record t { doing = x } ∷ ts) (t ∷ with_doing ts tid x)) ≡ suc (length ts)
    by true go = refl
    by false go = ap suc go

-- the whole of a list whose slice was written
pub rewritten : {A : Type 0} (n : ℕ) (xs ws : List A) → n ≡ length ws → take n (ws ++ drop (length ws) xs) ≡ ws
rewritten n xs ws h = ap (λ k. take k (ws ++ drop (length ws) xs)) h ∙ prefix ws (drop (length ws) xs)
