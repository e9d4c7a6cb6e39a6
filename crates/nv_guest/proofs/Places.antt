-- One thread among the others.
use Rattle.std.proofs.Common.{◌≡◌, ◌∙◌, sym, ap, refl, ℕ, zero, suc, ◌<◌, ◌≤◌, ◌==◌, Bool, true, false, cond, List, [], ◌∷◌, ◌++◌, length, take, get_or, set, drop, arith}
use Rattle.std.specs.Prelude.{Contains, remove}
use Rattle.std.specs.List.{refill}
use Rattle.std.proofs.lemmas.List.{length-set}
use Rattle.std.proofs.lemmas.Bool.Decides.{nat_tests}
use Rattle.nv_machine.specs.Registers.{Registers}
use Rattle.nv_guest.specs.Threads.{tids, thread_place, regs_at, with_regs, dropped}
use Rattle.nv_guest.specs.declared.guest.Thread.{Thread}

same : (a b : ℕ) → a ≡ b → (a == b) ≡ true
same a b h = grind (arith, nat_tests)

module _ (t : Thread) (ts : List Thread) (tid : ℕ) where
  abbrev place_by : Bool → ℕ
  place_by b = cond b 0 (suc (thread_place ts tid))

  inside_by : (b : Bool) → thread_place ts tid < length ts → place_by b < suc (length ts)
  inside_by true h = omega arith
  inside_by false h = omega arith

  within_by : (b : Bool) → b ≡ false → place_by b < suc (length ts) → thread_place ts tid < length ts
  within_by true e h = cc
  within_by false e h = omega arith

  at_by : (b : Bool) (d : Thread) → place_by b < suc (length ts) → (thread_place ts tid < length ts → (get_or ts (thread_place ts tid) d).regs ≡ regs_at ts tid)
      → (get_or (t ∷ ts) (place_by b) d).regs ≡ cond b t.regs (regs_at ts tid)
  at_by true d h go = refl
  at_by false d h go = go (omega arith)

  set_by : (b : Bool) (d : Thread) (r : Registers) → place_by b < suc (length ts)
      → (thread_place ts tid < length ts → set ts (thread_place ts tid) (record { tid = (get_or ts (thread_place ts tid) d).tid; regs = r }) ≡ with_regs ts tid r)
      → set (t ∷ ts) (place_by b) (record { tid = (get_or (t ∷ ts) (place_by b) d).tid; regs = r }) ≡ cond b (record t { regs = r } ∷ ts) (t ∷ with_regs ts tid r)
  set_by true d r h go = refl
  set_by false d r h go = ap (λ rest. t ∷ rest) (go (omega arith))

  remove_by : (b : Bool) → place_by b < suc (length ts) → (thread_place ts tid < length ts → remove ts (thread_place ts tid) ≡ dropped ts tid)
      → remove (t ∷ ts) (place_by b) ≡ cond b ts (t ∷ dropped ts tid)
  remove_by true h go = refl
  remove_by false h go = ap (λ rest. t ∷ rest) (go (omega arith))

  there_by : (b : Bool) (r : Registers) → (t.tid == tid) ≡ b → place_by b < suc (length ts) → (thread_place ts tid < length ts → regs_at (with_regs ts tid r) tid ≡ r)
      → regs_at (cond b (record t { regs = r } ∷ ts) (t ∷ with_regs ts tid r)) tid ≡ r
  there_by true r e h go = rw e refl
  there_by false r e h go = rw e (go (omega arith))

inside_at : (ts : List Thread) (tid k : ℕ) → k < length (tids ts) → get_or (tids ts) k tid ≡ tid → thread_place ts tid < length ts
inside_at [] tid k h e = absurd (omega arith)
inside_at (t ∷ ts) tid zero h e = rw (same t.tid tid e) (omega arith)
inside_at (t ∷ ts) tid (suc k) h e = inside_by t ts tid (t.tid == tid) (inside_at ts tid k (omega arith) e)

-- a thread that lives has a place
pub place_inside : (ts : List Thread) (tid : ℕ) → Contains (tids ts) tid → thread_place ts tid < length ts
place_inside ts tid (k, h, e) = inside_at ts tid k h e

pub at_place : (ts : List Thread) (tid : ℕ) (d : Thread) → thread_place ts tid < length ts → (get_or ts (thread_place ts tid) d).regs ≡ regs_at ts tid
at_place [] tid d h = absurd (omega arith)
at_place (t ∷ ts) tid d h = at_by t ts tid (t.tid == tid) d h (at_place ts tid d)

pub set_place : (ts : List Thread) (tid : ℕ) (d : Thread) (r : Registers) → thread_place ts tid < length ts
    → set ts (thread_place ts tid) (record { tid = (get_or ts (thread_place ts tid) d).tid; regs = r }) ≡ with_regs ts tid r
set_place [] tid d r h = absurd (omega arith)
set_place (t ∷ ts) tid d r h = set_by t ts tid (t.tid == tid) d r h (set_place ts tid d r)

pub remove_place : (ts : List Thread) (tid : ℕ) → thread_place ts tid < length ts → remove ts (thread_place ts tid) ≡ dropped ts tid
remove_place [] tid h = absurd (omega arith)
remove_place (t ∷ ts) tid h = remove_by t ts tid (t.tid == tid) h (remove_place ts tid)

pub regs_there : (ts : List Thread) (tid : ℕ) (r : Registers) → thread_place ts tid < length ts → regs_at (with_regs ts tid r) tid ≡ r
regs_there [] tid r h = absurd (omega arith)
regs_there (t ∷ ts) tid r h = there_by t ts tid (t.tid == tid) r refl h (regs_there ts tid r)

-- ---- the steps of the search for a place

pub place_none : (ts : List Thread) (tid i : ℕ) → length ts ≤ i → thread_place (drop i ts) tid ≡ 0
place_none [] tid zero h = refl
place_none [] tid (suc i) h = refl
place_none (t ∷ ts) tid zero h = absurd (omega arith)
place_none (t ∷ ts) tid (suc i) h = place_none ts tid i (omega arith)

-- ---- a write to one thread of the table

take_prefix : {A : Type 0} (ws ys : List A) → take (length ws) (ws ++ ys) ≡ ws
take_prefix [] ys = refl
take_prefix (w ∷ ws) ys = ap (λ rest. w ∷ rest) (take_prefix ws ys)

refilled : (xs ws : List Thread) → length ws ≡ length xs → refill (length xs) xs ws ≡ ws
refilled xs ws h = ap (λ n. refill n xs ws) (sym h) ∙ take_prefix ws (drop (length ws) xs)

pub write_place : (xs ws : List Thread) (tid place : ℕ) (d : Thread) (r : Registers) → ws ≡ xs → place ≡ thread_place xs tid → thread_place xs tid < length xs
    → refill (length xs) xs (set ws place (record { tid = (get_or ws place d).tid; regs = r })) ≡ with_regs xs tid r
write_place xs ws tid place d r same at inside =
    let t : Thread = record { tid = (get_or ws place d).tid; regs = r } in
    let long : length (set ws place t) ≡ length xs = length-set ws place t ∙ ap length same in
    refilled xs (set ws place t) long
    ∙ ap (λ zs. set zs place (record { tid = (get_or zs place d).tid; regs = r })) same
    ∙ ap (λ k. set xs k (record { tid = (get_or xs k d).tid; regs = r })) at ∙ set_place xs tid d r inside

-- the whole table, by the part that the code wrote through
pub written_place : (xs ws : List Thread) (tid place : ℕ) (d : Thread) (r : Registers) (fore : List Thread) → ws ≡ xs → fore ≡ xs → place ≡ thread_place fore tid → Contains (tids xs) tid
    → (refill (length xs) xs (set ws place (record { tid = (get_or ws place d).tid; regs = r })) ≡ with_regs xs tid r) × ((get_or ws place d).regs ≡ regs_at xs tid) × (regs_at (with_regs xs tid r) tid ≡ r)
written_place xs ws tid place d r fore same looked at lives =
    let inside = place_inside xs tid lives in
    let here : place ≡ thread_place xs tid = at ∙ ap (λ ts. thread_place ts tid) looked in
    (write_place xs ws tid place d r same here inside, rw (same, here) (at_place xs tid d inside), regs_there xs tid r inside)
