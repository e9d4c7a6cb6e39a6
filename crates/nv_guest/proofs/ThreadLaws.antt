-- One thread of the table changes, and the others stay.
use Rattle.std.proofs.Common.{◌≡◌, ap, refl, ℕ, zero, suc, ◌==◌, Bool, true, false, cond, List, [], ◌∷◌, arith}
use Rattle.std.specs.Prelude.{Contains}
use Rattle.std.proofs.lemmas.Bool.Decides.{nat_tests}
use Rattle.nv_machine.specs.Registers.{Registers}
use Rattle.nv_guest.specs.Threads.{tids, regs_at, with_regs}
use Rattle.nv_guest.specs.declared.guest.Thread.{Thread}

is : (a b : ℕ) → a ≡ b → (a == b) ≡ true
is a b h = grind (arith, nat_tests)

pub tids_stay : (ts : List Thread) (tid : ℕ) (r : Registers) → tids (with_regs ts tid r) ≡ tids ts
tids_stay [] tid r = refl
tids_stay (t ∷ ts) tid r = by (t.tid == tid) (tids_stay ts tid r)
  where
    by : (b : Bool) → tids (with_regs ts tid r) ≡ tids ts → tids (cond b (record t { regs = r } ∷ ts) (t ∷ with_regs ts tid r)) ≡ tids (t ∷ ts)
    by true go = refl
    by false go = ap (λ rest. t.tid ∷ rest) go

pub regs_written : (ts : List Thread) (tid : ℕ) (r : Registers) → Contains (tids ts) tid → regs_at (with_regs ts tid r) tid ≡ r
regs_written [] tid r (k, h, e) = absurd (omega arith)
regs_written (t ∷ ts) tid r c = by (t.tid == tid) refl c (regs_written ts tid r)
  where
    by : (b : Bool) → (t.tid == tid) ≡ b → Contains (tids (t ∷ ts)) tid → (Contains (tids ts) tid → regs_at (with_regs ts tid r) tid ≡ r)
        → regs_at (cond b (record t { regs = r } ∷ ts) (t ∷ with_regs ts tid r)) tid ≡ r
    by true e c go = rw e refl
    by false e (zero, h, f) go = let k = is t.tid tid f in cc
    by false e (suc k, h, f) go = rw e (go (k, omega arith, f))

pub regs_same : (ts : List Thread) (tid : ℕ) → with_regs ts tid (regs_at ts tid) ≡ ts
regs_same [] tid = refl
regs_same (t ∷ ts) tid = by (t.tid == tid) (regs_same ts tid)
  where
    by : (b : Bool) → with_regs ts tid (regs_at ts tid) ≡ ts → cond b (record t { regs = cond b t.regs (regs_at ts tid) } ∷ ts) (t ∷ with_regs ts tid (cond b t.regs (regs_at ts tid))) ≡ t ∷ ts
    by true go = refl
    by false go = ap (λ rest. t ∷ rest) go

pub regs_twice : (ts : List Thread) (tid : ℕ) (a b : Registers) → with_regs (with_regs ts tid a) tid b ≡ with_regs ts tid b
regs_twice [] tid a b = refl
regs_twice (t ∷ ts) tid a b = by (t.tid == tid) refl (regs_twice ts tid a b)
  where
    by : (x : Bool) → (t.tid == tid) ≡ x → with_regs (with_regs ts tid a) tid b ≡ with_regs ts tid b
        → with_regs (cond x (record t { regs = a } ∷ ts) (t ∷ with_regs ts tid a)) tid b ≡ cond x (record t { regs = b } ∷ ts) (t ∷ with_regs ts tid b)
    by true e go = rw e refl
    by false e go = rw e (ap (λ rest. t ∷ rest) go)
