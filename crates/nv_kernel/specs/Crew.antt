-- The threads that live, as the kernel counts them: what clone, exit and exit_group answer and leave.
use Rattle.std.specs.Prelude.{ℕ, ◌+◌, ◌≤◌, ℤ, pos, Bool, true, false, ◌==◌, ◌||◌, not, nat_lt, List, [], ◌∷◌, ◌++◌, length, filter, Contains}
use Rattle.nv_calls.specs.Errors.{EINVAL, EAGAIN}
use Rattle.nv_calls.specs.Limits.{FIRST_THREAD, MOST_THREADS}

-- the threads that live, in the order in which they came, and how many calls to clone succeeded
pub record Crew : Type 0 where
  pub live : List ℕ
  pub clones : ℕ

-- the first thread alone
abbrev pub first_crew : Crew
first_crew = record { live = FIRST_THREAD ∷ []; clones = 0 }

-- clone(2): CLONE_VM, CLONE_FS, CLONE_FILES, CLONE_SIGHAND and CLONE_THREAD (0x10F00 together) are needed, and CLONE_SYSVSEM (0x40000) and
-- CLONE_SETTLS (0x80000) may stand beside them
abbrev pub may_clone : ℕ → Bool
may_clone flags = (flags == 0x10F00) || (flags == 0x50F00) || (flags == 0x90F00) || (flags == 0xD0F00)

-- each new thread has the next number
abbrev pub clone_as : Crew → Bool → Bool → ℤ × Crew
clone_as s false full = (EINVAL, s)
clone_as s true true = (EAGAIN, s)
clone_as s true false = (pos (FIRST_THREAD + 1 + s.clones), record { live = s.live ++ (FIRST_THREAD + 1 + s.clones) ∷ []; clones = s.clones + 1 })

abbrev pub clone_of : Crew → ℕ → ℤ × Crew
clone_of s flags = clone_as s (may_clone flags) (not (nat_lt (length s.live) MOST_THREADS))

abbrev pub exit_of : Crew → ℕ → Crew
exit_of s tid = record s { live = filter (λ t. not (t == tid)) s.live }

abbrev pub with_none_live : Crew → Crew
with_none_live s = record s { live = [] }

-- each thread's number is one that was given
abbrev pub IsCrew : Crew → Type 0
IsCrew s = (t : ℕ) → Contains s.live t → t ≤ FIRST_THREAD + s.clones
