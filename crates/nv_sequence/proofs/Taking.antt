-- A version's turn, by what became of it.
use Rattle.std.proofs.Common.{◌≡◌, sym, ap, ℕ, true, List, Option, Some, None}
use Rattle.std.specs.Option.{is_some}
use Rattle.nv_calls.specs.Calls.{Entry}
use Rattle.nv_threads.specs.Behaviours.{Behaviour, IsProcess}
use Rattle.nv_replay.specs.declared.fate.Fate.{Fate}
use Rattle.nv_replay.specs.Follow.{Judge, Follower, follow}
use Rattle.nv_replay.specs.Version.{Running}
use Rattle.nv_replay.proofs.Fates.{fate_if}
use Rattle.nv_replay.proofs.Fates as fates
use Rattle.nv_sequence.specs.Passing.{followed}

some_of : (o f : Option Fate) → is_some o ≡ true → o ≡ f → (f ≡ None → ⊥)
some_of None f h e k = cc
some_of (Some x) f h e k = cc

-- who has ended comes to nothing else
pub fated_follow : {P : Type 0} (g : Behaviour P) (laws : IsProcess g) (judge : Judge) (log : List Entry) (s : Follower P) → (s.fate ≡ None → ⊥) → follow g judge log s ≡ s
fated_follow g laws judge log s h = fates.fated_follow g laws judge log s (fate_if s.fate h)

pub fated_done : {P : Type 0} (g : Behaviour P) (laws : IsProcess g) (judges : ℕ → Judge) (log : List Entry) (r : Running P) (o : Option Fate)
    → is_some o ≡ true → o ≡ r.at.fate → r ≡ followed g judges log r
fated_done {P = P} g laws judges log r o h e = ap (λ (x : Follower P). record r { at = x }) (sym (fated_follow g laws (judges r.index) log r.at (some_of o r.at.fate h e)))
