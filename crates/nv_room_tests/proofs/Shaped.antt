-- Calls that are shaped.
use Rattle.std.proofs.Common.{◌≡◌, ℕ, ◌≤◌, ◌==◌, ◌&&◌, not, min, true, false, List, [], ◌∷◌, length, ap, ◌∙◌, refl, arith}
use Rattle.std.proofs.lemmas.Bool.Decides.{nat_tests}
use Rattle.nv_calls.specs.declared.numbers.Syscall.{Syscall}
use Rattle.nv_calls.specs.declared.numbers.Syscall.TheVariants.{Write}
use Rattle.nv_calls.specs.Calls.{Request}
use Rattle.nv_calls.specs.Numbers.{syscall_of, is_local}
use Rattle.nv_calls.specs.Shapes.{IsShaped, is_shaped, is_shaped_as}

abbrev plain : ℕ → ℕ → Request
plain tid nr = record { tid = tid; nr = nr; args = 0 ∷ 0 ∷ 0 ∷ 0 ∷ 0 ∷ 0 ∷ []; bad = false; payload = [] }

plain_as : (k : Syscall) (tid nr : ℕ) → is_shaped_as k (plain tid nr) ≡ true
plain_as Write tid nr = refl
plain_as _ tid nr = refl

-- each call without arguments and bytes that is logged
pub plain-shaped : (tid nr : ℕ) → is_local nr ≡ false → IsShaped (plain tid nr)
unfolding is_shaped
plain-shaped tid nr logged = ap (λ b. not b && is_shaped_as (syscall_of nr) (plain tid nr)) logged ∙ plain_as (syscall_of nr) tid nr

-- a write of so many bytes
pub write-shaped : (tid count : ℕ) (bytes : List ℕ) → length bytes ≡ count → count ≤ 4096
    → IsShaped (record { tid = tid; nr = 64; args = 1 ∷ 0 ∷ count ∷ 0 ∷ 0 ∷ 0 ∷ []; bad = false; payload = bytes })
unfolding is_shaped syscall_of is_local
write-shaped tid count bytes e few = let all : (length bytes == min count 4096) ≡ true = grind (arith, nat_tests) in rw all refl

-- a call of clone without addresses
pub clone-shaped : (tid flags : ℕ) → IsShaped (record { tid = tid; nr = 220; args = flags ∷ 0 ∷ 0 ∷ 0 ∷ 0 ∷ 0 ∷ []; bad = false; payload = [] })
unfolding is_shaped syscall_of is_local
clone-shaped tid flags = refl

shaped_as_any : (s : Syscall) (c : Request) (tid : ℕ) → is_shaped_as s (record c { tid = tid }) ≡ is_shaped_as s c
shaped_as_any Write c tid = refl
shaped_as_any _ c tid = refl

-- whatever the thread
pub any-thread : (c : Request) (tid : ℕ) → IsShaped c → IsShaped (record c { tid = tid })
unfolding is_shaped
any-thread c tid h = ap (λ b. not (is_local c.nr) && b) (shaped_as_any (syscall_of c.nr) c tid) ∙ h
