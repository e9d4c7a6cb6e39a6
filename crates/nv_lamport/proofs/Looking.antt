-- Looks at head and the owner, as steps.
use Rattle.std.proofs.Common.{◌≡◌, ℕ}
use Rattle.nv_room.specs.declared.view.View.{View}
use Rattle.nv_room.specs.Kinds.{Stepped, looks_head, looks_owner}
use Rattle.nv_room.specs.Steps.{head_seen, owner_seen}
use Rattle.nv_room.proofs.Stepped.{one_step, more_steps}

module _ {T : Type 0} (n : ℕ) where
  pub head_looked : (v w : View T) (r : ℕ) → w ≡ head_seen v r → Stepped n v w
  head_looked v w r is = one_step n v w (looks_head r) is

  pub both_looked : (u v w : View T) (r x : ℕ) → v ≡ head_seen u r → w ≡ owner_seen v x → Stepped n u w
  both_looked u v w r x head owner = more_steps n u v w (head_looked u v r head) (one_step n v w (looks_owner x) owner)
