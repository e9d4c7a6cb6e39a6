use Rattle.std.proofs.Common.{sym, subst, ℕ, List, [], ◌∷◌, false, ap}
use Rattle.nv_calls.specs.Shapes.{IsShaped}
use Rattle.nv_room_tests.proofs.Shaped.{clone-shaped}
use Rattle.nv_room_tests.proofs.calls.clone.Goals as goal

pub returns-clause-shaped : goal.returns-clause-shaped
returns-clause-shaped c =
    subst (λ (bytes : List ℕ). IsShaped (record { tid = 100; nr = 220; args = 69376 ∷ 0 ∷ 0 ∷ 0 ∷ 0 ∷ 0 ∷ []; bad = false; payload = bytes }))
    (sym (ap (λ b. b.bytes) c.in_ok-payload.ensures)) (clone-shaped 100 69376)
