-- Each step that gets on leaves one fewer.
use Rattle.std.proofs.Common.{◌≡◌, ℕ, ◌+◌, ◌*◌, ◌≤◌, Bool, true, false, List, [], ◌∷◌, length, sym, refl, ap, subst, ⊎_elim, arith, length-append}
use Rattle.std.specs.Prelude.{◌==◌, if◌then◌else◌}
use Rattle.nv_words.specs.Spelling.{low}
use Rattle.nv_calls.specs.Limits.{MOST_EVENTS}
use Rattle.nv_room.specs.declared.view.View.{View}
use Rattle.nv_room.specs.declared.view.Role.{Role}
use Rattle.nv_room.specs.declared.view.Role.TheVariants.{Reader, Lead, Opening, Leaving, Moving, Gone, Spent}
use Rattle.nv_room.specs.Steps.{with_note, with_miss}
use Rattle.nv_room.specs.Kinds.{Kind, looks_head, looks_owner, looks_cursor, looks_spare, probes, reads, writes, sees, publishes, takes, gives_up, leaves, opens, hands, moves, StepGives, Went}
use Rattle.nv_laws.specs.Steps.{turns_at, steps_left, gets_on, steps_on}

pub at_most_four : (role : Role) → turns_at role ≤ 4
at_most_four Reader = omega arith
at_most_four Lead = omega arith
at_most_four Opening = omega arith
at_most_four Leaving = omega arith
at_most_four Moving = omega arith
at_most_four Gone = omega arith
at_most_four Spent = omega arith

module _ {T : Type 0} (n : ℕ) where
  -- a step that leaves role, station and events
  same : (v w : View T) → w.role ≡ v.role → w.station ≡ v.station → w.seen ≡ v.seen → 0 + steps_left n w ≤ steps_left n v
  same v w role station seen = let a = ap turns_at role in let b = ap (λ (z : List (List ℕ)). length z) seen in omega arith

  -- a step that changes the role alone
  turned : (v w : View T) → w.station ≡ v.station → w.seen ≡ v.seen → 1 + turns_at w.role ≤ turns_at v.role → 1 + steps_left n w ≤ steps_left n v
  turned v w station seen role = let b = ap (λ (z : List (List ℕ)). length z) seen in omega arith

  by_note : (b : Bool) (v : View T) (l : ℕ) → 0 + steps_left n (if b then with_note l v else with_miss l v) ≤ steps_left n v
  by_note true v l = same v (with_note l v) refl refl refl
  by_note false v l = same v (with_miss l v) refl refl refl

  pub one_falls : (v w : View T) (k : Kind) → StepGives n v w k → gets_on k + steps_left n w ≤ steps_left n v
  one_falls v w (looks_head r) g = same v w (ap (λ (z : View T). z.role) g) (ap (λ (z : View T). z.station) g) (ap (λ (z : View T). z.seen) g)
  one_falls v w (looks_owner r) g = same v w (ap (λ (z : View T). z.role) g) (ap (λ (z : View T). z.station) g) (ap (λ (z : View T). z.seen) g)
  one_falls v w (looks_cursor s r) g = same v w (ap (λ (z : View T). z.role) g) (ap (λ (z : View T). z.station) g) (ap (λ (z : View T). z.seen) g)
  one_falls v w (looks_spare r) g = same v w (ap (λ (z : View T). z.role) g) (ap (λ (z : View T). z.station) g) (ap (λ (z : View T). z.seen) g)
  one_falls v w (probes l r) g = subst (λ (z : View T). 0 + steps_left n z ≤ steps_left n v) (sym g) (by_note (low r == length v.seen) v l)
  one_falls v w (reads r) g = same v w (ap (λ (z : View T). z.role) g) (ap (λ (z : View T). z.station) g) (ap (λ (z : View T). z.seen) g)
  one_falls v w (writes r) g = same v w (ap (λ (z : View T). z.role) g) (ap (λ (z : View T). z.station) g) (ap (λ (z : View T). z.seen) g)
  one_falls v w sees g = let few = g.0 in let a = ap (λ (z : View T). turns_at z.role) g.1 in let b = ap (λ (z : View T). z.station) g.1 in let e = ap (λ (z : View T). length z.seen) g.1 in let more = length-append v.seen (v.read ∷ []) in omega arith
  one_falls v w publishes g = let few = g.0 in let a = ap (λ (z : View T). turns_at z.role) g.1 in let b = ap (λ (z : View T). z.station) g.1 in let e = ap (λ (z : View T). length z.seen) g.1 in let more = length-append v.seen (v.wrote ∷ []) in omega arith
  one_falls v w takes g = turned v w (ap (λ (z : View T). z.station) g.1) (ap (λ (z : View T). z.seen) g.1) (let a = ap turns_at g.0 in let b = ap (λ (z : View T). turns_at z.role) g.1 in omega arith)
  one_falls v w (gives_up r) g = turned v w (ap (λ (z : View T). z.station) g.1) (ap (λ (z : View T). z.seen) g.1) (let a = ap turns_at g.0 in let b = ap (λ (z : View T). turns_at z.role) g.1 in omega arith)
  one_falls v w leaves g = turned v w (ap (λ (z : View T). z.station) g.1) (ap (λ (z : View T). z.seen) g.1)
      (let b = ap (λ (z : View T). turns_at z.role) g.1 in ⊎_elim (λ (e : v.role ≡ Reader). let a = ap turns_at e in omega arith) (λ (e : v.role ≡ Leaving). let a = ap turns_at e in omega arith) g.0)
  one_falls v w opens g = turned v w (ap (λ (z : View T). z.station) g.1) (ap (λ (z : View T). z.seen) g.1) (let a = ap turns_at g.0 in let b = ap (λ (z : View T). turns_at z.role) g.1 in omega arith)
  one_falls v w (hands r) g = let a = ap turns_at g.0 in let low = g.1 in let high = g.2 in let b = ap (λ (z : View T). turns_at z.role) g.3 in let at = ap (λ (z : View T). z.station) g.3 in let e = ap (λ (z : View T). length z.seen) g.3 in omega arith
  one_falls v w moves g = turned v w (ap (λ (z : View T). z.station) g.1) (ap (λ (z : View T). z.seen) g.1) (let a = ap turns_at g.0 in let b = ap (λ (z : View T). turns_at z.role) g.1 in omega arith)

  pub falls : (v w : View T) (ks : List Kind) → Went n v ks w → steps_on ks + steps_left n w ≤ steps_left n v
  falls v w [] e = subst (λ (z : View T). 0 + steps_left n z ≤ steps_left n v) (sym e) (same v v refl refl refl)
  falls v w (k ∷ ks) g = let a = one_falls v g.0 k g.1 in let b = falls g.0 w ks g.2 in omega arith

  pub few : (v w : View T) (ks : List Kind) → Went n v ks w → steps_on ks ≤ MOST_EVENTS + 4 * n + 4
  few v w ks g = let a = falls v w ks g in let b = at_most_four v.role in omega arith
