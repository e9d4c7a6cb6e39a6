-- What no step of a seat changes.
use Rattle.std.proofs.Common.{◌≡◌, ℕ, Bool, true, false, length, sym, refl, ap, subst, ⊎_elim, arith}
use Rattle.std.specs.Prelude.{◌==◌, if◌then◌else◌}
use Rattle.nv_words.specs.Spelling.{low}
use Rattle.nv_room.specs.declared.view.View.{View}
use Rattle.nv_room.specs.declared.view.Role.TheVariants.{Reader, Leaving}
use Rattle.nv_room.specs.Room.{Live}
use Rattle.nv_room.specs.Steps.{with_note, with_miss}
use Rattle.nv_laws.specs.GetsOn.{Stays}
use Rattle.nv_room.specs.Kinds.{Kind, looks_head, looks_owner, looks_cursor, looks_spare, probes, reads, writes, sees, publishes, takes, gives_up, leaves, opens, hands, moves, StepGives}
use Rattle.nv_laws.specs.Steps.{gets_on}

module _ {T : Type 0} (n : ℕ) where
  note_role : (b : Bool) (v : View T) (l : ℕ) → (if b then with_note l v else with_miss l v).role ≡ v.role
  note_role true v l = refl
  note_role false v l = refl

  note_version : (b : Bool) (v : View T) (l : ℕ) → (if b then with_note l v else with_miss l v).version ≡ v.version
  note_version true v l = refl
  note_version false v l = refl

  -- the role, where the seat doesn't get on
  pub same_role : (v w : View T) (k : Kind) → gets_on k ≡ 0 → StepGives n v w k → w.role ≡ v.role
  same_role v w (looks_head r) e g = ap (λ (z : View T). z.role) g
  same_role v w (looks_owner r) e g = ap (λ (z : View T). z.role) g
  same_role v w (looks_cursor s r) e g = ap (λ (z : View T). z.role) g
  same_role v w (looks_spare r) e g = ap (λ (z : View T). z.role) g
  same_role v w (probes l r) e g = subst (λ (z : View T). z.role ≡ v.role) (sym g) (note_role (low r == length v.seen) v l)
  same_role v w (reads r) e g = ap (λ (z : View T). z.role) g
  same_role v w (writes r) e g = ap (λ (z : View T). z.role) g
  same_role v w sees e g = absurd (omega arith)
  same_role v w publishes e g = absurd (omega arith)
  same_role v w takes e g = absurd (omega arith)
  same_role v w (gives_up r) e g = absurd (omega arith)
  same_role v w leaves e g = absurd (omega arith)
  same_role v w opens e g = absurd (omega arith)
  same_role v w (hands r) e g = absurd (omega arith)
  same_role v w moves e g = absurd (omega arith)

  pub same_version : (v w : View T) (k : Kind) → StepGives n v w k → w.version ≡ v.version
  same_version v w (looks_head r) g = ap (λ (z : View T). z.version) g
  same_version v w (looks_owner r) g = ap (λ (z : View T). z.version) g
  same_version v w (looks_cursor s r) g = ap (λ (z : View T). z.version) g
  same_version v w (looks_spare r) g = ap (λ (z : View T). z.version) g
  same_version v w (probes l r) g = subst (λ (z : View T). z.version ≡ v.version) (sym g) (note_version (low r == length v.seen) v l)
  same_version v w (reads r) g = ap (λ (z : View T). z.version) g
  same_version v w (writes r) g = ap (λ (z : View T). z.version) g
  same_version v w sees g = ap (λ (z : View T). z.version) g.1
  same_version v w publishes g = ap (λ (z : View T). z.version) g.1
  same_version v w takes g = ap (λ (z : View T). z.version) g.1
  same_version v w (gives_up r) g = ap (λ (z : View T). z.version) g.1
  same_version v w leaves g = ap (λ (z : View T). z.version) g.1
  same_version v w opens g = ap (λ (z : View T). z.version) g.1
  same_version v w (hands r) g = ap (λ (z : View T). z.version) g.3
  same_version v w moves g = ap (λ (z : View T). z.version) g.1

  -- no seat is spent by a step
  pub live_on : (v w : View T) (k : Kind) → StepGives n v w k → Live v.role → Live w.role
  live_on v w (looks_head r) g l = subst Live (sym (same_role v w (looks_head r) refl g)) l
  live_on v w (looks_owner r) g l = subst Live (sym (same_role v w (looks_owner r) refl g)) l
  live_on v w (looks_cursor s r) g l = subst Live (sym (same_role v w (looks_cursor s r) refl g)) l
  live_on v w (looks_spare r) g l = subst Live (sym (same_role v w (looks_spare r) refl g)) l
  live_on v w (probes k r) g l = subst Live (sym (same_role v w (probes k r) refl g)) l
  live_on v w (reads r) g l = subst Live (sym (same_role v w (reads r) refl g)) l
  live_on v w (writes r) g l = subst Live (sym (same_role v w (writes r) refl g)) l
  live_on v w sees g l = subst Live (sym (ap (λ (z : View T). z.role) g.1)) l
  live_on v w publishes g l = subst Live (sym (ap (λ (z : View T). z.role) g.1)) l
  live_on v w takes g l = subst Live (sym (ap (λ (z : View T). z.role) g.1)) tt
  live_on v w (gives_up r) g l = subst Live (sym (ap (λ (z : View T). z.role) g.1)) tt
  live_on v w leaves g l = subst Live (sym (ap (λ (z : View T). z.role) g.1)) tt
  live_on v w opens g l = subst Live (sym (ap (λ (z : View T). z.role) g.1)) tt
  live_on v w (hands r) g l = subst Live (sym (ap (λ (z : View T). z.role) g.3)) tt
  live_on v w moves g l = subst Live (sym (ap (λ (z : View T). z.role) g.1)) tt

  -- no seat that has left comes back by a step
  pub stayed : (v w : View T) (k : Kind) → StepGives n v w k → Stays w.role → Stays v.role
  stayed v w (looks_head r) g s = subst Stays (same_role v w (looks_head r) refl g) s
  stayed v w (looks_owner r) g s = subst Stays (same_role v w (looks_owner r) refl g) s
  stayed v w (looks_cursor t r) g s = subst Stays (same_role v w (looks_cursor t r) refl g) s
  stayed v w (looks_spare r) g s = subst Stays (same_role v w (looks_spare r) refl g) s
  stayed v w (probes l r) g s = subst Stays (same_role v w (probes l r) refl g) s
  stayed v w (reads r) g s = subst Stays (same_role v w (reads r) refl g) s
  stayed v w (writes r) g s = subst Stays (same_role v w (writes r) refl g) s
  stayed v w sees g s = subst Stays (ap (λ (z : View T). z.role) g.1) s
  stayed v w publishes g s = subst Stays (ap (λ (z : View T). z.role) g.1) s
  stayed v w takes g s = subst Stays (sym g.0) tt
  stayed v w (gives_up r) g s = subst Stays (sym g.0) tt
  stayed v w leaves g s = ⊎_elim (λ (e : v.role ≡ Reader). subst Stays (sym e) tt) (λ (e : v.role ≡ Leaving). subst Stays (sym e) tt) g.0
  stayed v w opens g s = subst Stays (sym g.0) tt
  stayed v w (hands r) g s = subst Stays (sym g.0) tt
  stayed v w moves g s = subst Stays (sym g.0) tt
