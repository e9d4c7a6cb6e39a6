-- Steps of a worker's seat.
use Rattle.std.proofs.Common.{◌≡◌, ℕ, Bool, Option, refl, subst, inl, inr}
use Rattle.nv_calls.specs.declared.kernel.SyscallKernel.{Ghosts}
use Rattle.nv_room.specs.declared.view.View.{View}
use Rattle.nv_room.specs.declared.room.Reader.{Reader}
use Rattle.nv_room.specs.declared.room.Lead.{Lead}
use Rattle.nv_room.specs.declared.room.Left.{Left}
use Rattle.nv_room.specs.Kinds.{Stepped, leaves, gives_up, takes}
use Rattle.nv_room.specs.Steps.{as_gone, as_leaving, as_lead}
use Rattle.nv_room.specs.Seats.{view, lead_view, left_view}
use Rattle.nv_room.proofs.Stepped.{no_step, one_step, more_steps}
use Rattle.nv_workers.specs.declared.worker.Seat.{Seat}
use Rattle.nv_workers.specs.declared.worker.Seat.TheVariants.{Reading, Leading, Gone}
use Rattle.nv_workers.specs.Views.{GoesBySteps}

module _ {K : Type 0} {G : Ghosts K} (n : ℕ) where
  pub goes_nowhere : (s : Seat K G) → GoesBySteps n s s
  goes_nowhere s = λ v at. (v, at, no_step n v)

  pub goes_further : (a b c : Seat K G) → GoesBySteps n a b → GoesBySteps n b c → GoesBySteps n a c
  goes_further a b c first second = λ v at. let x = first v at in let y = second x.0 x.1 in (y.0, y.1, more_steps n v x.0 y.0 x.2 y.2)

  pub reads_on : (r r2 : Reader K G) (held held2 : Bool) → Stepped n (view r) (view r2) → GoesBySteps n (Reading r held) (Reading r2 held2)
  reads_on r r2 held held2 s = λ v at. (view r2, refl, subst (λ (z : View K). Stepped n z (view r2)) at s)

  pub leads_on : (l l2 : Lead K G) (asked asked2 : Option ℕ) → Stepped n (lead_view l) (lead_view l2) → GoesBySteps n (Leading l asked) (Leading l2 asked2)
  leads_on l l2 asked asked2 s = λ v at. (lead_view l2, refl, subst (λ (z : View K). Stepped n z (lead_view l2)) at s)

  pub comes_to_lead : (r : Reader K G) (l : Lead K G) (held : Bool) (asked : Option ℕ) → Stepped n (view r) (lead_view l) → GoesBySteps n (Reading r held) (Leading l asked)
  comes_to_lead r l held asked s = λ v at. (lead_view l, refl, subst (λ (z : View K). Stepped n z (lead_view l)) at s)

  pub comes_to_read : (l : Lead K G) (r : Reader K G) (asked : Option ℕ) (held : Bool) → Stepped n (lead_view l) (view r) → GoesBySteps n (Leading l asked) (Reading r held)
  comes_to_read l r asked held s = λ v at. (view r, refl, subst (λ (z : View K). Stepped n z (view r)) at s)

  pub takes_by_steps : (r : Reader K G) (l : Lead K G) → lead_view l ≡ as_lead (lead_view l).asked (view r) → Stepped n (view r) (lead_view l)
  takes_by_steps r l is = one_step n (view r) (lead_view l) takes (r.role, is)

  pub reader_leaves : (r : Reader K G) (held : Bool) (l : Left K G) → left_view l ≡ as_gone (view r) → GoesBySteps n (Reading r held) (Gone l)
  reader_leaves r held l is = λ v at. (left_view l, refl, subst (λ (z : View K). Stepped n z (left_view l)) at (one_step n (view r) (left_view l) leaves (inl r.role, is)))

  pub lead_leaves : (l : Lead K G) (asked : Option ℕ) (gone : Left K G) (x : ℕ) → left_view gone ≡ as_gone (as_leaving (lead_view l) x) → GoesBySteps n (Leading l asked) (Gone gone)
  lead_leaves l asked gone x is =
      let mid : View K = as_leaving (lead_view l) x in
      let up = one_step n (lead_view l) mid (gives_up x) (l.role, refl) in
      let off = one_step n mid (left_view gone) leaves (inr refl, is) in
      λ v at. (left_view gone, refl, subst (λ (z : View K). Stepped n z (left_view gone)) at (more_steps n (lead_view l) mid (left_view gone) up off))
