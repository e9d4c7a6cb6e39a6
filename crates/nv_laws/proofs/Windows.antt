-- In each state some seat's turn doesn't wait.
use Rattle.std.proofs.Common.{◌≡◌, ℕ, List, refl}
use mathlib.Core.Option.{some}
use lib.ListN.{get_elem?}
use Rattle.std.specs.Prelude.{Option}
use Rattle.atomic_table.specs.Table.{State}
use Rattle.nv_calls.specs.Calls.{Entry}
use Rattle.nv_room.specs.declared.view.View.{View}
use Rattle.nv_room.specs.declared.view.Layout.{Layout}
use Rattle.nv_room.specs.declared.view.Role.{Role}
use Rattle.nv_room.specs.declared.view.Role.TheVariants.{Reader, Lead, Opening, Leaving, Moving, Gone, Spent}
use Rattle.nv_room.specs.Room.{Moment, Rule}
use Rattle.nv_laws.specs.GetsOn.{moment, AllSeated, CanGetOn, SomeStays, Stays}
use Rattle.nv_room.specs.Kinds.{Kind}
use Rattle.nv_laws.specs.Traces.{Trace, GetsOnByNone, HasToWait, NeedNotWait}
use Rattle.nv_laws.proofs.Stuck.{not_stuck}
use Rattle.nv_laws.proofs.Waiting.{no_reader_waits}
use Rattle.nv_laws.proofs.LeadWaiting.{no_lead_waits}

pub can_stays : {T : Type 0} (c : ℕ) (m : Moment) (v : View T) (role : Role) → CanGetOn c m v role → Stays role
can_stays c m v Reader k = tt
can_stays c m v Lead k = tt
can_stays c m v Opening k = tt
can_stays c m v Leaving k = tt
can_stays c m v Moving k = tt
can_stays c m v Gone k = absurd k
can_stays c m v Spent k = absurd k

module _ {K : Type 0} (hist : K → List Entry) (came : K → K → List ℕ → Type 0) (p : Layout K) (s : State (Option K) (View K)) (r : Rule hist came p s) (j : ℕ) (v : View K) (at : get_elem? s.views j ≡ some v) where
  by_role : (role : Role) → v.role ≡ role → CanGetOn p.places (moment r) v role → (xs : List (ℕ × Kind)) (last : State (Option K) (View K)) (w : View K) → Trace hist came p xs s last → GetsOnByNone j xs → get_elem? last.views j ≡ some w → HasToWait p.places v w role → ⊥
  by_role Reader is can xs last w t on end waits = no_reader_waits hist came p xs s last r j v w t on at is can end waits
  by_role Lead is can xs last w t on end waits = no_lead_waits hist came p xs s last r j v w t on at is can end waits
  by_role Opening is can xs last w t on end waits = waits
  by_role Leaving is can xs last w t on end waits = waits
  by_role Moving is can xs last w t on end waits = waits
  by_role Gone is can xs last w t on end waits = can
  by_role Spent is can xs last w t on end waits = can

  pub need_not : CanGetOn p.places (moment r) v v.role → NeedNotWait hist came p s j v
  need_not can = record { turns = by_role v.role refl can; stays = can_stays p.places (moment r) v v.role can }

pub some_need_not : {K : Type 0} (hist : K → List Entry) (came : K → K → List ℕ → Type 0) (p : Layout K) (s : State (Option K) (View K)) (r : Rule hist came p s) → AllSeated p s.views → SomeStays s.views
    → (j : ℕ) × (v : View K) × (get_elem? s.views j ≡ some v) × NeedNotWait hist came p s j v
some_need_not hist came p s r all some_stays = let o = not_stuck hist came p s r all some_stays in (o.0, o.1, o.2, need_not hist came p s r o.0 o.1 o.2 o.3)
