-- A step of the room is one of the law.
use Rattle.std.proofs.Common.{◌≡◌, ℕ, ◌+◌, ◌<◌, ◌∙◌, sym, List, length, ap, subst, arith}
use mathlib.Core.Option.{some}
use lib.ListN.{get_elem?}
use Rattle.std.specs.Prelude.{Option}
use Rattle.atomic_table.specs.Table.{State, Me, Step}
use Rattle.nv_calls.specs.Calls.{Entry}
use Rattle.nv_room.specs.declared.view.View.{View}
use Rattle.nv_room.specs.declared.view.Layout.{Layout}
use Rattle.nv_room.specs.declared.view.Role.TheVariants.{Opening}
use Rattle.nv_room.specs.Room.{InRole, IsOpening, Rule}
use Rattle.nv_room.specs.Steps.{as_lead}
use Rattle.nv_room.proofs.Counts.{below_most}
use Rattle.nv_laws.specs.GetsOn.{moment}
use Rattle.nv_room.specs.Kinds.{Kind, looks_head, looks_owner, looks_cursor, looks_spare, probes, reads, writes, sees, publishes, takes, gives_up, leaves, opens, hands, moves, StepGives}
use Rattle.nv_laws.specs.Plays.{Plays, Does}

module _ {K : Type 0} (hist : K → List Entry) (came : K → K → List ℕ → Type 0) (p : Layout K) (s : State (Option K) (View K)) (r : Rule hist came p s) where
  -- a seat that gives up the lead goes to a station above its own, which the room has
  opens_on : (v : View K) (id : ℕ) → get_elem? s.views id ≡ some v → v.role ≡ Opening → (v.station < v.opened) × (v.opened < p.stations)
  opens_on v id at is =
      let k : IsOpening (moment r) v.station v.opened v.seen v.wrote v.spans = subst (InRole p.stations p.places (moment r) v) is (r.each_seat id v at).in_role in
      let holder = k.is_holder in
      let opened = k.opened_is in
      let one = k.one_ready in
      let inside = r.common.places.holder_is_open in
      let few = r.common.doors.planned in
      let most = below_most p.hands.value.items (length r.log + 1) in
      (omega arith, omega arith)

  gives : (step : Step (Option K)) (m m' : Me (Option K) (View K)) (id : ℕ) (k : Kind) → get_elem? s.views id ≡ some m.0 → Plays hist came step m m' k → StepGives p.stations m.0 m'.0 k
  gives step m m' id (looks_head x) at q = ap (λ (z : Me (Option K) (View K)). z.0) q.0
  gives step m m' id (looks_owner x) at q = ap (λ (z : Me (Option K) (View K)). z.0) q.1.0
  gives step m m' id (looks_cursor t x) at q = ap (λ (z : Me (Option K) (View K)). z.0) (q.1.1 t q.0).0
  gives step m m' id (looks_spare x) at q = ap (λ (z : Me (Option K) (View K)). z.0) q.1.0
  gives step m m' id (probes l x) at q = ap (λ (z : Me (Option K) (View K)). z.0) (q.3 l q.1 q.2).0
  gives step m m' id (reads x) at q = ap (λ (z : Me (Option K) (View K)). z.0) q.1.0
  gives step m m' id (writes x) at q = ap (λ (z : Me (Option K) (View K)). z.0) q.1
  gives step m m' id sees at q = (q.1.2, ap (λ (z : Me (Option K) (View K)). z.0) q.1.0)
  gives step m m' id publishes at q = (q.1, ap (λ (z : Me (Option K) (View K)). z.0) q.2)
  gives step m m' id takes at q =
      let is = ap (λ (z : Me (Option K) (View K)). z.0) q.2.2 in
      (q.0, is ∙ ap (λ (asked : List ℕ). as_lead asked m.0) (sym (ap (λ (w : View K). w.asked) is)))
  gives step m m' id (gives_up x) at q = (q.0, ap (λ (z : Me (Option K) (View K)). z.0) q.1)
  gives step m m' id leaves at q = (q.0, ap (λ (z : Me (Option K) (View K)). z.0) q.1)
  gives step m m' id opens at q = (q.0, ap (λ (z : Me (Option K) (View K)). z.0) q.1)
  gives step m m' id (hands x) at q = let o = opens_on m.0 id at q.0 in (q.0, o.0, o.1, ap (λ (z : Me (Option K) (View K)). z.0) q.1.0)
  gives step m m' id moves at q = (q.0, ap (λ (z : Me (Option K) (View K)). z.0) q.1)

  pub does_gives : (s' : State (Option K) (View K)) (id : ℕ) (k : Kind) → (d : Does hist came p s s' id k) → StepGives p.stations d.me.0 d.next.0 k
  does_gives s' id k d = gives d.step d.me d.next id k d.at d.plays
