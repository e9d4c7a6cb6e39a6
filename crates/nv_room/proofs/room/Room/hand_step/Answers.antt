use Rattle.std.proofs.Common.{arith, sym, ap, ◌∙◌, ◌+◌, ◌<◌, ◌≡◌, [], ◌∷◌, ℕ, length, subst}
use Rattle.std.specs.Prelude.{Some}
use Rattle.std.specs.Option.{ForSome}
use Rattle.atomic_table.specs.Table.{rest}
use Rattle.nv_room.specs.Owner.{free, owner_word}
use Rattle.nv_room.specs.Trails.{Trails}
use Rattle.std.specs.declared.snapshot.Snapshot.{Snapshot}
use Rattle.std.proofs.lemmas.Option.{same_Some}
use Rattle.nv_room.specs.Planned.{asked_then}
use Rattle.nv_room.specs.Room.{Became}
use Rattle.nv_room.proofs.Placement.{header_inside}
use Rattle.nv_room.proofs.HandingOver.{hands_on}
use Rattle.nv_room.proofs.room.Room.hand_step.Goals as goal

pub store-requires : goal.store-requires
store-requires g c = let room = c.args.self.now in let o = c.args.opening in let e = c.exchange-inside.ensures.3 in let v = ap (λ m. m.0) e in (
  c.exchange-inside.ensures.0 ∙ c.requires.of.0.0,
  subst (λ (z : ℕ). 0 < z) (sym room.sizes.2) (header_inside _ _ 0 (omega arith)),
  hands_on g.K.SyscallKernel.log (Became g.K.SyscallKernel.start g.K.SyscallKernel.handed) room.table.shared.key _ _ _ o.kernel c.exchange-inside.new.seat.me (ap (λ w. w.role) v ∙ o.role)
      (ap (λ m. m.1) e ∙ ap (λ q. (0, Some o.kernel) ∷ rest q) o.holds) (o.history ∙ sym (ap (λ w. w.seen) v)) c.tell_lawful.ensures
      (subst (λ w. ForSome w.start (λ s. Became g.K.SyscallKernel.start g.K.SyscallKernel.handed s.value o.kernel (asked_then room.table.shared.key.hands.value.items (length w.seen) w.asked))) (sym v)
      (λ z s. subst (λ (y : Snapshot g.row.K.Denot). Became g.K.SyscallKernel.start g.K.SyscallKernel.handed y.value o.kernel (asked_then room.table.shared.key.hands.value.items (length o.seat.me.0.seen) o.seat.me.0.asked))
      (same_Some room.table.shared.key.start z (sym c.requires.of.0.4 ∙ s)) c.requires.asked))
      (λ j. owner_word free ((sym o.station_is ∙ sym (ap (λ w. w.station) v)) j) ((sym o.opened_is ∙ sym (ap (λ w. w.opened) v)) j + 1) ((sym o.seen_is ∙ sym (ap (λ w. length w.seen) v)) j)),
)

pub invariant_of-result : goal.invariant_of-result
invariant_of-result g c = let o = c.args.opening in let x = c.exchange-inside.ensures.3 in let v = ap (λ m. m.0) x in let t = c.store.ensures.2 in let e = t.0 in record {
  role = ap (λ m. m.0.role) e;
  free = ap (λ m. m.1) e ∙ ap (λ m. rest m.1) x ∙ ap rest o.holds;
  former_is = ap (λ m. m.0.former) e ∙ ap (λ w. w.station) v ∙ o.station_is;
  station_is = ap (λ m. m.0.station) e ∙ ap (λ w. w.opened) v ∙ o.opened_is;
  version_is = ap (λ m. m.0.version) e ∙ ap (λ w. w.version) v ∙ o.version_is;
  opened_is = ap (λ m. m.0.opened) e ∙ ap (λ w. w.opened + 1) v ∙ ap (λ (z : ℕ). z + 1) o.opened_is;
  seen_is = ap (λ m. length m.0.seen) e ∙ ap (λ w. length w.seen) v ∙ o.seen_is;
  read_is = ap (λ m. m.0.read) e ∙ t.1;
  few = o.few;
  trail_is = subst (λ m. Trails m.0.places o.trail m.0.seen []) (sym e) (subst (λ w. Trails w.places o.trail w.seen []) (sym v) o.trail_is);
}

pub returns-clause-of : goal.returns-clause-of
returns-clause-of g c = let room = c.args.self.now in let o = c.args.opening in let q = c.requires.of.0 in let x = c.exchange-inside.ensures.3 in let v = ap (λ m. m.0) x in let e = c.store.ensures.2.0 in let w = ap (λ m. m.0) e in
    let opened : c.store.new.seat.me.0.opened ≡ o.opened + 1 = ap (λ z. z.opened) w ∙ ap (λ z. z.opened + 1) v ∙ ap (λ (z : ℕ). z + 1) o.opened_is in
    let version : c.store.new.seat.me.0.version ≡ o.seat.me.0.version = ap (λ z. z.version) w ∙ ap (λ z. z.version) v in (
      (
        c.store.ensures.0 ∙ c.exchange-inside.ensures.0 ∙ q.0,
        c.requires.of.1,
        ap (λ z. z.places) w ∙ ap (λ z. z.places) v ∙ q.2,
        ap (λ z. length z.floors) w ∙ ap (λ z. length z.floors) v ∙ q.3,
        ap
            (λ z. z.start) w ∙ ap (λ z. z.start) v ∙ q.4,
        (let a = c.requires.of.1 in omega arith),
        (let a = q.6 in omega arith),
      ),
      q.1,
    )
