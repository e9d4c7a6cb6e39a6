use Rattle.std.proofs.Common.{rules, arith, sym, subst, ap, ◌∙◌, ◌<◌, ◌≤◌, ℕ, length}
use Rattle.nv_room.specs.Caches.{HasNext}
use Rattle.nv_room.specs.Trails.{Trails, NotedAt}
use Rattle.nv_room.proofs.Placement.{header_inside}
use Rattle.nv_room.proofs.Looks.{looks_owner}
use Rattle.nv_room.proofs.room.Room.look_owner.Goals as goal

pub load-word-requires : goal.load-word-requires
load-word-requires g c = let k = c.args.self.now.sizes in (search rules, subst (λ (z : ℕ). 0 < z) (sym k.2) (header_inside _ _ 0 (omega arith)), looks_owner _ _ _ _ _ _ c.args.reader.now.role)

pub invariant_of-reader : goal.invariant_of-reader
invariant_of-reader g c = let r = c.args.reader.now in let e = c.load-word.ensures.2.0 in let x = c.load-word.result in record {
  role = ap (λ m. m.0.role) e ∙ r.role;
  free = ap (λ m. m.1) e ∙ r.free;
  station_is = ap (λ m. m.0.station) e ∙ r.station_is;
  version_is = ap (λ m. m.0.version) e ∙ r.version_is;
  opened_is = ap (λ m. m.0.opened) e;
  seen_is = ap (λ m. length m.0.seen) e ∙ r.seen_is;
  read_is = ap (λ m. length m.0.read) e ∙ r.read_is;
  head_is = subst (λ m. r.head ≤ m.0.head_last) (sym e) r.head_is;
  few = r.few;
  next = subst (λ m. HasNext m.0.read) (sym e) r.next;
  trail_is = subst (λ m. Trails m.0.places r.trail m.0.seen m.0.read) (sym e) r.trail_is;
  noted_at = subst (λ m. NotedAt r.spot m.0) (sym e) r.noted_at;
}
