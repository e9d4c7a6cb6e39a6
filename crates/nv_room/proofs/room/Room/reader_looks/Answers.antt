use Rattle.std.proofs.Common.{rules, arith, sym, subst, refl, ap, ◌∙◌, ℕ, ◌<◌, ◌≤◌, length, length-set}
use Rattle.nv_room.specs.Caches.{HasNext}
use Rattle.nv_room.specs.Header.{cursor_index}
use Rattle.nv_room.proofs.Placement.{header_inside}
use Rattle.nv_room.specs.Trails.{Trails, NotedAt}
use Rattle.nv_room.proofs.Looks.{looks_cursor}
use Rattle.nv_room.proofs.room.Room.reader_looks.Goals as goal

pub load-requires : goal.load-requires
load-requires g c =
    let k = c.args.self.now.sizes in (
      search rules,
      subst (λ (z : ℕ). cursor_index c.args.station < z) (sym k.2)
          (header_inside _ _ (cursor_index c.args.station) (let a = c.requires.station in omega arith)),
      looks_cursor _ _ _ _ _ _ _ (subst (λ (z : ℕ). c.args.station < z) (sym k.0) c.requires.station),
    )

pub invariant_of-reader : goal.invariant_of-reader
invariant_of-reader g c = let r = c.args.reader.now in let e = (c.load.ensures.2.1 c.args.station refl).0 in
    record {
      free = ap (λ m. m.1) e ∙ r.free;
      role = ap (λ m. m.0.role) e ∙ r.role;
      station_is = ap (λ m. m.0.station) e ∙ r.station_is;
      version_is = ap (λ m. m.0.version) e ∙ r.version_is;
      opened_is = ap (λ m. m.0.opened) e ∙ r.opened_is;
      seen_is = ap (λ m. length m.0.seen) e ∙ r.seen_is;
      read_is = ap (λ m. length m.0.read) e ∙ r.read_is;
      head_is = subst (λ m. r.head ≤ m.0.head_last) (sym e) r.head_is;
      few = r.few;
      next = subst (λ m. HasNext m.0.read) (sym e) r.next;
      trail_is = subst (λ m. Trails m.0.places r.trail m.0.seen m.0.read) (sym e) r.trail_is;
      noted_at = subst (λ m. NotedAt r.spot m.0) (sym e) r.noted_at;
    }

pub returns-clause-of : goal.returns-clause-of
returns-clause-of g c = let o = c.requires.of in let r = c.args.reader.now in let e = (c.load.ensures.2.1 c.args.station refl).0 in (
  c.load.ensures.0 ∙ o.0,
  o.1,
  ap (λ m. m.0.places) e ∙ o.2,
  ap (λ m. length m.0.floors) e ∙ length-set r.seat.me.0.floors c.args.station c.load.result ∙ o.3,
  ap (λ m. m.0.start) e ∙ o.4,
  subst
      (λ m. m.0.opened ≤ c.args.self.now.stations) (sym e) o.5,
  subst (λ m. m.0.version < c.args.self.now.versions) (sym e) o.6,
)
