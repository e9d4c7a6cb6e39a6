use Rattle.std.proofs.Common.{arith, sym, ap, ◌∙◌, ◌+◌, ◌<◌, ◌≡◌, [], ℕ, List, length, subst}
use Rattle.std.proofs.lemmas.List.{nil_from_length}
use Rattle.std.specs.Option.{ForSome}
use Rattle.nv_words.specs.Spelling.{flag_bit}
use Rattle.nv_room.specs.Header.{head_index, cursor_index}
use Rattle.nv_room.specs.Spans.{LastHasEvent}
use Rattle.nv_room.specs.Room.{MayHand}
use Rattle.nv_room.specs.Trails.{Trails}
use Rattle.nv_room.specs.Steps.{as_opening}
use Rattle.nv_room.proofs.Placement.{header_inside}
use Rattle.nv_room.proofs.Served.{whole_history}
use Rattle.nv_room.proofs.HandingOver.{spares, opens_at}
use Rattle.nv_room.proofs.room.Room.open_step.Goals as goal

pub load-head-requires : goal.load-head-requires
load-head-requires g c = let k = c.args.self.now.sizes in (c.requires.of.0, subst (λ (z : ℕ). head_index < z) (sym k.2) (header_inside _ _ head_index (omega arith)), spares _ _ _ _ _ _ _ c.args.lead.role (let k = c.args.self.now.sizes in subst (λ (z : ℕ). MayHand z c.args.self.now.table.shared.key.hands.value.items c.args.lead.seat.me.0.opened (length c.args.lead.seat.me.0.seen)) (sym k.0) c.requires.may) c.requires.led)

pub store-requires : goal.store-requires
store-requires g c = let room = c.args.self.now in let l = c.args.lead in let o = c.requires.of in let t = c.load-head.ensures.2 in let e = t.0 in
    let near : l.opened < room.stations = (let a = l.opened_is in let b = t.2 in let d = o.3 in omega arith) in (
      c.load-head.ensures.0 ∙ o.0,
      subst (λ (z : ℕ). cursor_index l.opened < z) (sym room.sizes.2) (header_inside _ _ (cursor_index l.opened) (omega arith)),
      opens_at _ _ _ _ _ _ _ _ (ap (λ m. m.0.role) e ∙ l.role) (ap (λ m. m.0.wrote) e ∙ nil_from_length _ (l.wrote_is ∙ l.quiet c.requires.none_due))
          (subst (λ m. MayHand room.table.shared.key.stations room.table.shared.key.hands.value.items m.0.opened (length m.0.seen)) (sym e) (subst (λ (z : ℕ). MayHand z room.table.shared.key.hands.value.items l.seat.me.0.opened (length l.seat.me.0.seen)) (sym room.sizes.0) c.requires.may)) (subst (λ m. LastHasEvent m.0.spans) (sym e) c.requires.led)
          (ap cursor_index (sym l.opened_is ∙ sym (ap (λ m. m.0.opened) e))) (sym l.seen_is ∙ sym (ap (λ m. length m.0.seen) e)),
    )

pub invariant_of-result : goal.invariant_of-result
invariant_of-result g c = let l = c.args.lead in let h = g.K.SyscallKernel.log l.kernel in let e = c.store.ensures.2 ∙ ap (λ m. (as_opening m.0, m.1)) c.load-head.ensures.2.0 in
    let quiet : l.seat.me.0.wrote ≡ [] = nil_from_length _ (l.wrote_is ∙ l.quiet c.requires.none_due) in record {
      role = ap (λ m. m.0.role) e;
      holds = ap (λ m. m.1) e ∙ l.holds;
      station_is = ap (λ m. m.0.station) e ∙ l.station_is;
      version_is = ap (λ m. m.0.version) e ∙ l.version_is;
      opened_is = ap (λ m. m.0.opened) e ∙ l.opened_is;
      seen_is = ap (λ m. length m.0.seen) e ∙ l.seen_is;
      few = l.few.0;
      trail_is = subst (λ m. Trails m.0.places l.trail m.0.seen []) (sym e) (subst (λ (z : List ℕ). Trails l.seat.me.0.places l.trail l.seat.me.0.seen z) quiet l.trail_is);
      history = whole_history h l.seen l.seat.me.0.seen l.history (l.longer ∙ ap (λ b. l.seen + flag_bit b) c.requires.none_due ∙ omega arith) ∙ sym (ap (λ m. m.0.seen) e);
      began = subst (λ m. ForSome m.0.start (λ s. g.K.SyscallKernel.start l.kernel ≡ g.K.SyscallKernel.start s.value)) (sym e) l.began;
    }
