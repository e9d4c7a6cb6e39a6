use Rattle.std.proofs.Common.{arith, ap, sym, subst, ℕ, ◌+◌, ◌<◌, ◌≡◌, ◌≢◌, ◌∙◌, [], ◌∷◌, map, length, ⊎_elim}
use Rattle.std.proofs.lemmas.List.{nil_from_length}
use Rattle.std.specs.Prelude.{Some}
use Rattle.std.specs.Option.{ForSome}
use Rattle.atomic_table.specs.Table.{rest}
use Rattle.nv_calls.specs.Logs.{live_after}
use Rattle.nv_words.specs.Spelling.{spell, flag_bit}
use Rattle.nv_room.specs.Owner.{Phase, held, free, closed, owner_word}
use Rattle.std.specs.declared.snapshot.Snapshot.{Snapshot}
use Rattle.std.proofs.lemmas.Option.{same_Some}
use Rattle.nv_room.specs.Room.{Became}
use Rattle.nv_room.proofs.Placement.{header_inside}
use Rattle.nv_room.proofs.Served.{whole_history}
use Rattle.nv_room.proofs.Hands.{gives_up}
use Rattle.nv_room.proofs.room.Room.give_up.Goals as goal

pub store-requires : goal.store-requires
store-requires g c = let k = c.args.self.now.sizes in let l = c.args.lead in let e = c.exchange-inside.ensures.3 in let v = ap (λ m. m.0) e in let h = g.K.SyscallKernel.log l.kernel in
    let whole : map spell h ≡ l.seat.me.0.seen = whole_history h l.seen l.seat.me.0.seen l.history (l.longer ∙ ap (λ b. l.seen + flag_bit b) c.requires.none_due ∙ omega arith) in
    let by = λ (ph : Phase) (over : ph ≢ held) (ended : ph ≡ closed → live_after h ≡ []) (is : c.args.word ≡ owner_word ph l.station l.opened l.seen).
    gives_up g.K.SyscallKernel.log (Became g.K.SyscallKernel.start g.K.SyscallKernel.handed) c.args.self.now.table.shared.key c.args.self.now.table.shared.table_id.slots c.exchange-inside.new.seat.id c.args.word l.kernel ph
    c.exchange-inside.new.seat.me (ap (λ w. w.role) v ∙ l.role) (ap (λ m. m.1) e ∙ ap (λ q. (0, Some l.kernel) ∷ rest q) l.holds)
    (ap (λ w. w.wrote) v ∙ nil_from_length _ (l.wrote_is ∙ l.quiet c.requires.none_due)) (whole ∙ sym (ap (λ w. w.seen) v)) c.tell_lawful.ensures
    (subst (λ w. ForSome w.start (λ s. Became g.K.SyscallKernel.start g.K.SyscallKernel.handed s.value l.kernel w.asked)) (sym v)
    (λ z s. subst (λ (y : Snapshot g.row.K.Denot). Became g.K.SyscallKernel.start g.K.SyscallKernel.handed y.value l.kernel l.seat.me.0.asked) (same_Some c.args.self.now.table.shared.key.start z (sym c.requires.of.4 ∙ s)) c.requires.asked))
    over ended (is ∙ (λ j. owner_word ph ((sym l.station_is ∙ sym (ap (λ w. w.station) v)) j) ((sym l.opened_is ∙ sym (ap (λ w. w.opened) v)) j) ((sym l.seen_is ∙ sym (ap (λ w. length w.seen) v)) j))) in (
      c.exchange-inside.ensures.0 ∙ c.requires.of.0,
      subst (λ (z : ℕ). 0 < z) (sym k.2) (header_inside _ _ 0 (omega arith)),
      ⊎_elim (λ q. by free (λ z. cc) (λ z. cc) q) (λ q. by closed (λ z. cc) (λ z. q.1) q.0) c.requires.word,
    )
