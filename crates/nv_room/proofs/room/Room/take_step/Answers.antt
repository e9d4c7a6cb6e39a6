use Rattle.std.proofs.Common.{rules, arith, ap, sym, subst, ℕ, zero, suc, ◌<◌, ◌≤◌, ◌≡◌, ◌∙◌, [], ◌∷◌, List, map, get_or, length, refl, zero-le, add-zero}
use Rattle.std.specs.Prelude.{Some, None}
use Rattle.std.specs.Option.{ForSome}
use Rattle.std.proofs.lemmas.List.{length-map, take_all}
use Rattle.std.proofs.lemmas.Option.{same_Some}
use Rattle.atomic_table.specs.Table.{rest}
use Rattle.nv_words.specs.Spelling.{spell}
use Rattle.nv_pool.specs.Pool.{Holds}
use Rattle.nv_room.specs.Logs.{lanes_after}
use Rattle.nv_room.specs.Placement.{pool_chunks, sizes}
use Rattle.nv_room.specs.Owner.{owner_word, held}
use Rattle.nv_room.specs.Room.{Became}
use Rattle.nv_room.specs.Seats.{origin}
use Rattle.nv_room.proofs.Placement.{header_inside}
use Rattle.nv_room.proofs.Served.{same_head, none_due}
use Rattle.nv_room.proofs.Hands.{takes_lead}
use Rattle.nv_room.proofs.room.Room.take_step.Goals as goal

pub store-requires : goal.store-requires
store-requires g c = let k = c.args.self.now.sizes in let r = c.args.reader in
    (c.requires.of.0, subst (λ (z : ℕ). 0 < z) (sym k.2) (header_inside _ _ 0 (omega arith)), takes_lead _ _ _ _ _ _ _ r.role c.requires.freed (λ j. owner_word held (sym r.station_is j) (sym r.opened_is j) (length r.seat.me.0.seen)))

pub exchange-inside-requires : goal.exchange-inside-requires
exchange-inside-requires g c = let t = c.store.ensures.2 in let e = ap (λ m. m.1) t.2 in (search rules, (Some t.0, e ∙ ap (λ l. (0, Some t.0) ∷ rest l) (sym e)))

abbrev sixteen : List ℕ
sixteen = 0 ∷ 0 ∷ 0 ∷ 0 ∷ 0 ∷ 0 ∷ 0 ∷ 0 ∷ 0 ∷ 0 ∷ 0 ∷ 0 ∷ 0 ∷ 0 ∷ 0 ∷ 0 ∷ []

zeros : (s : ℕ) (xs : List ℕ) → get_or sixteen s 0 ≤ get_or xs s 0
zeros s xs = subst (λ (z : ℕ). z ≤ get_or xs s 0) (sym (all s)) zero-le
  where
    all : (s : ℕ) → get_or sixteen s 0 ≡ 0
    all zero = refl
    all (suc zero) = refl
    all (suc (suc zero)) = refl
    all (suc (suc (suc zero))) = refl
    all (suc (suc (suc (suc zero)))) = refl
    all (suc (suc (suc (suc (suc zero))))) = refl
    all (suc (suc (suc (suc (suc (suc zero)))))) = refl
    all (suc (suc (suc (suc (suc (suc (suc zero))))))) = refl
    all (suc (suc (suc (suc (suc (suc (suc (suc zero)))))))) = refl
    all (suc (suc (suc (suc (suc (suc (suc (suc (suc zero))))))))) = refl
    all (suc (suc (suc (suc (suc (suc (suc (suc (suc (suc zero)))))))))) = refl
    all (suc (suc (suc (suc (suc (suc (suc (suc (suc (suc (suc zero))))))))))) = refl
    all (suc (suc (suc (suc (suc (suc (suc (suc (suc (suc (suc (suc zero)))))))))))) = refl
    all (suc (suc (suc (suc (suc (suc (suc (suc (suc (suc (suc (suc (suc zero))))))))))))) = refl
    all (suc (suc (suc (suc (suc (suc (suc (suc (suc (suc (suc (suc (suc (suc zero)))))))))))))) = refl
    all (suc (suc (suc (suc (suc (suc (suc (suc (suc (suc (suc (suc (suc (suc (suc zero))))))))))))))) = refl
    all (suc (suc (suc (suc (suc (suc (suc (suc (suc (suc (suc (suc (suc (suc (suc (suc s)))))))))))))))) = refl

pub invariant_of-result : goal.invariant_of-result
invariant_of-result g c = let r = c.args.reader in let t = c.store.ensures.2 in let e = c.exchange-inside.ensures.3 in let v = ap (λ m. m.0) e ∙ ap (λ m. m.0) t.2 in
    let h = g.K.SyscallKernel.log c.in-Some.kernel in
    let same : t.0 ≡ c.in-Some.kernel =
    same_Some t.0 c.in-Some.kernel (same_head (Some t.0) (Some c.in-Some.kernel) _ _ (sym (ap (λ m. m.1) t.2) ∙ c.exchange-inside.ensures.2 ∙ ap (λ z. (0, z) ∷ rest c.store.new.seat.me.1) c.in-Some.is)) in
    let tells : map spell h ≡ r.seat.me.0.seen = ap (λ z. map spell (g.K.SyscallKernel.log z)) (sym same) ∙ t.3 in
    let long : length h ≡ r.seen = sym (length-map h spell) ∙ ap length tells ∙ r.seen_is in
    let o = c.requires.of in record {
      role = ap (λ w. w.role) v;
      holds = ap (λ m. m.1) e ∙ ap (λ l. (0, None) ∷ rest l) (ap (λ m. m.1) t.2) ∙ ap (λ l. (0, None) ∷ l) r.free;
      station_is = ap (λ w. w.station) v ∙ r.station_is;
      version_is = ap (λ w. w.version) v ∙ r.version_is;
      opened_is = ap (λ w. w.opened) v ∙ r.opened_is;
      seen_is = ap (λ w. length w.seen) v ∙ r.seen_is;
      wrote_is = ap (λ w. length w.wrote) v ∙ ap length t.5;
      quiet = λ z. refl;
      part = ap (λ w. w.wrote) v ∙ t.5;
      next_words = none_due h r.seen long;
      few = (r.few.0, omega arith);
      floors_are = λ s b. zeros s c.exchange-inside.new.seat.me.0.floors;
      spot_is = λ w. absurd (let q = ap (λ z. length z.wrote) v in let t' = ap length t.5 in omega arith);
      trail_is = record {
        lanes = r.trail_is.lanes ∙ ap lanes_after (sym (ap (λ w. w.seen) v));
        pool_is = (r.trail_is.pool_is.0 ∙ ap pool_chunks (sym (ap (λ w. w.places) v)), r.trail_is.pool_is.1 ∙ sym (ap (λ w. w.places) v));
        pool = subst (λ z. Holds r.trail.pool (sizes z)) (sym (ap (λ w. w.seen) v)) r.trail_is.pool;
        first = λ w. absurd (let q = ap (λ z. length z.wrote) v in let t' = ap length t.5 in omega arith);
        sixth = λ w. absurd (let q = ap (λ z. length z.wrote) v in let t' = ap length t.5 in omega arith);
      };
      history = take_all r.seen (map spell h) (omega (arith, length-map h spell)) ∙ tells ∙ sym (ap (λ w. w.seen) v);
      longer = long ∙ sym (add-zero r.seen);
      began = subst (λ w. ForSome w.start (λ s. g.K.SyscallKernel.start c.in-Some.kernel ≡ g.K.SyscallKernel.start s.value)) (sym v)
          (subst (λ z. ForSome r.seat.me.0.start (λ s. g.K.SyscallKernel.start z ≡ g.K.SyscallKernel.start s.value)) same (λ z e. (t.4 z e).0));
    }

pub returns-clause-asked : goal.returns-clause-asked
returns-clause-asked g c = let t = c.store.ensures.2 in let v = ap (λ m. m.0) c.exchange-inside.ensures.3 ∙ ap (λ m. m.0) t.2 in
    let same : t.0 ≡ c.in-Some.kernel =
    same_Some t.0 c.in-Some.kernel (same_head (Some t.0) (Some c.in-Some.kernel) _ _ (sym (ap (λ m. m.1) t.2) ∙ c.exchange-inside.ensures.2 ∙ ap (λ z. (0, z) ∷ rest c.store.new.seat.me.1) c.in-Some.is)) in
    let room = origin c.args.self.now in
    subst (λ (z : List ℕ). Became g.K.SyscallKernel.start g.K.SyscallKernel.handed room c.in-Some.kernel z) (sym (ap (λ w. w.asked) v))
    (subst (λ k. Became g.K.SyscallKernel.start g.K.SyscallKernel.handed room k t.1) same (t.4 c.args.self.now.table.shared.key.start c.requires.of.4))
