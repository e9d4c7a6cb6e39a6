use Rattle.std.proofs.Common.{◌∙◌, ◌++◌, ◌∷◌, [], sym, subst, length, rules, arith, length-append}
use Rattle.std.proofs.lemmas.Iterator.Adapters.{YieldsList-from_vec}
use Rattle.std.proofs.lemmas.Iterator.Consumers.{YieldsList-turn, YieldsList-end}
use Rattle.nv_workers.specs.Ran.{AreApart}
use Rattle.nv_workers.proofs.Finishing.{apart_more, gone_at, is_gone, same_all}
use Rattle.nv_workers.proofs.ran.take_apart.Goals as goal

pub unreachable-requires : goal.unreachable-requires
unreachable-requires g c =
    let from = YieldsList-from_vec c.args.workers.items (search rules) (search rules) in
    let t = YieldsList-turn from c.loop-worker.yielded c.loop-worker.worker-iterator c.loop-worker.yielded_by c.next.result c.next.new.self c.in-Some.worker c.in-Some.is c.next.ensures.steps in
    is_gone c.in-Some.worker.seat (gone_at c.args.workers.items c.requires.gone (length c.loop-worker.yielded) c.in-Some.worker t.0 t.1) c.in_default.not-Gone

pub loop-worker-preserved : goal.loop-worker-preserved
loop-worker-preserved g c =
    let i = c.loop-worker.invariant in
    let v = c.push_reserved.ensures in
    let l = c.push_reserved-in-loop-worker.ensures in
    let more = length-append c.loop-worker.yielded (c.in-Some.worker ∷ []) in record {
      apart = subst (λ vs. AreApart (c.loop-worker.yielded ++ c.in-Some.worker ∷ []) vs c.push_reserved-in-loop-worker.new.self.items) (sym v.items)
          (subst (λ ls. AreApart (c.loop-worker.yielded ++ c.in-Some.worker ∷ []) (c.loop-worker.versions.items ++ c.in-Some.worker.version ∷ []) ls) (sym l.items)
          (apart_more c.loop-worker.yielded c.loop-worker.versions.items c.loop-worker.left.items c.in-Some.worker c.in-Gone.gone i.apart c.in-Gone.is));
      versions_len = omega (arith, v.len, i.versions_len, more);
      left_len = omega (arith, l.len, i.left_len, more);
      versions_room = omega (arith, v.capacity, i.versions_room);
      left_room = omega (arith, l.capacity, i.left_room);
    }

pub returns : goal.returns
returns g c =
    let from = YieldsList-from_vec c.args.workers.items (search rules) (search rules) in
    let e = YieldsList-end from c.loop-worker.yielded c.loop-worker.worker-iterator c.loop-worker.yielded_by c.next.result c.next.new.self c.in-None.is c.next.ensures.steps in
    subst (λ ws. AreApart ws c.loop-worker.versions.items c.loop-worker.left.items) (sym (same_all c.loop-worker.yielded) ∙ e.0) c.loop-worker.invariant.apart
