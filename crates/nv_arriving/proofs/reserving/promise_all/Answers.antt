use Rattle.std.proofs.Common.{◌≡◌, ◌∙◌, ap, sym, subst, refl, ℕ, suc, ◌+◌, ◌-◌, ◌<◌, ◌≤◌, List, length, map, take, arith}
use Rattle.std.specs.Prelude.{slice_index}
use Rattle.nv_sockets.specs.Coming.{HasInput}
use Rattle.nv_sockets.specs.Reserved.{Buffered}
use Rattle.nv_script.specs.Arrivals.{Arrival}
use Rattle.nv_script.specs.ArrivalViews.{view as arrival_of}
use Rattle.nv_arriving.specs.Reserved.{data_of}
use Rattle.nv_arriving.proofs.Rooms.{data_last}
use Rattle.nv_arriving.proofs.Steps.{step, whole}
use Rattle.nv_arriving.proofs.reserving.promise_all.Goals as goal

pub loop-arrival-init : goal.loop-arrival-init
loop-arrival-init c = record { others = refl; len = refl; data_fits = λ j going. omega arith; each = λ p l. omega arith }

pub loop-arrival-preserved : goal.loop-arrival-preserved
loop-arrival-preserved c =
    let a : Arrival = arrival_of c.arrival-item.result in
    let xs = c.args.arrivals.now in
    let front : List Arrival = map arrival_of (take c.loop-arrival.arrival-index xs) in
    let next = step xs c.loop-arrival.arrival-index c.arrival-item.result c.loop-arrival-test.true c.arrival-item.is in
    let links : length c.promise.new.sockets.net.links ≡ length c.loop-arrival.sockets.net.links = ap (λ (z : Buffered). length z.net.links) c.promise.ensures.others in
    record {
      others = c.promise.ensures.others ∙ ap (λ (z : Buffered). record z { promised = c.promise.new.sockets.promised }) c.loop-arrival.invariant.others;
      len = c.promise.ensures.len ∙ c.loop-arrival.invariant.len;
      data_fits = λ j. subst (HasInput c.promise.new.sockets j) (sym (ap (data_of j) next ∙ data_last j front a))
          (c.in_ok-promise.ensures.data j (data_of j front) (c.loop-arrival.invariant.data_fits j));
      each = λ p l.
          let n : ℕ = length c.loop-arrival.sockets.net.links + length c.loop-arrival.kept - suc p in
          let l' : p < length c.loop-arrival.kept = omega (arith, l, c.promise.ensures.len) in
          let more = c.in_ok-promise.ensures.kept p l' in
          let was = c.loop-arrival.invariant.each p l' in
          let all = ap (data_of n) next ∙ data_last n front a in
          let at : length c.promise.new.sockets.net.links + length c.promise.new.kept - suc p ≡ n = omega (arith, links, c.promise.ensures.len) in
          omega (arith, more, was, all, ap (λ (m : ℕ). data_of m (map arrival_of (take (c.loop-arrival.arrival-index + 1) xs))) at);
    }

pub returns-clause-data : goal.returns-clause-data
returns-clause-data c = λ j. subst (λ (z : List Arrival). HasInput c.loop-arrival.sockets j (data_of j z)) (whole c.args.arrivals.now c.loop-arrival.arrival-index c.loop-arrival-test.false) (c.loop-arrival.invariant.data_fits j)

pub returns-clause-kept : goal.returns-clause-kept
returns-clause-kept c = λ p l.
    subst (λ (z : List Arrival). data_of (length c.loop-arrival.sockets.net.links + length c.loop-arrival.kept - suc p) z ≤ slice_index c.loop-arrival.kept p)
    (whole c.args.arrivals.now c.loop-arrival.arrival-index c.loop-arrival-test.false) (c.loop-arrival.invariant.each p l)
