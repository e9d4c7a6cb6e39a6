use Rattle.std.proofs.Common.{◌≡◌, ap, subst, ℕ, ◌+◌, ◌∷◌, [], List, arith}
use Rattle.std.proofs.lemmas.Result.{on_ok_weaker}
use Rattle.nv_sockets.specs.Coming.{came_over, HasInput}
use Rattle.nv_script.specs.declared.arrival.Arrival.{Arrival}
use Rattle.nv_script.specs.ArrivalViews.{view as arrival_of}
use Rattle.nv_arriving.specs.Reserved.{data_of}
use Rattle.nv_arriving.proofs.reserving.promise.Goals as goal

pub returns-in-Data-clause-data : goal.returns-in-Data-clause-data
returns-in-Data-clause-data c =
    on_ok_weaker c.promise_client.result
    (λ (more : (j n : ℕ) → HasInput c.args.sockets.now j n → HasInput c.promise_client.new.sockets j (came_over c.in-Data.client c.as_slice.result.now j + n)) j n h.
    let is : data_of j (arrival_of c.args.arrival.now ∷ []) ≡ came_over c.in-Data.client c.in-Data.bytes.items j + 0 = ap (λ (a : Arrival). data_of j (arrival_of a ∷ [])) c.in-Data.is in
    let bytes : came_over c.in-Data.client c.as_slice.result.now j ≡ came_over c.in-Data.client c.in-Data.bytes.items j = ap (λ (z : List ℕ). came_over c.in-Data.client z j) c.as_slice.ensures.value in
    let same : came_over c.in-Data.client c.as_slice.result.now j + n ≡ data_of j (arrival_of c.args.arrival.now ∷ []) + n = omega (arith, is, bytes) in
    subst (HasInput c.promise_client.new.sockets j) same (more j n h))
    c.promise_client.ensures.data
