use Rattle.std.proofs.lemmas.Result.{on_ok_weaker}
use Rattle.nv_arriving.proofs.Promises.{data_there}
use Rattle.nv_arriving.proofs.reserving.promise_client.Goals as goal

pub returns-then-i-there-clause-data : goal.returns-then-i-there-clause-data
returns-then-i-there-clause-data c =
    on_ok_weaker c.promise.result (λ more. data_there c.args.sockets.now c.promise.new.self c.args.i c.args.bytes.now c.promise.ensures.keeps more) c.promise.ensures.ok
