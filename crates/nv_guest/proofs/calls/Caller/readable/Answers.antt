use Rattle.std.proofs.Common.{◌∙◌, ap, length}
use Rattle.std.specs.Prelude.{Result, Ok, Err, IfOk, IfSome}
use Rattle.std.specs.Result.{result_ok}
use Rattle.nv_guest.proofs.Shaped.{length-bytes_at}
use Rattle.nv_guest.proofs.calls.Caller.readable.Goals as goal

ok_of : {T E : Type 0} (P Q : T → Type 0) (r : Result T E) → ((t : T) → P t → Q t) → IfOk r P → IfSome (result_ok r) Q
ok_of P Q (Ok t) f h = f t h
ok_of P Q (Err e) f h = tt

pub returns-clause-few : goal.returns-clause-few
returns-clause-few c =
    let long = length-bytes_at c.args.self.now.memory.now.bytes c.args.address c.args.count in
    rw c.ok.ensures.value (ok_of _ _ c.bytes.result (λ bytes is. ap length is ∙ long) c.bytes.ensures.ok)
