use Rattle.std.proofs.Common.{◌≡◌, ◌+◌, ◌-◌, ◌==◌, true, false, length, take, Some, sym, ap, ◌∙◌, arith}
use Rattle.std.proofs.lemmas.Bool.Decides.{nat_tests}
use Rattle.nv_guest.proofs.Walks.{path-more, path-ends, path-refused, path-all}
use Rattle.nv_guest.proofs.paths.read_path.Goals as goal

pub returns-in_err-byte-clause-path : goal.returns-in_err-byte-clause-path
returns-in_err-byte-clause-path c =
    rw c.from_residual.ensures (path-refused c.args.memory.now c.loop-i.out c.loop-i.i (length c.args.out.now - c.loop-i.i) (c.args.address + c.loop-i.i) (omega arith) (sym c.byte_at.ensures ∙ c.in_err-byte.was)
    ∙ c.loop-i.invariant)

pub returns-then-byte-eq0-clause-path : goal.returns-then-byte-eq0-clause-path
returns-then-byte-eq0-clause-path c =
    let ends : (c.in_ok-byte.byte == 0) ≡ true = grind (arith, nat_tests) in
    path-ends c.args.memory.now c.loop-i.out c.loop-i.i (length c.args.out.now - c.loop-i.i) (c.args.address + c.loop-i.i) c.in_ok-byte.byte (omega arith) (sym c.in_ok-byte.ensures) ends
    ∙ c.loop-i.invariant

pub loop-i-preserved : goal.loop-i-preserved
loop-i-preserved c =
    let more : (c.in_ok-byte.byte == 0) ≡ false = grind (arith, nat_tests) in
    let all = c.loop-i.auto.out in
    path-more c.args.memory.now c.loop-i.out c.loop-i.i (length c.args.out.now - c.loop-i.i) (length c.args.out.now - (c.loop-i.i + 1)) (c.args.address + c.loop-i.i) (c.args.address + (c.loop-i.i + 1)) c.in_ok-byte.byte
    (omega arith) (omega arith) (omega arith) (omega arith) (sym c.in_ok-byte.ensures) more
    ∙ c.loop-i.invariant

pub returns-clause-path : goal.returns-clause-path
returns-clause-path c =
    let all = c.loop-i.auto.out in
    let end : length c.loop-i.out ≡ c.loop-i.i = omega arith in
    ap (λ n. Some (take n c.loop-i.out)) end
    ∙ path-all c.args.memory.now c.loop-i.out c.loop-i.i (length c.args.out.now - c.loop-i.i) (c.args.address + c.loop-i.i) (omega arith) ∙ c.loop-i.invariant
