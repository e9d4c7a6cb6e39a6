use Rattle.std.proofs.Common.{◌≡◌, ◌*◌, ◌≤◌, Some, option_map, length, ap, sym, subst, ◌∙◌, arith}
use Rattle.nv_asm.specs.Strings.{string}
use Rattle.nv_asm.specs.inner.Bounds.{most_of}
use Rattle.nv_asm.proofs.Sizes.{Shorter, string-shorter, widen-some, widen-ok, operands-few}
use Rattle.nv_asm.proofs.statements.read.Goals as goal

pub returns-in_ok-operands-in-Bytes-clause-small : goal.returns-in_ok-operands-in-Bytes-clause-small
returns-in_ok-operands-in-Bytes-clause-small c =
    let few = operands-few c.in_ok-operands-in-Bytes.operands.items c.args.rest.now c.in_ok-operands-in-Bytes.ensures in
    let same = ap length c.deref-in-Bytes.ensures.value in
    widen-ok c.bytes.result (length c.deref-in-Bytes.result.now) (most_of (length c.args.rest.now)) (omega (arith, few, same)) c.bytes.ensures.small

pub returns-in_ok-operands-in-Words-clause-small : goal.returns-in_ok-operands-in-Words-clause-small
returns-in_ok-operands-in-Words-clause-small c =
    let few = operands-few c.in_ok-operands-in-Words.field-0.items c.args.rest.now c.in_ok-operands-in-Words.ensures in
    widen-some c.words.result (4 * length c.in_ok-operands-in-Words.field-0.items) (most_of (length c.args.rest.now)) (omega (arith, few)) c.words.ensures.small

pub returns-in-Some-clause-small : goal.returns-in-Some-clause-small
returns-in-Some-clause-small c =
    let read : Some c.in-Some.bytes.items ≡ string c.args.rest.now = sym (ap (option_map (λ bytes. bytes.items)) c.in-Some.is) ∙ c.in_ok-bytes-in-Ascii.ensures in
    let short : length c.in-Some.bytes.items ≤ length c.args.rest.now = subst (Shorter (length c.args.rest.now)) (sym read) (string-shorter c.args.rest.now) in
    omega (arith, short)
