use Rattle.std.proofs.Common.{◌≡◌, ◌+◌, ◌-◌, Ok, Err, sym, ap, ◌∙◌, arith, append-nil}
use Rattle.nv_bpf.specs.declared.op.FilterFault.TheVariants as fault
use Rattle.nv_bpf.specs.Texts.{ops_of, with_line}
use Rattle.nv_bpf.proofs.OpTexts.{with_prefix, with_prefix-none, with_prefix-put_first, ops_of-missing, ops_of-line, ops_of-end, ops_of-more}
use Rattle.nv_bpf.proofs.reading.read_ops.Goals as goal

pub loop-init : goal.loop-init
loop-init c =
    let all : c.args.count ≡ c.args.count - 0 = omega arith in
    record {
      ops = sym (ap (λ read. with_prefix read (ops_of 2 c.args.count c.args.lines.left)) c.new-ops.ensures.items ∙ with_prefix-none _)
          ∙ ap (λ m. with_prefix c.new-ops.result.items (ops_of 2 m c.args.lines.left)) all;
      place = c.requires.second;
    }

pub returns-in_default-clause-fault : goal.returns-in_default-clause-fault
returns-in_default-clause-fault c _ =
    c.loop.invariant.ops ∙ ap (with_prefix c.loop.ops.items) (ops_of-missing (c.loop.counter + 2) (c.args.count - c.loop.counter) c.loop.lines.left (omega arith) c.in_default.ensures.steps.0)

pub returns-in_default-read_op-clause-fault : goal.returns-in_default-read_op-clause-fault
returns-in_default-read_op-clause-fault c _ =
    let next = c.in-Some.ensures.steps in
    let op = sym c.read_op.ensures ∙ c.in_default-read_op.is in
    let number : c.loop.counter + 2 ≡ c.line_number.result = omega (arith, c.line_number.ensures, next.counted, c.loop.invariant.place) in
    c.loop.invariant.ops
    ∙ ap (with_prefix c.loop.ops.items)
    (ops_of-line (c.loop.counter + 2) (c.args.count - c.loop.counter) c.loop.lines.left c.in-Some.line.now c.next.new.self.left (omega arith) next.first
    ∙ ap (λ o. with_line (c.loop.counter + 2) o (ops_of (c.loop.counter + 2 + 1) (c.args.count - c.loop.counter - 1) c.next.new.self.left)) op)
    ∙ ap (λ n. Err (fault.Line n)) number

pub loop-preserved : goal.loop-preserved
loop-preserved c =
    let next = c.in-Some.ensures.steps in
    let op = sym c.read_op.ensures ∙ c.in-Some-read_op.is in
    let left = c.next.new.self.left in
    let later = ops_of (c.loop.counter + 2 + 1) (c.args.count - c.loop.counter - 1) left in
    let number : c.loop.counter + 2 + 1 ≡ c.loop.counter + 1 + 2 = omega arith in
    let fewer : c.args.count - c.loop.counter - 1 ≡ c.args.count - (c.loop.counter + 1) = omega arith in
    record {
      ops = c.loop.invariant.ops
          ∙ ap (with_prefix c.loop.ops.items)
          (ops_of-line (c.loop.counter + 2) (c.args.count - c.loop.counter) c.loop.lines.left c.in-Some.line.now left (omega arith) next.first ∙ ap (λ o. with_line (c.loop.counter + 2) o later) op)
          ∙ with_prefix-put_first c.loop.ops.items c.in-Some-read_op.op later
          ∙ ap (λ items. with_prefix items later) (sym c.in_ok-push.ensures.items)
          ∙ ap (λ n. with_prefix c.push.new.self.items (ops_of n (c.args.count - c.loop.counter - 1) left)) number
          ∙ ap (λ m. with_prefix c.push.new.self.items (ops_of (c.loop.counter + 1 + 2) m left)) fewer;
      place = omega (arith, next.further, c.loop.invariant.place);
    }

pub returns-in-None-clause-ops : goal.returns-in-None-clause-ops
returns-in-None-clause-ops c =
    let none_left : c.args.count - c.loop.counter ≡ 0 = omega arith in
    c.loop.invariant.ops ∙ ap (λ m. with_prefix c.loop.ops.items (ops_of (c.loop.counter + 2) m c.loop.lines.left)) none_left
    ∙ ap (with_prefix c.loop.ops.items) (ops_of-end (c.loop.counter + 2) c.loop.lines.left c.in-None.ensures.steps.0)
    ∙ ap Ok (append-nil c.loop.ops.items)

pub returns-in-Some-next-clause-fault : goal.returns-in-Some-next-clause-fault
returns-in-Some-next-clause-fault c _ =
    let none_left : c.args.count - c.loop.counter ≡ 0 = omega arith in
    c.loop.invariant.ops ∙ ap (λ m. with_prefix c.loop.ops.items (ops_of (c.loop.counter + 2) m c.loop.lines.left)) none_left
    ∙ ap (with_prefix c.loop.ops.items) (ops_of-more (c.loop.counter + 2) c.loop.lines.left _ _ c.in-Some-next.ensures.steps.first)
