use Rattle.std.proofs.Common.{◌≡◌, ◌+◌, Ok, Err, sym, ap, ◌∙◌, arith, append-nil}
use Rattle.nv_bytes.specs.Lines.{lines, Parts, LinesLeft}
use Rattle.nv_bytes.specs.Names.{defined}
use Rattle.nv_bpf_asm.specs.declared.fault.RuleFault.TheVariants as fault
use Rattle.nv_bpf_asm.specs.Assembled.{ops_of, op_of_parts, count, word_count}
use Rattle.nv_bpf_asm.proofs.Naming.{word_count-le}
use Rattle.nv_bpf_asm.proofs.Gathering.{with_prefix, with_prefix-none, with_prefix-line, ops_of-line, ops_of-none}
use Rattle.nv_bpf_asm.proofs.assembling.ops_of.Goals as goal

pub loop-line-init : goal.loop-line-init
loop-line-init c =
    let find = defined c.args.names.now in
    let begins = c.into_iter-line-iterator.ensures.into_iter_gives ∙ c.of-line-items.ensures in
    record {
      ops = sym (ap (λ read. with_prefix read (ops_of find 0 0 (lines c.args.text.now))) c.new-ops.ensures.items ∙ with_prefix-none _)
          ∙ ap (λ (s : LinesLeft). with_prefix c.new-ops.result.items (ops_of find s.before 0 s.left)) (sym begins);
      few = omega arith;
    }

pub returns-in-Err-clause-fault : goal.returns-in-Err-clause-fault
returns-in-Err-clause-fault c _ =
    let find = defined c.args.names.now in
    let r = sym c.in-Err.is ∙ c.in_ok-op.ensures ∙ ap (op_of_parts find c.in-Some.line c.loop-line.place) c.line_parts-parts.ensures in
    c.loop-line.invariant.ops
    ∙ ap (with_prefix c.loop-line.ops.items) (ops_of-line find c.loop-line.line-iterator c.next.new.self c.in-Some.line c.loop-line.place c.in-Some.content.now (Err c.in-Err.cause) c.in-Some.ensures.steps r)
    ∙ ap (λ n. Err (fault.Line n c.in-Err.cause)) (sym c.line_number.ensures)

pub loop-line-preserved : goal.loop-line-preserved
loop-line-preserved c =
    let find = defined c.args.names.now in
    let next = c.in-Some.ensures.steps in
    let line = c.in-Some.content.now in
    let left = c.next.new.self in
    let n = c.in-Some.line in
    let place = c.loop-line.place in
    let r = sym c.in-Ok.is ∙ c.in_ok-op.ensures ∙ ap (op_of_parts find n place) c.line_parts-parts.ensures in
    let counted : count line ≡ c.word_count-place.result = sym (c.word_count-place.ensures ∙ ap (λ (p : Parts). word_count p.word) c.line_parts-parts.ensures) in
    record {
      ops = c.loop-line.invariant.ops ∙ ap (with_prefix c.loop-line.ops.items) (ops_of-line find c.loop-line.line-iterator left n place line (Ok c.in-Ok.op) next r)
          ∙ with_prefix-line c.loop-line.ops.items n c.in-Ok.op (ops_of find left.before (place + count line) left.left)
          ∙ ap (λ read. with_prefix read (ops_of find left.before (place + count line) left.left)) (sym c.in_ok-push_op.ensures)
          ∙ ap (λ k. with_prefix c.push_op.new.ops.items (ops_of find left.before (place + k) left.left)) counted;
      few = omega (arith, word_count-le c.line_parts-parts.result.word.now, next.further, c.loop-line.invariant.few);
    }

pub returns-clause-ops : goal.returns-clause-ops
returns-clause-ops c =
    let lines = c.loop-line.line-iterator in
    c.loop-line.invariant.ops ∙ ap (with_prefix c.loop-line.ops.items) (ops_of-none (defined c.args.names.now) lines.before c.loop-line.place lines.left c.in-None.ensures.steps.0)
    ∙ ap Ok (append-nil c.loop-line.ops.items)
