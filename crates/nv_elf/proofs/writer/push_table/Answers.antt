use Rattle.std.proofs.Common.{◌≡◌, ◌+◌, sym, ◌∙◌, append_assoc, ap, arith, length, map, drop, ◌++◌}
use Rattle.nv_elf.specs.Elf.{segment_range}
use Rattle.nv_elf.specs.Written.{padding, table_from, end_from, program_header}
use Rattle.nv_elf.proofs.Writing.{table-at, end-at, after-below}
use Rattle.nv_elf.proofs.writer.push_table.Goals as goal

pub overflow_add-place : goal.overflow_add-place
overflow_add-place c =
    let l = c.loop-segment in
    omega (arith, after-below l.place c.args.segments.now l.segment-index c.segment-item.result _ c.loop-segment-test.true c.segment-item.is l.invariant.end, c.padding-place.ensures.value)

pub overflow_cast-place : goal.overflow_cast-place
overflow_cast-place c =
    let l = c.loop-segment in
    omega (arith, after-below l.place c.args.segments.now l.segment-index c.segment-item.result _ c.loop-segment-test.true c.segment-item.is l.invariant.end, c.padding-place.ensures.value)

pub overflow_add-place-in-loop-segment : goal.overflow_add-place-in-loop-segment
overflow_add-place-in-loop-segment c =
    let l = c.loop-segment in
    omega (arith, after-below l.place c.args.segments.now l.segment-index c.segment-item.result _ c.loop-segment-test.true c.segment-item.is l.invariant.end, c.padding-place.ensures.value, c.len-place.ensures, c.segment-item.result.bytes.ok.0)

pub loop-segment-preserved : goal.loop-segment-preserved
loop-segment-preserved c =
    let l = c.loop-segment in
    let s = c.segment-item.result in
    let table = table-at l.place c.args.segments.now l.segment-index s c.loop-segment-test.true c.segment-item.is in
    let end = end-at l.place c.args.segments.now l.segment-index s c.loop-segment-test.true c.segment-item.is in
    let next = c.len-place.ensures ∙ s.bytes.ok.0 in
    record {
      table = rw (c.in_ok-push_program_header.ensures, c.padding-place.ensures.value, next, append_assoc l.out.items) (ap (λ xs. l.out.items ++ xs) (sym table) ∙ l.invariant.table);
      end = rw (c.padding-place.ensures.value, next) (sym end ∙ l.invariant.end);
    }
