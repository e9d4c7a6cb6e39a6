use Rattle.std.proofs.Common.{◌++◌, length, Some, ap, subst, sym, ◌∙◌, arith, append-nil, length-append}
use Rattle.nv_bytes.specs.Lines.{lines, LinesLeft}
use Rattle.nv_bytes.specs.Names.{first_fault, or_later}
use Rattle.nv_asm.specs.declared.place.Reached.{Reached}
use Rattle.nv_asm.specs.declared.place.Section.TheVariants as section
use Rattle.nv_asm.specs.Places.{Placed, placed, placed_line, after, nothing_reached, ended}
use Rattle.nv_asm.specs.Assembled.{laid_in, cause_of, section_bytes, entry_address}
use Rattle.nv_asm.specs.inner.Known.{known}
use Rattle.nv_asm.specs.inner.Programs.{IsEntryAt, fault_found}
use Rattle.nv_asm.specs.declared.fault.AsmFault.TheVariants as fault
use Rattle.nv_asm.proofs.Passing.{ended-line, ended-none}
use Rattle.nv_asm.proofs.Faultless.{bytes-more, causes, causes-line, causes-none, bytes-none, entry-line, entry-none, entry-kept, short-line, grows-line}
use Rattle.nv_asm.proofs.assembling.lay.Goals as goal

pub loop-line-init : goal.loop-line-init
loop-line-init c =
    let w = known c.args.names.now c.args.text_len in
    let ps = placed 0 nothing_reached (lines c.args.text.now) in
    let begins = c.into_iter-line-iterator.ensures.into_iter_gives ∙ c.of-line-items.ensures in
    record {
      faults = ap (λ (s : LinesLeft). first_fault s.before (causes w (placed s.before nothing_reached s.left))) begins;
      texts = ap (λ (s : LinesLeft). c.new.result.items ++ section_bytes w section.Text (placed s.before nothing_reached s.left)) begins ∙ ap (λ before. before ++ section_bytes w section.Text ps) c.new.ensures.items;
      contents = ap (λ (s : LinesLeft). c.new-2.result.items ++ section_bytes w section.Data (placed s.before nothing_reached s.left)) begins ∙ ap (λ before. before ++ section_bytes w section.Data ps) c.new-2.ensures.items;
      entries = ap (λ (s : LinesLeft). entry_address w c.from.result (placed s.before nothing_reached s.left)) begins ∙ ap (λ e. entry_address w e ps) c.from.ensures;
      entry_at = record { least = omega arith; most = omega arith; aligned = omega arith };
      ends = ap (λ (s : LinesLeft). ended nothing_reached (placed s.before nothing_reached s.left)) begins;
      text_len_is = ap length c.new.ensures.items;
      data_len_is = ap length c.new-2.ensures.items;
      short = omega arith;
    }

pub returns-in-Err-clause-fault : goal.returns-in-Err-clause-fault
returns-in-Err-clause-fault c _ =
    let w = known c.args.names.now c.args.text_len in
    let n = c.in-Some.line in
    let r = c.loop-line.reached in
    let first = c.in-Some.content.now in
    let left = c.next.new.self in
    let refused = rw c.in-Err.is at c.in_ok-after.ensures.err in
    let later = first_fault left.before (causes w (placed left.before (after (placed_line n r first)) left.left)) in
    ap fault_found (sym c.loop-line.invariant.faults ∙ causes-line w c.loop-line.line-iterator left n r first c.in-Some.ensures.steps ∙ ap (λ x. or_later n (cause_of x) later) refused)
    ∙ ap (λ k. Some (fault.Line k c.in-Err.cause)) (sym c.line_number.ensures)

pub loop-line-preserved : goal.loop-line-preserved
loop-line-preserved c =
    let w = known c.args.names.now c.args.text_len in
    let i = c.loop-line.invariant in
    let n = c.in-Some.line in
    let r = c.loop-line.reached in
    let first = c.in-Some.content.now in
    let now = c.loop-line.line-iterator in
    let left = c.next.new.self in
    let next = c.in-Some.ensures.steps in
    let p : Placed = placed_line n r first in
    let add = rw c.in-Ok.is at c.in_ok-after.ensures.ok in
    let ps = placed left.before (after p) left.left in
    let old = c.loop-line.out in
    let g = grows-line w n r first add.bytes add.laid_is in
    record {
      faults = ap (λ q. first_fault left.before (causes w (placed left.before q left.left))) add.reached_is
          ∙ sym (causes-line w now left n r first next ∙ ap (λ x. or_later n (cause_of x) (first_fault left.before (causes w ps))) add.laid_is) ∙ i.faults;
      texts = bytes-more w section.Text now left n r c.in-Ok.after first add.bytes old.text.items c.lay_line.new.out.text.items next add.laid_is add.text_is add.reached_is ∙ i.texts;
      contents = bytes-more w section.Data now left n r c.in-Ok.after first add.bytes old.data.items c.lay_line.new.out.data.items next add.laid_is add.contents_is add.reached_is ∙ i.contents;
      entries = ap (λ q. entry_address w c.lay_line.new.out.entry (placed left.before q left.left)) add.reached_is ∙ ap (λ x. entry_address w x ps) add.entry_is
          ∙ sym (entry-line w old.entry now left n r first next) ∙ i.entries;
      entry_at = subst (IsEntryAt c.args.text_len) (sym add.entry_is) (entry-kept w p add.bytes old.entry add.laid_is i.entry_at);
      ends = ap (λ q. ended q (placed left.before q left.left)) add.reached_is ∙ sym (ended-line now left n r first next) ∙ i.ends;
      text_len_is = omega (arith, ap length add.text_is, length-append old.text.items (laid_in section.Text r.section add.bytes), i.text_len_is, g.text, ap (λ (q : Reached). q.text_len) add.reached_is);
      data_len_is = omega (arith, ap length add.contents_is, length-append old.data.items (laid_in section.Data r.section add.bytes), i.data_len_is, g.contents, ap (λ (q : Reached). q.data_len) add.reached_is);
      short = omega (arith, short-line w p add.bytes add.laid_is, ap (λ (q : Reached). q.text_len) add.reached_is, ap (λ (q : Reached). q.data_len) add.reached_is);
    }

pub returns-clause-laid : goal.returns-clause-laid
returns-clause-laid c =
    let w = known c.args.names.now c.args.text_len in
    let i = c.loop-line.invariant in
    let none = c.in-None.ensures.steps.0 in
    let n = c.loop-line.line-iterator.before in
    let r = c.loop-line.reached in
    let left = c.loop-line.line-iterator.left in
    let ends = sym i.ends ∙ ended-none n r left none in
    record {
      faultless = sym i.faults ∙ causes-none w n r left none;
      text_bytes = sym i.texts ∙ ap (λ more. c.loop-line.out.text.items ++ more) (bytes-none w section.Text n r left none) ∙ append-nil c.loop-line.out.text.items;
      data_bytes = sym i.contents ∙ ap (λ more. c.loop-line.out.data.items ++ more) (bytes-none w section.Data n r left none) ∙ append-nil c.loop-line.out.data.items;
      text_len = i.text_len_is ∙ ap (λ (r : Reached). r.text_len) (sym ends);
      short = omega (arith, i.text_len_is, i.data_len_is, i.short);
      entry_is = sym i.entries ∙ entry-none w c.loop-line.out.entry n r left none;
      entry_at = i.entry_at;
    }
