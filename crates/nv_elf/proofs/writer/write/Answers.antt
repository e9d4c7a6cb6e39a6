use Rattle.std.proofs.Common.{◌≡◌, ℕ, ◌∙◌, sym, ap, arith, length, map}
use Rattle.std.proofs.lemmas.List.{length-map}
use Rattle.nv_elf.specs.Elf.{executable_of, segment_range, elf_of}
use Rattle.nv_elf.proofs.ReadBack.{program-few, end-fits, elf_of-file_of}
use Rattle.nv_elf.proofs.Writing.{file-pushed}
use Rattle.nv_elf.proofs.writer.write.Goals as goal

pub overflow_cast-count : goal.overflow_cast-count
overflow_cast-count c =
    let p = c.args.program.now in
    omega (arith, program-few (executable_of p) c.requires.sound, length-map p.segments.items segment_range, p.segments.ok.0, c.len-count.ensures)

pub push_table-requires : goal.push_table-requires
push_table-requires c =
    let p = c.args.program.now in
    let count : c.len-count.result ≡ length (map segment_range p.segments.items) = c.len-count.ensures ∙ p.segments.ok.0 ∙ sym (length-map p.segments.items segment_range) in
    rw (c.deref.ensures.value, count) (end-fits (executable_of p) c.requires.sound c.requires.small)

pub returns-clause-file : goal.returns-clause-file
returns-clause-file c =
    let p = c.args.program.now in
    let count : c.len-count.result ≡ length (map segment_range p.segments.items) = c.len-count.ensures ∙ p.segments.ok.0 ∙ sym (length-map p.segments.items segment_range) in
    rw (c.in_ok-push_contents.ensures, c.in_ok-push_table.ensures, c.in_ok-push_file_header.ensures, c.new-out.ensures.items, c.deref.ensures.value, c.deref-2.ensures.value, count)
    (file-pushed (executable_of p))

pub returns-clause-read_back : goal.returns-clause-read_back
returns-clause-read_back c = ap elf_of (returns-clause-file c) ∙ elf_of-file_of (executable_of c.args.program.now) c.requires.sound (omega arith) c.requires.small
