use Rattle.std.proofs.Common.{◌≡◌, sym, ◌∙◌, ap, refl, inr, filter, length, arith}
use Rattle.std.proofs.lemmas.Result.{err_from_is_err_and}
use Rattle.nv_elf.specs.Elf.{headers_of, loadables_of, is_loadable, range_in, segment_range, Accepted}
use Rattle.std.proofs.lemmas.List.{length-map}
use Rattle.nv_elf.proofs.ReadBack.{program-few}
use Rattle.nv_elf.proofs.Sound.{is_program-accepted}
use Rattle.nv_elf.proofs.Faults.{refused-file, refused-table, refused-loadables, accepted}
use Rattle.nv_elf.proofs.reader.read.Goals as goal

pub returns-in_err-check_file-clause-fault : goal.returns-in_err-check_file-clause-fault
returns-in_err-check_file-clause-fault c =
    let p = err_from_is_err_and c.from_residual.result c.from_residual.ensures.1 in
    rw (p.1, p.2) (inr (refused-file c.args.bytes.now _ c.in_err-check_file.ensures.fault))

pub returns-in_err-check_table-clause-fault : goal.returns-in_err-check_table-clause-fault
returns-in_err-check_table-clause-fault c =
    let p = err_from_is_err_and c.from_residual-in_err-check_table.result c.from_residual-in_err-check_table.ensures.1 in
    let headers : c.deref-2.result.now ≡ headers_of c.args.bytes.now = c.deref-2.ensures.value ∙ c.in_ok-headers.ensures in
    let loadables : c.deref-3.result.now ≡ loadables_of c.args.bytes.now =
    c.deref-3.ensures.value ∙ c.in_ok-loadables.ensures ∙ ap (filter is_loadable) (c.deref.ensures.value ∙ c.in_ok-headers.ensures) in
    rw (p.1, p.2) (inr (refused-table c.args.bytes.now _ c.in_ok-check_file.ensures.fault (rw (headers, loadables) at c.in_err-check_table.ensures.fault)))

pub returns-in_err-check_loadables-clause-fault : goal.returns-in_err-check_loadables-clause-fault
returns-in_err-check_loadables-clause-fault c =
    let p = err_from_is_err_and c.from_residual-in_err-check_loadables.result c.from_residual-in_err-check_loadables.ensures.1 in
    let headers : c.deref-2.result.now ≡ headers_of c.args.bytes.now = c.deref-2.ensures.value ∙ c.in_ok-headers.ensures in
    let listed : c.in_ok-loadables.loadables.items ≡ loadables_of c.args.bytes.now =
    c.in_ok-loadables.ensures ∙ ap (filter is_loadable) (c.deref.ensures.value ∙ c.in_ok-headers.ensures) in
    let table = rw (headers, c.deref-3.ensures.value ∙ listed) at c.in_ok-check_table.ensures.fault in
    let fault = rw (c.u32_at-entry.ensures, c.deref-4.ensures.value ∙ listed) at c.in_err-check_loadables.ensures.fault in
    rw (p.1, p.2) (inr (refused-loadables c.args.bytes.now _ c.in_ok-check_file.ensures.fault table fault))

pub returns-clause-program : goal.returns-clause-program
returns-clause-program c =
    let headers : c.deref-2.result.now ≡ headers_of c.args.bytes.now = c.deref-2.ensures.value ∙ c.in_ok-headers.ensures in
    let listed : c.in_ok-loadables.loadables.items ≡ loadables_of c.args.bytes.now =
    c.in_ok-loadables.ensures ∙ ap (filter is_loadable) (c.deref.ensures.value ∙ c.in_ok-headers.ensures) in
    let table = rw (headers, c.deref-3.ensures.value ∙ listed) at c.in_ok-check_table.ensures.fault in
    let none = rw (c.u32_at-entry.ensures, c.deref-4.ensures.value ∙ listed) at c.in_ok-check_loadables.ensures.fault in
    accepted c.args.bytes.now c.in_ok-check_file.ensures.fault table none
    ∙ ap Accepted (rw (c.u32_at-entry.ensures, c.in_ok-segments.ensures, c.deref-5.ensures.value ∙ listed) refl)

pub returns-clause-sound : goal.returns-clause-sound
returns-clause-sound c = is_program-accepted c.args.bytes.now _ (returns-clause-program c)

pub returns-clause-few : goal.returns-clause-few
returns-clause-few c =
    let segments = c.in_ok-segments.segments in
    let few = program-few _ (returns-clause-sound c) in
    omega (arith, few, length-map segments.items segment_range, segments.ok.0)
