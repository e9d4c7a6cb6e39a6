use Rattle.std.proofs.Common.{◌≡◌, ◌≤◌, Ok, Err, true, ap, sym, subst, ◌∙◌}
use Rattle.std.proofs.lemmas.Result.{err_from_is_err_and}
use Rattle.nv_elf.specs.Elf.{Executable}
use Rattle.nv_elf.specs.Written.{is_program, range_bytes}
use Rattle.nv_asm.proofs.Ending.{IsKnown, assembled-fault, assembled-short, assembled-program, image-program, image-small}
use Rattle.nv_asm.proofs.assembling.assemble.Goals as goal

pub returns-in_err-laid-clause-program : goal.returns-in_err-laid-clause-program
returns-in_err-laid-clause-program c =
    let p = err_from_is_err_and c.from_residual-in_err-laid.result c.from_residual-in_err-laid.ensures.1 in
    let known : IsKnown c.in_ok-names.names c.in_ok-names.text_len c.args.text.now = record { find = c.in_ok-names.ensures.names; len = c.in_ok-names.ensures.text_len } in
    rw (p.1, p.2) (λ named. sym (assembled-fault c.in_ok-names.names c.in_ok-names.text_len c.args.text.now _ known (c.in_err-laid.ensures.fault (λ e. named (ap Err e)))))

pub returns-then-text_len-lt4-clause-program : goal.returns-then-text_len-lt4-clause-program
returns-then-text_len-lt4-clause-program c _ =
    let known : IsKnown c.in_ok-names.names c.in_ok-names.text_len c.args.text.now = record { find = c.in_ok-names.ensures.names; len = c.in_ok-names.ensures.text_len } in
    sym (assembled-short c.in_ok-names.names c.in_ok-names.text_len c.args.text.now known c.in_ok-laid.ensures.laid.faultless c.if-text_len-lt4.true)

pub returns-clause-program : goal.returns-clause-program
returns-clause-program c _ =
    let l = c.in_ok-laid.laid in
    let known : IsKnown c.in_ok-names.names c.in_ok-names.text_len c.args.text.now = record { find = c.in_ok-names.ensures.names; len = c.in_ok-names.ensures.text_len } in
    ap Ok c.in_ok-program.ensures
    ∙ sym (assembled-program c.in_ok-names.names c.in_ok-names.text_len c.args.text.now l.text.items l.data.items l.entry known c.in_ok-laid.ensures.laid c.if-text_len-lt4.false)

pub returns-clause-sound : goal.returns-clause-sound
returns-clause-sound c =
    let l = c.in_ok-laid.laid in
    let h = c.in_ok-laid.ensures.laid in
    subst (λ (p : Executable). is_program p ≡ true) (sym c.in_ok-program.ensures)
    (image-program c.in_ok-names.text_len l.entry l.text.items l.data.items (h.text_len ∙ sym c.in_ok-names.ensures.text_len) c.if-text_len-lt4.false h.short h.entry_at)

pub returns-clause-small : goal.returns-clause-small
returns-clause-small c =
    let l = c.in_ok-laid.laid in
    subst (λ (p : Executable). range_bytes p.ranges ≤ 1048576) (sym c.in_ok-program.ensures)
    (image-small c.in_ok-names.text_len l.entry l.text.items l.data.items c.in_ok-laid.ensures.laid.short)
