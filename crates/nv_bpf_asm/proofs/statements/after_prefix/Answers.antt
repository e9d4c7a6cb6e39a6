use Rattle.std.proofs.Common.{Some, None, if◌then◌else◌, length, drop, sym, ap, ◌∙◌}
use Rattle.std.proofs.lemmas.List.{take_rest}
use Rattle.nv_bpf_asm.proofs.statements.after_prefix.Goals as goal

pub returns-then-starts_with : goal.returns-then-starts_with
returns-then-starts_with c =
    let text = c.args.text.now in
    let n = length c.args.prefix.now in
    let starts = sym c.starts_with.ensures.value ∙ c.if-starts_with.true in
    ap Some (take_rest text n) ∙ sym (ap (λ b. if b then Some (drop n text) else None) starts)
