use Rattle.std.proofs.Common.{Err, sym, ap, ◌∙◌}
use Rattle.std.proofs.lemmas.Result.{err_from_is_err_and}
use Rattle.nv_bytes.specs.Lines.{lines}
use Rattle.nv_bytes.specs.Names.{defined}
use Rattle.nv_bpf_asm.specs.Assembled.{assembled, filter_with, of_filter, labels}
use Rattle.nv_bpf_asm.proofs.Gathering.{ops_of-same}
use Rattle.nv_bpf_asm.proofs.assembling.assemble.Goals as goal

pub returns-in_err-ops : goal.returns-in_err-ops
unfolding assembled
returns-in_err-ops c =
    let p = err_from_is_err_and c.from_residual-in_err-ops.result c.from_residual-in_err-ops.ensures.1 in
    let same = ops_of-same (defined c.in_ok-names.names) (defined (labels 0 0 (lines c.args.text.now))) (lines c.args.text.now) c.in_ok-names.ensures in
    rw (p.1, p.2) (λ named. sym (ap (filter_with _) (sym same ∙ c.in_err-ops.ensures.fault (λ e. named (ap Err e)))))

pub returns-in-Ok : goal.returns-in-Ok
unfolding assembled
returns-in-Ok c _ =
    let same = ops_of-same (defined c.in_ok-names.names) (defined (labels 0 0 (lines c.args.text.now))) (lines c.args.text.now) c.in_ok-names.ensures in
    ap of_filter (sym c.in-Ok.is ∙ c.verify.ensures) ∙ sym (ap (filter_with _) (sym same ∙ c.in_ok-ops.ensures.ops))

pub returns : goal.returns
unfolding assembled
returns c _ =
    let same = ops_of-same (defined c.in_ok-names.names) (defined (labels 0 0 (lines c.args.text.now))) (lines c.args.text.now) c.in_ok-names.ensures in
    ap of_filter (sym c.in-Err.is ∙ c.verify.ensures) ∙ sym (ap (filter_with _) (sym same ∙ c.in_ok-ops.ensures.ops))
