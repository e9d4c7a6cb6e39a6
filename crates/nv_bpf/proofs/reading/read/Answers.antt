use Rattle.std.proofs.Common.{Err, sym, ap, ◌∙◌}
use Rattle.std.proofs.lemmas.Result.{err_from_is_err_and}
use Rattle.nv_bpf.specs.Texts.{filter_with, filter_of}
use Rattle.nv_bpf.proofs.reading.read.Goals as goal

pub returns-in_err-ops : goal.returns-in_err-ops
unfolding filter_of
returns-in_err-ops c =
    let p = err_from_is_err_and c.from_residual.result c.from_residual.ensures.1 in
    rw (p.1, p.2) (λ named. sym (ap (filter_with _) (c.in_err-ops.ensures.fault (λ e. named (ap Err e)))))

pub returns : goal.returns
unfolding filter_of
returns c _ = c.verify.ensures ∙ sym (ap (filter_with _) c.in_ok-ops.ensures.ops)
