use Rattle.std.proofs.Common.{◌∙◌, ap, subst, sym, List, ℕ}
use Rattle.std.proofs.lemmas.Result.{err_from_is_err_and}
use Rattle.nv_bpf.specs.Texts.{filter_of}
use Rattle.nv_driver.specs.Seen.{rules_view}
use Rattle.nv_driver.specs.Found.{IsReadOf}
use Rattle.nv_driver.proofs.Loading.{rules_unreadable, rules_faulty, rules_read}
use Rattle.nv_driver.proofs.preparing.read_rules.Goals as goal

pub returns-in_err-bytes-clause-refused : goal.returns-in_err-bytes-clause-refused
returns-in_err-bytes-clause-refused g c =
    let p = err_from_is_err_and c.from_residual.result c.from_residual.ensures.1 in
    rw (p.1, p.2) (rules_unreadable _ (g.F.Files.holds c.args.files.now) _ _ _ _ _ _ (ap rules_view c.in-Some.is) c.in_err-bytes.ensures.refused)

pub returns-in-Ok-clause-rules : goal.returns-in-Ok-clause-rules
returns-in-Ok-clause-rules g c = rules_read _ (g.F.Files.holds c.args.files.now) _ _ (ap rules_view c.in-Some.is) (record {
  bytes = c.in_ok-bytes.bytes.items;
  read = c.in_ok-bytes.ensures.bytes;
  is = ap (filter_of 4096) (sym c.deref.ensures.value) ∙ c.in-Ok.ensures.filter;
})

pub returns-clause-refused : goal.returns-clause-refused
returns-clause-refused g c =
    let told = g.F.Files.holds c.args.files.now c.in-Some.name.now in
    let read : IsReadOf c.deref.result.now told = subst (λ (bytes : List ℕ). IsReadOf bytes told) (sym c.deref.ensures.value) c.in_ok-bytes.ensures.bytes in
    rules_faulty c.in-Err.refusal (g.F.Files.holds c.args.files.now) _ _ c.deref.result.now _ _ _ _ (ap rules_view c.in-Some.is) c.in_ok-bytes.ensures.faults read c.in-Err.ensures.refused
