use Rattle.std.proofs.Common.{◌≡◌, ◌∙◌, sym, ap, refl, true, arith}
use Rattle.std.proofs.lemmas.Result.{err_from_is_err_and}
use Rattle.nv_script.specs.Scripts.{script_of}
use Rattle.nv_script.specs.Views.{setup_of}
use Rattle.nv_driver.proofs.LiveLoading.{script_reason, head_reason, live_comes, live_is}
use Rattle.nv_driver.proofs.live.live_script_in.Goals as goal

pub returns-in_err-_own-clause-refused : goal.returns-in_err-_own-clause-refused
returns-in_err-_own-clause-refused c =
    let p = err_from_is_err_and c.from_residual.result c.from_residual.ensures.1 in
    rw (p.1, p.2) (script_reason _ c.args.bytes.now c.in_err-_own.ensures.refused)

pub returns-in_err-script-clause-refused : goal.returns-in_err-script-clause-refused
returns-in_err-script-clause-refused c =
    let p = err_from_is_err_and c.from_residual-in_err-script.result c.from_residual-in_err-script.ensures.1 in
    rw (p.1, p.2) (head_reason _ c.args.bytes.now c.deref.result.now (setup_of c.in_ok-_own._own) c.in_ok-_own.ensures.script (c.deref.ensures.value ∙ c.in_ok-head.ensures) c.in_err-script.ensures.refused)

pub returns-then-not-lists_nothing-clause-refused : goal.returns-then-not-lists_nothing-clause-refused
returns-then-not-lists_nothing-clause-refused c = (
  refl,
  λ e. cc,
  live_comes c.args.bytes.now c.deref.result.now (setup_of c.in_ok-_own._own) (setup_of c.in_ok-script.script) c.in_ok-_own.ensures.script (c.deref.ensures.value ∙ c.in_ok-head.ensures) c.in_ok-script.ensures.script
      (λ none. grind (arith, c.if-not-lists_nothing.true, c.lists_nothing.ensures.some none)),
)

pub returns-clause-script : goal.returns-clause-script
returns-clause-script c =
    let nothing : c.lists_nothing.result ≡ true = grind (arith, c.if-not-lists_nothing.false) in
    live_is c.args.bytes.now c.in_ok-head.head.items (setup_of c.in_ok-_own._own) (setup_of c.in_ok-script.script) c.in_ok-_own.ensures.script c.in_ok-head.ensures
    (ap script_of (sym c.deref.ensures.value) ∙ c.in_ok-script.ensures.script) (c.lists_nothing.ensures.none nothing)
