use Rattle.std.proofs.Common.{◌≡◌, ◌∙◌, Bool, true, false, sym, subst, ap, refl}
use Rattle.nv_calls.specs.Numbers.{is_local}
use Rattle.nv_calls.specs.Shapes.{IsShaped}
use Rattle.nv_guest.specs.Calls.{call_number}
use Rattle.nv_guest.specs.Guest.{machine_by}
use Rattle.nv_guest.specs.Threads.{asked_as}
use Rattle.nv_guest.specs.declared.outcome.Asked.TheVariants.{Logged}
use Rattle.nv_guest.proofs.Shaped.{call_is_shaped}
use Rattle.nv_guest.proofs.Calling.{call-is}
use Rattle.nv_guest.proofs.calls.Caller.ask.Goals as goal

logged_is : (b : Bool) → asked_as b ≡ Logged → b ≡ false
logged_is true h = cc
logged_is false h = refl

pub returns-clause-asked : goal.returns-clause-asked
returns-clause-asked c = c.asked_of.ensures ∙ ap (λ n. asked_as (is_local n)) c.get-nr.ensures

pub returns-clause-call : goal.returns-clause-call
returns-clause-call c =
    call-is (machine_by c.args.self.now) c.args.tid _ c.of-syscall.result _ _ c.get-nr.ensures c.of-syscall.ensures c.copy_in-checked.ensures.handed c.values_with-call.ensures

pub returns-clause-shaped : goal.returns-clause-shaped
returns-clause-shaped c h =
    let m = machine_by c.args.self.now in
    let own : is_local (call_number m) ≡ false = logged_is (is_local (call_number m)) (sym (returns-clause-asked c) ∙ h) in
    subst IsShaped (sym (returns-clause-call c)) (call_is_shaped m c.args.tid own)
