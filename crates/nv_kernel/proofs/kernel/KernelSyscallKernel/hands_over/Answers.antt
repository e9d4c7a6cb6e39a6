use Rattle.std.proofs.Common.{◌∙◌, ap, sym, subst, ℕ, List, length, map}
use Rattle.std.proofs.lemmas.List.{length-map}
use Rattle.nv_calls.specs.Calls.{Entry, entry}
use Rattle.nv_calls.specs.Hands.{with_hand}
use Rattle.nv_script.specs.Views.{setup_of}
use Rattle.nv_kernel.specs.Logged.{Logged}
use Rattle.nv_kernel.proofs.kernel.KernelSyscallKernel.hands_over.Goals as goal

pub returns-clause-handed : goal.returns-clause-handed
returns-clause-handed g c = λ lengths h.
    let setup = setup_of c.self.inside.script.value in
    let log : List Entry = map entry c.self.inside.log.items in
    let many = c.len.ensures ∙ sym (length-map c.self.inside.log.items entry) ∙ ap (λ (k : Logged g.row.A.Denot). length k.log) c.self.view_is in
    subst (λ (n : ℕ). g.A.Answers.handed c.hands_over.new.self setup log (with_hand c.hands_over.result n lengths)) many
    (c.hands_over.ensures.handed setup log lengths (subst (λ (k : Logged g.row.A.Denot). g.A.Answers.handed k.answers k.setup k.log lengths) (sym c.self.view_is) h))
