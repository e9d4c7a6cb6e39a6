use Rattle.std.proofs.Common.{◌≡◌, ◌∙◌, ap, sym, subst, ◌<◌, ℕ, List, [], ◌∷◌, Option, Some, None, map, arith}
use Rattle.std.specs.Prelude.{◌≢◌, vec_len, vec_capacity}
use Rattle.nv_calls.specs.Calls.{Entry, entry, request}
use Rattle.nv_calls.proofs.ShapeLaws.{shaped-few}
use Rattle.nv_calls.specs.Learning.{GoesOn}
use Rattle.nv_calls.proofs.LearningLaws.{goes_on_same}
use Rattle.nv_run_tests.specs.Given.{is_input, from_given, given_by, IsTold}
use Rattle.nv_run_tests.specs.Learning.{KernelState}
use Rattle.nv_run_tests.specs.inner.Sound.{IsSound}
use Rattle.nv_run_tests.proofs.Learned.{goes_on}
use Rattle.nv_run_tests.proofs.Sounds.{sound_taken, given_taken, none_kept, told_more, told_same}
use Rattle.nv_run_tests.proofs.learning.LearningKernelSyscallKernel.reserve.Goals.{then-wants, else-wants}
use Rattle.nv_run_tests.proofs.learning.LearningKernelSyscallKernel.reserve.Goals as goal

pub blank-requires : goal.blank-requires
blank-requires g c = shaped-few (request c.args.call.now) c.requires.shaped

pub invariant_of-self-2 : goal.invariant_of-self-2
invariant_of-self-2 g c =
    let k = c.self.invariant in
    let log = map entry c.self.inside.log.items in
    let h : map entry c.reserve.new.self.items ≡ log = ap (map entry) c.reserve.ensures.items in
    let ok = c.in_ok-reserve.ensures.ok in
    elim c.if-wants.branch [
      | then-wants w ↦ subst (λ s. IsSound (given_by (map entry s.log.items) s.kept) (map entry s.log.items) s.kept s.over s.end × IsTold (g.O.Outside.told s.outside) (given_by (map entry s.log.items) s.kept) × (Some c.in_ok-event.event ≢ None → vec_len s.log < vec_capacity s.log) × (s.out.capacity ≡ 1)) (sym w.self-inside-is) (
        sound_taken (given_by log c.self.inside.kept) (given_by (map entry c.reserve.new.self.items) (Some w.next.result)) log (map entry c.reserve.new.self.items) (request c.args.call.now) w.next.result
            c.self.inside.kept c.self.inside.over c.self.inside.end k.0
            (given_taken log (map entry c.reserve.new.self.items) c.self.inside.kept w.next.result h (none_kept (is_input (request c.args.call.now)) c.self.inside.kept (sym c.wants.ensures ∙ w.if-wants.true)))
            h (sym c.wants.ensures ∙ w.if-wants.true),
        told_more (g.O.Outside.told c.self.inside.outside) (g.O.Outside.told w.next.new.self) (given_by log c.self.inside.kept) (given_by (map entry c.reserve.new.self.items) (Some w.next.result)) w.next.result w.next.ensures k.1
            (given_taken log (map entry c.reserve.new.self.items) c.self.inside.kept w.next.result h (none_kept (is_input (request c.args.call.now)) c.self.inside.kept (sym c.wants.ensures ∙ w.if-wants.true))),
        (λ n. omega arith),
        k.3,
      )
      | else-wants w ↦ subst (λ s. IsSound (given_by (map entry s.log.items) s.kept) (map entry s.log.items) s.kept s.over s.end × IsTold (g.O.Outside.told s.outside) (given_by (map entry s.log.items) s.kept) × (Some c.in_ok-event.event ≢ None → vec_len s.log < vec_capacity s.log) × (s.out.capacity ≡ 1)) (sym w.self-inside-is)
          (subst (λ (l : List Entry). IsSound (given_by l c.self.inside.kept) l c.self.inside.kept c.self.inside.over c.self.inside.end) (sym h) k.0, told_same (g.O.Outside.told c.self.inside.outside) (given_by log c.self.inside.kept) (given_by (map entry c.reserve.new.self.items) c.self.inside.kept) k.1 (ap (λ (l : List Entry). given_by l c.self.inside.kept) h), (λ n. omega arith), k.3)
    ]

pub returns-clause-known : goal.returns-clause-known
returns-clause-known g c =
    let kept = c.self.inside.kept in
    let log = map entry c.self.inside.log.items in
    let h : map entry c.reserve.new.self.items ≡ log = ap (map entry) c.reserve.ensures.items in
    subst (λ (k : KernelState). GoesOn k.log (from_given (given_by k.log k.kept)) (from_given (given_by (map entry c.if-wants.self-inside.log.items) c.if-wants.self-inside.kept))) c.self.view_is
    (elim c.if-wants.branch [
      | then-wants w ↦ subst (λ s. GoesOn log (from_given (given_by log kept)) (from_given (given_by (map entry s.log.items) s.kept))) (sym w.self-inside-is)
          (subst (λ (given : List (Option ℕ)). GoesOn log (from_given (given_by log kept)) (from_given given))
          (sym (given_taken log (map entry c.reserve.new.self.items) kept w.next.result h (none_kept (is_input (request c.args.call.now)) kept (sym c.wants.ensures ∙ w.if-wants.true))))
          (goes_on log (given_by log kept) (w.next.result ∷ []) kept c.self.invariant.0.next))
      | else-wants w ↦ subst (λ s. GoesOn log (from_given (given_by log kept)) (from_given (given_by (map entry s.log.items) s.kept))) (sym w.self-inside-is)
          (goes_on_same log (from_given (given_by log kept)) (from_given (given_by (map entry c.reserve.new.self.items) kept)) (ap (λ (l : List Entry). from_given (given_by l kept)) h))
    ])
