use Rattle.std.proofs.Common.{◌≡◌, ◌∙◌, ◌<◌, ℕ, List, length, ap, sym, subst, refl, None, map, arith}
use Rattle.nv_calls.specs.Calls.{Entry, entry, request}
use Rattle.nv_calls.proofs.ShapeLaws.{shaped-few}
use Rattle.nv_script.specs.Views.{setup_of}
use Rattle.nv_calls.proofs.LearningLaws.{goes_on_same}
use Rattle.nv_kernel.specs.Logged.{Logged}
use Rattle.nv_kernel.proofs.Logging.{logged_on}
use Rattle.nv_kernel.proofs.kernel.KernelSyscallKernel.reserve.Goals as goal

-- the last event is still there
last : {T : Type 0} (items items' : List T) (gone gone' : ℕ) → items' ≡ items → gone' ≡ gone → (0 < length items → gone < length items) → 0 < length items' → gone' < length items'
last items items' gone gone' same n k some = subst (λ (z : List _). gone' < length z) (sym same) (subst (λ (m : ℕ). m < length items) (sym n) (k (subst (λ (z : List _). 0 < length z) same some)))

pub blank-requires : goal.blank-requires
blank-requires g c = shaped-few (request c.args.call.now) c.requires.shaped

pub invariant_of-self-in_err-reserve : goal.invariant_of-self-in_err-reserve
invariant_of-self-in_err-reserve g c = let k = c.self.invariant in let h = ap (map entry) c.reserve.ensures.items in let setup = setup_of c.self.inside.script.value in let start = g.A.Answers.known setup c.self.inside.answers in (
  logged_on start start _ _ _ _ _ _ _ None c.self.inside.end k.0 h (goes_on_same _ start start refl) (λ n. absurd (n refl)),
  subst (g.A.Answers.stands c.self.inside.answers setup) (sym h) k.1,
  k.2,
  last c.self.inside.log.items c.reserve.new.self.items c.self.inside.log.gone c.reserve.new.self.gone c.reserve.ensures.items c.reserve.ensures.gone k.3,
  (λ all. c.reserve.ensures.gone ∙ k.4 all),
)

pub invariant_of-self-in_err-reserve-2 : goal.invariant_of-self-in_err-reserve-2
invariant_of-self-in_err-reserve-2 g c = let k = c.self.invariant in let h = ap (map entry) c.reserve.ensures.items in let setup = setup_of c.self.inside.script.value in (
  logged_on (g.A.Answers.known setup c.self.inside.answers) (g.A.Answers.known setup c.reserve-2.new.self) _ _ _ _ _ _ _ None c.self.inside.end k.0 h (c.reserve-2.ensures.known setup _ k.1) (λ n. absurd (n refl)),
  subst (g.A.Answers.stands c.reserve-2.new.self setup) (sym h) (c.reserve-2.ensures.stands setup _ k.1),
  k.2,
  last c.self.inside.log.items c.reserve.new.self.items c.self.inside.log.gone c.reserve.new.self.gone c.reserve.ensures.items c.reserve.ensures.gone k.3,
  (λ all. c.reserve.ensures.gone ∙ k.4 all),
)

pub invariant_of-self-2 : goal.invariant_of-self-2
invariant_of-self-2 g c = let k = c.self.invariant in let h = ap (map entry) c.reserve.ensures.items in let ok = c.in_ok-reserve.ensures.ok in let setup = setup_of c.self.inside.script.value in (
  logged_on (g.A.Answers.known setup c.self.inside.answers) (g.A.Answers.known setup c.reserve-2.new.self) _ _ _ _ _ _ _ _ c.self.inside.end k.0 h (c.reserve-2.ensures.known setup _ k.1) (λ n. omega arith),
  subst (g.A.Answers.stands c.reserve-2.new.self setup) (sym h) (c.reserve-2.ensures.stands setup _ k.1),
  k.2,
  last c.self.inside.log.items c.reserve.new.self.items c.self.inside.log.gone c.reserve.new.self.gone c.reserve.ensures.items c.reserve.ensures.gone k.3,
  (λ all. c.reserve.ensures.gone ∙ k.4 all),
)

pub returns-in_err-reserve-clause-handed : goal.returns-in_err-reserve-clause-handed
returns-in_err-reserve-clause-handed g c = λ lengths h.
    subst (λ (log : List Entry). g.A.Answers.handed c.self.inside.answers (setup_of c.self.inside.script.value) log lengths) (sym (ap (map entry) c.reserve.ensures.items))
    (subst (λ (k : Logged g.row.A.Denot). g.A.Answers.handed k.answers k.setup k.log lengths) (sym c.self.view_is) h)

pub returns-in_err-reserve-2-clause-handed : goal.returns-in_err-reserve-2-clause-handed
returns-in_err-reserve-2-clause-handed g c = λ lengths h.
    let setup = setup_of c.self.inside.script.value in
    subst (λ (log : List Entry). g.A.Answers.handed c.reserve-2.new.self setup log lengths) (sym (ap (map entry) c.reserve.ensures.items))
    (c.reserve-2.ensures.handed setup _ lengths c.self.invariant.1 (subst (λ (k : Logged g.row.A.Denot). g.A.Answers.handed k.answers k.setup k.log lengths) (sym c.self.view_is) h))

pub returns-clause-handed : goal.returns-clause-handed
returns-clause-handed g c = λ lengths h.
    let setup = setup_of c.self.inside.script.value in
    subst (λ (log : List Entry). g.A.Answers.handed c.reserve-2.new.self setup log lengths) (sym (ap (map entry) c.reserve.ensures.items))
    (c.reserve-2.ensures.handed setup _ lengths c.self.invariant.1 (subst (λ (k : Logged g.row.A.Denot). g.A.Answers.handed k.answers k.setup k.log lengths) (sym c.self.view_is) h))
