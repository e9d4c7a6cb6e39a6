use Rattle.std.proofs.Common.{◌≡◌, ◌∙◌, ap, sym, subst, [], ◌∷◌, ◌++◌, ◌<◌, ◌==◌, ◌||◌, true, Bool, Option, List, ℕ, length, map, arith, rules, to_z, of_z, w32}
use Rattle.std.proofs.lemmas.List.{length-map}
use Rattle.std.specs.Prelude.{is_some, Contains}
use Rattle.nv_calls.specs.Calls.{Entry, Request, Response, entry, request}
use Rattle.nv_calls.specs.Logs.{InRange, live_after, served}
use Rattle.nv_kernel.proofs.Few.{together_few}
use Rattle.nv_kernel.proofs.Keeping.{map_more}
use Rattle.nv_kernel.specs.Ends.{end_next}
use Rattle.nv_run_tests.specs.Given.{is_input, from_given, given_by, thing_of, left_of}
use Rattle.nv_run_tests.specs.Learning.{KernelState}
use Rattle.nv_run_tests.specs.inner.Sound.{IsSound}
use Rattle.nv_run_tests.proofs.Learned.{answered_few}
use Rattle.nv_run_tests.proofs.Sounds.{sound_served, event_of, is_served, given_served, told_same}
use Rattle.nv_run_tests.proofs.learning.LearningKernelSyscallKernel.serve.Given.{Over}
use Rattle.nv_run_tests.proofs.learning.LearningKernelSyscallKernel.serve.Goals as goal

pub fill-requires-clause-few : goal.fill-requires-clause-few
fill-requires-clause-few g c =
    let call = request c.args.call.now in
    let few = answered_few (thing_of c.self.inside.kept) call in
    omega (arith, together_few call c.requires.shaped, few, ap (λ (r : Response). length r.payload) c.answer-ret.ensures.answer)

module _ (g : Over) (c : goal.After-keep g) where
  abbrev call : Request
  call = request c.args.call.now

  abbrev log : List Entry
  log = map entry c.self.inside.log.items

  abbrev kept : Option (Option ℕ)
  kept = c.self.inside.kept

  abbrev given : List (Option ℕ)
  given = given_by log kept

  -- the event that is kept
  is : entry c.fill.new.event ≡ event_of log kept call
  is =
      let n : length log ≡ length c.as_slice.result.now = length-map c.self.inside.log.items entry ∙ ap length (sym c.as_slice.ensures.value) in
      let back : to_z w32 (of_z w32 c.answer-ret.result) ≡ c.answer-ret.result = search rules in
      c.fill.ensures.entry ∙ (λ j. record { stamp = sym n j; call = call; reply = record { ret = back j; payload = c.answer-ret.new.out.bytes } })
      ∙ (λ j. record { stamp = length log; call = call; reply = c.answer-ret.ensures.answer j })

  all : map entry c.keep.new.log.items ≡ log ++ event_of log kept call ∷ []
  all = ap (map entry) c.keep.ensures ∙ map_more entry c.self.inside.log.items c.fill.new.event ∙ ap (λ (z : Entry). log ++ z ∷ []) is

  past : log ≡ c.args.self.now.log
  past = ap (λ (k : KernelState). k.log) c.self.view_is

  ready : is_input call ≡ true → is_some kept ≡ true
  ready h = ap (λ (k : KernelState). is_some k.kept) c.self.view_is ∙ c.requires.ready.kept h

  sound : IsSound given (log ++ event_of log kept call ∷ []) (left_of kept call) ((call.nr == 93) || (call.nr == 94)) (end_next ((call.nr == 93) || (call.nr == 94)) call)
  sound = sound_served given log kept c.self.inside.over c.self.inside.end call c.self.invariant.0 ready
      (subst (λ (z : List Entry). Contains (live_after z) call.tid) (sym past) c.requires.lives) (subst (λ (z : List Entry). length z < 500000000) (sym past) c.requires.few) (subst InRange is c.fill.ensures.range)

  -- nothing more is given
  given_now : given_by (map entry c.keep.new.log.items) c.answer-ret.new.kept ≡ given
  given_now = (λ j. given_by (all j) (c.answer-ret.ensures.kept j)) ∙ given_served log kept call ready

pub invariant_of-self : goal.invariant_of-self
invariant_of-self g c = (
  subst (λ (z : List Entry). IsSound (given_by z c.answer-ret.new.kept) z c.answer-ret.new.kept c.exits-self-inside.result c.next_end-self-inside.result) (sym (all g c))
      (subst (λ (z : Option (Option ℕ)). IsSound (given_by (log g c ++ event_of (log g c) (kept g c) (call g c) ∷ []) z) (log g c ++ event_of (log g c) (kept g c) (call g c) ∷ []) z c.exits-self-inside.result c.next_end-self-inside.result) (sym c.answer-ret.ensures.kept)
      (subst (λ (z : List (Option ℕ)). IsSound z (log g c ++ event_of (log g c) (kept g c) (call g c) ∷ []) (left_of (kept g c) (call g c)) c.exits-self-inside.result c.next_end-self-inside.result) (sym (given_served (log g c) (kept g c) (call g c) (ready g c)))
      (subst (λ (z : Option ℕ). IsSound (given g c) (log g c ++ event_of (log g c) (kept g c) (call g c) ∷ []) (left_of (kept g c) (call g c)) c.exits-self-inside.result z) (sym c.next_end-self-inside.ensures)
      (subst (λ (z : Bool). IsSound (given g c) (log g c ++ event_of (log g c) (kept g c) (call g c) ∷ []) (left_of (kept g c) (call g c)) z (end_next z (call g c))) (sym c.exits-self-inside.ensures) (sound g c))))),
  told_same (g.O.Outside.told c.self.inside.outside) (given g c) (given_by (map entry c.keep.new.log.items) c.answer-ret.new.kept) c.self.invariant.1 (given_now g c),
  (λ n. absurd (n c.take.ensures.after)),
  c.answer-ret.ensures.wide,
)

pub returns-clause-known : goal.returns-clause-known
returns-clause-known g c = ap from_given (given_now g c ∙ ap (λ (k : KernelState). given_by k.log k.kept) c.self.view_is)

pub returns-clause-log : goal.returns-clause-log
returns-clause-log g c =
    all g c ∙ ap (λ (z : Entry). log g c ++ z ∷ []) (is_served (given g c) (log g c) (kept g c) c.self.inside.over c.self.inside.end (call g c) c.self.invariant.0 (ready g c))
    ∙ ap (λ (k : KernelState). k.log ++ served (from_given (given_by k.log k.kept)) k.log (call g c) ∷ []) c.self.view_is
