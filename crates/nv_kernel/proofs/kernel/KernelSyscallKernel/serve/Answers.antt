use Rattle.std.proofs.Common.{rules, ◌≡◌, ◌∙◌, sym, ap, subst, ℕ, ◌<◌, ◌++◌, ◌∷◌, [], List, Option, None, length, map, arith, to_z, of_z, w32}
use Rattle.std.proofs.lemmas.List.{length-map}
use Rattle.std.specs.Prelude.{Contains, option_map}
use Rattle.nv_calls.specs.Calls.{Entry, Request, entry, request}
use Rattle.nv_calls.specs.Logs.{Start, InRange, served, live_after, calls_of}
use Rattle.nv_script.specs.Scripts.{Setup}
use Rattle.nv_script.specs.Views.{setup_of}
use Rattle.nv_kernel.specs.Ends.{end_next}
use Rattle.nv_kernel.specs.Kernel.{spare_of}
use Rattle.nv_kernel.specs.Logged.{Logged, IsLogged}
use Rattle.nv_kernel.proofs.Few.{together_few}
use Rattle.nv_kernel.proofs.Keeping.{map_more}
use Rattle.nv_kernel.proofs.Logging.{logged_more}
use Rattle.nv_kernel.proofs.kernel.KernelSyscallKernel.serve.Given.{Over}
use Rattle.nv_kernel.proofs.kernel.KernelSyscallKernel.serve.Goals as goal

pub answer-ret-requires-clause-comes : goal.answer-ret-requires-clause-comes
answer-ret-requires-clause-comes g c =
    let past = ap (λ (k : Logged g.row.A.Denot). k.log) c.self.view_is in
    record {
      setup = setup_of c.self.inside.script.value;
      log = map entry c.self.inside.log.items;
      here = c.self.invariant.1;
      few = subst (λ (z : List Entry). length z < 500000000) (sym past) c.requires.few;
      lives = subst (λ (z : List Entry). Contains (live_after z) c.args.call.now.tid) (sym past) c.requires.lives;
    }

pub fill-requires-clause-few : goal.fill-requires-clause-few
fill-requires-clause-few g c = omega (arith, together_few (request c.args.call.now) c.requires.shaped, c.answer-ret.ensures.few)

module _ (g : Over) (c : goal.After-add g) where
  abbrev call : Request
  call = request c.args.call.now

  abbrev log : List Entry
  log = map entry c.self.inside.log.items

  abbrev setup : Setup
  setup = setup_of c.self.inside.script.value

  abbrev start : Start
  start = g.A.Answers.known setup c.self.inside.answers

  -- the event that is kept
  is : entry c.fill.new.event ≡ served start log call
  is =
      let n : length log ≡ c.len-stamp.result = length-map c.self.inside.log.items entry ∙ sym c.len-stamp.ensures in
      let back : to_z w32 (of_z w32 c.answer-ret.result) ≡ c.answer-ret.result = search rules in
      let reply : record { ret = c.answer-ret.result; payload = c.answer-ret.new.out.bytes } ≡ start.replies (calls_of log) call = sym (c.answer-ret.ensures.answer.reply setup log c.self.invariant.1) in
      c.fill.ensures.entry ∙ (λ j. record { stamp = sym n j; call = call; reply = record { ret = back j; payload = c.answer-ret.new.out.bytes } }) ∙ (λ j. record { stamp = length log; call = call; reply = reply j })

  all : map entry c.add.new.log.items ≡ log ++ served start log call ∷ []
  all = ap (map entry) c.add.ensures.items ∙ map_more entry c.self.inside.log.items c.fill.new.event ∙ ap (λ (z : Entry). log ++ z ∷ []) is

  -- where what answers stands then
  here : g.A.Answers.stands c.answer-ret.new.self setup (log ++ served start log call ∷ [])
  here = c.answer-ret.ensures.answer.here setup log c.self.invariant.1

  past : log ≡ c.args.self.now.log
  past = ap (λ (k : Logged g.row.A.Denot). k.log) c.self.view_is

  kept : IsLogged start (log ++ served start log call ∷ []) (length c.add.new.log.items) c.add.new.log.most None (end_next c.is_over.result call)
  kept =
      let few : length log < 500000000 = subst (λ (z : List Entry). length z < 500000000) (sym past) c.requires.few in
      let lives = subst (λ (z : List Entry). Contains (live_after z) c.args.call.now.tid) (sym past) c.requires.lives in
      logged_more start log call (length c.self.inside.log.items) c.self.inside.log.most _ _ _ c.self.inside.end c.is_over.result
      c.self.invariant.0 lives few (subst InRange is c.fill.ensures.range) (c.answer-ret.ensures.answer.new setup log c.self.invariant.1) (c.is_over.ensures setup _ here)

pub invariant_of-self : goal.invariant_of-self
invariant_of-self g c = (
  subst (λ (z : Start). IsLogged z (map entry c.add.new.log.items) (length c.add.new.log.items) c.add.new.log.most (option_map spare_of c.take.new.self) c.next_end-self-inside.result) (sym (c.answer-ret.ensures.known (setup g c)))
      (subst (λ (z : List Entry). IsLogged (start g c) z (length c.add.new.log.items) c.add.new.log.most (option_map spare_of c.take.new.self) c.next_end-self-inside.result) (sym (all g c))
      (subst (λ (z : Option ℕ). IsLogged (start g c) (log g c ++ served (start g c) (log g c) (call g c) ∷ []) (length c.add.new.log.items) c.add.new.log.most (option_map spare_of c.take.new.self) z) (sym c.next_end-self-inside.ensures)
      (subst (λ (z : _). IsLogged (start g c) (log g c ++ served (start g c) (log g c) (call g c) ∷ []) (length c.add.new.log.items) c.add.new.log.most (option_map spare_of z) (end_next c.is_over.result (call g c))) (sym c.take.ensures.after) (kept g c)))),
  subst (λ (z : List Entry). g.A.Answers.stands c.answer-ret.new.self (setup g c) z) (sym (all g c)) (here g c),
  c.answer-ret.ensures.capacity ∙ c.self.invariant.2,
  (λ _. c.add.ensures.last),
  (λ all. c.add.ensures.all (c.keeps.ensures ∙ all) ∙ c.self.invariant.4 all),
)

pub returns-clause-log : goal.returns-clause-log
returns-clause-log g c = all g c ∙ ap (λ (k : Logged g.row.A.Denot). k.log ++ served (g.A.Answers.known k.setup k.answers) k.log (call g c) ∷ []) c.self.view_is

pub returns-clause-handed : goal.returns-clause-handed
returns-clause-handed g c = λ lengths h.
    subst (λ (z : List Entry). g.A.Answers.handed c.answer-ret.new.self (setup g c) z lengths) (sym (all g c))
    (c.answer-ret.ensures.handed (setup g c) (log g c) lengths c.self.invariant.1 (subst (λ (k : Logged g.row.A.Denot). g.A.Answers.handed k.answers k.setup k.log lengths) (sym c.self.view_is) h))
