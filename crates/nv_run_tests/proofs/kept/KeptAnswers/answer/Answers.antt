use Rattle.std.proofs.Common.{rules, ◌≡◌, sym, subst, ℤ, to_z, of_z, w32}
use Rattle.nv_calls.specs.Calls.{request}
use Rattle.nv_kernel.specs.Answering.{IsAnswer}
use Rattle.nv_arriving.specs.Arriving.{start_of_arrivals}
use Rattle.nv_run_tests.specs.Keeping.{StandsKept}
use Rattle.nv_run_tests.proofs.KeptStanding.{kept_comes, kept_answer}
use Rattle.nv_run_tests.proofs.kept.KeptAnswers.answer.Goals as goal

pub answer-requires-clause-comes : goal.answer-requires-clause-comes
answer-requires-clause-comes g c = kept_comes g.O.Outside.did g.O.Outside.is_over c.args.self.now.guests (request c.args.call.now) c.requires.comes

pub returns-clause-answer : goal.returns-clause-answer
returns-clause-answer g c =
    let back : to_z w32 (of_z w32 c.answer.result) ≡ c.answer.result = search rules in
    subst (λ (r : ℤ). IsAnswer (λ setup. start_of_arrivals setup c.args.self.now.guests.came) (StandsKept g.O.Outside.did g.O.Outside.is_over c.args.self.now.guests) (StandsKept g.O.Outside.did g.O.Outside.is_over c.answer.new.self) (request c.args.call.now) r c.answer.new.out.bytes) (sym back)
    (kept_answer g.O.Outside.did g.O.Outside.is_over c.args.self.now.guests c.answer.new.self (λ setup. start_of_arrivals setup c.args.self.now.guests.came) (request c.args.call.now) c.answer.result c.answer.new.out.bytes c.answer.ensures.kept c.answer.ensures.answer)
