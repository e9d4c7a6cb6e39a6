use Rattle.std.proofs.Common.{rules, ◌≡◌, sym, subst, ℤ, to_z, of_z, w32}
use Rattle.nv_calls.specs.Calls.{request}
use Rattle.nv_kernel.specs.Answering.{IsAnswer}
use Rattle.nv_arriving.specs.Scripted.{start_from}
use Rattle.nv_arriving.specs.Standing.{StandsListed}
use Rattle.nv_arriving.proofs.Standings.{listed_comes, listed_answer}
use Rattle.nv_arriving.proofs.scripted.ListedAnswers.answer.Goals as goal

pub answer-requires-clause-comes : goal.answer-requires-clause-comes
answer-requires-clause-comes c = listed_comes (λ _ _ _. ⊥) (λ _. Unit {0}) c.args.self.now.guests (request c.args.call.now) c.requires.comes

pub returns-clause-answer : goal.returns-clause-answer
returns-clause-answer c =
    let back : to_z w32 (of_z w32 c.answer.result) ≡ c.answer.result = search rules in
    subst (λ (r : ℤ). IsAnswer start_from (StandsListed (λ _ _ _. ⊥) (λ _. Unit {0}) c.args.self.now.guests) (StandsListed (λ _ _ _. ⊥) (λ _. Unit {0}) c.answer.new.self) (request c.args.call.now) r c.answer.new.out.bytes) (sym back)
    (listed_answer (λ _ _ _. ⊥) (λ _. Unit {0}) c.args.self.now.guests c.answer.new.self (request c.args.call.now) c.answer.result c.answer.new.out.bytes c.answer.ensures.over c.answer.ensures.came c.answer.ensures.kept c.answer.ensures.answer)
