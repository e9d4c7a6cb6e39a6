use Rattle.std.proofs.Common.{rules, ◌≡◌, sym, subst, ℤ, to_z, of_z, w32}
use Rattle.nv_calls.specs.Calls.{Request, request}
use Rattle.nv_kernel.specs.Answering.{IsAnswer}
use Rattle.nv_kernel.specs.Reserved.{state_of}
use Rattle.nv_kernel.specs.Serving.{State, start_of_script}
use Rattle.nv_kernel.specs.Whole.{IsWhole}
use Rattle.nv_kernel.proofs.Standings.{at_log, few_served, few_clones, is_answer}
use Rattle.nv_kernel.proofs.Wholes.{may_come, whole_answer}
use Rattle.nv_kernel.proofs.replying.DevicesAnswers.answer.Goals as goal

pub answer-requires-clause-few : goal.answer-requires-clause-few
answer-requires-clause-few c =
    let call : Request = request c.args.call.now in
    few_served (state_of c.args.self.now) call (may_come (at_log (state_of c.args.self.now)) c.args.self.now.files.gone call c.requires.comes)

pub answer-requires-clause-clones : goal.answer-requires-clause-clones
answer-requires-clause-clones c =
    let call : Request = request c.args.call.now in
    few_clones (state_of c.args.self.now) call (may_come (at_log (state_of c.args.self.now)) c.args.self.now.files.gone call c.requires.comes)

pub returns-clause-answer : goal.returns-clause-answer
returns-clause-answer c =
    let back : to_z w32 (of_z w32 c.answer.result) ≡ c.answer.result = search rules in
    let call : Request = request c.args.call.now in
    let was : State = state_of c.args.self.now in
    let now : State = state_of c.answer.new.self in
    subst (λ (r : ℤ). IsAnswer (λ setup. start_of_script setup) (IsWhole (at_log was) c.args.self.now.files.gone) (IsWhole (at_log now) c.answer.new.self.files.gone) call r c.answer.new.out.bytes) (sym back)
    (whole_answer (λ setup. start_of_script setup) (at_log was) (at_log now) c.args.self.now.files.gone c.answer.new.self.files.gone call c.answer.result c.answer.new.out.bytes c.answer.ensures.gone
    (is_answer was now call c.answer.result c.answer.new.out.bytes c.requires.shaped c.answer.ensures.answer))
