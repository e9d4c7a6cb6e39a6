use Rattle.std.proofs.Common.{rules, ◌≡◌, sym, subst, ℤ, to_z, of_z, w32}
use Rattle.nv_calls.specs.Calls.{Request, request}
use Rattle.nv_kernel.specs.Answering.{IsAnswer}
use Rattle.nv_sockets.specs.Kernel.{state_of}
use Rattle.nv_sockets.specs.Serving.{State, start_of_script}
use Rattle.nv_sockets.proofs.Standings.{few_served, few_clones, is_answer, host_at, host_comes, host_answer}
use Rattle.nv_sockets.proofs.replying.HostAnswers.answer.Goals as goal

pub answer-requires-clause-few : goal.answer-requires-clause-few
answer-requires-clause-few c = few_served (state_of c.args.self.now) (request c.args.call.now) (host_comes c.args.self.now (request c.args.call.now) c.requires.comes)

pub answer-requires-clause-clones : goal.answer-requires-clause-clones
answer-requires-clause-clones c = few_clones (state_of c.args.self.now) (request c.args.call.now) (host_comes c.args.self.now (request c.args.call.now) c.requires.comes)

pub returns-clause-answer : goal.returns-clause-answer
returns-clause-answer c =
    let back : to_z w32 (of_z w32 c.answer.result.ret) ≡ c.answer.result.ret = search rules in
    let was : State = state_of c.args.self.now in
    let now : State = state_of c.answer.new.self in
    let call : Request = request c.args.call.now in
    subst (λ (r : ℤ). IsAnswer (λ setup. start_of_script setup) (host_at c.args.self.now) (host_at c.answer.new.self) call r c.answer.new.out.bytes) (sym back)
    (host_answer c.args.self.now c.answer.new.self call c.answer.result.ret c.answer.new.out.bytes c.answer.ensures.whole c.answer.ensures.gone
    (is_answer was now call c.answer.result.ret c.answer.new.out.bytes c.requires.shaped c.answer.ensures.answer))
