use Rattle.std.proofs.Common.{rules, ◌≡◌, ◌∙◌, subst, ℤ, ◌≤◌, length, to_z, of_z, w32}
use Rattle.nv_calls.specs.Answer.{Answer, answer}
use Rattle.nv_calls.specs.Calls.{Request, request}
use Rattle.nv_kernel.specs.Reserved.{most_out}
use Rattle.nv_sockets.specs.Kernel.{state_of}
use Rattle.nv_sockets.specs.Serving.{unless_bad, or_own}
use Rattle.nv_sockets.specs.Sockets.{Net}
use Rattle.nv_sockets.proofs.Going.{serve_is}
use Rattle.nv_sockets.proofs.Small.{answer_small}
use Rattle.nv_sockets.proofs.host.Host.answer.Goals as goal

module _ (c : goal.After-answer_beside) where
  abbrev net : Net
  net = c.args.self.now.sockets.net

  abbrev call : Request
  call = request c.args.call.now

  abbrev end : Answer Net
  end = answer c.answer_beside.new.sockets.net c.answer_beside.result.ret c.answer_beside.new.out.bytes

  taken : or_own net c.answer-ret.result c.answer-ret.new.out.bytes (unless_bad net call) ≡ end
  taken =
      let back : to_z w32 (of_z w32 c.answer-ret.result) ≡ c.answer-ret.result = search rules in
      subst (λ (r : ℤ). or_own net r c.answer-ret.new.out.bytes (unless_bad net call) ≡ end) (c.own-own.ensures.ret ∙ back) c.answer_beside.ensures.answer

pub returns-clause-answer : goal.returns-clause-answer
returns-clause-answer c = serve_is (state_of c.args.self.now) (request c.args.call.now) _ _ c.answer-ret.ensures.answer (taken c)

pub returns-clause-few : goal.returns-clause-few
returns-clause-few c =
    subst (λ (a : Answer Net). length a.payload ≤ most_out (request c.args.call.now)) (taken c)
    (answer_small (net c) (call c) c.answer-ret.result c.answer-ret.new.out.bytes c.answer-ret.ensures.few)
