use denote.Exit.{no}
use denote.Param.Send.{param_send, arg_send}
use Rattle.std.proofs.Common.{◌∙◌, ap, List, Option}
use Rattle.nv_bpf.specs.declared.op.Op.{Op}
use Rattle.nv_replay.specs.Follow.{follow, fresh, judge_of}
use Rattle.nv_threads.specs.Threads.{threads}
use Rattle.nv_arriving.proofs.Sending.{scripted_send}
use Rattle.nv_driver.proofs.replaying.follow_whole.Goals as goal

pub bring-requires-send-K : goal.bring-requires-send-K
bring-requires-send-K c κs = param_send 0 _ (arg_send _ no _ scripted_send)

pub returns : goal.returns
returns c =
    c.bring.ensures.at ∙ ap (λ (rules : Option (List Op)). follow threads (judge_of rules c.args.traced.version.index) c.args.traced.kernel.log (fresh c.args.traced.version.at.process)) c.as_ref.ensures.value
