use Rattle.std.proofs.Common.{◌≡◌, ◌∙◌, sym, ap, Some}
use Rattle.nv_calls.specs.Constants.{constant_of}
use Rattle.nv_threads.specs.Threads.{threads}
use Rattle.nv_replay.proofs.Stepping.{constant_new}
use Rattle.nv_replay.proofs.judging.give_constant.Goals as goal

pub give-requires-clause-new : goal.give-requires-clause-new
give-requires-clause-new c =
    let call = threads.call c.args.process.now.process c.args.tid in
    let reply : constant_of call ≡ Some (record { ret = c.in-Some.ret; payload = c.constant.new.out.bytes }) = ap constant_of
    (sym c.pending.ensures.call) ∙ c.in-Some.ensures.reply in
    constant_new (threads.live c.args.process.now.process) call _ _ reply
