use Rattle.std.proofs.Common.{◌∙◌, ◌++◌, ap, subst}
use Rattle.nv_calls.specs.Logs.{Start}
use Rattle.nv_threads.specs.Threads.{threads}
use Rattle.nv_room.specs.Seats.{hands_of}
use Rattle.nv_workers.specs.Ends.{IsAccount}
use Rattle.nv_workers.proofs.Finishing.{is_each, accounted, none_let_go}
use Rattle.nv_workers.proofs.ran.end.Goals as goal

pub finish-kernel-requires-after_bounds : goal.finish-kernel-requires-after_bounds
finish-kernel-requires-after_bounds g c κs within =
    let r = c.requires in
    is_each r.0 c.args.ran.room r.1 r.3

pub returns-clause-account : goal.returns-clause-account
returns-clause-account g c = λ judges most fresh ran.
    let f = c.finish-kernel.ensures in
    let kernel = c.finish-kernel.result.kernel in
    accounted judges c.args.ran.room most ran (g.K.SyscallKernel.known kernel) kernel (g.K.SyscallKernel.log kernel) f.lawful f.legal f.left f.wide

pub returns-clause-foretold : goal.returns-clause-foretold
returns-clause-foretold g c = λ told law judges most fresh ran.
    let f = c.finish-kernel.ensures in
    let kernel = c.finish-kernel.result.kernel in
    let same = law kernel ∙ ap told f.start in
    let a = accounted judges c.args.ran.room most ran (g.K.SyscallKernel.known kernel) kernel (g.K.SyscallKernel.log kernel) f.lawful f.legal f.left f.wide in (
      a.0,
      a.1,
      subst (λ (s : Start). IsAccount threads judges s most (hands_of c.args.ran.room ++ a.0) fresh c.args.ran.versions.items (g.K.SyscallKernel.log kernel)) same a.2,
      a.3,
    )

pub returns-clause-stays : goal.returns-clause-stays
returns-clause-stays g c = λ judges most fresh ran off. none_let_go judges c.args.ran.room most 0 fresh c.args.ran.versions.items c.args.ran.left.items ran.ran off
