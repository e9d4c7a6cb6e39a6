use Rattle.std.proofs.Common.{◌≤◌, length, min, subst, ap, arith, nat_lt, slice_index_or}
use Rattle.nv_calls.specs.Held.{Held}
use Rattle.nv_calls.specs.declared.numbers.Syscall.TheVariants.{Getcwd, Pipe2, Llseek, Read, Readv, Uname}
use Rattle.nv_calls.specs.Answer.{Answer}
use Rattle.nv_calls.specs.Calls.{Response}
use Rattle.nv_fs.specs.States.{FileState}
use Rattle.nv_fs.proofs.FewLaws.{read_few, ends_few, seek_few}
use Rattle.nv_kernel.specs.Serving.{State}
use Rattle.nv_kernel.proofs.Few.{few_as, few_by, directory_few, names_are}
use Rattle.nv_kernel.proofs.devices.Devices.answer_as.Goals as goal

pub returns-in-Getcwd-clause-few : goal.returns-in-Getcwd-clause-few
returns-in-Getcwd-clause-few c =
    few_as c.args.syscall Getcwd _ _ c.in-Getcwd.is (subst (λ (r : Response). length r.payload ≤ min (slice_index_or c.args.call.now.args 1 0) 2) c.directory.ensures.reply (directory_few _))

pub returns-in-Pipe2-clause-few : goal.returns-in-Pipe2-clause-few
returns-in-Pipe2-clause-few c =
    few_as c.args.syscall Pipe2 _ _ c.in-Pipe2.is (subst (λ (a : Answer FileState). length a.payload ≤ 8) c.pipe.ensures.answer (ends_few _ _))

pub returns-in-Llseek-clause-few : goal.returns-in-Llseek-clause-few
returns-in-Llseek-clause-few c =
    few_as c.args.syscall Llseek _ _ c.in-Llseek.is (subst (λ (a : Answer FileState). length a.payload ≤ 8) c.seek.ensures.answer (seek_few _ _ _ _ _))

pub returns-in-Read-clause-few : goal.returns-in-Read-clause-few
returns-in-Read-clause-few c =
    few_as c.args.syscall Read _ _ c.in-Read.is (subst (λ (a : Answer FileState). length a.payload ≤ min (slice_index_or c.args.call.now.args 2 0) 4096) c.read.ensures.answer (read_few _ _ _))

pub returns-in-Readv-clause-few : goal.returns-in-Readv-clause-few
returns-in-Readv-clause-few c =
    few_as c.args.syscall Readv _ _ c.in-Readv.is (subst (λ (a : Answer State). length a.payload ≤ min (slice_index_or c.args.call.now.args 3 0) 4096) c.read_vectors.ensures.answer
    (few_by (nat_lt 1024 (slice_index_or c.args.call.now.args 2 0)) _ _ _ (omega arith) (read_few c.args.self.now.files.state _ _)))

pub returns-in-Uname-clause-few : goal.returns-in-Uname-clause-few
returns-in-Uname-clause-few c =
    let n = ap (λ (b : Held). length b.bytes) c.names.ensures.out in few_as c.args.syscall Uname _ _ c.in-Uname.is (omega (arith, names_are))
