use Rattle.std.proofs.Common.{rules, ◌≡◌, ◌∙◌, sym, ap, ◌≤◌, ◌+◌, [], length, pos, to_z, w32, arith}
use Rattle.std.specs.Prelude.{true}
use Rattle.nv_fs.specs.declared.open_file.Target.TheVariants.{Reader}
use Rattle.nv_calls.specs.Answer.{answer}
use Rattle.nv_fs.specs.States.{has_open}
use Rattle.nv_fs.specs.Fetched.{pipe_at}
use Rattle.nv_fs.proofs.Piped.{pipe_written}
use Rattle.nv_fs.proofs.disk.FileSystem.write_pipe.Goals as goal

pub fill-requires : goal.fill-requires
fill-requires c =
    let held = ap length c.buffer.ensures in λ l. c.requires.reserved l (omega arith)

pub returns-clause-answer : goal.returns-clause-answer
returns-clause-answer c =
    let held = ap length c.buffer.ensures in
    let fits : length (pipe_at c.args.self.now.state c.args.k) + length c.args.bytes.now ≤ 4096 = omega arith in
    let reader : has_open c.args.self.now.state (Reader c.args.k) ≡ true = search rules in
    let back : to_z w32 (length c.args.bytes.now) ≡ pos (length c.args.bytes.now) = search rules in
    pipe_written c.args.self.now.state c.args.k c.args.bytes.now reader fits ∙ (λ j. answer (sym c.fill.ensures.state j) (sym back j) [])
