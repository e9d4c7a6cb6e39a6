-- A write into a pipe that has a reading end and takes the bytes.
use Rattle.std.proofs.Common.{◌≡◌, ◌∙◌, ℕ, ◌+◌, ◌≤◌, List, [], ◌++◌, true, not, pos, length}
use Rattle.std.specs.Prelude.{nat_lt}
use Rattle.std.proofs.lemmas.Bool.{cond-false, le-ltb, not_from_true}
use Rattle.nv_fs.specs.declared.open_file.Target.TheVariants.{Reader}
use Rattle.nv_calls.specs.Answer.{answer}
use Rattle.nv_fs.specs.States.{FileState, has_open}
use Rattle.nv_fs.specs.Fetched.{pipe_at, with_pipe}
use Rattle.nv_fs.specs.Stored.{write_pipe}

pub pipe_written : (s : FileState) (k : ℕ) (bytes : List ℕ) → has_open s (Reader k) ≡ true → length (pipe_at s k) + length bytes ≤ 4096
    → write_pipe s k 4096 bytes ≡ answer (with_pipe s k (pipe_at s k ++ bytes)) (pos (length bytes)) []
pipe_written s k bytes h l =
    cond-false (not (has_open s (Reader k))) _ _ (not_from_true _ h) ∙ cond-false (nat_lt 4096 (length (pipe_at s k) + length bytes)) _ _ (le-ltb 4096 (length (pipe_at s k) + length bytes) l)
