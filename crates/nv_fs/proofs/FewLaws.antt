-- A read hands out at most as many bytes as it asks for and 4096; pipe2 and _llseek hand out 8.
use Rattle.std.specs.Prelude.{ℕ, ◌+◌, ◌*◌, ◌≤◌, ◌==◌, min, bit_and, nat_lt, Bool, true, false, cond, List, Option, Some, None, length, take, drop, pos}
use Rattle.std.specs.Int.{to_le_bytes, w64}
use Rattle.std.proofs.Common.{arith}
use Rattle.std.proofs.lemmas.List.{length-take}
use Rattle.nv_fs.specs.declared.open_file.OpenFile.{OpenFile}
use Rattle.nv_fs.specs.declared.open_file.Target.{Target}
use Rattle.nv_fs.specs.declared.open_file.Target.TheVariants.{Input, Console, File, Reader, Writer}
use Rattle.nv_calls.specs.Answer.{Answer, answer, only}
use Rattle.nv_calls.specs.Errors.{EBADF, EINVAL}
use Rattle.nv_fs.specs.States.{FileState, open_of, moved_to}
use Rattle.nv_fs.specs.Closes.{free_descriptor}
use Rattle.nv_fs.specs.Ends.{pipe_of, pipe_from, pipe_on, free_above}
use Rattle.nv_fs.specs.Seeks.{seek_of, seek_open, seek_target, seek_from, seek_to, base_of, plus_signed}
use Rattle.nv_fs.specs.Fetched.{read_of, read_open, read_target, read_pipe, hand_out, with_pipe, pipe_at}

take_few : (n : ℕ) (xs : List ℕ) → length (take n xs) ≤ n
take_few n xs = omega (arith, length-take n xs)

by_test : (b : Bool) (x y : Answer FileState) (n : ℕ) → length x.payload ≤ n → length y.payload ≤ n → length (cond b x y).payload ≤ n
by_test true x y n p q = p
by_test false x y n p q = q

pub pipe_few : (s : FileState) (k n : ℕ) → length (read_pipe s k n).payload ≤ n
pipe_few s k n =
    by_test (n == 0) (only s (pos 0)) _ n (omega arith)
    (by_test (length (pipe_at s k) == 0) _ (hand_out (with_pipe s k (drop n (pipe_at s k))) (take n (pipe_at s k))) n (omega arith) (take_few n (pipe_at s k)))

pub target_few : (s : FileState) (number : ℕ) (o : OpenFile) (t : Target) (n : ℕ) → length (read_target s number o t n).payload ≤ n
target_few s number o Input n = take_few n s.input
target_few s number o (File i) n = take_few n _
target_few s number o (Reader k) n = pipe_few s k n
target_few s number o Console n = omega arith
target_few s number o (Writer k) n = omega arith

open_few : (s : FileState) (o : Option (ℕ × OpenFile)) (n : ℕ) → length (read_open s o n).payload ≤ n
open_few s None n = omega arith
open_few s (Some o) n = by_test o.1.reads _ (only s EBADF) n (target_few s o.0 o.1 o.1.target n) (omega arith)

pub read_few : (s : FileState) (fd count : ℕ) → length (read_of s fd count).payload ≤ min count 4096
unfolding read_of
read_few s fd count = open_few s (open_of s fd) (min count 4096)

pipe_on_few : (s : FileState) (reading : ℕ) (writing : Option ℕ) → length (pipe_on s reading writing).payload ≤ 8
pipe_on_few s reading None = omega arith
pipe_on_few s reading (Some writing) = omega arith

pipe_from_few : (s : FileState) (reading : Option ℕ) → length (pipe_from s reading).payload ≤ 8
pipe_from_few s None = omega arith
pipe_from_few s (Some reading) = pipe_on_few s reading (free_above s reading)

pub ends_few : (s : FileState) (flags : ℕ) → length (pipe_of s flags).payload ≤ 8
unfolding pipe_of
ends_few s flags = by_test (bit_and flags 526336 == flags) (pipe_from s (free_descriptor s)) (only s EINVAL) 8 (pipe_from_few s (free_descriptor s)) (omega arith)

seek_to_few : (s : FileState) (number : ℕ) (o : OpenFile) (offset : Option ℕ) → length (seek_to s number o offset).payload ≤ 8
seek_to_few s number o None = omega arith
seek_to_few s number o (Some offset) =
    by_test (nat_lt 2147483647 offset) (only s EINVAL) (answer (moved_to s number o offset) (pos 0) (to_le_bytes w64 offset)) 8 (omega arith) (omega arith)

seek_from_few : (s : FileState) (number : ℕ) (o : OpenFile) (base : Option ℕ) (n : ℕ) → length (seek_from s number o base n).payload ≤ 8
seek_from_few s number o None n = omega arith
seek_from_few s number o (Some base) n = seek_to_few s number o (plus_signed base n)

seek_target_few : (s : FileState) (number : ℕ) (o : OpenFile) (t : Target) (n whence : ℕ) → length (seek_target s number o t n whence).payload ≤ 8
seek_target_few s number o (File i) n whence = seek_from_few s number o (base_of s o i whence) n
seek_target_few s number o Input n whence = omega arith
seek_target_few s number o Console n whence = omega arith
seek_target_few s number o (Reader k) n whence = omega arith
seek_target_few s number o (Writer k) n whence = omega arith

seek_open_few : (s : FileState) (o : Option (ℕ × OpenFile)) (n whence : ℕ) → length (seek_open s o n whence).payload ≤ 8
seek_open_few s None n whence = omega arith
seek_open_few s (Some o) n whence = seek_target_few s o.0 o.1 o.1.target n whence

pub seek_few : (s : FileState) (fd high low whence : ℕ) → length (seek_of s fd high low whence).payload ≤ 8
unfolding seek_of
seek_few s fd high low whence = seek_open_few s (open_of s fd) (high * 4294967296 + low) whence
