-- What each call can leave, so that a claim of every call is one of a few states.
use Rattle.std.proofs.Common.{◌≡◌, refl, ℕ, ◌+◌, ◌*◌, Bool, true, false, cond, not, ◌==◌, nat_le, nat_lt, min, List, [], ◌++◌, length, take, drop, Option, Some, None, pos}
use Rattle.std.specs.Int.{to_le_bytes, w64}
use Rattle.nv_fs.specs.declared.open_file.OpenFile.{OpenFile}
use Rattle.nv_fs.specs.declared.open_file.Target.{Target}
use Rattle.nv_fs.specs.declared.open_file.Target.TheVariants.{Input, Console, File, Reader, Writer}
use Rattle.nv_calls.specs.Answer.{answer, only}
use Rattle.nv_calls.specs.Errors.{EBADF, ENOSPC, EFBIG, EPIPE, EAGAIN}
use Rattle.nv_fs.specs.States.{FileState, open_of, moved_to, has_open}
use Rattle.nv_fs.specs.Seeks.{seek_of, seek_open, seek_target, seek_from, seek_to, base_of, plus_signed}
use Rattle.nv_fs.specs.Fetched.{read_of, read_open, read_target, read_pipe, hand_out, with_pipe, pipe_at}
use Rattle.nv_fs.specs.Stored.{write_of, write_open, write_target, write_console, write_at, write_pipe, with_content, start_of}

-- a claim of one thing or of another
pub by_test : {A : Type 0} (P : A → Type 0) (b : Bool) (x y : A) → P x → P y → P (cond b x y)
by_test P true x y p q = p
by_test P false x y p q = q

module _ (P : FileState → Type 0) (s : FileState) (fd : ℕ) (same : P s) where
  module _ (moved : (o : ℕ × OpenFile) (offset : ℕ) → open_of s fd ≡ Some o → P (moved_to s o.0 o.1 offset)) where
    to_cases : (o : ℕ × OpenFile) (offset : Option ℕ) → open_of s fd ≡ Some o → P (seek_to s o.0 o.1 offset).state
    to_cases o None e = same
    to_cases o (Some offset) e = by_test (λ a. P a.state) (nat_lt 2147483647 offset) _ (answer (moved_to s o.0 o.1 offset) (pos 0) (to_le_bytes w64 offset)) same (moved o offset e)

    from_cases : (o : ℕ × OpenFile) (base : Option ℕ) (n : ℕ) → open_of s fd ≡ Some o → P (seek_from s o.0 o.1 base n).state
    from_cases o None n e = same
    from_cases o (Some base) n e = to_cases o (plus_signed base n) e

    target_cases : (o : ℕ × OpenFile) (t : Target) (n whence : ℕ) → open_of s fd ≡ Some o → P (seek_target s o.0 o.1 t n whence).state
    target_cases o Input n whence e = same
    target_cases o Console n whence e = same
    target_cases o (File i) n whence e = from_cases o (base_of s o.1 i whence) n e
    target_cases o (Reader k) n whence e = same
    target_cases o (Writer k) n whence e = same

    open_cases : (o : Option (ℕ × OpenFile)) (n whence : ℕ) → open_of s fd ≡ o → P (seek_open s o n whence).state
    open_cases None n whence e = same
    open_cases (Some o) n whence e = target_cases o o.1.target n whence e

    pub seek_cases : (high low whence : ℕ) → P (seek_of s fd high low whence).state
    unfolding seek_of
    seek_cases high low whence = open_cases (open_of s fd) (high * 4294967296 + low) whence refl

    module _ (taken : (n : ℕ) → P (record s { input = drop n s.input })) (piped : (o : ℕ × OpenFile) (k : ℕ) (bytes : List ℕ) → open_of s fd ≡ Some o → o.1.target ≡ Reader k → P (with_pipe s k bytes)) where
      pipe_cases : (o : ℕ × OpenFile) (k n : ℕ) → open_of s fd ≡ Some o → o.1.target ≡ Reader k → P (read_pipe s k n).state
      pipe_cases o k n e t =
          by_test (λ a. P a.state) (n == 0) (only s (pos 0)) _ same
          (by_test (λ a. P a.state) (length (pipe_at s k) == 0) _ (hand_out (with_pipe s k (drop n (pipe_at s k))) (take n (pipe_at s k))) same (piped o k (drop n (pipe_at s k)) e t))

      read_target_cases : (o : ℕ × OpenFile) (t : Target) (n : ℕ) → open_of s fd ≡ Some o → o.1.target ≡ t → P (read_target s o.0 o.1 t n).state
      read_target_cases o Input n e t = taken n
      read_target_cases o Console n e t = same
      read_target_cases o (File i) n e t = moved o _ e
      read_target_cases o (Reader k) n e t = pipe_cases o k n e t
      read_target_cases o (Writer k) n e t = same

      read_open_cases : (o : Option (ℕ × OpenFile)) (n : ℕ) → open_of s fd ≡ o → P (read_open s o n).state
      read_open_cases None n e = same
      read_open_cases (Some o) n e = by_test (λ a. P a.state) o.1.reads (read_target s o.0 o.1 o.1.target n) (only s EBADF) (read_target_cases o o.1.target n e refl) same

      pub read_cases : (count : ℕ) → P (read_of s fd count).state
      unfolding read_of
      read_cases count = read_open_cases (open_of s fd) (min count 4096) refl

  module _ (printed : (bytes : List ℕ) → P (record s { console = bytes }))
      (stored : (o : ℕ × OpenFile) (i offset : ℕ) (bytes : List ℕ) → open_of s fd ≡ Some o → o.1.target ≡ File i → P (moved_to (with_content s i bytes) o.0 o.1 offset))
      (piped : (o : ℕ × OpenFile) (k : ℕ) (bytes : List ℕ) → open_of s fd ≡ Some o → o.1.target ≡ Writer k → P (with_pipe s k bytes)) where
    console_cases : (limit : ℕ) (bytes : List ℕ) → P (write_console s limit bytes).state
    console_cases limit bytes = by_test (λ a. P a.state) (nat_le limit (length s.console)) (only s ENOSPC) _ same (printed _)

    at_cases : (o : ℕ × OpenFile) (i limit start : ℕ) (bytes : List ℕ) → open_of s fd ≡ Some o → o.1.target ≡ File i → P (write_at s o.0 o.1 i limit start bytes).state
    at_cases o i limit start bytes e t = by_test (λ a. P a.state) (nat_le limit start) (only s EFBIG) _ same (stored o i _ _ e t)

    into_cases : (o : ℕ × OpenFile) (k limit : ℕ) (bytes : List ℕ) → open_of s fd ≡ Some o → o.1.target ≡ Writer k → P (write_pipe s k limit bytes).state
    into_cases o k limit bytes e t =
        by_test (λ a. P a.state) (not (has_open s (Reader k))) (only s EPIPE) _ same
        (by_test (λ a. P a.state) (nat_lt limit (length (pipe_at s k) + length bytes)) (only s EAGAIN) (answer (with_pipe s k (pipe_at s k ++ bytes)) (pos (length bytes)) []) same (piped o k _ e t))

    write_target_cases : (o : ℕ × OpenFile) (t : Target) (bytes : List ℕ) → open_of s fd ≡ Some o → o.1.target ≡ t → P (write_target s o.0 o.1 t bytes).state
    write_target_cases o Input bytes e t = same
    write_target_cases o Console bytes e t = console_cases s.limit bytes
    write_target_cases o (File i) bytes e t = at_cases o i 1048576 (start_of s o.1 i) bytes e t
    write_target_cases o (Reader k) bytes e t = same
    write_target_cases o (Writer k) bytes e t = into_cases o k 4096 bytes e t

    write_open_cases : (o : Option (ℕ × OpenFile)) (bytes : List ℕ) → open_of s fd ≡ o → P (write_open s o bytes).state
    write_open_cases None bytes e = same
    write_open_cases (Some o) bytes e =
        by_test (λ a. P a.state) (not o.1.writes) (only s EBADF) _ same
        (by_test (λ a. P a.state) (length bytes == 0) (only s (pos 0)) (write_target s o.0 o.1 o.1.target bytes) same (write_target_cases o o.1.target bytes e refl))

    pub write_cases : (bytes : List ℕ) → P (write_of s fd bytes).state
    unfolding write_of
    write_cases bytes = write_open_cases (open_of s fd) bytes refl
