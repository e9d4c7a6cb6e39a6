-- What calls print where there are no sockets: what they did, as it is told, is what the console gained.
use Rattle.std.proofs.Common.{◌≡◌, ◌∙◌, sym, ap, subst, refl, ℕ, ℤ, pos, negsuc, true, false, cond, nat_lt, List, [], ◌++◌, take, append-nil, Bool}
use Rattle.std.specs.Int.{cast_signed, w32}
use Rattle.nv_calls.specs.declared.numbers.Syscall.{Syscall}
use Rattle.nv_calls.specs.declared.numbers.Syscall.TheVariants as call
use Rattle.nv_calls.specs.Answer.{Answer, only}
use Rattle.nv_calls.specs.Calls.{Request}
use Rattle.nv_calls.specs.Errors.{EBADF, EINVAL, EFAULT, ENOTTY}
use Rattle.nv_calls.specs.Limits.{MOST_VECTORS}
use Rattle.nv_calls.specs.Numbers.{syscall_of}
use Rattle.nv_fs.specs.States.{is_open, FileState}
use Rattle.nv_fs.specs.Closes.{close_of, dup_of, dup3_of}
use Rattle.nv_fs.specs.Ends.{pipe_of}
use Rattle.nv_fs.specs.Fetched.{read_of}
use Rattle.nv_fs.specs.Opened.{open_at_of, unlink_at_of}
use Rattle.nv_fs.specs.Seeks.{seek_of}
use Rattle.nv_fs.specs.Stored.{write_of}
use Rattle.nv_fs.specs.Told.{prints}
use Rattle.nv_fs.proofs.Cases.{by_test}
use Rattle.nv_fs.proofs.Console.{shown, close_same, dup_same, dup3_same, pipe_same, open_same, unlink_same, seek_same, read_same, write_prints}
use Rattle.nv_kernel.specs.Serving.{State, request_arg, of_files, answered, serve}
use Rattle.nv_sockets.specs.declared.did.Did.{Did}
use Rattle.nv_sockets.specs.declared.did.Did.TheVariants.{Nothing, Accepted, Sent, Closed, Printed}
use Rattle.nv_sockets.specs.Did.{by_result, printed, own_did}

-- the bytes that it printed of these
abbrev pub printed_bytes : Did → List ℕ → List ℕ
printed_bytes Nothing bytes = []
printed_bytes (Accepted i) bytes = []
printed_bytes (Sent i n) bytes = []
printed_bytes (Closed i) bytes = []
printed_bytes (Printed n) bytes = take n bytes

shown_is : (console : Bool) (ret : ℤ) (bytes : List ℕ) → shown console ret bytes ≡ printed_bytes (by_result (printed console) ret) bytes
shown_is true (pos n) bytes = refl
shown_is true (negsuc n) bytes = refl
shown_is false (pos n) bytes = refl
shown_is false (negsuc n) bytes = refl

module _ (s : State) (c : Request) where
  abbrev Prints : (ℤ → Did) → Answer State → Type 0
  Prints did r = r.state.files.console ≡ s.files.console ++ printed_bytes (did r.ret) c.payload

  abbrev Quiet : Answer State → Type 0
  Quiet r = r.state.files.console ≡ s.files.console ++ []

  none : s.files.console ≡ s.files.console ++ []
  none = sym (append-nil s.files.console)

  still : (a : Answer FileState) → a.state.console ≡ s.files.console → Quiet (of_files s a)
  still a e = e ∙ none

  wrote : Prints (λ ret. by_result (printed (prints s.files (request_arg c 0))) ret) (of_files s (write_of s.files (request_arg c 0) c.payload))
  wrote =
      let fd : ℕ = request_arg c 0 in
      write_prints s.files c.payload fd ∙ ap (λ z. s.files.console ++ z) (shown_is (prints s.files fd) (write_of s.files fd c.payload).ret c.payload)

  prints_as : (k : Syscall) → Prints (λ ret. own_did k (prints s.files (request_arg c 0)) ret) (answered k s c)
  prints_as call.Dup = still (dup_of s.files (request_arg c 0)) (dup_same s.files (request_arg c 0))
  prints_as call.Dup3 = still (dup3_of s.files (request_arg c 0) (request_arg c 1) (request_arg c 2))
      (dup3_same s.files (request_arg c 0) (request_arg c 1) (request_arg c 2))
  prints_as call.Ioctl = by_test Quiet (is_open s.files (request_arg c 0)) (only s ENOTTY) (only s EBADF) none none
  prints_as call.Unlinkat = still (unlink_at_of s.files (cast_signed w32 (request_arg c 0)) c.payload (request_arg c 2))
      (unlink_same s.files (cast_signed w32 (request_arg c 0)) c.payload (request_arg c 2))
  prints_as call.Openat = still (open_at_of s.files (cast_signed w32 (request_arg c 0)) c.payload (request_arg c 2))
      (open_same s.files (cast_signed w32 (request_arg c 0)) c.payload (request_arg c 2))
  prints_as call.Close = still (close_of s.files (request_arg c 0)) (close_same s.files (request_arg c 0))
  prints_as call.Pipe2 = still (pipe_of s.files (request_arg c 1)) (pipe_same s.files (request_arg c 1))
  prints_as call.Llseek = still (seek_of s.files (request_arg c 0) (request_arg c 1) (request_arg c 2) (request_arg c 4))
      (seek_same s.files (request_arg c 0) (request_arg c 1) (request_arg c 2) (request_arg c 4))
  prints_as call.Read = still (read_of s.files (request_arg c 0) (request_arg c 2)) (read_same s.files (request_arg c 0) (request_arg c 2))
  prints_as call.Write = wrote
  prints_as call.Readv =
      by_test Quiet (nat_lt MOST_VECTORS (request_arg c 2)) (only s EINVAL) (of_files s (read_of s.files (request_arg c 0) (request_arg c 3))) none
      (still (read_of s.files (request_arg c 0) (request_arg c 3)) (read_same s.files (request_arg c 0) (request_arg c 3)))
  prints_as call.Writev =
      by_test (Prints (λ ret. by_result (printed (prints s.files (request_arg c 0))) ret)) (nat_lt MOST_VECTORS (request_arg c 2)) (only s EINVAL)
      (of_files s (write_of s.files (request_arg c 0) c.payload)) none wrote
  prints_as call.ClockGettime64 = by_test Quiet (nat_lt 1 (request_arg c 0)) (only s EINVAL) _ none none
  prints_as _ = none

-- a call prints what the kernel without sockets is said to do, and on memory that isn't the guest's nothing
pub own_prints : (s : State) (c : Request) → c.bad ≡ false
    → (serve s c).state.files.console ≡ s.files.console
    ++ printed_bytes (own_did (syscall_of c.nr) (prints s.files (request_arg c 0)) (serve s c).ret) c.payload
unfolding serve
own_prints s c good =
    subst (λ b. (cond b (only s EFAULT) (answered (syscall_of c.nr) s c)).state.files.console
    ≡ s.files.console ++ printed_bytes
    (own_did (syscall_of c.nr) (prints s.files (request_arg c 0)) (cond b (only s EFAULT) (answered (syscall_of c.nr) s c)).ret) c.payload) (sym good)
    (prints_as s c (syscall_of c.nr))

pub bad_quiet : (s : State) (c : Request) → c.bad ≡ true → (serve s c).state.files.console ≡ s.files.console
unfolding serve
bad_quiet s c bad = ap (λ b. (cond b (only s EFAULT) (answered (syscall_of c.nr) s c)).state.files.console) bad
