-- What a socket answers is refused without sockets.
use Rattle.std.proofs.Common.{◌≡◌, ◌∙◌, sym, ap, subst, refl, ℕ, ◌≤◌, Bool, true, false, cond, nat_lt, min, List, Option, Some, None, option_map, arith}
use Rattle.std.specs.Prelude.{slice_index}
use Rattle.std.proofs.lemmas.List.{get_or_past}
use Rattle.nv_calls.specs.declared.numbers.Syscall.{Syscall}
use Rattle.nv_calls.specs.declared.numbers.Syscall.TheVariants as call
use Rattle.nv_calls.specs.Answer.{only, Answer}
use Rattle.nv_calls.specs.Calls.{Request}
use Rattle.nv_calls.specs.Errors.{EBADF, EFAULT, EINVAL}
use Rattle.nv_calls.specs.Numbers.{syscall_of}
use Rattle.nv_fs.specs.Closes.{close_of, close_open}
use Rattle.nv_fs.specs.Fetched.{read_of, read_open}
use Rattle.nv_fs.specs.declared.open_file.OpenFile.{OpenFile}
use Rattle.nv_fs.specs.States.{FileState, open_of, numbered}
use Rattle.nv_fs.specs.Stored.{write_of, write_open}
use Rattle.nv_laws.specs.Tables.{AreSoundTables}
use Rattle.nv_kernel.specs.Serving as kernel
use Rattle.nv_kernel.specs.Serving.{serve}
use Rattle.nv_sockets.specs.declared.socket.Socket.{Socket}
use Rattle.nv_sockets.specs.Sockets.{Net, socket_at}
use Rattle.nv_sockets.specs.Serving.{State, of_open, unless_many, answered, unless_bad}
use Rattle.nv_sockets.proofs.Outputs.{socket_far}
use Rattle.nv_laws.specs.Refused.{ChangesCountAlone}

-- a descriptor from 64 on is that of no file
far : (s : FileState) (fd : ℕ) → AreSoundTables s → 64 ≤ fd → open_of s fd ≡ None
unfolding open_of
far s fd h l = let n = h.count in ap (numbered s.opens) (get_or_past s.descriptors fd None (omega arith))

read_far : (s : FileState) (fd n : ℕ) → AreSoundTables s → 64 ≤ fd → read_of s fd n ≡ only s EBADF
unfolding read_of
read_far s fd n h l = ap (λ (o : Option (ℕ × OpenFile)). read_open s o (min n 4096)) (far s fd h l)

write_far : (s : FileState) (fd : ℕ) (bytes : List ℕ) → AreSoundTables s → 64 ≤ fd → write_of s fd bytes ≡ only s EBADF
unfolding write_of
write_far s fd bytes h l = ap (λ (o : Option (ℕ × OpenFile)). write_open s o bytes) (far s fd h l)

close_far : (s : FileState) (fd : ℕ) → AreSoundTables s → 64 ≤ fd → close_of s fd ≡ only s EBADF
unfolding close_of
close_far s fd h l = ap (close_open s fd) (far s fd h l)

-- an open socket has such a descriptor
open_far : (net : Net) (fd : ℕ) (next : Socket → Answer Net) (a : Answer Net) → of_open net fd next ≡ Some a → 64 ≤ fd
open_far net fd next a h = by (socket_at net fd) refl h
  where
    by : (o : Option Socket) → socket_at net fd ≡ o → option_map next o ≡ Some a → 64 ≤ fd
    by None e g = cc
    by (Some x) e g = socket_far net fd x e

many_few : (count : ℕ) (found : Option (Answer Net)) (a : Answer Net) → unless_many count found ≡ Some a → (nat_lt 1024 count ≡ false) × (found ≡ Some a)
many_few count found a h = by (nat_lt 1024 count) refl h
  where
    by : (b : Bool) → nat_lt 1024 count ≡ b → cond {A = Option (Answer Net)} b None found ≡ Some a → (nat_lt 1024 count ≡ false) × (found ≡ Some a)
    by true e g = cc
    by false e g = (e, g)

-- an answer that is an error alone
abbrev Errs : kernel.State → Answer kernel.State → Type 0
Errs s r = r ≡ only s EBADF

refused_as : (s : kernel.State) (r : Answer kernel.State) → Errs s r → ChangesCountAlone s (kernel.counted r)
refused_as s r h = subst (λ (z : Answer kernel.State). ChangesCountAlone s (kernel.counted z)) (sym h) (record { state = refl; error = refl; payload = refl })

many_refused : (s : kernel.State) (count : ℕ) (r : Answer kernel.State) → nat_lt 1024 count ≡ false → Errs s r → Errs s (kernel.unless_many s count r)
many_refused s count r h e = ap (λ (b : Bool). cond {A = Answer kernel.State} b (only s EINVAL) r) h ∙ e

module _ (s : State) (c : Request) (h : AreSoundTables s.own.files) where
  abbrev fd : ℕ
  fd = slice_index c.args 0

  closed : 64 ≤ fd → Errs s.own (kernel.of_files s.own (close_of s.own.files fd))
  closed l = ap (kernel.of_files s.own) (close_far s.own.files fd h l)

  read : (n : ℕ) → 64 ≤ fd → Errs s.own (kernel.of_files s.own (read_of s.own.files fd n))
  read n l = ap (kernel.of_files s.own) (read_far s.own.files fd n h l)

  wrote : 64 ≤ fd → Errs s.own (kernel.of_files s.own (write_of s.own.files fd c.payload))
  wrote l = ap (kernel.of_files s.own) (write_far s.own.files fd c.payload h l)

  by_kind : (k : Syscall) (a : Answer Net) → answered k s.net c ≡ Some a → ChangesCountAlone s.own (kernel.counted (kernel.answered k s.own c))
  by_kind call.Socket a e = record { state = refl; error = refl; payload = refl }
  by_kind call.Bind a e = record { state = refl; error = refl; payload = refl }
  by_kind call.Listen a e = record { state = refl; error = refl; payload = refl }
  by_kind call.Accept a e = record { state = refl; error = refl; payload = refl }
  by_kind call.Accept4 a e = record { state = refl; error = refl; payload = refl }
  by_kind call.Close a e = refused_as s.own _ (closed (open_far s.net fd _ a e))
  by_kind call.Read a e = refused_as s.own _ (read (slice_index c.args 2) (open_far s.net fd _ a e))
  by_kind call.Readv a e =
      let few = many_few (slice_index c.args 2) _ a e in
      refused_as s.own _ (many_refused s.own (slice_index c.args 2) _ few.0 (read (slice_index c.args 3) (open_far s.net fd _ a few.1)))
  by_kind call.Write a e = refused_as s.own _ (wrote (open_far s.net fd _ a e))
  by_kind call.Writev a e =
      let few = many_few (slice_index c.args 2) _ a e in
      refused_as s.own _ (many_refused s.own (slice_index c.args 2) _ few.0 (wrote (open_far s.net fd _ a few.1)))
  by_kind _ a e = cc

pub refusing : (s : State) (c : Request) (a : Answer Net) → AreSoundTables s.own.files → unless_bad s.net c ≡ Some a → ChangesCountAlone s.own (kernel.serve s.own c)
unfolding serve
refusing s c a h e = by c.bad e
  where
    by : (b : Bool) → cond {A = Option (Answer Net)} b None (answered (syscall_of c.nr) s.net c) ≡ Some a
        → ChangesCountAlone s.own (kernel.counted (cond {A = Answer kernel.State} b (only s.own EFAULT) (kernel.answered (syscall_of c.nr) s.own c)))
    by true g = cc
    by false g = by_kind s c h (syscall_of c.nr) a g
