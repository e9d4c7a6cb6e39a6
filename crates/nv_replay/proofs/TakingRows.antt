-- What calls are answered by events that aren't theirs: cases worked out by hand.
use Rattle.std.proofs.Common.{◌≡◌, refl, ℕ, true, false, List, [], ◌∷◌, Some, None}
use Rattle.std.specs.Prelude.{ℤ, pos, negsuc}
use Rattle.nv_calls.specs.Calls.{Request, Entry}
use Rattle.nv_calls.specs.Numbers.{syscall_of}
use Rattle.nv_replay.specs.Taking.{taken}

abbrev call : ℕ → List ℕ → List ℕ → Request
call nr args bytes = record { tid = 100; nr = nr; args = args; bad = false; payload = bytes }

abbrev bad : Request → Request
bad c = record c { bad = true; payload = [] }

abbrev event : Request → ℤ → List ℕ → Entry
event c ret bytes = record { stamp = 7; call = c; reply = record { ret = ret; payload = bytes } }

-- write(fd, .., count)
abbrev write : ℕ → List ℕ → ℕ → Request
write fd bytes count = call 64 (fd ∷ 0 ∷ count ∷ 0 ∷ 0 ∷ 0 ∷ []) bytes

abbrev hello : Request
hello = write 1 (72 ∷ 105 ∷ []) 2

abbrev longer : Request
longer = write 1 (72 ∷ 101 ∷ 121 ∷ 33 ∷ []) 4

-- read(fd, .., count)
abbrev read : ℕ → ℕ → Request
read fd count = call 63 (fd ∷ 0 ∷ count ∷ 0 ∷ 0 ∷ 0 ∷ []) []

-- all of the event's bytes were written: all of its own are
written_whole : taken longer (event hello (pos 2) []) ≡ Some (pos 4)
unfolding taken syscall_of
written_whole = refl

written_shorter : taken hello (event longer (pos 4) []) ≡ Some (pos 2)
unfolding taken syscall_of
written_shorter = refl

-- an error is that error, EAGAIN here
written_error : taken longer (event hello (negsuc 10) []) ≡ Some (negsuc 10)
unfolding taken syscall_of
written_error = refl

-- a part of them is refused, none of them too
written_part : taken hello (event longer (pos 3) []) ≡ None
unfolding taken syscall_of
written_part = refl

written_none : taken hello (event longer (pos 0) []) ≡ None
unfolding taken syscall_of
written_none = refl

-- writev hands its bytes in alike, from one vector here and from two there
written_vectors : taken (call 66 (1 ∷ 0 ∷ 2 ∷ 0 ∷ 0 ∷ 0 ∷ []) (1 ∷ 2 ∷ 3 ∷ [])) (event (call 66 (1 ∷ 0 ∷ 1 ∷ 0 ∷ 0 ∷ 0 ∷ []) (1 ∷ [])) (pos 1) []) ≡ Some (pos 3)
unfolding taken syscall_of
written_vectors = refl

-- another descriptor, another thread, another number
other_descriptor : taken (write 2 (72 ∷ []) 1) (event hello (pos 2) []) ≡ None
unfolding taken syscall_of
other_descriptor = refl

other_thread : taken (record longer { tid = 101 }) (event hello (pos 2) []) ≡ None
unfolding taken syscall_of
other_thread = refl

other_number : taken (read 1 2) (event hello (pos 2) []) ≡ None
unfolding taken syscall_of
other_number = refl

-- one of the two is bad; both are: EFAULT
one_bad : taken (bad longer) (event hello (pos 2) []) ≡ None
unfolding taken syscall_of
one_bad = refl

both_bad : taken (bad longer) (event (bad hello) (negsuc 13) []) ≡ Some (negsuc 13)
unfolding taken syscall_of
both_bad = refl

-- bytes handed out fit what is asked, or not
read_fits : taken (read 3 4) (event (read 3 9) (pos 3) (7 ∷ 8 ∷ 9 ∷ [])) ≡ Some (pos 3)
unfolding taken syscall_of
read_fits = refl

read_too_long : taken (read 3 2) (event (read 3 9) (pos 3) (7 ∷ 8 ∷ 9 ∷ [])) ≡ None
unfolding taken syscall_of
read_too_long = refl

read_elsewhere : taken (read 4 9) (event (read 3 9) (pos 3) (7 ∷ 8 ∷ 9 ∷ [])) ≡ None
unfolding taken syscall_of
read_elsewhere = refl

-- the capacity of readv's vectors
read_vectors : taken (call 65 (3 ∷ 0 ∷ 1 ∷ 2 ∷ 0 ∷ 0 ∷ []) []) (event (call 65 (3 ∷ 0 ∷ 1 ∷ 9 ∷ 0 ∷ 0 ∷ []) []) (pos 3) (7 ∷ 8 ∷ 9 ∷ [])) ≡ None
unfolding taken syscall_of
read_vectors = refl

-- getrandom has no descriptor
random : taken (call 278 (0 ∷ 8 ∷ 0 ∷ 0 ∷ 0 ∷ 0 ∷ []) []) (event (call 278 (0 ∷ 2 ∷ 1 ∷ 0 ∷ 0 ∷ 0 ∷ []) []) (pos 2) (5 ∷ 6 ∷ [])) ≡ Some (pos 2)
unfolding taken syscall_of
random = refl

-- another path, another descriptor to close, another position
opened : taken (call 56 (4294967196 ∷ 0 ∷ 0 ∷ 0 ∷ 0 ∷ 0 ∷ []) (97 ∷ [])) (event (call 56 (4294967196 ∷ 0 ∷ 577 ∷ 0 ∷ 0 ∷ 0 ∷ []) (98 ∷ [])) (pos 3) []) ≡ Some (pos 3)
unfolding taken syscall_of
opened = refl

closed : taken (call 57 (4 ∷ 0 ∷ 0 ∷ 0 ∷ 0 ∷ 0 ∷ []) []) (event (call 57 (3 ∷ 0 ∷ 0 ∷ 0 ∷ 0 ∷ 0 ∷ []) []) (pos 0) []) ≡ Some (pos 0)
unfolding taken syscall_of
closed = refl

sought : taken (call 62 (3 ∷ 0 ∷ 9 ∷ 0 ∷ 0 ∷ 0 ∷ []) []) (event (call 62 (3 ∷ 0 ∷ 1 ∷ 0 ∷ 0 ∷ 0 ∷ []) []) (pos 0) (1 ∷ 0 ∷ 0 ∷ 0 ∷ 0 ∷ 0 ∷ 0 ∷ 0 ∷ [])) ≡ Some (pos 0)
unfolding taken syscall_of
sought = refl

-- clone, exit and exit_group are never taken
clone : taken (call 220 (69376 ∷ 0 ∷ 0 ∷ 0 ∷ 0 ∷ 0 ∷ []) []) (event (call 220 (4001536 ∷ 0 ∷ 0 ∷ 0 ∷ 0 ∷ 0 ∷ []) []) (negsuc 10) []) ≡ None
unfolding taken syscall_of
clone = refl

exit : taken (call 93 (1 ∷ 0 ∷ 0 ∷ 0 ∷ 0 ∷ 0 ∷ []) []) (event (call 93 (0 ∷ 0 ∷ 0 ∷ 0 ∷ 0 ∷ 0 ∷ []) []) (pos 0) []) ≡ None
unfolding taken syscall_of
exit = refl

exit_group : taken (call 94 (1 ∷ 0 ∷ 0 ∷ 0 ∷ 0 ∷ 0 ∷ []) []) (event (call 94 (0 ∷ 0 ∷ 0 ∷ 0 ∷ 0 ∷ 0 ∷ []) []) (pos 0) []) ≡ None
unfolding taken syscall_of
exit_group = refl
