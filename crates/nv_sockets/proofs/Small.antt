-- How many bytes calls on sockets hand out at most.
use Rattle.std.proofs.Common.{ℕ, ℤ, ◌≤◌, ◌-◌, Bool, true, false, cond, not, ◌==◌, nat_lt, nat_le, min, List, [], ◌++◌, length, take, Option, Some, None, option_map, pos, arith}
use Rattle.std.specs.Prelude.{slice_index}
use Rattle.std.proofs.lemmas.List.{length-take}
use Rattle.nv_calls.specs.declared.numbers.Syscall.{Syscall}
use Rattle.nv_calls.specs.declared.numbers.Syscall.TheVariants as call
use Rattle.nv_calls.specs.Answers.{most_out_by}
use Rattle.nv_calls.specs.Answer.{Answer, answer, only}
use Rattle.nv_calls.specs.Calls.{Request}
use Rattle.nv_calls.specs.Errors.{EINVAL, EADDRINUSE, ENOSPC, EPIPE}
use Rattle.nv_calls.specs.Numbers.{syscall_of}
use Rattle.nv_kernel.specs.Reserved.{most_out}
use Rattle.nv_fs.specs.Stored.{MOST_WRITTEN}
use Rattle.nv_sockets.specs.declared.socket.Socket.{Socket}
use Rattle.nv_sockets.specs.declared.socket.Socket.TheVariants.{Fresh, Bound, Listening, Connected}
use Rattle.nv_sockets.specs.Sockets.{Net, socket_at, on_socket, with_socket, free_place, is_tcp, made_at, socket_of, is_size, port_in, is_used, bind_to, bind_socket, bind_of, listen_socket, listen_of, next_at, accept_next, are_flags, accept_socket, accept_flagged, accept_of, unread_of, is_going, link_output, with_output, read_socket, write_link, write_socket, close_socket}
use Rattle.nv_sockets.specs.Serving.{of_open, answered, unless_bad, or_own}

by_test : (b : Bool) (x y : Answer Net) (n : ℕ) → length x.payload ≤ n → length y.payload ≤ n → length (cond b x y).payload ≤ n
by_test true x y n p q = p
by_test false x y n p q = q

on_small : (net : Net) (fd : ℕ) (o : Option Socket) (next : Socket → Answer Net) (n : ℕ) → ((s : Socket) → length (next s).payload ≤ n) → length (on_socket net fd o next).payload ≤ n
on_small net fd None next n h = omega arith
on_small net fd (Some s) next n h = h s

made_small : (net : Net) (place : Option ℕ) (n : ℕ) → length (made_at net place).payload ≤ n
made_small net None n = omega arith
made_small net (Some place) n = omega arith

socket_small : (net : Net) (domain kind protocol n : ℕ) → length (socket_of net domain kind protocol).payload ≤ n
unfolding socket_of
socket_small net domain kind protocol n = by_test (is_tcp domain kind protocol) (made_at net (free_place net)) (only net EINVAL) n (made_small net (free_place net) n) (omega arith)

bind_to_small : (net : Net) (fd : ℕ) (port : Option ℕ) (n : ℕ) → length (bind_to net fd port).payload ≤ n
bind_to_small net fd None n = omega arith
bind_to_small net fd (Some port) n = by_test (is_used net port) (only net EADDRINUSE) (answer (with_socket net fd (Some (Bound port))) (pos 0) []) n (omega arith) (omega arith)

bind_socket_small : (net : Net) (fd size : ℕ) (address : List ℕ) (s : Socket) (n : ℕ) → length (bind_socket net fd size address s).payload ≤ n
bind_socket_small net fd size address Fresh n = by_test (is_size size) (bind_to net fd (port_in address)) (only net EINVAL) n (bind_to_small net fd (port_in address) n) (omega arith)
bind_socket_small net fd size address (Bound port) n = omega arith
bind_socket_small net fd size address (Listening port) n = omega arith
bind_socket_small net fd size address (Connected i) n = omega arith

bind_small : (net : Net) (fd size : ℕ) (address : List ℕ) (n : ℕ) → length (bind_of net fd size address).payload ≤ n
unfolding bind_of
bind_small net fd size address n = on_small net fd (socket_at net fd) (bind_socket net fd size address) n (λ s. bind_socket_small net fd size address s n)

listen_socket_small : (net : Net) (fd : ℕ) (s : Socket) (n : ℕ) → length (listen_socket net fd s).payload ≤ n
listen_socket_small net fd Fresh n = omega arith
listen_socket_small net fd (Bound port) n = omega arith
listen_socket_small net fd (Listening port) n = omega arith
listen_socket_small net fd (Connected i) n = omega arith

listen_small : (net : Net) (fd n : ℕ) → length (listen_of net fd).payload ≤ n
unfolding listen_of
listen_small net fd n = on_small net fd (socket_at net fd) (listen_socket net fd) n (λ s. listen_socket_small net fd s n)

accept_next_small : (net : Net) (place next : Option ℕ) (n : ℕ) → length (accept_next net place next).payload ≤ n
accept_next_small net None next n = omega arith
accept_next_small net (Some place) None n = omega arith
accept_next_small net (Some place) (Some i) n = omega arith

accept_socket_small : (net : Net) (s : Socket) (n : ℕ) → length (accept_socket net s).payload ≤ n
accept_socket_small net Fresh n = omega arith
accept_socket_small net (Bound port) n = omega arith
accept_socket_small net (Listening port) n = accept_next_small net (free_place net) (next_at net port) n
accept_socket_small net (Connected i) n = omega arith

accept_small : (net : Net) (fd flags n : ℕ) → length (accept_of net fd flags).payload ≤ n
unfolding accept_of
accept_small net fd flags n =
    on_small net fd (socket_at net fd) (accept_flagged net flags) n (λ s. by_test (are_flags flags) (accept_socket net s) (only net EINVAL) n (accept_socket_small net s n) (omega arith))

take_small : (n : ℕ) (xs : List ℕ) → length (take n xs) ≤ n
take_small n xs = omega (arith, length-take n xs)

read_small : (net : Net) (n : ℕ) (s : Socket) → length (read_socket net n s).payload ≤ n
read_small net n Fresh = omega arith
read_small net n (Bound port) = omega arith
read_small net n (Listening port) = omega arith
read_small net n (Connected i) = take_small n (unread_of net i)

write_link_small : (net : Net) (i : ℕ) (bytes : List ℕ) (n : ℕ) → length (write_link net i bytes).payload ≤ n
write_link_small net i bytes n =
    by_test (length bytes == 0) (only net (pos 0)) _ n (omega arith)
    (by_test (not (is_going net i)) (only net EPIPE) _ n (omega arith)
    (by_test (nat_le net.limit (length (link_output net i))) (only net ENOSPC)
    (let part = take (min MOST_WRITTEN (net.limit - length (link_output net i))) bytes in answer (with_output net i (link_output net i ++ part)) (pos (length part)) []) n (omega arith) (omega arith)))

write_small : (net : Net) (bytes : List ℕ) (s : Socket) (n : ℕ) → length (write_socket net bytes s).payload ≤ n
write_small net bytes Fresh n = omega arith
write_small net bytes (Bound port) n = omega arith
write_small net bytes (Listening port) n = omega arith
write_small net bytes (Connected i) n = write_link_small net i bytes n

module _ (net : Net) (own : ℤ) (bytes : List ℕ) (n : ℕ) (h : length bytes ≤ n) where
  open_by : (o : Option Socket) (next : Socket → Answer Net) → ((s : Socket) → length (next s).payload ≤ n) → length (or_own net own bytes (option_map next o)).payload ≤ n
  open_by None next k = h
  open_by (Some s) next k = k s

  many_by : (b : Bool) (found : Option (Answer Net)) → length (or_own net own bytes found).payload ≤ n → length (or_own net own bytes (cond b None found)).payload ≤ n
  many_by true found k = h
  many_by false found k = k

small_as : (k : Syscall) (net : Net) (c : Request) (own : ℤ) (bytes : List ℕ) → length bytes ≤ most_out_by k c.args → length (or_own net own bytes (answered k net c)).payload ≤ most_out_by k c.args
small_as call.Socket net c own bytes h = socket_small net (slice_index c.args 0) (slice_index c.args 1) (slice_index c.args 2) 0
small_as call.Bind net c own bytes h = bind_small net (slice_index c.args 0) (slice_index c.args 2) c.payload 0
small_as call.Listen net c own bytes h = listen_small net (slice_index c.args 0) 0
small_as call.Accept net c own bytes h = accept_small net (slice_index c.args 0) 0 0
small_as call.Accept4 net c own bytes h = accept_small net (slice_index c.args 0) (slice_index c.args 3) 0
small_as call.Close net c own bytes h = open_by net own bytes 0 h (socket_at net (slice_index c.args 0)) (close_socket net (slice_index c.args 0)) (λ s. omega arith)
small_as call.Read net c own bytes h =
    let fd = slice_index c.args 0 in let n = min (slice_index c.args 2) 4096 in open_by net own bytes n h (socket_at net fd) (read_socket net n) (read_small net n)
small_as call.Readv net c own bytes h =
    let fd = slice_index c.args 0 in let n = min (slice_index c.args 3) 4096 in
    many_by net own bytes n h (nat_lt 1024 (slice_index c.args 2)) (of_open net fd (read_socket net n)) (open_by net own bytes n h (socket_at net fd) (read_socket net n) (read_small net n))
small_as call.Write net c own bytes h =
    open_by net own bytes 0 h (socket_at net (slice_index c.args 0)) (write_socket net c.payload) (λ s. write_small net c.payload s 0)
small_as call.Writev net c own bytes h =
    let fd = slice_index c.args 0 in
    many_by net own bytes 0 h (nat_lt 1024 (slice_index c.args 2)) (of_open net fd (write_socket net c.payload))
    (open_by net own bytes 0 h (socket_at net fd) (write_socket net c.payload) (λ s. write_small net c.payload s 0))
small_as _ net c own bytes h = h

-- a call hands out no more than without sockets
pub answer_small : (net : Net) (c : Request) (own : ℤ) (bytes : List ℕ) → length bytes ≤ most_out c → length (or_own net own bytes (unless_bad net c)).payload ≤ most_out c
answer_small net c own bytes h = many_by net own bytes (most_out c) h c.bad (answered (syscall_of c.nr) net c) (small_as (syscall_of c.nr) net c own bytes h)
