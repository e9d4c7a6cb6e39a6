-- What arrives changes of what the kernel holds only the input, the connections, what is over and the clock.
use Rattle.std.proofs.Common.{◌≡◌, ◌∙◌, sym, ap, subst, refl, ℕ, ◌+◌, Bool, true, false, List, [], ◌∷◌, ◌++◌, length, Option, Some, None, arith, length-append}
use Rattle.nv_calls.specs.declared.numbers.Syscall.{Syscall}
use Rattle.nv_calls.specs.declared.numbers.Syscall.TheVariants as call
use Rattle.nv_calls.specs.Calls.{Request}
use Rattle.nv_calls.specs.Numbers.{syscall_of}
use Rattle.nv_fs.specs.declared.open_file.OpenFile.{OpenFile}
use Rattle.nv_fs.specs.declared.open_file.Target.{Target}
use Rattle.nv_fs.specs.declared.open_file.Target.TheVariants as target
use Rattle.nv_fs.specs.States.{FileState, open_of}
use Rattle.nv_fs.specs.Reserved.{Disk, Reserved, IsReserved, IsReservedOf, CanWrite}
use Rattle.nv_kernel.specs.Reserved.{can_answer, CanAnswer}
use Rattle.nv_kernel.specs.Serving.{request_arg}
use Rattle.std.specs.Prelude.{if◌then◌else◌}
use Rattle.nv_sockets.specs.declared.socket.Socket.{Socket}
use Rattle.nv_sockets.specs.declared.socket.Socket.TheVariants as socket
use Rattle.nv_sockets.specs.Sockets.{socket_at}
use Rattle.nv_sockets.specs.Reserved as sockets
use Rattle.nv_sockets.specs.Reserved.{Buffered, can_send, CanSend, CanWriteTo}
use Rattle.nv_arriving.specs.declared.waiting.Want.{Want}
use Rattle.nv_script.specs.Arrivals.{Arrival, Input, InputEnd, ClientsEnd, Connect, Data, End, Time}
use Rattle.nv_arriving.specs.Arriving.{Standing, wants_as, wants, arrive, arrive_all}
use Rattle.nv_arriving.specs.Flags.{is_nonblocking}
use Rattle.nv_arriving.specs.Reserved.{input_bytes, IsSameBut, with_memory}

-- ---- the memory for a call stays

abbrev with_in : Disk → List ℕ → ℕ → Disk
with_in d x y = record { state = record d.state { input = x }; reserved = record d.reserved { input = y }; gone = d.gone }

target_in : (d : Disk) (x : List ℕ) (y : ℕ) (o : OpenFile) (t : Target) (n : ℕ) → IsReserved d o t n → IsReserved (with_in d x y) o t n
target_in d x y o target.Console n h = h
target_in d x y o (target.File i) n h = h
target_in d x y o (target.Writer k) n h = h
target_in d x y o _ n h = h

found_in : (d : Disk) (x : List ℕ) (y : ℕ) (o : Option (ℕ × OpenFile)) (n : ℕ) → IsReservedOf d o n → IsReservedOf (with_in d x y) o n
found_in d x y None n h = h
found_in d x y (Some o) n h = target_in d x y o.1 o.1.target n h

write_in : (d : Disk) (x : List ℕ) (y fd n : ℕ) → CanWrite d fd n → CanWrite (with_in d x y) fd n
unfolding CanWrite open_of
write_in d x y fd n h = found_in d x y (open_of d.state fd) n h

call_in : (k : Syscall) (d : Disk) (x : List ℕ) (y : ℕ) (c : Request) → can_answer k d c → can_answer k (with_in d x y) c
call_in call.Openat d x y c h = record { opens = h.opens; files = h.files; name = h.name }
call_in call.Pipe2 d x y c h = record { opens = h.opens; pipes = h.pipes }
call_in call.Write d x y c h = write_in d x y (request_arg c 0) (length c.payload) h
call_in call.Writev d x y c h = write_in d x y (request_arg c 0) (length c.payload) h
call_in _ d x y c h = h

pub can_still : (d e : Disk) (c : Request) → e.state ≡ record d.state { input = e.state.input } → e.reserved ≡ record d.reserved { input = e.reserved.input } → e.gone ≡ d.gone → CanAnswer d c → CanAnswer e c
can_still d e c s r g h =
    let same : with_in d e.state.input e.reserved.input ≡ e = λ i. record { state = sym s i; reserved = sym r i; gone = sym g i } in
    subst (λ (z : Disk). CanAnswer z c) same (call_in (syscall_of c.nr) d e.state.input e.reserved.input c h)

pub same_but_none : (d : Disk) → IsSameBut d d
same_but_none d = record { state = refl; reserved = refl; room = omega arith; gone = refl }

pub same_but_more : (d e f : Disk) → IsSameBut d e → IsSameBut e f → IsSameBut d f
same_but_more d e f h k = record {
  state = k.state ∙ ap (λ (z : FileState). record z { input = f.state.input }) h.state;
  reserved = k.reserved ∙ ap (λ (z : Reserved). record z { input = f.reserved.input }) h.reserved;
  room = omega (arith, h.room, k.room);
  gone = k.gone ∙ h.gone;
}

-- ---- what arrives

pub arrive_last : (s : Standing) (xs : List Arrival) (a : Arrival) → arrive_all s (xs ++ a ∷ []) ≡ arrive (arrive_all s xs) a
arrive_last s [] a = refl
arrive_last s (x ∷ xs) a = arrive_last (arrive s x) xs a

crew_same : (s : Standing) (a : Arrival) → (arrive s a).state.own.crew ≡ s.state.own.crew
crew_same s (Input bytes) = refl
crew_same s InputEnd = refl
crew_same s ClientsEnd = refl
crew_same s (Connect port) = refl
crew_same s (Data i bytes) = refl
crew_same s (End i) = refl
crew_same s (Time seconds nanos) = refl

pub crew_still : (s : Standing) (xs : List Arrival) → (arrive_all s xs).state.own.crew ≡ s.state.own.crew
crew_still s [] = refl
crew_still s (x ∷ xs) = crew_still (arrive s x) xs ∙ crew_same s x

served_same : (s : Standing) (a : Arrival) → (arrive s a).state.own.served ≡ s.state.own.served
served_same s (Input bytes) = refl
served_same s InputEnd = refl
served_same s ClientsEnd = refl
served_same s (Connect port) = refl
served_same s (Data i bytes) = refl
served_same s (End i) = refl
served_same s (Time seconds nanos) = refl

pub served_still : (s : Standing) (xs : List Arrival) → (arrive_all s xs).state.own.served ≡ s.state.own.served
served_still s [] = refl
served_still s (x ∷ xs) = served_still (arrive s x) xs ∙ served_same s x

pub input_more : (s : Standing) (a : Arrival) → length (arrive s a).state.own.files.input ≡ length s.state.own.files.input + input_bytes (a ∷ [])
input_more s (Input bytes) = omega (arith, length-append s.state.own.files.input bytes)
input_more s InputEnd = omega arith
input_more s ClientsEnd = omega arith
input_more s (Connect port) = omega arith
input_more s (Data i bytes) = omega arith
input_more s (End i) = omega arith
input_more s (Time seconds nanos) = omega arith

pub bytes_first : (a : Arrival) (xs : List Arrival) → input_bytes (a ∷ xs) ≡ input_bytes (a ∷ []) + input_bytes xs
bytes_first (Input bytes) xs = omega arith
bytes_first InputEnd xs = omega arith
bytes_first ClientsEnd xs = omega arith
bytes_first (Connect port) xs = omega arith
bytes_first (Data i bytes) xs = omega arith
bytes_first (End i) xs = omega arith
bytes_first (Time seconds nanos) xs = omega arith

pub bytes_last : (xs : List Arrival) (a : Arrival) → input_bytes (xs ++ a ∷ []) ≡ input_bytes xs + input_bytes (a ∷ [])
bytes_last [] a = omega arith
bytes_last (x ∷ xs) a = omega (arith, bytes_first x (xs ++ a ∷ []), bytes_first x xs, bytes_last xs a)

-- ---- a call that waits sends nothing

abbrev nothing : Option Want
nothing = None

nothing_by : (b : Bool) → (if b then nothing else nothing) ≡ nothing
nothing_by true = refl
nothing_by false = refl

sends_as : (k : Syscall) (s : Standing) (c : Request) (b : Buffered) (w : Want) → wants_as k s c ≡ Some w → can_send k b c
sends_as call.Write s c b w h = let odd = sym (nothing_by (is_nonblocking s (request_arg c 0))) ∙ h in cc
sends_as call.Writev s c b w h = let odd = sym (nothing_by (is_nonblocking s (request_arg c 0))) ∙ h in cc
sends_as _ s c b w h = tt

sends_by : (bad : Bool) (s : Standing) (c : Request) (b : Buffered) (w : Want) → (if bad then None else wants_as (syscall_of c.nr) s c) ≡ Some w → CanSend b c
sends_by true s c b w h = cc
sends_by false s c b w h = sends_as (syscall_of c.nr) s c b w h

pub sends_nothing : (s : Standing) (c : Request) (b : Buffered) (w : Want) → wants s c ≡ Some w → CanSend b c
unfolding wants
sends_nothing s c b w h = sends_by c.bad s c b w h

-- what arrives leaves the memory for what the call writes, or the call writes nothing
pub sends_after : (s : Standing) (c : Request) (b after : Buffered) (n : ℕ) → (wants s c ≡ None → n ≡ 0) → (n ≡ 0 → after ≡ b) → CanSend b c → CanSend after c
sends_after s c b after n none same h = by (wants s c) refl where
  by : (o : Option Want) → wants s c ≡ o → CanSend after c
  by None e = subst (λ (z : Buffered). CanSend z c) (sym (same (none e))) h
  by (Some w) e = sends_nothing s c after w e

abbrev with_rooms : Buffered → List ℕ → ℕ → ℕ → Buffered
with_rooms w promised places waits = record w { promised = promised; places = places; waits = waits }

socket_in : (w : Buffered) (promised : List ℕ) (places waits : ℕ) (o : Option Socket) (n : ℕ) → CanWriteTo w o n → CanWriteTo (with_rooms w promised places waits) o n
socket_in w promised places waits None n h = h
socket_in w promised places waits (Some socket.Fresh) n h = h
socket_in w promised places waits (Some (socket.Bound port)) n h = h
socket_in w promised places waits (Some (socket.Listening port)) n h = h
socket_in w promised places waits (Some (socket.Connected i)) n h = h

send_in : (w : Buffered) (promised : List ℕ) (places waits fd n : ℕ) → sockets.CanWrite w fd n → sockets.CanWrite (with_rooms w promised places waits) fd n
unfolding sockets.CanWrite
send_in w promised places waits fd n h = socket_in w promised places waits (socket_at w.net fd) n h

send_as : (k : Syscall) (w : Buffered) (promised : List ℕ) (places waits : ℕ) (c : Request) → can_send k w c → can_send k (with_rooms w promised places waits) c
send_as call.Write w promised places waits c h = send_in w promised places waits (request_arg c 0) (length c.payload) h
send_as call.Writev w promised places waits c h = send_in w promised places waits (request_arg c 0) (length c.payload) h
send_as _ w promised places waits c h = h

-- memory of what comes is none of what is written
pub send_still : (w v : Buffered) (c : Request) → v ≡ with_memory w v → CanSend w c → CanSend v c
send_still w v c same h = subst (λ (z : Buffered). CanSend z c) (sym same) (send_as (syscall_of c.nr) w v.promised v.places v.waits c h)
