-- What a follower's call is answered where it takes the reply of the event that it meets, though it isn't the event's call.
use Rattle.std.specs.Prelude.{ℤ, pos, Bool, true, false, ◌==◌, ◌&&◌, ◌||◌, not, nat_le, length, Option, Some, None, slice_index, if◌then◌else◌}
use Rattle.std.specs.Bool.{beq}
use Rattle.nv_calls.specs.declared.numbers.Syscall.{Syscall}
use Rattle.nv_calls.specs.declared.numbers.Syscall.TheVariants.{Llseek, Read, Write, Readv, Writev}
use Rattle.nv_calls.specs.Calls.{Request, Entry}
use Rattle.nv_calls.specs.Answers.{most_out_by}
use Rattle.nv_calls.specs.Numbers.{syscall_of, is_of_threads}

-- it is the event's thread's, has the event's number, both or neither are bad, and it neither makes nor ends a thread
abbrev pub is_alike : Request → Request → Bool
is_alike c d = (c.tid == d.tid) && (c.nr == d.nr) && beq c.bad d.bad && not (is_of_threads c.nr)

-- a call on the content of a descriptor, which is its first argument
abbrev pub is_through : Syscall → Bool
is_through Llseek = true
is_through Read = true
is_through Write = true
is_through Readv = true
is_through Writev = true
is_through _ = false

-- a call whose result is how many of its own bytes were taken
abbrev pub is_writing : Syscall → Bool
is_writing Write = true
is_writing Writev = true
is_writing _ = false

-- the same descriptor, and all bytes of the answer fit what the call asks for; other arguments may differ
abbrev pub fits : Syscall → Request → Entry → Bool
fits syscall c e = (not (is_through syscall) || (slice_index c.args 0 == slice_index e.call.args 0))
    && nat_le (length e.reply.payload) (most_out_by syscall c.args)

-- all of the event's bytes: all of its own; an error: that error; a part of them: none
abbrev pub all_written : Request → Entry → ℤ → Option ℤ
all_written c e (pos n) = if n == length e.call.payload then Some (pos (length c.payload)) else None
all_written c e error = Some error

-- any other result is the event's
abbrev pub result_by : Syscall → Request → Entry → Option ℤ
result_by syscall c e = if is_writing syscall then all_written c e e.reply.ret else Some e.reply.ret

-- the result that a call has by the event, where it may take it
unfoldable pub taken : Request → Entry → Option ℤ
taken c e = if is_alike c e.call && fits (syscall_of c.nr) c e then result_by (syscall_of c.nr) c e else None
