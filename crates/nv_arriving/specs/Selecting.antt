-- select(2): the sets of a call, bits one after another, and what makes a descriptor of each set ready.
use Rattle.std.specs.Prelude.{ℕ, ◌+◌, ◌*◌, ◌/◌, ◌%◌, ◌^◌, Bool, not, ◌&&◌, ◌==◌, nat_lt, bit_and, List, slice_index, if◌then◌else◌}
use Rattle.nv_calls.specs.Answers.{selected_count, set_bytes}
use Rattle.nv_calls.specs.Calls.{Request}
use Rattle.nv_fs.specs.Polls.{READABLE, WRITABLE, FAILED, HUNG}
use Rattle.nv_kernel.specs.Serving.{request_arg}
use Rattle.nv_arriving.specs.declared.polled.Polled.{Polled}

-- POLLPRI, which nothing has here
abbrev pub SPECIAL : ℕ
SPECIAL = 0x2

-- of the first set what makes a read not wait, an end and a failure too; of the second what makes a write not wait; of the third what is special (POLLIN_SET,
-- POLLOUT_SET and POLLEX_SET of Linux's fs/select.c)
abbrev pub set_events : ℕ → ℕ
set_events set = if set == 0 then READABLE + (HUNG + FAILED) else if set == 1 then WRITABLE + FAILED else SPECIAL

-- the bits of one set
abbrev pub set_bits : Request → ℕ
set_bits c = 8 * set_bytes (selected_count (request_arg c 0))

-- the bit of this number, counted from the lowest of the first byte
abbrev pub has_bit : List ℕ → ℕ → Bool
has_bit bytes place = not (bit_and (slice_index bytes (place / 8)) (2 ^ (place % 8)) == 0)

-- a number below 0, which is passed over
abbrev pub PASSED : Polled
PASSED = record { fd = 0xffff_ffff; events = 0 }

-- the descriptor of a bit of the three sets: passed over where the bit is 0, or the number isn't below the call's
unfoldable pub selected_at : Request → ℕ → Polled
selected_at c place =
    let fd = place % set_bits c in
    if has_bit c.payload place && nat_lt fd (selected_count (request_arg c 0)) then record { fd = fd; events = set_events (place / set_bits c) } else PASSED
