-- The limits of a run.
use Rattle.std.specs.Prelude.{ℕ}

-- bytes that a call hands in and out together
abbrev pub MOST_BYTES : ℕ
MOST_BYTES = 4096

-- vectors of a call: IOV_MAX (limits.h(0p))
abbrev pub MOST_VECTORS : ℕ
MOST_VECTORS = 1024

-- bytes of a path that are read
abbrev pub MOST_PATH : ℕ
MOST_PATH = 256

-- bytes of a socket's address that are read: those of an address of IPv4 (ip(7))
abbrev pub MOST_ADDRESS : ℕ
MOST_ADDRESS = 16

-- descriptors that a call polls: as many as fit, with a time and with the answer, into the bytes of a call (poll(2), RLIMIT_NOFILE)
abbrev pub MOST_POLLED : ℕ
MOST_POLLED = 408

-- descriptors that a call selects among: FD_SETSIZE (select(2))
abbrev pub MOST_SELECTED : ℕ
MOST_SELECTED = 1024

-- bytes of a time in seconds and nanoseconds, and of what a descriptor is polled for (poll(2))
abbrev pub TIME_BYTES : ℕ
TIME_BYTES = 16

abbrev pub POLLED_BYTES : ℕ
POLLED_BYTES = 8

-- bytes of what is told of a descriptor
abbrev pub EVENTS_BYTES : ℕ
EVENTS_BYTES = 2

-- the thread that lives at the start
abbrev pub FIRST_THREAD : ℕ
FIRST_THREAD = 100

-- threads that live at once
abbrev pub MOST_THREADS : ℕ
MOST_THREADS = 8

-- entries of a log
abbrev pub MOST_EVENTS : ℕ
MOST_EVENTS = 500000000
