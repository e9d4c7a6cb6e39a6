-- What is shown of a version at a point of a log.
use Rattle.std.specs.Prelude.{ℕ, ◌+◌, ◌-◌, ◌*◌, ◌/◌, min, List, [], ◌∷◌, ◌++◌, ◌≤◌, Option, None, Some, codes, is_some, slice_index, if◌then◌else◌}
use Rattle.std.specs.Fmt.{decimal}
use Rattle.std.specs.Int.{w32, to_be_bytes}
use Rattle.std.specs.List.{concat}
use Rattle.nv_memory.specs.Image.{Image}
use Rattle.nv_memory.specs.Cells.{memory_byte}
use Rattle.nv_machine.specs.Registers.{Registers}
use Rattle.nv_guest.specs.Threads.{Threaded, machine_at}
use Rattle.nv_threads.specs.Threads.{Proc, task_tids, state_at, count_of, greatest}
use Rattle.nv_fs.specs.States.{FileState}
use Rattle.nv_fs.specs.Told.{opened_as}
use Rattle.nv_fs.specs.declared.telling.Opened.{Opened}
use Rattle.nv_fs.specs.declared.telling.Opened.TheVariants.{Closed, Input, Console, File, PipeRead, PipeWrite}
use Rattle.nv_replay.specs.declared.fate.Fate.{Fate}
use Rattle.nv_replay.specs.Follow.{Follower}
use Rattle.nv_bytes.specs.Numbers.{hex_pair_of, hex_of}
use Rattle.nv_report.specs.Versions.{fate_text}
use Rattle.nv_inspect.specs.Firsts.{texts_below}

-- eight hexadecimal digits
abbrev pub word_text : ℕ → List ℕ
word_text n = hex_of (to_be_bytes w32 n)

-- how the version ended, or that it is in step with the log so far
abbrev pub standing_text : Option Fate → List ℕ
standing_text None = codes "in step"
standing_text (Some fate) = fate_text fate

abbrev pub place_text : ℕ → ℕ → List ℕ
place_text seen count = concat (codes "at seen " ∷ decimal seen ∷ codes " count " ∷ decimal count ∷ codes " " ∷ [])

-- the events that it has seen, the instructions that it has run, and its end
abbrev pub heading_text : ℕ → ℕ → Option Fate → List ℕ
heading_text seen count fate = place_text seen count ++ (standing_text fate ++ codes "\n")

-- ---- threads

abbrev pub register_text : Registers → ℕ → List ℕ
register_text r n = codes " " ++ word_text (slice_index r.x n)

abbrev pub registers_text : Registers → List ℕ
registers_text r = codes "x" ++ (texts_below (register_text r) 32 ++ codes "\n")

abbrev pub counter_text : ℕ → ℕ → List ℕ
counter_text tid pc = concat (codes "thread " ∷ decimal tid ∷ codes " pc " ∷ []) ++ (word_text pc ++ codes "\n")

-- the program counter and the registers of a thread
abbrev pub thread_text : Threaded → ℕ → List ℕ
thread_text g tid = counter_text tid (machine_at g tid).regs.pc ++ registers_text (machine_at g tid).regs

-- nothing of a thread that doesn't live
abbrev pub live_text : Proc → ℕ → List ℕ
live_text p tid = if is_some (state_at p.tasks tid) then thread_text p.guest tid else []

-- the threads that live, in the order of their numbers
abbrev pub threads_text : Proc → List ℕ
threads_text p = texts_below (live_text p) (greatest (task_tids p.tasks) + 1)

-- ---- descriptors

abbrev pub opened_text : Opened → List ℕ
opened_text Closed = []
opened_text Input = codes "input"
opened_text Console = codes "console"
opened_text (File offset size) = concat (codes "file offset " ∷ decimal offset ∷ codes " size " ∷ decimal size ∷ [])
opened_text PipeRead = codes "pipe read"
opened_text PipeWrite = codes "pipe write"

abbrev pub named_text : ℕ → Opened → List ℕ
named_text fd opened = concat (codes "fd " ∷ decimal fd ∷ codes " " ∷ []) ++ (opened_text opened ++ codes "\n")

-- nothing of a descriptor that isn't open
abbrev pub descriptor_as : ℕ → Opened → List ℕ
descriptor_as fd Closed = []
descriptor_as fd opened = named_text fd opened

abbrev pub descriptor_text : FileState → ℕ → List ℕ
descriptor_text s fd = descriptor_as fd (opened_as s fd)

abbrev pub descriptors_text : FileState → List ℕ
descriptors_text s = texts_below (descriptor_text s) 64

-- ---- memory

abbrev pub cell_text : Option ℕ → List ℕ
cell_text None = codes "--"
cell_text (Some byte) = hex_pair_of byte

abbrev pub byte_text : Image → ℕ → ℕ → List ℕ
byte_text memory address i = codes " " ++ cell_text (memory_byte memory (address + i))

-- so many bytes from an address on
abbrev pub row_text : Image → ℕ → ℕ → List ℕ
row_text memory address length = codes "mem " ++ (word_text address ++ (texts_below (byte_text memory address) length ++ codes "\n"))

-- sixteen bytes a line, the last line shorter
abbrev pub memory_line : Image → ℕ → ℕ → ℕ → List ℕ
memory_line memory address length i = row_text memory (address + 16 * i) (min 16 (length - 16 * i))

abbrev pub dump_text : Image → Option (ℕ × ℕ) → List ℕ
dump_text memory None = []
dump_text memory (Some range) = texts_below (memory_line memory range.0 range.1) ((range.1 + 15) / 16)

-- ---- the whole

abbrev pub show_text : Follower Proc → FileState → Option (ℕ × ℕ) → List ℕ
show_text at files dump =
    let p = at.process in
    heading_text at.seen (count_of p) at.fate ++ (threads_text p ++ (descriptors_text files ++ dump_text p.guest.memory dump))

-- a dump that is asked for has 1 to 4,096 bytes and ends at an address
abbrev pub IsDump : Option (ℕ × ℕ) → Type 0
IsDump None = Unit {0}
IsDump (Some range) = (1 ≤ range.1) × (range.1 ≤ 4096) × (range.0 + range.1 ≤ 4294967295)
