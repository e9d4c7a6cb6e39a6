-- What a number makes: a large run. Its versions write and break one after the other, and the later ones make a further call.
use Rattle.std.specs.Prelude.{ℕ, zero, suc, ◌+◌, ◌*◌, ◌/◌, ◌%◌, ◌==◌, ◌&&◌, nat_le, Bool, if◌then◌else◌, List, [], ◌∷◌, ◌++◌, replicate, codes}
use Rattle.std.specs.Fmt.{decimal}

-- how many versions run, how many writes the last one makes, how many bytes each write has, and which byte
pub record Numbers : Type 0 where
  pub versions : ℕ
  pub writes : ℕ
  pub size : ℕ
  pub byte : ℕ

unfoldable pub numbers_of : ℕ → Numbers
numbers_of n = record { versions = 2 + n % 3; writes = 1000 + n % 9000; size = 1 + n % 64; byte = 97 + n % 26 }

pub data Call : Type 0 where
  -- write(2) of these bytes to descriptor 1
  Write : List ℕ → Call
  -- getuid(2)
  Getuid : Call

pub data Ending : Type 0 where
  -- the instruction EBREAK
  Breaks : Ending
  -- exit_group(2) with this status
  Exits : ℕ → Ending

-- what a version does: its calls in order, and how it ends
pub record Course : Type 0 where
  pub calls : List Call
  pub ending : Ending

-- the bytes of each write
abbrev pub write_text : Numbers → List ℕ
write_text p = replicate p.size p.byte

-- versions from 1 on call getuid before each write whose number is a multiple of 16
abbrev pub calls_getuid : ℕ → ℕ → Bool
calls_getuid version write = nat_le 1 version && (write % 16 == 0)

abbrev pub calls_at : Numbers → ℕ → ℕ → List Call
calls_at p version write = if calls_getuid version write then Getuid ∷ Write (write_text p) ∷ [] else Write (write_text p) ∷ []

-- the calls of the first writes, which are numbered from 1
unfoldable pub calls_to : Numbers → ℕ → ℕ → List Call
calls_to p version zero = []
calls_to p version (suc writes) = calls_to p version writes ++ calls_at p version (writes + 1)

-- the last version makes all writes and exits with 0; each before it breaks after its part of them
unfoldable pub course : Numbers → ℕ → Course
course p version = if version + 1 == p.versions
    then record { calls = calls_to p version p.writes; ending = Exits 0 }
    else record { calls = calls_to p version (p.writes * (version + 1) / p.versions); ending = Breaks }

-- those of the first versions
unfoldable pub courses_to : Numbers → ℕ → List Course
courses_to p zero = []
courses_to p (suc count) = courses_to p count ++ course p count ∷ []

-- those of all versions
abbrev pub courses : ℕ → List Course
courses n = courses_to (numbers_of n) (numbers_of n).versions

-- the script, with every default
abbrev pub script : List ℕ
script = codes "varan-script 1\n"

-- a filter that allows a follower's getuid (174) where the leader has called write (64), and nothing else
abbrev pub rules : List ℕ
rules = codes "6\n32 0 0 64\n21 0 3 64\n32 0 0 0\n21 0 1 174\n6 0 0 2147418112\n6 0 0 0\n"

-- what a run came to: the bytes of its output, the events of its log, the versions that exited, and the rewrites of all versions
pub record Totals : Type 0 where
  pub output : ℕ
  pub log : ℕ
  pub exited : ℕ
  pub rewrites : ℕ

abbrev pub named_number : List ℕ → ℕ → List ℕ
named_number name value = name ++ decimal value

-- the line that sums the run of a number up
unfoldable pub summary : ℕ → Totals → List ℕ
summary n o = named_number (codes "gen ") n ++ named_number (codes " versions ") (numbers_of n).versions ++ named_number (codes " output ") o.output ++ named_number (codes " log ") o.log
    ++ named_number (codes " exited ") o.exited ++ named_number (codes " rewrites ") o.rewrites ++ codes "\n"
