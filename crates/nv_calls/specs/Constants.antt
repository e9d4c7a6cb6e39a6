-- The replies that a call has in every state of the kernel.
use Rattle.std.specs.Prelude.{ℕ, ◌-◌, ℤ, pos, nat_lt, List, [], ◌∷◌, ◌++◌, length, replicate, codes, Option, Some, None, slice_index, if◌then◌else◌}
use Rattle.nv_calls.specs.declared.numbers.Syscall.{Syscall}
use Rattle.nv_calls.specs.declared.numbers.Syscall.TheVariants.{Getcwd, Uname, Getpid, Getppid, Getuid, Geteuid, Getgid, Getegid}
use Rattle.nv_calls.specs.Calls.{Request, Response}
use Rattle.nv_calls.specs.Errors.{EFAULT, ERANGE}
use Rattle.nv_calls.specs.Numbers.{syscall_of}

-- a result that hands out nothing
abbrev pub result_alone : ℤ → Response
result_alone ret = record { ret = ret; payload = [] }

-- a field of utsname (uname(2)): 65 bytes, filled with 0
abbrev pub utsname_field : List ℕ → List ℕ
utsname_field name = name ++ replicate (65 - length name) 0

unfoldable pub names : List ℕ
names = utsname_field (codes "Linux") ++ utsname_field (codes "varan") ++ utsname_field (codes "5.15.0") ++ utsname_field (codes "#1") ++ utsname_field (codes "riscv32") ++ utsname_field
    (codes "(none)")

-- uname(2)
abbrev pub system : Response
system = record { ret = pos 0; payload = names }

-- getcwd(2) with this size: the directory is `/`
abbrev pub directory : ℕ → Response
directory size = if nat_lt size 2 then result_alone ERANGE else record { ret = pos 2; payload = 47 ∷ 0 ∷ [] }

-- process 100 has parent 1 (getpid(2)), and 1000 is each id (getuid(2), getgid(2))
abbrev pub process : Response
process = result_alone (pos 100)

abbrev pub parent : Response
parent = result_alone (pos 1)

abbrev pub user : Response
user = result_alone (pos 1000)

-- a call on memory that isn't the guest's
abbrev pub unless_bad : Request → Response → Response
unless_bad c reply = if c.bad then result_alone EFAULT else reply

abbrev pub constant_by : Syscall → Request → Option Response
constant_by Getcwd c = Some (unless_bad c (directory (slice_index c.args 1)))
constant_by Uname c = Some (unless_bad c system)
constant_by Getpid c = Some process
constant_by Getppid c = Some parent
constant_by Getuid c = Some user
constant_by Geteuid c = Some user
constant_by Getgid c = Some user
constant_by Getegid c = Some user
constant_by _ c = None

-- the reply of a call that is answered alike in every state
unfoldable pub constant_of : Request → Option Response
constant_of c = constant_by (syscall_of c.nr) c
