-- How a kernel goes on that hands in what comes from outside: each read of the input gets the next thing, and any other call nothing.
use Rattle.std.specs.Prelude.{◌≡◌, ℕ, zero, suc, ◌+◌, pos, ◌==◌, ◌&&◌, not, Bool, false, List, [], ◌∷◌, ◌++◌, length, take, Option, Some, None, slice_index, if◌then◌else◌}
use Rattle.nv_calls.specs.declared.numbers.Syscall.{Syscall}
use Rattle.nv_calls.specs.declared.numbers.Syscall.TheVariants.{Read}
use Rattle.nv_calls.specs.Calls.{Request, Response, Entry}
use Rattle.nv_calls.specs.Constants.{result_alone}
use Rattle.nv_calls.specs.Errors.{ENOSYS}
use Rattle.nv_calls.specs.Logs.{Start}
use Rattle.nv_calls.specs.Numbers.{syscall_of}

abbrev pub is_input_as : Syscall → Request → Bool
is_input_as Read c = (slice_index c.args 0 == 0) && (not c.bad && not (slice_index c.args 2 == 0))
is_input_as _ c = false

-- a read of descriptor 0 that asks for a byte at least (read(2))
abbrev pub is_input : Request → Bool
is_input c = is_input_as (syscall_of c.nr) c

-- how many of these calls read the input
abbrev pub inputs : List Request → ℕ
inputs [] = 0
inputs (c ∷ cs) = (if is_input c then 1 else 0) + inputs cs

-- a byte, or the end
abbrev pub reply_with : Option ℕ → Response
reply_with None = result_alone (pos 0)
reply_with (Some byte) = record { ret = pos 1; payload = byte ∷ [] }

-- the end, as long as the thing in this place isn't given
abbrev pub given_at : List (Option ℕ) → ℕ → Option ℕ
given_at [] n = None
given_at (x ∷ xs) zero = x
given_at (x ∷ xs) (suc n) = given_at xs n

abbrev pub answered : Option ℕ → Request → Response
answered thing c = if is_input c then reply_with thing else result_alone ENOSYS

-- how a kernel goes on, as far as this was given
abbrev pub from_given : List (Option ℕ) → Start
from_given given = record { replies = λ cs c. answered (given_at given (inputs cs)) c; console = λ cs. []; connections = λ cs. [] }

abbrev pub kept_list : Option (Option ℕ) → List (Option ℕ)
kept_list None = []
kept_list (Some thing) = thing ∷ []

-- so many things were handed in, and what is kept was given after them
pub record IsNext (given : List (Option ℕ)) (used : ℕ) (kept : Option (Option ℕ)) : Type 0 where
  pub is : given ≡ take used given ++ kept_list kept
  pub count : length (take used given) ≡ used

-- what is handed in, and what stays kept
abbrev pub thing_of : Option (Option ℕ) → Option ℕ
thing_of None = None
thing_of (Some thing) = thing

abbrev pub left_of : Option (Option ℕ) → Request → Option (Option ℕ)
left_of kept c = if is_input c then None else kept

-- what a reply to a read of the input hands in
abbrev pub thing_in : List ℕ → Option ℕ
thing_in [] = None
thing_in (byte ∷ bytes) = Some byte

-- what was handed in, as the log tells it
abbrev pub handed : List Entry → List (Option ℕ)
handed [] = []
handed (e ∷ es) = (if is_input e.call then thing_in e.reply.payload ∷ [] else []) ++ handed es

-- what was given: the kernel keeps no list of it but the log
abbrev pub given_by : List Entry → Option (Option ℕ) → List (Option ℕ)
given_by log kept = handed log ++ kept_list kept

-- what is told grows by what is given; who tells nothing goes on so
abbrev pub Gives : Option (List (Option ℕ)) → Option ℕ → Option (List (Option ℕ)) → Type 0
Gives None thing new = new ≡ None
Gives (Some given) thing new = new ≡ Some (given ++ thing ∷ [])

-- what is told, if it is, was all given
abbrev pub IsTold : Option (List (Option ℕ)) → List (Option ℕ) → Type 0
IsTold None given = Unit {0}
IsTold (Some told) given = told ≡ given
