-- How a process ends.
use Rattle.std.specs.Prelude.{ℕ, Bool, Option, Some, None, if◌then◌else◌}
use Rattle.nv_calls.specs.Calls.{Request, status_of}

-- the exit status of a process after a call, by whether no thread lives any more
abbrev pub end_next : Bool → Request → Option ℕ
end_next over c = if over then Some (status_of c) else None
