-- What a filter's value says of the follower's call.
use Rattle.std.specs.Prelude.{ℕ, ◌/◌, ◌%◌, ◌==◌, if◌then◌else◌}
use Rattle.nv_rules.specs.declared.outcome.Verdict.{Verdict}
use Rattle.nv_rules.specs.declared.outcome.Verdict.TheVariants.{Allow, Errno, Skip, Take, Refuse}

-- by the high half, as Linux has it for ALLOW and ERRNO (seccomp(2)); 6 and 7 are this project's
abbrev pub verdict_of : ℕ → Verdict
verdict_of value = if value / 65536 == 0x7fff then Allow else (
    if value / 65536 == 0x0005 then Errno (value % 65536) else (
    if value / 65536 == 0x0006 then Skip else (
    if value / 65536 == 0x0007 then Take else Refuse value)))
