-- The later calls change no file and no connection.
use Rattle.std.proofs.Common.{◌≡◌, ap, refl, Bool, true, false, not, ◌&&◌, Some, None}
use Rattle.std.specs.Prelude.{IfSome, if◌then◌else◌}
use Rattle.nv_calls.specs.declared.numbers.Syscall.{Syscall}
use Rattle.nv_calls.specs.declared.numbers.Syscall.TheVariants as call
use Rattle.nv_calls.specs.Answer.{Answer}
use Rattle.nv_calls.specs.Calls.{Request}
use Rattle.nv_calls.specs.Errors.{EAGAIN}
use Rattle.nv_calls.specs.Numbers.{syscall_of}
use Rattle.nv_kernel.specs.Serving.{request_arg}
use Rattle.nv_sockets.specs.Serving.{State}
use Rattle.nv_arriving.specs.declared.timing.Until.{Until}
use Rattle.nv_arriving.specs.declared.timing.Until.TheVariants as until
use Rattle.nv_arriving.specs.Timing.{slept}
use Rattle.nv_arriving.specs.Arriving.{Standing, reached_by, would_wait, later_as, later}
use Rattle.nv_arriving.proofs.LaterLaws.{control_state}

pub record Still (s : Standing) (r : Answer Standing) : Type 0 where
  pub files : r.state.state.own.files ≡ s.state.own.files
  pub net : r.state.state.net ≡ s.state.net

slept_still : (s : Standing) (u : Until) → Still s (reached_by (slept s u))
slept_still s until.Never = record { files = refl; net = refl }
slept_still s until.Bad = record { files = refl; net = refl }
slept_still s (until.At seconds nanos) = record { files = refl; net = refl }

unwaited_still : (s : Standing) (b : Bool) → IfSome (if b then Some (reached_by (EAGAIN, s)) else None) (Still s)
unwaited_still s true = record { files = refl; net = refl }
unwaited_still s false = tt

as_still : (k : Syscall) (s : Standing) (c : Request) (u : Until) → IfSome (later_as k s c u) (Still s)
as_still call.Fcntl s c u =
    let still = control_state s (request_arg c 0) (request_arg c 1) (request_arg c 2) in
    record { files = ap (λ (t : State). t.own.files) still; net = ap (λ (t : State). t.net) still }
as_still call.ClockNanosleep s c u = slept_still s u
as_still call.Ppoll s c u = record { files = refl; net = refl }
as_still call.Pselect6 s c u = record { files = refl; net = refl }
as_still k s c u = unwaited_still s (would_wait k s c)

in_still : (b : Bool) (k : Syscall) (s : Standing) (c : Request) (u : Until) → IfSome (if b then later_as k s c u else None) (Still s)
in_still true k s c u = as_still k s c u
in_still false k s c u = tt

pub later_still : (s : Standing) (c : Request) (u : Until) → IfSome (later s c u) (Still s)
unfolding later
later_still s c u = in_still (s.polls && not c.bad) (syscall_of c.nr) s c u
