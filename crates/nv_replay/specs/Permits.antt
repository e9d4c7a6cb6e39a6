-- What a rule lets a version do that makes another call than the log has next.
use Rattle.std.specs.Prelude.{◌≡◌, ℕ, ℤ, pos, ◌-ℤ◌, Bool, true, false, ◌&&◌, not, nat_le, [], Option, Some, None, if◌then◌else◌}
use Rattle.nv_calls.specs.Calls.{Request, Response, Entry}
use Rattle.nv_calls.specs.Constants.{constant_of}
use Rattle.nv_calls.specs.Numbers.{is_of_threads}
use Rattle.nv_threads.specs.Behaviours.{Behaviour}
use Rattle.nv_rules.specs.declared.outcome.Verdict.{Verdict}
use Rattle.nv_rules.specs.declared.outcome.Verdict.TheVariants.{Allow, Errno, Skip, Take, Refuse}
use Rattle.nv_replay.specs.Taking.{taken}

pub data Permit : Type 0 where
  -- the call is answered so
  Give : (reply : Response) → Permit
  -- the event is dropped
  Pass : Permit
  -- the event is consumed, and the call is answered so
  Consume : (reply : Response) → Permit
  No : Permit

abbrev pub given : Option Response → Permit
given None = No
given (Some reply) = Give reply

-- the call has this error: errors go up to 4,095 (errno(3))
abbrev pub failed : Request → ℕ → Permit
failed c k = if nat_le k 4095 && not (is_of_threads c.nr) then Give (record { ret = pos 0 -ℤ pos k; payload = [] }) else No

abbrev pub passed : Entry → Permit
passed e = if is_of_threads e.call.nr then No else Pass

-- the event's reply, with the call's own result
abbrev pub took : Entry → Option ℤ → Permit
took e None = No
took e (Some ret) = Consume (record e.reply { ret = ret })

abbrev pub permit : Request → Entry → Verdict → Permit
permit c e Allow = given (constant_of c)
permit c e (Errno k) = failed c k
permit c e Skip = passed e
permit c e Take = took e (taken c e)
permit c e (Refuse value) = No

-- the thread's call has been given this reply, where there is one
abbrev pub HasGiven : {P : Type 0} → Behaviour P → Option Response → ℕ → P → P → Bool → Type 0
HasGiven g None t old new result = (new ≡ old) × (result ≡ false)
HasGiven g (Some reply) t old new result = (new ≡ g.given old t reply) × (result ≡ true)
