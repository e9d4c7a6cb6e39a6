-- Replies that don't depend on what the kernel holds.
use Rattle.std.specs.Prelude.{◌≡◌}
use Rattle.nv_calls.specs.Answer.{reply_of}
use Rattle.nv_calls.specs.Calls.{Request, Response}
use Rattle.nv_calls.specs.Shapes.{IsShaped}
use Rattle.nv_kernel.specs.Serving.{State, serve}

-- a call that a guest can make gets this reply in every state of the kernel
abbrev pub IsAlwaysReplied : Request → Response → Type 0
IsAlwaysReplied c r = IsShaped c → (s : State) → reply_of (serve s c) ≡ r
