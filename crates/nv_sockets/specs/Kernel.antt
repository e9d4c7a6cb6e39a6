-- What a kernel with sockets answers by, from call to call.
use Rattle.std.specs.Prelude.{◌≡◌, List}
use Rattle.nv_calls.specs.Answer.{state_after}
use Rattle.nv_calls.specs.Calls.{Request, Entry}
use Rattle.nv_calls.specs.Logs.{calls_of}
use Rattle.nv_script.specs.Scripts.{Setup}
use Rattle.nv_kernel.specs.Reserved as kernel
use Rattle.nv_sockets.specs.declared.host.Host.{Host}
use Rattle.nv_sockets.specs.Sockets.{Link}
use Rattle.nv_sockets.specs.Reserved.{CanSend, IsWhole}
use Rattle.nv_sockets.specs.Serving.{State, serve, first_state}
use Rattle.nv_sockets.specs.Standing.{StandsAt}

-- there is memory for what a call leaves
pub record CanServe (h : Host) (c : Request) : Type 0 where
  pub answer : kernel.CanAnswer h.devices.files c
  pub sends : CanSend h.sockets c

-- what the kernel without sockets and the sockets hold
abbrev pub state_of : Host → State
state_of h = record { own = kernel.state_of h.devices; net = h.sockets.net }

-- it stands where the calls of a log leave it, and nothing of it was let go
pub record HostStands (setup : Setup) (log : List Entry) (h : Host) : Type 0 where
  pub stands : StandsAt setup log (state_of h)
  pub whole : IsWhole h.sockets
  pub console : h.devices.files.gone ≡ 0

-- the connections after a log
abbrev pub links_after : Setup → List Entry → List Link
links_after setup log = (state_after serve (first_state setup) (calls_of log)).net.links
