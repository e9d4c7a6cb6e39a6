-- A reply that is the same in every state is given with sockets too: no socket answers such a call.
use Rattle.std.proofs.Common.{◌≡◌, ◌∙◌, ap, refl, Bool, true, false, cond, Option, Some, None}
use Rattle.nv_calls.specs.declared.numbers.Syscall.{Syscall}
use Rattle.nv_calls.specs.declared.numbers.Syscall.TheVariants.{Getcwd, Uname, Getpid, Getppid, Getuid, Geteuid, Getgid, Getegid}
use Rattle.nv_calls.specs.Answer.{Answer, reply_of}
use Rattle.nv_calls.specs.Calls.{Request, Response}
use Rattle.nv_calls.specs.Constants.{constant_by, constant_of}
use Rattle.nv_calls.specs.Numbers.{syscall_of}
use Rattle.nv_calls.specs.Shapes.{IsShaped}
use Rattle.nv_kernel.specs.Serving as kernel
use Rattle.nv_kernel.proofs.ReplyLaws.{constant-served}
use Rattle.nv_sockets.specs.Sockets.{Net}
use Rattle.nv_sockets.specs.Serving.{State, answered, unless_bad, joined, serve}

no_socket : (k : Syscall) (net : Net) (c : Request) (r : Response) → constant_by k c ≡ Some r → answered k net c ≡ None
no_socket Getcwd net c r h = refl
no_socket Uname net c r h = refl
no_socket Getpid net c r h = refl
no_socket Getppid net c r h = refl
no_socket Getuid net c r h = refl
no_socket Geteuid net c r h = refl
no_socket Getgid net c r h = refl
no_socket Getegid net c r h = refl
no_socket _ net c r h = cc

none_by : (bad : Bool) (found : Option (Answer Net)) → found ≡ None → cond {A = Option (Answer Net)} bad None found ≡ None
none_by true found h = refl
none_by false found h = h

own_reply : (s : State) (c : Request) → unless_bad s.net c ≡ None → reply_of (serve s c) ≡ reply_of (kernel.serve s.own c)
unfolding serve
own_reply s c h = ap (λ (o : Option (Answer Net)). reply_of (joined s.net (kernel.serve s.own c) o)) h

pub always-given : (s : State) (c : Request) (r : Response) → IsShaped c → constant_of c ≡ Some r → reply_of (serve s c) ≡ r
unfolding constant_of
always-given s c r h e =
    own_reply s c (none_by c.bad (answered (syscall_of c.nr) s.net c) (no_socket (syscall_of c.nr) s.net c r e)) ∙ constant-served s.own c r h e
