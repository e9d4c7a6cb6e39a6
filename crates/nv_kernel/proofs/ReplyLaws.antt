-- A reply that is the same in every state is what the kernel replies in each.
use Rattle.std.proofs.Common.{◌≡◌, ◌∙◌, ap, refl, ℕ, ℤ, Bool, true, false, cond, ◌||◌, not, List, Option, Some, None}
use Rattle.std.specs.Prelude.{option_map, IfSome}
use Rattle.std.proofs.lemmas.Option.{same_Some}
use Rattle.nv_calls.specs.declared.numbers.Syscall.{Syscall}
use Rattle.nv_calls.specs.declared.numbers.Syscall.TheVariants.{Getcwd, Uname, Getpid, Getppid, Getuid, Geteuid, Getgid, Getegid}
use Rattle.nv_calls.specs.Answer.{only, reply_of}
use Rattle.nv_calls.specs.Calls.{Request, Response}
use Rattle.nv_calls.specs.Constants.{result_alone, system, process, parent, user, constant_by, constant_of}
use Rattle.nv_calls.specs.Errors.{EFAULT}
use Rattle.nv_calls.specs.Numbers.{syscall_of, has_range}
use Rattle.nv_calls.specs.Shapes.{IsShaped}
use Rattle.nv_calls.proofs.ShapeLaws.{shaped-parts}
use Rattle.nv_kernel.specs.EveryState.{IsAlwaysReplied}
use Rattle.nv_kernel.specs.Serving.{State, always, answered, serve}

-- what the kernel replies, by the call and by whether it is bad
abbrev reply_by : Syscall → Bool → State → Request → Response
reply_by k bad s c = reply_of (cond bad (only s EFAULT) (answered k s c))

reply_is : (s : State) (c : Request) → reply_of (serve s c) ≡ reply_by (syscall_of c.nr) c.bad s c
unfolding serve
reply_is s c = refl

-- a call without a range isn't bad
good_by : (bad range : Bool) → range ≡ false → (not bad || range) ≡ true → bad ≡ false
good_by false range h k = refl
good_by true range h k = (let z : range ≡ true = k in cc)

pub good : (c : Request) (k : Syscall) → IsShaped c → syscall_of c.nr ≡ k → has_range k ≡ false → c.bad ≡ false
good c k h e r = good_by c.bad (has_range (syscall_of c.nr)) (ap has_range e ∙ r) (shaped-parts c h).bad

range_by : (bad : Bool) (s : State) (x r : Response) → Some (cond bad (result_alone EFAULT) x) ≡ Some r → reply_of (cond bad (only s EFAULT) (always s x)) ≡ r
range_by true s x r h = same_Some _ r h
range_by false s x r h = same_Some _ r h

always_by : (bad : Bool) (s : State) (x r : Response) → bad ≡ false → Some x ≡ Some r → reply_of (cond bad (only s EFAULT) (always s x)) ≡ r
always_by true s x r b h = cc
always_by false s x r b h = same_Some _ r h

served_by : (k : Syscall) (s : State) (c : Request) (r : Response) → (has_range k ≡ false → c.bad ≡ false) → constant_by k c ≡ Some r → reply_by k c.bad s c ≡ r
served_by Getcwd s c r g h = range_by c.bad s _ r h
served_by Uname s c r g h = range_by c.bad s system r h
served_by Getpid s c r g h = always_by c.bad s process r (g refl) h
served_by Getppid s c r g h = always_by c.bad s parent r (g refl) h
served_by Getuid s c r g h = always_by c.bad s user r (g refl) h
served_by Geteuid s c r g h = always_by c.bad s user r (g refl) h
served_by Getgid s c r g h = always_by c.bad s user r (g refl) h
served_by Getegid s c r g h = always_by c.bad s user r (g refl) h
served_by _ s c r g h = cc

pub constant-served : (s : State) (c : Request) (r : Response) → IsShaped c → constant_of c ≡ Some r → reply_of (serve s c) ≡ r
unfolding constant_of
constant-served s c r h e = reply_is s c ∙ served_by (syscall_of c.nr) s c r (λ f. good c (syscall_of c.nr) h refl f) e

-- the same of a reply that there may be
pub always-replied : (c : Request) (result : Option ℤ) (bytes : List ℕ) → constant_of c ≡ option_map (λ ret. record { ret = ret; payload = bytes }) result
    → IfSome result (λ ret. IsAlwaysReplied c (record { ret = ret; payload = bytes }))
always-replied c None bytes e = tt
always-replied c (Some ret) bytes e = λ h s. constant-served s c _ h e
