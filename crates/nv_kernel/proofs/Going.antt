-- From call to call: how many were served, and what is printed.
use Rattle.std.proofs.Common.{◌≡◌, ◌∙◌, ap, refl, ℕ, ℤ, pos, negsuc, ◌+◌, Bool, true, false, cond, ◌==◌, ◌&&◌, not, nat_lt, List, [], ◌∷◌, ◌++◌, length, Option, Some, None, arith}
use Rattle.std.specs.Prelude.{slice_index}
use Rattle.nv_calls.specs.declared.numbers.Syscall.{Syscall}
use Rattle.nv_calls.specs.declared.numbers.Syscall.TheVariants.{Ioctl, Readv, Writev, ClockGettime64}
use Rattle.nv_calls.specs.Answer.{Answer, only, reply_of, state_after}
use Rattle.nv_calls.specs.Calls.{Request, Entry}
use Rattle.nv_calls.specs.Errors.{EFAULT}
use Rattle.nv_calls.specs.Numbers.{syscall_of}
use Rattle.nv_calls.specs.Logs.{made, calls_of, call_of, output_of}
use Rattle.nv_fs.specs.States.{is_open}
use Rattle.nv_script.specs.Scripts.{Setup}
use Rattle.nv_kernel.specs.Serving.{State, answered, serve, first_state, start_of_script}
use Rattle.nv_kernel.proofs.Keeping.{map_more}

count_by : (b : Bool) (x y : Answer State) (n : ℕ) → x.state.served ≡ n → y.state.served ≡ n → (cond b x y).state.served ≡ n
count_by true x y n p q = p
count_by false x y n p q = q

count_as : (k : Syscall) (s : State) (c : Request) → (answered k s c).state.served ≡ s.served
count_as Ioctl s c = count_by (is_open s.files (slice_index c.args 0)) _ _ s.served refl refl
count_as Readv s c = count_by (nat_lt 1024 (slice_index c.args 2)) _ _ s.served refl refl
count_as Writev s c = count_by (nat_lt 1024 (slice_index c.args 2)) _ _ s.served refl refl
count_as ClockGettime64 s c = count_by (nat_lt 1 (slice_index c.args 0)) _ _ s.served refl refl
count_as _ s c = refl

count_more : (s : State) (c : Request) → (serve s c).state.served ≡ s.served + 1
unfolding serve
count_more s c = ap (λ n. n + 1) (count_by c.bad (only s EFAULT) (answered (syscall_of c.nr) s c) s.served refl (count_as (syscall_of c.nr) s c))

-- the state counts the calls
pub count_is : (s : State) (cs : List Request) → (state_after serve s cs).served ≡ s.served + length cs
count_is s [] = omega arith
count_is s (c ∷ cs) = let h = count_is (serve s c).state cs in let k = count_more s c in omega (arith, h, k)

pub not_made : (nr : ℕ) (r : ℤ) → (nr == 220) ≡ false → made nr r ≡ None
not_made nr (pos n) h = ap (λ b. cond {A = Option ℕ} (b && not (n == 0)) (Some n) None) h
not_made nr (negsuc n) h = refl

-- the reply to a call, and the console, by the state after the calls before
pub reply_is : (setup : Setup) (log : List Entry) (c : Request) → (start_of_script setup).replies (calls_of log) c ≡ reply_of (serve (state_after serve (first_state setup) (calls_of log)) c)
unfolding start_of_script
reply_is setup log c = refl

pub output_is : (setup : Setup) (log : List Entry) → output_of (start_of_script setup) log ≡ (state_after serve (first_state setup) (calls_of log)).files.console
unfolding start_of_script
output_is setup log = refl

-- the state after one more call, and after one more entry, whatever answers
state_more : {S : Type 0} (by : S → Request → Answer S) (s : S) (cs : List Request) (c : Request) → state_after by s (cs ++ c ∷ []) ≡ (by (state_after by s cs) c).state
state_more by s [] c = refl
state_more by s (d ∷ cs) c = state_more by (by s d).state cs c

pub log_more : {S : Type 0} (by : S → Request → Answer S) (s : S) (log : List Entry) (e : Entry) → state_after by s (calls_of (log ++ e ∷ [])) ≡ (by (state_after by s (calls_of log)) e.call).state
log_more by s log e = ap (state_after by s) (map_more call_of log e) ∙ state_more by s (calls_of log) e.call

pub log_count : (setup : Setup) (log : List Entry) → (state_after serve (first_state setup) (calls_of log)).served ≡ length (calls_of log)
log_count setup log = let h = count_is (first_state setup) (calls_of log) in omega (arith, h)
