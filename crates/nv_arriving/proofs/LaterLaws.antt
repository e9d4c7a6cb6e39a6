-- What the later calls leave: one more call is served, and no thread comes or goes.
use Rattle.std.proofs.Common.{◌≡◌, ◌∙◌, sym, ap, subst, refl, ℕ, zero, suc, ℤ, pos, negsuc, ◌+◌, ◌-◌, ◌*◌, ◌≤◌, Bool, true, false, not, ◌&&◌, ◌||◌, ◌==◌, cond, List, [], ◌∷◌, ◌++◌, length, Option, Some, None, arith}
use Rattle.std.specs.Prelude.{IfSome, if◌then◌else◌, filter}
use Rattle.std.proofs.lemmas.Bool.Decides.{nat_tests}
use Rattle.nv_calls.specs.declared.numbers.Syscall.{Syscall}
use Rattle.nv_calls.specs.declared.numbers.Syscall.TheVariants as call
use Rattle.nv_calls.specs.Answer.{Answer}
use Rattle.nv_calls.specs.Calls.{Request}
use Rattle.nv_calls.specs.Errors.{EAGAIN, EINVAL}
use Rattle.nv_calls.specs.Logs.{made, with_child, IsNew}
use Rattle.nv_calls.specs.Numbers.{syscall_of}
use Rattle.nv_calls.specs.Shapes.{IsShaped}
use Rattle.nv_fs.specs.States.{open_of}
use Rattle.nv_fs.specs.Waits.{reads_input}
use Rattle.nv_kernel.specs.Crew.{Crew, IsCrew}
use Rattle.nv_kernel.specs.Serving as kernel
use Rattle.nv_kernel.specs.Serving.{request_arg}
use Rattle.nv_kernel.proofs.Crews.{live_by, few_clones_after}
use Rattle.nv_kernel.proofs.Going.{count_is, not_made}
use Rattle.nv_sockets.specs.declared.socket.Socket.{Socket}
use Rattle.nv_sockets.specs.Serving.{State, serve}
use Rattle.nv_sockets.proofs.Going.{own_next}
use Rattle.nv_sockets.proofs.Threads.{thread_step}
use Rattle.nv_arriving.specs.declared.timing.Until.{Until}
use Rattle.nv_arriving.specs.declared.timing.Until.TheVariants as until
use Rattle.nv_arriving.specs.Flags.{flags_set, with_flags, flags, control_open, control_by, control_of}
use Rattle.nv_arriving.specs.Timing.{slept}
use Rattle.nv_arriving.specs.Polling.{looked_at, count_as, places, told_of, told_in, ready_byte, told_as, told_bytes, is_refused, with_bytes, poll_ret, poll_of}
use Rattle.nv_calls.specs.Answers.{polled_count, sets_bytes, most_out_by}
use Rattle.nv_kernel.specs.Reserved.{most_out}
use Rattle.std.specs.Int.{to_le_bytes, w16}
use Rattle.std.specs.List.{range_with_len}
use Rattle.std.proofs.lemmas.List.FromFn.{length-range_with_len, length-map-range_with_len}
use Rattle.nv_arriving.specs.Arriving.{Standing, with_state, with_end, unless_vain, counted, reached_by, would_wait, later_as, later, nonblocking_by, noted, note, own_answer, or_own, serve_by}

-- ---- what stays

told_state : (told : Bool) (s : Standing) → (if told then with_end s else s).state ≡ s.state
told_state true s = refl
told_state false s = refl

pub vain_state : (vain : Bool) (s : Standing) → (unless_vain vain s).state ≡ s.state
vain_state vain s = told_state (vain && s.polls) s

set_state : (s : Standing) (fd : ℕ) (on : Bool) (o : Option Socket) → (flags_set s fd on o).state ≡ s.state
set_state s fd on (Some socket) = refl
set_state s fd on None = by (reads_input (open_of s.state.own.files fd)) where
  by : (b : Bool) → (if b then record s { nonblocking = record s.nonblocking { input = on } } else s).state ≡ s.state
  by true = refl
  by false = refl

abbrev left_by : ℤ × Standing → State
left_by r = r.1.state

abbrev payload_by : ℤ × List ℕ → List ℕ
payload_by r = r.1

open_state : (s : Standing) (fd command value found : ℕ) → (control_open s fd command value found).1.state ≡ s.state
open_state s fd command value found = by ((command == 1) || (command == 2)) (command == 3) (command == 4) where
  by : (x y z : Bool) → left_by (if x then (pos 0, s) else if y then (pos found, s) else if z then (pos 0, with_flags s fd value) else (EINVAL, s)) ≡ s.state
  by true y z = refl
  by false true z = refl
  by false false true = set_state s fd _ _
  by false false false = refl

pub control_state : (s : Standing) (fd command value : ℕ) → (control_of s fd command value).1.state ≡ s.state
unfolding control_of
control_state s fd command value = by (flags s fd) where
  by : (o : Option ℕ) → (control_by s fd command value o).1.state ≡ s.state
  by None = refl
  by (Some found) = open_state s fd command value found

noted_state : (s : Standing) (ret : ℤ) (o : Option Bool) → (noted s ret o).state ≡ s.state
noted_state s (pos fd) (Some on) = refl
noted_state s (pos fd) None = refl
noted_state s (negsuc n) o = refl

pub note_state : (s : Standing) (c : Request) (ret : ℤ) → (note s c ret).state ≡ s.state
note_state s c ret = by s.polls where
  by : (b : Bool) → (if b then noted s ret (nonblocking_by (syscall_of c.nr) c) else s).state ≡ s.state
  by true = noted_state s ret (nonblocking_by (syscall_of c.nr) c)
  by false = refl

-- ---- what a later call leaves of the kernel without sockets

pub record Leaves (s : Standing) (r : Answer Standing) : Type 0 where
  pub served : r.state.state.own.served ≡ s.state.own.served + 1
  pub crew : r.state.state.own.crew ≡ s.state.own.crew

leaves_by : (s t : Standing) (ret : ℤ) (bytes : List ℕ) → t.state.own.served ≡ s.state.own.served → t.state.own.crew ≡ s.state.own.crew → Leaves s (record { state = counted t; ret = ret; payload = bytes })
leaves_by s t ret bytes served crew = record { served = omega (arith, served); crew = crew }

slept_leaves : (s : Standing) (u : Until) → Leaves s (record { state = counted (slept s u).1; ret = (slept s u).0; payload = [] })
slept_leaves s until.Never = leaves_by s s EINVAL [] refl refl
slept_leaves s until.Bad = leaves_by s s EINVAL [] refl refl
slept_leaves s (until.At seconds nanos) = leaves_by s _ (pos 0) [] refl refl

empty_leaves : (s : Standing) (b : Bool) → IfSome (if b then Some (reached_by (EAGAIN, s)) else None) (Leaves s)
empty_leaves s true = leaves_by s s EAGAIN [] refl refl
empty_leaves s false = tt

as_leaves : (k : Syscall) (s : Standing) (c : Request) (u : Until) → IfSome (later_as k s c u) (Leaves s)
as_leaves call.Fcntl s c u =
    let still = control_state s (request_arg c 0) (request_arg c 1) (request_arg c 2) in
    leaves_by s _ _ [] (ap (λ (t : State). t.own.served) still) (ap (λ (t : State). t.own.crew) still)
as_leaves call.ClockNanosleep s c u = slept_leaves s u
as_leaves call.Ppoll s c u = leaves_by s s _ _ refl refl
as_leaves call.Pselect6 s c u = leaves_by s s _ _ refl refl
as_leaves k s c u = empty_leaves s (would_wait k s c)

in_leaves : (b : Bool) (k : Syscall) (s : Standing) (c : Request) (u : Until) → IfSome (if b then later_as k s c u else None) (Leaves s)
in_leaves true k s c u = as_leaves k s c u
in_leaves false k s c u = tt

pub later_leaves : (s : Standing) (c : Request) (u : Until) → IfSome (later s c u) (Leaves s)
unfolding later
later_leaves s c u = in_leaves (s.polls && not c.bad) (syscall_of c.nr) s c u

-- ---- how many bytes a later call hands out

-- what is told of the first of so many, and of the others
pub told_first : (s : Standing) (c : Request) (place left : ℕ) → (left ≡ 0 → ⊥)
    → told_in s c (range_with_len place left) ≡ to_le_bytes w16 (told_of s (looked_at c place)) ++ told_in s c (range_with_len (place + 1) (left - 1))
told_first s c place zero h = absurd (h refl)
told_first s c place (suc n) h =
    let e : n ≡ suc n - 1 = omega arith in
    ap (λ (m : ℕ). to_le_bytes w16 (told_of s (looked_at c place)) ++ told_in s c (range_with_len (place + 1) m)) e

told_long : (s : Standing) (c : Request) (ps : List ℕ) → length (told_in s c ps) ≡ 2 * length ps
told_long s c [] = refl
told_long s c (p ∷ ps) = omega (arith, told_long s c ps)

listed_few : (s : Standing) (c : Request) → syscall_of c.nr ≡ call.Ppoll → length (told_bytes s c) ≤ 2 * polled_count (request_arg c 1)
listed_few s c e =
    let same : length (told_bytes s c) ≡ length (told_in s c (places c)) = ap (λ (k : Syscall). length (told_as k s c)) e in
    let count : length (places c) ≡ count_as call.Ppoll c = length-range_with_len 0 _ ∙ ap (λ (k : Syscall). count_as k c) e in
    omega (arith, same, count, told_long s c (places c))

selected_few : (s : Standing) (c : Request) → syscall_of c.nr ≡ call.Pselect6 → length (told_bytes s c) ≤ sets_bytes c.args
selected_few s c e =
    let same : length (told_bytes s c) ≡ sets_bytes c.args
    = ap (λ (k : Syscall). length (told_as k s c)) e ∙ length-map-range_with_len (ready_byte s c) 0 (sets_bytes c.args) in
    omega (arith, same)

with_few : (s : Standing) (c : Request) (n : ℕ) (ret : ℤ) → length (told_bytes s c) ≤ n → length (with_bytes s c ret).1 ≤ n
with_few s c n (pos m) h = h
with_few s c n (negsuc m) h = omega arith

poll_few : (s : Standing) (c : Request) (u : Until) (n : ℕ) → length (told_bytes s c) ≤ n → length (poll_of s c u).1 ≤ n
unfolding poll_of
poll_few s c u n h = by (is_refused c u) where
  by : (b : Bool) → length (payload_by (if b then (EINVAL, []) else with_bytes s c (poll_ret s c u))) ≤ n
  by true = omega arith
  by false = with_few s c n (poll_ret s c u) h

empty_few : (s : Standing) (n : ℕ) (b : Bool) → IfSome (if b then Some (reached_by (EAGAIN, s)) else None) (λ r. length r.payload ≤ n)
empty_few s n true = omega arith
empty_few s n false = tt

as_few : (k : Syscall) (s : Standing) (c : Request) (u : Until) → syscall_of c.nr ≡ k → IfSome (later_as k s c u) (λ r. length r.payload ≤ most_out_by k c.args)
as_few call.Fcntl s c u e = omega arith
as_few call.ClockNanosleep s c u e = omega arith
as_few call.Ppoll s c u e = poll_few s c u (2 * polled_count (request_arg c 1)) (listed_few s c e)
as_few call.Pselect6 s c u e = poll_few s c u (sets_bytes c.args) (selected_few s c e)
as_few k s c u e = empty_few s (most_out_by k c.args) (would_wait k s c)

in_few : (b : Bool) (k : Syscall) (s : Standing) (c : Request) (u : Until) → syscall_of c.nr ≡ k
    → IfSome (if b then later_as k s c u else None) (λ r. length r.payload ≤ most_out_by k c.args)
in_few true k s c u e = as_few k s c u e
in_few false k s c u e = tt

pub later_few : (s : Standing) (c : Request) (u : Until) (r : Answer Standing) → later s c u ≡ Some r → length r.payload ≤ most_out c
unfolding later
later_few s c u r e = subst (λ (o : Option (Answer Standing)). IfSome o (λ z. length z.payload ≤ most_out c)) e (in_few (s.polls && not c.bad) (syscall_of c.nr) s c u refl)

-- ---- what any call leaves

or_served : (s : Standing) (c : Request) (o : Option (Answer Standing)) → IfSome o (Leaves s) → (or_own s c o).state.state.own.served ≡ s.state.own.served + 1
or_served s c (Some r) h = h.served
or_served s c None h =
    let still = ap (λ (t : State). t.own.served) (note_state (with_state s (serve s.state c).state) c (serve s.state c).ret) in
    let n = ap (λ (z : kernel.State). z.served) (own_next s.state c) ∙ count_is s.state.own (c ∷ []) in
    omega (arith, still, n)

pub by_served : (s : Standing) (c : Request) (u : Until) → (serve_by s c u).state.state.own.served ≡ s.state.own.served + 1
unfolding serve_by
by_served s c u = or_served s c (later s c u) (later_leaves s c u)

or_clones : (s : Standing) (c : Request) (o : Option (Answer Standing)) → IfSome o (Leaves s) → (or_own s c o).state.state.own.crew.clones ≤ s.state.own.crew.clones + 1
or_clones s c (Some r) h = let same = ap (λ (z : Crew). z.clones) h.crew in omega (arith, same)
or_clones s c None h =
    let still = ap (λ (t : State). t.own.crew.clones) (note_state (with_state s (serve s.state c).state) c (serve s.state c).ret) in
    let n = ap (λ (z : kernel.State). z.crew.clones) (own_next s.state c) in
    let few = few_clones_after s.state.own (c ∷ []) in
    omega (arith, still, n, few)

pub by_clones : (s : Standing) (c : Request) (u : Until) → (serve_by s c u).state.state.own.crew.clones ≤ s.state.own.crew.clones + 1
unfolding serve_by
by_clones s c u = or_clones s c (later s c u) (later_leaves s c u)

-- ---- the threads that live

pub record Steps (s : Standing) (c : Request) (u : Until) : Type 0 where
  pub is : IsCrew (serve_by s c u).state.state.own.crew
  pub new : IsNew s.state.own.crew.live (made c.nr (serve_by s c u).ret)
  pub live : (serve_by s c u).state.state.own.crew.live ≡ live_by c.nr c.tid s.state.own.crew.live (serve_by s c u).ret

abbrev StepsTo : Standing → Request → Answer Standing → Type 0
StepsTo s c r = IsCrew r.state.state.own.crew × IsNew s.state.own.crew.live (made c.nr r.ret) × (r.state.state.own.crew.live ≡ live_by c.nr c.tid s.state.own.crew.live r.ret)

own_steps : (s : Standing) (c : Request) → IsCrew s.state.own.crew → IsShaped c → StepsTo s c (own_answer s c (serve s.state c))
own_steps s c i h =
    let step = thread_step s.state c i h in
    let still = ap (λ (t : State). t.own.crew) (note_state (with_state s (serve s.state c).state) c (serve s.state c).ret) in
    (subst IsCrew (sym still) step.is, step.new, ap (λ (z : Crew). z.live) still ∙ step.live)

same : (m n : ℕ) → (m == n) ≡ true → m ≡ n
same m n t = grind (arith, nat_tests)

clone_at : (nr : ℕ) → nr ≡ 220 → syscall_of nr ≡ call.Clone
unfolding syscall_of
clone_at nr h = ap syscall_of h

exit_at : (nr : ℕ) → nr ≡ 93 → syscall_of nr ≡ call.Exit
unfolding syscall_of
exit_at nr h = ap syscall_of h

group_at : (nr : ℕ) → nr ≡ 94 → syscall_of nr ≡ call.ExitGroup
unfolding syscall_of
group_at nr h = ap syscall_of h

still_none : (on : Bool) (s : Standing) → (if on && false then Some (reached_by (EAGAIN, s)) else None) ≡ None
still_none true s = refl
still_none false s = refl

in_none : (b : Bool) (o : Option (Answer Standing)) → o ≡ None → (if b then o else None) ≡ None
in_none true o h = h
in_none false o h = refl

-- a call that makes or ends threads is none of the later ones
of_none : (s : Standing) (c : Request) (u : Until) (k : Syscall) → syscall_of c.nr ≡ k → later_as k s c u ≡ None → later s c u ≡ None
unfolding later
of_none s c u k e h = ap (λ (z : Syscall). later_by z) e ∙ in_none (s.polls && not c.bad) (later_as k s c u) h
  where
    later_by : Syscall → Option (Answer Standing)
    later_by z = if s.polls && not c.bad then later_as z s c u else None

plain_live : (s : Standing) (c : Request) (r : Answer Standing) → r.state.state.own.crew ≡ s.state.own.crew → (c.nr == 94) ≡ false → (c.nr == 93) ≡ false → (c.nr == 220) ≡ false
    → r.state.state.own.crew.live ≡ live_by c.nr c.tid s.state.own.crew.live r.ret
plain_live s c r e p q n =
    let live : List ℕ = s.state.own.crew.live in
    ap (λ (z : Crew). z.live) e ∙ sym (ap (λ b. cond b [] (cond (c.nr == 93) (filter (λ t. not (t == c.tid)) live) (with_child live (made c.nr r.ret)))) p
    ∙ ap (λ b. cond b (filter (λ t. not (t == c.tid)) live) (with_child live (made c.nr r.ret))) q ∙ ap (with_child live) (not_made c.nr r.ret n))

later_steps : (s : Standing) (c : Request) (u : Until) (r : Answer Standing) → IsCrew s.state.own.crew → later s c u ≡ Some r → Leaves s r → StepsTo s c r
later_steps s c u r i h l = by (c.nr == 94) (c.nr == 93) (c.nr == 220) refl refl refl
  where
    never : later s c u ≡ None → StepsTo s c r
    never none = let odd : None ≡ Some r = sym none ∙ h in cc

    by : (x y z : Bool) → (c.nr == 94) ≡ x → (c.nr == 93) ≡ y → (c.nr == 220) ≡ z → StepsTo s c r
    by true y z p q n = never (of_none s c u call.ExitGroup (group_at c.nr (same c.nr 94 p)) (still_none _ s))
    by false true z p q n = never (of_none s c u call.Exit (exit_at c.nr (same c.nr 93 q)) (still_none _ s))
    by false false true p q n = never (of_none s c u call.Clone (clone_at c.nr (same c.nr 220 n)) (still_none _ s))
    by false false false p q n = (subst IsCrew (sym l.crew) i, subst (IsNew s.state.own.crew.live) (sym (not_made c.nr r.ret n)) tt, plain_live s c r l.crew p q n)

steps_of : (s : Standing) (c : Request) (u : Until) (o : Option (Answer Standing)) → later s c u ≡ o → IfSome o (Leaves s) → IsCrew s.state.own.crew → IsShaped c → StepsTo s c (or_own s c o)
steps_of s c u None e l i h = own_steps s c i h
steps_of s c u (Some r) e l i h = later_steps s c u r i e l

pub any_step : (s : Standing) (c : Request) (u : Until) → IsCrew s.state.own.crew → IsShaped c → Steps s c u
unfolding serve_by
any_step s c u i h =
    let p = steps_of s c u (later s c u) refl (later_leaves s c u) i h in
    record { is = p.0; new = p.1; live = p.2 }
