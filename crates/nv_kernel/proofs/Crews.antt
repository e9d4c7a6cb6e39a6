-- The threads that live, from call to call.
use Rattle.std.proofs.Common.{◌≡◌, ◌∙◌, sym, ap, subst, refl, ℕ, ◌+◌, ◌≤◌, ℤ, pos, Bool, true, false, cond, ◌==◌, not, nat_lt, List, [], ◌∷◌, length, Option, None, arith}
use Rattle.std.specs.Prelude.{slice_index, filter}
use Rattle.std.proofs.lemmas.Bool.Decides.{nat_tests}
use Rattle.nv_calls.specs.declared.numbers.Syscall.{Syscall}
use Rattle.nv_calls.specs.declared.numbers.Syscall.TheVariants.{Ioctl, Readv, Writev, Clone, Exit, ExitGroup, ClockGettime64}
use Rattle.nv_calls.specs.Errors.{EFAULT}
use Rattle.nv_calls.specs.Answer.{Answer, only, state_after}
use Rattle.nv_calls.specs.Calls.{Request}
use Rattle.nv_calls.specs.Numbers.{syscall_of, has_range}
use Rattle.nv_calls.specs.Shapes.{IsShaped}
use Rattle.nv_calls.specs.Logs.{made, with_child, IsNew}
use Rattle.nv_fs.specs.States.{is_open}
use Rattle.nv_kernel.specs.Crew.{Crew, IsCrew, clone_as, may_clone}
use Rattle.nv_kernel.proofs.CrewLaws.{clone_crew, exit_crew, clone_new}
use Rattle.nv_kernel.proofs.ReplyLaws.{good}
use Rattle.nv_kernel.specs.Serving.{State, counted, answered, serve}
use Rattle.nv_kernel.proofs.Going.{not_made}

-- a call that makes or ends threads
abbrev is_thread : Syscall → Bool
is_thread Clone = true
is_thread Exit = true
is_thread ExitGroup = true
is_thread _ = false

crew_by : (b : Bool) (x y : Answer State) (w : Crew) → x.state.crew ≡ w → y.state.crew ≡ w → (cond b x y).state.crew ≡ w
crew_by true x y w p q = p
crew_by false x y w p q = q

-- no other call changes the threads that live
crew_as : (k : Syscall) (s : State) (c : Request) → is_thread k ≡ false → (answered k s c).state.crew ≡ s.crew
crew_as Ioctl s c h = crew_by (is_open s.files (slice_index c.args 0)) _ _ s.crew refl refl
crew_as Readv s c h = crew_by (nat_lt 1024 (slice_index c.args 2)) _ _ s.crew refl refl
crew_as Writev s c h = crew_by (nat_lt 1024 (slice_index c.args 2)) _ _ s.crew refl refl
crew_as ClockGettime64 s c h = crew_by (nat_lt 1 (slice_index c.args 0)) _ _ s.crew refl refl
crew_as Clone s c h = cc
crew_as Exit s c h = cc
crew_as ExitGroup s c h = cc
crew_as _ s c h = refl

few_clones : (s : Crew) (a b : Bool) → (clone_as s a b).1.clones ≤ s.clones + 1
few_clones s false b = omega arith
few_clones s true true = omega arith
few_clones s true false = omega arith

few_as : (k : Syscall) (s : State) (c : Request) → (answered k s c).state.crew.clones ≤ s.crew.clones + 1
few_as Clone s c = few_clones s.crew (may_clone (slice_index c.args 0)) (not (nat_lt (length s.crew.live) 8))
few_as Exit s c = omega arith
few_as ExitGroup s c = omega arith
few_as k s c = more (crew_as k s c refl)
  where
    more : {x : Crew} → x ≡ s.crew → x.clones ≤ s.crew.clones + 1
    more h = let e = ap (λ (z : Crew). z.clones) h in omega (arith, e)

few_by : (b : Bool) (x y : Answer State) (n : ℕ) → x.state.crew.clones ≤ n → y.state.crew.clones ≤ n → (cond b x y).state.crew.clones ≤ n
few_by true x y n p q = p
few_by false x y n p q = q

few_more : (s : State) (c : Request) → (serve s c).state.crew.clones ≤ s.crew.clones + 1
unfolding serve
few_more s c = few_by c.bad (only s EFAULT) (answered (syscall_of c.nr) s c) (s.crew.clones + 1) (omega arith) (few_as (syscall_of c.nr) s c)

-- no more clones succeeded than calls were served
pub few_clones_after : (s : State) (cs : List Request) → (state_after serve s cs).crew.clones ≤ s.crew.clones + length cs
few_clones_after s [] = omega arith
few_clones_after s (c ∷ cs) = let h = few_clones_after (serve s c).state cs in let k = few_more s c in omega (arith, h, k)

served_as : (s : State) (c : Request) (k : Syscall) → IsShaped c → syscall_of c.nr ≡ k → has_range k ≡ false → serve s c ≡ counted (answered k s c)
unfolding serve
served_as s c k h e r =
    ap (λ (z : Syscall). counted (cond c.bad (only s EFAULT) (answered z s c))) e
    ∙ ap (λ (b : Bool). counted (cond b (only s EFAULT) (answered k s c))) (good c k h e r)

clone_at : (nr : ℕ) → nr ≡ 220 → syscall_of nr ≡ Clone
unfolding syscall_of
clone_at nr h = ap syscall_of h

exit_at : (nr : ℕ) → nr ≡ 93 → syscall_of nr ≡ Exit
unfolding syscall_of
exit_at nr h = ap syscall_of h

group_at : (nr : ℕ) → nr ≡ 94 → syscall_of nr ≡ ExitGroup
unfolding syscall_of
group_at nr h = ap syscall_of h

other : (b : Bool) (k l : Syscall) → is_thread k ≡ false → is_thread l ≡ false → is_thread (cond b k l) ≡ false
other true k l p q = p
other false k l p q = q

apart : (b : Bool) (k l : Syscall) → b ≡ false → is_thread l ≡ false → is_thread (cond b k l) ≡ false
apart true k l p q = cc
apart false k l p q = q

-- no other number is such a call's
other_at : (nr : ℕ) → (nr == 94) ≡ false → (nr == 93) ≡ false → (nr == 220) ≡ false → is_thread (syscall_of nr) ≡ false
unfolding syscall_of
other_at nr p q r =
    let o = λ (n : ℕ) (k l : Syscall) (i : is_thread k ≡ false) (j : is_thread l ≡ false). other (nr == n) k l i j in
    o 17 _ _ refl (o 23 _ _ refl (o 24 _ _ refl (o 25 _ _ refl (o 29 _ _ refl (o 35 _ _ refl (o 56 _ _ refl (o 57 _ _ refl (o 59 _ _ refl
    (o 62 _ _ refl (o 63 _ _ refl (o 64 _ _ refl (o 65 _ _ refl (o 66 _ _ refl
    (apart (nr == 93) _ _ q (apart (nr == 94) _ _ p
    (o 160 _ _ refl (o 172 _ _ refl (o 173 _ _ refl (o 174 _ _ refl (o 175 _ _ refl (o 176 _ _ refl (o 177 _ _ refl
    (o 198 _ _ refl (o 200 _ _ refl (o 201 _ _ refl (o 202 _ _ refl
    (apart (nr == 220) _ _ r (o 242 _ _ refl (o 278 _ _ refl (o 403 _ _ refl (o 407 _ _ refl (o 413 _ _ refl (o 414 _ _ refl refl)))))))))))))))))))))))))))))))))

-- the threads that live after a call, as the log has it
abbrev pub live_by : ℕ → ℕ → List ℕ → ℤ → List ℕ
live_by nr tid live ret = cond (nr == 94) [] (cond (nr == 93) (filter (λ t. not (t == tid)) live) (with_child live (made nr ret)))

-- what a call leaves of the threads that live
pub record CrewStep (s : State) (c : Request) (r : Answer State) : Type 0 where
  pub is : IsCrew r.state.crew
  pub new : IsNew s.crew.live (made c.nr r.ret)
  pub live : r.state.crew.live ≡ live_by c.nr c.tid s.crew.live r.ret

same : (m n : ℕ) → (m == n) ≡ true → m ≡ n
same m n t = grind (arith, nat_tests)

none_of : (live : List ℕ) (m : Option ℕ) → m ≡ None → IsNew live m
none_of live m h = subst (IsNew live) (sym h) tt

group_step : (s : State) (c : Request) → c.nr ≡ 94 → CrewStep s c (counted (answered ExitGroup s c))
group_step s c h = record {
  is = λ t q. absurd (omega (arith, q.1));
  new = none_of s.crew.live _ (ap (λ n. made n (pos 0)) h);
  live = ap (λ n. live_by n c.tid s.crew.live (pos 0)) (sym h);
}

exit_step : (s : State) (c : Request) → IsCrew s.crew → c.nr ≡ 93 → CrewStep s c (counted (answered Exit s c))
exit_step s c i h = record {
  is = exit_crew s.crew c.tid i;
  new = none_of s.crew.live _ (ap (λ n. made n (pos 0)) h);
  live = ap (λ n. live_by n c.tid s.crew.live (pos 0)) (sym h);
}

at : (nr tid : ℕ) (live : List ℕ) (ret : ℤ) → nr ≡ 220 → with_child live (made nr ret) ≡ live_by nr tid live ret
at nr tid live ret h = subst (λ n. with_child live (made n ret) ≡ live_by n tid live ret) (sym h) refl

clone_step : (s : State) (c : Request) → IsCrew s.crew → c.nr ≡ 220 → CrewStep s c (counted (answered Clone s c))
clone_step s c i h =
    let a : Bool = may_clone (slice_index c.args 0) in
    let b : Bool = not (nat_lt (length s.crew.live) 8) in
    let new = clone_new s.crew a b c.nr h refl i in
    record {
      is = clone_crew s.crew a b i;
      new = new.0;
      live = new.1 ∙ at c.nr c.tid s.crew.live (clone_as s.crew a b).0 h;
    }

-- a call that makes and ends no thread
plain_step : (s : State) (c : Request) (r : Answer State) → IsCrew s.crew → r.state.crew ≡ s.crew → (c.nr == 94) ≡ false → (c.nr == 93) ≡ false → (c.nr == 220) ≡ false → CrewStep s c r
plain_step s c r i e p q n =
    let none = not_made c.nr r.ret n in
    record {
      is = subst IsCrew (sym e) i;
      new = none_of s.crew.live _ none;
      live = ap (λ (z : Crew). z.live) e ∙ sym (ap (λ b. cond b [] (cond (c.nr == 93) (filter (λ t. not (t == c.tid)) s.crew.live) (with_child s.crew.live (made c.nr r.ret)))) p
          ∙ ap (λ b. cond b (filter (λ t. not (t == c.tid)) s.crew.live) (with_child s.crew.live (made c.nr r.ret))) q ∙ ap (with_child s.crew.live) none);
    }

plain_served : (s : State) (c : Request) → is_thread (syscall_of c.nr) ≡ false → (serve s c).state.crew ≡ s.crew
unfolding serve
plain_served s c h = crew_by c.bad (only s EFAULT) (answered (syscall_of c.nr) s c) s.crew refl (crew_as (syscall_of c.nr) s c h)

pub crew_step : (s : State) (c : Request) → IsCrew s.crew → IsShaped c → CrewStep s c (serve s c)
crew_step s c i h = by (c.nr == 94) (c.nr == 93) (c.nr == 220) refl refl refl
  where
    by : (x y z : Bool) → (c.nr == 94) ≡ x → (c.nr == 93) ≡ y → (c.nr == 220) ≡ z → CrewStep s c (serve s c)
    by true y z p q n = let e = same c.nr 94 p in subst (CrewStep s c) (sym (served_as s c ExitGroup h (group_at c.nr e) refl)) (group_step s c e)
    by false true z p q n = let e = same c.nr 93 q in subst (CrewStep s c) (sym (served_as s c Exit h (exit_at c.nr e) refl)) (exit_step s c i e)
    by false false true p q n = let e = same c.nr 220 n in subst (CrewStep s c) (sym (served_as s c Clone h (clone_at c.nr e) refl)) (clone_step s c i e)
    by false false false p q n = plain_step s c (serve s c) i (plain_served s c (other_at c.nr p q n)) p q n
