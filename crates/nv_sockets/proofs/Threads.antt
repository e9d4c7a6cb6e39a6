-- The threads that live, from call to call: sockets make and end none.
use Rattle.std.proofs.Common.{◌≡◌, ◌∙◌, sym, ap, subst, refl, ℕ, ℤ, Bool, true, false, cond, ◌==◌, not, List, [], Option, None, arith}
use Rattle.std.specs.Prelude.{filter}
use Rattle.std.proofs.lemmas.Bool.Decides.{nat_tests}
use Rattle.nv_calls.specs.declared.numbers.Syscall.{Syscall}
use Rattle.nv_calls.specs.declared.numbers.Syscall.TheVariants.{Clone}
use Rattle.nv_calls.specs.Answer.{Answer}
use Rattle.nv_calls.specs.Calls.{Request}
use Rattle.nv_calls.specs.Logs.{made, with_child, IsNew}
use Rattle.nv_calls.specs.Numbers.{syscall_of}
use Rattle.nv_calls.specs.Shapes.{IsShaped}
use Rattle.nv_kernel.specs.Crew.{IsCrew}
use Rattle.nv_kernel.specs.Serving as kernel
use Rattle.nv_kernel.proofs.Crews.{live_by, crew_step}
use Rattle.nv_kernel.proofs.Going.{not_made}
use Rattle.nv_sockets.specs.Sockets.{Net}
use Rattle.nv_sockets.specs.Serving.{State, answered, unless_bad, or_own, serve}
use Rattle.nv_sockets.proofs.Going.{own_next}

same : (m n : ℕ) → (m == n) ≡ true → m ≡ n
same m n t = grind (arith, nat_tests)

clone_at : (nr : ℕ) → nr ≡ 220 → syscall_of nr ≡ Clone
unfolding syscall_of
clone_at nr h = ap syscall_of h

none_by : (b : Bool) (net : Net) (c : Request) → cond {A = Option (Answer Net)} b None (answered Clone net c) ≡ None
none_by true net c = refl
none_by false net c = refl

-- no socket answers a clone
no_socket : (net : Net) (c : Request) → c.nr ≡ 220 → unless_bad net c ≡ None
no_socket net c h = ap (λ (k : Syscall). cond {A = Option (Answer Net)} c.bad None (answered k net c)) (clone_at c.nr h) ∙ none_by c.bad net c

-- so a thread is made exactly where it is without sockets
made_by : (net : Net) (c : Request) (ret : ℤ) (bytes : List ℕ) (b : Bool) → (c.nr == 220) ≡ b → made c.nr (or_own net ret bytes (unless_bad net c)).ret ≡ made c.nr ret
made_by net c ret bytes true h = ap (λ (o : Option (Answer Net)). made c.nr (or_own net ret bytes o).ret) (no_socket net c (same c.nr 220 h))
made_by net c ret bytes false h = not_made c.nr (or_own net ret bytes (unless_bad net c)).ret h ∙ sym (not_made c.nr ret h)

made_same : (s : State) (c : Request) → made c.nr (serve s c).ret ≡ made c.nr (kernel.serve s.own c).ret
unfolding serve
made_same s c = made_by s.net c (kernel.serve s.own c).ret (kernel.serve s.own c).payload (c.nr == 220) refl

-- what a call leaves of the threads that live
pub record ThreadStep (s : State) (c : Request) : Type 0 where
  pub is : IsCrew (serve s c).state.own.crew
  pub new : IsNew s.own.crew.live (made c.nr (serve s c).ret)
  pub live : (serve s c).state.own.crew.live ≡ live_by c.nr c.tid s.own.crew.live (serve s c).ret

pub thread_step : (s : State) (c : Request) → IsCrew s.own.crew → IsShaped c → ThreadStep s c
thread_step s c i h =
    let k = crew_step s.own c i h in
    let live = s.own.crew.live in
    record {
      is = subst (λ (z : kernel.State). IsCrew z.crew) (sym (own_next s c)) k.is;
      new = subst (IsNew live) (sym (made_same s c)) k.new;
      live = ap (λ (z : kernel.State). z.crew.live) (own_next s c) ∙ k.live
          ∙ sym (ap (λ (m : Option ℕ). cond {A = List ℕ} (c.nr == 94) [] (cond (c.nr == 93) (filter (λ t. not (t == c.tid)) live) (with_child live m))) (made_same s c));
    }
