-- A thread that makes calls that do not end it lives on.
use Rattle.std.proofs.Common.{◌≡◌, ◌∙◌, sym, ap, subst, eq-eqb, ℕ, zero, Bool, true, false, List, [], ◌∷◌, ◌++◌, Option, Some, None, ◌⊎◌, inl, inr, refl, arith, cond}
use Rattle.std.specs.Prelude.{◌==◌, ◌||◌, not, filter, Contains}
use Rattle.std.proofs.lemmas.Bool.{eqb-true}
use Rattle.nv_room.specs.Lanes.{is_of}
use Rattle.std.proofs.lemmas.List.Elements.{Contains-append_left, Contains-push}
use Rattle.std.proofs.lemmas.Option.{same_Some}
use Rattle.std.proofs.lemmas.Bool.Decides.{nat_tests}
use Rattle.nv_calls.specs.Calls.{Entry}
use Rattle.nv_calls.specs.Logs.{child_of, with_child, live_after}
use Rattle.nv_calls.proofs.LogLaws.{live_more}
use Rattle.nv_room_tests.specs.Going.{GoesOn}

still : (live : List ℕ) (x : ℕ) (child : Option ℕ) → Contains live x → Contains (with_child live child) x
still live x None h = h
still live x (Some c) h = Contains-append_left live (c ∷ []) x h

by_test : (b94 b93 : Bool) (live : List ℕ) (t x : ℕ) (child : Option ℕ) → b94 ≡ false → b93 ≡ false → Contains live x → Contains (cond b94 [] (cond b93 (filter (λ u. not (u == t)) live) (with_child live child))) x
by_test true b93 live t x child a b h = cc
by_test false true live t x child a b h = cc
by_test false false live t x child a b h = still live x child h

no_test : (n k : ℕ) → (n ≡ k → ⊥) → (n == k) ≡ false
no_test n k h = grind (arith, nat_tests)

pub lives_on : (log : List Entry) (e : Entry) (x : ℕ) → GoesOn e.call → Contains (live_after log) x → Contains (live_after (log ++ e ∷ [])) x
lives_on log e x g h = subst (λ (z : List ℕ). Contains z x) (sym (live_more log e))
    (by_test (e.call.nr == 94) (e.call.nr == 93) (live_after log) e.call.tid x (child_of e) (no_test e.call.nr 94 g.0) (no_test e.call.nr 93 g.1) h)

pub first_lives : (log : List Entry) (x : ℕ) → log ≡ [] → x ≡ 100 → Contains (live_after log) x
first_lives log x e is = subst (λ (z : List Entry). Contains (live_after z) x) (sym e) (zero, omega arith, sym is)

-- exit_group ends all threads
pub all_end : (log : List Entry) (e : Entry) → e.call.nr ≡ 94 → live_after (log ++ e ∷ []) ≡ []
all_end log e is = live_more log e ∙ ap (λ (b : Bool). cond b [] (cond (e.call.nr == 93) (filter (λ u. not (u == e.call.tid)) (live_after log)) (with_child (live_after log) (child_of e)))) (eq-eqb e.call.nr 94 is)

-- the thread that a call makes lives after it
child_by_test : (b94 b93 : Bool) (live : List ℕ) (t x : ℕ) (child : Option ℕ) → b94 ≡ false → b93 ≡ false → child ≡ Some x → Contains (cond b94 [] (cond b93 (filter (λ u. not (u == t)) live) (with_child live child))) x
child_by_test true b93 live t x child a b is = cc
child_by_test false true live t x child a b is = cc
child_by_test false false live t x None a b is = cc
child_by_test false false live t x (Some c) a b is = subst (λ (z : ℕ). Contains (live ++ c ∷ []) z) (same_Some c x is) (Contains-push live c)

pub child_lives : (log : List Entry) (e : Entry) (x : ℕ) → GoesOn e.call → child_of e ≡ Some x → Contains (live_after (log ++ e ∷ [])) x
child_lives log e x g is = subst (λ (z : List ℕ). Contains z x) (sym (live_more log e))
    (child_by_test (e.call.nr == 94) (e.call.nr == 93) (live_after log) e.call.tid x (child_of e) (no_test e.call.nr 94 g.0) (no_test e.call.nr 93 g.1) is)

pub either : (a b : Bool) → (a || b) ≡ true → (a ≡ true) ⊎ (b ≡ true)
either true b h = inl refl
either false b h = inr h

pub made_of : (child : Option ℕ) (x : ℕ) → is_of x child ≡ true → child ≡ Some x
made_of None x h = cc
made_of (Some c) x h = ap Some (eqb-true c x h)
