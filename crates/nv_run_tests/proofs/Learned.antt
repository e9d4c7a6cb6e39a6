-- What is given answers the reads of the input in order, and what is given later changes no reply before.
use Rattle.std.proofs.Common.{◌≡◌, ◌∙◌, sym, ap, subst, refl, ℕ, zero, suc, ◌+◌, ◌<◌, ◌≤◌, Bool, true, false, ◌==◌, ◌&&◌, ◌||◌, not, List, [], ◌∷◌, ◌++◌, length, take, Option, Some, None, arith, append-nil, length-append}
use Rattle.std.specs.Prelude.{slice_get, slice_index, is_some, Contains, filter, if◌then◌else◌}
use Rattle.std.proofs.lemmas.Option.{same_Some}
use Rattle.std.proofs.lemmas.Bool.{and_parts}
use Rattle.std.proofs.lemmas.Bool.Decides.{nat_tests}
use Rattle.nv_calls.specs.declared.numbers.Syscall.{Syscall}
use Rattle.nv_calls.specs.declared.numbers.Syscall.TheVariants.{Clone, Read}
use Rattle.nv_calls.specs.Answers.{most_out_by}
use Rattle.nv_calls.specs.Calls.{Request, Response, Entry, status_of}
use Rattle.nv_calls.specs.Constants.{result_alone}
use Rattle.nv_calls.specs.Errors.{ENOSYS}
use Rattle.nv_calls.specs.Logs.{calls_of, live_after, live_next, made, child_of, with_child, IsNew, last_status, ended_after}
use Rattle.nv_calls.specs.Numbers.{syscall_of}
use Rattle.nv_calls.proofs.LogLaws.{live_more, status_more, take_whole}
use Rattle.nv_kernel.specs.Ends.{end_next}
use Rattle.nv_kernel.specs.Reserved.{most_out}
use Rattle.nv_calls.specs.Learning.{GoesOn}
use Rattle.nv_run_tests.specs.Given.{is_input, is_input_as, inputs, reply_with, given_at, answered, from_given, kept_list, IsNext, thing_of, left_of}
use Rattle.nv_run_tests.specs.inner.Sound.{live_if}

given_last : (front : List (Option ℕ)) (x : Option ℕ) → given_at (front ++ x ∷ []) (length front) ≡ x
given_last [] x = refl
given_last (y ∷ ys) x = given_last ys x

given_more : (xs more : List (Option ℕ)) (n : ℕ) → n < length xs → given_at (xs ++ more) n ≡ given_at xs n
given_more [] more n h = absurd (omega arith)
given_more (x ∷ xs) more zero h = refl
given_more (x ∷ xs) more (suc n) h = given_more xs more n (omega arith)

inputs_more : (cs : List Request) (c : Request) → inputs (cs ++ c ∷ []) ≡ inputs cs + (if is_input c then 1 else 0)
inputs_more [] c = omega arith
inputs_more (x ∷ xs) c = let r = inputs_more xs c in omega arith

calls_more : (log : List Entry) (e : Entry) → calls_of (log ++ e ∷ []) ≡ calls_of log ++ e.call ∷ []
calls_more [] e = refl
calls_more (x ∷ xs) e = ap (λ z. x.call ∷ z) (calls_more xs e)

inputs_before : (log : List Entry) (i : ℕ) (e : Entry) → slice_get log i ≡ Some e → is_input e.call ≡ true → inputs (calls_of (take i log)) < inputs (calls_of log)
inputs_before [] i e h t = cc
inputs_before (x ∷ xs) zero e h t = let s : is_input x.call ≡ true = ap (λ (z : Entry). is_input z.call) (same_Some x e h) ∙ t in rw s (omega arith)
inputs_before (x ∷ xs) (suc i) e h t = let r = inputs_before xs i e h t in omega arith

not_input : (thing : Option ℕ) (c : Request) → is_input c ≡ false → answered thing c ≡ result_alone ENOSYS
not_input thing c e = ap (λ (b : Bool). if b then reply_with thing else result_alone ENOSYS) e

answered_more : (given more : List (Option ℕ)) (n : ℕ) (c : Request) → (is_input c ≡ true → n < length given) → answered (given_at (given ++ more) n) c ≡ answered (given_at given n) c
answered_more given more n c h = by (is_input c) refl where
  by : (b : Bool) → is_input c ≡ b → answered (given_at (given ++ more) n) c ≡ answered (given_at given n) c
  by true e = ap (λ (t : Option ℕ). answered t c) (given_more given more n (h e))
  by false e = not_input (given_at (given ++ more) n) c e ∙ sym (not_input (given_at given n) c e)

few_used : (given : List (Option ℕ)) (used : ℕ) (kept : Option (Option ℕ)) → IsNext given used kept → used ≤ length given
few_used given used kept next = omega (arith, ap (λ (g : List (Option ℕ)). length g) next.is, length-append (take used given) (kept_list kept), next.count)

-- a reserve that has taken more goes on as it was
pub goes_on : (log : List Entry) (given more : List (Option ℕ)) (kept : Option (Option ℕ)) → IsNext given (inputs (calls_of log)) kept → GoesOn log (from_given given) (from_given (given ++ more))
goes_on log given more kept next = record {
  events = λ i e h.
      let few = few_used given (inputs (calls_of log)) kept next in
      ap (λ (r : Response). record { stamp = length (take i log); call = e.call; reply = r })
      (answered_more given more (inputs (calls_of (take i log))) e.call (λ t. let b = inputs_before log i e h t in omega arith));
  console = λ i. refl;
  connections = λ i. refl;
}

thing_is : (given : List (Option ℕ)) (used : ℕ) (kept : Option (Option ℕ)) → IsNext given used kept → is_some kept ≡ true → given_at given used ≡ thing_of kept
thing_is given used None next h = cc
thing_is given used (Some x) next h =
    ap (λ (g : List (Option ℕ)). given_at g used) next.is ∙ (ap (given_at (take used given ++ x ∷ [])) (sym next.count) ∙ given_last (take used given) x)

-- what a call becomes
pub served_is : (log : List Entry) (given : List (Option ℕ)) (kept : Option (Option ℕ)) (c : Request) → IsNext given (inputs (calls_of log)) kept → (is_input c ≡ true → is_some kept ≡ true)
    → answered (thing_of kept) c ≡ answered (given_at given (inputs (calls_of log))) c
served_is log given kept c next ready = by (is_input c) refl where
  by : (b : Bool) → is_input c ≡ b → answered (thing_of kept) c ≡ answered (given_at given (inputs (calls_of log))) c
  by true e = ap (λ (t : Option ℕ). answered t c) (sym (thing_is given (inputs (calls_of log)) kept next (ready e)))
  by false e = not_input (thing_of kept) c e ∙ sym (not_input (given_at given (inputs (calls_of log))) c e)

-- by what was handed in
pub next_of : (given front : List (Option ℕ)) (used : ℕ) (kept : Option (Option ℕ)) → given ≡ front ++ kept_list kept → length front ≡ used → IsNext given used kept
next_of given front used kept is count =
    let first : take used given ≡ front = ap (λ (n : ℕ). take n given) (sym count) ∙ (ap (take (length front)) is ∙ take_whole front (kept_list kept)) in
    record { is = is ∙ ap (λ (f : List (Option ℕ)). f ++ kept_list kept) (sym first); count = ap (λ (f : List (Option ℕ)). length f) first ∙ count }

next_by : (given : List (Option ℕ)) (used : ℕ) (kept : Option (Option ℕ)) (b : Bool) → IsNext given used kept → (b ≡ true → is_some kept ≡ true)
    → IsNext given (used + (if b then 1 else 0)) (if b then None else kept)
next_by given used kept false next ready = next_of given (take used given) (used + 0) kept next.is (omega (arith, next.count))
next_by given used None true next ready = let h = ready refl in cc
next_by given used (Some x) true next ready =
    next_of given (take used given ++ x ∷ []) (used + 1) None (next.is ∙ sym (append-nil (take used given ++ x ∷ []))) (omega (arith, next.count, length-append (take used given) (x ∷ [])))

-- what is kept after a call
pub next_served : (log : List Entry) (given : List (Option ℕ)) (kept : Option (Option ℕ)) (e : Entry) → IsNext given (inputs (calls_of log)) kept → (is_input e.call ≡ true → is_some kept ≡ true)
    → IsNext given (inputs (calls_of (log ++ e ∷ []))) (left_of kept e.call)
next_served log given kept e next ready =
    subst (λ (n : ℕ). IsNext given n (left_of kept e.call)) (sym (ap inputs (calls_more log e) ∙ inputs_more (calls_of log) e.call))
    (next_by given (inputs (calls_of log)) kept (is_input e.call) next ready)

-- Threads

clone_is : syscall_of 220 ≡ Clone
unfolding syscall_of
clone_is = refl

no_clone : (c : Request) → is_input c ≡ true → (c.nr == 220) ≡ true → true ≡ false
no_clone c h e =
    let n : c.nr ≡ 220 = grind (arith, nat_tests) in
    sym h ∙ (ap (λ (m : ℕ). is_input_as (syscall_of m) c) n ∙ ap (λ (k : Syscall). is_input_as k c) clone_is)

zero_made : (b : Bool) → ◌≡◌ {A = Option ℕ} (if b && false then Some 0 else None) None
zero_made true = refl
zero_made false = refl

reply_made : (t : Option ℕ) (c : Request) → (c.nr == 220) ≡ false → made c.nr (reply_with t).ret ≡ None
reply_made None c e = zero_made (c.nr == 220)
reply_made (Some x) c e = ap none_by e where
  none_by : Bool → Option ℕ
  none_by b = if b && true then Some 1 else None

-- no reply makes a thread
pub none_made : (thing : Option ℕ) (c : Request) → made c.nr (answered thing c).ret ≡ None
none_made thing c = by (is_input c) refl (c.nr == 220) refl where
  by : (b : Bool) → is_input c ≡ b → (d : Bool) → (c.nr == 220) ≡ d → made c.nr (answered thing c).ret ≡ None
  by false e d f = ap (λ (r : Response). made c.nr r.ret) (not_input thing c e)
  by true e true f = let z = no_clone c e f in cc
  by true e false f = ap (λ (b : Bool). made c.nr (if b then reply_with thing else result_alone ENOSYS).ret) e ∙ reply_made thing c f

-- Who calls is the first thread, which lives
alone : (over : Bool) (tid : ℕ) → Contains (live_if over) tid → (over ≡ false) × (tid ≡ 100)
alone true tid c = let below = c.1 in absurd (omega arith)
alone false tid (zero, below, is) = (refl, sym is)
alone false tid (suc k, below, is) = absurd (omega arith)

next_if : (g e : Bool) (tid : ℕ) → tid ≡ 100 → (if g then [] else if e then filter (λ t. not (t == tid)) (100 ∷ []) else 100 ∷ []) ≡ live_if (e || g)
next_if true true tid h = refl
next_if true false tid h = refl
next_if false true tid h = ap (λ (n : ℕ). filter (λ t. not (t == n)) (100 ∷ [])) h
next_if false false tid h = refl

-- whether a thread lives after a call
pub live_served : (log : List Entry) (e : Entry) (over : Bool) → live_after log ≡ live_if over → Contains (live_after log) e.call.tid → child_of e ≡ None
    → live_after (log ++ e ∷ []) ≡ live_if ((e.call.nr == 93) || (e.call.nr == 94))
live_served log e over is lives none =
    let a = alone over e.call.tid (subst (λ (l : List ℕ). Contains l e.call.tid) is lives) in
    let here : live_after log ≡ 100 ∷ [] = is ∙ ap live_if a.0 in
    live_more log e ∙ (ap (λ (l : List ℕ). live_next l e) here
    ∙ (ap (λ (o : Option ℕ). if e.call.nr == 94 then [] else if e.call.nr == 93 then filter (λ t. not (t == e.call.tid)) (100 ∷ []) else with_child (100 ∷ []) o) none
    ∙ next_if (e.call.nr == 94) (e.call.nr == 93) e.call.tid a.1))

pub none_new : (live : List ℕ) (o : Option ℕ) → o ≡ None → IsNew live o
none_new live None h = tt
none_new live (Some x) h = cc

if_over : (over : Bool) (status : ℕ) → (if over then Some status else None) ≡ (if length (live_if over) == 0 then Some status else None)
if_over true status = refl
if_over false status = refl

-- the exit status after a call
pub end_served : (log : List Entry) (e : Entry) (over : Bool) → live_after (log ++ e ∷ []) ≡ live_if over → end_next over e.call ≡ ended_after (log ++ e ∷ [])
end_served log e over live =
    if_over over (status_of e.call) ∙ ap (λ (n : ℕ). if length (live_if over) == 0 then Some n else None) (sym (status_more log e))
    ∙ ap (λ (l : List ℕ). if length l == 0 then Some (last_status (log ++ e ∷ [])) else None) (sym live)

not_true : (b : Bool) → not b ≡ true → b ≡ false
not_true true h = cc
not_true false h = refl

few_as : (k : Syscall) (c : Request) → is_input_as k c ≡ true → 1 ≤ most_out_by k c.args
few_as Read c h =
    let p = and_parts (slice_index c.args 0 == 0) _ h in
    let q = and_parts (not c.bad) _ p.1 in
    let some : (slice_index c.args 2 == 0) ≡ false = not_true (slice_index c.args 2 == 0) q.1 in
    let big : 1 ≤ slice_index c.args 2 = grind (arith, nat_tests) in
    omega arith
few_as _ c h = cc

-- no reply hands out more bytes than a call of its kind
pub answered_few : (thing : Option ℕ) (c : Request) → length (answered thing c).payload ≤ most_out c
answered_few thing c = by (is_input c) refl where
  few : (t : Option ℕ) → length (reply_with t).payload ≤ 1
  few None = omega arith
  few (Some x) = omega arith

  by : (b : Bool) → is_input c ≡ b → length (answered thing c).payload ≤ most_out c
  by true e =
      let r : length (answered thing c).payload ≡ length (reply_with thing).payload = ap (λ (b : Bool). length (if b then reply_with thing else result_alone ENOSYS).payload) e in
      omega (arith, r, few thing, few_as (syscall_of c.nr) c e)
  by false e = let r = ap (λ (x : Response). length x.payload) (not_input thing c e) in omega (arith, r)
