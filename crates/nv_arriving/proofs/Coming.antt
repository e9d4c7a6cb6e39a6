-- What comes later changes nothing of calls none of which waited in vain; and where nothing comes, all is as it was.
use Rattle.std.proofs.Common.{◌≡◌, ◌∙◌, sym, ap, subst, refl, ℕ, zero, suc, ◌≤◌, Bool, true, false, not, ◌&&◌, ◌||◌, List, [], ◌∷◌, ◌++◌, length, take, drop, map, Option, Some, None, arith}
use Rattle.std.specs.Prelude.{slice_get, if◌then◌else◌}
use Rattle.std.proofs.lemmas.Option.{same_Some}
use Rattle.nv_calls.specs.Answer.{reply_of, state_after, start_at}
use Rattle.nv_calls.specs.Calls.{Request, Entry}
use Rattle.nv_calls.specs.Logs.{Start, calls_of}
use Rattle.nv_calls.specs.Numbers.{syscall_of}
use Rattle.nv_script.specs.Scripts.{Setup}
use Rattle.nv_calls.specs.Learning.{GoesOn}
use Rattle.nv_sockets.specs.Serving as sockets
use Rattle.nv_sockets.specs.Serving.{State, serve, start_of_script, first_state}
use Rattle.nv_script.specs.Arrivals.{Arrival}
use Rattle.nv_arriving.specs.Arrivals.{any_ends, until, taken_for, in_vain}
use Rattle.nv_arriving.specs.Arriving.{Standing, Stage, wait_of, arrive_all, with_end, unless_vain, taken, ready_for, with_state, later, later_as, nonblocking_by, noted, or_own, serve_by, answer_next, serve_next, Satisfied, first_standing, first_stage, start_of_arrivals}
use Rattle.nv_arriving.specs.Timing.{until_of}
use Rattle.nv_arriving.specs.declared.timing.Until.{Until}

-- ---- what comes later

until_by : (w : Arrival → Bool) (a : Arrival) (xs more : List Arrival) (b : Bool) → w a ≡ b → (w a || any_ends w xs) ≡ true
    → (any_ends w xs ≡ true → until w (xs ++ more) ≡ until w xs) → until w (a ∷ (xs ++ more)) ≡ until w (a ∷ xs)
until_by w a xs more true e h next = ap (λ (z : Bool). if z then 1 else suc (until w (xs ++ more))) e ∙ sym (ap (λ (z : Bool). if z then 1 else suc (until w xs)) e)
until_by w a xs more false e h next =
    ap (λ (z : Bool). if z then 1 else suc (until w (xs ++ more))) e ∙ (ap suc (next (sym (ap (λ (z : Bool). z || any_ends w xs) e) ∙ h)) ∙ sym (ap (λ (z : Bool). if z then 1 else suc (until w xs)) e))

until_more : (w : Arrival → Bool) (xs more : List Arrival) → any_ends w xs ≡ true → until w (xs ++ more) ≡ until w xs
until_more w [] more h = cc
until_more w (a ∷ xs) more h = until_by w a xs more (w a) refl h (until_more w xs more)

one_or : (b : Bool) (m n : ℕ) → m ≤ n → (if b then 1 else suc m) ≤ suc n
one_or true m n h = omega arith
one_or false m n h = omega (arith, h)

pub until_few : (w : Arrival → Bool) (xs : List Arrival) → until w xs ≤ length xs
until_few w [] = omega arith
until_few w (a ∷ xs) = one_or (w a) (until w xs) (length xs) (until_few w xs)

pub taken_few : (o : Option (Arrival → Bool)) (xs : List Arrival) → taken_for o xs ≤ length xs
taken_few None xs = omega arith
taken_few (Some w) xs = until_few w xs

not_vain : (b : Bool) → (if b then false else true) ≡ false → b ≡ true
not_vain true h = refl
not_vain false h = cc

pub taken_more : (o : Option (Arrival → Bool)) (xs more : List Arrival) → in_vain o xs ≡ false → taken_for o (xs ++ more) ≡ taken_for o xs
taken_more None xs more h = refl
taken_more (Some w) xs more h = until_more w xs more (not_vain (any_ends w xs) h)

pub take_front : {A : Type 0} (n : ℕ) (xs more : List A) → n ≤ length xs → take n (xs ++ more) ≡ take n xs
take_front zero xs more h = refl
take_front (suc n) [] more h = absurd (omega arith)
take_front (suc n) (a ∷ xs) more h = ap (λ z. a ∷ z) (take_front n xs more (omega arith))

pub drop_front : {A : Type 0} (n : ℕ) (xs more : List A) → n ≤ length xs → drop n (xs ++ more) ≡ drop n xs ++ more
drop_front zero xs more h = refl
drop_front (suc n) [] more h = absurd (omega arith)
drop_front (suc n) (a ∷ xs) more h = drop_front n xs more (omega arith)

-- more is to come
abbrev pub with_more : Stage → List Arrival → Stage
with_more g more = record { here = g.here; rest = g.rest ++ more }

any_by : (b x y : Bool) → (x ≡ true → y ≡ true) → (b || x) ≡ true → (b || y) ≡ true
any_by true x y h k = refl
any_by false x y h k = h k

pub any_more : (w : Arrival → Bool) (xs more : List Arrival) → any_ends w xs ≡ true → any_ends w (xs ++ more) ≡ true
any_more w [] more h = cc
any_more w (a ∷ xs) more h = any_by (w a) (any_ends w xs) (any_ends w (xs ++ more)) (any_more w xs more) h

vain_more : (o : Option (Arrival → Bool)) (xs more : List Arrival) → in_vain o xs ≡ false → in_vain o (xs ++ more) ≡ false
vain_more None xs more k = refl
vain_more (Some w) xs more k = ap (λ (b : Bool). if b then false else true) (any_more w xs more (not_vain (any_ends w xs) k))

pub ready_more : (g : Stage) (more : List Arrival) (c : Request) → in_vain (wait_of g.here c) g.rest ≡ false → ready_for (with_more g more) c ≡ ready_for g c
ready_more g more c h =
    ap (λ (v : Bool). unless_vain v (arrive_all g.here (take (taken (with_more g more) c) (g.rest ++ more)))) (vain_more (wait_of g.here c) g.rest more h)
    ∙ (ap (λ (n : ℕ). arrive_all g.here (take n (g.rest ++ more))) (taken_more (wait_of g.here c) g.rest more h)
    ∙ (ap (arrive_all g.here) (take_front (taken g c) g.rest more (taken_few (wait_of g.here c) g.rest))
    ∙ ap (λ (v : Bool). unless_vain v (arrive_all g.here (take (taken g c) g.rest))) (sym h)))

answer_more : (g : Stage) (more : List Arrival) (c : Request) → in_vain (wait_of g.here c) g.rest ≡ false → answer_next (with_more g more) c ≡ answer_next g c
answer_more g more c h = ap (λ (s : Standing). serve_by s c (until_of g.here c)) (ready_more g more c h)

pub next_more : (g : Stage) (more : List Arrival) (c : Request) → in_vain (wait_of g.here c) g.rest ≡ false → (serve_next (with_more g more) c).state ≡ with_more (serve_next g c).state more
next_more g more c h =
    let r = ready_more g more c h in
    let d : drop (taken (with_more g more) c) (g.rest ++ more) ≡ drop (taken g c) g.rest ++ more =
    ap (λ (n : ℕ). drop n (g.rest ++ more)) (taken_more (wait_of g.here c) g.rest more h) ∙ drop_front (taken g c) g.rest more (taken_few (wait_of g.here c) g.rest) in
    λ i. record { here = (serve_by (r i) c (until_of g.here c)).state; rest = d i }

-- calls that all had what they waited for
pub after_more : (g : Stage) (more : List Arrival) (cs : List Request) → Satisfied g cs → state_after serve_next (with_more g more) cs ≡ with_more (state_after serve_next g cs) more
after_more g more [] h = refl
after_more g more (c ∷ cs) h = ap (λ (z : Stage). state_after serve_next z cs) (next_more g more c h.0) ∙ after_more (serve_next g c).state more cs h.1

pub satisfied_last : (g : Stage) (cs : List Request) (c : Request) → Satisfied g cs → in_vain (wait_of (state_after serve_next g cs).here c) (state_after serve_next g cs).rest ≡ false → Satisfied g (cs ++ c ∷ [])
satisfied_last g [] c h k = (k, tt)
satisfied_last g (d ∷ cs) c h k = (h.0, satisfied_last (serve_next g d).state cs c h.1 k)

-- the calls stay satisfied
pub satisfied_more : (g : Stage) (more : List Arrival) (cs : List Request) → Satisfied g cs → Satisfied (with_more g more) cs
satisfied_more g more [] h = tt
satisfied_more g more (c ∷ cs) h =
    (vain_more (wait_of g.here c) g.rest more h.0, subst (λ (z : Stage). Satisfied z cs) (sym (next_more g more c h.0)) (satisfied_more (serve_next g c).state more cs h.1))

-- ---- at each front

pub satisfied_front : (g : Stage) (log : List Entry) (i : ℕ) → Satisfied g (calls_of log) → Satisfied g (calls_of (take i log))
satisfied_front g log zero h = tt
satisfied_front g [] (suc i) h = tt
satisfied_front g (e ∷ log) (suc i) h = (h.0, satisfied_front (serve_next g e.call).state log i h.1)

satisfied_at : (g : Stage) (log : List Entry) (i : ℕ) (e : Entry) → Satisfied g (calls_of log) → slice_get log i ≡ Some e
    → in_vain (wait_of (state_after serve_next g (calls_of (take i log))).here e.call) (state_after serve_next g (calls_of (take i log))).rest ≡ false
satisfied_at g [] i e h f = cc
satisfied_at g (x ∷ log) zero e h f = subst (λ (z : Entry). in_vain (wait_of g.here z.call) g.rest ≡ false) (same_Some x e f) h.0
satisfied_at g (x ∷ log) (suc i) e h f = satisfied_at (serve_next g x.call).state log i e h.1 f

-- how a kernel goes on from a stage
abbrev start_of : Stage → Start
start_of g = start_at serve_next (λ (z : Stage). z.here.state.own.files.console) (λ (z : Stage). map sockets.link_written z.here.state.net.links) g

-- a kernel of which no call waited in vain goes on as it was where more comes
goes_on_at : (g : Stage) (more : List Arrival) (log : List Entry) → Satisfied g (calls_of log) → GoesOn log (start_of g) (start_of (with_more g more))
goes_on_at g more log h = record {
  events = λ i e f.
      let front = calls_of (take i log) in
      let s = satisfied_front g log i h in
      let a : answer_next (state_after serve_next (with_more g more) front) e.call ≡ answer_next (state_after serve_next g front) e.call =
      ap (λ (z : Stage). answer_next z e.call) (after_more g more front s) ∙ answer_more (state_after serve_next g front) more e.call (satisfied_at g log i e h f) in
      λ j. record { stamp = length (take i log); call = e.call; reply = reply_of (a j) };
  console = λ i. ap (λ (z : Stage). z.here.state.own.files.console) (after_more g more (calls_of (take i log)) (satisfied_front g log i h));
  connections = λ i. ap (λ (z : Stage). map sockets.link_written z.here.state.net.links) (after_more g more (calls_of (take i log)) (satisfied_front g log i h));
}

pub goes_on : (setup : Setup) (arrivals more : List Arrival) (log : List Entry) → Satisfied (first_stage setup arrivals) (calls_of log)
    → GoesOn log (start_of_arrivals setup arrivals) (start_of_arrivals setup (arrivals ++ more))
unfolding start_of_arrivals
goes_on setup arrivals more log h = goes_on_at (first_stage setup arrivals) more log h

-- ---- where nothing comes, in runs that don't have the later calls

taken_none : (o : Option (Arrival → Bool)) → taken_for o [] ≡ 0
taken_none None = refl
taken_none (Some w) = refl

unless_plain : (v : Bool) (s : Standing) → s.polls ≡ false → unless_vain v s ≡ s
unless_plain true s e = ap (λ (b : Bool). if b then with_end s else s) e
unless_plain false s e = refl

-- the answer of the kernel whose calls wait for one thing
pub served_plain : (s : Standing) (c : Request) (u : Until) → s.polls ≡ false
    → serve_by s c u ≡ record { state = with_state s (serve s.state c).state; ret = (serve s.state c).ret; payload = (serve s.state c).payload }
unfolding serve_by later
served_plain s c u e =
    let r = serve s.state c in
    ap (λ (b : Bool). or_own s c (if b && not c.bad then later_as (syscall_of c.nr) s c u else None)) e
    ∙ ap (λ (b : Bool). record { state = if b then noted (with_state s r.state) r.ret (nonblocking_by (syscall_of c.nr) c) else with_state s r.state; ret = r.ret; payload = r.payload }) e

abbrev quiet : Standing → Stage
quiet s = record { here = s; rest = [] }

ready_quiet : (s : Standing) (c : Request) → s.polls ≡ false → ready_for (quiet s) c ≡ s
ready_quiet s c e =
    ap (λ (n : ℕ). unless_vain (in_vain (wait_of s c) []) (arrive_all s (take n []))) (taken_none (wait_of s c)) ∙ unless_plain (in_vain (wait_of s c) []) s e

answer_quiet : (s : Standing) (c : Request) → s.polls ≡ false
    → answer_next (quiet s) c ≡ record { state = with_state s (serve s.state c).state; ret = (serve s.state c).ret; payload = (serve s.state c).payload }
answer_quiet s c e = ap (λ (z : Standing). serve_by z c (until_of s c)) (ready_quiet s c e) ∙ served_plain s c (until_of s c) e

next_quiet : (s : Standing) (c : Request) → s.polls ≡ false → (serve_next (quiet s) c).state ≡ quiet (with_state s (serve s.state c).state)
next_quiet s c e =
    let d : drop (taken_for (wait_of s c) []) [] ≡ [] = ap (λ (n : ℕ). drop {A = Arrival} n []) (taken_none (wait_of s c)) in
    λ i. record { here = (answer_quiet s c e i).state; rest = d i }

after_quiet : (s : Standing) (cs : List Request) → s.polls ≡ false → state_after serve_next (quiet s) cs ≡ quiet (with_state s (state_after serve s.state cs))
after_quiet s [] e = refl
after_quiet s (c ∷ cs) e = ap (λ (z : Stage). state_after serve_next z cs) (next_quiet s c e) ∙ after_quiet (with_state s (serve s.state c).state) cs e

-- with nothing that comes it is the kernel that it was
pub same_start : (setup : Setup) → setup.polls ≡ false → start_of_arrivals setup [] ≡ start_of_script setup
unfolding start_of_arrivals start_of_script
same_start setup e =
    let s = first_standing setup in
    let after = λ (cs : List Request). after_quiet s cs e in
    λ i. record {
      replies = λ cs c. reply_of ((ap (λ (z : Stage). answer_next z c) (after cs) ∙ answer_quiet (with_state s (state_after serve s.state cs)) c e) i);
      console = λ cs. (after cs i).here.state.own.files.console;
      connections = λ cs. map sockets.link_written (after cs i).here.state.net.links;
    }
