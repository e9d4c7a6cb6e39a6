-- A kernel whose input arrives keeps what always holds, where more comes and where a call is served.
use Rattle.std.proofs.Common.{◌≡◌, ◌∙◌, sym, ap, subst, refl, ℕ, zero, suc, ◌+◌, ◌≤◌, Bool, true, false, not, Some, option_map, List, [], ◌∷◌, ◌++◌, length, take, drop, map, arith, length-drop}
use Rattle.std.proofs.lemmas.List.{length-map}
use Rattle.nv_calls.specs.Answer.{state_after}
use Rattle.nv_calls.specs.Calls.{Request, Entry}
use Rattle.nv_calls.specs.Logs.{calls_of, call_of}
use Rattle.nv_script.specs.Scripts.{Setup}
use Rattle.nv_calls.specs.Learning.{GoesOn}
use Rattle.nv_calls.proofs.LearningLaws.{goes_on_same}
use Rattle.nv_kernel.specs.Crew.{Crew}
use Rattle.nv_kernel.proofs.Keeping.{map_more}
use Rattle.nv_sockets.specs.Serving.{State}
use Rattle.nv_script.specs.declared.arrival.Arrival as code
use Rattle.nv_script.specs.Arrivals.{Arrival}
use Rattle.nv_arriving.specs.declared.waiting.Intake.{Intake}
use Rattle.nv_arriving.specs.declared.waiting.Want.{Want}
use Rattle.nv_arriving.specs.Arrivals.{ends, any_ends, until, taken_for, in_vain}
use Rattle.nv_arriving.specs.Arriving.{Standing, Stage, wants, wait_of, arrive_all, taken, ready_for, serve_next, first_stage, Satisfied, start_of_arrivals}
use Rattle.nv_arriving.specs.Kernel.{after, intake_of, Grew}
use Rattle.nv_arriving.proofs.Coming.{drop_front, taken_few, with_more, after_more, satisfied_last, satisfied_more, goes_on}
use Rattle.nv_script.specs.ArrivalViews.{view as arrival_of}
use Rattle.nv_arriving.proofs.Steps.{drop_map, take_map}
use Rattle.nv_arriving.proofs.Taken.{not_is}
use Rattle.nv_arriving.specs.Timing.{until_of}
use Rattle.nv_arriving.specs.declared.timing.Until.{Until}
use Rattle.nv_calls.specs.declared.numbers.Syscall.{Syscall}
use Rattle.nv_calls.specs.Numbers.{syscall_of}
use Rattle.nv_arriving.proofs.LaterLaws.{vain_state, by_served, by_clones}
use Rattle.nv_arriving.proofs.Sides.{crew_still, served_still}

-- ---- where more comes

module _ (setup : Setup) (before now : List Arrival) (log : List Entry) where
  goes_by : (over : Bool) → (over ≡ false → Satisfied (first_stage setup before) (calls_of log)) → (over ≡ true → now ≡ before) → Grew before now
      → GoesOn log (start_of_arrivals setup before) (start_of_arrivals setup now)
  goes_by true h same g = goes_on_same log (start_of_arrivals setup before) (start_of_arrivals setup now) (ap (start_of_arrivals setup) (same refl))
  goes_by false h same g = subst (λ z. GoesOn log (start_of_arrivals setup before) (start_of_arrivals setup z)) (sym g) (goes_on setup before (after before now) log (h refl))

  stage_by : (s : Standing) (used : ℕ) (over : Bool) → used ≤ length before → record { here = s; rest = drop used before } ≡ state_after serve_next (first_stage setup before) (calls_of log)
      → (over ≡ false → Satisfied (first_stage setup before) (calls_of log)) → (over ≡ true → now ≡ before) → Grew before now
      → record { here = s; rest = drop used now } ≡ state_after serve_next (first_stage setup now) (calls_of log)
  stage_by s used true few is h same g = subst (λ z. record { here = s; rest = drop used z } ≡ state_after serve_next (first_stage setup z) (calls_of log)) (sym (same refl)) is
  stage_by s used false few is h same g =
      let more : List Arrival = after before now in
      ap (λ z. record { here = s; rest = drop used z }) g
      ∙ (ap (λ z. record { here = s; rest = z }) (drop_front used before more few)
      ∙ (ap (λ (z : Stage). with_more z more) is
      ∙ (sym (after_more (first_stage setup before) more (calls_of log) (h refl))
      ∙ ap (λ z. state_after serve_next (first_stage setup z) (calls_of log)) (sym g))))

  satisfied_by : (over over' : Bool) → (over ≡ false → Satisfied (first_stage setup before) (calls_of log)) → (over' ≡ false → over ≡ false) → Grew before now
      → over' ≡ false → Satisfied (first_stage setup now) (calls_of log)
  satisfied_by over over' h was g e =
      subst (λ z. Satisfied (first_stage setup z) (calls_of log)) (sym g) (satisfied_more (first_stage setup before) (after before now) (calls_of log) (h (was e)))

pub goes : (setup : Setup) (before now : List Arrival) (log : List Entry) (over : Bool) → (over ≡ false → Satisfied (first_stage setup before) (calls_of log)) → (over ≡ true → now ≡ before) → Grew before now
    → GoesOn log (start_of_arrivals setup before) (start_of_arrivals setup now)
goes setup before now log = goes_by setup before now log

pub staged : (setup : Setup) (before now : List Arrival) (log log' : List Entry) (s : Standing) (used : ℕ) (over : Bool) → log' ≡ log → used ≤ length before
    → record { here = s; rest = drop used before } ≡ state_after serve_next (first_stage setup before) (calls_of log)
    → (over ≡ false → Satisfied (first_stage setup before) (calls_of log)) → (over ≡ true → now ≡ before) → Grew before now
    → record { here = s; rest = drop used now } ≡ state_after serve_next (first_stage setup now) (calls_of log')
staged setup before now log log' s used over e few is h same g = stage_by setup before now log s used over few is h same g ∙ ap (λ z. state_after serve_next (first_stage setup now) (calls_of z)) (sym e)

pub satisfied : (setup : Setup) (before now : List Arrival) (log log' : List Entry) (over over' : Bool) → log' ≡ log → (over ≡ false → Satisfied (first_stage setup before) (calls_of log)) → (over' ≡ false → over ≡ false) → Grew before now
    → over' ≡ false → Satisfied (first_stage setup now) (calls_of log')
satisfied setup before now log log' over over' e h was g o = subst (λ z. Satisfied (first_stage setup now) (calls_of z)) (sym e) (satisfied_by setup before now log over over' h was g o)

-- ---- where a call is served

pub served_more : (g : Stage) (c : Request) → (serve_next g c).state.here.state.own.served ≡ g.here.state.own.served + 1
served_more g c =
    let front : List Arrival = take (taken g c) g.rest in
    let still = ap (λ (z : State). z.own.served) (vain_state (in_vain (wait_of g.here c) g.rest) (arrive_all g.here front)) in
    omega (arith, by_served (ready_for g c) c (until_of g.here c), still, served_still g.here front)

pub clones_more : (g : Stage) (c : Request) → (serve_next g c).state.here.state.own.crew.clones ≤ g.here.state.own.crew.clones + 1
clones_more g c =
    let front : List Arrival = take (taken g c) g.rest in
    let still = ap (λ (z : State). z.own.crew.clones) (vain_state (in_vain (wait_of g.here c) g.rest) (arrive_all g.here front)) in
    omega (arith, by_clones (ready_for g c) c (until_of g.here c), still, ap (λ (z : Crew). z.clones) (crew_still g.here front))

pub served_after : (g : Stage) (cs : List Request) → (state_after serve_next g cs).here.state.own.served ≡ g.here.state.own.served + length cs
served_after g [] = omega arith
served_after g (c ∷ cs) = omega (arith, served_after (serve_next g c).state cs, served_more g c)

pub clones_after : (g : Stage) (cs : List Request) → (state_after serve_next g cs).here.state.own.crew.clones ≤ g.here.state.own.crew.clones + length cs
clones_after g [] = omega arith
clones_after g (c ∷ cs) = omega (arith, clones_after (serve_next g c).state cs, clones_more g c)

pub log_served : (setup : Setup) (came : List Arrival) (log : List Entry) → (state_after serve_next (first_stage setup came) (calls_of log)).here.state.own.served ≡ length log
log_served setup came log = omega (arith, served_after (first_stage setup came) (calls_of log), length-map log call_of)

pub log_clones : (setup : Setup) (came : List Arrival) (log : List Entry) → (state_after serve_next (first_stage setup came) (calls_of log)).here.state.own.crew.clones ≤ length log
log_clones setup came log = omega (arith, clones_after (first_stage setup came) (calls_of log), length-map log call_of)

-- one more call had what it waits for
pub satisfied_served : (g : Stage) (log : List Entry) (e : Entry) (over : Bool) → (over ≡ false → Satisfied g (calls_of log))
    → (over ≡ false → in_vain (wait_of (state_after serve_next g (calls_of log)).here e.call) (state_after serve_next g (calls_of log)).rest ≡ false) → over ≡ false → Satisfied g (calls_of (log ++ e ∷ []))
satisfied_served g log e over h k o = subst (Satisfied g) (sym (map_more call_of log e)) (satisfied_last g (calls_of log) e.call (h o) (k o))

plus_suc : (m n : ℕ) → suc m + n ≡ suc (m + n)
plus_suc m n = omega arith

zero_plus : (n : ℕ) → 0 + n ≡ n
zero_plus n = omega arith

drop_empty : {A : Type 0} (n : ℕ) → drop {A = A} n [] ≡ []
drop_empty zero = refl
drop_empty (suc n) = refl

pub drop_more : {A : Type 0} (m n : ℕ) (xs : List A) → drop (m + n) xs ≡ drop n (drop m xs)
drop_more zero n xs = ap (λ k. drop k xs) (zero_plus n)
drop_more (suc m) n [] = ap (λ k. drop k []) (plus_suc m n) ∙ sym (drop_empty n)
drop_more (suc m) n (x ∷ xs) = ap (λ k. drop k (x ∷ xs)) (plus_suc m n) ∙ drop_more m n xs

pub taken_inside : (g : Stage) (c : Request) (used : ℕ) (came : List Arrival) → used ≤ length came → g.rest ≡ drop used came → used + taken g c ≤ length came
taken_inside g c used came h e = omega (arith, h, taken_few (wait_of g.here c) g.rest, ap (λ z. length z) e, length-drop used came)

-- ---- which of those that came the call takes in

-- by what the call waits for
pub intake_is : (s : Standing) (c : Request) (want : Want) (xs : List Arrival) (syscall : Syscall) (u : Until) (count : ℕ) (vain : Bool)
    → syscall ≡ syscall_of c.nr → u ≡ until_of s c → wants s c ≡ Some want → count ≡ until (ends s c want) xs → vain ≡ not (any_ends (ends s c want) xs)
    → record { syscall = syscall; until = u; count = count; vain = vain } ≡ intake_of record { here = s; rest = xs } c
intake_is s c want xs syscall u count vain k t e n v =
    let o : Some (ends s c want) ≡ wait_of s c = ap (option_map (ends s c)) (sym e) in
    let taken_is : count ≡ taken_for (wait_of s c) xs = n ∙ ap (λ z. taken_for z xs) o in
    let vain_is : vain ≡ in_vain (wait_of s c) xs = v ∙ (not_is (any_ends (ends s c want) xs) ∙ ap (λ z. in_vain z xs) o) in
    λ i. record { syscall = k i; until = t i; count = taken_is i; vain = vain_is i }

-- no more than came
pub intake_inside : (s : Standing) (c : Request) (came : List code.Arrival) (used : ℕ) (found : Intake) → used ≤ length came
    → found ≡ intake_of record { here = s; rest = drop used (map arrival_of came) } c → used + found.count ≤ length came
intake_inside s c came used found few e =
    let all = taken_inside record { here = s; rest = drop used (map arrival_of came) } c used (map arrival_of came)
    (omega (arith, few, length-map came arrival_of)) refl in
    omega (arith, all, ap (λ (z : Intake). z.count) e, length-map came arrival_of)

pub first_is : (s : Standing) (c : Request) (came rest first : List code.Arrival) (used : ℕ) (found : Intake) → rest ≡ drop used came
    → found ≡ intake_of record { here = s; rest = drop used (map arrival_of came) } c → first ≡ take found.count rest
    → map arrival_of first ≡ take (taken record { here = s; rest = drop used (map arrival_of came) } c) (drop used (map arrival_of came))
first_is s c came rest first used found r e f =
    ap (map arrival_of) f ∙ (take_map rest found.count ∙ (λ i. take (e i).count ((ap (map arrival_of) r ∙ drop_map came used) i)))
