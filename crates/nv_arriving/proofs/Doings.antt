-- What is done outside goes on where the log does, what comes later changes nothing of it, and what comes is taken in once, in its order.
use Rattle.std.proofs.Common.{◌≡◌, ◌∙◌, sym, ap, refl, ℕ, false, List, [], ◌∷◌, ◌++◌, take, map, append_assoc, append-nil, take-append-drop}
use Rattle.nv_calls.specs.Answer.{state_after}
use Rattle.nv_calls.specs.Calls.{Request, Entry}
use Rattle.nv_calls.specs.Logs.{calls_of}
use Rattle.nv_script.specs.Scripts.{Setup}
use Rattle.nv_arriving.specs.declared.timing.Until.{Until}
use Rattle.nv_arriving.specs.Timing.{until_of}
use Rattle.nv_script.specs.Arrivals.{Arrival}
use Rattle.nv_arriving.specs.Arrivals.{in_vain}
use Rattle.nv_arriving.specs.Arriving.{Stage, wait_of, taken, ready_for, serve_by, answer_next, serve_next, first_stage, Satisfied}
use Rattle.nv_script.specs.Doings.{Said, Doing, Takes, Says, Hands, takings}
use Rattle.nv_arriving.specs.Doings.{said, doings_of, doings_from, doings}
use Rattle.nv_arriving.proofs.Coming.{take_front, taken_few, taken_more, with_more, ready_more, next_more}

-- ---- a front of the calls

from_front : (g : Stage) (cs ds : List Request) → doings_from g (cs ++ ds) ≡ doings_from g cs ++ doings_from (state_after serve_next g cs) ds
from_front g [] ds = refl
from_front g (c ∷ cs) ds =
    ap (λ (z : List Doing). doings_of g c ++ z) (from_front (serve_next g c).state cs ds)
    ∙ sym (append_assoc (doings_of g c) (doings_from (serve_next g c).state cs) (doings_from (state_after serve_next (serve_next g c).state cs) ds))

calls_front : (front back : List Entry) → calls_of (front ++ back) ≡ calls_of front ++ calls_of back
calls_front [] back = refl
calls_front (e ∷ front) back = ap (λ (z : List Request). e.call ∷ z) (calls_front front back)

pub doings_front : (setup : Setup) (arrivals : List Arrival) (front back : List Entry)
    → doings setup arrivals (front ++ back) ≡ doings setup arrivals front ++ doings_from (state_after serve_next (first_stage setup arrivals) (calls_of front)) (calls_of back)
unfolding doings
doings_front setup arrivals front back =
    ap (doings_from (first_stage setup arrivals)) (calls_front front back) ∙ from_front (first_stage setup arrivals) (calls_of front) (calls_of back)

-- ---- what comes later

of_more : (g : Stage) (more : List Arrival) (c : Request) → in_vain (wait_of g.here c) g.rest ≡ false → doings_of (with_more g more) c ≡ doings_of g c
of_more g more c h =
    let t : take (taken (with_more g more) c) (g.rest ++ more) ≡ take (taken g c) g.rest =
    ap (λ (n : ℕ). take n (g.rest ++ more)) (taken_more (wait_of g.here c) g.rest more h) ∙ take_front (taken g c) g.rest more (taken_few (wait_of g.here c) g.rest) in
    let r = ready_more g more c h in
    let u : Until = until_of g.here c in
    λ i. map Takes (t i) ++ map Says (said (r i).state c (serve_by (r i) c u).ret (serve_by (r i) c u).state.state)

from_more : (g : Stage) (more : List Arrival) (cs : List Request) → Satisfied g cs → doings_from (with_more g more) cs ≡ doings_from g cs
from_more g more [] h = refl
from_more g more (c ∷ cs) h =
    ap (λ (z : Stage). doings_of (with_more g more) c ++ doings_from z cs) (next_more g more c h.0)
    ∙ (ap (λ (z : List Doing). z ++ doings_from (with_more (serve_next g c).state more) cs) (of_more g more c h.0)
    ∙ ap (λ (z : List Doing). doings_of g c ++ z) (from_more (serve_next g c).state more cs h.1))

pub doings_more : (setup : Setup) (arrivals more : List Arrival) (log : List Entry) → Satisfied (first_stage setup arrivals) (calls_of log)
    → doings setup (arrivals ++ more) log ≡ doings setup arrivals log
unfolding doings
doings_more setup arrivals more log h = from_more (first_stage setup arrivals) more (calls_of log) h

-- ---- what is taken in

pub takings_both : (xs ys : List Doing) → takings (xs ++ ys) ≡ takings xs ++ takings ys
takings_both [] ys = refl
takings_both (Takes a ∷ xs) ys = ap (λ (z : List Arrival). a ∷ z) (takings_both xs ys)
takings_both (Says s ∷ xs) ys = takings_both xs ys
takings_both (Hands n ∷ xs) ys = takings_both xs ys

pub takings_all : (xs : List Arrival) → takings (map Takes xs) ≡ xs
takings_all [] = refl
takings_all (a ∷ xs) = ap (λ (z : List Arrival). a ∷ z) (takings_all xs)

pub takings_none : (xs : List Said) → takings (map Says xs) ≡ []
takings_none [] = refl
takings_none (s ∷ xs) = takings_none xs

takings_of : (g : Stage) (c : Request) → takings (doings_of g c) ≡ take (taken g c) g.rest
takings_of g c =
    let front : List Arrival = take (taken g c) g.rest in
    let says : List Said = said (ready_for g c).state c (answer_next g c).ret (answer_next g c).state.state in
    takings_both (map Takes front) (map Says says)
    ∙ ((λ i. takings_all front i ++ takings_none says i) ∙ append-nil front)

takings_from : (g : Stage) (cs : List Request) → takings (doings_from g cs) ++ (state_after serve_next g cs).rest ≡ g.rest
takings_from g [] = refl
takings_from g (c ∷ cs) =
    let later : List Doing = doings_from (serve_next g c).state cs in
    let rest : List Arrival = (state_after serve_next (serve_next g c).state cs).rest in
    ap (λ (z : List Arrival). z ++ rest) (takings_both (doings_of g c) later)
    ∙ (append_assoc (takings (doings_of g c)) (takings later) rest
    ∙ ((λ i. takings_of g c i ++ takings_from (serve_next g c).state cs i)
    ∙ take-append-drop (taken g c) g.rest))

pub doings_taken : (setup : Setup) (arrivals : List Arrival) (log : List Entry)
    → takings (doings setup arrivals log) ++ (state_after serve_next (first_stage setup arrivals) (calls_of log)).rest ≡ arrivals
unfolding doings
doings_taken setup arrivals log = takings_from (first_stage setup arrivals) (calls_of log)
