use Rattle.std.proofs.Common.{◌≡◌, ◌∙◌, ℕ, suc, ◌+◌, ◌-◌, ◌++◌, ◌∷◌, [], List, map, length, drop, Some, None, inr, sym, ap, arith, cond, false, true, ◌==◌, append-nil}
use Rattle.std.specs.Option.{option_or}
use Rattle.std.proofs.lemmas.Result.{err_from_is_err_and}
use Rattle.std.proofs.lemmas.Bool.Decides.{nat_tests}
use Rattle.nv_trace.specs.declared.fault.TraceFault.TheVariants.{Extra}
use Rattle.nv_calls.specs.declared.calls.Event.{Event}
use Rattle.nv_calls.specs.Calls.{Entry, entry}
use Rattle.nv_trace.specs.Held.{size_in, entry_in, entries_in}
use Rattle.nv_trace.specs.Faults.{events_fault}
use Rattle.nv_trace.proofs.reading.read_events.Goals as goal

-- one event more that was read
pushed : (es : List Event) (event : Event) (e : Entry) (rest : List Entry) → entry event ≡ e → map entry es ++ (e ∷ rest) ≡ map entry (es ++ event ∷ []) ++ rest
pushed [] event e rest is = ap (λ x. x ∷ rest) (sym is)
pushed (x ∷ es) event e rest is = ap (λ t. entry x ∷ t) (pushed es event e rest is)

pub loop-place-init : goal.loop-place-init
loop-place-init c = λ left same.
    let all : left ≡ c.args.count = omega arith in
    (ap (λ n. events_fault n 0 c.args.bytes.now) (sym all), ap (λ n. entries_in n 0 c.args.bytes.now) (sym all) ∙ ap (λ (es : List Event). map entry es ++ entries_in left 0 c.args.bytes.now) (sym c.new-events.ensures.items))

pub loop-place-preserved : goal.loop-place-preserved
loop-place-preserved c = λ left same.
    let place = c.loop-place.place in
    let rest = c.loop-place.rest.now in
    let before = c.loop-place.invariant (suc left) (omega arith) in
    let behind : drop (size_in rest) rest ≡ c.after-rest.result.now = ap (λ n. drop n rest) (sym c.in_ok-size.ensures.is) ∙ sym c.after-rest.ensures in (
      before.0 ∙ ap (λ o. option_or o (events_fault left (place + 1) (drop (size_in rest) rest))) c.in_ok-size.ensures.fault
          ∙ ap (events_fault left (place + 1)) behind,
      before.1 ∙ ap (λ t. map entry c.loop-place.events.items ++ (entry_in place rest ∷ entries_in left (place + 1) t)) behind
          ∙ pushed c.loop-place.events.items c.in_ok-read_event.field-0 (entry_in place rest) (entries_in left (place + 1) c.after-rest.result.now) c.in_ok-read_event.ensures
          ∙ ap (λ (es : List Event). map entry es ++ entries_in left (place + 1) c.after-rest.result.now) (sym c.in_ok-push.ensures.items),
    )

pub returns-in_err-size-clause-fault : goal.returns-in_err-size-clause-fault
returns-in_err-size-clause-fault c =
    let p = err_from_is_err_and c.from_residual.result c.from_residual.ensures.1 in
    let left : ℕ = c.args.count - (c.loop-place.place + 1) in
    let before = c.loop-place.invariant (suc left) (omega arith) in
    rw (p.1, p.2) (inr (before.0 ∙ ap (λ o. option_or o (events_fault left (c.loop-place.place + 1) (drop (size_in c.loop-place.rest.now) c.loop-place.rest.now))) c.in_err-size.ensures.fault))

pub returns-then-rest-gt0-clause-fault : goal.returns-then-rest-gt0-clause-fault
returns-then-rest-gt0-clause-fault c =
    let before = c.loop-place.invariant 0 (omega arith) in
    let some : (length c.loop-place.rest.now == 0) ≡ false = grind (arith, nat_tests) in
    inr (before.0 ∙ ap (λ b. cond b None (Some Extra)) some)

pub returns-clause-fault : goal.returns-clause-fault
returns-clause-fault c =
    let before = c.loop-place.invariant 0 (omega arith) in
    let none : (length c.loop-place.rest.now == 0) ≡ true = grind (arith, nat_tests) in
    before.0 ∙ ap (λ b. cond b None (Some Extra)) none

pub returns-clause-events : goal.returns-clause-events
returns-clause-events c =
    let before = c.loop-place.invariant 0 (omega arith) in
    sym (before.1 ∙ append-nil (map entry c.loop-place.events.items))
