use Rattle.std.proofs.Common.{◌≡◌, ◌∙◌, ◌≤◌, ap, sym, false, not, List, length, map, drop, arith, length-drop}
use Rattle.std.proofs.lemmas.List.{length-map}
use Rattle.nv_script.specs.Arrivals.{Arrival}
use Rattle.nv_calls.specs.Calls.{Request, request}
use Rattle.nv_arriving.specs.declared.waiting.Intake.{Intake}
use Rattle.nv_arriving.specs.Arrivals.{ends, any_ends, until}
use Rattle.nv_arriving.specs.Arriving.{Standing}
use Rattle.nv_arriving.specs.Kernel.{intake_of}
use Rattle.nv_arriving.specs.Views.{standing_of}
use Rattle.nv_script.specs.ArrivalViews.{view as arrival_of}
use Rattle.nv_arriving.proofs.Kept.{intake_is, intake_inside}
use Rattle.nv_arriving.proofs.Steps.{drop_map}
use Rattle.nv_arriving.proofs.Taken.{heard_any, heard_until, not_back, is_back, twice_not}
use Rattle.nv_arriving.proofs.arrivals.learn.Given.{Over}
use Rattle.nv_arriving.proofs.arrivals.learn.Goals.{After-intake-found, then-over-via-then-over, then-over-via-else-over+then-not-found}
use Rattle.nv_arriving.proofs.arrivals.learn.Goals as goal

-- by what had come before
module _ (g : Over) (c : After-intake-found g) where
  abbrev here : Standing
  here = standing_of c.args.side.now

  abbrev call : Request
  call = request c.args.call.now

  abbrev left : List Arrival
  left = drop c.args.used (map arrival_of c.args.came.now.items)

  left_is : map arrival_of c.rest.result.now ≡ left
  left_is = ap (map arrival_of) c.rest.ensures.is ∙ drop_map c.args.came.now.items c.args.used

  vain : c.intake-found.result.vain ≡ not (any_ends (ends here call c.in-Some.want) left)
  vain = c.intake-found.ensures.vain ∙ ap (λ z. not (any_ends (ends here call c.in-Some.want) z)) left_is

  found : c.intake-found.result ≡ intake_of record { here = here; rest = left } call
  found = intake_is here call c.in-Some.want left c.intake-found.result.syscall c.intake-found.result.until c.intake-found.result.count c.intake-found.result.vain
      (c.intake-found.ensures.syscall ∙ c.requires.syscall) (c.intake-found.ensures.until ∙ c.requires.until) (sym c.wants.ensures ∙ c.in-Some.is)
      (c.intake-found.ensures.count ∙ ap (until (ends here call c.in-Some.want)) left_is) vain

pub returns-then-over-clause-intake : goal.returns-then-over-clause-intake
returns-then-over-clause-intake g c = found g (goal.at.returns-then-over-clause-intake g c).After-intake-found

pub returns-then-over-clause-inside : goal.returns-then-over-clause-inside
returns-then-over-clause-inside g c =
    intake_inside (standing_of c.args.side.now) (request c.args.call.now) c.args.came.now.items c.args.used c.intake-found.result c.requires.inside
    (found g (goal.at.returns-then-over-clause-inside g c).After-intake-found)

pub returns-then-over-clause-waits : goal.returns-then-over-clause-waits
returns-then-over-clause-waits g c = λ h.
    let is = ap (λ (z : Intake). z.vain) (found g (goal.at.returns-then-over-clause-waits g c).After-intake-found) in
    elim c.then-over.branch [
      | then-over-via-then-over w ↦ (let z = sym w.if-over.true ∙ h in cc)
      | then-over-via-else-over+then-not-found w ↦ sym is ∙ not_back c.intake-found.result.vain w.if-not-found.true
    ]

-- nothing that had come ends the wait
pub returns-in_err-over-clause-asks : goal.returns-in_err-over-clause-asks
returns-in_err-over-clause-asks g c = λ h.
    let is = ap (λ (z : Intake). z.vain) (found g (goal.at.returns-in_err-over-clause-asks g c).After-intake-found) in
    let vain = is_back c.intake-found.result.vain c.if-not-found.false in
    absurd (let e = sym vain ∙ (is ∙ h) in cc)

pub returns-clause-asks : goal.returns-clause-asks
returns-clause-asks g c = λ h.
    let is = ap (λ (z : Intake). z.vain) (found g (goal.at.returns-clause-asks g c).After-intake-found) in
    let vain = is_back c.intake-found.result.vain c.if-not-found.false in
    absurd (let e = sym vain ∙ (is ∙ h) in cc)

pub returns-clause-intake : goal.returns-clause-intake
returns-clause-intake g c =
    let at = (goal.at.returns-clause-intake g c).After-intake-found in
    let before : List Arrival = map arrival_of c.args.came.now.items in
    let now : List Arrival = map arrival_of c.hear.new.came.items in
    let few : c.args.used ≤ length before = omega (arith, c.requires.inside, length-map c.args.came.now.items arrival_of) in
    let none : any_ends (ends (here g at) (call g at) c.in-Some.want) (left g at) ≡ false = not_back _ (sym (vain g at) ∙ is_back c.intake-found.result.vain c.if-not-found.false) in
    let all = heard_until (ends (here g at) (call g at) c.in-Some.want) c.args.used before now few c.hear.ensures.grew none c.hear.ensures.until in
    let any = heard_any (ends (here g at) (call g at) c.in-Some.want) c.args.used before now few c.hear.ensures.grew none in
    intake_is (here g at) (call g at) c.in-Some.want (drop c.args.used now) _ _ _ _ c.requires.syscall c.requires.until (sym c.wants.ensures ∙ c.in-Some.is)
    (omega (arith, all, length-drop c.args.used now, length-map c.hear.new.came.items arrival_of))
    (twice_not _ _ (any ∙ c.in_ok-over.ensures.ended))
