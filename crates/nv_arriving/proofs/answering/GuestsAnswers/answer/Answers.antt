use Rattle.std.proofs.Common.{rules, to_z, of_z, w32, ℤ, ◌≡◌, ◌∙◌, sym, ap, subst, refl, false, ℕ, ◌+◌, ◌<◌, ◌≤◌, List, [], ◌∷◌, ◌++◌, length, map, take, drop, option_map, arith}
use Rattle.std.proofs.lemmas.List.{length-take, length-drop}
use Rattle.nv_calls.specs.Answer.{Answer}
use Rattle.nv_calls.specs.Calls.{Request, Entry, request}
use Rattle.nv_calls.specs.Logs.{served}
use Rattle.nv_calls.specs.Numbers.{syscall_of}
use Rattle.nv_kernel.specs.Answering.{IsAnswer}
use Rattle.nv_kernel.specs.Reserved.{CanAnswer}
use Rattle.nv_sockets.specs.Reserved.{CanSend}
use Rattle.nv_script.specs.Scripts.{Setup}
use Rattle.nv_script.specs.declared.arrival.Arrival as code
use Rattle.nv_script.specs.Arrivals.{Arrival}
use Rattle.nv_script.specs.Doings.{Says}
use Rattle.nv_script.specs.ArrivalViews.{view as arrival_of}
use Rattle.nv_arriving.specs.Arrivals.{taken_for, in_vain}
use Rattle.nv_arriving.specs.Arriving.{Stage, wait_of, taken, ready_for, arrive_all, unless_vain, serve_by, answer_next, serve_next, start_of_arrivals, Standing}
use Rattle.nv_arriving.specs.Arrivals.{ends}
use Rattle.nv_arriving.specs.Timing.{until_of}
use Rattle.nv_arriving.specs.Doings.{said}
use Rattle.nv_arriving.specs.declared.waiting.Intake.{Intake}
use Rattle.nv_arriving.specs.Kernel.{Coming, intake_of}
use Rattle.nv_arriving.specs.Reserved.{CanTakeIn}
use Rattle.nv_arriving.specs.Standing.{StandsAt}
use Rattle.nv_arriving.specs.Said.{said_of}
use Rattle.nv_arriving.specs.Telling.{Adds, HasHanded}
use Rattle.nv_arriving.specs.Views.{standing_of, room_of}
use Rattle.nv_arriving.proofs.Kept.{drop_more, intake_inside, first_is}
use Rattle.nv_arriving.proofs.Standings.{few_served, few_clones, hands_served, is_answer}
use Rattle.nv_arriving.proofs.Telling.{says_is}
use Rattle.nv_arriving.proofs.answering.GuestsAnswers.answer.Given.{Over}
use Rattle.nv_arriving.proofs.answering.GuestsAnswers.answer.Goals.{After-pass}
use Rattle.nv_arriving.proofs.answering.GuestsAnswers.answer.Goals as goal

pub first-requires : goal.first-requires
first-requires g c =
    let call : Request = request c.args.call.now in
    let found : c.self.inside.intake ≡ intake_of record { here = standing_of c.self.inside.side; rest = drop c.self.inside.used (map arrival_of c.self.inside.came.items) } call
    = subst (λ (k : Coming g.row.O.Denot). k.intake ≡ intake_of k.stage call) (sym c.self.view_is) c.requires.ready.found in
    let inside = intake_inside (standing_of c.self.inside.side) call c.self.inside.came.items c.self.inside.used c.self.inside.intake c.self.invariant.0 found in
    omega (arith, inside, ap length c.rest-rest.ensures.is, length-drop c.self.inside.used c.self.inside.came.items)

pub take_in-requires : goal.take_in-requires
take_in-requires g c =
    let call : Request = request c.args.call.now in
    let found : c.self.inside.intake ≡ intake_of record { here = standing_of c.self.inside.side; rest = drop c.self.inside.used (map arrival_of c.self.inside.came.items) } call
    = subst (λ (k : Coming g.row.O.Denot). k.intake ≡ intake_of k.stage call) (sym c.self.view_is) c.requires.ready.found in
    let first = first_is (standing_of c.self.inside.side) call c.self.inside.came.items c.rest-rest.result.now c.first.result.now c.self.inside.used c.self.inside.intake c.rest-rest.ensures.is found c.first.ensures in
    subst (CanTakeIn (room_of c.self.inside.side)) (sym first)
    (subst (λ (k : Coming g.row.O.Denot). CanTakeIn k.room (take (taken k.stage call) k.stage.rest)) (sym c.self.view_is) c.requires.ready.takes)

-- the guests' side as the answer finds it
pub answer_by-outcome-requires-clause-ready : goal.answer_by-outcome-requires-clause-ready
answer_by-outcome-requires-clause-ready g c =
    c.take_in.ensures.ready (request c.args.call.now)
    (subst (λ (k : Coming g.row.O.Denot). CanAnswer k.room.disk (request c.args.call.now)) (sym c.self.view_is) c.requires.ready.answer)

pub answer_by-outcome-requires-clause-sends : goal.answer_by-outcome-requires-clause-sends
answer_by-outcome-requires-clause-sends g c =
    let call : Request = request c.args.call.now in
    let left : List Arrival = drop c.self.inside.used (map arrival_of c.self.inside.came.items) in
    let found : c.self.inside.intake ≡ intake_of record { here = standing_of c.self.inside.side; rest = left } call
    = subst (λ (k : Coming g.row.O.Denot). k.intake ≡ intake_of k.stage call) (sym c.self.view_is) c.requires.ready.found in
    c.take_in.ensures.sends call
    (λ e. let none = ap (λ o. taken_for (option_map (ends (standing_of c.self.inside.side) call) o) left) e in
    omega (arith, ap length c.first.ensures, length-take c.self.inside.intake.count c.rest-rest.result.now, ap (λ (z : Intake). z.count) found, none))
    (subst (λ (k : Coming g.row.O.Denot). CanSend k.room.buffered call) (sym c.self.view_is) c.requires.ready.sends)

pub answer_by-outcome-requires-clause-few : goal.answer_by-outcome-requires-clause-few
answer_by-outcome-requires-clause-few g c =
    let few = subst (λ (k : Coming g.row.O.Denot). k.stage.here.state.own.served < 500000000) (sym c.self.view_is) (few_served g.O.Outside.did g.O.Outside.is_over c.args.self.now (request c.args.call.now) c.requires.comes) in
    omega (arith, c.take_in.ensures.served, few)

pub answer_by-outcome-requires-clause-clones : goal.answer_by-outcome-requires-clause-clones
answer_by-outcome-requires-clause-clones g c =
    let few = subst (λ (k : Coming g.row.O.Denot). k.stage.here.state.own.crew.clones < 500000000) (sym c.self.view_is) (few_clones g.O.Outside.did g.O.Outside.is_over c.args.self.now (request c.args.call.now) c.requires.comes) in
    omega (arith, c.take_in.ensures.clones, few)

module _ (g : Over) (c : After-pass g) where
  abbrev call : Request
  call = request c.args.call.now

  abbrev came : List Arrival
  came = map arrival_of c.self.inside.came.items

  abbrev mine : Stage
  mine = record { here = standing_of c.self.inside.side; rest = drop c.self.inside.used came }

  -- as it was, and as the call leaves it
  abbrev was : Coming g.row.O.Denot
  was = record { stage = mine; begun = c.self.inside.begun.value; outside = c.self.inside.outside; came = came; intake = c.self.inside.intake; over = c.self.inside.over; keeps = c.self.inside.keeps; room = room_of c.self.inside.side }

  found : c.self.inside.intake ≡ intake_of mine call
  found = subst (λ (k : Coming g.row.O.Denot). k.intake ≡ intake_of k.stage call) (sym c.self.view_is) c.requires.ready.found

  abbrev now_where : List code.Arrival → Coming g.row.O.Denot
  now_where came' = record {
    stage = record { here = standing_of c.let_go_unless.new.self; rest = drop (c.self.inside.used + c.self.inside.intake.count) (map arrival_of came') };
    begun = c.self.inside.begun.value;
    outside = c.say.new.outside;
    came = map arrival_of came';
    intake = c.self.inside.intake;
    over = c.self.inside.over;
    keeps = c.self.inside.keeps;
    room = room_of c.let_go_unless.new.self;
  }

  abbrev now : Coming g.row.O.Denot
  now = now_where c.self.inside.came.items

  abbrev left : Answer Standing
  left = record { state = standing_of c.let_go_unless.new.self; ret = c.answer_by-outcome.result.ret; payload = c.answer_by-outcome.new.out.bytes }

  count : c.self.inside.intake.count ≡ taken mine call
  count = ap (λ (z : Intake). z.count) found

  first : map arrival_of c.first.result.now ≡ take (taken mine call) mine.rest
  first = first_is mine.here call c.self.inside.came.items c.rest-rest.result.now c.first.result.now c.self.inside.used c.self.inside.intake c.rest-rest.ensures.is found c.first.ensures

  vain : c.self.inside.intake.vain ≡ in_vain (wait_of mine.here call) mine.rest
  vain = ap (λ (z : Intake). z.vain) found

  ready : unless_vain c.self.inside.intake.vain (arrive_all mine.here (map arrival_of c.first.result.now)) ≡ ready_for mine call
  ready = λ i. unless_vain (vain i) (arrive_all mine.here (first i))

  here : standing_of c.take_in.new.self ≡ ready_for mine call
  here = c.take_in.ensures.standing ∙ ready

  until : c.self.inside.intake.until ≡ until_of mine.here call
  until = ap (λ (z : Intake). z.until) found

  answer : answer_next mine call ≡ left
  answer = (λ i. serve_by (sym here i) call (sym until i)) ∙ c.answer_by-outcome.ensures.answer
      ∙ (λ i. record { state = sym c.let_go_unless.ensures.standing i; ret = c.answer_by-outcome.result.ret; payload = c.answer_by-outcome.new.out.bytes })

  next : now.stage ≡ (serve_next mine call).state
  next =
      let s : standing_of c.let_go_unless.new.self ≡ (answer_next mine call).state = ap (λ (r : Answer Standing). r.state) (sym answer) in
      let r : drop (c.self.inside.used + c.self.inside.intake.count) came ≡ drop (taken mine call) mine.rest
      = drop_more c.self.inside.used c.self.inside.intake.count came ∙ ap (λ n. drop n mine.rest) count in
      λ j. record { here = s j; rest = r j }

  says : Adds g.O.Outside.did was.outside now.outside (map Says (said (ready_for mine call).state call c.answer_by-outcome.result.ret now.stage.here.state))
  says = says_is g.O.Outside.did _ _ _ _
      (ap (said_of c.answer_by-outcome.result.did) c.as_slice.ensures.bytes ∙ sym c.answer_by-outcome.ensures.said
      ∙ (λ i. said (here i).state call c.answer_by-outcome.result.ret (sym c.let_go_unless.ensures.standing i).state))
      c.say.ensures.says

  waits : was.over ≡ false → in_vain (wait_of mine.here call) mine.rest ≡ false
  waits = subst (λ (k : Coming g.row.O.Denot). k.over ≡ false → in_vain (wait_of k.stage.here call) k.stage.rest ≡ false) (sym c.self.view_is) c.requires.ready.waits

  is : IsAnswer (λ setup. start_of_arrivals setup came) (StandsAt g.O.Outside.did g.O.Outside.is_over was) (StandsAt g.O.Outside.did g.O.Outside.is_over now) call c.answer_by-outcome.result.ret c.answer_by-outcome.new.out.bytes
  is = is_answer g.O.Outside.did g.O.Outside.is_over was now call c.answer_by-outcome.result.ret c.answer_by-outcome.new.out.bytes c.requires.shaped refl refl refl answer next waits says c.say.ensures.stays

  handed : (setup : Setup) (log : List Entry) (lengths : List ℕ) → StandsAt g.O.Outside.did g.O.Outside.is_over was setup log → HasHanded g.O.Outside.did was.begun was.outside setup came log lengths
      → HasHanded g.O.Outside.did was.begun now.outside setup (map arrival_of c.pass.new.came.items) (log ++ served (start_of_arrivals setup came) log call ∷ []) lengths
  handed setup log lengths s h = subst (λ (z : List code.Arrival). HasHanded g.O.Outside.did was.begun now.outside setup (map arrival_of z) (log ++ served (start_of_arrivals setup came) log call ∷ []) lengths) (sym c.pass.ensures.items)
      (hands_served g.O.Outside.did g.O.Outside.is_over was now call c.answer_by-outcome.result.ret c.answer_by-outcome.new.out.bytes c.requires.shaped refl refl refl answer next waits says c.say.ensures.stays setup log s lengths h)

  inside : c.self.inside.used + c.self.inside.intake.count ≤ length c.self.inside.came.items
  inside = intake_inside mine.here call c.self.inside.came.items c.self.inside.used c.self.inside.intake c.self.invariant.0 found

  -- the same, whatever is let go
  kept : IsAnswer (λ setup. start_of_arrivals setup came) (StandsAt g.O.Outside.did g.O.Outside.is_over was) (StandsAt g.O.Outside.did g.O.Outside.is_over (now_where c.pass.new.came.items)) call c.answer_by-outcome.result.ret c.answer_by-outcome.new.out.bytes
  kept = subst (λ (z : List code.Arrival). IsAnswer (λ setup. start_of_arrivals setup came) (StandsAt g.O.Outside.did g.O.Outside.is_over was) (StandsAt g.O.Outside.did g.O.Outside.is_over (now_where z)) call c.answer_by-outcome.result.ret c.answer_by-outcome.new.out.bytes)
      (sym c.pass.ensures.items) is

pub returns-clause-answer : goal.returns-clause-answer
returns-clause-answer g c =
    let back : to_z w32 (of_z w32 c.answer_by-outcome.result.ret) ≡ c.answer_by-outcome.result.ret = search rules in
    let here = (goal.at.returns-clause-answer g c).After-pass in
    subst (λ (r : ℤ). IsAnswer (λ setup. start_of_arrivals setup c.args.self.now.came) (StandsAt g.O.Outside.did g.O.Outside.is_over c.args.self.now) (StandsAt g.O.Outside.did g.O.Outside.is_over (now_where g here c.pass.new.came.items)) (call g here) r c.answer_by-outcome.new.out.bytes) (sym back)
    (subst (λ (k : Coming g.row.O.Denot). IsAnswer (λ setup. start_of_arrivals setup k.came) (StandsAt g.O.Outside.did g.O.Outside.is_over k) (StandsAt g.O.Outside.did g.O.Outside.is_over (now_where g here c.pass.new.came.items)) (call g here) c.answer_by-outcome.result.ret c.answer_by-outcome.new.out.bytes)
    c.self.view_is (kept g here))

pub returns-clause-handed : goal.returns-clause-handed
returns-clause-handed g c = λ setup log lengths.
    let here = (goal.at.returns-clause-handed g c).After-pass in
    subst (λ (k : Coming g.row.O.Denot). StandsAt g.O.Outside.did g.O.Outside.is_over k setup log → HasHanded g.O.Outside.did k.begun k.outside setup k.came log lengths
    → HasHanded g.O.Outside.did c.self.inside.begun.value c.say.new.outside setup (map arrival_of c.pass.new.came.items) (log ++ served (start_of_arrivals setup k.came) log (call g here) ∷ []) lengths)
    c.self.view_is (handed g here setup log lengths)

pub returns-clause-known : goal.returns-clause-known
returns-clause-known g c = λ setup. ap (λ (z : List code.Arrival). start_of_arrivals setup (map arrival_of z)) c.pass.ensures.items ∙ ap (λ (k : Coming g.row.O.Denot). start_of_arrivals setup k.came) c.self.view_is

pub returns-clause-came : goal.returns-clause-came
returns-clause-came g c = ap (map arrival_of) c.pass.ensures.items ∙ ap (λ (k : Coming g.row.O.Denot). k.came) c.self.view_is

pub overflow_add-self : goal.overflow_add-self
overflow_add-self g c =
    let call : Request = request c.args.call.now in
    let found : c.self.inside.intake ≡ intake_of record { here = standing_of c.self.inside.side; rest = drop c.self.inside.used (map arrival_of c.self.inside.came.items) } call
    = subst (λ (k : Coming g.row.O.Denot). k.intake ≡ intake_of k.stage call) (sym c.self.view_is) c.requires.ready.found in
    let inside = intake_inside (standing_of c.self.inside.side) call c.self.inside.came.items c.self.inside.used c.self.inside.intake c.self.invariant.0 found in
    omega (arith, inside, c.rest-rest.ensures.counted)

pub invariant_of-self : goal.invariant_of-self
invariant_of-self g c = (
  subst (λ (z : List code.Arrival). c.self.inside.used + c.self.inside.intake.count ≤ length z) (sym c.pass.ensures.items) (inside g (goal.at.invariant_of-self g c).After-pass),
  c.pass.ensures.gone,
)

pub answer_by-outcome-requires-clause-syscall : goal.answer_by-outcome-requires-clause-syscall
answer_by-outcome-requires-clause-syscall g c =
    subst (λ (k : Coming g.row.O.Denot). k.intake.syscall ≡ syscall_of c.args.call.now.nr) (sym c.self.view_is) (ap (λ (z : Intake). z.syscall) c.requires.ready.found)
