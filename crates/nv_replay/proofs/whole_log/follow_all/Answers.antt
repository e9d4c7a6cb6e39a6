use Rattle.std.proofs.Common.{◌∙◌, sym, ap, subst, ◌<◌, ℕ, List, map, length, option_map}
use Rattle.std.specs.Prelude.{Contains}
use Rattle.nv_calls.specs.Calls.{entry}
use Rattle.nv_calls.specs.Logs.{IsNew, child_of}
use Rattle.nv_threads.specs.Threads.{threads, Proc}
use Rattle.nv_threads.proofs.ThreadLaws.{thread_laws}
use Rattle.nv_replay.specs.Follow.{decided, judge_of}
use Rattle.nv_replay.specs.Version.{Running}
use Rattle.nv_replay.proofs.Falling.{decided_falls, within}
use Rattle.nv_replay.proofs.Wholes.{goes_here, goes_on, whole, length_map}
use Rattle.nv_replay.proofs.whole_log.follow_all.Goals as goal

pub loop-event-init : goal.loop-event-init
loop-event-init c = goes_here threads thread_laws _ _ _ c.requires.in_step

pub follow-told-requires-clause-stamp : goal.follow-told-requires-clause-stamp
follow-told-requires-clause-stamp c = (c.requires.lawful _ _ c.in-Some.ensures.next.at).stamp

pub follow-told-requires-clause-below : goal.follow-told-requires-clause-below
follow-told-requires-clause-below c = (c.requires.lawful _ _ c.in-Some.ensures.next.at).few

pub follow-told-requires-clause-lives : goal.follow-told-requires-clause-lives
follow-told-requires-clause-lives c =
    let next = c.in-Some.ensures.next in
    subst (λ (x : List ℕ). Contains x c.in-Some.event.now.call.tid) (sym (c.loop-event.invariant.in_step.live next.on))
    (c.requires.lawful _ _ next.at).lives

pub follow-told-requires-clause-new : goal.follow-told-requires-clause-new
follow-told-requires-clause-new c =
    let next = c.in-Some.ensures.next in
    subst (λ (x : List ℕ). IsNew x (child_of (entry c.in-Some.event.now))) (sym (c.loop-event.invariant.in_step.live next.on))
    (c.requires.lawful _ _ next.at).new

pub loop-event-smaller : goal.loop-event-smaller
loop-event-smaller c =
    let next = c.in-Some.ensures.next in
    let below : c.loop-event.version.at.seen < length c.args.log.now = rw (← length_map c.args.log.now)
    (within (map entry c.args.log.now) _ _ next.at) in
    rw (c.follow-told.ensures.new) (decided_falls threads thread_laws (judge_of (option_map (λ f. f.now) c.args.rules) c.loop-event.version.index)
    (length c.args.log.now) (entry c.in-Some.event.now) c.loop-event.version.at below next.on)

pub loop-event-preserved : goal.loop-event-preserved
loop-event-preserved c =
    let next = c.in-Some.ensures.next in
    let decides : ℕ → Running Proc = λ i. record c.loop-event.version
    { at = decided threads (judge_of (option_map (λ f. f.now) c.args.rules) i) (entry c.in-Some.event.now) c.loop-event.version.at } in
    goes_on threads thread_laws (judge_of (option_map (λ f. f.now) c.args.rules) c.args.version.now.index) _ c.args.version.now
    c.loop-event.version c.follow-told.new.self (entry c.in-Some.event.now) c.requires.lawful next.at next.on c.loop-event.invariant
    (c.follow-told.ensures.new ∙ ap decides (ap (λ (r : Running Proc). r.index) c.loop-event.invariant.rest))

pub returns-clause-new : goal.returns-clause-new
returns-clause-new c = whole threads thread_laws _ _ c.args.version.now c.loop-event.version c.loop-event.invariant c.in_default.ensures.rests
